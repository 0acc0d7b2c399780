-- What a member keeps as it gains parts: by an answer, a publication, a fetch or a settle.
use Rattle.std.proofs.Common.{◌≡◌, ◌⊎◌, inl, inr, ℕ, suc, zero, ◌+◌, ◌-◌, ◌≤◌, ◌<◌, Bool, true, false, cond, List, []}
use Rattle.std.proofs.Common.{◌∷◌, length, get_or, set, refl, sym, ap, ◌∙◌, subst, arith, Option, Some, None}
use Rattle.std.proofs.lemmas.Bool.{true≢false, or_cases, or_right, or_left, cases_Bool, cases_eq, false_from_ne_true}
use Rattle.std.proofs.lemmas.Bool.{eqb-false}
use Rattle.std.proofs.lemmas.List.{length-set, get_or-set_same}
use Rattle.std.specs.Prelude.{◌==◌}
use Rattle.std.specs.Ordering.{eq_by_cmp}
use Rattle.repo_plan.specs.declared.part.Part.{Part}
use Rattle.sorted_lists.specs.SortedList.{contains, keys, value_of, with_value, Rises}
use Rattle.repo_plan.specs.Parts.{Pair, pair_cmp, part_cmp, pair_of, part_of, record_of, parts_of, last_part, parent}
use Rattle.repo_plan.specs.declared.shape.Shape.{Shape}
use Rattle.repo_plan.specs.Plan.{is_wanted, is_claimed}
use Rattle.repo_plan.proofs.Orders.{exact_parts}
use Rattle.sorted_lists.proofs.Sets.{In, contains_in, in_contains, rises_with_value, value_of-with_value}
use Rattle.repo_plan.proofs.Known.{from_parts_of, in_parts_of}
use Rattle.repo_plan.proofs.Changes.{unclaimed_at}
use Rattle.repo_plan.proofs.Changes.{at_set}
use Rattle.repo_object.specs.Objects.{Post, contents_of, shape_in}
use Rattle.group_model.specs.Publications.{Logs, last_of, count, shape_at}
use Rattle.group_model.specs.Member.{Member, member_holds, has_deleted, plan_of, gains, tries_of, with_tries}
use Rattle.group_model.specs.Member.{with_each_tried}
use Rattle.group_model.specs.Changes.{publishes, takes}
use Rattle.group_model.specs.Sound.{IsSoundMember, IsPublished, IsKnown, IsHeldSoundly, IsDeletedSoundly}
use Rattle.group_model.proofs.Lists.{contains-insert_keys, rises_insert_keys}
use Rattle.group_model.proofs.Plans.{IsWanted, wanted_parts}
use Rattle.group_model.proofs.Members.{known_published, known_more, Keeps, wanted_kept, Grows, counts_grown}
use Rattle.group_model.proofs.Parents.{record_lists_itself, parent_within}

-- ---- any gain

-- a member gains parts: its vector may grow, and each new part is one of a known publication that isn't hidden, with
-- its record
pub record Gain (ls : Logs) (old new : Member) : Type 0 where
  pub knows : (p : ℕ) → get_or old.known p 0 ≤ get_or new.known p 0
  pub hidden : new.hidden ≡ old.hidden
  pub held : (t : Part) → member_holds old t ≡ true → member_holds new t ≡ true
  pub known : (t : Part) → member_holds new t ≡ true → member_holds old t ≡ false → IsKnown new.known (pair_of t)
  pub counted : (t : Part) → member_holds new t ≡ true → member_holds old t ≡ false → t.part ≤ count ls (pair_of t)
  pub with_record : (t : Part) → member_holds new t ≡ true → member_holds old t ≡ false
      → member_holds new (record_of t) ≡ true
  pub with_parent : (t : Part) → member_holds new t ≡ true → member_holds old t ≡ false
      → member_holds new (parent (shape_at ls (pair_of t)) t) ≡ true
  pub not_hidden : (t : Part) → member_holds new t ≡ true → member_holds old t ≡ false
      → has_deleted old (pair_of t) ≡ false

pub keeps : (ls : Logs) (old new : Member) → Gain ls old new → Keeps old new
keeps ls old new g = record { knows = g.knows; held = g.held; hidden = g.hidden }

module _ (ls : Logs) (j : ℕ) (old new : Member) (g : Gain ls old new) (s : IsSoundMember ls j old) where
  pub held_after : (t : Part) → member_holds new t ≡ true → IsHeldSoundly ls new.known new.held t
  held_after t h = elim (cases_Bool (member_holds old t)) [
    | inl was ↦
        let r : IsHeldSoundly ls old.known old.held t = s.held t was in
        record {
          known = known_more old.known new.known (pair_of t) g.knows r.known;
          counted = r.counted;
          with_record = g.held (record_of t) r.with_record;
          with_parent = g.held (parent (shape_at ls (pair_of t)) t) r.with_parent;
        }
    | inr fresh ↦ record {
      known = g.known t h fresh;
      counted = g.counted t h fresh;
      with_record = g.with_record t h fresh;
      with_parent = g.with_parent t h fresh;
    }
  ]

  pub hidden_after : (pair : Pair) → has_deleted new pair ≡ true → IsDeletedSoundly new pair
  hidden_after pair h =
      let was : has_deleted old pair ≡ true =
      subst (λ (xs : List Pair). contains pair_cmp xs pair ≡ true) g.hidden h in
      let r : IsDeletedSoundly old pair = s.hidden pair was in
      record {
        known = known_more old.known new.known pair g.knows r.known;
        none_held =
            λ x. false_from_ne_true (member_holds new (part_of pair x))
            (λ held. true≢false (sym was ∙ g.not_hidden (part_of pair x) held (r.none_held x)));
      }

  pub own_held_after : (n : ℕ) → IsPublished ls (j, n)
      → (has_deleted new (j, n) ≡ true) ⊎ ((x : ℕ) → x ≤ count ls (j, n) → member_holds new (part_of (j, n) x) ≡ true)
  own_held_after n p = elim (s.own_held n p) [
    | inl h ↦ inl (subst (λ (xs : List Pair). contains pair_cmp xs (j, n) ≡ true) (sym g.hidden) h)
    | inr f ↦ inr (λ x le. g.held (part_of (j, n) x) (f x le))
  ]

  pub wanted_after : (t : Part) → is_wanted (plan_of ls old) t ≡ true → member_holds new t ≡ false
      → is_wanted (plan_of ls new) t ≡ true
  wanted_after t h env = wanted_kept ls ls old new t (keeps ls old new g) refl h env

-- the same gain with other claims, sync state or attempts
pub same_gain : (ls : Logs) (old new other : Member) → other.known ≡ new.known → other.held ≡ new.held
    → other.hidden ≡ new.hidden → Gain ls old new → Gain ls old other
same_gain ls old new other k h x g = record {
  knows = λ p. subst (λ (v : List ℕ). get_or old.known p 0 ≤ get_or v p 0) (sym k) (g.knows p);
  hidden = x ∙ g.hidden;
  held = λ t y. on t ∙ g.held t y;
  known = λ t y o. subst (λ (v : List ℕ). IsKnown v (pair_of t)) (sym k) (g.known t (back t y) o);
  counted = λ t y o. g.counted t (back t y) o;
  with_record = λ t y o. on (record_of t) ∙ g.with_record t (back t y) o;
  with_parent = λ t y o. on (parent (shape_at ls (pair_of t)) t) ∙ g.with_parent t (back t y) o;
  not_hidden = λ t y o. g.not_hidden t (back t y) o;
} where
  on : (t : Part) → member_holds other t ≡ member_holds new t
  on t = ap (λ (held : List Part). contains part_cmp held t) h

  back : (t : Part) → member_holds other t ≡ true → member_holds new t ≡ true
  back t y = sym (on t) ∙ y

-- what was held is held after more parts were gained
pub held_too : (ts : List Part) (m : Member) (t : Part) → member_holds m t ≡ true → member_holds (gains ts m) t ≡ true
held_too ts m t h = contains-insert_keys ts m.held t ∙ or_right (contains part_cmp ts t) (member_holds m t) h

pub held_new : (ts : List Part) (m : Member) (t : Part) → In t ts → member_holds (gains ts m) t ≡ true
held_new ts m t i =
    contains-insert_keys ts m.held t
    ∙ or_left (contains part_cmp ts t) (member_holds m t) (contains_in exact_parts ts t i)

pub held_either : (ts : List Part) (m : Member) (t : Part) → member_holds (gains ts m) t ≡ true
    → In t ts ⊎ (member_holds m t ≡ true)
held_either ts m t h =
    elim (or_cases (contains part_cmp ts t) (member_holds m t) (sym (contains-insert_keys ts m.held t) ∙ h)) [
      | inl c ↦ inl (in_contains exact_parts ts t c)
      | inr b ↦ inr b
    ]

pub held_fresh : (ts : List Part) (m : Member) (t : Part) → member_holds (gains ts m) t ≡ true
    → member_holds m t ≡ false → In t ts
held_fresh ts m t h o = elim (held_either ts m t h) [ inl i ↦ i | inr b ↦ absurd (true≢false (sym b ∙ o)) ]

-- a member gains wanted parts
pub wanted_gain : (ls : Logs) (ts : List Part) (m : Member) → ((t : Part) → In t ts → is_wanted (plan_of ls m) t ≡ true)
    → Gain ls m (gains ts m)
wanted_gain ls ts m wanted = record {
  knows = λ p. omega arith;
  hidden = refl;
  held = held_too ts m;
  known = λ t h o. (was t h o).known;
  counted = λ t h o. (was t h o).counted;
  with_record = λ t h o. elim (was t h o).with_record [
    | inl e ↦ subst (λ (n : ℕ). member_holds (gains ts m) (part_of (pair_of t) n) ≡ true) e h
    | inr r ↦ held_too ts m (record_of t) r.with_record
  ];
  with_parent = λ t h o. elim (was t h o).with_record [
    | inl e ↦
        ap (member_holds (gains ts m)) (record_lists_itself (shape_at ls (pair_of t)) t e) ∙ h
    | inr r ↦ held_too ts m (parent (shape_at ls (pair_of t)) t) r.with_parent
  ];
  not_hidden = λ t h o. (was t h o).not_hidden;
} where
  was : (t : Part) → member_holds (gains ts m) t ≡ true → member_holds m t ≡ false → IsWanted ls m t
  was t h o = wanted_parts ls m t (wanted t (held_fresh ts m t h o))

-- ---- a claimed part is received

pub sound_takes : (ls : Logs) (j f : ℕ) (t : Part) (m : Member) → get_or m.claims (f - 1) None ≡ Some t
    → IsSoundMember ls j m → IsSoundMember ls j (takes f t m)
sound_takes ls j f t m claim s =
    let wanted : is_wanted (plan_of ls m) t ≡ true = s.claimed (f - 1) t claim in
    let g : Gain ls m (gains (t ∷ []) m) =
    wanted_gain ls (t ∷ []) m (λ u i. elim i [
      | inl e ↦ subst (λ (v : Part). is_wanted (plan_of ls m) v ≡ true) (sym e) wanted
      | inr i ↦ absurd i
    ]) in
    let new : Member = takes f t m in
    let h : Gain ls m new = same_gain ls m (gains (t ∷ []) m) new refl refl refl g in
    record {
      width = s.width;
      fetchers = length-set m.claims (f - 1) None ∙ s.fetchers;
      in_order = record {
        held = rises_insert_keys (t ∷ []) m.held s.in_order.held;
        hidden = s.in_order.hidden;
        attempts = s.in_order.attempts;
        tried = s.in_order.tried;
      };
      known = s.known;
      own = s.own;
      heard = s.heard;
      held = held_after ls j m new h s;
      hidden = hidden_after ls j m new h s;
      own_held = own_held_after ls j m new h s;
      claimed = λ k u e. elim (at_set m.claims (f - 1) k None u e) [
        | inl r ↦ absurd cc
        | inr r ↦
            let w : is_wanted (plan_of ls m) u ≡ true = s.claimed k u r.1 in
            wanted_after ls j m new h s u w
            (false_from_ne_true (member_holds new u) (λ yes. elim (held_either (t ∷ []) m u yes) [
              | inl i ↦ elim i [
                | inl e ↦ r.0 (s.apart k (f - 1) t (r.1 ∙ ap (λ (v : Part). Some v) e) claim)
                | inr i ↦ absurd i
              ]
              | inr b ↦ true≢false (sym b ∙ (wanted_parts ls m u w).not_held)
            ]))
      ];
      apart = λ g k u a b. elim (at_set m.claims (f - 1) g None u a) [
        | inl p ↦ absurd cc
        | inr p ↦ elim (at_set m.claims (f - 1) k None u b) [ inl q ↦ absurd cc | inr q ↦ s.apart g k u p.1 q.1 ]
      ];
    }

-- ---- attempts

pub rises_tried : (t : Part) (n : ℕ) (es : List (Part × ℕ)) → Rises part_cmp (keys es)
    → Rises part_cmp (keys (with_tries t n es))
rises_tried t n es r = go (n == 0) where
  go : (b : Bool) → Rises part_cmp (keys (cond b es (with_value part_cmp t (tries_of es t + n) es)))
  go true = r
  go false = rises_with_value exact_parts t (tries_of es t + n) es r

pub rises_each_tried : (more : Part → ℕ) (ts : List Part) (es : List (Part × ℕ)) → Rises part_cmp (keys es)
    → Rises part_cmp (keys (with_each_tried more ts es))
rises_each_tried more [] es r = r
rises_each_tried more (t ∷ ts) es r = rises_each_tried more ts (with_tries t (more t) es) (rises_tried t (more t) es r)

abbrev pub AreTried : List (Part × ℕ) → Type 0
AreTried es = (t : Part) (n : ℕ) → value_of part_cmp es t ≡ Some n → 0 < n

some_same : (a b : ℕ) → let x : Option ℕ = Some a in x ≡ Some b → a ≡ b
some_same a b e = cc

pub tried_once_more : (t : Part) (n : ℕ) (es : List (Part × ℕ)) → AreTried es → AreTried (with_tries t n es)
tried_once_more t n es h u k = go (n == 0) refl where
  go : (b : Bool) → (n == 0) ≡ b
      → value_of part_cmp (cond b es (with_value part_cmp t (tries_of es t + n) es)) u ≡ Some k → 0 < k
  go true z e = h u k e
  go false z e =
      at (eq_by_cmp part_cmp u t) (sym (value_of-with_value exact_parts t (tries_of es t + n) es u) ∙ e) where
        at : (c : Bool) → cond c (Some (tries_of es t + n)) (value_of part_cmp es u) ≡ Some k → 0 < k
        at true e =
            let same : tries_of es t + n ≡ k = some_same (tries_of es t + n) k e in
            let nz = eqb-false n 0 z in omega (arith, same, nz)
        at false e = h u k e

pub each_tried : (more : Part → ℕ) (ts : List Part) (es : List (Part × ℕ)) → AreTried es
    → AreTried (with_each_tried more ts es)
each_tried more [] es h = h
each_tried more (t ∷ ts) es h = each_tried more ts (with_tries t (more t) es) (tried_once_more t (more t) es h)

-- wanted parts that nobody claims are gained, and attempts are counted
pub sound_gains : (ls : Logs) (j : ℕ) (ts : List Part) (tried : List (Part × ℕ)) (m : Member)
    → ((t : Part) → In t ts → is_wanted (plan_of ls m) t ≡ true)
    → ((t : Part) → In t ts → is_claimed (plan_of ls m) t ≡ false) → Rises part_cmp (keys tried) → AreTried tried
    → IsSoundMember ls j m → IsSoundMember ls j (record (gains ts m) { attempts = tried })
sound_gains ls j ts tried m wanted free rises above s =
    let new : Member = record (gains ts m) { attempts = tried } in
    let g : Gain ls m new = same_gain ls m (gains ts m) new refl refl refl (wanted_gain ls ts m wanted) in
    record {
      width = s.width;
      fetchers = s.fetchers;
      in_order = record {
        held = rises_insert_keys ts m.held s.in_order.held;
        hidden = s.in_order.hidden;
        attempts = rises;
        tried = above;
      };
      known = s.known;
      own = s.own;
      heard = s.heard;
      held = held_after ls j m new g s;
      hidden = hidden_after ls j m new g s;
      own_held = own_held_after ls j m new g s;
      claimed = λ f u e.
          let w : is_wanted (plan_of ls m) u ≡ true = s.claimed f u e in
          wanted_after ls j m new g s u w
          (false_from_ne_true (member_holds new u)
          (λ yes. unclaimed_at u m.claims f (free u (held_fresh ts m u yes (wanted_parts ls m u w).not_held)) e));
      apart = s.apart;
    }

-- ---- a publication

-- the member's own list has one more publication
pub record Publishes (old new : Logs) (j : ℕ) (o : Post) : Type 0 where
  pub grows : Grows old new
  pub one_more : last_of new j ≡ last_of old j + 1
  pub shape : shape_at new (j, last_of old j + 1) ≡ shape_in o

pub at_set_number : (v : List ℕ) (j n p : ℕ) → get_or v j 0 ≤ n → get_or v p 0 ≤ get_or (set v j n) p 0
at_set_number [] j n p h = omega arith
at_set_number (x ∷ xs) zero n zero h = h
at_set_number (x ∷ xs) zero n (suc p) h = omega arith
at_set_number (x ∷ xs) (suc j) n zero h = omega arith
at_set_number (x ∷ xs) (suc j) n (suc p) h = at_set_number xs j n p h

at_set_bound : (v : List ℕ) (j n p b : ℕ) → get_or v p 0 ≤ b → (p ≡ j → n ≤ b) → get_or (set v j n) p 0 ≤ b
at_set_bound [] j n p b h k = h
at_set_bound (x ∷ xs) zero n zero b h k = k refl
at_set_bound (x ∷ xs) zero n (suc p) b h k = h
at_set_bound (x ∷ xs) (suc j) n zero b h k = h
at_set_bound (x ∷ xs) (suc j) n (suc p) b h k = at_set_bound xs j n p b h (λ e. k (ap suc e))

pub sound_publishes : (draw time : ℕ) (ls more : Logs) (j : ℕ) (o : Post) (m : Member) → j < length ls
    → length m.log ≡ last_of ls j → Publishes ls more j o → IsSoundMember ls j m
    → IsSoundMember more j (publishes draw time j o m)
sound_publishes draw time ls more j o m within log g s =
    let seq : ℕ = length m.log + 1 in
    let n : Member = publishes draw time j o m in
    let size : ℕ = last_part (shape_in o) in
    let ts : List Part = parts_of (j, seq) size in
    let is_seq : seq ≡ last_of ls j + 1 = omega (arith, log) in
    let own : get_or m.known j 0 ≡ last_of ls j = s.own in
    let at : get_or n.known j 0 ≡ seq = get_or-set_same m.known j seq 0 (omega (arith, s.width)) in
    let knows_more : (p : ℕ) → get_or m.known p 0 ≤ get_or n.known p 0 =
    λ p. at_set_number m.known j seq p (omega (arith, own, log)) in
    let shape : shape_at more (j, seq) ≡ shape_in o = ap (λ (k : ℕ). shape_at more (j, k)) is_seq ∙ g.shape in
    let counts : count more (j, seq) ≡ size = ap last_part shape in
    let new_held : (u : Part) → pair_of u ≡ (j, seq) → u.part ≤ size → member_holds n u ≡ true =
    λ u p l. held_new ts m u (subst (λ (q : Pair). In u (parts_of q size)) p (in_parts_of size u l)) in
    let either : (u : Part) → member_holds n u ≡ true
    → ((pair_of u ≡ (j, seq)) × (u.part ≤ size)) ⊎ (member_holds m u ≡ true) =
    λ u h.
    elim (held_either ts m u h) [ inl i ↦ inl (from_parts_of (j, seq) size u i) | inr b ↦ inr b ] in
    -- what is known before isn't the new publication
    let apart : (u : Part) → pair_of u ≡ (j, seq) → IsKnown m.known (pair_of u) → ⊥ = λ u p k.
    let k2 : IsKnown m.known (j, seq) = subst (IsKnown m.known) p k in
    absurd (omega (arith, k2.to_known, own, is_seq)) in
    let ks : Keeps m n = record { knows = knows_more; held = held_too ts m; hidden = refl } in
    record {
      width = length-set m.known j seq ∙ s.width ∙ sym g.grows.width;
      fetchers = s.fetchers;
      in_order = record {
        held = rises_insert_keys ts m.held s.in_order.held;
        hidden = s.in_order.hidden;
        attempts = s.in_order.attempts;
        tried = s.in_order.tried;
      };
      known =
          λ p. at_set_bound m.known j seq p (last_of more p)
          (let a : get_or m.known p 0 ≤ last_of ls p = s.known p in
          let b : last_of ls p ≤ last_of more p = g.grows.last p in omega (arith, a, b))
          (λ e. subst (λ (q : ℕ). seq ≤ last_of more q) (sym e) (omega (arith, g.one_more, is_seq)));
      own = at ∙ is_seq ∙ sym g.one_more;
      heard = tt;
      held = λ u h. elim (either u h) [
        | inl p ↦ record {
          known =
              subst (IsKnown n.known) (sym p.0)
              (record { from_one = omega arith; to_known = subst (λ (k : ℕ). seq ≤ k) (sym at) (omega arith) });
          counted =
              subst (λ (q : Pair). u.part ≤ count more q) (sym p.0) (subst (λ (k : ℕ). u.part ≤ k) (sym counts) p.1);
          with_record = new_held (record_of u) p.0 (omega arith);
          with_parent =
              ap (λ (s : Shape). member_holds n (parent s u)) (ap (shape_at more) p.0 ∙ shape)
              ∙ new_held (parent (shape_in o) u) p.0 (parent_within (length (contents_of o)) u.part p.1);
        }
        | inr b ↦ let r : IsHeldSoundly ls m.known m.held u = s.held u b in record {
          known = known_more m.known n.known (pair_of u) knows_more r.known;
          counted =
              subst (λ (k : ℕ). u.part ≤ k)
              (sym (counts_grown ls more g.grows (pair_of u) (known_published ls m.known (pair_of u) s.known r.known)))
              r.counted;
          with_record = held_too ts m (record_of u) r.with_record;
          with_parent =
              ap (λ (x : Shape). member_holds n (parent x u))
              (g.grows.shapes (pair_of u) (known_published ls m.known (pair_of u) s.known r.known))
              ∙ held_too ts m (parent (shape_at ls (pair_of u)) u) r.with_parent;
        }
      ];
      hidden = λ pair h. let r : IsDeletedSoundly m pair = s.hidden pair h in record {
        known = known_more m.known n.known pair knows_more r.known;
        none_held =
            λ x. false_from_ne_true (member_holds n (part_of pair x)) (λ yes. elim (either (part_of pair x) yes) [
              | inl p ↦ apart (part_of pair x) p.0 r.known
              | inr b ↦ true≢false (sym b ∙ r.none_held x)
            ]);
      };
      own_held = λ k p. elim (cases_eq k seq) [
        | inl e ↦
            inr (λ x le. new_held (part_of (j, k) x) (ap (λ (q : ℕ). let r : Pair = (j, q) in r) e)
            (subst (λ (c : ℕ). x ≤ c) (ap (λ (q : ℕ). count more (j, q)) e ∙ counts) le))
        | inr d ↦
            let top : k ≤ last_of more j = p.to_last in
            let there : IsPublished ls (j, k) =
            record { from_one = p.from_one; to_last = omega (arith, top, d, is_seq, g.one_more) } in
            elim (s.own_held k there) [
              | inl h ↦ inl h
              | inr f ↦
                  inr (λ x le.
                  held_too ts m (part_of (j, k) x)
                  (f x (subst (λ (c : ℕ). x ≤ c) (counts_grown ls more g.grows (j, k) there) le)))
            ]
      ];
      claimed = λ f u e.
          let c : is_wanted (plan_of ls m) u ≡ true = s.claimed f u e in
          let w : IsWanted ls m u = wanted_parts ls m u c in
          let free : member_holds n u ≡ false =
          false_from_ne_true (member_holds n u)
          (λ yes. elim (either u yes) [ inl p ↦ apart u p.0 w.known | inr b ↦ true≢false (sym b ∙ w.not_held) ]) in
          wanted_kept ls more m n u ks
          (g.grows.shapes (pair_of u) (known_published ls m.known (pair_of u) s.known w.known)) c free;
      apart = s.apart;
    }
