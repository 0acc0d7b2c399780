-- What a settle keeps and gives.
use Rattle.std.proofs.Common.{◌≡◌, inl, inr, ℕ, suc, zero, ◌+◌, ◌≤◌, ◌<◌, max, true, false, not, ◌&&◌, List, [], ◌∷◌}
use Rattle.std.proofs.Common.{map, length, get_or, replicate, refl, sym, ap, ◌∙◌, subst, arith, Option, None}
use Rattle.std.proofs.lemmas.Bool.{true≢false, and_parts, and_from, or_right, or_left, or_cases, cases_Bool, not-true}
use Rattle.std.proofs.lemmas.Bool.{not_from_false, leb-true, le-leb}
use Rattle.std.proofs.lemmas.List.{length-map, get_or-map}
use Rattle.std.specs.Prelude.{nat_le}
use Rattle.repo_plan.specs.declared.part.Part.{Part}
use Rattle.sorted_lists.specs.SortedList.{contains}
use Rattle.repo_plan.specs.Parts.{Pair, pair_cmp, pair_of, part_of, record_of, parent, last_part}
use Rattle.repo_plan.specs.Plan.{no_claims}
use Rattle.sorted_lists.proofs.Sets.{In, in_filter, in_flat_map, in_map, from_map}
use Rattle.sorted_lists.proofs.Members.{in_at, in_filtered}
use Rattle.repo_plan.proofs.Whole.{all_in}
use Rattle.svs_vector.specs.Vectors.{join, join_all}
use Rattle.svs_vector.proofs.JoinLemmas.{join-at, length-join, join-[]}
use Rattle.repo_object.specs.Objects.{Post, contents_of, shape_in}
use Rattle.group_model.specs.Publications.{Logs, Publication, pair_in, parts_in, published, all_parts, published_entry}
use Rattle.group_model.specs.Publications.{join_of, last_of, count, shape_at, post_at}
use Rattle.group_model.specs.Member.{Member, member_holds, has_deleted, holds_all, catalogue}
use Rattle.group_model.specs.World.{Environment, World, no_member, member, logs, logs_of, someone_holds}
use Rattle.group_model.specs.Steps.{settled_vector, settled_member, is_gained, new_parts, after_gathering, reset_each}
use Rattle.group_model.specs.Steps.{after_settle}
use Rattle.group_model.proofs.OneMember.{listed_whole}
use Rattle.group_model.specs.Sound.{IsSoundGroup, IsSoundMember, IsPublishedPart, IsWithinLogs}
use Rattle.group_model.proofs.Lists.{at_in, rises_insert_keys}
use Rattle.group_model.proofs.Parents.{parent_within}
use Rattle.group_model.proofs.Among.{in_all_parts}
use Rattle.group_model.proofs.Parts.{IsIn, in_published, publisher_within, IsPartOf, from_parts_in, from_all_parts}
use Rattle.group_model.proofs.Parts.{record_among}
use Rattle.group_model.specs.Changes.{resets}
use Rattle.group_model.specs.Reached.{InSoundGroups}
use Rattle.group_model.specs.Settles.{JoinsInSettle, JoinsInGathering}
use Rattle.group_model.proofs.Members.{with_machine}
use Rattle.group_model.proofs.Gains.{Gain, held_after, hidden_after, own_held_after, held_too, held_new, held_fresh}

pub someone : (ms : List Member) (m : Member) (t : Part) → In m ms → member_holds m t ≡ true → someone_holds ms t ≡ true
someone [] m t i h = absurd i
someone (x ∷ xs) m t (inl e) h =
    or_left (member_holds x t) (someone_holds xs t) (subst (λ (y : Member). member_holds y t ≡ true) e h)
someone (x ∷ xs) m t (inr i) h = or_right (member_holds x t) (someone_holds xs t) (someone xs m t i h)

pub no_claim : (n f : ℕ) → get_or (replicate n (let o : Option Part = None in o)) f None ≡ None
no_claim zero f = refl
no_claim (suc n) zero = refl
no_claim (suc n) (suc f) = no_claim n f

-- ---- a member in a settle

abbrev pub settles : Environment → World → ℕ → Member → Member
settles env w j m = resets (env.draw j m.machine.draws) w.time (settled_member w m)

abbrev pub settle_each : Environment → World → ℕ → List Member → List Member
settle_each env w k ms = reset_each env w.time k (map (settled_member w) ms)

-- ---- the joined vector

pub join_all_each : (ws : List (List ℕ)) (p : ℕ) (u : List ℕ) → In u ws → get_or u p 0 ≤ get_or (join_all ws) p 0
unfolding join_all
join_all_each [] p u i = absurd i
join_all_each (w ∷ ws) p u (inl same) =
    let e : get_or (join w (join_all ws)) p 0 ≡ max (get_or w p 0) (get_or (join_all ws) p 0) =
    join-at w (join_all ws) p in
    subst (λ (x : List ℕ). get_or x p 0 ≤ get_or (join w (join_all ws)) p 0) (sym same) (omega (arith, e))
join_all_each (w ∷ ws) p u (inr i) =
    let h : get_or u p 0 ≤ get_or (join_all ws) p 0 = join_all_each ws p u i in
    let e : get_or (join w (join_all ws)) p 0 ≡ max (get_or w p 0) (get_or (join_all ws) p 0) =
    join-at w (join_all ws) p in
    omega (arith, h, e)

pub join_all_most : (ws : List (List ℕ)) (p b : ℕ) → ((u : List ℕ) → In u ws → get_or u p 0 ≤ b)
    → get_or (join_all ws) p 0 ≤ b
unfolding join_all
join_all_most [] p b each = omega arith
join_all_most (w ∷ ws) p b each =
    let k : get_or w p 0 ≤ b = each w (inl refl) in
    let h : get_or (join_all ws) p 0 ≤ b = join_all_most ws p b (λ u i. each u (inr i)) in
    let e : get_or (join w (join_all ws)) p 0 ≡ max (get_or w p 0) (get_or (join_all ws) p 0) =
    join-at w (join_all ws) p in
    omega (arith, h, k, e)

pub length_join_all : (ws : List (List ℕ)) (n : ℕ) (u : List ℕ) → In u ws → ((u : List ℕ) → In u ws → length u ≡ n)
    → length (join_all ws) ≡ n
unfolding join_all
length_join_all [] n u i each = absurd i
length_join_all (w ∷ []) n u i each = ap length (join-[] w) ∙ each w (inl refl)
length_join_all (w ∷ v ∷ ws) n u i each =
    let h : length (join_all (v ∷ ws)) ≡ n = length_join_all (v ∷ ws) n v (inl refl) (λ x j. each x (inr j)) in
    length-join w (join_all (v ∷ ws)) (each w (inl refl) ∙ sym h) ∙ each w (inl refl)

-- ---- the member

-- a part that a member gains, in parts
pub record IsGained (w : World) (m : Member) (t : Part) : Type 0 where
  pub received : t.seq ≤ get_or (settled_vector w) t.publisher 0
  pub not_hidden : has_deleted m (pair_of t) ≡ false
  pub someones : someone_holds w.members t ≡ true
  pub record_too : someone_holds w.members (record_of t) ≡ true
  pub fresh : member_holds m t ≡ false

pub comes : (w : World) (m : Member) (t : Part) → is_gained w m t ≡ true → IsGained w m t
comes w m t h =
    let a : (nat_le t.seq (get_or (settled_vector w) t.publisher 0) ≡ true)
    × ((not (has_deleted m (pair_of t))
    && (someone_holds w.members t && (someone_holds w.members (record_of t) && not (member_holds m t))))
    ≡ true) =
    and_parts (nat_le t.seq (get_or (settled_vector w) t.publisher 0)) _ h in
    let b : (not (has_deleted m (pair_of t)) ≡ true)
    × ((someone_holds w.members t && (someone_holds w.members (record_of t) && not (member_holds m t))) ≡ true) =
    and_parts (not (has_deleted m (pair_of t))) _ a.1 in
    let c : (someone_holds w.members t ≡ true)
    × ((someone_holds w.members (record_of t) && not (member_holds m t)) ≡ true) =
    and_parts (someone_holds w.members t) _ b.1 in
    let d : (someone_holds w.members (record_of t) ≡ true) × (not (member_holds m t) ≡ true) =
    and_parts (someone_holds w.members (record_of t)) _ c.1 in
    record {
      received = leb-true t.seq _ a.0;
      not_hidden = not-true (has_deleted m (pair_of t)) b.0;
      someones = c.0;
      record_too = d.0;
      fresh = not-true (member_holds m t) d.1;
    }

pub comes_from : (w : World) (m : Member) (t : Part) → IsGained w m t → is_gained w m t ≡ true
comes_from w m t h =
    and_from (nat_le t.seq (get_or (settled_vector w) t.publisher 0)) _ (le-leb t.seq _ h.received)
    (and_from (not (has_deleted m (pair_of t))) _ (not_from_false (has_deleted m (pair_of t)) h.not_hidden)
    (and_from (someone_holds w.members t) _ h.someones
    (and_from (someone_holds w.members (record_of t)) (not (member_holds m t)) h.record_too
    (not_from_false (member_holds m t) h.fresh))))

-- a member of `ms` that holds the part
pub holder : (ms : List Member) (t : Part) → someone_holds ms t ≡ true
    → (m : Member) × In m ms × (member_holds m t ≡ true)
holder [] t h = absurd (true≢false (sym h))
holder (x ∷ xs) t h = elim (or_cases (member_holds x t) (someone_holds xs t) h) [
  | inl a ↦ (x, inl refl, a)
  | inr b ↦ let r : (m : Member) × In m xs × (member_holds m t ≡ true) = holder xs t b in (r.0, inr r.1, r.2)
]

-- where a member holds a part, a member holds the part that lists it
pub someone_lists : (w : World) → IsSoundGroup w → (t : Part) → someone_holds w.members t ≡ true
    → someone_holds w.members (parent (shape_at (logs w) (pair_of t)) t) ≡ true
someone_lists w s t h =
    let r : (m : Member) × In m w.members × (member_holds m t ≡ true) = holder w.members t h in
    let k : (k : ℕ) × (k < length w.members) × (r.0 ≡ get_or w.members k no_member) =
    at_in w.members r.0 no_member r.1 in
    someone w.members r.0 (parent (shape_at (logs w) (pair_of t)) t) r.1
    (subst (λ (m : Member). member_holds m (parent (shape_at (logs w) (pair_of t)) t) ≡ true) (sym k.2)
    ((s.members k.0 k.1).held t (subst (λ (m : Member). member_holds m t ≡ true) k.2 r.2)).with_parent)

module _ (w : World) (s : IsSoundGroup w) (j : ℕ) (within : j < length w.members) where
  abbrev old : Member
  old = member w j

  abbrev new : Member
  new = settled_member w old

  pub knows_settled : (i : ℕ) (p : ℕ) → i < length w.members → get_or (member w i).known p 0
      ≤ get_or (settled_vector w) p 0
  knows_settled i p l =
      join_all_each (map (λ m. m.known) w.members) p (member w i).known
      (in_map (λ (m : Member). m.known) w.members (member w i) (in_at w.members i no_member l))

  pub settled_no_more : IsWithinLogs (logs w) (settled_vector w)
  settled_no_more p = join_all_most (map (λ m. m.known) w.members) p (last_of (logs w) p) (λ u i.
      let r : (m : Member) × (In m w.members) × (u ≡ m.known) = from_map (λ (m : Member). m.known) w.members u i in
      let k : (k : ℕ) × (k < length w.members) × (r.0 ≡ get_or w.members k no_member) =
      at_in w.members r.0 no_member r.1 in
      let b : get_or (member w k.0).known p 0 ≤ last_of (logs w) p = (s.members k.0 k.1).known p in
      subst (λ (v : List ℕ). get_or v p 0 ≤ last_of (logs w) p) (sym (r.2 ∙ ap (λ (m : Member). m.known) k.2)) b)

  settled_width : length (settled_vector w) ≡ length (logs w)
  settled_width =
      length_join_all (map (λ m. m.known) w.members) (length (logs w)) old.known
      (in_map (λ (m : Member). m.known) w.members old (in_at w.members j no_member within)) (λ u i.
      let r : (m : Member) × (In m w.members) × (u ≡ m.known) = from_map (λ (m : Member). m.known) w.members u i in
      let k : (k : ℕ) × (k < length w.members) × (r.0 ≡ get_or w.members k no_member) =
      at_in w.members r.0 no_member r.1 in
      ap length (r.2 ∙ ap (λ (m : Member). m.known) k.2) ∙ (s.members k.0 k.1).width)

  pub keeps_held : (t : Part) → member_holds old t ≡ true → member_holds new t ≡ true
  keeps_held t h = held_too (new_parts w old) old t h

  pub gets : (t : Part) → In t (all_parts (logs w)) → IsGained w old t → member_holds new t ≡ true
  gets t i c =
      held_new (new_parts w old) old t (in_filter (is_gained w old) (all_parts (logs w)) t i (comes_from w old t c))

  came : (t : Part) → member_holds new t ≡ true → member_holds old t ≡ false
      → In t (all_parts (logs w)) × IsGained w old t
  came t h o =
      let r : In t (all_parts (logs w)) × (is_gained w old t ≡ true) =
      in_filtered (is_gained w old) (all_parts (logs w)) t (held_fresh (new_parts w old) old t h o) in
      (r.0, comes w old t r.1)

  gain : Gain (logs w) old new
  gain = record {
    knows = λ p. knows_settled j p within;
    hidden = refl;
    held = keeps_held;
    known = λ t h o.
        let r : In t (all_parts (logs w)) × IsGained w old t = came t h o in
        record { from_one = (from_all_parts (logs w) t r.0).there.from_one; to_known = r.1.received };
    counted = λ t h o. (from_all_parts (logs w) t (came t h o).0).counted;
    with_record = λ t h o.
        let r : In t (all_parts (logs w)) × IsGained w old t = came t h o in
        elim (cases_Bool (member_holds old (record_of t))) [
          | inl was ↦ keeps_held (record_of t) was
          | inr free ↦
              gets (record_of t) (record_among (logs w) t r.0) (record {
                received = r.1.received;
                not_hidden = r.1.not_hidden;
                someones = r.1.record_too;
                record_too = r.1.record_too;
                fresh = free;
              })
        ];
    with_parent = λ t h o.
        let r : In t (all_parts (logs w)) × IsGained w old t = came t h o in
        let listed : Part = parent (shape_at (logs w) (pair_of t)) t in
        let there : IsPublishedPart (logs w) t = from_all_parts (logs w) t r.0 in
        elim (cases_Bool (member_holds old listed)) [
          | inl was ↦ keeps_held listed was
          | inr free ↦
              gets listed (in_all_parts (logs w) listed (record {
                there = there.there;
                counted = parent_within (length (contents_of (post_at (logs w) (pair_of t)))) t.part there.counted;
              })) (record {
                received = r.1.received;
                not_hidden = r.1.not_hidden;
                someones = someone_lists w s t r.1.someones;
                record_too = r.1.record_too;
                fresh = free;
              })
        ];
    not_hidden = λ t h o. (came t h o).1.not_hidden;
  }

  pub sound_gathered : IsSoundMember (logs w) j new
  sound_gathered =
      let m : IsSoundMember (logs w) j old = s.members j within in
      record {
        width = settled_width;
        fetchers = refl;
        in_order = record {
          held = rises_insert_keys (new_parts w old) old.held m.in_order.held;
          hidden = m.in_order.hidden;
          attempts = m.in_order.attempts;
          tried = m.in_order.tried;
        };
        known = settled_no_more;
        own =
            let a : get_or old.known j 0 ≡ last_of (logs w) j = m.own in
            let b : get_or old.known j 0 ≤ get_or (settled_vector w) j 0 = knows_settled j j within in
            let c : get_or (settled_vector w) j 0 ≤ last_of (logs w) j = settled_no_more j in omega (arith, a, b, c);
        heard = m.heard;
        held = held_after (logs w) j old new gain m;
        hidden = hidden_after (logs w) j old new gain m;
        own_held = own_held_after (logs w) j old new gain m;
        claimed = λ f t e. absurd (let n : get_or no_claims f None ≡ None = no_claim 16 f in cc);
        apart = λ f g t a b. absurd (let n : get_or no_claims f None ≡ None = no_claim 16 f in cc);
      }

  pub sound_settles : (env : Environment) → IsSoundMember (logs w) j (settles env w j old)
  sound_settles env =
      with_machine (logs w) j new (settles env w j old).machine old.processes old.next_process sound_gathered tt

  -- where nothing is hidden, every part of every publication is held
  pub complete : ((i : ℕ) → i < length w.members → (member w i).hidden ≡ []) → (q : Publication)
      → In q (published (logs w)) → holds_all new q ≡ true
  complete clear q i =
      let there : IsIn (logs w) q = in_published (logs w) q i in
      let publisher : q.publisher < length w.members = publisher_within w (pair_in q) there.there in
      let theirs : IsSoundMember (logs w) q.publisher (member w q.publisher) = s.members q.publisher publisher in
      let held : (x : ℕ) → x ≤ count (logs w) (pair_in q)
      → member_holds (member w q.publisher) (part_of (pair_in q) x) ≡ true =
      elim (theirs.own_held q.seq there.there) [
        | inl h ↦
            absurd (true≢false
            (sym h ∙ ap (λ (xs : List Pair). contains pair_cmp xs (pair_in q)) (clear q.publisher publisher)))
        | inr f ↦ f
      ] in
      all_in (member_holds new) (parts_in q) (λ t it.
      let p : IsPartOf t q = from_parts_in q t it in
      let theirs_too : (x : ℕ) → x ≤ last_part (shape_in q.post)
      → someone_holds w.members (part_of (pair_of t) x) ≡ true =
      λ x le.
      someone w.members (member w q.publisher) (part_of (pair_of t) x) (in_at w.members q.publisher no_member publisher)
      (subst (λ (pair : Pair). member_holds (member w q.publisher) (part_of pair x) ≡ true) (sym p.pair)
      (held x (subst (λ (o : Post). x ≤ last_part (shape_in o)) there.post le))) in
      elim (cases_Bool (member_holds old t)) [
        | inl was ↦ keeps_held t was
        | inr free ↦ gets t (in_flat_map parts_in (published (logs w)) q t i it) (record {
          received =
              let own : get_or (member w q.publisher).known q.publisher 0 ≡ last_of (logs w) q.publisher = theirs.own in
              let up : get_or (member w q.publisher).known q.publisher 0 ≤ get_or (settled_vector w) q.publisher 0 =
              knows_settled q.publisher q.publisher publisher in
              subst (λ (pair : Pair). pair.1 ≤ get_or (settled_vector w) pair.0 0) (sym p.pair)
              (omega (arith, own, up, there.there.to_last));
          not_hidden = ap (λ (xs : List Pair). contains pair_cmp xs (pair_of t)) (clear j within);
          someones = theirs_too t.part p.counted;
          record_too = theirs_too 0 (omega arith);
          fresh = free;
        })
      ])

-- ---- the world

pub settled-at : (env : Environment) (w : World) (k i : ℕ) (ms : List Member) → i < length ms
    → get_or (settle_each env w k ms) i no_member ≡ settles env w (k + i) (get_or ms i no_member)
settled-at env w k i [] l = absurd (omega arith)
settled-at env w k zero (m ∷ ms) l = ap (λ (j : ℕ). settles env w j m) (omega arith)
settled-at env w k (suc i) (m ∷ ms) l =
    settled-at env w (k + 1) i ms (omega arith) ∙ ap (λ (j : ℕ). settles env w j (get_or ms i no_member)) (omega arith)

pub logs_settled : (env : Environment) (w : World) (k : ℕ) (ms : List Member)
    → logs_of (settle_each env w k ms) ≡ logs_of ms
logs_settled env w k [] = refl
logs_settled env w k (m ∷ ms) = ap (λ (ls : Logs). m.log ∷ ls) (logs_settled env w (k + 1) ms)

pub length_settled : (env : Environment) (w : World) (k : ℕ) (ms : List Member)
    → length (settle_each env w k ms) ≡ length ms
length_settled env w k [] = refl
length_settled env w k (m ∷ ms) = ap suc (length_settled env w (k + 1) ms)

pub member_settled : (env : Environment) (w : World) (j : ℕ) → j < length w.members
    → member (after_settle env w) j ≡ settles env w j (member w j)
member_settled env w j l = settled-at env w 0 j w.members l ∙ ap (λ (k : ℕ). settles env w k (member w j)) (omega arith)

pub logs_gathered : (w : World) (ms : List Member) → logs_of (map (settled_member w) ms) ≡ logs_of ms
logs_gathered w [] = refl
logs_gathered w (m ∷ ms) = ap (λ (ls : Logs). m.log ∷ ls) (logs_gathered w ms)

pub member_gathered : (env : Environment) (w : World) (j : ℕ) → j < length w.members
    → member (after_gathering env w) j ≡ settled_member w (member w j)
member_gathered env w j l = get_or-map (settled_member w) w.members j no_member no_member l

-- where nothing is hidden each catalogue is then the join of all publications, whatever the sync state
catalogue_joined : (w : World) (j : ℕ) → IsSoundGroup w → j < length w.members
    → ((i : ℕ) → i < length w.members → (member w i).hidden ≡ [])
    → catalogue (logs w) (settled_member w (member w j)) ≡ join_of (logs w)
catalogue_joined w j s within clear =
    ap (map published_entry)
    (listed_whole (settled_member w (member w j)) (published (logs w)) (complete w s j within clear))

pub settle_joins : InSoundGroups JoinsInSettle
settle_joins env w s clear j l =
    let same : length (after_settle env w).members ≡ length w.members = length_settled env w 0 w.members in
    let within : j < length w.members = subst (λ (k : ℕ). j < k) same l in
    subst (λ (ls : Logs). catalogue ls (member (after_settle env w) j) ≡ join_of ls)
    (sym (logs_settled env w 0 w.members))
    (ap (λ (m : Member). catalogue (logs w) m) (member_settled env w j within)
    ∙ catalogue_joined w j s within
    (λ i li.
    ap (λ (m : Member). m.hidden) (sym (member_settled env w i li)) ∙ clear i (subst (λ (k : ℕ). i < k) (sym same) li)))

pub gathering_joins : InSoundGroups JoinsInGathering
gathering_joins env w s clear j l =
    let same : length (map (settled_member w) w.members) ≡ length w.members = length-map w.members (settled_member w) in
    let within : j < length w.members = subst (λ (k : ℕ). j < k) same l in
    subst (λ (ls : Logs). catalogue ls (member (after_gathering env w) j) ≡ join_of ls)
    (sym (logs_gathered w w.members))
    (ap (λ (m : Member). catalogue (logs w) m) (member_gathered env w j within)
    ∙ catalogue_joined w j s within
    (λ i li. ap (λ (m : Member). m.hidden) (sym (member_gathered env w i li))
    ∙ clear i (subst (λ (k : ℕ). i < k) (sym same) li)))
