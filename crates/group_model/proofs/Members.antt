-- What each change of a member keeps.
use Rattle.std.proofs.Common.{◌≡◌, inl, inr, ℕ, ◌-◌, ◌≤◌, max, Bool, true, false, cond, List}
use Rattle.std.proofs.Common.{length, get_or, refl, sym, ap, ◌∙◌, subst, arith, Option, Some, None}
use Rattle.std.proofs.lemmas.List.{length-set}
use Rattle.repo_plan.specs.declared.part.Part.{Part}
use Rattle.sorted_lists.specs.SortedList.{contains}
use Rattle.repo_plan.specs.Parts.{Pair, pair_cmp, pair_of, record_of, parent, last_part}
use Rattle.repo_plan.specs.declared.shape.Shape.{Shape}
use Rattle.repo_plan.specs.Plan.{is_wanted, is_claimed}
use Rattle.repo_plan.proofs.Changes.{at_set, unclaimed_at}
use Rattle.svs_vector.specs.Vectors.{join, covers}
use Rattle.svs_vector.proofs.JoinLemmas.{join-at, length-join}
use Rattle.svs_sync.specs.SyncStates.{SyncState, becomes_steady, after_hearing}
use Rattle.group_model.specs.Publications.{Logs, last_of, count, shape_at}
use Rattle.repo_process.specs.Processes.{Process}
use Rattle.group_model.specs.Member.{Member, member_holds, plan_of}
use Rattle.group_model.specs.Changes.{learns, member_with_claim}
use Rattle.group_model.specs.Sound.{IsSoundMember, IsPublished, IsKnown, IsWithinLogs, IsConsistentVector}
use Rattle.group_model.specs.Sound.{HeardConsistently}
use Rattle.group_model.specs.Sound.{IsHeldSoundly, IsDeletedSoundly}
use Rattle.group_model.proofs.Plans.{IsWanted, wanted_parts, wanted_from}

pub known_published : (ls : Logs) (v : List ℕ) (pair : Pair) → IsWithinLogs ls v → IsKnown v pair → IsPublished ls pair
known_published ls v pair t k = record {
  from_one = k.from_one;
  to_last = let h : get_or v pair.0 0 ≤ last_of ls pair.0 = t pair.0 in omega (arith, h, k.to_known);
}

pub known_more : (old new : List ℕ) (pair : Pair) → ((p : ℕ) → get_or old p 0 ≤ get_or new p 0) → IsKnown old pair
    → IsKnown new pair
known_more old new pair more k =
    let h : get_or old pair.0 0 ≤ get_or new pair.0 0 = more pair.0 in
    record { from_one = k.from_one; to_known = omega (arith, h, k.to_known) }

-- ---- more is published

pub record Grows (old new : Logs) : Type 0 where
  pub width : length new ≡ length old
  pub last : (p : ℕ) → last_of old p ≤ last_of new p
  pub shapes : (pair : Pair) → IsPublished old pair → shape_at new pair ≡ shape_at old pair

pub counts_grown : (old new : Logs) → Grows old new → (pair : Pair) → IsPublished old pair
    → count new pair ≡ count old pair
counts_grown old new g pair p = ap last_part (g.shapes pair p)

pub no_more_grown : (old new : Logs) (v : List ℕ) → Grows old new → IsWithinLogs old v → IsWithinLogs new v
no_more_grown old new v g t p =
    let a : get_or v p 0 ≤ last_of old p = t p in
    let b : last_of old p ≤ last_of new p = g.last p in omega (arith, a, b)

pub consistent_grown : (old new : Logs) (v : List ℕ) → Grows old new → IsConsistentVector old v
    → IsConsistentVector new v
consistent_grown old new v g t = record { width = t.width ∙ sym g.width; no_more = no_more_grown old new v g t.no_more }

heard_grown : (old new : Logs) (heard : Option (List ℕ)) → Grows old new → HeardConsistently old heard
    → HeardConsistently new heard
heard_grown old new None g h = tt
heard_grown old new (Some v) g h = consistent_grown old new v g h

-- ---- a wanted part stays wanted until it is held

-- what a change keeps: no number goes down, no part goes, no publication is hidden
pub record Keeps (old new : Member) : Type 0 where
  pub knows : (p : ℕ) → get_or old.known p 0 ≤ get_or new.known p 0
  pub held : (t : Part) → member_holds old t ≡ true → member_holds new t ≡ true
  pub hidden : new.hidden ≡ old.hidden

pub wanted_kept : (ls more : Logs) (old new : Member) (t : Part) → Keeps old new
    → shape_at more (pair_of t) ≡ shape_at ls (pair_of t) → is_wanted (plan_of ls old) t ≡ true
    → member_holds new t ≡ false → is_wanted (plan_of more new) t ≡ true
wanted_kept ls more old new t k same h env =
    let w : IsWanted ls old t = wanted_parts ls old t h in
    wanted_from more new t (record {
      known = known_more old.known new.known (pair_of t) k.knows w.known;
      counted = subst (λ (n : ℕ). t.part ≤ n) (sym (ap last_part same)) w.counted;
      with_record = elim w.with_record [
        | inl e ↦ inl e
        | inr r ↦ inr (record {
          with_record = k.held (record_of t) r.with_record;
          with_parent =
              ap (λ (s : Shape). member_holds new (parent s t)) same
              ∙ k.held (parent (shape_at ls (pair_of t)) t) r.with_parent;
        })
      ];
      not_held = env;
      not_hidden = subst (λ (x : List Pair). contains pair_cmp x (pair_of t) ≡ false) (sym k.hidden) w.not_hidden;
    })

-- ---- a change of other members

pub grown : (old new : Logs) (j : ℕ) (m : Member) → Grows old new → last_of new j ≡ last_of old j
    → IsSoundMember old j m → IsSoundMember new j m
grown old new j m g own s = record {
  width = s.width ∙ sym g.width;
  fetchers = s.fetchers;
  in_order = s.in_order;
  known = no_more_grown old new m.known g s.known;
  own = s.own ∙ sym own;
  heard = heard_grown old new m.machine.heard g s.heard;
  held = λ t h. let r : IsHeldSoundly old m.known m.held t = s.held t h in record {
    known = r.known;
    counted =
        subst (λ (n : ℕ). t.part ≤ n)
        (sym (counts_grown old new g (pair_of t) (known_published old m.known (pair_of t) s.known r.known))) r.counted;
    with_record = r.with_record;
    with_parent =
        ap (λ (x : Shape). member_holds m (parent x t))
        (g.shapes (pair_of t) (known_published old m.known (pair_of t) s.known r.known))
        ∙ r.with_parent;
  };
  hidden = s.hidden;
  own_held = λ n p.
      let there : IsPublished old (j, n) =
      record { from_one = p.from_one; to_last = subst (λ (k : ℕ). n ≤ k) own p.to_last } in
      elim (s.own_held n there) [
        | inl h ↦ inl h
        | inr f ↦ inr (λ x le. f x (subst (λ (k : ℕ). x ≤ k) (counts_grown old new g (j, n) there) le))
      ];
  claimed = λ f t e.
      let w : IsWanted old m t = wanted_parts old m t (s.claimed f t e) in
      wanted_kept old new m m t (record { knows = λ p. omega arith; held = λ u h. h; hidden = refl })
      (g.shapes (pair_of t) (known_published old m.known (pair_of t) s.known w.known)) (s.claimed f t e) w.not_held;
  apart = s.apart;
}

-- ---- what soundness doesn't speak of

-- a change of the sync state and of insertion processes alone
pub with_machine : (ls : Logs) (j : ℕ) (m : Member) (machine : SyncState) (processes : List (ℕ × Process)) (next : ℕ)
    → IsSoundMember ls j m → HeardConsistently ls machine.heard
    → IsSoundMember ls j (record m { machine = machine; processes = processes; next_process = next })
with_machine ls j m machine processes next s h = record {
  width = s.width;
  fetchers = s.fetchers;
  in_order = record {
    held = s.in_order.held;
    hidden = s.in_order.hidden;
    attempts = s.in_order.attempts;
    tried = s.in_order.tried;
  };
  known = s.known;
  own = s.own;
  heard = h;
  held = s.held;
  hidden =
      λ pair h. let r : IsDeletedSoundly m pair =
      s.hidden pair h in record { known = r.known; none_held = r.none_held };
  own_held = s.own_held;
  claimed = s.claimed;
  apart = s.apart;
}

-- ---- a member is informed of a vector

pub no_more_join : (ls : Logs) (v w : List ℕ) → IsWithinLogs ls v → IsWithinLogs ls w → IsWithinLogs ls (join v w)
no_more_join ls v w a b p =
    let x : get_or v p 0 ≤ last_of ls p = a p in
    let y : get_or w p 0 ≤ last_of ls p = b p in
    let e : get_or (join v w) p 0 ≡ max (get_or v p 0) (get_or w p 0) = join-at v w p in omega (arith, x, y, e)

pub join_more : (v w : List ℕ) (p : ℕ) → get_or v p 0 ≤ get_or (join v w) p 0
join_more v w p = let e : get_or (join v w) p 0 ≡ max (get_or v p 0) (get_or w p 0) = join-at v w p in omega (arith, e)

pub consistent_join : (ls : Logs) (v w : List ℕ) → IsConsistentVector ls v → IsConsistentVector ls w
    → IsConsistentVector ls (join v w)
consistent_join ls v w a b = record {
  width = length-join v w (a.width ∙ sym b.width) ∙ a.width;
  no_more = no_more_join ls v w a.no_more b.no_more;
}

heard_hears : (ls : Logs) (time draw : ℕ) (received known : List ℕ) (k : SyncState) (heard : Option (List ℕ))
    → IsConsistentVector ls received → HeardConsistently ls heard
    → HeardConsistently ls (after_hearing time received known draw k heard).heard
heard_hears ls time draw received known k None t h = go (covers received known) _ _ where
  go : (b : Bool) (deadline draws : ℕ)
      → HeardConsistently ls
      (cond b (becomes_steady time draw k)
      (record k { heard = Some received; deadline = deadline; draws = draws })).heard
  go true deadline draws = tt
  go false deadline draws = t
heard_hears ls time draw received known k (Some v) t h = consistent_join ls v received h t

pub sound_learns : (draw time : ℕ) (ls : Logs) (j : ℕ) (received : List ℕ) (m : Member) → IsConsistentVector ls received
    → IsSoundMember ls j m → IsSoundMember ls j (learns draw time received m)
sound_learns draw time ls j received m t s =
    let new : Member = learns draw time received m in
    let more : (p : ℕ) → get_or m.known p 0 ≤ get_or (join m.known received) p 0 = join_more m.known received in
    let keeps : Keeps m new = record { knows = more; held = λ t h. h; hidden = refl } in
    record {
      width = length-join m.known received (s.width ∙ sym t.width) ∙ s.width;
      fetchers = s.fetchers;
      in_order = record {
        held = s.in_order.held;
        hidden = s.in_order.hidden;
        attempts = s.in_order.attempts;
        tried = s.in_order.tried;
      };
      known = no_more_join ls m.known received s.known t.no_more;
      own =
          let a : get_or m.known j 0 ≡ last_of ls j = s.own in
          let b : get_or received j 0 ≤ last_of ls j = t.no_more j in
          let c : get_or (join m.known received) j 0 ≡ max (get_or m.known j 0) (get_or received j 0) =
          join-at m.known received j in
          omega (arith, a, b, c);
      heard = heard_hears ls time draw received m.known m.machine m.machine.heard t s.heard;
      held = λ u h.
          let r : IsHeldSoundly ls m.known m.held u = s.held u h in
          record {
            known = known_more m.known _ (pair_of u) more r.known;
            counted = r.counted;
            with_record = r.with_record;
            with_parent = r.with_parent;
          };
      hidden = λ pair h.
          let r : IsDeletedSoundly m pair = s.hidden pair h in
          record { known = known_more m.known _ pair more r.known; none_held = r.none_held };
      own_held = s.own_held;
      claimed =
          λ f u e.
          wanted_kept ls ls m new u keeps refl (s.claimed f u e) (wanted_parts ls m u (s.claimed f u e)).not_held;
      apart = s.apart;
    }

-- ---- claims

pub sound_claims : (ls : Logs) (j f : ℕ) (t : Part) (m : Member) → is_wanted (plan_of ls m) t ≡ true
    → is_claimed (plan_of ls m) t ≡ false → IsSoundMember ls j m → IsSoundMember ls j (member_with_claim f (Some t) m)
sound_claims ls j f t m wanted free s = record {
  width = s.width;
  fetchers = length-set m.claims (f - 1) (Some t) ∙ s.fetchers;
  in_order = record {
    held = s.in_order.held;
    hidden = s.in_order.hidden;
    attempts = s.in_order.attempts;
    tried = s.in_order.tried;
  };
  known = s.known;
  own = s.own;
  heard = s.heard;
  held = s.held;
  hidden =
      λ pair h. let r : IsDeletedSoundly m pair =
      s.hidden pair h in record { known = r.known; none_held = r.none_held };
  own_held = s.own_held;
  claimed = λ g u e. elim (at_set m.claims (f - 1) g (Some t) u e) [
    | inl r ↦ let same : t ≡ u = cc in subst (λ (v : Part). is_wanted (plan_of ls m) v ≡ true) same wanted
    | inr r ↦ s.claimed g u r.1
  ];
  apart = λ g h u a b. elim (at_set m.claims (f - 1) g (Some t) u a) [
    | inl p ↦ elim (at_set m.claims (f - 1) h (Some t) u b) [
      | inl q ↦ p.0 ∙ sym q.0
      | inr q ↦ absurd (unclaimed_at t m.claims h free (q.1 ∙ sym p.1))
    ]
    | inr p ↦ elim (at_set m.claims (f - 1) h (Some t) u b) [
      | inl q ↦ absurd (unclaimed_at t m.claims g free (p.1 ∙ sym q.1))
      | inr q ↦ s.apart g h u p.1 q.1
    ]
  ];
}

pub sound_loses : (ls : Logs) (j f : ℕ) (m : Member) → IsSoundMember ls j m
    → IsSoundMember ls j (member_with_claim f None m)
sound_loses ls j f m s = record {
  width = s.width;
  fetchers = length-set m.claims (f - 1) None ∙ s.fetchers;
  in_order = record {
    held = s.in_order.held;
    hidden = s.in_order.hidden;
    attempts = s.in_order.attempts;
    tried = s.in_order.tried;
  };
  known = s.known;
  own = s.own;
  heard = s.heard;
  held = s.held;
  hidden =
      λ pair h. let r : IsDeletedSoundly m pair =
      s.hidden pair h in record { known = r.known; none_held = r.none_held };
  own_held = s.own_held;
  claimed = λ g u e. elim (at_set m.claims (f - 1) g None u e) [ inl r ↦ absurd cc | inr r ↦ s.claimed g u r.1 ];
  apart = λ g h u a b. elim (at_set m.claims (f - 1) g None u a) [
    | inl p ↦ absurd cc
    | inr p ↦ elim (at_set m.claims (f - 1) h None u b) [ inl q ↦ absurd cc | inr q ↦ s.apart g h u p.1 q.1 ]
  ];
}
