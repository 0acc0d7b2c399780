-- What a settled mirror knows and lists.
use Rattle.std.proofs.Common.{◌≡◌, ◌⊎◌, inl, inr, ℕ, ◌≤◌, ◌<◌, Bool, true, false, cond, not, ◌&&◌, List, [], ◌∷◌, map}
use Rattle.std.proofs.Common.{length, get_or, max, refl, sym, ap, ◌∙◌, subst, arith}
use Rattle.std.specs.Prelude.{◌==◌, filter}
use Rattle.std.specs.List.{list_all, list_any}
use Rattle.std.proofs.lemmas.Bool.{true≢false, and_parts, cases_Bool, cases_lt, eqb-true, eqb-false}
use Rattle.std.proofs.lemmas.List.{get_or_past, length-map}
use Rattle.svs_vector.specs.Vectors.{join_all}
use Rattle.svs_vector.proofs.JoinLemmas.{join-at}
use Rattle.repo_plan.specs.declared.part.Part.{Part}
use Rattle.sorted_lists.specs.SortedList.{contains}
use Rattle.repo_plan.specs.Parts.{Pair, pair_cmp, pair_of, part_of, record_of, parent, parent_number, last_part}
use Rattle.sorted_lists.proofs.Sets.{In}
use Rattle.sorted_lists.proofs.Members.{in_at}
use Rattle.repo_plan.proofs.Whole.{all_in}
use Rattle.repo_object.specs.Objects.{Post, shape_in, contents_of, withdraws_number}
use Rattle.repo_watch.specs.declared.pattern.Pattern.{Pattern}
use Rattle.repo_watch.specs.Patterns.{is_publisher, begins_with, accepts}
use Rattle.group_model.specs.Publications.{Publication, pair_in, post_at, shape_at, last_of, count, parts_in, published}
use Rattle.group_model.specs.Publications.{is_object, object_in, withdraws, is_unwithdrawn, published_entry}
use Rattle.group_model.specs.Member.{Member, member_holds}
use Rattle.group_model.specs.World.{World, no_member, member, logs, someone_holds}
use Rattle.group_model.specs.Steps.{settled_vector}
use Rattle.group_model.specs.Sound.{IsSoundGroup, IsSoundMember, IsKnown}
use Rattle.group_model.specs.Laws.{NothingDeleted}
use Rattle.group_model.proofs.Lists.{same_filter, same_any}
use Rattle.group_model.proofs.Parts.{IsIn, in_published, publisher_within, IsPartOf, from_parts_in}
use Rattle.group_model.proofs.Parents.{parent_within, parent_of_parent}
use Rattle.group_model.proofs.Settles.{someone, knows_settled, settled_no_more}
use Rattle.repo_mirror.specs.Asked.{is_for}
use Rattle.repo_mirror.specs.Mirrors.{Mirror, mirror_holds, IsPartAskedFor, IsSoundMirror, mirror_knows_withdrawn}
use Rattle.repo_mirror.specs.Mirrors.{is_listed_by_mirror, is_entry_accepted}
use Rattle.repo_mirror.specs.MirrorLaws.{WantsNothingHeld, KnowsAll, MirrorsLearnAll, MirrorsJoin}
use Rattle.repo_mirror.proofs.Lists.{kept_object, kept_of}

-- ---- the vector

none_received : (ms : List Member) (p : ℕ) → length ms ≤ 0 → get_or (join_all (map (λ m. m.known) ms)) p 0 ≡ 0
unfolding join_all
none_received [] p h = refl
none_received (m ∷ ms) p h = absurd (omega (arith, h))

pub learn_all : MirrorsLearnAll
learn_all w m s v p =
    let at = join-at m.known (settled_vector w) p in
    let most = go (cases_lt p (length w.members)) in omega (arith, at, most) where
      mine : get_or m.known p 0 ≤ last_of (logs w) p
      mine = v.no_more p

      no_more : get_or (settled_vector w) p 0 ≤ last_of (logs w) p
      no_more = elim (cases_lt 0 (length w.members)) [
        | inl l ↦ settled_no_more w s 0 l p
        | inr none ↦ let nothing = none_received w.members p none in omega (arith, nothing)
      ]

      nobody : length w.members ≤ p → last_of (logs w) p ≡ 0
      nobody past =
          let beyond : length (logs w) ≤ p =
          subst (λ (n : ℕ). n ≤ p) (sym (length-map w.members (λ (x : Member). x.log))) past in
          ap (λ (os : List Post). length os) (get_or_past (logs w) p [] beyond)

      go : (p < length w.members) ⊎ (length w.members ≤ p)
          → max (get_or m.known p 0) (get_or (settled_vector w) p 0) ≡ last_of (logs w) p
      go (inl l) =
          let own : get_or (member w p).known p 0 ≡ last_of (logs w) p = (s.members p l).own in
          let up : get_or (member w p).known p 0 ≤ get_or (settled_vector w) p 0 = knows_settled w s p l p p l in
          omega (arith, own, up, mine, no_more)
      go (inr past) = let none = nobody past in omega (arith, none, mine, no_more)

-- ---- lists

pub both_filters : {A B : Type 0} (f : A → B) (p : B → Bool) (g : A → Bool) (xs : List A)
    → filter p (map f (filter g xs)) ≡ map f (filter (λ x. g x && p (f x)) xs)
both_filters f p g [] = refl
both_filters {A} {B} f p g (x ∷ xs) = go (g x) (both_filters f p g xs) where
  one : (c : Bool) → filter p (map f (filter g xs)) ≡ map f (filter (λ y. g y && p (f y)) xs)
      → cond c (f x ∷ filter p (map f (filter g xs))) (filter p (map f (filter g xs)))
      ≡ map f (cond c (x ∷ filter (λ y. g y && p (f y)) xs) (filter (λ y. g y && p (f y)) xs))
  one true h = ap (λ (rest : List B). f x ∷ rest) h
  one false h = h

  go : (b : Bool) → filter p (map f (filter g xs)) ≡ map f (filter (λ y. g y && p (f y)) xs)
      → filter p (map f (cond b (x ∷ filter g xs) (filter g xs)))
      ≡ map f (cond (b && p (f x)) (x ∷ filter (λ y. g y && p (f y)) xs) (filter (λ y. g y && p (f y)) xs))
  go true h = one (p (f x)) h
  go false h = h

-- ---- joining all

module _ (pattern : Pattern) (w : World) (m : Mirror) (group : IsSoundGroup w) (clear : NothingDeleted w)
    (sound : IsSoundMirror pattern (logs w) m) (all : KnowsAll w m)
    (rest : WantsNothingHeld pattern (logs w) w.members m) where
  -- its publisher holds each part of a publication
  someones : (q : Publication) → IsIn (logs w) q → (t : Part) → IsPartOf t q → someone_holds w.members t ≡ true
  someones q is t p =
      let publisher : q.publisher < length w.members = publisher_within w (pair_in q) is.there in
      let theirs : IsSoundMember (logs w) q.publisher (member w q.publisher) = group.members q.publisher publisher in
      let held : (x : ℕ) → x ≤ count (logs w) (pair_in q)
      → member_holds (member w q.publisher) (part_of (pair_in q) x) ≡ true =
      elim (theirs.own_held q.seq is.there) [
        | inl h ↦
            absurd (true≢false
            (sym h ∙ ap (λ (xs : List Pair). contains pair_cmp xs (pair_in q)) (clear q.publisher publisher)))
        | inr f ↦ f
      ] in
      someone w.members (member w q.publisher) t (in_at w.members q.publisher no_member publisher)
      (subst (λ (pair : Pair). member_holds (member w q.publisher) (part_of pair t.part) ≡ true) (sym p.pair)
      (held t.part (subst (λ (o : Post). t.part ≤ last_part (shape_in o)) is.post p.counted)))

  module _ (q : Publication) (is : IsIn (logs w) q)
      (asked : is_publisher pattern.publisher q.publisher ≡ true) where
    known : (t : Part) → IsPartOf t q → IsKnown m.known (pair_of t)
    known t p =
        subst (λ (pair : Pair). IsKnown m.known pair) (sym p.pair) (record {
          from_one = is.there.from_one;
          to_known = subst (λ (n : ℕ). q.seq ≤ n) (sym (all q.publisher)) is.there.to_last;
        })

    -- a part that can be gained is held
    comes : (t : Part) → IsPartOf t q → ((t.part ≡ 0) ⊎ IsPartAskedFor pattern (logs w) m t)
        → mirror_holds m t ≡ true
    comes t p part = elim (cases_Bool (mirror_holds m t)) [
      | inl h ↦ h
      | inr free ↦
          absurd (true≢false
          (sym (someones q is t p)
          ∙ rest t (record {
            known = known t p;
            publisher = ap (is_publisher pattern.publisher) (ap (λ (pair : Pair). pair.0) p.pair) ∙ asked;
            part = part;
            not_held = free;
          })))
    ]

    held_record : (t : Part) → IsPartOf t q → mirror_holds m (record_of t) ≡ true
    held_record t p = comes (record_of t) (record { pair = p.pair; counted = omega arith }) (inl refl)

    module _ (accepted : (t : Part) → IsPartOf t q → is_for pattern (logs w) (pair_of t) ≡ true) where
      counted : (t : Part) → IsPartOf t q → t.part ≤ count (logs w) (pair_of t)
      counted t p =
          subst (λ (pair : Pair). t.part ≤ count (logs w) pair) (sym p.pair)
          (subst (λ (o : Post). t.part ≤ last_part (shape_in o)) is.post p.counted)

      -- a part after the record, where the part that lists it is held
      after : (t : Part) → IsPartOf t q → (t.part == 0) ≡ false
          → mirror_holds m (parent (shape_at (logs w) (pair_of t)) t) ≡ true → mirror_holds m t ≡ true
      after t p s listed =
          let above = eqb-false t.part 0 s in
          comes t p (inr (record {
            from_one = omega (arith, above);
            counted = counted t p;
            with_parent = listed;
            accepted = accepted t p;
          }))

      -- the part that lists a part is held
      held_parent : (t : Part) → IsPartOf t q → mirror_holds m (parent (shape_at (logs w) (pair_of t)) t) ≡ true
      held_parent t p = go (parent_number (shape_at (logs w) (pair_of t)) t.part == 0) refl where
        n : ℕ
        n = length (contents_of (post_at (logs w) (pair_of t)))

        up : Part
        up = parent (shape_at (logs w) (pair_of t)) t

        there : up.part ≤ last_part (shape_in q.post)
        there =
            subst (λ (o : Post). up.part ≤ last_part (shape_in o))
            (ap (post_at (logs w)) p.pair ∙ sym is.post) (parent_within n t.part (counted t p))

        go : (b : Bool) → (parent_number (shape_at (logs w) (pair_of t)) t.part == 0) ≡ b → mirror_holds m up ≡ true
        go true e =
            ap (λ (x : ℕ). mirror_holds m (part_of (pair_of t) x))
            (eqb-true (parent_number (shape_at (logs w) (pair_of t)) t.part) 0 e)
            ∙ held_record t p
        go false e =
            after up (record { pair = p.pair; counted = there }) e
            (ap (λ (x : ℕ). mirror_holds m (part_of (pair_of t) x)) (parent_of_parent n t.part (counted t p))
            ∙ held_record t p)

      held_all : (t : Part) → IsPartOf t q → mirror_holds m t ≡ true
      held_all t p = go (t.part == 0) refl where
        go : (b : Bool) → (t.part == 0) ≡ b → mirror_holds m t ≡ true
        go true e = comes t p (inl (eqb-true t.part 0 e))
        go false e = after t p e (held_parent t p)

  module _ (q : Publication) (i : In q (published (logs w))) where
    -- of a publisher that is asked, each withdrawal is known
    withdrawn : is_publisher pattern.publisher q.publisher ≡ true
        → mirror_knows_withdrawn pattern (published (logs w)) m (pair_in q)
        ≡ list_any (withdraws (pair_in q)) (published (logs w))
    withdrawn asked =
        same_any (λ r. withdraws (pair_in q) r && mirror_holds m (part_of (pair_in r) 0)) (withdraws (pair_in q))
        (published (logs w)) (λ r j. go r j (withdraws (pair_in q) r) refl) where
          go : (r : Publication) → In r (published (logs w)) → (b : Bool) → withdraws (pair_in q) r ≡ b
              → (b && mirror_holds m (part_of (pair_in r) 0)) ≡ b
          go r j false e = refl
          go r j true e =
              let same : r.publisher ≡ q.publisher =
              eqb-true r.publisher q.publisher
              (and_parts (r.publisher == q.publisher) (withdraws_number r.post q.seq) e).0 in
              held_record r (in_published (logs w) r j)
              (ap (is_publisher pattern.publisher) same ∙ asked) (part_of (pair_in r) 0)
              (record { pair = refl; counted = omega arith })

    listed : is_listed_by_mirror pattern (published (logs w)) m q
        ≡ (is_unwithdrawn (published (logs w)) q && is_entry_accepted pattern (published_entry q))
    listed = go (is_object q) refl (accepts pattern q.publisher (object_in q).name) refl where
      shuffled : (x : Bool) → (true && x) ≡ (x && true)
      shuffled true = refl
      shuffled false = refl

      none : (x : Bool) → false ≡ (x && false)
      none true = refl
      none false = refl

      go : (o : Bool) → is_object q ≡ o → (a : Bool) → accepts pattern q.publisher (object_in q).name ≡ a
          → ((o && a)
          && (list_all (mirror_holds m) (parts_in q)
          && not (mirror_knows_withdrawn pattern (published (logs w)) m (pair_in q))))
          ≡ ((o && not (list_any (withdraws (pair_in q)) (published (logs w)))) && a)
      go false e a f = refl
      go true e false f = none (not (list_any (withdraws (pair_in q)) (published (logs w))))
      go true e true f =
          let is : IsIn (logs w) q = in_published (logs w) q i in
          let asked : is_publisher pattern.publisher q.publisher ≡ true =
          (and_parts (is_publisher pattern.publisher q.publisher) (begins_with pattern.prefix (object_in q).name)
          f).0 in
          let held : list_all (mirror_holds m) (parts_in q) ≡ true =
          all_in (mirror_holds m) (parts_in q) (λ t it.
          held_all q is asked
          (λ u p. kept_of pattern (logs w) m sound q is u p.pair ∙ kept_object pattern q.publisher q.post e ∙ f) t
          (from_parts_in q t it)) in
          ap (λ (b : Bool). b && not (mirror_knows_withdrawn pattern (published (logs w)) m (pair_in q))) held
          ∙ ap (λ (b : Bool). true && not b) (withdrawn asked)
          ∙ shuffled (not (list_any (withdraws (pair_in q)) (published (logs w))))

pub joins : MirrorsJoin
joins pattern w m group clear sound all rest =
    ap (map published_entry)
    (same_filter (is_listed_by_mirror pattern (published (logs w)) m)
    (λ q. is_unwithdrawn (published (logs w)) q && is_entry_accepted pattern (published_entry q)) (published (logs w))
    (λ q i. listed pattern w m group clear sound all rest q i))
    ∙ sym (both_filters published_entry (is_entry_accepted pattern) (is_unwithdrawn (published (logs w)))
    (published (logs w)))
