-- A mirror that has settled lists just what its pattern accepts of the join of all publications, where no member hides
-- anything.
use Rattle.std.proofs.Common.{◌≡◌, ◌∙◌, inl, inr, ℕ, ◌≤◌, ◌<◌, Bool, true, false, not, ◌&&◌, ◌||◌, nat_le, List}
use Rattle.std.proofs.Common.{length, map, get_or, refl, sym, ap, subst, arith}
use Rattle.std.specs.Prelude.{◌==◌, filter, slice_index}
use Rattle.std.specs.List.{list_all, list_any}
use Rattle.std.proofs.lemmas.Bool.{and_from, and_parts, eqb-true, le-leb, or_right, true≢false}
use Rattle.svs_vector.specs.Vectors.{join}
use Rattle.svs_vector.proofs.JoinLemmas.{join-at}
use Rattle.repo_plan.specs.declared.part.Part.{Part}
use Rattle.sorted_lists.specs.SortedList.{contains}
use Rattle.sorted_lists.proofs.Sets.{In}
use Rattle.sorted_lists.proofs.Members.{in_at}
use Rattle.repo_plan.specs.Parts.{Pair, pair_cmp, pair_of, part_of, last_part}
use Rattle.repo_plan.proofs.Whole.{all_in}
use Rattle.repo_object.specs.Objects.{Post, shape_in, withdraws_number}
use Rattle.repo_watch.specs.Patterns.{accepts, begins_with, is_publisher}
use Rattle.group_model.specs.Publications.{Publication, count, is_object, is_unwithdrawn, join_of, last_of, object_in}
use Rattle.group_model.specs.Publications.{pair_in, parts_in, published, published_entry, withdraws}
use Rattle.group_model.specs.Member.{member_holds}
use Rattle.group_model.specs.World.{World, logs, member, no_member, someone_holds}
use Rattle.group_model.specs.Steps.{settled_vector}
use Rattle.group_model.specs.Sound.{IsSoundGroup, IsSoundMember}
use Rattle.group_model.specs.Laws.{NothingDeleted}
use Rattle.group_model.proofs.Lists.{same_any, same_filter}
use Rattle.group_model.proofs.Parts.{IsIn, IsPartOf, from_parts_in, in_published, publisher_within}
use Rattle.group_model.proofs.Settles.{someone, knows_settled}
use Rattle.repo_mirror.specs.Asked.{is_for, is_post_for}
use Rattle.repo_mirror.specs.Mirrors.{is_entry_accepted}
use Rattle.repo_mirror.proofs.Joins.{both_filters}
use Rattle.repo_mirror.proofs.Lists.{kept_object}
use Rattle.script_story.specs.Mirrors.{Mirroring, is_gained, is_listed_by, is_withdrawn_to, mirror_settles}
use Rattle.script_story.specs.Mirrors.{mirrored_entries}

-- ---- what comes

module _ (w : World) (m : Mirroring) (group : IsSoundGroup w) (clear : NothingDeleted w) where
  abbrev new : Mirroring
  new = mirror_settles w m

  -- Its publisher holds each part of a publication.
  someones : (q : Publication) → IsIn (logs w) q → (t : Part) → IsPartOf t q → someone_holds w.members t ≡ true
  someones q is t p =
      let publisher : q.publisher < length w.members = publisher_within w (pair_in q) is.there in
      let theirs : IsSoundMember (logs w) q.publisher (member w q.publisher) = group.members q.publisher publisher in
      let held : (x : ℕ) → x ≤ count (logs w) (pair_in q)
      → member_holds (member w q.publisher) (part_of (pair_in q) x) ≡ true =
      elim (theirs.own_held q.seq is.there) [
        | inl h ↦
            absurd (true≢false
            (sym h ∙ ap (λ (xs : List Pair). contains pair_cmp xs (pair_in q)) (clear q.publisher publisher)))
        | inr f ↦ f
      ] in
      someone w.members (member w q.publisher) t (in_at w.members q.publisher no_member publisher)
      (subst (λ (pair : Pair). member_holds (member w q.publisher) (part_of pair t.part) ≡ true) (sym p.pair)
      (held t.part (subst (λ (o : Post). t.part ≤ last_part (shape_in o)) is.post p.counted)))

  -- The mirror knows of each publication after the settle.
  known : (q : Publication) → IsIn (logs w) q
      → q.seq ≤ slice_index (join m.known (settled_vector w)) q.publisher
  known q is =
      let publisher : q.publisher < length w.members = publisher_within w (pair_in q) is.there in
      let own : get_or (member w q.publisher).known q.publisher 0 ≡ last_of (logs w) q.publisher =
      (group.members q.publisher publisher).own in
      let up : get_or (member w q.publisher).known q.publisher 0 ≤ get_or (settled_vector w) q.publisher 0 =
      knows_settled w group q.publisher publisher q.publisher q.publisher publisher in
      let at = join-at m.known (settled_vector w) q.publisher in
      let last = is.there.to_last in
      omega (arith, own, up, at, last)

  module _ (q : Publication) (is : IsIn (logs w) q)
      (asked : is_publisher m.pattern.publisher q.publisher ≡ true) where
    comes : (t : Part) → IsPartOf t q → (t.part == 0 || is_for m.pattern (logs w) (pair_of t)) ≡ true
        → new.holds t ≡ true
    comes t p part =
        or_right (m.holds t) (is_gained w m t)
        (and_from (nat_le t.seq (slice_index (join m.known (settled_vector w)) t.publisher)) _
        (subst (λ (pair : Pair). nat_le pair.1 (slice_index (join m.known (settled_vector w)) pair.0) ≡ true)
        (sym p.pair) (le-leb q.seq _ (known q is)))
        (and_from (is_publisher m.pattern.publisher t.publisher) _
        (ap (is_publisher m.pattern.publisher) (ap (λ (pair : Pair). pair.0) p.pair) ∙ asked)
        (and_from (t.part == 0 || is_for m.pattern (logs w) (pair_of t)) (someone_holds w.members t) part
        (someones q is t p))))

  module _ (q : Publication) (i : In q (published (logs w))) where
    -- Of a publisher that is asked, each withdrawal is known.
    withdrawn : is_publisher m.pattern.publisher q.publisher ≡ true
        → is_withdrawn_to (published (logs w)) new (pair_in q)
        ≡ list_any (withdraws (pair_in q)) (published (logs w))
    withdrawn asked =
        same_any (λ r. withdraws (pair_in q) r && new.holds (part_of (pair_in r) 0)) (withdraws (pair_in q))
        (published (logs w)) (λ r j. go r j (withdraws (pair_in q) r) refl) where
          go : (r : Publication) → In r (published (logs w)) → (b : Bool) → withdraws (pair_in q) r ≡ b
              → (b && new.holds (part_of (pair_in r) 0)) ≡ b
          go r j false e = refl
          go r j true e =
              let same : r.publisher ≡ q.publisher =
              eqb-true r.publisher q.publisher
              (and_parts (r.publisher == q.publisher) (withdraws_number r.post q.seq) e).0 in
              comes r (in_published (logs w) r j) (ap (is_publisher m.pattern.publisher) same ∙ asked)
              (part_of (pair_in r) 0) (record { pair = refl; counted = omega arith }) refl

    listed : is_listed_by (published (logs w)) new q
        ≡ (is_unwithdrawn (published (logs w)) q && is_entry_accepted m.pattern (published_entry q))
    listed = go (is_object q) refl (accepts m.pattern q.publisher (object_in q).name) refl where
      shuffled : (x : Bool) → (true && x) ≡ (x && true)
      shuffled true = refl
      shuffled false = refl

      none : (x : Bool) → false ≡ (x && false)
      none true = refl
      none false = refl

      go : (o : Bool) → is_object q ≡ o → (a : Bool) → accepts m.pattern q.publisher (object_in q).name ≡ a
          → ((o && a)
          && (list_all new.holds (parts_in q)
          && not (is_withdrawn_to (published (logs w)) new (pair_in q))))
          ≡ ((o && not (list_any (withdraws (pair_in q)) (published (logs w)))) && a)
      go false e a f = refl
      go true e false f = none (not (list_any (withdraws (pair_in q)) (published (logs w))))
      go true e true f =
          let is : IsIn (logs w) q = in_published (logs w) q i in
          let asked : is_publisher m.pattern.publisher q.publisher ≡ true =
          (and_parts (is_publisher m.pattern.publisher q.publisher) (begins_with m.pattern.prefix (object_in q).name)
          f).0 in
          let held : list_all new.holds (parts_in q) ≡ true =
          all_in new.holds (parts_in q) (λ t it.
          let p : IsPartOf t q = from_parts_in q t it in
          comes q is asked t p
          (or_right (t.part == 0) (is_for m.pattern (logs w) (pair_of t))
          (ap (is_for m.pattern (logs w)) p.pair ∙ ap (is_post_for m.pattern q.publisher) (sym is.post)
          ∙ kept_object m.pattern q.publisher q.post e ∙ f))) in
          ap (λ (b : Bool). b && not (is_withdrawn_to (published (logs w)) new (pair_in q))) held
          ∙ ap (λ (b : Bool). true && not b) (withdrawn asked)
          ∙ shuffled (not (list_any (withdraws (pair_in q)) (published (logs w))))

pub settled_joins : (w : World) (m : Mirroring) → IsSoundGroup w → NothingDeleted w
    → mirrored_entries w (mirror_settles w m) ≡ filter (is_entry_accepted m.pattern) (join_of (logs w))
settled_joins w m group clear =
    ap (map published_entry)
    (same_filter (is_listed_by (published (logs w)) (mirror_settles w m))
    (λ q. is_unwithdrawn (published (logs w)) q && is_entry_accepted m.pattern (published_entry q)) (published (logs w))
    (λ q i. listed w m group clear q i))
    ∙ sym (both_filters published_entry (is_entry_accepted m.pattern) (is_unwithdrawn (published (logs w)))
    (published (logs w)))
