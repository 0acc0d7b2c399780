-- What members list right after a settle, whatever was deleted.
use Rattle.std.proofs.Common.{◌≡◌, inl, inr, ℕ, ◌≤◌, ◌<◌, true, false, length, get_or, refl, sym, ap, ◌∙◌, subst, arith}
use Rattle.std.proofs.lemmas.Bool.{true≢false, false_from_ne_true, cases_Bool}
use Rattle.repo_plan.specs.declared.part.Part.{Part}
use Rattle.repo_plan.specs.Parts.{Pair, part_of}
use Rattle.group_model.specs.Publications.{Logs, count, last_of, all_parts, post_at}
use Rattle.group_model.specs.Member.{Member, member_holds, has_deleted}
use Rattle.group_model.specs.World.{World, no_member, member, logs, someone_holds, Environment, initial_world}
use Rattle.group_model.specs.Events.{Event}
use Rattle.group_model.specs.Steps.{settled_vector, settled_member, is_gained, new_parts, after_settle, after_events}
use Rattle.group_model.specs.Sound.{IsSoundGroup, IsPublished}
use Rattle.group_model.specs.Catalogues.{BelongsInCatalogue, ListsRightly}
use Rattle.group_model.specs.Reached.{InSoundGroups, InReachedGroups}
use Rattle.group_model.specs.Deletions.{OnlyObjectsDeleted}
use Rattle.repo_object.specs.Objects.{Post, offered, withdraws_number}
use Rattle.repo_object.specs.Objects.Post.{Offers, Withdraws}
use Rattle.group_model.proofs.DeletedObjects.{reached_with_objects_deleted}
use Rattle.group_model.proofs.Runs.{reached}
use Rattle.std.specs.Prelude.{is_some}
use Rattle.group_model.specs.Settles.{IsHeldAmong, ListsWhatIsHeld, ListsWhatIsLeft}
use Rattle.sorted_lists.proofs.Sets.{In}
use Rattle.sorted_lists.proofs.Members.{in_at, in_filtered}
use Rattle.group_model.proofs.Parts.{publisher_within}
use Rattle.group_model.proofs.Gains.{held_either}
use Rattle.group_model.proofs.Settles.{someone, settles, comes, knows_settled, keeps_held, gets, logs_settled}
use Rattle.group_model.proofs.Settles.{length_settled}
use Rattle.group_model.proofs.Settles.{member_settled}
use Rattle.group_model.proofs.Catalogues.{lists_those}
use Rattle.group_model.proofs.Among.{in_all_parts}
use Rattle.group_model.proofs.Worlds.{sound_after}

module _ (w : World) (s : IsSoundGroup w) (j : ℕ) (l : j < length w.members) (pair : Pair) where
  abbrev old : Member
  old = member w j

  abbrev new : Member
  new = settled_member w old

  someones : (t : Part) → member_holds new t ≡ true → someone_holds w.members t ≡ true
  someones t h = elim (held_either (new_parts w old) old t h) [
    | inl i ↦
        let r : In t (all_parts (logs w)) × (is_gained w old t ≡ true) =
        in_filtered (is_gained w old) (all_parts (logs w)) t i in
        (comes w old t r.1).someones
    | inr was ↦ someone w.members old t (in_at w.members j no_member l) was
  ]

  among : BelongsInCatalogue (logs w) new pair → IsHeldAmong w pair
  among h = record {
    published = h.published;
    object = h.object;
    parts = λ x le. someones (part_of pair x) (h.held x le);
  }

  known : IsPublished (logs w) pair → pair.1 ≤ get_or (settled_vector w) pair.0 0
  known h =
      let publisher : pair.0 < length w.members = publisher_within w pair h in
      let own : get_or (member w pair.0).known pair.0 0 ≡ last_of (logs w) pair.0 = (s.members pair.0 publisher).own in
      let up : get_or (member w pair.0).known pair.0 0 ≤ get_or (settled_vector w) pair.0 0 =
      knows_settled w s j l pair.0 pair.0 publisher in
      omega (arith, own, up, h.to_last)

  comes_whole : IsHeldAmong w pair → has_deleted old pair ≡ false → (x : ℕ) → x ≤ count (logs w) pair
      → member_holds new (part_of pair x) ≡ true
  comes_whole h clear x le = elim (cases_Bool (member_holds old (part_of pair x))) [
    | inl was ↦ keeps_held w s j l (part_of pair x) was
    | inr free ↦
        gets w s j l (part_of pair x)
        (in_all_parts (logs w) (part_of pair x) (record { there = h.published; counted = le })) (record {
          received = known h.published;
          not_hidden = clear;
          someones = h.parts x le;
          record_too = h.parts 0 (omega arith);
          fresh = free;
        })
  ]

  -- the record of a publication that nobody hides
  record_comes : IsPublished (logs w) pair
      → ((i : ℕ) → i < length w.members → has_deleted (member w i) pair ≡ false)
      → member_holds new (part_of pair 0) ≡ true
  record_comes there clear =
      let t : Part = part_of pair 0 in
      let publisher : pair.0 < length w.members = publisher_within w pair there in
      let its : member_holds (member w pair.0) t ≡ true = elim ((s.members pair.0 publisher).own_held pair.1 there) [
        | inl hidden ↦ absurd (true≢false (sym hidden ∙ clear pair.0 publisher))
        | inr held ↦ held 0 (omega arith)
      ] in
      let someone_has : someone_holds w.members t ≡ true =
      someone w.members (member w pair.0) t (in_at w.members pair.0 no_member publisher) its in
      elim (cases_Bool (member_holds old t)) [
        | inl was ↦ keeps_held w s j l t was
        | inr free ↦
            gets w s j l t (in_all_parts (logs w) t (record { there = there; counted = omega arith })) (record {
              received = known there;
              not_hidden = clear j l;
              someones = someone_has;
              record_too = someone_has;
              fresh = free;
            })
      ]

pub lists_what_is_held : InSoundGroups ListsWhatIsHeld
lists_what_is_held env w s j pair l =
    let settled : World = after_settle env w in
    let within : j < length settled.members =
    subst (λ (k : ℕ). j < k) (sym (length_settled env w 0 w.members)) l in
    let sound : IsSoundGroup settled = sound_after env w Event.Settle (record { named = tt; taken = refl }) s in
    let right : ListsRightly settled j pair = lists_those env settled sound j pair within in
    let is : member settled j ≡ settles env w j (member w j) = member_settled env w j l in
    let same : logs settled ≡ logs w = logs_settled env w 0 w.members in (
      λ yes.
          let whole : BelongsInCatalogue (logs settled) (member settled j) pair = right.exactly.0 yes in
          let old_logs : BelongsInCatalogue (logs w) (member settled j) pair =
          subst (λ (ls : Logs). BelongsInCatalogue ls (member settled j) pair) same whole in
          let now : BelongsInCatalogue (logs w) (settles env w j (member w j)) pair =
          subst (λ (m : Member). BelongsInCatalogue (logs w) m pair) is old_logs in (
            among w s j l pair (record {
              published = now.published;
              object = now.object;
              held = now.held;
              not_withdrawn = now.not_withdrawn;
            }),
            false_from_ne_true (has_deleted (member w j) pair) (λ hidden.
                true≢false (sym yes ∙ right.not_hidden
                (ap (λ (m : Member). has_deleted m pair) is ∙ hidden))),
            old_logs.not_withdrawn,
          ),
      λ h.
          let there : BelongsInCatalogue (logs w) (member settled j) pair = record {
            published = h.0.published;
            object = h.0.object;
            held = λ x le.
                ap (λ (m : Member). member_holds m (part_of pair x)) is ∙ comes_whole w s j l pair h.0 h.1 x le;
            not_withdrawn = h.2;
          } in
          right.exactly.1 (subst (λ (ls : Logs). BelongsInCatalogue ls (member settled j) pair) (sym same) there),
    )

-- ---- where only objects are hidden

no_object : (o : Post) (seq : ℕ) → withdraws_number o seq ≡ true → is_some (offered o) ≡ true → ⊥
no_object (Offers object) seq is h = true≢false (sym is)
no_object (Withdraws withdrawn) seq is h = true≢false (sym h)

-- each withdrawal reaches all members
withdrawal_comes : (env : Environment) (w : World) (s : IsSoundGroup w) (j : ℕ) → j < length w.members
    → OnlyObjectsDeleted w
    → (pair : Pair) (seq : ℕ) → IsPublished (logs w) pair → withdraws_number (post_at (logs w) pair) seq ≡ true
    → member_holds (member (after_settle env w) j) (part_of pair 0) ≡ true
withdrawal_comes env w s j l only pair seq there is =
    ap (λ (m : Member). member_holds m (part_of pair 0)) (member_settled env w j l)
    ∙ record_comes w s j l pair there (λ i within. false_from_ne_true (has_deleted (member w i) pair)
    (λ hidden. no_object (post_at (logs w) pair) seq is (only i pair within hidden).object))

pub lists_what_is_left : InSoundGroups (λ env w. OnlyObjectsDeleted w → ListsWhatIsLeft env w)
lists_what_is_left env w s only j pair l =
    let held = lists_what_is_held env w s j pair l in (
      λ yes.
          let r = held.0 yes in (
            r.0,
            r.1,
            record {
              published = r.0.published;
              object = r.0.object;
              not_withdrawn = λ u there. false_from_ne_true
                  (withdraws_number (post_at (logs w) (pair.0, u)) pair.1) (λ is.
                  true≢false
                  (sym (withdrawal_comes env w s j l only (pair.0, u) pair.1 there is) ∙ r.2 u there is));
            },
          ),
      λ h. held.1 (h.0, h.1, λ u there is. absurd (true≢false (sym is ∙ h.2.not_withdrawn u there))),
    )

pub reached_lists_what_is_left : InReachedGroups ListsWhatIsLeft
reached_lists_what_is_left env n es h =
    lists_what_is_left env (after_events env (initial_world env n) es) (reached env n es h)
    (reached_with_objects_deleted env n es h)
