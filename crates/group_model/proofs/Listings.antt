-- What stays listed.
use Rattle.std.proofs.Common.{◌≡◌, inl, inr, ℕ, ◌-◌, ◌≤◌, ◌<◌, List, [], length, get_or, take, min, sym, ap, ◌∙◌, subst}
use Rattle.std.proofs.Common.{arith}
use Rattle.std.proofs.lemmas.Bool.{true≢false, cases_Bool}
use Rattle.std.proofs.lemmas.List.{get_or-take, get_or-map, length-take}
use Rattle.repo_plan.specs.Parts.{Pair, part_of, last_part}
use Rattle.repo_object.specs.Objects.{Post, offered, shape_in}
use Rattle.std.specs.Prelude.{is_some}
use Rattle.group_model.specs.Publications.{published, last_of, post_at, no_post}
use Rattle.group_model.specs.Member.{Member, has_deleted, knows_withdrawn}
use Rattle.group_model.specs.World.{World, no_member, member, logs}
use Rattle.group_model.specs.Steps.{after_events}
use Rattle.group_model.specs.Sound.{IsSoundGroup, IsPublished}
use Rattle.group_model.specs.Catalogues.{BelongsInCatalogue}
use Rattle.group_model.specs.Reached.{InSoundGroups}
use Rattle.group_model.specs.Lasting.{AllLast, EntriesStay}
use Rattle.group_model.proofs.Parts.{publisher_within}
use Rattle.group_model.proofs.Catalogues.{none_known, lists_those}
use Rattle.group_model.proofs.Lasting.{nothing_taken_back}
use Rattle.group_model.proofs.Worlds.{sound_after_all}

log_at : (w : World) (p : ℕ) → p < length w.members → get_or (logs w) p [] ≡ (member w p).log
log_at w p l = get_or-map (λ (m : Member). m.log) w.members p no_member [] l

module _ (w new : World) (last : AllLast w new) (pair : Pair) (there : IsPublished (logs w) pair) where
  publisher : pair.0 < length w.members
  publisher = publisher_within w pair there

  old_log : get_or (logs w) pair.0 [] ≡ (member w pair.0).log
  old_log = log_at w pair.0 publisher

  new_log : get_or (logs new) pair.0 [] ≡ (member new pair.0).log
  new_log = log_at new pair.0 (subst (λ (n : ℕ). pair.0 < n) (sym last.width) publisher)

  inside : pair.1 - 1 < length (member w pair.0).log
  inside =
      let n : length (get_or (logs w) pair.0 []) ≡ length (member w pair.0).log = ap length old_log in
      omega (arith, n, there.from_one, there.to_last)

  same_post : post_at (logs new) pair ≡ post_at (logs w) pair
  same_post =
      ap (λ (l : List Post). get_or l (pair.1 - 1) no_post) new_log
      ∙ sym (get_or-take (length (member w pair.0).log) (member new pair.0).log (pair.1 - 1) no_post inside)
      ∙ ap (λ (l : List Post). get_or l (pair.1 - 1) no_post) ((last.members pair.0 publisher).log ∙ sym old_log)

  longer : pair.1 ≤ last_of (logs new) pair.0
  longer =
      let n : length (get_or (logs w) pair.0 []) ≡ length (member w pair.0).log = ap length old_log in
      let m : length (get_or (logs new) pair.0 []) ≡ length (member new pair.0).log = ap length new_log in
      let t : length (take (length (member w pair.0).log) (member new pair.0).log) ≡ length (member w pair.0).log =
      ap length (last.members pair.0 publisher).log in
      let b : length (take (length (member w pair.0).log) (member new pair.0).log) ≤ length (member new pair.0).log =
      short (length (member w pair.0).log) (member new pair.0).log in
      omega (arith, n, m, t, b, there.to_last)
    where
      short : (n : ℕ) (l : List Post) → length (take n l) ≤ length l
      short n l = let e : length (take n l) ≡ min n (length l) = length-take n l in omega (arith, e)

pub entries_stay : InSoundGroups EntriesStay
entries_stay env w s es j pair taken l is_listed =
    let new : World = after_events env w es in
    let last : AllLast w new = nothing_taken_back env w s es taken in
    let sound : IsSoundGroup new = sound_after_all env es w taken s in
    let within : j < length new.members = subst (λ (n : ℕ). j < n) (sym last.width) l in
    let was : BelongsInCatalogue (logs w) (member w j) pair = (lists_those env w s j pair l).exactly.0 is_listed in
    let same : post_at (logs new) pair ≡ post_at (logs w) pair = same_post w new last pair was.published in
    record {
      object = same;
      listed = elim (cases_Bool (has_deleted (member new j) pair)) [
        | inl hidden ↦ inr (inl hidden)
        | inr free ↦ elim (cases_Bool (knows_withdrawn (published (logs new)) (member new j) pair)) [
          | inl withdrawn ↦ inr (inr withdrawn)
          | inr unknown ↦ inl ((lists_those env new sound j pair within).exactly.1 (record {
            published = record { from_one = was.published.from_one; to_last = longer w new last pair was.published };
            object = ap (λ (o : Post). is_some (offered o)) same ∙ was.object;
            held = λ x le. elim ((last.members j l).held (part_of pair x)
                (was.held x (subst (λ (o : Post). x ≤ last_part (shape_in o)) same le))) [
                  | inl held ↦ held
                  | inr hid ↦ absurd (true≢false (sym hid ∙ free))
                ];
            not_withdrawn = none_known (logs new) (member new j) pair unknown;
          }))
        ]
      ];
    }
