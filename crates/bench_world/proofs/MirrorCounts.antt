-- What a mirror keeps of what was received for it.
use Rattle.std.proofs.Common.{◌≡◌, inl, inr, ℕ, Bool, true, false, cond, ◌==◌, ◌&&◌, ◌||◌, List, [], ◌∷◌, map}
use Rattle.std.proofs.Common.{Option, Some, None, refl, sym, ap, ◌∙◌}
use Rattle.std.specs.Prelude.{is_some, not, option_map, unwrap_or}
use Rattle.std.proofs.lemmas.Bool.{true≢false, and_parts, or_cases, or_parts, cases_Bool}
use Rattle.sorted_lists.specs.SortedList.{keys, contains, insert_keys}
use Rattle.sorted_lists.proofs.Sets.{contains_in}
use Rattle.repo_plan.specs.declared.part.Part.{Part}
use Rattle.repo_plan.specs.Parts.{Pair, pair_cmp, part_cmp, pair_of}
use Rattle.repo_plan.proofs.Orders.{exact_parts}
use Rattle.repo_holdings.specs.Hiding.{with_hidden}
use Rattle.repo_holdings.specs.Taking.{Fetched, with_all_fetched}
use Rattle.group_model.specs.Publications.{Logs}
use Rattle.repo_mirror.specs.Asked.{is_for}
use Rattle.repo_mirror.specs.Mirrors.{mirror_holds, IsWantedByMirror}
use Rattle.repo_member.specs.Groups.{GroupKeys}
use Rattle.repo_member.specs.InGroup.{AreLogs, asked_for, parts_fetched}
use Rattle.repo_mirror.specs.MirrorState.{MirrorState}
use Rattle.repo_mirror.specs.Passing.{is_packet_for, is_fetch_for, mirror_takes}
use Rattle.repo_mirror.specs.ConsistentMirrors.{mirror_in_group, IsConsistentMirror, FetchForMirror, TakesConsistently}
use Rattle.repo_mirror.proofs.PublicLaws.{mirrors_want_alike, mirrors_take_consistent}
use Rattle.bench_world.proofs.Timers.{all_one}

module _ (g : GroupKeys) (logs : Logs) (m : MirrorState) (x : Fetched) (are : AreLogs g logs)
    (consistent : IsConsistentMirror g logs m) (come : FetchForMirror g logs m x) where
  wanted : IsWantedByMirror m.pattern logs (mirror_in_group m) x.part
  wanted = (mirrors_want_alike g logs m x.part are consistent).0 come.part_wanted

  takes : TakesConsistently g logs (x ∷ []) m
  takes = mirrors_take_consistent g logs m (x ∷ []) are consistent (all_one (FetchForMirror g logs m) x come)

  -- A part whose packet was received is held.
  held_now : is_some x.packet ≡ true → mirror_holds (mirror_in_group (mirror_takes (x ∷ []) m)) x.part ≡ true
  held_now some =
      takes.held x.part ∙ ap (λ (b : Bool). b || mirror_holds (mirror_in_group m) x.part) came where
        came : contains part_cmp (parts_fetched (x ∷ [])) x.part ≡ true
        came =
            ap (λ (b : Bool). contains part_cmp (asked_for (cond b (x ∷ []) [])) x.part) some
            ∙ contains_in exact_parts (x.part ∷ []) x.part (inl refl)

  -- A packet that was received is kept exactly if the mirror's pattern is for the part's publication.
  kept_came : (b : Bool) → is_fetch_for m.pattern x ≡ b → is_some x.packet ≡ true
      → is_for m.pattern logs (pair_of x.part) ≡ b
  kept_came true kept some =
      let was = or_parts (contains part_cmp (keys m.store) x.part)
      (x.part.part == 0 && contains pair_cmp m.passed (pair_of x.part)) wanted.not_held in
      let passed : (mirror_takes (x ∷ []) m).passed ≡ m.passed =
      ap (λ (b : Bool). with_hidden (insert_keys pair_cmp (map (λ (y : Fetched). pair_of y.part)
      (cond (not b) (x ∷ []) [])) []) m.passed) kept in
      elim (or_cases (contains part_cmp (keys (mirror_takes (x ∷ []) m).store) x.part)
      (x.part.part == 0 && contains pair_cmp (mirror_takes (x ∷ []) m).passed (pair_of x.part)) (held_now some)) [
        | inl here ↦ (takes.stays.sound.kept x.part here).accepted
        | inr there ↦ absurd (true≢false (sym there
            ∙ ap (λ (pairs : List Pair). x.part.part == 0 && contains pair_cmp pairs (pair_of x.part)) passed ∙ was.1))
      ]
  kept_came false kept some =
      let was = or_parts (contains part_cmp (keys m.store) x.part)
      (x.part.part == 0 && contains pair_cmp m.passed (pair_of x.part)) wanted.not_held in
      let stored : (mirror_takes (x ∷ []) m).store ≡ m.store =
      ap (λ (b : Bool). with_all_fetched (cond b (x ∷ []) []) m.store) kept in
      elim (or_cases (contains part_cmp (keys (mirror_takes (x ∷ []) m).store) x.part)
      (x.part.part == 0 && contains pair_cmp (mirror_takes (x ∷ []) m).passed (pair_of x.part)) (held_now some)) [
        | inl here ↦ absurd (true≢false (sym here
            ∙ ap (λ (packets : List (Part × List ℕ)). contains part_cmp (keys packets) x.part) stored ∙ was.0))
        | inr there ↦
            let p = and_parts (x.part.part == 0) (contains pair_cmp (mirror_takes (x ∷ []) m).passed (pair_of x.part))
            there in
            (takes.stays.sound.passed (pair_of x.part) p.1).not_accepted
      ]

  -- Its attempts count unless it is a record that is passed over.
  pub counts : is_fetch_for m.pattern x ≡ (is_for m.pattern logs (pair_of x.part) || not (is_some x.packet))
  counts = elim (cases_Bool (is_some x.packet)) [
    | inl some ↦
        sym (kept_came (is_fetch_for m.pattern x) refl some)
        ∙ came (is_for m.pattern logs (pair_of x.part))
        ∙ ap (λ (b : Bool). is_for m.pattern logs (pair_of x.part) || not b) (sym some)
    | inr none ↦
        lost x.packet none
        ∙ lost_too (is_for m.pattern logs (pair_of x.part))
        ∙ ap (λ (b : Bool). is_for m.pattern logs (pair_of x.part) || not b) (sym none)
  ] where
    came : (b : Bool) → b ≡ (b || not true)
    came true = refl
    came false = refl

    lost : (o : Option (List ℕ)) → is_some o ≡ false
        → unwrap_or (option_map (is_packet_for m.pattern x.part) o) true ≡ true
    lost None h = refl
    lost (Some octets) h = absurd (true≢false h)

    lost_too : (b : Bool) → true ≡ (b || not false)
    lost_too true = refl
    lost_too false = refl
