-- What a member announces and lends.
use Rattle.std.proofs.Common.{◌≡◌, inl, inr, ℕ, ◌-◌, ◌<◌, ◌≤◌, Bool, true, false, List, length, get_or, Option}
use Rattle.std.proofs.Common.{Some, None, is_some, refl, ap, sym, ◌∙◌, subst, arith, ◌==◌}
use Rattle.std.specs.Prelude.{slice_get, if◌then◌else◌}
use Rattle.std.specs.Option.{option_and_then}
use Rattle.std.proofs.lemmas.Bool.{true≢false, cases_lt, eq-eqb}
use Rattle.std.proofs.lemmas.Option.{slice_get_past}
use Rattle.repo_object.specs.Objects.{NamedContents, Post}
use Rattle.repo_object.specs.Publication.{packets}
use Rattle.repo_object.proofs.Publications.{packets-length}
use Rattle.repo_plan.specs.declared.part.Part.{Part}
use Rattle.repo_plan.specs.Parts.{Pair, part_cmp, pair_cmp, pair_of, part_of}
use Rattle.sorted_lists.specs.SortedList.{contains, value_of}
use Rattle.repo_member.specs.Groups.{publisher_at}
use Rattle.repo_member.specs.MemberState.{MemberState, logged, packet_in}
use Rattle.repo_member.specs.InGroup.{in_group}
use Rattle.repo_member.specs.Verdicts.{sync_of}
use Rattle.repo_member.proofs.PublicLaws.{logs_those, contains-value}
use Rattle.group_model.specs.Publications.{Logs, post_at, last_of, count}
use Rattle.group_model.specs.Member.{member_holds, has_deleted}
use Rattle.group_model.specs.Sound.{IsPublished}
use Rattle.live_member.specs.declared.event.LiveEntry.{LiveEntry}
use Rattle.live_member.specs.Meanings.{Meaning, logs_at}
use Rattle.live_member.specs.Reports.{IsReport, IsLoan, loan}
use Rattle.live_member.specs.Lives.{IsLive, living}
use Rattle.live_member.proofs.Around.{number_there, packet_alike, part_whole, vector_whole}

module _ (t : Meaning) (most : ℕ) (a : MemberState) (journal : List LiveEntry) (unpublished : List NamedContents)
    (live : IsLive t most (living a journal unpublished)) where
  abbrev ls : Logs
  ls = logs_at t a.number a.log

  there : a.number < length t.lists
  there = number_there t a live.logs live.consistent

  -- the sync Interest with a member's vector reports no publication that isn't in the lists
  pub tells : IsReport t (sync_of t.group a.number a.known)
  tells = record {
    sender = a.number;
    vector = a.known;
    there = there;
    consistent = vector_whole t a.number a.log unpublished live.list there a.known
        (record { width = live.consistent.sound.width; no_more = live.consistent.sound.known });
    told = refl;
  }

  held_published : (part : Part) → member_holds (in_group a) part ≡ true → IsPublished ls (pair_of part)
  held_published part h =
      let known = (live.consistent.sound.held part h).known in
      let most : get_or a.known part.publisher 0 ≤ last_of ls part.publisher = live.consistent.sound.known
      part.publisher in
      record { from_one = known.from_one; to_last = omega (arith, known.to_known, most) }

  stored_held : (part : Part) (octets : List ℕ) → value_of part_cmp a.store part ≡ Some octets
      → member_holds (in_group a) part ≡ true
  stored_held part octets h = contains-value a.store part ∙ ap is_some h

  -- a packet that is stored is the part's, which is one of the lists
  pub lends : (part : Part) (octets : List ℕ) → value_of part_cmp a.store part ≡ Some octets
      → IsLoan t (loan part octets)
  lends part octets h =
      let held = stored_held part octets h in
      let is : IsPublished ls (pair_of part) = held_published part held in
      record {
        published = part_whole t a.number a.log unpublished live.list there part
            (record { there = is; counted = (live.consistent.sound.held part held).counted });
        packet = sym (packet_alike t a.number a.log unpublished live.list there part is)
            ∙ live.consistent.packets part octets h;
      }

  module _ (part : Part) (own : part.publisher ≡ a.number) where
    logged_is : logged t.group a part
        ≡ (if part.seq == 0 then None
        else option_and_then (packet_in (publisher_at t.group a.number) part) (slice_get a.log (part.seq - 1)))
    logged_is =
        ap (λ (b : Bool). if b then (if part.seq == 0 then None
        else option_and_then (packet_in (publisher_at t.group a.number) part) (slice_get a.log
        (part.seq - 1))) else None)
        (eq-eqb part.publisher a.number own)

    none_shown : (hides : Bool) → has_deleted (in_group a) (a.number, part.seq) ≡ hides → hides ≡ true → ⊥
    none_shown hides is h =
        let none : has_deleted (in_group a) (a.number, part.seq) ≡ false =
        ap (λ (hidden : List Pair). contains pair_cmp hidden (a.number, part.seq)) live.hidden in
        true≢false (sym h ∙ sym is ∙ none)

    -- each part of a publication is stored
    all_held : IsPublished ls (pair_of part) → part.part ≤ count ls (pair_of part)
        → member_holds (in_group a) part ≡ true
    all_held is counted =
        let here : IsPublished ls (a.number, part.seq) = subst (λ (n : ℕ). IsPublished ls (n, part.seq)) own is in
        let few : part.part ≤ count ls (a.number, part.seq) =
        subst (λ (n : ℕ). part.part ≤ count ls (n, part.seq)) own counted in
        elim (live.consistent.sound.own_held part.seq here) [
          | inl hides ↦ absurd (none_shown (has_deleted (in_group a) (a.number, part.seq)) refl hides)
          | inr held ↦
              subst (λ (n : ℕ). member_holds (in_group a) (part_of (n, part.seq) part.part) ≡ true) (sym own)
              (held part.part few)
        ]

    nothing_stored : value_of part_cmp a.store part ≡ None → member_holds (in_group a) part ≡ true → ⊥
    nothing_stored none held = true≢false (sym held ∙ contains-value a.store part ∙ ap is_some none)

    -- where nothing is stored, there is no such part
    none_logged : value_of part_cmp a.store part ≡ None → logged t.group a part ≡ None
    none_logged none = elim (cases_lt 0 part.seq) [
      | inr zero ↦
          let first : part.seq ≡ 0 = omega arith in
          logged_is
          ∙ ap (λ (b : Bool). if b then None
          else option_and_then (packet_in (publisher_at t.group a.number) part) (slice_get a.log (part.seq - 1)))
          (eq-eqb part.seq 0 first)
      | inl some ↦ elim (cases_lt (part.seq - 1) (length a.log)) [
        | inr past ↦
            logged_is ∙ beyond (part.seq == 0) (slice_get_past a.log (part.seq - 1) past)
        | inl within ↦ in_log (published some within)
      ]
    ] where
      beyond : (b : Bool) → slice_get a.log (part.seq - 1) ≡ None
          → (if b then None
          else option_and_then (packet_in (publisher_at t.group a.number) part) (slice_get a.log (part.seq - 1)))
          ≡ None
      beyond true h = refl
      beyond false h = ap (option_and_then (packet_in (publisher_at t.group a.number) part)) h

      published : 0 < part.seq → part.seq - 1 < length a.log → IsPublished ls (pair_of part)
      published some within =
          let last : last_of ls part.publisher ≡ length a.log =
          ap (λ (n : ℕ). last_of ls n) own ∙ ap length live.consistent.log in
          record { from_one = omega (arith, some); to_last = omega (arith, some, within, last) }

      in_log : IsPublished ls (pair_of part) → logged t.group a part ≡ None
      in_log is = elim (cases_lt (count ls (pair_of part)) part.part) [
        | inr counted ↦ absurd (nothing_stored none (all_held is counted))
        | inl past ↦
            let post : Post = post_at ls (pair_of part) in
            let many = packets-length (publisher_at t.group part.publisher) part.seq post in
            logs_those t.group ls a part live.consistent own is
            ∙ slice_get_past (packets (publisher_at t.group part.publisher) part.seq post) part.part
            (omega (arith, many, past))
      ]

    -- of its own parts a member stores just those that it published
    pub own_stored : value_of part_cmp a.store part ≡ logged t.group a part
    own_stored = go (value_of part_cmp a.store part) refl where
      go : (o : Option (List ℕ)) → value_of part_cmp a.store part ≡ o → o ≡ logged t.group a part
      go None h = sym (none_logged h)
      go (Some octets) h = sym (
          logs_those t.group ls a part live.consistent own (held_published part (stored_held part octets h))
          ∙ live.consistent.packets part octets h)

  -- a part of another publisher has no packet by the member's log
  pub not_logged : (part : Part) → (part.publisher == a.number) ≡ false → logged t.group a part ≡ None
  not_logged part other =
      ap (λ (b : Bool). if b then (if part.seq == 0 then None
      else option_and_then (packet_in (publisher_at t.group a.number) part) (slice_get a.log (part.seq - 1))) else None)
      other
