-- Members lend exactly the parts that one of them holds.
use Rattle.std.proofs.Common.{◌≡◌, inl, inr, ℕ, Bool, true, false, ◌||◌, ◌&&◌, List, [], ◌∷◌, Option, Some}
use Rattle.std.proofs.Common.{None, refl, sym, ap, ◌∙◌}
use Rattle.std.proofs.lemmas.Bool.{true≢false, false_from_ne_true, and_parts}
use Rattle.std.specs.Prelude.{is_some, filter}
use Rattle.repo_plan.specs.declared.part.Part.{Part}
use Rattle.sorted_lists.specs.SortedList.{contains, keys, value_of}
use Rattle.sorted_lists.proofs.Sets.{value_key}
use Rattle.repo_plan.specs.Parts.{part_cmp, pair_of}
use Rattle.repo_plan.specs.Plan.{knows, is_wanted, is_unclaimed, unclaimed, is_after}
use Rattle.repo_plan.proofs.Kept.{wanted_parts}
use Rattle.repo_holdings.specs.HoldingsState.{held_plan}
use Rattle.group_model.proofs.Lists.{same_filter}
use Rattle.repo_member.specs.MemberState.{MemberState}
use Rattle.bench_world.specs.declared.touched.Touched.{Touched}
use Rattle.bench_world.specs.Holders.{HolderPredicates, AreHolders}
use Rattle.bench_world.specs.Touching.{touches, one_holds, lend_touched, LacksOnlyTouched}
use Rattle.bench_world.specs.Lending.{or_else, lent, lends}
use Rattle.bench_world.proofs.NextParts.{from_later}

pub lends_held : (others : List MemberState) (t : Part) → lends others t ≡ one_holds others t
lends_held [] t = refl
lends_held (a ∷ others) t =
    go (value_of part_cmp a.store t) (value_key part_cmp a.store t) (lends_held others t) where
      go : (o : Option (List ℕ)) → is_some o ≡ contains part_cmp (keys a.store) t
          → lends others t ≡ one_holds others t
          → is_some (or_else o (lent others t)) ≡ (contains part_cmp (keys a.store) t || one_holds others t)
      go None e h = h ∙ ap (λ (b : Bool). b || one_holds others t) e
      go (Some octets) e h = ap (λ (b : Bool). b || one_holds others t) e

-- Of what a holder wants the others lend just what they lend of touched publications, where it lacks nothing else.
module _ {H : Type 0} (words : HolderPredicates H) (holders : AreHolders words) (n : Touched)
    (others : List MemberState)
    (s : H) (lacks : LacksOnlyTouched words n others s) where
  not_lent : (t : Part) → is_unclaimed (held_plan (words.holdings s)) t ≡ true → touches n (pair_of t) ≡ false
      → lends others t ≡ false
  not_lent t open_ off =
      let wanted = (and_parts (is_wanted (held_plan (words.holdings s)) t) _ open_).0 in
      false_from_ne_true (lends others t) (λ lent.
      elim (lacks t lent off
      (and_parts (knows (held_plan (words.holdings s)) (pair_of t)) _ (and_parts _ _ wanted).0).0) [
        | inl holds ↦ true≢false (sym holds ∙ holders.not_held s t wanted)
        | inr hides ↦ true≢false (sym hides ∙ (wanted_parts (held_plan (words.holdings s)) t wanted).not_hidden)
      ])

  lent_alike : (t : Part) → is_unclaimed (held_plan (words.holdings s)) t ≡ true
      → (lend_touched others n t || false) ≡ lends others t
  lent_alike t open_ = go (touches n (pair_of t)) refl (one_holds others t) (lends_held others t) where
    go : (b : Bool) → touches n (pair_of t) ≡ b → (a : Bool) → lends others t ≡ a
        → ((a && b) || false) ≡ lends others t
    go true e true h = sym h
    go true e false h = sym h
    go false e true h = sym (not_lent t open_ e)
    go false e false h = sym h

  pub all_alike : (after : Option Part) → filter (λ t. lend_touched others n t || false)
      (filter (is_after after) (unclaimed (held_plan (words.holdings s))))
      ≡ filter (lends others) (filter (is_after after) (unclaimed (held_plan (words.holdings s))))
  all_alike after =
      same_filter (λ t. lend_touched others n t || false) (lends others)
      (filter (is_after after) (unclaimed (held_plan (words.holdings s))))
      (λ t i. lent_alike t (from_later (words.holdings s) after t i).0)
