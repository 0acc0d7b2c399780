-- The plan of what is held, as what is seen says it.
use Rattle.std.proofs.Common.{◌≡◌, ℕ, ◌≤◌, true, false, arith, ◌==◌, Some, refl, sym, ap, ◌∙◌}
use Rattle.std.proofs.Common.{subst}
use Rattle.std.proofs.Common.{max, List}
use Rattle.std.proofs.lemmas.Bool.{false_from_ne_true, eqb-true}
use Rattle.ndn_name.specs.Names.{Component}
use Rattle.sorted_lists.specs.SortedList.{contains, value_of}
use Rattle.repo_plan.specs.declared.part.Part.{Part}
use Rattle.repo_plan.specs.declared.shape.Shape.{Shape}
use Rattle.repo_plan.specs.Parts.{Pair, pair_cmp, pair_of, parent, last_part}
use Rattle.repo_plan.specs.Plan.{PlanState, may_be_asked_for}
use Rattle.repo_plan.proofs.Changes.{same_holdings}
use Rattle.repo_holdings.specs.declared.holdings.Holdings.TheInside.{Inside}
use Rattle.repo_holdings.specs.declared.holdings.pending.Pending.{Pending}
use Rattle.repo_holdings.specs.declared.holdings.stock.Stock.{Stock}
use Rattle.repo_holdings.specs.declared.holdings.stored_parent.StoredParent.{StoredParent}
use Rattle.repo_catalog.specs.declared.entry.Entry.{Entry}
use Rattle.repo_catalog.specs.Entries.{EntryList}
use Rattle.repo_holdings.specs.Records.{Packet}
use Rattle.repo_holdings.specs.Gaining.{PlanFits}
use Rattle.repo_holdings.specs.Stock.{MatchesEntries, OnlyRoomChanges, HaveRoom}
use Rattle.repo_holdings.specs.Listed.{listing_at, listed_shape, member_catalogue}
use Rattle.repo_holdings.specs.StoredParents.{HasParent, IsStoredParent, IsListedBy}
use Rattle.repo_holdings.specs.HoldingsState.{HoldingsState, held_plan}
use Rattle.repo_holdings.specs.HoldingsFields.{state, IsHoldings}
use Rattle.repo_holdings.proofs.AskedLemmas.{asked_segment}

-- the plan is that of what is seen, with what is spare
pub plan_is : (m : Inside) → IsHoldings m → m.stock.plan ≡ record (held_plan (state m)) { spare = m.stock.plan.spare }
plan_is m is =
    let tied = is.kept.sound.tied in
    same_holdings m.stock.plan (record (held_plan (state m)) { spare = m.stock.plan.spare }) refl tied.held tied.shapes
    refl refl refl refl

-- a reading that looks at no room is that of what is seen
pub reading : {A : Type 0} (f : PlanState → A) (m : Inside) (h : HoldingsState) → IsHoldings m → state m ≡ h
    → f (record (held_plan (state m)) { spare = m.stock.plan.spare }) ≡ f (held_plan (state m))
    → f m.stock.plan ≡ f (held_plan h)
reading f m h is view same = ap f (plan_is m is) ∙ same ∙ ap (λ (x : HoldingsState). f (held_plan x)) view

-- what is asked for, as its plan has it
pub asked_of : (m : Inside) (h : HoldingsState) (t : Part) → IsHoldings m → state m ≡ h
    → may_be_asked_for (held_plan h) t ≡ true → may_be_asked_for m.stock.plan t ≡ true
asked_of m h t is view asked = reading (λ p. may_be_asked_for p t) m h is view refl ∙ asked

-- what lists a part that is asked for is stored
pub segment_of : (m : Inside) (h : HoldingsState) (t : Part) → IsHoldings m → state m ≡ h
    → may_be_asked_for (held_plan h) t ≡ true → (t.part == 0) ≡ false → HasParent m.stock.store.packets t
segment_of m h t is view asked following =
    asked_segment m.stock.plan m.stock.store.packets t is.kept.sound.tied (asked_of m h t is view asked) following

pub not_zero : (n : ℕ) → (n ≡ 0 → ⊥) → (n == 0) ≡ false
not_zero n h = false_from_ne_true (n == 0) (λ e. h (eqb-true n 0 e))

-- what was read last lists a part, where it stands at its place
pub still_lists : (m : Inside) (h : HoldingsState) (t : Part) (r : StoredParent) → IsHoldings m → state m ≡ h
    → may_be_asked_for (held_plan h) t ≡ true → (t.part ≡ 0 → ⊥) → r.part ≡ parent r.shape t → IsStoredParent h.store r
    → IsListedBy h.store t r
still_lists m h t r is view asked following lists stored =
    let has = segment_of m h t is view asked (not_zero t.part following) in
    let same : pair_of r.part ≡ pair_of t = ap pair_of lists in
    let here : listing_at h.store (pair_of t) ≡ Some has.listing =
    ap (λ (x : HoldingsState). listing_at x.store (pair_of t)) (sym view) ∙ has.listed in
    let both : Some r.listing ≡ Some has.listing = sym stored.listed ∙ ap (listing_at h.store) same ∙ here in
    let listing : r.listing ≡ has.listing = cc in
    record {
      following = has.following;
      counted =
          subst (λ (s : Shape). t.part ≤ last_part s) (ap listed_shape (sym listing) ∙ sym stored.shape) has.counted;
      stored = stored;
      lists = lists;
    }

-- ---- what stays where room is made

tied_still : (plan now : PlanState) (n : ℕ) (packets stored : List Packet) → now ≡ record plan { spare = n }
    → stored ≡ packets → PlanFits plan packets → PlanFits now stored
tied_still plan now n packets stored planned same tied = rw (planned, same) (record {
  in_order = tied.in_order;
  held = tied.held;
  shapes = tied.shapes;
  recorded = tied.recorded;
  indexed = tied.indexed;
})

pub kept_still : (old new : Stock) (entries listed : List Entry) → OnlyRoomChanges old new → listed ≡ entries
    → MatchesEntries old entries → MatchesEntries new listed
kept_still old new entries listed same listed_same kept = record {
  sound = record {
    tied =
        tied_still old.plan new.plan new.plan.spare old.store.packets new.store.packets same.plan same.store
        kept.sound.tied;
    noted = rw same.store (record {
      withdrawn = λ q. ap (λ (ws : List Pair). contains pair_cmp ws q) same.withdrawn ∙ kept.sound.noted.withdrawn q;
      names = λ q l listed none.
          ap (λ (ns : List (Pair × List Component)). value_of pair_cmp ns q) same.names
          ∙ kept.sound.noted.names q l listed none;
    });
  };
  listed = listed_same ∙ kept.listed ∙ sym (ap member_catalogue same.store);
}

-- room for one number and for another is room for the greater
pub most_room : (s : Stock) (p : Pending) (catalogue : EntryList) (n k most : ℕ) → HaveRoom n s p catalogue
    → HaveRoom k s p catalogue → most ≡ max n k → HaveRoom most s p catalogue
most_room s p catalogue n k most a b is = record {
  for_plan = omega (arith, a.for_plan, b.for_plan, is);
  for_store = omega (arith, a.for_store, b.for_store, is);
  for_notes = omega (arith, a.for_notes, b.for_notes, is);
  for_catalogue = omega (arith, a.for_catalogue, b.for_catalogue, is);
  for_fresh = omega (arith, a.for_fresh, b.for_fresh, is);
  for_gone = omega (arith, a.for_gone, b.for_gone, is);
}
