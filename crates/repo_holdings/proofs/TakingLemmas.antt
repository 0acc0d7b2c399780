-- The results of parts that were asked for, taken part after part.
use Rattle.std.proofs.Common.{◌≡◌, ℕ, ◌+◌, ◌*◌, ◌<◌, ◌≤◌, Bool, true, false, cond, ◌==◌, List, [], ◌∷◌, map, length}
use Rattle.std.proofs.Common.{refl, sym, ap, ◌∙◌, subst, Option, Some, None, option_map, is_some, unwrap_or, sum_by}
use Rattle.std.proofs.Common.{Result, Err, ltb, arith, ◌&&◌}
use Rattle.std.specs.Prelude.{nat_le, slice_index, IsOk, IfSome}
use Rattle.std.specs.List.{All}
use Rattle.std.specs.Option.{option_and_then}
use Rattle.std.specs.Ordering.{eq_by_cmp}
use Rattle.std.proofs.lemmas.Bool.{true≢false, or_parts, ltb-false, eqb-true}
use Rattle.std.proofs.lemmas.List.Elements.{All-head, All-tail, All-cons, All-nil, All-weaker}
use Rattle.std.proofs.lemmas.List.Sums.{sum_by-cons}
use Rattle.ndn_tlv.specs.Listing.{◌>>=◌}
use Rattle.ndn_tlv.specs.Elements.{Item}
use Rattle.ndn_tlv.specs.declared.tlv_fault.TlvFault.TheVariants.{Truncated}
use Rattle.ndn_name.specs.declared.fault.PacketFault.{PacketFault}
use Rattle.ndn_name.specs.declared.fault.PacketFault.TheVariants.{Tlv, PacketTooLong}
use Rattle.ndn_packet.specs.Contents.{first_of}
use Rattle.ndn_packet.specs.Outer.{only_of}
use Rattle.ndn_data.specs.Data.{Data, data_of, data_fields, data_from}
use Rattle.repo_plan.specs.declared.part.Part.{Part}
use Rattle.repo_plan.specs.declared.shape.Shape.{Shape}
use Rattle.sorted_lists.specs.SortedList.{contains, value_of, with_value}
use Rattle.repo_plan.specs.Parts.{Pair, pair_cmp, part_cmp, pair_of, part_of}
use Rattle.repo_plan.specs.Plan.{PlanState, holds, may_be_asked_for, is_claimed, shape_of, attempts_of}
use Rattle.repo_plan.specs.Plan.{with_attempts, uses_room}
use Rattle.repo_plan.proofs.Changes.{Keeps, asked_kept}
use Rattle.repo_plan.proofs.Orders.{exact_parts}
use Rattle.sorted_lists.proofs.Sets.{eq_same, eq_itself, value_of-with_value}
use Rattle.repo_object.specs.Publication.{Listed, RecordSays, shape_stated}
use Rattle.repo_object.specs.Verdict.{stated_in}
use Rattle.repo_holdings.specs.Records.{Packet}
use Rattle.repo_holdings.specs.Listed.{stored_at, listing_in, stated_at, listing_at}
use Rattle.repo_holdings.specs.StoredParents.{index_count, lists_at, ListsAsMany}
use Rattle.repo_holdings.specs.Gaining.{PlanFits, IsArrival}
use Rattle.repo_holdings.specs.declared.record_summary.Arrival.{Arrival}
use Rattle.repo_holdings.specs.declared.record_summary.RecordSummary.{RecordSummary}
use Rattle.repo_holdings.specs.declared.holdings.stock.Stock.{Stock}
use Rattle.repo_holdings.specs.declared.holdings.taking.Tried.{Tried}
use Rattle.repo_holdings.specs.Stock.{IsSound}
use Rattle.repo_holdings.specs.declared.holdings.Holdings.TheInside.{Inside}
use Rattle.repo_holdings.specs.HoldingsState.{HoldingsState, held_plan}
use Rattle.repo_holdings.specs.HoldingsFields.{state, IsHoldings}
use Rattle.repo_holdings.specs.Taking.{with_fetched, with_tries, came, arrival_octets}
use Rattle.repo_holdings.specs.Taking.{CanBeTaken, AreTakable, KeepsButTries, HasTaken}
use Rattle.repo_holdings.proofs.GainingLemmas.{absent, held_value, shape_stored, put_elsewhere, list_nothing}
use Rattle.repo_holdings.proofs.AskedLemmas.{asked_segment}
use Rattle.repo_holdings.proofs.HoldingsLemmas.{plan_is}

-- ---- one part is taken: what stays

-- the attempts of other parts
tries_aside : (t q : Part) (n : ℕ) (attempts : List (Part × ℕ)) → eq_by_cmp part_cmp q t ≡ false
    → value_of part_cmp (with_tries t n attempts) q ≡ value_of part_cmp attempts q
tries_aside t q n attempts other = go (n == 0) where
  more : ℕ
  more = unwrap_or (value_of part_cmp attempts t) 0 + n

  go : (b : Bool)
      → value_of part_cmp (cond b attempts (with_value part_cmp t more attempts)) q ≡ value_of part_cmp attempts q
  go true = refl
  go false =
      value_of-with_value exact_parts t more attempts q
      ∙ ap (λ (b : Bool). cond b (Some more) (value_of part_cmp attempts q)) other

module _ (old new : Stock) (x : Tried) (was : IsSound old) (now : IsSound new)
    (can_be : CanBeTaken old.plan old.store.packets x) (taken : HasTaken (x ∷ []) old new) where
  -- what is stored before, and what is stored later
  abbrev earlier : List Packet
  earlier = old.store.packets

  abbrev later : List Packet
  later = new.store.packets

  -- the packets of other parts
  packets_aside : (q : Part) → eq_by_cmp part_cmp q x.part ≡ false
      → value_of part_cmp later q ≡ value_of part_cmp earlier q
  packets_aside q other = ap (λ (es : List Packet). value_of part_cmp es q) taken.packets ∙ go (came x).packet where
    go : (o : Option (List ℕ)) → value_of part_cmp (with_fetched x.part o earlier) q ≡ value_of part_cmp earlier q
    go None = refl
    go (Some octets) =
        put_elsewhere earlier x.part octets (absent old.plan earlier x.part octets None was.tied can_be.not_held) q
        other

  -- a stored packet is of another part
  stored_apart : (q : Part) (octets : List ℕ) → value_of part_cmp earlier q ≡ Some octets
      → eq_by_cmp part_cmp q x.part ≡ false
  stored_apart q octets there = go (eq_by_cmp part_cmp q x.part) refl where
    go : (b : Bool) → eq_by_cmp part_cmp q x.part ≡ b → b ≡ false
    go true p =
        let held : holds old.plan q ≡ true =
        held_value old.plan earlier (pair_of q) was.tied q ∙ ap is_some there in
        sym held ∙ ap (holds old.plan) (eq_same exact_parts q x.part p) ∙ can_be.not_held
    go false p = refl

  -- what the stored records say
  record_still : (pair : Pair) (octets : List ℕ) → stored_at earlier pair 0 ≡ Some octets
      → stored_at later pair 0 ≡ Some octets
  record_still pair octets there =
      packets_aside (part_of pair 0) (stored_apart (part_of pair 0) octets there) ∙ there

  stated_still : (pair : Pair) (says : RecordSays) → stated_at earlier pair ≡ Some says → stated_at later pair
      ≡ Some says
  stated_still pair says stated = go (stored_at earlier pair 0) refl stated where
    go : (o : Option (List ℕ)) → stored_at earlier pair 0 ≡ o → option_and_then stated_in o ≡ Some says
        → stated_at later pair ≡ Some says
    go None p h = absurd cc
    go (Some octets) p h = ap (option_and_then stated_in) (record_still pair octets p) ∙ h

  listed_still : (pair : Pair) (l : Listed) → listing_at earlier pair ≡ Some l → listing_at later pair ≡ Some l
  listed_still pair l listed = go (stored_at earlier pair 0) refl listed where
    go : (o : Option (List ℕ)) → stored_at earlier pair 0 ≡ o → option_and_then listing_in o ≡ Some l
        → listing_at later pair ≡ Some l
    go None p h = absurd cc
    go (Some octets) p h = ap (option_and_then listing_in) (record_still pair octets p) ∙ h

  -- a plan keeps what it knows
  kept : Keeps old.plan new.plan
  kept = record {
    knows = λ pair h.
        ap (λ (known : List ℕ). nat_le 1 pair.1 && nat_le pair.1 (slice_index known pair.0)) taken.others.known ∙ h;
    held = λ t h. held t h (value_of part_cmp earlier t) refl;
    shapes = λ pair n h. shapes pair n h (stated_at earlier pair) refl;
  } where
    held : (t : Part) → holds old.plan t ≡ true → (o : Option (List ℕ)) → value_of part_cmp earlier t ≡ o
        → holds new.plan t ≡ true
    held t h None p =
        absurd (true≢false (sym h ∙ held_value old.plan earlier (pair_of t) was.tied t ∙ ap is_some p))
    held t h (Some octets) p =
        held_value new.plan later (pair_of t) now.tied t ∙ ap is_some (packets_aside t (stored_apart t octets p) ∙ p)

    shapes : (pair : Pair) (n : Shape) → shape_of old.plan pair ≡ Some n → (o : Option RecordSays)
        → stated_at earlier pair ≡ o → shape_of new.plan pair ≡ Some n
    shapes pair n h None p =
        let both : option_map shape_stated (stated_at earlier pair) ≡ Some n =
        sym (shape_stored old.plan earlier pair was.tied) ∙ h in absurd cc
    shapes pair n h (Some says) p =
        shape_stored new.plan later pair now.tied
        ∙ ap (option_map shape_stated) (stated_still pair says p ∙ sym p)
        ∙ sym (shape_stored old.plan earlier pair was.tied)
        ∙ h

  -- what is asked for
  asked_still : (t : Part) → may_be_asked_for old.plan t ≡ true → may_be_asked_for new.plan t ≡ true
  asked_still t asked = asked_kept old.plan new.plan t kept asked

  -- the packet received for another part
  arrival_still : (t : Part) (octets : List ℕ) (summary : Option RecordSummary) → may_be_asked_for old.plan t ≡ true
      → IsArrival earlier t octets summary → IsArrival later t octets summary
  arrival_still t octets summary asked is = record {
    reads = is.reads;
    record_part = is.record_part;
    tells = is.tells;
    lists = go (t.part == 0) refl;
  } where
    go : (b : Bool) → (t.part == 0) ≡ b → ListsAsMany octets (lists_at later t)
    go true p =
        subst (λ (x : ℕ). ListsAsMany octets (option_and_then (index_count x) (listing_at later (pair_of t))))
        (sym (eqb-true t.part 0 p)) (list_nothing octets (listing_at later (pair_of t)))
    go false p =
        let segment = asked_segment old.plan earlier t was.tied asked p in
        subst (ListsAsMany octets)
        (ap (option_and_then (index_count t.part)) segment.listed
        ∙ sym (ap (option_and_then (index_count t.part))
        (listed_still (pair_of t) segment.listing segment.listed)))
        is.lists

  one_takable : (y : Tried) → eq_by_cmp part_cmp y.part x.part ≡ false → CanBeTaken old.plan earlier y
      → CanBeTaken new.plan later y
  one_takable y other can = record {
    asked = asked_still y.part can.asked;
    not_held =
        held_value new.plan later (pair_of y.part) now.tied y.part
        ∙ ap is_some (packets_aside y.part other)
        ∙ sym (held_value old.plan earlier (pair_of y.part) was.tied y.part)
        ∙ can.not_held;
    not_hidden =
        ap (λ (hidden : List Pair). contains pair_cmp hidden (pair_of y.part)) taken.others.hidden
        ∙ can.not_hidden;
    not_claimed =
        ap (λ (claims : List (Option Part)). is_claimed (record old.plan { claims = claims }) y.part)
        taken.others.claims
        ∙ can.not_claimed;
    arrived = go y.arrival can.arrived;
    few = subst (λ (n : ℕ). n + y.attempts < 2097152) (sym tried) can.few;
  } where
    go : (o : Option Arrival) → IfSome o (λ a. IsArrival earlier y.part a.packet a.summary)
        → IfSome o (λ a. IsArrival later y.part a.packet a.summary)
    go None h = tt
    go (Some a) h = arrival_still y.part a.packet a.summary can.asked h

    tried : attempts_of new.plan y.part ≡ attempts_of old.plan y.part
    tried =
        ap (λ (es : List (Part × ℕ)). unwrap_or (value_of part_cmp es y.part) 0) taken.attempts
        ∙ ap (λ (o : Option ℕ). unwrap_or o 0) (tries_aside x.part y.part x.attempts old.plan.attempts other)

  -- all that are still to be taken
  pub still_takable : (ys : List Tried) → contains part_cmp (map (λ (y : Tried). y.part) ys) x.part ≡ false
      → All (CanBeTaken old.plan earlier) ys → All (CanBeTaken new.plan later) ys
  still_takable [] apart all = All-nil (CanBeTaken new.plan later)
  still_takable (y ∷ ys) apart all =
      let both = or_parts (eq_by_cmp part_cmp x.part y.part) _ apart in
      All-cons (CanBeTaken new.plan later) y ys
      (one_takable y (flip (eq_by_cmp part_cmp y.part x.part) refl both.0)
      (All-head (CanBeTaken old.plan earlier) y ys all))
      (still_takable ys both.1 (All-tail (CanBeTaken old.plan earlier) y ys all)) where
        flip : (b : Bool) → eq_by_cmp part_cmp y.part x.part ≡ b → eq_by_cmp part_cmp x.part y.part ≡ false → b ≡ false
        flip true p h =
            sym (eq_itself exact_parts y.part)
            ∙ ap (λ (t : Part). eq_by_cmp part_cmp t y.part) (eq_same exact_parts y.part x.part p)
            ∙ h
        flip false p h = refl

-- ---- one after another

-- a plan is that of what is stored, however often parts were tried
pub tied_tried : (p : PlanState) (packets : List Packet) (t : Part) (n : ℕ) → PlanFits p packets
    → PlanFits (uses_room (with_attempts t n p)) packets
tied_tried p packets t n tied = record {
  in_order = tied.in_order;
  held = held (n == 0) ∙ tied.held;
  shapes = shapes (n == 0) ∙ tied.shapes;
  recorded = tied.recorded;
  indexed = tied.indexed;
} where
  more : List (Part × ℕ)
  more = with_value part_cmp t (attempts_of p t + n) p.attempts

  held : (b : Bool) → (uses_room (cond b p (record p { attempts = more }))).held ≡ p.held
  held true = refl
  held false = refl

  shapes : (b : Bool) → (uses_room (cond b p (record p { attempts = more }))).shapes ≡ p.shapes
  shapes true = refl
  shapes false = refl

pub keeps_on : (a b c : PlanState) → KeepsButTries a b → KeepsButTries b c → KeepsButTries a c
keeps_on a b c first then = record {
  known = then.known ∙ first.known;
  claims = then.claims ∙ first.claims;
  hidden = then.hidden ∙ first.hidden;
  attempts = refl;
}

-- ---- how many octets were received

-- a Data packet has at most 8800 octets
data_fits : (octets : List ℕ) → IsOk (data_of octets) → length octets ≤ 8800
data_fits octets h =
    go (first_of (Tlv (Truncated 0)) 0 octets >>= only_of 0x06 (length octets))
    (λ e. data_fields octets e >>= data_from e.value) (ltb 8800 (length octets)) refl h
  where
    go : (r : Result Item PacketFault) (f : Item → Result Data PacketFault) (b : Bool) → ltb 8800 (length octets) ≡ b
        → IsOk (cond b (Err PacketTooLong) r >>= f) → length octets ≤ 8800
    go r f true p h = absurd (true≢false (sym h))
    go r f false p h = ltb-false 8800 (length octets) p

one_fits : (plan : PlanState) (packets : List Packet) (x : Tried) → CanBeTaken plan packets x → arrival_octets x ≤ 8800
one_fits plan packets x can = go x.arrival can.arrived where
  go : (o : Option Arrival) → IfSome o (λ a. IsArrival packets x.part a.packet a.summary)
      → length (unwrap_or (option_map (λ (a : Arrival). a.packet) o) []) ≤ 8800
  go None h = omega (arith)
  go (Some a) h = data_fits a.packet h.reads

pub octets_fit : (plan : PlanState) (packets : List Packet) (xs : List Tried) → All (CanBeTaken plan packets) xs
    → sum_by arrival_octets xs ≤ 8800 * length xs
octets_fit plan packets [] can = omega (arith)
octets_fit plan packets (x ∷ xs) can =
    let one = one_fits plan packets x (All-head (CanBeTaken plan packets) x xs can) in
    let rest = octets_fit plan packets xs (All-tail (CanBeTaken plan packets) x xs can) in
    let both = sum_by-cons arrival_octets x xs in
    omega (arith, one, rest, both)

-- whatever room there is
takable_in_room : (n : ℕ) (p : PlanState) (packets : List Packet) (xs : List Tried) → AreTakable p packets xs
    → AreTakable (record p { spare = n }) packets xs
takable_in_room n p packets xs are = record {
  each = All-weaker (CanBeTaken p packets) (CanBeTaken (record p { spare = n }) packets) (λ x h. record {
    asked = h.asked;
    not_held = h.not_held;
    not_hidden = h.not_hidden;
    not_claimed = h.not_claimed;
    arrived = h.arrived;
    few = h.few;
  }) xs are.each;
  apart = are.apart;
}

pub takable_still : (m : Inside) (h : HoldingsState) → IsHoldings m → state m ≡ h → (xs : List Tried)
    → AreTakable (held_plan h) h.store xs → AreTakable m.stock.plan m.stock.store.packets xs
takable_still m h is view xs are =
    rw (plan_is m is) (takable_in_room m.stock.plan.spare (held_plan (state m)) m.stock.store.packets xs
    (subst (λ (x : HoldingsState). AreTakable (held_plan x) x.store xs) (sym view) are))
