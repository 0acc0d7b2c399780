-- The parts of a new publication, gained one after another.
use Rattle.std.proofs.Common.{◌≡◌, ℕ, ◌+◌, ◌-◌, ◌≤◌, ◌<◌, Bool, true, false, cond, ◌&&◌, ◌||◌, ◌==◌, List, [], ◌∷◌}
use Rattle.std.proofs.Common.{refl}
use Rattle.std.proofs.Common.{sym, ap, ◌∙◌, subst, Option, Some, None, option_map, is_some, zero, suc, arith, length}
use Rattle.std.proofs.Common.{inl, inr, ◌⊎◌}
use Rattle.std.specs.Prelude.{nat_le, slice_index}
use Rattle.std.specs.Option.{option_and_then}
use Rattle.std.specs.Ordering.{eq_by_cmp}
use Rattle.std.proofs.lemmas.Bool.{true≢false, and_from, or_left, or_right, eqb-true, eqb-false, le-leb, cases_lt}
use Rattle.std.proofs.lemmas.Bool.{false_from_ne_true}
use Rattle.repo_plan.specs.declared.part.Part.{Part}
use Rattle.repo_plan.specs.declared.shape.Shape.{Shape}
use Rattle.sorted_lists.specs.SortedList.{keys, Rises, contains, insert_key, value_of, with_value}
use Rattle.repo_plan.specs.Parts.{Pair, IsShape, pair_cmp, part_cmp, pair_of, part_of, parent, parent_number}
use Rattle.repo_plan.specs.Parts.{last_part}
use Rattle.repo_plan.specs.Plan.{PlanState, holds, hides, knows, may_be_asked_for, is_listed_part, is_claimed, shape_of}
use Rattle.repo_plan.specs.Plan.{after_hold, uses_room, with_shape}
use Rattle.repo_plan.proofs.Orders.{exact_pairs, exact_parts}
use Rattle.repo_plan.proofs.Parents.{lists_in_turn}
use Rattle.sorted_lists.proofs.Sets.{eq_same, eq_itself, contains-insert_key, value_of-with_value}
use Rattle.repo_store.specs.StoreList.{with_packet}
use Rattle.repo_object.specs.Publication.{Listed}
use Rattle.repo_object.specs.Verdict.{stated_in}
use Rattle.repo_holdings.specs.declared.record_summary.RecordSummary.{RecordSummary}
use Rattle.repo_holdings.specs.declared.holdings.Holdings.TheInside.{Inside}
use Rattle.repo_holdings.specs.Records.{Packet}
use Rattle.repo_holdings.specs.Listed.{stored_at, listing_in, stated_at, listing_at, whole_at, entry_listed, withdraws}
use Rattle.repo_holdings.specs.Listed.{is_withdrawn}
use Rattle.repo_holdings.specs.StoredParents.{index_count, lists_at, ListsAsMany}
use Rattle.repo_holdings.specs.Gaining.{KeepsOthers, summary_of, summary_shape, shape_in_summary}
use Rattle.repo_holdings.specs.Noted.{NotesState}
use Rattle.repo_holdings.specs.Changing.{withdraws_too, IsNewSummary}
use Rattle.repo_holdings.specs.NewPublications.{as_parts, with_packets, IsNew, ListInTurn, ArePackets}
use Rattle.repo_holdings.specs.HoldingsState.{HoldingsState, held_plan}
use Rattle.repo_holdings.specs.HoldingsFields.{state, IsHoldings}
use Rattle.repo_holdings.proofs.HoldingsLemmas.{plan_is}
use Rattle.repo_holdings.proofs.AskedLemmas.{shape_sized}
use Rattle.repo_holdings.proofs.WithdrawnLemmas.{withdrawn_more, withdraws_stated}
use Rattle.repo_holdings.proofs.GainingLemmas.{contains-value, put_here, put_elsewhere, record_put, record_stays}
use Rattle.repo_holdings.proofs.GainingLemmas.{list_nothing}

-- ---- what stays where packets are put elsewhere

put_aside : (packets : List Packet) (t q : Part) (octets : List ℕ) → eq_by_cmp part_cmp q t ≡ false
    → value_of part_cmp (with_packet t octets packets) q ≡ value_of part_cmp packets q
put_aside packets t q octets other = go (contains part_cmp (keys packets) t) refl where
  go : (b : Bool) → contains part_cmp (keys packets) t ≡ b
      → value_of part_cmp (with_packet t octets packets) q ≡ value_of part_cmp packets q
  go true p = ap (λ (b : Bool). value_of part_cmp (cond b packets (with_value part_cmp t octets packets)) q) p
  go false p = put_elsewhere packets t octets p q other

pub puts_aside : (pair : Pair) (x : ℕ) (made : List (List ℕ)) (packets : List Packet) (q : Part)
    → ((y : ℕ) → x ≤ y → eq_by_cmp part_cmp q (part_of pair y) ≡ false)
    → value_of part_cmp (with_packets (as_parts pair x made) packets) q ≡ value_of part_cmp packets q
puts_aside pair x [] packets q other = refl
puts_aside pair x (octets ∷ made) packets q other =
    puts_aside pair (x + 1) made (with_packet (part_of pair x) octets packets) q (λ y h. other y (omega arith))
    ∙ put_aside packets (part_of pair x) q octets (other x (omega arith))

-- parts of other publications
pub other_part : (pair q : Pair) (x y : ℕ) → eq_by_cmp pair_cmp q pair ≡ false
    → eq_by_cmp part_cmp (part_of q x) (part_of pair y) ≡ false
other_part pair q x y other = go (eq_by_cmp part_cmp (part_of q x) (part_of pair y)) refl where
  go : (b : Bool) → eq_by_cmp part_cmp (part_of q x) (part_of pair y) ≡ b → b ≡ false
  go true p =
      let same : q ≡ pair = ap pair_of (eq_same exact_parts (part_of q x) (part_of pair y) p) in
      sym (eq_itself exact_pairs q) ∙ ap (eq_by_cmp pair_cmp q) same ∙ other
  go false p = refl

-- other parts of one publication
pub later_part : (pair : Pair) (x y : ℕ) → x < y → eq_by_cmp part_cmp (part_of pair x) (part_of pair y) ≡ false
later_part pair x y less = go (eq_by_cmp part_cmp (part_of pair x) (part_of pair y)) refl where
  go : (b : Bool) → eq_by_cmp part_cmp (part_of pair x) (part_of pair y) ≡ b → b ≡ false
  go true p =
      let same : x ≡ y = ap (λ (t : Part). t.part) (eq_same exact_parts (part_of pair x) (part_of pair y) p) in
      absurd (omega arith)
  go false p = refl

-- ---- the plan so far

-- what part `x` of a publication tells: the record its shape
abbrev pub stated_first : Shape → ℕ → Option Shape
stated_first shape x = cond (x == 0) (Some shape) None

pub not_stated : (shape : Shape) (x : ℕ) → (x ≡ 0 → ⊥) → stated_first shape x ≡ None
not_stated shape x h =
    ap (λ (b : Bool). cond b (Some shape) None) (false_from_ne_true (x == 0) (λ e. h (eqb-true x 0 e)))

pub stated_later : (shape : Shape) (n : ℕ) → stated_first shape (suc n) ≡ None
stated_later shape n =
    ap (λ (b : Bool). cond b (Some shape) None)
    (false_from_ne_true (suc n == 0) (λ e. absurd (omega (arith, eqb-true (suc n) 0 e))))

-- what lists a part comes before it
parent_before : (shape : Shape) (x : ℕ) → IsShape shape → 0 < x → x ≤ last_part shape → parent_number shape x < x
parent_before shape x sized some counted =
    elim (cases_lt shape.index x) [
      | inl above ↦ omega (arith, above, (lists_in_turn shape sized).listed x counted)
      | inr within ↦ omega (arith, some, (lists_in_turn shape sized).by_record x within)
    ]

-- a plan that has gained the first `x` parts of a new publication of this shape
pub record HasGained (start plan : PlanState) (pair : Pair) (shape : Shape) (x : ℕ) : Type 0 where
  pub others : KeepsOthers start plan
  pub fresh : (y : ℕ) → x ≤ y → holds plan (part_of pair y) ≡ false
  pub held : (y : ℕ) → y < x → holds plan (part_of pair y) ≡ true
  pub summary : 0 < x → shape_of plan pair ≡ Some shape

pub gained_none : (start : PlanState) (pair : Pair) (shape : Shape) → IsNew start pair
    → HasGained start start pair shape 0
gained_none start pair shape new = record {
  others = record { known = refl; claims = refl; hidden = refl; attempts = refl };
  fresh = λ y h. new.not_held y;
  held = λ y h. absurd (omega (arith, h));
  summary = λ h. absurd (omega (arith, h));
}

module _ (start plan : PlanState) (pair : Pair) (shape : Shape) (x : ℕ) (new : IsNew start pair)
    (so_far : HasGained start plan pair shape x) where
  known_still : knows plan pair ≡ true
  known_still =
      ap (λ (known : List ℕ). nat_le 1 pair.1 && nat_le pair.1 (slice_index known pair.0)) so_far.others.known
      ∙ new.known

  pub can_ask : IsShape shape → x ≤ last_part shape → may_be_asked_for plan (part_of pair x) ≡ true
  can_ask sized counted =
      and_from (knows plan pair) (is_listed_part plan.held (shape_of plan pair) (part_of pair x)) known_still
      (go x refl) where
        record_part : (s : Option Shape) → is_listed_part plan.held s (part_of pair 0) ≡ true
        record_part None = refl
        record_part (Some n) = refl

        go : (n : ℕ) → x ≡ n → is_listed_part plan.held (shape_of plan pair) (part_of pair n) ≡ true
        go zero e = record_part (shape_of plan pair)
        go (suc n) e =
            let above : 0 < x = omega (arith, e) in
            let before : parent_number shape (suc n) < x =
            omega (arith, e, parent_before shape (suc n) sized (omega arith) (omega (arith, e, counted))) in
            ap (λ (s : Option Shape). is_listed_part plan.held s (part_of pair (suc n))) (so_far.summary above)
            ∙ or_right (suc n == 0) _
            (and_from (nat_le (suc n) (last_part shape))
            (contains part_cmp plan.held (parent shape (part_of pair (suc n))))
            (le-leb (suc n) (last_part shape) (omega (arith, e, counted)))
            (so_far.held (parent_number shape (suc n)) before))

  pub not_hidden : hides plan pair ≡ false
  not_hidden = ap (λ (hidden : List Pair). contains pair_cmp hidden pair) so_far.others.hidden ∙ new.not_hidden

  pub not_claimed : is_claimed plan (part_of pair x) ≡ false
  not_claimed =
      ap (λ (claims : List (Option Part)). is_claimed (record start { claims = claims }) (part_of pair x))
      so_far.others.claims
      ∙ new.not_claimed x

  -- one part more
  pub gained_more : (summary : Option Shape) (after : PlanState) → summary ≡ stated_first shape x
      → after ≡ uses_room (after_hold (part_of pair x) summary plan) → HasGained start after pair shape (x + 1)
  gained_more summary after is_reported is =
      subst (λ (p : PlanState). HasGained start p pair shape (x + 1)) (sym (is ∙ ap uses_room taken)) (record {
        others = record {
          known = so_far.others.known;
          claims = so_far.others.claims;
          hidden = so_far.others.hidden;
          attempts = so_far.others.attempts;
        };
        fresh = λ y h. held_of (part_of pair y) (so_far.fresh y (omega (arith, h))) (later y (omega (arith, h)));
        held = λ y h. held_then y h (cases_lt y x);
        summary = λ h. stated_then x refl is_reported;
      }) where
        with_it : PlanState
        with_it = record plan {
          held = insert_key part_cmp (part_of pair x) plan.held;
          shapes = with_shape pair summary plan.shapes;
        }

        taken : after_hold (part_of pair x) summary plan ≡ with_it
        taken = ap (λ (b : Bool). cond b plan with_it) (so_far.fresh x (omega arith))

        later : (y : ℕ) → x < y → eq_by_cmp part_cmp (part_of pair y) (part_of pair x) ≡ false
        later y less = go (eq_by_cmp part_cmp (part_of pair y) (part_of pair x)) refl where
          go : (b : Bool) → eq_by_cmp part_cmp (part_of pair y) (part_of pair x) ≡ b → b ≡ false
          go true p =
              let same : y ≡ x = ap (λ (t : Part). t.part) (eq_same exact_parts (part_of pair y) (part_of pair x) p) in
              absurd (omega arith)
          go false p = refl

        held_of : (t : Part) → holds plan t ≡ false → eq_by_cmp part_cmp t (part_of pair x) ≡ false
            → contains part_cmp (insert_key part_cmp (part_of pair x) plan.held) t ≡ false
        held_of t a b = contains-insert_key exact_parts (part_of pair x) plan.held t ∙ rw (b, a) refl

        held_then : (y : ℕ) → y < x + 1 → (y < x) ⊎ (x ≤ y)
            → contains part_cmp (insert_key part_cmp (part_of pair x) plan.held) (part_of pair y) ≡ true
        held_then y h (inl before) =
            contains-insert_key exact_parts (part_of pair x) plan.held (part_of pair y)
            ∙ or_right (eq_by_cmp part_cmp (part_of pair y) (part_of pair x)) _ (so_far.held y before)
        held_then y h (inr at) =
            let same : y ≡ x = omega (arith, h, at) in
            contains-insert_key exact_parts (part_of pair x) plan.held (part_of pair y)
            ∙ or_left (eq_by_cmp part_cmp (part_of pair y) (part_of pair x)) _
            (ap (λ (n : ℕ). eq_by_cmp part_cmp (part_of pair n) (part_of pair x)) same
            ∙ eq_itself exact_parts (part_of pair x))

        stated_then : (n : ℕ) → x ≡ n → summary ≡ stated_first shape x
            → value_of pair_cmp (with_shape pair summary plan.shapes) pair ≡ Some shape
        stated_then zero e s =
            let is_some_shape : summary ≡ Some shape = s ∙ ap (stated_first shape) e in
            ap (λ (o : Option Shape). value_of pair_cmp (with_shape pair o plan.shapes) pair) is_some_shape
            ∙ value_of-with_value exact_pairs pair shape plan.shapes pair
            ∙ ap (λ (b : Bool). cond b (Some shape) (value_of pair_cmp plan.shapes pair))
            (eq_itself exact_pairs pair)
        stated_then (suc n) e s =
            let is_none : summary ≡ None = s ∙ ap (stated_first shape) e ∙ stated_later shape n in
            ap (λ (o : Option Shape). value_of pair_cmp (with_shape pair o plan.shapes) pair) is_none
            ∙ so_far.summary (omega (arith, e))

-- ---- what the packets say that are still to come

-- the object that the first of these packets lists, if it is the record of one
abbrev pub first_listing : List (List ℕ) → Option Listed
first_listing [] = None
first_listing (octets ∷ following) = listing_in octets

-- from part `x` on: all, or those after the record, which is stored
pub record AreRemaining (summary : RecordSummary) (l : Option Listed) (pair : Pair) (x : ℕ) (rest : List (List ℕ))
    (stored : List Packet) : Type 0 where
  pub all : x ≡ 0 → ArePackets summary rest
  pub first : x ≡ 0 → first_listing rest ≡ l
  pub turn : 0 < x → ListInTurn l x rest
  pub recorded : 0 < x → listing_at stored pair ≡ l

module _ (summary : RecordSummary) (l : Option Listed) (pair : Pair) (x : ℕ) (octets : List ℕ) (rest : List (List ℕ))
    (stored : List Packet) (come : AreRemaining summary l pair x (octets ∷ rest) stored) where
  -- what it tells is its shape, if it is the record
  pub reports_shape : (s : Option Shape) → s ≡ stated_first (summary_shape summary) x → s
      ≡ shape_in_summary (part_of pair x) octets
  reports_shape s is = go (x == 0) refl is where
    go : (b : Bool) → (x == 0) ≡ b → s ≡ cond b (Some (summary_shape summary)) None
        → s ≡ option_map summary_shape (cond b (option_map summary_of (stated_in octets)) None)
    go true p h = h ∙ ap (option_map summary_shape) (sym (come.all (eqb-true x 0 p)).0)
    go false p h = h

  -- and it lists as many digests as it has to
  pub lists_many : ListsAsMany octets (lists_at stored (part_of pair x))
  lists_many = go (x == 0) refl where
    go : (b : Bool) → (x == 0) ≡ b → ListsAsMany octets (option_and_then (index_count x) (listing_at stored pair))
    go true p =
        subst (λ (n : ℕ). ListsAsMany octets (option_and_then (index_count n) (listing_at stored pair)))
        (sym (eqb-true x 0 p)) (list_nothing octets (listing_at stored pair))
    go false p =
        let some : 0 < x = omega (arith, eqb-false x 0 p) in
        subst (λ (o : Option Listed). ListsAsMany octets (option_and_then (index_count x) o))
        (sym (come.recorded some)) (come.turn some).0

  -- those after it
  pub come_later : (after : List Packet) → after ≡ with_packet (part_of pair x) octets stored
      → contains part_cmp (keys stored) (part_of pair x) ≡ false → AreRemaining summary l pair (x + 1) rest after
  come_later after puts absent = record {
    all = λ e. absurd (omega (arith, e));
    first = λ e. absurd (omega (arith, e));
    turn = λ h. turn (x == 0) refl;
    recorded = λ h. recorded (x == 0) refl;
  } where
    turn : (b : Bool) → (x == 0) ≡ b → ListInTurn l (x + 1) rest
    turn true p =
        let zero_is : x ≡ 0 = eqb-true x 0 p in
        let all = come.all zero_is in
        subst (λ (n : ℕ). ListInTurn l n rest) (omega (arith, zero_is))
        (subst (λ (o : Option Listed). ListInTurn o 1 rest) (come.first zero_is) all.1.1)
    turn false p = (come.turn (omega (arith, eqb-false x 0 p))).1

    recorded : (b : Bool) → (x == 0) ≡ b → listing_at after pair ≡ l
    recorded true p =
        ap (λ (es : List Packet). listing_at es pair) puts
        ∙ ap (option_and_then listing_in) (record_put stored (part_of pair x) octets absent
        ∙ ap (λ (b : Bool). cond b (Some octets) (stored_at stored pair 0)) p)
        ∙ come.first (eqb-true x 0 p)
    recorded false p =
        ap (λ (es : List Packet). listing_at es pair) puts
        ∙ ap (option_and_then listing_in) (record_stays stored (part_of pair x) octets absent p)
        ∙ come.recorded (omega (arith, eqb-false x 0 p))

-- at first all are to come
pub all_to_come : (summary : RecordSummary) (pair : Pair) (made : List (List ℕ)) (stored : List Packet)
    → ArePackets summary made
    → AreRemaining summary (first_listing made) pair 0 made stored
all_to_come summary pair made stored lists = record {
  all = λ e. lists;
  first = λ e. refl;
  turn = λ h. absurd (omega (arith, h));
  recorded = λ h. absurd (omega (arith, h));
}

-- how many there are
pub count_packets : (summary : RecordSummary) (made : List (List ℕ)) → ArePackets summary made
    → length made ≡ last_part (summary_shape summary) + 1
count_packets summary [] lists = absurd lists
count_packets summary (octets ∷ following) lists = omega (arith, lists.1.0)

-- its shape is one that a record may tell
pub packets_sized : (summary : RecordSummary) (made : List (List ℕ)) → ArePackets summary made
    → IsShape (summary_shape summary)
packets_sized summary [] lists = absurd lists
packets_sized summary (octets ∷ following) lists = shape_sized octets summary lists.0

-- ---- the packets of the whole publication

module _ (packets after : List Packet) (pair : Pair) (made : List (List ℕ)) (summary : RecordSummary)
    (absent : contains part_cmp (keys packets) (part_of pair 0) ≡ false) (lists : ArePackets summary made)
    (puts : after ≡ with_packets (as_parts pair 0 made) packets) where
  abbrev pub first_octets : List (List ℕ) → List ℕ
  first_octets [] = []
  first_octets (octets ∷ following) = octets

  -- its record is stored
  record_stored : stored_at after pair 0 ≡ Some (first_octets made)
  record_stored = ap (λ (es : List Packet). stored_at es pair 0) puts ∙ go made lists where
    go : (made : List (List ℕ)) → ArePackets summary made
        → stored_at (with_packets (as_parts pair 0 made) packets) pair 0 ≡ Some (first_octets made)
    go [] h = absurd h
    go (octets ∷ following) h =
        puts_aside pair 1 following (with_packet (part_of pair 0) octets packets) (part_of pair 0)
        (λ y h. later_part pair 0 y (omega (arith, h)))
        ∙ put_here packets (part_of pair 0) octets absent

  first_reported : option_map summary_of (stated_in (first_octets made)) ≡ Some summary
  first_reported = go made lists where
    go : (made : List (List ℕ)) → ArePackets summary made
        → option_map summary_of (stated_in (first_octets made)) ≡ Some summary
    go [] h = absurd h
    go (octets ∷ following) h = h.0

  publication_stated : option_map summary_of (stated_at after pair) ≡ Some summary
  publication_stated =
      ap (λ (o : Option (List ℕ)). option_map summary_of (option_and_then stated_in o)) record_stored ∙ first_reported

  none_before : stored_at packets pair 0 ≡ None
  none_before = none (stored_at packets pair 0) (sym (contains-value packets (part_of pair 0)) ∙ absent) where
    none : (o : Option (List ℕ)) → is_some o ≡ false → o ≡ None
    none None h = refl
    none (Some x) h = absurd (true≢false h)

  pub nothing_before : whole_at packets pair ≡ None
  nothing_before =
      ap (λ (o : Option (List ℕ)). option_and_then (entry_listed packets pair) (option_and_then listing_in o))
      none_before

  -- others have what they had
  pub others_aside : (q : Pair) → eq_by_cmp pair_cmp q pair ≡ false → (x : ℕ)
      → stored_at after q x ≡ stored_at packets q x
  others_aside q other x =
      ap (λ (es : List Packet). stored_at es q x) puts
      ∙ puts_aside pair 0 made packets (part_of q x) (λ y h. other_part pair q x y other)

  -- what is withdrawn
  withdrawn_published : (withdrawn : List Pair) → Rises part_cmp (keys packets) → Rises part_cmp (keys after)
      → ((q : Pair) → contains pair_cmp withdrawn q ≡ is_withdrawn packets q) → (q : Pair)
      → (withdraws_too pair (Some summary) q || contains pair_cmp withdrawn q) ≡ is_withdrawn after q
  withdrawn_published withdrawn before later were q =
      ap (λ (b : Bool). b || contains pair_cmp withdrawn q)
      (sym (withdraws_stated pair (first_octets made) summary first_reported q))
      ∙ ap (λ (b : Bool). withdraws q (pair, first_octets made) || b) (were q)
      ∙ sym (withdrawn_more packets after pair before later (λ k other. others_aside k other 0) (first_octets made)
      none_before record_stored q)

  -- the record says it newly
  pub said_published : (notes : NotesState) → Rises part_cmp (keys packets) → Rises part_cmp (keys after)
      → ((q : Pair) → contains pair_cmp notes.withdrawn q ≡ is_withdrawn packets q)
      → IsNewSummary pair (Some summary) notes after
  said_published notes before later were = record {
    summary = publication_stated;
    named = λ none. absurd cc;
    withdrawn = withdrawn_published notes.withdrawn before later were;
  }

-- ---- room

pub room_kept : (t : Part) (shape : Option Shape) (plan : PlanState)
    → (uses_room (after_hold t shape plan)).spare ≡ plan.spare - 1
room_kept t shape plan = go (holds plan t) where
  go : (b : Bool)
      → (uses_room (cond b plan (record plan {
        held = insert_key part_cmp t plan.held;
        shapes = with_shape (pair_of t) shape plan.shapes;
      }))).spare
      ≡ plan.spare - 1
  go true = refl
  go false = refl

-- ---- what is held, as it is seen

-- a new publication is new to the plan
pub new_in : (m : Inside) (h : HoldingsState) (pair : Pair) → IsHoldings m → state m ≡ h → IsNew (held_plan h) pair
    → IsNew m.stock.plan pair
new_in m h pair is view new =
    let here : IsNew (held_plan (state m)) pair =
    subst (λ (x : HoldingsState). IsNew (held_plan x) pair) (sym view) new in
    rw (plan_is m is) (record {
      known = here.known;
      not_held = here.not_held;
      not_hidden = here.not_hidden;
      not_claimed = here.not_claimed;
    })

-- and nothing is stored of it
pub new_absent : (m : Inside) (h : HoldingsState) (pair : Pair) → state m ≡ h → IsNew (held_plan h) pair
    → contains part_cmp (keys m.stock.store.packets) (part_of pair 0) ≡ false
new_absent m h pair view new =
    ap (λ (x : HoldingsState). contains part_cmp (keys x.store) (part_of pair 0)) view ∙ new.not_held 0
