-- Hiding publications of which nothing is held.
use Rattle.std.proofs.Common.{◌≡◌, inl, inr, ℕ, ◌<◌, Bool, true, false, cond, not, List, [], ◌∷◌, length, get_or, refl}
use Rattle.std.proofs.Common.{sym, ap, ◌∙◌, Option, Some, None, is_some}
use Rattle.std.specs.Prelude.{filter}
use Rattle.std.specs.List.{All}
use Rattle.std.specs.Ordering.{eq_by_cmp}
use Rattle.std.specs.Option.{option_and_then}
use Rattle.std.proofs.lemmas.Bool.{true≢false, or_left, or_right, or_from, or_parts, false_from_ne_true}
use Rattle.repo_plan.specs.declared.part.Part.{Part}
use Rattle.sorted_lists.specs.SortedList.{contains, keys, insert_key, value_of}
use Rattle.repo_plan.specs.Parts.{Pair, pair_cmp, part_cmp, pair_of, part_of}
use Rattle.repo_plan.specs.Plan.{is_in}
use Rattle.repo_plan.proofs.Orders.{exact_parts, exact_pairs}
use Rattle.sorted_lists.proofs.Sets.{In, contains_in, eq_same, eq_itself, in_map, contains-insert_key}
use Rattle.sorted_lists.proofs.Members.{in_at}
use Rattle.repo_object.specs.Verdict.{stated_in}
use Rattle.repo_holdings.specs.Records.{Packet}
use Rattle.repo_holdings.specs.Listed.{is_withdrawal, withdrawn_by}
use Rattle.repo_holdings.specs.HoldingsState.{HoldingsState, held_plan}
use Rattle.repo_holdings.specs.Hiding.{outside_all, with_hidden, hides_all}
use Rattle.repo_holdings.specs.Taking.{CanBeTaken, AreTakable}
use Rattle.repo_holdings.specs.declared.holdings.taking.Tried.{Tried}
use Rattle.repo_holdings.proofs.GainingLemmas.{contains-value}
use Rattle.repo_mirror.specs.Passing.{IsUnknownIn}

-- ---- what is stored stays

all_pass : {A : Type 0} (p : A → Bool) (xs : List A) → ((x : A) → In x xs → p x ≡ true) → filter p xs ≡ xs
all_pass p [] each = refl
all_pass {A} p (x ∷ xs) each =
    ap (λ (b : Bool). cond b (x ∷ filter p xs) (filter p xs)) (each x (inl refl))
    ∙ ap (λ (rest : List A). x ∷ rest) (all_pass p xs (λ y i. each y (inr i)))

abbrev NoneStored : List Packet → Pair → Type 0
NoneStored stored pair = (t : Part) → pair_of t ≡ pair → contains part_cmp (keys stored) t ≡ false

none_outside : (pair : Pair) (stored : List Packet) → NoneStored stored pair
    → filter (λ e. not (is_in pair e.0)) stored ≡ stored
none_outside pair stored none =
    all_pass (λ e. not (is_in pair e.0)) stored (λ e i.
    ap not (false_from_ne_true (is_in pair e.0) (λ h.
    let same : pair_of e.0 ≡ pair = sym (eq_same exact_pairs pair (pair_of e.0) h) in
    let there : contains part_cmp (keys stored) e.0 ≡ true =
    contains_in exact_parts (keys stored) e.0 (in_map (λ (x : Packet). x.0) stored e i) in
    true≢false (sym there ∙ none e.0 same))))

pub all_stay : (pairs : List Pair) (stored : List Packet)
    → ((pair : Pair) → contains pair_cmp pairs pair ≡ true → NoneStored stored pair) → outside_all pairs stored ≡ stored
all_stay [] stored none = refl
all_stay (pair ∷ pairs) stored none =
    ap (outside_all pairs)
    (none_outside pair stored
    (none pair (or_left (eq_by_cmp pair_cmp pair pair) (contains pair_cmp pairs pair) (eq_itself exact_pairs pair))))
    ∙ all_stay pairs stored
    (λ q i. none q (or_right (eq_by_cmp pair_cmp q pair) (contains pair_cmp pairs q) i))

-- and none of them is a withdrawal
not_withdrawal : (stored : List Packet) (pair : Pair) → NoneStored stored pair → is_withdrawal stored pair ≡ false
not_withdrawal stored pair none =
    go (value_of part_cmp stored (part_of pair 0))
    (sym (contains-value stored (part_of pair 0)) ∙ none (part_of pair 0) refl) where
      go : (o : Option (List ℕ)) → is_some o ≡ false
          → is_some (option_and_then (withdrawn_by pair) (option_and_then stated_in o)) ≡ false
      go None h = refl
      go (Some octets) h = absurd (true≢false h)

pub none_withdrawn : (pairs : List Pair) (h : HoldingsState)
    → ((pair : Pair) → contains pair_cmp pairs pair ≡ true → IsUnknownIn (held_plan h) pair) → (k : ℕ) (d : Pair)
    → k < length pairs → is_withdrawal h.store (get_or pairs k d) ≡ false
none_withdrawn pairs h unknown k d low =
    let pair : Pair = get_or pairs k d in
    not_withdrawal h.store pair
    (unknown pair (contains_in exact_pairs pairs pair (in_at pairs k d low))).none_held

-- ---- what is wanted of others can still be taken

not_hidden : (pairs hidden : List Pair) (q : Pair) → contains pair_cmp pairs q ≡ false
    → contains pair_cmp hidden q ≡ false → contains pair_cmp (with_hidden pairs hidden) q ≡ false
not_hidden [] hidden q other free = free
not_hidden (pair ∷ pairs) hidden q other free =
    let both = or_parts (eq_by_cmp pair_cmp q pair) (contains pair_cmp pairs q) other in
    not_hidden pairs (insert_key pair_cmp pair hidden) q both.1
    (contains-insert_key exact_pairs pair hidden q
    ∙ or_from (eq_by_cmp pair_cmp q pair) (contains pair_cmp hidden q) both.0 free)

module _ (pairs : List Pair) (h : HoldingsState) (n : ℕ)
    (unknown : (pair : Pair) → contains pair_cmp pairs pair ≡ true → IsUnknownIn (held_plan h) pair) where
  abbrev hides : HoldingsState
  hides = record h { hidden = with_hidden pairs h.hidden; spare = n }

  pub hides_only : hides_all pairs (record h { spare = n }) ≡ hides
  hides_only = λ i. record hides { store = all_stay pairs h.store (λ pair c. (unknown pair c).none_held) i }

  still_taken : (x : Tried) → contains pair_cmp pairs (pair_of x.part) ≡ false
      → CanBeTaken (held_plan h) h.store x → CanBeTaken (held_plan hides) hides.store x
  still_taken x other can = record {
    asked = can.asked;
    not_held = can.not_held;
    not_hidden = not_hidden pairs h.hidden (pair_of x.part) other can.not_hidden;
    not_claimed = can.not_claimed;
    arrived = can.arrived;
    few = can.few;
  }

  pub still_takable : (xs : List Tried) → All (λ x. contains pair_cmp pairs (pair_of x.part) ≡ false) xs
      → AreTakable (held_plan h) h.store xs → AreTakable (held_plan hides) hides.store xs
  still_takable xs others are = record {
    each = λ k d low. still_taken (get_or xs k d) (others k d low) (are.each k d low);
    apart = are.apart;
  }
