-- What a member publishes: its number is new, its packets are read, and the member afterwards.
use Rattle.std.proofs.Common.{◌≡◌, inl, inr, ℕ, ◌+◌, ◌≤◌, ◌<◌, ◌^◌, max, suc, Bool, true, false, cond, ◌&&◌, List, []}
use Rattle.std.proofs.Common.{◌∷◌, length, refl, sym, ap, ◌∙◌, subst, Option, Some, None}
use Rattle.std.proofs.Common.{option_map, is_some, ◌-◌, arith}
use Rattle.std.specs.Option.{option_and_then}
use Rattle.std.specs.Prelude.{◌==◌, nat_le, slice_index, slice_set, slice_index_or}
use Rattle.std.specs.List.{list_any, slice_get}
use Rattle.std.proofs.lemmas.Bool.{true≢false, and_parts, and_from, or_cases, leb-true, le-leb, false_from_ne_true}
use Rattle.std.proofs.lemmas.Bool.{cases_eq, eq-eqb, ne_eqb}
use Rattle.std.proofs.lemmas.List.{get_or-set_same, get_or-set_other, length-set}
use Rattle.std.proofs.lemmas.Option.{unwrap_or-slice_get}
use Rattle.std.specs.Ordering.{eq_by_cmp}
use Rattle.repo_plan.specs.declared.part.Part.{Part}
use Rattle.repo_plan.specs.Parts.{Pair, part_cmp, pair_of, part_of}
use Rattle.repo_plan.specs.Plan.{PlanState, knows, holds, hides, may_be_asked_for, is_claimed, is_claim_of}
use Rattle.repo_plan.specs.Plan.{is_listed_part}
use Rattle.repo_plan.specs.Plan.{shape_of, raises}
use Rattle.repo_plan.specs.Sound.{PlanIsSound}
use Rattle.repo_plan.proofs.Orders.{exact_parts}
use Rattle.sorted_lists.proofs.Sets.{eq_same}
use Rattle.repo_plan.proofs.Known.{wanted_is_asked}
use Rattle.repo_plan.specs.Parts.{index_packets, last_part}
use Rattle.repo_object.specs.Objects.{Post, IsPost, Publisher, IsPublisher, shape_in}
use Rattle.repo_object.specs.Objects.Post.{Offers, Withdraws}
use Rattle.repo_object.specs.Publication.{Listed, packets, packet_at, packets_after, record_packet, published_record}
use Rattle.repo_object.specs.Publication.{published_listing}
use Rattle.repo_object.specs.Wants.{listed_in}
use Rattle.repo_object.specs.Verdict.{stated_in, index_in}
use Rattle.repo_object.proofs.Publications.{record_stated, index_again}
use Rattle.repo_object.proofs.Publications.{packets-length}
use Rattle.repo_member.specs.declared.member.Member.TheInside.{Inside}
use Rattle.repo_member.specs.Groups.{GroupKeys, IsGroup, IsPlainNodeName, node_at, publisher_at}
use Rattle.repo_holdings.specs.declared.record_summary.RecordSummary.{RecordSummary}
use Rattle.repo_holdings.specs.Listed.{listing_in, object_stated}
use Rattle.repo_holdings.specs.StoredParents.{index_count, ListsAsMany}
use Rattle.repo_holdings.specs.Gaining.{summary_of, summary_shape}
use Rattle.repo_member.specs.MemberState.{MemberState, member_plan, logged, packet_in}
use Rattle.repo_holdings.specs.HoldingsState.{HoldingsState, held_plan, with_known_up_to, AreInOrder}
use Rattle.repo_holdings.specs.NewPublications.{IsNew, ArePackets, ListInTurn}
use Rattle.repo_member.specs.Posts.{posts_of, IsKeptLog}
use Rattle.repo_member.specs.Members.{member_state, AreWaiting, IsMember}
use Rattle.repo_member.proofs.MemberLemmas.{knows_more}

-- ---- the publisher

pub is_publisher : (g : GroupKeys) (number : ℕ) → IsGroup g → number < length g.members.names
    → IsPublisher (publisher_at g number)
is_publisher g number is inside =
    let at = is.members.node_names number [] inside in
    let node : IsPlainNodeName (node_at g number) =
    subst IsPlainNodeName (sym (unwrap_or-slice_get g.members.names number [])) at in
    record { node = (node.valid, node.short); group = (is.name.valid, is.name.short) }

-- ---- its packets

-- each packet from part `x` on lists its part's number of digests
in_turn : (l : Option Listed) (x : ℕ) (made : List (List ℕ))
    → ((i : ℕ) (octets : List ℕ) → slice_get made i ≡ Some octets
    → ListsAsMany octets (option_and_then (index_count (x + i)) l))
    → ListInTurn l x made
in_turn l x [] each = tt
in_turn l x (octets ∷ made) each = (
  first (omega arith) (each 0 octets refl),
  in_turn l (x + 1) made (λ i o h. later i o (omega arith) (each (suc i) o h)),
) where
  first : x + 0 ≡ x → ListsAsMany octets (option_and_then (index_count (x + 0)) l)
      → ListsAsMany octets (option_and_then (index_count x) l)
  first e = subst (λ (n : ℕ). ListsAsMany octets (option_and_then (index_count n) l)) e

  later : (i : ℕ) (o : List ℕ) → x + suc i ≡ x + 1 + i → ListsAsMany o (option_and_then (index_count (x + suc i)) l)
      → ListsAsMany o (option_and_then (index_count (x + 1 + i)) l)
  later i o e = subst (λ (n : ℕ). ListsAsMany o (option_and_then (index_count n) l)) e

module _ (publisher : Publisher) (seq : ℕ) (is_publisher : IsPublisher publisher) (low : seq < 2 ^ 16) where
  after_listed : (post : Post) → IsPost seq post → (i : ℕ) (octets : List ℕ)
      → slice_get (packets_after publisher seq post) i ≡ Some octets
      → ListsAsMany octets (option_and_then (index_count (1 + i)) (object_stated (published_record publisher seq post)))
  after_listed (Withdraws withdrawn) is i octets there = tt
  after_listed (Offers object) is i octets there =
      subst (ListsAsMany octets) (sym counted) (go (nat_le (1 + i) (index_packets (length object.contents))) refl) where
        counted : index_count (1 + i) (published_listing publisher seq object)
            ≡ cond (nat_le (1 + i) (index_packets (length object.contents)))
            (Some (listed_in (length object.contents) (1 + i - 1))) None
        counted =
            ap (λ (b : Bool). cond b None (cond (nat_le (1 + i) (index_packets (length object.contents)))
            (Some (listed_in (length object.contents) (1 + i - 1))) None))
            (ne_eqb (1 + i) 0 (λ e. absurd (omega (arith, e))))

        next : i + 1 ≡ suc i
        next = omega arith

        first : 1 + i - 1 ≡ i
        first = omega arith

        go : (b : Bool) → nat_le (1 + i) (index_packets (length object.contents)) ≡ b
            → ListsAsMany octets (cond b (Some (listed_in (length object.contents) (1 + i - 1))) None)
        go false p = tt
        go true p =
            let below = leb-true (1 + i) (index_packets (length object.contents)) p in
            ap (λ (k : ℕ). is_some (index_in octets (listed_in (length object.contents) k))) first
            ∙ ap is_some (index_again publisher is_publisher object is seq i octets low (omega (arith, below))
            (ap (packet_at publisher seq (Offers object)) next ∙ there))

  pub packets_are : (post : Post) → IsPost seq post → (received : RecordSummary)
      → received ≡ summary_of (published_record publisher seq post)
      → (made : List (List ℕ)) → made ≡ packets publisher seq post → ArePackets received made
  packets_are post is received says made same = subst (ArePackets received) (sym same) (
    stated,
    (
      many,
      in_turn (listing_in (record_packet publisher seq (published_record publisher seq post))) 1
          (packets_after publisher seq post)
          (λ i octets there.
          subst (λ (l : Option Listed). ListsAsMany octets (option_and_then (index_count (1 + i)) l))
          (sym (ap (option_and_then object_stated) record_is)) (after_listed post is i octets there)),
    ),
  ) where
    record_is : stated_in (record_packet publisher seq (published_record publisher seq post))
        ≡ Some (published_record publisher seq post)
    record_is = record_stated publisher is_publisher seq post is low

    stated : option_map summary_of (stated_in (record_packet publisher seq (published_record publisher seq post)))
        ≡ Some received
    stated = ap (option_map summary_of) record_is ∙ ap (λ (t : RecordSummary). Some t) (sym says)

    shape : (post : Post) → summary_shape (summary_of (published_record publisher seq post)) ≡ shape_in post
    shape (Offers object) = refl
    shape (Withdraws withdrawn) = refl

    many : length (packets_after publisher seq post) ≡ last_part (summary_shape received)
    many =
        omega (arith, packets-length publisher seq post)
        ∙ ap last_part (sym (shape post) ∙ ap summary_shape (sym says))

-- ---- what is logged

-- an own part is looked up among what was published
pub logged_own : (g : GroupKeys) (a : MemberState) (t : Part) (post : Post) → t.publisher ≡ a.number → 0 < t.seq
    → slice_get a.log (t.seq - 1) ≡ Some post
    → logged g a t ≡ packet_in (publisher_at g a.number) t post
logged_own g a t post own above there =
    ap (λ (b : Bool). cond b
    (cond (t.seq == 0) None (option_and_then (packet_in (publisher_at g a.number) t) (slice_get a.log (t.seq - 1))))
    None) (eq-eqb t.publisher a.number own)
    ∙ ap
    (λ (b : Bool). cond b None (option_and_then (packet_in (publisher_at g a.number) t) (slice_get a.log (t.seq - 1))))
    (ne_eqb t.seq 0 (λ e. absurd (omega (arith, e, above))))
    ∙ ap (option_and_then (packet_in (publisher_at g a.number) t)) there

-- ---- its number

any_claim : (t : Part) (claims : List (Option Part)) → list_any (is_claim_of t) claims ≡ true
    → (f : ℕ) × (slice_index_or claims f None ≡ Some t)
any_claim t [] h = absurd (true≢false (sym h))
any_claim t (None ∷ claims) h = let later = any_claim t claims h in (suc later.0, later.1)
any_claim t (Some u ∷ claims) h = elim (or_cases (eq_by_cmp part_cmp t u) (list_any (is_claim_of t) claims) h) [
  | inl same ↦ (0, ap (λ (v : Part). Some v) (sym (eq_same exact_parts t u same)))
  | inr others ↦ let later = any_claim t claims others in (suc later.0, later.1)
]

known_up_to : (p : PlanState) (pair : Pair) → knows p pair ≡ true → pair.1 ≤ slice_index p.known pair.0
known_up_to p pair h =
    leb-true pair.1 (slice_index p.known pair.0)
    (and_parts (nat_le 1 pair.1) (nat_le pair.1 (slice_index p.known pair.0)) h).1

asked_known_up_to : (p : PlanState) (t : Part) → may_be_asked_for p t ≡ true → t.seq ≤ slice_index p.known t.publisher
asked_known_up_to p t h =
    known_up_to p (pair_of t) (and_parts (knows p (pair_of t)) (is_listed_part p.held (shape_of p (pair_of t)) t) h).0

-- nothing is held, hidden or claimed of the publication after the last one that is known
pub next_to_last : (p : PlanState) (number last : ℕ) → PlanIsSound p → number < length p.known
    → slice_index p.known number ≡ last
    → (hides p (number, last + 1) ≡ true → knows p (number, last + 1) ≡ true)
    → IsNew (raises number (last + 1) p) (number, last + 1)
next_to_last p number last sound inside own hidden = record {
  known =
      and_from (nat_le 1 seq)
      (nat_le seq (slice_index (slice_set p.known number (max (slice_index p.known number) seq)) number))
      (le-leb 1 seq (omega arith)) (le-leb seq _ (omega (arith, at)));
  not_held =
      λ x. false_from_ne_true (holds p (part_of (number, seq) x))
      (λ h. past (asked_known_up_to p (part_of (number, seq) x) (sound.held (part_of (number, seq) x) h).asked));
  not_hidden = false_from_ne_true (hides p (number, seq)) (λ h. past (known_up_to p (number, seq) (hidden h)));
  not_claimed = λ x. false_from_ne_true (is_claimed p (part_of (number, seq) x)) (λ h.
      let claim = any_claim (part_of (number, seq) x) p.claims h in
      past (asked_known_up_to p (part_of (number, seq) x)
      (wanted_is_asked p (part_of (number, seq) x) (sound.claimed claim.0 (part_of (number, seq) x) claim.1))));
} where
  seq : ℕ
  seq = last + 1

  at : slice_index (slice_set p.known number (max (slice_index p.known number) seq)) number
      ≡ max (slice_index p.known number) seq
  at = get_or-set_same p.known number (max (slice_index p.known number) seq) 0 inside

  past : seq ≤ slice_index p.known number → ⊥
  past h = omega (arith, own, h)

-- a member's next publication is new in its plan
pub next_is_new : (m : Inside) (held : HoldingsState) (n log : ℕ) → IsMember m → PlanIsSound (held_plan m.held)
    → log ≡ length (posts_of m.log.items) → held ≡ with_known_up_to m.number (log + 1) (record m.held { spare = n })
    → IsNew (held_plan held) (m.number, log + 1)
next_is_new m held n log is sound long raised =
    let seq = log + 1 in
    let pair : Pair = (m.number, seq) in
    subst (λ (h : HoldingsState). IsNew (held_plan h) pair) (sym raised)
    (next_to_last (held_plan m.held) m.number log sound
    (omega (arith, is.member_state.member, ap (λ (known : List ℕ). length known) is.known))
    (ap (λ (known : List ℕ). slice_index known m.number) is.known ∙ is.member_state.own ∙ sym long)
    (λ h.
    ap (λ (known : List ℕ). nat_le 1 seq && nat_le seq (slice_index known m.number)) is.known
    ∙ is.member_state.hidden pair h))

-- ---- the member afterwards

module _ (m : Inside) (is : IsMember m) where
  abbrev greater : List ℕ → List ℕ
  greater known = slice_set known m.number (max (slice_index known m.number) (length (posts_of m.log.items) + 1))

  raised_at : (p : ℕ) → slice_index m.vector p ≤ slice_index (greater m.vector) p
  raised_at p = elim (cases_eq p m.number) [
    | inl here ↦
        subst (λ (q : ℕ). slice_index m.vector q ≤ slice_index (greater m.vector) q) (sym here)
        (omega (
          arith,
          get_or-set_same m.vector m.number (max (slice_index m.vector m.number) (length (posts_of m.log.items) + 1)) 0
              is.member_state.member,
        ))
    | inr other ↦
        omega (
          arith,
          get_or-set_other m.vector m.number p (max (slice_index m.vector m.number) (length (posts_of m.log.items) + 1))
              0 other,
        )
  ]

  -- one publication more
  pub published_is : (next : Inside) → next.number ≡ m.number → IsKeptLog next.log.items
      → length (posts_of next.log.items) ≡ length (posts_of m.log.items) + 1
      → next.vector ≡ slice_set m.vector m.number
      (max (slice_index m.vector m.number) (length (posts_of m.log.items) + 1))
      → next.machine.members ≡ m.machine.members
      → next.held.known
      ≡ slice_set m.held.known m.number (max (slice_index m.held.known m.number) (length (posts_of m.log.items) + 1))
      → next.held.hidden ≡ m.held.hidden → AreInOrder next.held
      → AreWaiting next.processes.processes → IsMember next
  published_is next number kept more vector members known hidden in_order waiting =
      let long =
      length-set m.vector m.number (max (slice_index m.vector m.number) (length (posts_of m.log.items) + 1)) in
      let wide : length next.vector ≡ length m.vector = ap (λ (v : List ℕ). length v) vector ∙ long in
      let own = is.member_state.own in
      let at =
      get_or-set_same m.vector m.number (max (slice_index m.vector m.number) (length (posts_of m.log.items) + 1)) 0
      is.member_state.member in
      let here : slice_index next.vector next.number ≡ slice_index (greater m.vector) m.number =
      ap (λ (v : List ℕ). slice_index v next.number) vector ∙ ap (slice_index (greater m.vector)) number in
      record {
        member_state = record {
          member = omega (arith, number, wide, is.member_state.member);
          own = omega (arith, here, at, own, more);
          width = members ∙ is.member_state.width ∙ sym wide;
          in_order = in_order;
          hidden = λ pair h. knows_more (member_plan (member_state m)) (member_plan (member_state next)) pair
              (λ p. subst (λ (v : List ℕ). slice_index m.vector p ≤ slice_index v p) (sym vector) (raised_at p))
              (is.member_state.hidden pair
              (ap (λ (pairs : List Pair). hides (record (held_plan m.held) { hidden = pairs }) pair) (sym hidden) ∙ h));
        };
        known = known ∙ ap greater is.known ∙ sym vector;
        log = kept;
        waiting = waiting;
      }
