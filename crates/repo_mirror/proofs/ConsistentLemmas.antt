-- A mirror that takes published packets of their parts.
use Rattle.std.proofs.Common.{◌≡◌, inl, inr, ℕ, Bool, true, false, cond, not, ◌&&◌, ◌||◌, List, []}
use Rattle.std.proofs.Common.{get_or, refl, sym, ap, ◌∙◌, subst, arith, Option, Some, None, is_some, option_map}
use Rattle.std.proofs.Common.{unwrap_or}
use Rattle.std.specs.Prelude.{◌==◌, filter}
use Rattle.std.specs.Cmp.{both_ways}
use Rattle.std.specs.List.{All}
use Rattle.std.proofs.lemmas.Bool.{true≢false, and_parts, and_from, or_cases, or_left, or_right, not-true, eq-eqb}
use Rattle.std.proofs.lemmas.Bool.{eqb-true, cases_Bool}
use Rattle.repo_plan.specs.declared.part.Part.{Part}
use Rattle.sorted_lists.specs.SortedList.{contains}
use Rattle.repo_plan.specs.Parts.{Pair, pair_cmp, part_cmp, pair_of, part_of, record_of, parent}
use Rattle.repo_plan.proofs.Orders.{exact_parts, exact_pairs}
use Rattle.sorted_lists.proofs.Sets.{In, contains_in, in_contains, in_map, from_map, in_filter, contains-insert_keys}
use Rattle.sorted_lists.proofs.Members.{in_at, in_filtered}
use Rattle.repo_object.specs.Objects.{Post, Publisher}
use Rattle.repo_object.specs.Objects.Post.{Offers, Withdraws}
use Rattle.repo_object.specs.Publication.{RecordSays, packet_at, published_record}
use Rattle.repo_object.specs.Verdict.{stated_in}
use Rattle.repo_holdings.specs.Gaining.{summary_of}
use Rattle.repo_holdings.specs.Taking.{Fetched}
use Rattle.group_model.specs.Publications.{Logs, post_at, shape_at}
use Rattle.group_model.proofs.Lists.{at_in}
use Rattle.group_model.proofs.Parents.{record_lists_itself}
use Rattle.repo_mirror.specs.Asked.{is_for, is_post_for}
use Rattle.repo_mirror.specs.Mirrors.{mirror_holds, IsWantedByMirror, IsKeptSoundly, IsPassedSoundly}
use Rattle.repo_mirror.proofs.Wants.{held_kept}
use Rattle.repo_member.specs.Groups.{GroupKeys, publisher_at}
use Rattle.repo_member.specs.MemberState.{member_takes}
use Rattle.repo_member.specs.InGroup.{AreLogs, IsItsPacket, IsConsistentFetch, parts_fetched}
use Rattle.repo_member.specs.ConsistentHolders.{member_with}
use Rattle.repo_member.proofs.PublicLaws.{takes_consistently, stays_consistent}
use Rattle.repo_member.proofs.ConsistentPackets.{record_says, published_post, published_by, published_low}
use Rattle.repo_member.proofs.HolderTakes.{is_stored, still_there, then_there, from_there, store_taken}
use Rattle.repo_watch.specs.declared.pattern.Pattern.{Pattern}
use Rattle.repo_mirror.specs.MirrorState.{MirrorState, mirror_holdings}
use Rattle.repo_mirror.specs.Passing.{is_summary_for, is_packet_for, is_fetch_for, fetches_for, not_kept}
use Rattle.repo_mirror.specs.Passing.{passed_over, mirror_takes}
use Rattle.repo_mirror.specs.ConsistentMirrors.{mirror_in_group, IsConsistentMirror, FetchForMirror}
use Rattle.repo_mirror.specs.ConsistentMirrors.{MirrorsTakeConsistent}
use Rattle.repo_mirror.proofs.GroupLemmas.{mirrors_want_alike}
use Rattle.repo_mirror.proofs.SortedLemmas.{passed_record}
use Rattle.repo_mirror.proofs.TakenLemmas.{hidden_is}

-- ---- what the record of a publication tells

reported_kept : (pattern : Pattern) (who : Publisher) (p seq : ℕ) (post : Post)
    → is_summary_for pattern p (Some (summary_of (published_record who seq post))) ≡ is_post_for pattern p post
reported_kept pattern who p seq (Offers object) = refl
reported_kept pattern who p seq (Withdraws withdrawn) = refl

-- a record that was received is kept just where what was published is
record_kept : (g : GroupKeys) (logs : Logs) (pattern : Pattern) (t : Part) (octets : List ℕ) → AreLogs g logs
    → t.part ≡ 0 → IsItsPacket g logs t octets → is_packet_for pattern t octets ≡ is_for pattern logs (pair_of t)
record_kept g logs pattern t octets are zero its =
    ap (λ (b : Bool). is_summary_for pattern t.publisher (cond b (option_map summary_of (stated_in octets)) None))
    (eq-eqb t.part 0 zero)
    ∙ ap (λ (o : Option RecordSays). is_summary_for pattern t.publisher (option_map summary_of o))
    (record_says (publisher_at g t.publisher) t.seq (post_at logs (pair_of t))
    (published_by g logs are (pair_of t) its.published) (published_post g logs are (pair_of t) its.published)
    (published_low g logs are (pair_of t) its.published) octets
    (ap (packet_at (publisher_at g t.publisher) t.seq (post_at logs (pair_of t))) (sym zero) ∙ its.packet))
    ∙ reported_kept pattern (publisher_at g t.publisher) t.publisher t.seq (post_at logs (pair_of t))

-- ---- one result

module _ (g : GroupKeys) (logs : Logs) (m : MirrorState) (are : AreLogs g logs) (is : IsConsistentMirror g logs m)
    (x : Fetched) (came : FetchForMirror g logs m x) where
  wanted : IsWantedByMirror m.pattern logs (mirror_in_group m) x.part
  wanted = (mirrors_want_alike g logs m x.part are is).0 came.part_wanted

  -- it is kept just where what was published is, if it is a record
  kept_alike : x.part.part ≡ 0 → is_some x.packet ≡ true
      → is_fetch_for m.pattern x ≡ is_for m.pattern logs (pair_of x.part)
  kept_alike zero some = go x.packet came.consistent some where
    go : (o : Option (List ℕ)) → IsConsistentFetch g logs x.part o → is_some o ≡ true
        → unwrap_or (option_map (is_packet_for m.pattern x.part) o) true ≡ is_for m.pattern logs (pair_of x.part)
    go None t h = absurd (true≢false (sym h))
    go (Some octets) t h = record_kept g logs m.pattern x.part octets are zero t

  accepted : is_fetch_for m.pattern x ≡ true → is_some x.packet ≡ true
      → is_for m.pattern logs (pair_of x.part) ≡ true
  accepted kept some = elim wanted.part [
    | inl zero ↦ sym (kept_alike zero some) ∙ kept
    | inr s ↦ s.accepted
  ]

  -- a packet was received where the result isn't kept
  passed_came : is_fetch_for m.pattern x ≡ false → is_some x.packet ≡ true
  passed_came h = go x.packet h where
    go : (o : Option (List ℕ)) → unwrap_or (option_map (is_packet_for m.pattern x.part) o) true ≡ false
        → is_some o ≡ true
    go None k = absurd (true≢false k)
    go (Some octets) k = refl

-- ---- all results

module _ (g : GroupKeys) (logs : Logs) (m : MirrorState) (xs : List Fetched) (are : AreLogs g logs)
    (is : IsConsistentMirror g logs m) (all : All (FetchForMirror g logs m) xs) where
  abbrev next : MirrorState
  next = mirror_takes xs m

  each : (x : Fetched) → In x xs → FetchForMirror g logs m x
  each x i =
      let at = at_in xs x x i in subst (FetchForMirror g logs m) (sym at.2) (all at.0 x at.1)

  kept_in : (x : Fetched) → In x (fetches_for m.pattern xs) → In x xs × (is_fetch_for m.pattern x ≡ true)
  kept_in x i = in_filtered (is_fetch_for m.pattern) xs x i

  -- what is passed over newly
  passed_in : (pair : Pair) → contains pair_cmp (passed_over m.pattern xs) pair ≡ true
      → (x : Fetched) × In x xs × (is_fetch_for m.pattern x ≡ false) × (pair ≡ pair_of x.part)
  passed_in pair h =
      let among : contains pair_cmp (not_kept m.pattern xs) pair ≡ true =
      elim (or_cases (contains pair_cmp (not_kept m.pattern xs) pair) false
      (sym (contains-insert_keys exact_pairs (not_kept m.pattern xs) [] pair) ∙ h)) [
        | inl c ↦ c
        | inr none ↦ absurd (true≢false (sym none))
      ] in
      let r = from_map (λ (x : Fetched). pair_of x.part) (filter (λ x. not (is_fetch_for m.pattern x)) xs) pair
      (in_contains exact_pairs (not_kept m.pattern xs) pair among) in
      let f = in_filtered (λ x. not (is_fetch_for m.pattern x)) xs r.0 r.1 in
      (r.0, f.0, not-true (is_fetch_for m.pattern r.0) f.1, r.2)

  passed_now : (x : Fetched) → In x xs → is_fetch_for m.pattern x ≡ false
      → contains pair_cmp next.passed (pair_of x.part) ≡ true
  passed_now x i h =
      let among : In (pair_of x.part) (not_kept m.pattern xs) =
      in_map (λ (y : Fetched). pair_of y.part) (filter (λ y. not (is_fetch_for m.pattern y)) xs) x
      (in_filter (λ y. not (is_fetch_for m.pattern y)) xs x i (ap not h)) in
      hidden_is (passed_over m.pattern xs) m.passed (pair_of x.part)
      ∙ or_left (contains pair_cmp (passed_over m.pattern xs) (pair_of x.part))
      (contains pair_cmp m.passed (pair_of x.part))
      (contains-insert_keys exact_pairs (not_kept m.pattern xs) [] (pair_of x.part)
      ∙ or_left (contains pair_cmp (not_kept m.pattern xs) (pair_of x.part)) false
      (contains_in exact_pairs (not_kept m.pattern xs) (pair_of x.part) among))

  more : (u : Part) → is_stored m.store u ≡ true → is_stored next.store u ≡ true
  more u h = still_there (fetches_for m.pattern xs) m.store u h

  -- ---- it stays true

  kept_new : (x : Fetched) → In x (fetches_for m.pattern xs) → is_some x.packet ≡ true
      → IsKeptSoundly m.pattern logs (mirror_in_group next) x.part
  kept_new x i some =
      let from = kept_in x i in
      let came = each x from.0 in
      let w = wanted g logs m are is x came in
      let yes = accepted g logs m are is x came from.1 some in
      let here = then_there (fetches_for m.pattern xs) m.store x i some in
      let up : Part = parent (shape_at logs (pair_of x.part)) x.part in
      record {
        known = w.known;
        publisher = w.publisher;
        counted = elim w.part [ inl zero ↦ omega (arith, zero) | inr s ↦ s.counted ];
        with_record = elim w.part [
          | inl zero ↦
              subst (λ (u : Part). is_stored next.store u ≡ true)
              (ap (λ (n : ℕ). part_of (pair_of x.part) n) zero) here
          | inr s ↦
              more (record_of x.part)
              (is.sound.kept up
              (held_kept m.pattern logs (mirror_in_group m) is.sound up yes s.with_parent)).with_record
        ];
        with_parent = elim w.part [
          | inl zero ↦
              subst (λ (u : Part). is_stored next.store u ≡ true)
              (sym (record_lists_itself (shape_at logs (pair_of x.part)) x.part zero)) here
          | inr s ↦ more up (held_kept m.pattern logs (mirror_in_group m) is.sound up yes s.with_parent)
        ];
        accepted = yes;
      }

  kept_sound : (t : Part) → is_stored next.store t ≡ true → IsKeptSoundly m.pattern logs (mirror_in_group next) t
  kept_sound t h = elim (from_there (fetches_for m.pattern xs) m.store t h) [
    | inl old ↦
        let s = is.sound.kept t old in
        record {
          known = s.known;
          publisher = s.publisher;
          counted = s.counted;
          with_record = more (record_of t) s.with_record;
          with_parent = more (parent (shape_at logs (pair_of t)) t) s.with_parent;
          accepted = s.accepted;
        }
    | inr r ↦ subst (IsKeptSoundly m.pattern logs (mirror_in_group next)) r.2 (kept_new r.0 r.1 r.3)
  ]

  passed_sound : (pair : Pair) → contains pair_cmp next.passed pair ≡ true
      → IsPassedSoundly m.pattern logs (mirror_in_group next) pair
  passed_sound pair h =
      elim (or_cases (contains pair_cmp (passed_over m.pattern xs) pair) (contains pair_cmp m.passed pair)
      (sym (hidden_is (passed_over m.pattern xs) m.passed pair) ∙ h)) [
        | inl new ↦
            let r = passed_in pair new in
            let came = each r.0 r.1 in
            let w = wanted g logs m are is r.0 came in
            let zero = passed_record m.pattern r.0 r.2 in
            subst (IsPassedSoundly m.pattern logs (mirror_in_group next)) (sym r.3) (record {
              known = w.known;
              publisher = w.publisher;
              not_accepted =
                  sym (kept_alike g logs m are is r.0 came zero (passed_came g logs m are is r.0 came r.2)) ∙ r.2;
            })
        | inr old ↦
            let s = is.sound.passed pair old in
            record { known = s.known; publisher = s.publisher; not_accepted = s.not_accepted }
      ]

  stays : IsConsistentMirror g logs next
  stays = record {
    vector = is.vector;
    sound = record { kept = kept_sound; passed = passed_sound };
    stored =
        stays_consistent g logs (member_takes (fetches_for m.pattern xs) (member_with (mirror_holdings m)))
        (member_with (mirror_holdings next))
        (sym (store_taken (fetches_for m.pattern xs) (member_with (mirror_holdings m))))
        (takes_consistently g logs (fetches_for m.pattern xs) (member_with (mirror_holdings m)) kept_consistently
        is.stored);
  } where
    kept_consistently : All (λ x. IsConsistentFetch g logs x.part x.packet) (fetches_for m.pattern xs)
    kept_consistently k d low =
        (each (get_or (fetches_for m.pattern xs) k d)
        (kept_in (get_or (fetches_for m.pattern xs) k d) (in_at (fetches_for m.pattern xs) k d low)).0).consistent

  -- ---- what is held then

  fetched_in : (x : Fetched) → In x xs → is_some x.packet ≡ true → contains part_cmp (parts_fetched xs) x.part ≡ true
  fetched_in x i some =
      contains_in exact_parts (parts_fetched xs) x.part
      (in_map (λ (y : Fetched). y.part) (filter (λ y. is_some y.packet) xs) x
      (in_filter (λ y. is_some y.packet) xs x i some))

  holds_passed : (u : Part) → u.part ≡ 0 → contains pair_cmp next.passed (pair_of u) ≡ true
      → mirror_holds (mirror_in_group next) u ≡ true
  holds_passed u zero h =
      or_right (is_stored next.store u) (u.part == 0 && contains pair_cmp next.passed (pair_of u))
      (and_from (u.part == 0) (contains pair_cmp next.passed (pair_of u)) (eq-eqb u.part 0 zero) h)

  holds_stored : (u : Part) → is_stored next.store u ≡ true → mirror_holds (mirror_in_group next) u ≡ true
  holds_stored u h = or_left (is_stored next.store u) (u.part == 0 && contains pair_cmp next.passed (pair_of u)) h

  held_came : (u : Part) → contains part_cmp (parts_fetched xs) u ≡ true → mirror_holds (mirror_in_group next) u ≡ true
  held_came u h =
      let r = from_map (λ (y : Fetched). y.part) (filter (λ y. is_some y.packet) xs) u
      (in_contains exact_parts (parts_fetched xs) u h) in
      let f = in_filtered (λ y. is_some y.packet) xs r.0 r.1 in
      subst (λ (t : Part). mirror_holds (mirror_in_group next) t ≡ true) (sym r.2)
      (elim (cases_Bool (is_fetch_for m.pattern r.0)) [
        | inl kept ↦
            holds_stored r.0.part
            (then_there (fetches_for m.pattern xs) m.store r.0
            (in_filter (is_fetch_for m.pattern) xs r.0 f.0 kept) f.1)
        | inr passed ↦
            holds_passed r.0.part (passed_record m.pattern r.0 passed) (passed_now r.0 f.0 passed)
      ])

  held_before : (u : Part) → mirror_holds (mirror_in_group m) u ≡ true → mirror_holds (mirror_in_group next) u ≡ true
  held_before u h =
      elim (or_cases (is_stored m.store u) (u.part == 0 && contains pair_cmp m.passed (pair_of u)) h) [
        | inl k ↦ holds_stored u (more u k)
        | inr p ↦
            let both = and_parts (u.part == 0) (contains pair_cmp m.passed (pair_of u)) p in
            holds_passed u (eqb-true u.part 0 both.0)
            (hidden_is (passed_over m.pattern xs) m.passed (pair_of u)
            ∙ or_right (contains pair_cmp (passed_over m.pattern xs) (pair_of u))
            (contains pair_cmp m.passed (pair_of u)) both.1)
      ]

  held_after : (u : Part) → mirror_holds (mirror_in_group next) u ≡ true
      → (contains part_cmp (parts_fetched xs) u || mirror_holds (mirror_in_group m) u) ≡ true
  held_after u h =
      elim (or_cases (is_stored next.store u) (u.part == 0 && contains pair_cmp next.passed (pair_of u)) h) [
        | inl k ↦ elim (from_there (fetches_for m.pattern xs) m.store u k) [
          | inl old ↦ before (or_left (is_stored m.store u) (u.part == 0 && contains pair_cmp m.passed (pair_of u)) old)
          | inr r ↦
              newly
              (subst (λ (t : Part). contains part_cmp (parts_fetched xs) t ≡ true) r.2
              (fetched_in r.0 (kept_in r.0 r.1).0 r.3))
        ]
        | inr p ↦
            let both = and_parts (u.part == 0) (contains pair_cmp next.passed (pair_of u)) p in
            elim (or_cases (contains pair_cmp (passed_over m.pattern xs) (pair_of u))
            (contains pair_cmp m.passed (pair_of u))
            (sym (hidden_is (passed_over m.pattern xs) m.passed (pair_of u)) ∙ both.1)) [
              | inl new ↦
                  let r = passed_in (pair_of u) new in
                  let zero = passed_record m.pattern r.0 r.2 in
                  let number : u.part ≡ r.0.part.part = eqb-true u.part 0 both.0 ∙ sym zero in
                  let same : r.0.part ≡ u = sym (λ i. part_of (r.3 i) (number i)) in
                  newly
                  (subst (λ (t : Part). contains part_cmp (parts_fetched xs) t ≡ true) same
                  (fetched_in r.0 r.1 (passed_came g logs m are is r.0 (each r.0 r.1) r.2)))
              | inr old ↦
                  before
                  (or_right (is_stored m.store u) (u.part == 0 && contains pair_cmp m.passed (pair_of u))
                  (and_from (u.part == 0) (contains pair_cmp m.passed (pair_of u)) both.0 old))
            ]
      ] where
        newly : contains part_cmp (parts_fetched xs) u ≡ true
            → (contains part_cmp (parts_fetched xs) u || mirror_holds (mirror_in_group m) u) ≡ true
        newly c = or_left (contains part_cmp (parts_fetched xs) u) (mirror_holds (mirror_in_group m) u) c

        before : mirror_holds (mirror_in_group m) u ≡ true
            → (contains part_cmp (parts_fetched xs) u || mirror_holds (mirror_in_group m) u) ≡ true
        before o = or_right (contains part_cmp (parts_fetched xs) u) (mirror_holds (mirror_in_group m) u) o

pub mirrors_take_consistent : MirrorsTakeConsistent
mirrors_take_consistent g logs m xs are is all = record {
  stays = stays g logs m xs are is all;
  held = λ u.
      both_ways (mirror_holds (mirror_in_group (mirror_takes xs m)) u)
      (contains part_cmp (parts_fetched xs) u || mirror_holds (mirror_in_group m) u)
      (held_after g logs m xs are is all u)
      (λ h.
      elim (or_cases (contains part_cmp (parts_fetched xs) u) (mirror_holds (mirror_in_group m) u) h) [
        | inl c ↦ held_came g logs m xs are is all u c
        | inr o ↦ held_before g logs m xs are is all u o
      ]);
}
