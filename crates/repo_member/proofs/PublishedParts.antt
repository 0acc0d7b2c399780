-- What a new publication makes of a member that calls reach.
use Rattle.std.proofs.Common.{◌≡◌, ◌≢◌, inl, inr, ℕ, zero, suc, ◌+◌, ◌-◌, ◌<◌, ◌≤◌, max, Bool, true, false, cond, ◌==◌}
use Rattle.std.proofs.Common.{List, [], ◌∷◌, ◌++◌, length, None, slice_get, refl, sym, ap, ◌∙◌, subst, arith}
use Rattle.std.specs.Prelude.{slice_index, slice_set, IsOk}
use Rattle.std.specs.Option.{option_and_then}
use Rattle.std.specs.Ordering.{eq_by_cmp}
use Rattle.std.proofs.lemmas.Bool.{cases_eq, eqb-false}
use Rattle.std.proofs.lemmas.List.{length-set, length_push, get_or-set_same, get_or-set_other}
use Rattle.repo_plan.specs.declared.part.Part.{Part}
use Rattle.sorted_lists.specs.SortedList.{keys, contains, value_of}
use Rattle.repo_plan.specs.Parts.{Pair, part_cmp, pair_of, part_of}
use Rattle.repo_plan.specs.Plan.{hides}
use Rattle.repo_plan.specs.Sound.{PlanIsSound}
use Rattle.repo_plan.proofs.Orders.{exact_parts}
use Rattle.sorted_lists.proofs.Sets.{eq_same}
use Rattle.repo_object.specs.Objects.{Post, IsPost, Publisher}
use Rattle.repo_object.specs.Publication.{published_record, packets}
use Rattle.repo_object.specs.Wants.{WantedPart}
use Rattle.repo_object.specs.Verdict.{ring_verdict}
use Rattle.ndn_packet.proofs.Ends.{slice_get-push}
use Rattle.repo_holdings.specs.declared.record_summary.RecordSummary.{RecordSummary}
use Rattle.repo_holdings.specs.Gaining.{PlanFits, summary_of, summary_shape}
use Rattle.repo_store.specs.StoreList.{with_packet}
use Rattle.repo_holdings.specs.Records.{Packet}
use Rattle.repo_member.specs.Groups.{GroupKeys, publisher_at}
use Rattle.repo_member.specs.MemberState.{MemberState, member_plan, next_seq, member_publishes, logged}
use Rattle.repo_holdings.specs.NewPublications.{as_parts, with_packets}
use Rattle.repo_member.specs.MemberState.{packet_in, want_of}
use Rattle.repo_holdings.specs.NewPublications.{IsNew}
use Rattle.repo_holdings.proofs.GainingLemmas.{put_here, put_elsewhere}
use Rattle.repo_holdings.proofs.PublishLemmas.{puts_aside, later_part, gained_none, first_listing, packets_sized}
use Rattle.repo_holdings.proofs.PublishLemmas.{count_packets, all_to_come}
use Rattle.repo_member.proofs.MemberLemmas.{knows_more}
use Rattle.repo_member.proofs.PostLemmas.{are_posts_more}
use Rattle.repo_member.proofs.OwnLemmas.{is_publisher, logged_own, packets_are, next_to_last}
use Rattle.repo_member.proofs.ChangeLemmas.{rises_puts}
use Rattle.repo_member.proofs.PlanChanges.{sound_known, sound_puts}
use Rattle.repo_member.proofs.HeldParts.{IsReached, want_same, missing_value, not_there}

-- a place of a list that isn't the one where an element comes
not_at_end : {A : Type 0} (xs : List A) (x : A) (i : ℕ) → i ≢ length xs → slice_get (xs ++ x ∷ []) i ≡ slice_get xs i
not_at_end [] x zero other = absurd (other refl)
not_at_end [] x (suc i) other = refl
not_at_end (y ∷ xs) x zero other = refl
not_at_end (y ∷ xs) x (suc i) other = not_at_end xs x i (λ e. other (ap suc e))

-- the packets of a publication of which nothing was stored are found in their places
puts_value : (pair : Pair) (x : ℕ) (made : List (List ℕ)) (stored : List Packet)
    → ((y : ℕ) → x ≤ y → contains part_cmp (keys stored) (part_of pair y) ≡ false)
    → (k : ℕ) → value_of part_cmp (with_packets (as_parts pair x made) stored) (part_of pair (x + k)) ≡ slice_get made k
puts_value pair x [] stored none k = missing_value stored (part_of pair (x + k)) (none (x + k) (omega arith))
puts_value pair x (octets ∷ made) stored none zero =
    let here : x + 0 ≡ x = omega arith in
    let with_first = with_packet (part_of pair x) octets stored in
    ap (λ (y : ℕ). value_of part_cmp (with_packets (as_parts pair (x + 1) made) with_first) (part_of pair y)) here
    ∙ puts_aside pair (x + 1) made with_first (part_of pair x) (λ y h. later_part pair x y (omega (arith, h)))
    ∙ put_here stored (part_of pair x) octets (none x (omega arith))
puts_value pair x (octets ∷ made) stored none (suc k) =
    let there : x + suc k ≡ (x + 1) + k = omega arith in
    let with_first = with_packet (part_of pair x) octets stored in
    ap (λ (y : ℕ). value_of part_cmp (with_packets (as_parts pair (x + 1) made) with_first) (part_of pair y)) there
    ∙ puts_value pair (x + 1) made with_first (λ y h. not_there with_first (part_of pair y)
    (put_elsewhere stored (part_of pair x) octets (none x (omega arith)) (part_of pair y)
    (earlier_part x y (omega (arith, h)))
    ∙ missing_value stored (part_of pair y) (none y (omega (arith, h))))) k where
      earlier_part : (x y : ℕ) → x < y → eq_by_cmp part_cmp (part_of pair y) (part_of pair x) ≡ false
      earlier_part x y less = go (eq_by_cmp part_cmp (part_of pair y) (part_of pair x)) refl where
        go : (b : Bool) → eq_by_cmp part_cmp (part_of pair y) (part_of pair x) ≡ b → b ≡ false
        go true p =
            let same : y ≡ x = ap (λ (t : Part). t.part) (eq_same exact_parts (part_of pair y) (part_of pair x) p) in
            absurd (omega arith)
        go false p = refl

module _ (g : GroupKeys) (post : Post) (time draw : ℕ) (a : MemberState) (is_post : IsPost (next_seq a) post)
    (room : length a.log < 65535) (r : IsReached g a) where
  abbrev pair : Pair
  pair = (a.number, next_seq a)

  abbrev by : Publisher
  by = publisher_at g a.number

  abbrev made : List (List ℕ)
  made = packets by (next_seq a) post

  abbrev says : RecordSummary
  says = summary_of (published_record by (next_seq a) post)

  abbrev after : List Packet
  after = with_packets (as_parts pair 0 made) a.store

  -- ---- its plan

  abbrev known : List ℕ
  known = slice_set a.known a.number (next_seq a)

  long : length known ≡ length a.known
  long = length-set a.known a.number (next_seq a)

  at_own : slice_index known a.number ≡ next_seq a
  at_own = get_or-set_same a.known a.number (next_seq a) 0 r.member_state.member

  more : (q : ℕ) → slice_index a.known q ≤ slice_index known q
  more q = elim (cases_eq q a.number) [
    | inl here ↦ omega (arith, ap (slice_index a.known) here, ap (slice_index known) here, at_own, r.member_state.own)
    | inr other ↦ omega (arith, get_or-set_other a.known a.number q (next_seq a) 0 other)
  ]

  abbrev received : MemberState
  received = record a { known = known }

  received_sound : PlanIsSound (member_plan received)
  received_sound = sound_known (member_plan a) known (omega (arith, long, r.group.members.roster.few, r.of)) more
      r.sound

  new : IsNew (member_plan received) pair
  new =
      let greater : max (slice_index a.known a.number) (length a.log + 1)
      ≡ next_seq a = omega (arith, r.member_state.own) in
      subst (λ (n : ℕ). IsNew (member_plan (record a { known = slice_set a.known a.number n })) pair) greater
      (next_to_last (member_plan a) a.number (length a.log) r.sound r.member_state.member r.member_state.own
      (r.member_state.hidden pair))

  received_tied : PlanFits (member_plan received) a.store
  received_tied = record {
    in_order = r.tied.in_order;
    held = refl;
    shapes = refl;
    recorded = r.tied.recorded;
    indexed = r.tied.indexed;
  }

  all_sound : PlanIsSound (member_plan (record received { store = after }))
      × PlanFits (member_plan (record received { store = after })) after
  all_sound =
      let are =
      packets_are by (next_seq a) (is_publisher g a.number r.group (omega (arith, r.member_state.member, r.of)))
      (omega (arith, room)) post is_post says refl made refl in
      sound_puts (member_plan received) pair says (first_listing made) (packets_sized says made are) new 0 made received
      (omega (arith, count_packets says made are)) (all_to_come says pair made a.store are) received_tied
      (gained_none (member_plan received) pair (summary_shape says) new) received_sound

  -- ---- what is stored

  aside : (q : Part) → ((y : ℕ) → eq_by_cmp part_cmp q (part_of pair y) ≡ false)
      → value_of part_cmp after q ≡ value_of part_cmp a.store q
  aside q other = puts_aside pair 0 made a.store q (λ y h. other y)

  of_others : (q : Part) → q.publisher ≢ a.number → (y : ℕ) → eq_by_cmp part_cmp q (part_of pair y) ≡ false
  of_others q away y = go (eq_by_cmp part_cmp q (part_of pair y)) refl where
    go : (b : Bool) → eq_by_cmp part_cmp q (part_of pair y) ≡ b → b ≡ false
    go true p = absurd (away (ap (λ (t : Part). t.publisher) (eq_same exact_parts q (part_of pair y) p)))
    go false p = refl

  of_another : (q : Part) → q.seq ≢ next_seq a → (y : ℕ) → eq_by_cmp part_cmp q (part_of pair y) ≡ false
  of_another q away y = go (eq_by_cmp part_cmp q (part_of pair y)) refl where
    go : (b : Bool) → eq_by_cmp part_cmp q (part_of pair y) ≡ b → b ≡ false
    go true p = absurd (away (ap (λ (t : Part). t.seq) (eq_same exact_parts q (part_of pair y) p)))
    go false p = refl

  logged_before : (q : Part) → q.seq ≢ next_seq a → logged g a q ≡ logged g (member_publishes g post time draw a) q
  logged_before q other = go (q.publisher == a.number) (q.seq == 0) refl where
    go : (b c : Bool) → (q.seq == 0) ≡ c
        → cond b (cond c None (option_and_then (packet_in by q) (slice_get a.log (q.seq - 1)))) None
        ≡ cond b (cond c None (option_and_then (packet_in by q) (slice_get (a.log ++ post ∷ []) (q.seq - 1)))) None
    go false c p = refl
    go true true p = refl
    go true false p =
        ap (option_and_then (packet_in by q))
        (sym (not_at_end a.log post (q.seq - 1) (λ e. other (above e (eqb-false q.seq 0 p))))) where
          above : q.seq - 1 ≡ length a.log → (q.seq ≡ 0 → ⊥) → q.seq ≡ next_seq a
          above e ne = elim (cases_eq q.seq 0) [ inl z ↦ absurd (ne z) | inr n ↦ omega (arith, e, n) ]

  own_parts : (q : Part) → q.publisher ≡ a.number → hides (member_plan a) (pair_of q) ≡ false
      → value_of part_cmp after q ≡ logged g (member_publishes g post time draw a) q
  own_parts q own shown = elim (cases_eq q.seq (next_seq a)) [
    | inl same ↦
        let is : q ≡ part_of pair q.part = λ i. record { publisher = own i; seq = same i; part = q.part } in
        let last : q.seq - 1 ≡ length a.log = omega (arith, same) in
        let from_first : q.part ≡ 0 + q.part = omega arith in
        ap (value_of part_cmp after) (is ∙ ap (part_of pair) from_first)
        ∙ puts_value pair 0 made a.store (λ y h. new.not_held y) q.part
        ∙ ap (λ (n : ℕ). slice_get (packets by n post) q.part) (sym same)
        ∙ sym (logged_own g (member_publishes g post time draw a) q post own (omega (arith, same))
        (ap (slice_get (a.log ++ post ∷ [])) last ∙ slice_get-push a.log post))
    | inr other ↦ aside q (of_another q other) ∙ r.own q own shown ∙ logged_before q other
  ]

  same_want : (q : Part) → q.publisher ≢ a.number → want_of g a.store q ≡ want_of g after q
  same_want q away =
      want_same g after a.store q
      (λ x. sym (aside (part_of (pair_of q) x) (of_others (part_of (pair_of q) x) away)))

  pub reached_publishes : IsReached g (member_publishes g post time draw a)
  reached_publishes = record {
    group = r.group;
    member_state = record {
      member = omega (arith, long, r.member_state.member);
      own = at_own ∙ sym (length_push a.log post);
      width = r.member_state.width ∙ sym long;
      in_order = rises_puts (as_parts pair 0 made) a.store r.member_state.in_order;
      hidden = λ p h. knows_more (member_plan a) (member_plan received) p more (r.member_state.hidden p h);
    };
    of = r.of ∙ sym long;
    sound = all_sound.0;
    few = omega (arith, room, length_push a.log post);
    tied = all_sound.1;
    posts = are_posts_more a.log post r.posts is_post;
    own = own_parts;
    others = λ q octets away h.
        subst (λ (want : WantedPart). IsOk (ring_verdict want g.members.ring octets)) (same_want q away)
        (r.others q octets away (sym (aside q (of_others q away)) ∙ h));
    insertions = r.insertions;
  }
