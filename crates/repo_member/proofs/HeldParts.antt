-- What holds of every member that calls reach, and that each change keeps it.
use Rattle.std.proofs.Common.{◌≡◌, ◌≢◌, inl, inr, ℕ, zero, suc, ◌+◌, ◌-◌, ◌^◌, ◌<◌, ◌≤◌, Bool, true, false, cond, ◌==◌}
use Rattle.std.proofs.Common.{List, [], length}
use Rattle.std.proofs.Common.{Option, Some, None, option_map, is_some, Result, Ok, Err, slice_get, refl, sym, ap, ◌∙◌}
use Rattle.std.proofs.Common.{subst, arith}
use Rattle.std.specs.Prelude.{nat_le, slice_index, slice_index_or, replicate, unwrap_or, ◌&&◌, IsOk, IsTrue, IsSome}
use Rattle.std.specs.Prelude.{IfSome}
use Rattle.std.specs.Option.{option_and_then}
use Rattle.std.specs.Ordering.{eq_by_cmp}
use Rattle.std.proofs.lemmas.Bool.{true≢false, and_parts, or_cases, leb-true, eqb-true}
use Rattle.std.proofs.lemmas.List.{length-replicate, get_or-replicate}
use Rattle.std.proofs.lemmas.Option.{none-some, slice_get-get_or}
use Rattle.svs_vector.specs.Vectors.{join}
use Rattle.svs_vector.proofs.JoinLemmas.{length-join, join-at}
use Rattle.svs_sync.specs.SyncStates.{SyncState}
use Rattle.ndn_data.specs.Data.{Data}
use Rattle.repo_plan.specs.declared.part.Part.{Part}
use Rattle.sorted_lists.specs.SortedList.{keys, contains, value_of}
use Rattle.repo_plan.specs.declared.shape.Shape.{Shape}
use Rattle.repo_plan.specs.Parts.{Pair, part_cmp, pair_of, part_of, last_part, parent, parent_number}
use Rattle.repo_plan.specs.Plan.{knows, holds, hides, may_be_asked_for, is_listed_part, shape_of}
use Rattle.repo_plan.specs.Sound.{PlanIsSound, CanBeHeld}
use Rattle.repo_plan.proofs.Orders.{exact_parts}
use Rattle.sorted_lists.proofs.Sets.{eq_same}
use Rattle.repo_plan.proofs.Changes.{sound_initial}
use Rattle.repo_object.specs.declared.part_refusal.PartRefusal.{PartRefusal}
use Rattle.repo_object.specs.Objects.{Post, IsPost, Publisher, IsPublisher, shape_in}
use Rattle.repo_object.specs.Publication.{Listed, RecordSays, published_record, packets}
use Rattle.repo_object.specs.Records.{record_of, index_of}
use Rattle.repo_object.specs.Wants.{WantedPart, want_record, want_index, want_segment, listed_in}
use Rattle.repo_object.specs.Verdict.{Passes, may_say, stated_in, index_in, content_in, content_within, ring_verdict}
use Rattle.repo_object.specs.Verdict.{publisher_key}
use Rattle.repo_object.proofs.Passing.{passes}
use Rattle.repo_object.proofs.Publications.{packets-length, record_stated, shape_again}
use Rattle.group_model.specs.Publications.{no_post}
use Rattle.repo_process.specs.Insertions.{Insertions}
use Rattle.repo_store.specs.StoreList.{with_packet}
use Rattle.repo_holdings.specs.Records.{Packet}
use Rattle.repo_holdings.specs.Listed.{stored_at, stated_at, listing_in, listing_at, listed_shape}
use Rattle.repo_object.specs.Publication.{shape_stated}
use Rattle.repo_holdings.specs.StoredParents.{index_at, digests_at, place_listed, lists_at, ListsAsMany}
use Rattle.repo_member.specs.Groups.{GroupKeys, IsGroup, node_at, publisher_at}
use Rattle.repo_member.specs.MemberState.{MemberState, IsMemberState, ArePosts, IsOfGroup, member_plan, initial_member}
use Rattle.repo_member.specs.MemberState.{logged}
use Rattle.repo_holdings.specs.Wanting.{nothing_listed, want_after}
use Rattle.repo_member.specs.MemberState.{want_of, member_learns}
use Rattle.repo_holdings.specs.Gaining.{PlanFits, shape_in_summary}
use Rattle.repo_holdings.proofs.CatalogueLemmas.{fun_ext}
use Rattle.repo_holdings.proofs.GainingLemmas.{stated_shape_is, shape_stored}
use Rattle.repo_member.specs.Blocks.{AreWithinLimits}
use Rattle.repo_holdings.proofs.GainingLemmas.{contains-value, put_elsewhere, value_of-put}
use Rattle.repo_holdings.proofs.AskedLemmas.{asked_segment}
use Rattle.repo_member.proofs.MemberLemmas.{knows_more, want_part, want_lists}
use Rattle.repo_member.proofs.OwnLemmas.{is_publisher, logged_own}
use Rattle.repo_member.proofs.ChangeLemmas.{rises_put}
use Rattle.repo_member.proofs.PlanChanges.{sound_known, gains, tied_gained, sound_gained}

-- a packet that passes for the want of its part, as what is stored gives it
abbrev pub PassesNow : GroupKeys → List Packet → Part → List ℕ → Type 0
PassesNow g stored t octets = IsOk (ring_verdict (want_of g stored t) g.members.ring octets)

pub record IsReached (g : GroupKeys) (a : MemberState) : Type 0 where
  pub group : IsGroup g
  pub member_state : IsMemberState a
  pub of : IsOfGroup g a
  pub sound : PlanIsSound (member_plan a)
  pub few : length a.log ≤ 65535
  pub tied : PlanFits (member_plan a) a.store
  pub posts : ArePosts a.log
  pub own : (t : Part) → t.publisher ≡ a.number → hides (member_plan a) (pair_of t) ≡ false
      → value_of part_cmp a.store t ≡ logged g a t
  pub others : (t : Part) (octets : List ℕ) → t.publisher ≢ a.number → value_of part_cmp a.store t ≡ Some octets
      → PassesNow g a.store t octets
  pub insertions : AreWithinLimits a.insertions.processes

-- ---- the beginning

pub reached_opening : (g : GroupKeys) (number time draw : ℕ) → IsGroup g → number < length g.members.names
    → IsReached g (initial_member (length g.members.names) number time draw)
reached_opening g number time draw group inside =
    let n = length g.members.names in
    let zero_number : ℕ = 0 in
    let wide : length (replicate n zero_number) ≡ n = length-replicate n zero_number in
    record {
      group = group;
      member_state = record {
        member = omega (arith, inside, wide);
        own = get_or-replicate n number zero_number 0 inside;
        width = sym wide;
        in_order = tt;
        hidden = λ pair h. absurd (true≢false (sym h));
      };
      of = sym wide;
      sound = sound_initial n;
      few = omega arith;
      tied = record {
        in_order = tt;
        held = refl;
        shapes = refl;
        recorded = λ pair x there. absurd cc;
        indexed = λ t octets there. absurd cc;
      };
      posts = λ i post there. absurd cc;
      own = λ t h shown. nothing (t.publisher == number) (t.seq == 0);
      others = λ t octets h found. absurd cc;
      insertions = λ n p found. absurd cc;
    } where
      nothing : (b c : Bool) → let none : Option (List ℕ) = None in none ≡ cond b (cond c none none) none
      nothing false c = refl
      nothing true true = refl
      nothing true false = refl

-- ---- changes that store nothing

-- claims, attempts and the sync state
pub reached_with : (g : GroupKeys) (a : MemberState) (claims : List (Option Part)) (attempts : List (Part × ℕ))
    (machine : SyncState)
    → machine.members ≡ a.machine.members
    → PlanIsSound (member_plan (record a { claims = claims; attempts = attempts })) → IsReached g a
    → IsReached g (record a { claims = claims; attempts = attempts; machine = machine })
reached_with g a claims attempts machine wide sound r = record {
  group = r.group;
  member_state = record {
    member = r.member_state.member;
    own = r.member_state.own;
    width = wide ∙ r.member_state.width;
    in_order = r.member_state.in_order;
    hidden = r.member_state.hidden;
  };
  of = r.of;
  sound = sound;
  few = r.few;
  tied = record {
    in_order = r.tied.in_order;
    held = refl;
    shapes = refl;
    recorded = r.tied.recorded;
    indexed = r.tied.indexed;
  };
  posts = r.posts;
  own = r.own;
  others = r.others;
  insertions = r.insertions;
}

-- insertion processes
pub reached_insertions : (g : GroupKeys) (a : MemberState) (insertions : Insertions)
    → AreWithinLimits insertions.processes
    → IsReached g a → IsReached g (record a { insertions = insertions })
reached_insertions g a insertions each r = record {
  group = r.group;
  member_state = record {
    member = r.member_state.member;
    own = r.member_state.own;
    width = r.member_state.width;
    in_order = r.member_state.in_order;
    hidden = r.member_state.hidden;
  };
  of = r.of;
  sound = r.sound;
  few = r.few;
  tied = record {
    in_order = r.tied.in_order;
    held = refl;
    shapes = refl;
    recorded = r.tied.recorded;
    indexed = r.tied.indexed;
  };
  posts = r.posts;
  own = r.own;
  others = r.others;
  insertions = each;
}

few_members : (g : GroupKeys) (a : MemberState) → IsReached g a → length a.known ≤ 2 ^ 32
few_members g a r = omega (arith, r.group.members.roster.few, r.of)

-- what is reported
pub reached_learns : (g : GroupKeys) (a : MemberState) (received : List ℕ) → length received ≡ length g.members.names
    → slice_index received a.number ≤ length a.log → IsReached g a → IsReached g (member_learns received a)
reached_learns g a received wide not_ahead r =
    let long : length (join a.known received) ≡ length a.known = length-join a.known received (sym r.of ∙ sym wide) in
    let at = join-at a.known received in
    let more : (q : ℕ) → slice_index a.known q ≤ slice_index (join a.known received) q = λ q. omega (arith, at q) in
    record {
      group = r.group;
      member_state = record {
        member = omega (arith, long, r.member_state.member);
        own = at a.number ∙ omega (arith, r.member_state.own, not_ahead);
        width = r.member_state.width ∙ sym long;
        in_order = r.member_state.in_order;
        hidden =
            λ pair h. knows_more (member_plan a) (member_plan (member_learns received a)) pair more
            (r.member_state.hidden pair h);
      };
      of = r.of ∙ sym long;
      sound = sound_known (member_plan a) (join a.known received) (omega (arith, long, few_members g a r)) more r.sound;
      few = r.few;
      tied = record {
        in_order = r.tied.in_order;
        held = refl;
        shapes = refl;
        recorded = r.tied.recorded;
        indexed = r.tied.indexed;
      };
      posts = r.posts;
      own = r.own;
      others = r.others;
      insertions = r.insertions;
    }

-- ---- own parts

-- an own part that is asked for and not hidden was published
module _ (g : GroupKeys) (a : MemberState) (t : Part) (r : IsReached g a) (own : t.publisher ≡ a.number)
    (asked : may_be_asked_for (member_plan a) t ≡ true) (shown : hides (member_plan a) (pair_of t) ≡ false) where
  known : (1 ≤ t.seq) × (t.seq ≤ length a.log)
  known =
      let both =
      and_parts (nat_le 1 t.seq) (nat_le t.seq (slice_index a.known t.publisher))
      (and_parts (knows (member_plan a) (pair_of t))
      (is_listed_part (keys a.store) (shape_of (member_plan a) (pair_of t)) t) asked).0 in
      let high = leb-true t.seq (slice_index a.known t.publisher) both.1 in
      (leb-true 1 t.seq both.0, omega (arith, high, ap (slice_index a.known) own, r.member_state.own))

  abbrev post : Post
  post = slice_index_or a.log (t.seq - 1) no_post

  there : slice_get a.log (t.seq - 1) ≡ Some post
  there = slice_get-get_or a.log (t.seq - 1) no_post (omega (arith, known.0, known.1))

  is_post : IsPost t.seq post
  is_post =
      let number : t.seq - 1 + 1 ≡ t.seq = omega (arith, known.0) in
      subst (λ (n : ℕ). IsPost n post) number (r.posts (t.seq - 1) post there)

  abbrev by : Publisher
  by = publisher_at g a.number

  publishes_it : IsPublisher by
  publishes_it = is_publisher g a.number r.group (omega (arith, r.member_state.member, r.of))

  -- its record is stored, and reports its parts
  stated : stated_at a.store (pair_of t) ≡ Some (published_record by t.seq post)
  stated =
      ap (option_and_then stated_in)
      (r.own (part_of (pair_of t) 0) own shown
      ∙ logged_own g a (part_of (pair_of t) 0) post own (omega (arith, known.0)) there)
      ∙ record_stated by publishes_it t.seq post is_post (omega (arith, known.1, r.few))

  shaped : shape_of (member_plan a) (pair_of t) ≡ Some (shape_in post)
  shaped =
      shape_stored (member_plan a) a.store (pair_of t) r.tied
      ∙ ap (option_map shape_stated) stated
      ∙ ap (λ (shape : Shape). Some shape) (shape_again by t.seq post)

  within : t.part < length (packets by t.seq post)
  within =
      let long = packets-length by t.seq post in
      let can : is_listed_part (keys a.store) (Some (shape_in post)) t ≡ true =
      ap (λ (o : Option Shape). is_listed_part (keys a.store) o t) (sym shaped)
      ∙ (and_parts (knows (member_plan a) (pair_of t))
      (is_listed_part (keys a.store) (shape_of (member_plan a) (pair_of t)) t) asked).1 in
      elim (or_cases (t.part == 0)
      (nat_le t.part (last_part (shape_in post))
      && contains part_cmp (keys a.store) (parent (shape_in post) t)) can) [
        | inl first ↦ omega (arith, eqb-true t.part 0 first, long)
        | inr after ↦
            let low =
            leb-true t.part (last_part (shape_in post))
            (and_parts (nat_le t.part (last_part (shape_in post)))
            (contains part_cmp (keys a.store) (parent (shape_in post) t)) after).0 in
            omega (arith, low, long)
      ]

  pub own_stored : (value_of part_cmp a.store t ≡ None) → ⊥
  own_stored missing =
      let octets = slice_index_or (packets by t.seq post) t.part [] in
      none-some octets
      (sym missing ∙ r.own t own shown ∙ logged_own g a t post own (omega (arith, known.0)) there
      ∙ slice_get-get_or (packets by t.seq post) t.part [] within)

-- ---- a part that is received

pub missing_value : (stored : List Packet) (t : Part) → contains part_cmp (keys stored) t ≡ false
    → value_of part_cmp stored t ≡ None
missing_value stored t h = go (value_of part_cmp stored t) refl where
  go : (o : Option (List ℕ)) → value_of part_cmp stored t ≡ o → o ≡ None
  go None p = refl
  go (Some x) p = absurd (true≢false (sym (contains-value stored t ∙ ap is_some p) ∙ h))

pub not_there : (stored : List Packet) (t : Part) → value_of part_cmp stored t ≡ None
    → contains part_cmp (keys stored) t ≡ false
not_there stored t h = contains-value stored t ∙ ap is_some h

-- stored packets stay where others are added
pub record StaysStored (old new : List Packet) : Type 0 where
  pub still : (t : Part) (octets : List ℕ) → value_of part_cmp old t ≡ Some octets
      → value_of part_cmp new t ≡ Some octets

-- so what is read in one of them stays
pub read_still : {A : Type 0} (read : List ℕ → Option A) (old new : List Packet) (pair : Pair) (x : ℕ) (v : A)
    → StaysStored old new → option_and_then read (stored_at old pair x) ≡ Some v
    → option_and_then read (stored_at new pair x) ≡ Some v
read_still {A} read old new pair x v stays h = go (stored_at old pair x) refl h where
  go : (o : Option (List ℕ)) → stored_at old pair x ≡ o → option_and_then read o ≡ Some v
      → option_and_then read (stored_at new pair x) ≡ Some v
  go None p q = absurd (none-some v q)
  go (Some octets) p q = ap (option_and_then read) (stays.still (part_of pair x) octets p) ∙ q

-- an index packet that is stored stays
index_still : (old new : List Packet) (pair : Pair) (segments x : ℕ) → StaysStored old new
    → IsSome (index_at old pair segments x) → index_at new pair segments x ≡ index_at old pair segments x
index_still old new pair segments x stays h = go (stored_at old pair x) refl h where
  go : (o : Option (List ℕ)) → stored_at old pair x ≡ o
      → IsSome (option_and_then (λ octets. index_in octets (listed_in segments (x - 1))) o)
      → index_at new pair segments x ≡ index_at old pair segments x
  go None p q = absurd (true≢false (sym q))
  go (Some octets) p q =
      ap (option_and_then (λ octets. index_in octets (listed_in segments (x - 1))))
      (stays.still (part_of pair x) octets p ∙ sym p)

-- the want of a part by what is stored of its publication
abbrev want_from : GroupKeys → Part → (ℕ → Option (List ℕ)) → WantedPart
want_from g t at =
    let l = unwrap_or (option_and_then listing_in (at 0)) nothing_listed in
    let k = parent_number (listed_shape l) t.part in
    cond (t.part == 0) (want_record t (node_at g t.publisher) g.name)
    (cond (nat_le t.part (listed_shape l).index) (want_index t l (node_at g t.publisher) g.name)
    (want_segment t (listed_shape l) l.name
    (unwrap_or
    (slice_get
    (cond (k == 0) l.digests
    (unwrap_or (option_and_then (λ octets. index_in octets (listed_in l.segments (k - 1))) (at k)) []))
    (place_listed (listed_shape l) t.part)) [])))

-- the same packets give the same want
pub want_same : (g : GroupKeys) (old new : List Packet) (t : Part)
    → ((x : ℕ) → stored_at new (pair_of t) x ≡ stored_at old (pair_of t) x) → want_of g new t ≡ want_of g old t
want_same g old new t h =
    ap (want_from g t) (fun_ext (stored_at new (pair_of t)) (stored_at old (pair_of t)) h)

-- the want of a part that could be asked for stays the same where stored packets stay
pub want_stays : (g : GroupKeys) (a : MemberState) (new : List Packet) (t : Part) → PlanFits (member_plan a) a.store
    → StaysStored a.store new → may_be_asked_for (member_plan a) t ≡ true → want_of g new t ≡ want_of g a.store t
want_stays g a new t tied stays asked = go (t.part == 0) refl where
  after : List Packet → Listed → WantedPart
  after stored l = want_after (node_at g t.publisher) g.name stored t l

  go : (b : Bool) → (t.part == 0) ≡ b
      → cond b (want_record t (node_at g t.publisher) g.name)
      (after new (unwrap_or (listing_at new (pair_of t)) nothing_listed))
      ≡ cond b (want_record t (node_at g t.publisher) g.name)
      (after a.store (unwrap_or (listing_at a.store (pair_of t)) nothing_listed))
  go true p = refl
  go false p =
      let segment = asked_segment (member_plan a) a.store t tied asked p in
      let l = segment.listing in
      let k = parent_number (listed_shape l) t.part in
      ap (λ (o : Option Listed). after new (unwrap_or o nothing_listed))
      (read_still listing_in a.store new (pair_of t) 0 l stays segment.listed)
      ∙ ap (λ (digests : List (List ℕ)). cond (nat_le t.part (listed_shape l).index)
      (want_index t l (node_at g t.publisher) g.name)
      (want_segment t (listed_shape l) l.name
      (unwrap_or (slice_get digests (place_listed (listed_shape l) t.part)) [])))
      (listed k refl l (λ some. segment.index some))
      ∙ sym (ap (λ (o : Option Listed). after a.store (unwrap_or o nothing_listed)) segment.listed) where
        listed : (k : ℕ) → k ≡ k → (l : Listed) → (0 < k → IsSome (index_at a.store (pair_of t) l.segments k))
            → digests_at new (pair_of t) l k ≡ digests_at a.store (pair_of t) l k
        listed zero e l there = refl
        listed (suc k) e l there =
            ap (λ (o : Option (List (List ℕ))). cond (suc k == 0) l.digests (unwrap_or o []))
            (index_still a.store new (pair_of t) l.segments (suc k) stays (there (omega arith)))

-- what it means that a packet passes
ok_there : (v : Result Data PartRefusal) → IsOk v → (d : Data) × (v ≡ Ok d)
ok_there (Ok d) h = (d, refl)
ok_there (Err refusal) h = absurd (true≢false (sym h))

module _ (g : GroupKeys) (stored : List Packet) (t : Part) (octets : List ℕ)
    (passed : PassesNow g stored t octets) where
  abbrev want : WantedPart
  want = want_of g stored t

  ok : (d : Data) × (ring_verdict want g.members.ring octets ≡ Ok d)
  ok = ok_there (ring_verdict want g.members.ring octets) passed

  all : Passes want (publisher_key g.members.ring want).name (publisher_key g.members.ring want).key octets ok.0
  all = passes want (publisher_key g.members.ring want).name (publisher_key g.members.ring want).key octets ok.0 ok.1

  content : content_in octets ≡ Some ok.0.content
  content = ap content_within all.read

  -- a packet that passes for a record's want reports its publication
  pub passed_received : is_some (shape_in_summary t octets) ≡ (t.part == 0)
  passed_received = ap is_some (stated_shape_is t octets) ∙ go (t.part == 0) refl where
    some : (o : Option RecordSays) → IsTrue (may_say want.part.seq o) → is_some (option_map shape_stated o) ≡ true
    some None h = absurd (true≢false (sym h))
    some (Some says) h = refl

    go : (b : Bool) → (t.part == 0) ≡ b → is_some (cond b (option_map shape_stated (stated_in octets)) None) ≡ b
    go false p = refl
    go true p =
        ap (λ (o : Option (List ℕ)). is_some (option_map shape_stated (option_and_then record_of o))) content
        ∙ some (record_of ok.0.content)
        (all.stated (ap (λ (u : Part). u.part) (want_part g stored t) ∙ eqb-true t.part 0 p))

  -- an index packet that passes lists as many digests as it has to
  pub passed_lists : ListsAsMany octets (lists_at stored t)
  passed_lists =
      subst (ListsAsMany octets) (want_lists g stored t) (go want.lists all.listing) where
        go : (o : Option ℕ) → IfSome o (λ count. IsSome (index_of ok.0.content count)) → ListsAsMany octets o
        go None h = tt
        go (Some count) h =
            ap (λ (c : Option (List ℕ)). is_some (option_and_then (λ x. index_of x count) c)) content ∙ h

module _ (g : GroupKeys) (a : MemberState) (t : Part) (octets : List ℕ) (r : IsReached g a)
    (can : CanBeHeld (member_plan a) t)
    (fresh : holds (member_plan a) t ≡ false) where
  pub stays_stored : StaysStored a.store (with_packet t octets a.store)
  stays_stored = record { still = λ q found h. go q found (eq_by_cmp part_cmp q t) refl h } where
    go : (q : Part) (found : List ℕ) (b : Bool) → eq_by_cmp part_cmp q t ≡ b → value_of part_cmp a.store q ≡ Some found
        → value_of part_cmp (with_packet t octets a.store) q ≡ Some found
    go q found true p h =
        absurd (none-some found
        (sym (ap (value_of part_cmp a.store) (eq_same exact_parts q t p) ∙ missing_value a.store t fresh) ∙ h))
    go q found false p h = put_elsewhere a.store t octets fresh q p ∙ h

  not_own : t.publisher ≢ a.number
  not_own own = own_stored g a t r own can.asked can.not_hidden (missing_value a.store t fresh)

  pub reached_gains : PassesNow g a.store t octets → IsReached g (gains t octets a)
  reached_gains passed = record {
    group = r.group;
    member_state = record {
      member = r.member_state.member;
      own = r.member_state.own;
      width = r.member_state.width;
      in_order = rises_put a.store t octets r.member_state.in_order;
      hidden = r.member_state.hidden;
    };
    of = r.of;
    sound =
        sound_gained a t octets r.tied fresh can.asked (passed_received g a.store t octets passed)
        (passed_lists g a.store t octets passed) can r.sound;
    few = r.few;
    tied =
        tied_gained a t octets r.tied fresh can.asked (passed_received g a.store t octets passed)
        (passed_lists g a.store t octets passed);
    posts = r.posts;
    own =
        λ q own shown.
        put_elsewhere a.store t octets fresh q (other q own (eq_by_cmp part_cmp q t) refl) ∙ r.own q own shown;
    others =
        λ q found away h.
        at q found away (eq_by_cmp part_cmp q t) refl (sym (value_of-put a.store t octets fresh q) ∙ h);
    insertions = r.insertions;
  } where
    other : (q : Part) → q.publisher ≡ a.number → (b : Bool) → eq_by_cmp part_cmp q t ≡ b → b ≡ false
    other q own true p = absurd (not_own (sym (ap (λ (u : Part). u.publisher) (eq_same exact_parts q t p)) ∙ own))
    other q own false p = refl

    now : (q : Part) (found : List ℕ) → may_be_asked_for (member_plan a) q ≡ true → PassesNow g a.store q found
        → PassesNow g (with_packet t octets a.store) q found
    now q found asked before =
        subst (λ (want : WantedPart). IsOk (ring_verdict want g.members.ring found))
        (sym (want_stays g a (with_packet t octets a.store) q r.tied stays_stored asked)) before

    at : (q : Part) (found : List ℕ) → q.publisher ≢ a.number → (b : Bool) → eq_by_cmp part_cmp q t ≡ b
        → cond b (Some octets) (value_of part_cmp a.store q) ≡ Some found
        → PassesNow g (with_packet t octets a.store) q found
    at q found away true p h =
        let same : octets ≡ found = cc in
        let here : t ≡ q = sym (eq_same exact_parts q t p) in
        subst (λ (u : Part). PassesNow g (with_packet t octets a.store) u found) here
        (subst (PassesNow g (with_packet t octets a.store) t) same (now t octets can.asked passed))
    at q found away false p h =
        now q found (r.sound.held q (contains-value a.store q ∙ ap is_some h)).asked (r.others q found away h)
