-- Packets that are stored once all received packets are taken, and the contents of objects that become whole by them.
use Rattle.std.proofs.Common.{◌≡◌, ◌<◌, ◌+◌, ◌++◌, take, ℕ, zero, suc, Bor, Bool, true, false, cond, List, [], ◌∷◌}
use Rattle.std.proofs.Common.{map, length, get_or, slice_get}
use Rattle.std.proofs.Common.{refl, sym, ap, ◌∙◌, subst, Option, Some, None, option_map, is_some, arith}
use Rattle.std.specs.Prelude.{IfSome}
use Rattle.std.specs.Option.{option_and_then}
use Rattle.std.specs.Ordering.{eq_by_cmp}
use Rattle.std.proofs.lemmas.Bool.{or_parts}
use Rattle.std.proofs.lemmas.List.{take_more}
use Rattle.sha2.specs.Sha256.{sha256}
use Rattle.sorted_lists.specs.SortedList.{keys, contains, value_of, with_value}
use Rattle.sorted_lists.proofs.Sets.{eq_turned, value_of-with_value}
use Rattle.repo_plan.specs.declared.part.Part.{Part}
use Rattle.repo_plan.specs.declared.shape.Shape.{Shape}
use Rattle.repo_plan.specs.Parts.{Pair, part_cmp, part_of, last_part}
use Rattle.repo_plan.specs.Plan.{PlanState, shape_of}
use Rattle.repo_plan.proofs.Orders.{exact_parts}
use Rattle.repo_object.specs.Publication.{RecordSays, shape_stated}
use Rattle.repo_object.specs.Publication.RecordSays.{Lists, WithdrawsNumber}
use Rattle.repo_object.specs.declared.job.Job.{Job}
use Rattle.repo_object.specs.Verdict.{CheckedPart, stated_in}
use Rattle.repo_store.specs.StoreList.{with_packet}
use Rattle.repo_catalog.specs.declared.entry.Entry.{Entry}
use Rattle.repo_holdings.specs.Records.{Packet}
use Rattle.repo_holdings.specs.Listed.{object_stated, listing_in, listed_shape, stored_at, stated_at, are_stored}
use Rattle.repo_holdings.specs.Listed.{contents_joined, entry_listed, entry_of_listing, whole_at}
use Rattle.repo_holdings.specs.declared.contents.ContentsDigest.{ContentsDigest}
use Rattle.repo_holdings.specs.Contents.{IsOver, IsDigestOfEntry, IsDigestIn}
use Rattle.repo_holdings.specs.declared.holdings.whole.Whole.{Whole}
use Rattle.repo_holdings.specs.WholeContents.{joined, AreContentsIn, IsWholeIn}
use Rattle.repo_holdings.specs.Gaining.{PlanFits}
use Rattle.repo_holdings.specs.Taking.{with_fetched, fetched_for, with_fetched_for, PartsDiffer}
use Rattle.repo_holdings.proofs.ContentLemmas.{flat_append, append_nothing}
use Rattle.repo_holdings.proofs.GainingLemmas.{contains-value, put_here, shape_stored}
use Rattle.repo_holdings.proofs.FreshLemmas.{StayStored, fetched_stays}

-- ---- packets that were received

missing_apart : (packets : List Packet) (u : Part) (octets : List ℕ) (q : Part) → eq_by_cmp part_cmp q u ≡ false
    → value_of part_cmp packets q ≡ None → value_of part_cmp (with_packet u octets packets) q ≡ None
missing_apart packets u octets q other none = go (contains part_cmp (keys packets) u) where
  go : (b : Bool) → value_of part_cmp (cond b packets (with_value part_cmp u octets packets)) q ≡ None
  go true = none
  go false =
      value_of-with_value exact_parts u octets packets q
      ∙ ap (λ (b : Bool). cond b (Some octets) (value_of part_cmp packets q)) other
      ∙ none

abbrev pub job_part : Job → Part
job_part job = job.want.part

other_at : (jobs : List Job) (u : Part) (i : ℕ) (d : Job) → contains part_cmp (map job_part jobs) u ≡ false
    → i < length jobs → eq_by_cmp part_cmp u (get_or jobs i d).want.part ≡ false
other_at [] u i d h low = absurd (omega (arith, low))
other_at (job ∷ jobs) u zero d h low = (or_parts (eq_by_cmp part_cmp u job.want.part) _ h).0
other_at (job ∷ jobs) u (suc i) d h low =
    other_at jobs u i d (or_parts (eq_by_cmp part_cmp u job.want.part) _ h).1 (omega (arith, low))

-- a packet that was received for a part of which none was stored
pub received_at : (jobs : List Job) (parts : List (Option CheckedPart)) (packets : List Packet) (i : ℕ) (d : Job)
    (c : CheckedPart) → PartsDiffer (map job_part jobs) → i < length jobs
    → value_of part_cmp packets (get_or jobs i d).want.part ≡ None → slice_get parts i ≡ Some (Some c)
    → value_of part_cmp (with_fetched_for jobs parts packets) (get_or jobs i d).want.part ≡ Some c.octets
received_at [] parts packets i d c differ low none there = absurd (omega (arith, low))
received_at (job ∷ jobs) [] packets i d c differ low none there = absurd cc
received_at (job ∷ jobs) (part ∷ parts) packets zero d c differ low none there =
    let is : part ≡ Some c = cc in
    fetched_stays (fetched_for jobs parts) (with_fetched job.want.part (option_map (λ k. k.octets) part) packets)
    job.want.part c.octets
    (ap (λ (o : Option CheckedPart).
    value_of part_cmp (with_fetched job.want.part (option_map (λ k. k.octets) o) packets) job.want.part) is
    ∙ put_here packets job.want.part c.octets (contains-value packets job.want.part ∙ ap is_some none))
received_at (job ∷ jobs) (part ∷ parts) packets (suc i) d c differ low none there =
    received_at jobs parts (with_fetched job.want.part (option_map (λ k. k.octets) part) packets) i d c differ.1
    (omega (arith, low)) (still (option_map (λ k. k.octets) part)) there where
      other : eq_by_cmp part_cmp (get_or jobs i d).want.part job.want.part ≡ false
      other =
          eq_turned exact_parts (get_or jobs i d).want.part job.want.part
          ∙ other_at jobs job.want.part i d differ.0 (omega (arith, low))

      still : (o : Option (List ℕ))
          → value_of part_cmp (with_fetched job.want.part o packets) (get_or jobs i d).want.part ≡ None
      still None = none
      still (Some more) = missing_apart packets job.want.part more (get_or jobs i d).want.part other none

-- ---- contents of what becomes whole

pub joined-push : (pieces : List (Bor (List ℕ))) (piece : Bor (List ℕ))
    → joined (pieces ++ piece ∷ []) ≡ joined pieces ++ piece.now
joined-push pieces piece =
    flat_append (λ (p : Bor (List ℕ)). p.now) pieces (piece ∷ [])
    ∙ ap (λ (rest : List ℕ). joined pieces ++ rest) (append_nothing piece.now)

pub joined_next : (pieces : List (Bor (List ℕ))) (i : ℕ) (d : Bor (List ℕ)) → i < length pieces
    → joined (take (i + 1) pieces) ≡ joined (take i pieces) ++ (get_or pieces i d).now
joined_next pieces i d low =
    ap joined (take_more pieces i d low) ∙ joined-push (take i pieces) (get_or pieces i d)

-- a digest over the contents of a publication is reported truly
pub reported_consistently : (packets : List Packet) (w : Whole) (d : ContentsDigest) → d.publisher ≡ w.publisher → d.seq
    ≡ w.seq
    → d.octets ≡ length (joined w.contents.items) → d.digest ≡ sha256 (joined w.contents.items) → IsWholeIn packets w
    → IsDigestIn packets d
reported_consistently packets w d publisher seq octets digest whole =
    let here : Pair = (d.publisher, d.seq) in
    let there : Pair = (w.publisher, w.seq) in
    let same : here ≡ there = cc in
    subst (λ (q : Pair). IfSome (whole_at packets q) (IsDigestOfEntry d)) (sym same)
    (go (whole_at packets there) whole.contents) where
      go : (o : Option Entry) → IfSome o (IsOver (joined w.contents.items)) → IfSome o (IsDigestOfEntry d)
      go None h = tt
      go (Some e) h = record { octets = octets ∙ sym h.octets; digest = digest ∙ sym h.digest }

-- the contents of the segments of an object of the shape that its stored record tells
pub contents_are : (plan : PlanState) (packets after : List Packet) (pair : Pair) (shape : Shape)
    (contents : List (Bor (List ℕ))) → PlanFits plan packets → StayStored packets after
    → Some shape ≡ shape_of plan pair → joined contents ≡ contents_joined after pair shape
    → AreContentsIn after pair contents
contents_are plan packets after pair shape contents tied stays summary same =
    over (stored_at packets pair 0) refl (summary ∙ shape_stored plan packets pair tied) where
      -- what the record says, it says afterwards too
      over : (o : Option (List ℕ)) → stored_at packets pair 0 ≡ o
          → Some shape ≡ option_map shape_stated (stated_at packets pair)
          → IfSome (whole_at after pair) (IsOver (joined contents))
      over None p h =
          let none : Some shape
          ≡ option_map shape_stated (option_and_then stated_in (let n : Option (List ℕ) = None in n)) =
          h ∙ ap (λ (o : Option (List ℕ)). option_map shape_stated (option_and_then stated_in o)) p in absurd cc
      over (Some octets) p h =
          subst (λ (o : Option (List ℕ)).
          IfSome (option_and_then (entry_listed after pair) (option_and_then listing_in o)) (IsOver (joined contents)))
          (sym (stays (part_of pair 0) octets p))
          (says (stated_in octets) refl
          (h ∙ ap (λ (o : Option (List ℕ)). option_map shape_stated (option_and_then stated_in o)) p)) where
            says : (o : Option RecordSays) → stated_in octets ≡ o → Some shape ≡ option_map shape_stated o
                → IfSome (option_and_then (entry_listed after pair) (option_and_then object_stated o))
                (IsOver (joined contents))
            says None q t = tt
            says (Some (WithdrawsNumber seq)) q t = tt
            says (Some (Lists l)) q t = at (are_stored after pair (last_part (listed_shape l))) where
              here : contents_joined after pair (listed_shape l) ≡ joined contents
              here =
                  let is : shape ≡ listed_shape l = cc in
                  ap (contents_joined after pair) (sym is) ∙ sym same

              at : (b : Bool) → IfSome (cond b (Some (entry_of_listing after pair l)) None) (IsOver (joined contents))
              at true = record { octets = ap length here; digest = ap sha256 here }
              at false = tt
