-- The publishers that journals and catalogues name are members of the group.
use Rattle.std.proofs.Common.{◌≡◌, ℕ, ◌-◌, ◌<◌, ◌≤◌, Bool, true, false, List, [], ◌∷◌, length, get_or}
use Rattle.std.proofs.Common.{Option, Some, None, refl, sym, ap, subst, arith}
use Rattle.std.proofs.lemmas.List.{length-map}
use Rattle.std.proofs.lemmas.List.Elements.{All-nil, All-cons, All-head, All-tail, All-replicate}
use Rattle.std.specs.Prelude.{is_some, is_none, if◌then◌else◌}
use Rattle.std.specs.List.{All}
use Rattle.repo_plan.specs.declared.part.Part.{Part}
use Rattle.repo_plan.specs.Plan.{first, unclaimed}
use Rattle.repo_catalog.specs.declared.entry.Entry.{Entry}
use Rattle.group_model.specs.Publications.{Logs, published, published_entry, is_unwithdrawn, join_of}
use Rattle.group_model.specs.Member.{Member, plan_of}
use Rattle.group_model.specs.Replies.{Reply}
use Rattle.group_model.specs.World.{World, logs}
use Rattle.group_model.specs.Sound.{IsPublishedPart}
use Rattle.group_model.specs.Steps.{claim_at, to_claim}
use Rattle.group_model.proofs.Parts.{in_published, in_range}
use Rattle.sorted_lists.proofs.Sets.{In, from_map}
use Rattle.sorted_lists.proofs.Members.{in_at, in_filtered}
use Rattle.repo_member.specs.InGroup.{in_group}
use Rattle.live_member.specs.declared.event.LiveEvent.{LiveEvent}
use Rattle.live_member.specs.declared.event.LiveEvent.TheVariants as event
use Rattle.live_member.specs.declared.event.LiveReply.TheVariants as reply
use Rattle.live_member.specs.declared.event.LiveEntry.{LiveEntry}
use Rattle.live_member.specs.Meanings.{Meaning, as_posts, whole_logs, world_at}
use Rattle.live_member.specs.Replay.{Replays, after, reply_of, live_reply}
use Rattle.live_member.specs.Lives.{IsOfPublishedPart, initial_live_member}
use Rattle.live_settle.specs.declared.ran.Ran.{Ran}
use Rattle.live_settle.specs.Rans.{IsRan}
use Rattle.live_top.specs.Printed.{HasLabel, PartIsOfMember, NamesMembers, PublishersAreMembers}
use Rattle.live_top.proofs.PrintedClaims.{IsBelow, below_at, open_below, same, goes_on}
use Rattle.script_report.proofs.LabelLemmas.{members_have_labels}

has_label : (t : Meaning) (p : ℕ) → p < length t.lists → HasLabel t p
has_label t p less labels width = members_have_labels labels p (omega (arith, less, width))

-- a part of a publication of the lists is of one of their members
brought_below : (t : Meaning) (part : Part) → IsPublishedPart (whole_logs t) part → part.publisher < length t.lists
brought_below t part is =
    let inside = in_range (whole_logs t) part.publisher part.seq is.there.from_one is.there.to_last in
    omega (arith, inside, length-map t.lists as_posts)

-- ---- an entry

module _ (t : Meaning) (j : ℕ) (there : j < length t.lists) where
  abbrev n : ℕ
  n = length t.lists

  claim_labelled : (f : ℕ) (busy : Bool) (c : Option Part) → IsBelow n c
      → PartIsOfMember t (event.Claim f) (if busy then reply.Refused else live_reply (Reply.Claimed c))
  claim_labelled f true c below = tt
  claim_labelled f false None below = tt
  claim_labelled f false (Some part) below = has_label t part.publisher below

  lose_labelled : (f : ℕ) (c : Option Part) → IsBelow n c
      → PartIsOfMember t (event.Lose f) (if is_none c then reply.Refused else live_reply (Reply.Lost c))
  lose_labelled f None below = tt
  lose_labelled f (Some part) below = has_label t part.publisher below

  module _ (m : Member) (wide : length m.known ≤ n) (each : All (IsBelow n) m.claims) where
    abbrev w : World
    w = world_at t j m

    claim_below : (f : ℕ) → IsBelow n (claim_at w j f)
    claim_below f =
        subst (λ (x : Member). IsBelow n (get_or x.claims (f - 1) None)) (sym (same t j there m))
        (below_at n m.claims (f - 1) each)

    next_below : IsBelow n (to_claim w j)
    next_below =
        subst (λ (x : Member). IsBelow n (first (unclaimed (plan_of (logs w) x)))) (sym (same t j there m))
        (wider (first (unclaimed (plan_of (logs w) m))) (open_below (logs w) m _ refl)) where
          wider : (c : Option Part) → IsBelow (length m.known) c → IsBelow n c
          wider None below = tt
          wider (Some part) below = omega (arith, wide, below)

    labelled : (e : LiveEvent) → IsOfPublishedPart t e → PartIsOfMember t e (reply_of t j m e)
    labelled event.Publish brings = tt
    labelled (event.Hear octets) brings = tt
    labelled (event.Claim f) brings = claim_labelled f (is_some (claim_at w j f)) (to_claim w j) next_below
    labelled (event.Accept f part) brings = has_label t part.publisher (brought_below t part brings)
    labelled (event.Lose f) brings = lose_labelled f (claim_at w j f) (claim_below f)

  -- ---- a journal

  grows : (es : List LiveEntry) (from to : Member) → Replays t j es from to → length from.known ≤ length to.known
  grows [] from to is = let same = ap (λ (x : Member). length x.known) is in omega (arith, same)
  grows (e ∷ es) from to is =
      omega (arith, (goes_on t j there from e.event).longer, grows es (after t j from e.event) to is.1)

  abbrev IsLabelled : LiveEntry → Type 0
  IsLabelled e = PartIsOfMember t e.event e.reply

  abbrev Brings : LiveEntry → Type 0
  Brings e = IsOfPublishedPart t e.event

  each_labelled : (es : List LiveEntry) (from to : Member) → Replays t j es from to → All Brings es
      → length to.known ≤ n → All (IsBelow n) from.claims → All IsLabelled es
  each_labelled [] from to is brought wide each = All-nil IsLabelled
  each_labelled (e ∷ es) from to is brought wide each =
      let now : length from.known ≤ n = omega (arith, grows (e ∷ es) from to is, wide) in
      let first = labelled from now each e.event (All-head Brings e es brought) in
      All-cons IsLabelled e es (subst (PartIsOfMember t e.event) is.0 first)
      (each_labelled es (after t j from e.event) to is.1 (All-tail Brings e es brought) wide
      ((goes_on t j there from e.event).claims n now each))

-- ---- a catalogue

module _ (ls : Logs) where
  among : (e : Entry) → In e (join_of ls) → e.publisher < length ls
  among e is =
      let from = from_map published_entry _ e is in
      let kept = in_filtered (is_unwithdrawn (published ls)) (published ls) from.0 from.1 in
      let q = (in_published ls from.0 kept.0).there in
      subst (λ (x : Entry). x.publisher < length ls) (sym from.2)
      (in_range ls from.0.publisher from.0.seq q.from_one q.to_last)

-- ---- all members

names_members : (t : Meaning) (r : Ran) → IsRan t r → NamesMembers t r
names_members t r is =
    let whole : length (whole_logs t) ≡ length t.lists = length-map t.lists as_posts in
    let there : r.member.number < length t.lists = omega (arith, is.consistent.there, whole) in
    let wide : length r.member.known ≤ length t.lists = omega (arith, is.consistent.sound.width, whole) in
    record {
      journal = each_labelled t r.member.number there r.journal.items (in_group (initial_live_member t r.member.number))
          (in_group r.member) is.replays is.brought wide (All-replicate (IsBelow (length t.lists)) 16 None tt);
      catalogue = subst (All (λ (e : Entry). HasLabel t e.publisher)) (sym is.catalogue)
          (λ k d less. has_label t _ (omega (
            arith,
            among (whole_logs t) (get_or (join_of (whole_logs t)) k d) (in_at (join_of (whole_logs t)) k d less),
            whole,
          )));
    }

pub named_members : PublishersAreMembers
named_members t rans are k d less = names_members t (get_or rans k d) (are.each k d less)
