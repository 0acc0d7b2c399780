-- Each entry of a journal that replays has a line.
use Rattle.std.proofs.Common.{◌≡◌, ◌≢◌, ℕ, Bool, true, false, List, [], ◌∷◌, ◌++◌, length, Option, Some, None, Ok, Err}
use Rattle.std.proofs.Common.{ap, subst, arith}
use Rattle.std.proofs.lemmas.List.{length-append}
use Rattle.std.specs.Prelude.{is_some, is_none, if◌then◌else◌}
use Rattle.std.specs.List.{All}
use Rattle.std.proofs.lemmas.List.Elements.{All-nil, All-cons}
use Rattle.repo_plan.specs.declared.part.Part.{Part}
use Rattle.svs_sync.specs.declared.mode.Mode.{Mode}
use Rattle.svs_sync.specs.declared.mode.Mode.TheVariants.{Steady, Suppressed}
use Rattle.script_report.specs.Texts.{line, after_spaces}
use Rattle.repo_member.specs.InGroup.{in_group}
use Rattle.repo_member.specs.Verdicts.{group_verdict}
use Rattle.group_model.specs.Member.{Member}
use Rattle.group_model.specs.Events.{SyncInterest}
use Rattle.group_model.specs.Replies.{Reply, heard_reply, hear_reply}
use Rattle.group_model.specs.World.{World}
use Rattle.group_model.specs.Steps.{claim_at, to_claim, exceeds_log, after_deliver, mode_at, response_read}
use Rattle.group_model.specs.Steps.{passes_checks}
use Rattle.group_model.specs.Steps.{hear_outcome}
use Rattle.live_member.specs.declared.event.LiveEvent.{LiveEvent}
use Rattle.live_member.specs.declared.event.LiveEvent.TheVariants as event
use Rattle.live_member.specs.declared.event.LiveReply.{LiveReply}
use Rattle.live_member.specs.declared.event.LiveReply.TheVariants as reply
use Rattle.live_member.specs.declared.event.LiveEntry.{LiveEntry}
use Rattle.live_member.specs.Meanings.{Meaning, world_at, environment}
use Rattle.live_member.specs.Replay.{Replays, after, reply_of, live_reply, sync_read, fed}
use Rattle.live_member.specs.Lives.{initial_live_member}
use Rattle.live_settle.specs.declared.ran.Ran.{Ran}
use Rattle.live_top.specs.Journals.{line_of_entry}
use Rattle.live_top.specs.Printed.{HasLine, JournalsArePrintedWhole}

some_line : (first : List ℕ) (words : List (List ℕ)) → line first words ≢ []
unfolding line
some_line first words none =
    let whole : length (first ++ (after_spaces words ++ 10 ∷ [])) ≡ 0 = ap length none in
    let after = length-append first (after_spaces words ++ 10 ∷ []) in
    let last = length-append (after_spaces words) (10 ∷ []) in
    omega (arith, whole, after, last)

-- the reply to the event has a line
abbrev IsPrinted : LiveEvent → LiveReply → Type 0
IsPrinted e r = (labels : List (List ℕ)) → line_of_entry labels e r ≢ []

heard : (octets : List ℕ) (ahead : Bool) (numbers : ℕ × ℕ) (mode : Mode)
    → IsPrinted (event.Hear octets) (live_reply (heard_reply (if ahead then Err numbers else Ok mode)))
heard octets true numbers mode labels = some_line _ _
heard octets false numbers Steady labels = some_line _ _
heard octets false numbers Suppressed labels = some_line _ _

claimed : (f : ℕ) (busy : Bool) (c : Option Part)
    → IsPrinted (event.Claim f) (if busy then reply.Refused else live_reply (Reply.Claimed c))
claimed f true c labels = some_line _ _
claimed f false None labels = some_line _ _
claimed f false (Some t) labels = some_line _ _

fed_on : (f : ℕ) (t : Part) (kept : Bool) → IsPrinted (event.Accept f t) (live_reply (Reply.Fed kept))
fed_on f t true labels = some_line _ _
fed_on f t false labels = some_line _ _

lost : (f : ℕ) (c : Option Part)
    → IsPrinted (event.Lose f) (if is_none c then reply.Refused else live_reply (Reply.Lost c))
lost f None labels = some_line _ _
lost f (Some t) labels = some_line _ _

module _ (t : Meaning) (j : ℕ) where
  abbrev w : Member → World
  w m = world_at t j m

  hears : (m : Member) (octets : List ℕ) (read : Option SyncInterest)
      → IsPrinted (event.Hear octets) (live_reply (hear_reply read (hear_outcome (environment t) (w m) j read)))
  hears m octets None = λ labels. some_line _ _
  hears m octets (Some sync) =
      heard octets (exceeds_log (w m) j sync) _ (mode_at (after_deliver (environment t) (w m) j sync.vector) j)

  printed_of : (m : Member) (e : LiveEvent) → IsPrinted e (reply_of t j m e)
  printed_of m event.Publish = λ labels. some_line _ _
  printed_of m (event.Hear octets) = hears m octets (sync_read (group_verdict t.group octets))
  printed_of m (event.Claim f) = claimed f (is_some (claim_at (w m) j f)) (to_claim (w m) j)
  printed_of m (event.Accept f part) =
      fed_on f part (passes_checks (response_read (w m) (fed part) (claim_at (w m) j f)))
  printed_of m (event.Lose f) = lost f (claim_at (w m) j f)

  each_printed : (es : List LiveEntry) (from to : Member) → Replays t j es from to → All HasLine es
  each_printed [] from to is = All-nil HasLine
  each_printed (e ∷ es) from to is =
      All-cons HasLine e es (subst (IsPrinted e.event) is.0 (printed_of from e.event))
      (each_printed es (after t j from e.event) to is.1)

pub printed_whole : JournalsArePrintedWhole
printed_whole t rans are k d less =
    let r : Ran = d in
    each_printed t _ _ (in_group (initial_live_member t _)) _ (are.each k r less).replays
