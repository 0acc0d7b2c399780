-- The world after each event, and the reply to it.
use Rattle.std.specs.Prelude.{ℕ, ◌+◌, ◌-◌, ◌*◌, Bool, true, false, not, List, [], ◌∷◌, ◌++◌, map, length, take, Option}
use Rattle.std.specs.Prelude.{Some, None, is_some, unwrap_or, Result, Ok, Err, slice_index, slice_set, nat_le, nat_lt}
use Rattle.std.specs.Prelude.{◌==◌, ◌&&◌, if◌then◌else◌, filter, find, sum_by}
use Rattle.std.specs.Ordering.{nat_cmp}
use Rattle.repo_plan.specs.declared.part.Part.{Part}
use Rattle.sorted_lists.specs.SortedList.{value_of}
use Rattle.sorted_lists.specs.Range.{numbers_from}
use Rattle.repo_plan.specs.Parts.{pair_of, record_of}
use Rattle.repo_plan.specs.Plan.{claim_of, unclaimed, first}
use Rattle.svs_vector.specs.Vectors.{join_all}
use Rattle.svs_sync.specs.declared.fired.Fired.{Fired}
use Rattle.svs_sync.specs.declared.fired.Fired.TheVariants.{Early, Quiet, Send}
use Rattle.svs_sync.specs.declared.mode.Mode.{Mode}
use Rattle.svs_sync.specs.Suppression.{mode_of}
use Rattle.svs_sync.specs.SyncStates.{when_fired}
use Rattle.repo_object.specs.Objects.{Post}
use Rattle.repo_object.specs.Objects.Post.{Offers, Withdraws}
use Rattle.repo_catalog.specs.declared.entry.Entry.{Entry}
use Rattle.group_model.specs.Publications.{Logs, all_parts}
use Rattle.repo_process.specs.Processes.{Process, BlockState, present, object_of, closed, block_state}
use Rattle.repo_process.specs.Processes.BlockState.{Unknown, Already, Waiting, Whole}
use Rattle.repo_command.specs.declared.command.Command.{Command}
use Rattle.repo_command.specs.declared.answer.Answer.{Answer}
use Rattle.repo_command.specs.Answers.{code_only}
use Rattle.repo_command.specs.declared.command.Command.TheVariants.{Insert, Check, Delete}
use Rattle.group_model.specs.Member.{Member, member_holds, has_deleted, plan_of, catalogued_under, gains}
use Rattle.group_model.specs.Member.{deletes_all, tries_of, with_each_tried, member_without_claims}
use Rattle.group_model.specs.Changes.{resets, publishes, learns, restarts, member_with_claim, takes}
use Rattle.group_model.specs.Changes.{member_with_process, member_starts}
use Rattle.group_model.specs.Events.{SyncInterest, Response, Event}
use Rattle.group_model.specs.Events.Response.{Nothing, Its, Another}
use Rattle.group_model.specs.Replies.{CatalogueTotals, HearOutcome, OutcomeOf, Reply, reply_of}
use Rattle.group_model.specs.World.{Issued, World, Environment, no_member, member, with_member, logs, sent_at}
use Rattle.group_model.specs.World.{catalogue_at}
use Rattle.group_model.specs.World.{someone_holds}

-- ---- claims

-- What a fetcher of a member claims.
abbrev pub claim_at : World → ℕ → ℕ → Option Part
claim_at w j f = claim_of (plan_of (logs w) (member w j)) f

-- The wanted parts of a member that none of its fetchers claims, in order. A fetcher claims the first.
abbrev pub unclaimed_at : World → ℕ → List Part
unclaimed_at w j = unclaimed (plan_of (logs w) (member w j))

-- The part that a fetcher would claim.
abbrev pub to_claim : World → ℕ → Option Part
to_claim w j = first (unclaimed_at w j)

-- Fetcher `f` of member `j` claims the given part, if there is one.
abbrev pub after_claiming : World → ℕ → ℕ → Option Part → World
after_claiming w j f None = w
after_claiming w j f (Some t) = with_member w j (member_with_claim f (Some t) (member w j))

-- ---- sync

-- The member's sync Interest is sent.
abbrev pub with_sync : World → ℕ → World
with_sync w j = record w { sent = w.sent ++ record { sender = j; vector = (member w j).known } ∷ [] }

-- What the timer of a member says.
abbrev pub timer_at : World → ℕ → Fired
timer_at w j = when_fired w.time (member w j).known (member w j).machine

-- The vector of a sync Interest reports more publications of the member than it made.
abbrev pub exceeds_log : World → ℕ → SyncInterest → Bool
exceeds_log w j sync = nat_lt (length (member w j).log) (slice_index sync.vector j)

-- ---- parts that are received

-- The response passes the checks of the claimed part.
abbrev pub passes_checks : Response → Bool
passes_checks Nothing = false
passes_checks Its = true
passes_checks Another = true

-- What member q gives for a claim.
abbrev pub response_from : Environment → World → ℕ → Option Part → Response
response_from env w q None = Nothing
response_from env w q (Some t) = env.serves (logs w) (member w q).held t

-- What octets from outside are as a response to a claim.
abbrev pub response_read : World → (Logs → Part → Response) → Option Part → Response
response_read w read None = Nothing
response_read w read (Some t) = read (logs w) t

-- One attempt more was made.
abbrev pub tried_once : World → World
tried_once w = record w { tally = record w.tally { attempts = w.tally.attempts + 1 } }

-- The part of a fetcher is held from now on, its claim is over, and the part is counted.
abbrev pub after_part : Environment → World → ℕ → ℕ → Part → World
after_part env w j f t = record (with_member w j (takes f t (member w j))) {
  tally = record w.tally { parts = w.tally.parts + 1; octets = w.tally.octets + env.size (logs w) t };
}

-- The claim is over where the response to it passes its checks.
abbrev pub after_response : Environment → World → ℕ → ℕ → Option Part → Response → World
after_response env w j f None response = w
after_response env w j f (Some t) Nothing = w
after_response env w j f (Some t) Its = after_part env w j f t
after_response env w j f (Some t) Another = after_part env w j f t

-- ---- a settle

-- The vector of every member after a settle.
abbrev pub settled_vector : World → List ℕ
settled_vector w = join_all (map (λ m. m.known) w.members)

-- The member `m` gains the part `t` in a settle: the settled vector reports the publication, which the member hasn't
-- deleted; someone holds the part, and someone its record; and the member doesn't hold the part yet.
abbrev pub is_gained : World → Member → Part → Bool
is_gained w m t =
    nat_le t.seq (slice_index (settled_vector w) t.publisher)
    && (not (has_deleted m (pair_of t))
    && (someone_holds w.members t && (someone_holds w.members (record_of t) && not (member_holds m t))))

-- The parts that a member gets in a settle, in order.
abbrev pub new_parts : World → Member → List Part
new_parts w m = filter (is_gained w m) (all_parts (logs w))

-- How many parts all members get.
abbrev pub settle_new_parts : World → ℕ
settle_new_parts w = sum_by (λ m. length (new_parts w m)) w.members

-- A member after a settle, except its sync state: it knows what all know, its claims have ended, and it holds the new
-- parts too.
abbrev pub settled_member : World → Member → Member
settled_member w m = record (gains (new_parts w m) (member_without_claims m)) { known = settled_vector w }

-- The sync Interests of the members from the member `j` on.
abbrev pub syncs_of : ℕ → List Member → List SyncInterest
syncs_of j [] = []
syncs_of j (m ∷ ms) = record { sender = j; vector = m.known } ∷ syncs_of (j + 1) ms

-- ---- a fetch

-- How many parts a fetch tries at most, and each phase of a settle.
abbrev pub job_limit : ℕ
job_limit = 4096

-- The parts that a fetch tries: the least that are wanted and not claimed, as many as a fetch may try.
abbrev pub planned_parts : World → ℕ → List Part
planned_parts w j = take job_limit (unclaimed_at w j)

-- The members, with an empty one in the place of the asking member.
abbrev pub others_of : World → ℕ → List Member
others_of w j = slice_set w.members j no_member

-- The first of `tries` attempts that the network passes, where another member holds the part.
abbrev pub attempt : Environment → World → (j tries loss : ℕ) → Part → Option ℕ
attempt env w j tries loss t =
    if someone_holds (others_of w j) t
    then find (λ a. env.passes j t (tries_of (member w j).attempts t + a) loss) (numbers_from 1 tries)
    else None

-- The parts that a fetch brings, in order.
abbrev pub fetched_parts : Environment → World → (j tries loss : ℕ) → List Part
fetched_parts env w j tries loss = filter (λ t. is_some (attempt env w j tries loss t)) (planned_parts w j)

-- How many attempts a fetch makes for a part.
abbrev pub attempts_for : Environment → World → (j tries loss : ℕ) → Part → ℕ
attempts_for env w j tries loss t = unwrap_or (attempt env w j tries loss t) tries

-- How many attempts a fetch makes for all its parts.
abbrev pub attempts_made : Environment → World → (j tries loss : ℕ) → ℕ
attempts_made env w j tries loss = sum_by (attempts_for env w j tries loss) (planned_parts w j)

-- The member after a fetch: it holds the parts that the fetch brought, and the attempts of each part are counted.
abbrev pub fetches : Environment → World → (j tries loss : ℕ) → Member → Member
fetches env w j tries loss m = record (gains (fetched_parts env w j tries loss) m) {
  attempts = with_each_tried (attempts_for env w j tries loss) (planned_parts w j) m.attempts;
}

-- ---- commands

-- Numbers of processes end at 4,294,967,295.
abbrev pub can_start : Member → Bool
can_start m = nat_le m.next_process 4294967295

-- What a command makes of the group.
abbrev pub after_command : World → ℕ → Command → World
after_command w j (Insert name first last) =
    if can_start (member w j) then with_member w j (member_starts name first last (member w j)) else w
after_command w j (Check process) = w
after_command w j (Delete name) =
    with_member w j (deletes_all (catalogued_under (logs w) (member w j) name) (member w j))

-- How many packets a deletion drops.
abbrev pub packets_dropped : World → ℕ → Command → ℕ
packets_dropped w j command = length (member w j).held - length (member (after_command w j command) j).held

-- The answer to a check of a process.
abbrev pub check_answer : Option Process → Answer
check_answer None = code_only 404
check_answer (Some p) = record (code_only (if p.published then 200 else 300)) { inserted = Some (present p) }

-- The answer to a command.
abbrev pub command_answer : World → ℕ → Command → Answer
command_answer w j (Insert name first last) =
    if can_start (member w j) then record (code_only 100) { process = Some (member w j).next_process }
    else code_only 403
command_answer w j (Check process) = check_answer (value_of nat_cmp (member w j).processes process)
command_answer w j (Delete name) =
    if length (catalogued_under (logs w) (member w j) name) == 0 then code_only 404
    else record (code_only 200) { deleted = Some (packets_dropped w j (Delete name)) }

-- The world after octets that were read as a command, or refused.
abbrev pub after_order : World → ℕ → Result (ℕ × Command) ℕ → World
after_order w j (Ok order) = after_command w j order.1
after_order w j (Err code) = w

-- The answer to octets that were read as a command, or refused.
abbrev pub order_answer : World → ℕ → Result (ℕ × Command) ℕ → Answer
order_answer w j (Ok order) = command_answer w j order.1
order_answer w j (Err code) = code_only code

-- A client makes a command for a member, and the member carries it out.
abbrev pub after_issue : World → ℕ → ℕ → Command → World
after_issue w j client command =
    let made : Issued = record { member = j; client = client; command = command } in
    after_command (record w { issued = w.issued ++ made ∷ [] }) j command

-- ---- blocks

-- The result of a block for its process.
abbrev pub block_at : World → ℕ → (process index : ℕ) → List ℕ → BlockState
block_at w j process index content = block_state (member w j).processes process index content

-- Member `j` has the process `p` under `number` from now on.
abbrev pub with_process_at : World → ℕ → ℕ → Process → World
with_process_at w j number p = with_member w j (member_with_process number p (member w j))

-- ---- draws

module _ (env : Environment) where
  -- The next draw of a member.
  abbrev pub drawn : World → ℕ → ℕ
  drawn w j = env.draw j (member w j).machine.draws

  -- A member publishes under its next number, and sends its sync Interest.
  abbrev pub after_publish : World → ℕ → Post → World
  after_publish w j post = with_sync (with_member w j (publishes (drawn w j) w.time j post (member w j))) j

  -- A block is kept, or completes its insertion, which publishes the object.
  abbrev pub after_block : World → ℕ → ℕ → BlockState → World
  after_block w j process Unknown = w
  after_block w j process Already = w
  after_block w j process (Waiting p) = with_process_at w j process p
  after_block w j process (Whole p) = after_publish (with_process_at w j process (closed p)) j (Offers (object_of p))

  -- A member hears a vector.
  abbrev pub after_deliver : World → ℕ → List ℕ → World
  after_deliver w j received = record (with_member w j (learns (drawn w j) w.time received (member w j))) {
    tally = record w.tally { delivered = w.tally.delivered + 1 };
  }

  -- A member hears octets. Those that are refused, or whose vector reports more publications of the member than it
  -- made, change nothing.
  abbrev pub after_hear : World → ℕ → Option SyncInterest → World
  after_hear w j None = w
  after_hear w j (Some sync) = if exceeds_log w j sync then w else after_deliver w j sync.vector

  -- A member's sync state is Steady again.
  abbrev pub after_reset : World → ℕ → World
  after_reset w j = with_member w j (resets (drawn w j) w.time (member w j))

  -- A timer that is due resets its sync state, and sends where it has something to send.
  abbrev pub after_fire : World → ℕ → Fired → World
  after_fire w j Early = w
  after_fire w j Quiet = after_reset w j
  after_fire w j Send = with_sync (after_reset w j) j

  -- A member starts again.
  abbrev pub after_restart : World → ℕ → World
  after_restart w j = with_member w j (restarts (drawn w j) w.time (member w j))

  -- A settle, except the sync states.
  abbrev pub after_gathering : World → World
  after_gathering w = record w {
    members = map (settled_member w) w.members;
    sent = w.sent ++ syncs_of 0 w.members;
    tally = record w.tally {
      delivered = w.tally.delivered + length w.members * (length w.members - 1);
      parts = w.tally.parts + settle_new_parts w;
      octets = w.tally.octets + sum_by (λ m. sum_by (env.size (logs w)) (new_parts w m)) w.members;
    };
  }

  -- The sync states of the members from the member `j` on are reset, each with its next draw.
  abbrev pub reset_each : (time j : ℕ) → List Member → List Member
  reset_each time j [] = []
  reset_each time j (m ∷ ms) = resets (env.draw j m.machine.draws) time m ∷ reset_each time (j + 1) ms

  -- All sync states are reset.
  abbrev pub after_resets : World → World
  after_resets w = record w { members = reset_each w.time 0 w.members }

  -- A settle.
  abbrev pub after_settle : World → World
  after_settle w = after_resets (after_gathering w)

  -- A fetch.
  abbrev pub after_fetch : World → (j tries loss : ℕ) → World
  after_fetch w j tries loss = record (with_member w j (fetches env w j tries loss (member w j))) {
    tally = record w.tally {
      attempts = w.tally.attempts + attempts_made env w j tries loss;
      parts = w.tally.parts + length (fetched_parts env w j tries loss);
      octets = w.tally.octets + sum_by (env.size (logs w)) (fetched_parts env w j tries loss);
    };
  }

  -- ---- any event

  -- The group after an event.
  abbrev pub after_event : World → Event → World
  after_event w (Event.Publish j o) = after_publish w j (Offers o)
  after_event w (Event.Withdraw j seq) = after_publish w j (Withdraws seq)
  after_event w (Event.Deliver k j) = after_deliver w j (sent_at w k).vector
  after_event w (Event.Sync k) = w
  after_event w (Event.Advance ms) = record w { time = w.time + ms }
  after_event w (Event.Fire j) = after_fire w j (timer_at w j)
  after_event w (Event.Restart j) = after_restart w j
  after_event w (Event.Vector j) = w
  after_event w (Event.Catalogue j) = w
  after_event w (Event.Claim j f) = after_claiming w j f (to_claim w j)
  after_event w (Event.Lose j f) = with_member w j (member_with_claim f None (member w j))
  after_event w (Event.Answer j f q) =
      after_response env (tried_once w) j f (claim_at w j f) (response_from env w q (claim_at w j f))
  after_event w (Event.Fetch j tries loss) = after_fetch w j tries loss
  after_event w Event.Settle = after_settle w
  after_event w (Event.Dump j t) = w
  after_event w (Event.Hear j read) = after_hear w j read
  after_event w (Event.Ask j find) = w
  after_event w (Event.Feed j f read) =
      after_response env w j f (claim_at w j f) (response_read w read (claim_at w j f))
  after_event w (Event.Order j read) = after_order w j read
  after_event w (Event.Issue j client command) = after_issue w j client command
  after_event w (Event.Block j process index content) = after_block w j process (block_at w j process index content)
  after_event w Event.Summary = w
  after_event w Event.Traffic = w

  -- The group after a list of events.
  abbrev pub after_events : World → List Event → World
  after_events w [] = w
  after_events w (e ∷ es) = after_events (after_event w e) es

-- ---- replies

-- The mode of a member's sync state.
abbrev pub mode_at : World → ℕ → Mode
mode_at w j = mode_of (member w j).machine.heard

-- The totals of a catalogue.
abbrev pub catalogue_totals : List Entry → CatalogueTotals
catalogue_totals entries = record {
  entries = length entries;
  segments = sum_by (λ e. e.segments) entries;
  octets = sum_by (λ e. e.octets) entries;
}

-- The number of the member's next publication.
abbrev pub next_seq_at : World → ℕ → ℕ
next_seq_at w j = length (member w j).log + 1

-- The number of the next sync Interest.
abbrev pub next_sync : World → ℕ
next_sync w = length w.sent + 1

-- The totals of each member's catalogue.
abbrev pub all_totals : World → List CatalogueTotals
all_totals w = map (λ j. catalogue_totals (catalogue_at w j)) (numbers_from 0 (length w.members))

-- The outcome of octets that are read as a sync Interest.
abbrev pub hear_outcome : Environment → World → ℕ → (read : Option SyncInterest) → HearOutcome read
hear_outcome env w j None = tt
hear_outcome env w j (Some sync) =
    if exceeds_log w j sync then Err (length (member w j).log, slice_index sync.vector j)
    else Ok (mode_at (after_deliver env w j sync.vector) j)

-- The outcome of an event.
abbrev pub outcome : Environment → World → (e : Event) → OutcomeOf e
outcome env w (Event.Publish j o) =
    record { seq = next_seq_at w j; segments = length o.contents; sync = next_sync w }
outcome env w (Event.Withdraw j seq) = record { seq = next_seq_at w j; sync = next_sync w }
outcome env w (Event.Deliver k j) = mode_at (after_deliver env w j (sent_at w k).vector) j
outcome env w (Event.Sync k) = sent_at w k
outcome env w (Event.Advance ms) = w.time + ms
outcome env w (Event.Fire j) = record { timer = timer_at w j; sync = next_sync w }
outcome env w (Event.Restart j) = tt
outcome env w (Event.Vector j) = (member w j).known
outcome env w (Event.Catalogue j) = catalogue_at w j
outcome env w (Event.Claim j f) = to_claim w j
outcome env w (Event.Lose j f) = claim_at w j f
outcome env w (Event.Answer j f q) = passes_checks (response_from env w q (claim_at w j f))
outcome env w (Event.Fetch j tries loss) = record {
  planned = length (planned_parts w j);
  kept = length (fetched_parts env w j tries loss);
  attempts = attempts_made env w j tries loss;
}
outcome env w Event.Settle = record { syncs = length w.members; kept = settle_new_parts w }
outcome env w (Event.Dump j t) = member_holds (member w j) t
outcome env w (Event.Hear j read) = hear_outcome env w j read
outcome env w (Event.Ask j find) = find (logs w) (member w j).held
outcome env w (Event.Feed j f read) = passes_checks (response_read w read (claim_at w j f))
outcome env w (Event.Order j read) = order_answer w j read
outcome env w (Event.Issue j client command) = command_answer w j command
outcome env w (Event.Block j process index content) =
    record { state = block_at w j process index content; seq = next_seq_at w j; sync = next_sync w }
outcome env w Event.Summary = all_totals w
outcome env w Event.Traffic = record {
  syncs = length w.sent;
  delivered = w.tally.delivered;
  attempts = w.tally.attempts;
  parts = w.tally.parts;
  octets = w.tally.octets;
}

-- The reply to an event.
abbrev pub reply_to : Environment → World → Event → Reply
reply_to env w e = reply_of e (outcome env w e)

-- The replies to a list of events, in order.
abbrev pub replies : Environment → World → List Event → List Reply
replies env w [] = []
replies env w (e ∷ es) = reply_to env w e ∷ replies env (after_event env w e) es
