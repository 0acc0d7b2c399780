-- What a member makes of a command, and what it answers.
use Rattle.std.specs.Prelude.{◌≡◌, ℕ, ◌<◌, ◌≤◌, true, false, List, Option, Some, None, Result, Ok, Err, length, nat_le}
use Rattle.std.specs.Prelude.{◌==◌, IfOk, option_map, if◌then◌else◌}
use Rattle.std.specs.Ordering.{nat_cmp}
use Rattle.ndn_name.specs.declared.fault.PacketFault.{PacketFault}
use Rattle.ndn_name.specs.Names.{Component, encoding}
use Rattle.ndn_data.specs.WrittenData.{written_data}
use Rattle.ndn_interest.specs.Interest.{Interest, interest_of}
use Rattle.sorted_lists.specs.SortedList.{value_of}
use Rattle.repo_object.specs.Limits.{object_name_limit}
use Rattle.repo_object.specs.Objects.{key_name}
use Rattle.repo_command.specs.Commands.{named_length, is_command, CommandIsSpelled, command_interest}
use Rattle.repo_command.specs.declared.command.Command.{Command}
use Rattle.repo_command.specs.declared.command.Command.TheVariants.{Insert, Check, Delete}
use Rattle.repo_command.specs.declared.command_refusal.CommandRefusal.{CommandRefusal}
use Rattle.repo_command.specs.declared.answer.Answer.{Answer}
use Rattle.repo_command.specs.StatusCodes as status
use Rattle.repo_command.specs.StatusCodes.{refusal_code}
use Rattle.repo_command.specs.Verdict.{command_verdict}
use Rattle.repo_command.specs.Answers.{code_only, written_answer}
use Rattle.repo_process.specs.Insertions.{next_number, starts}
use Rattle.group_model.specs.Steps.{check_answer}
use Rattle.repo_member.specs.declared.member.command.Answered.{Answered}
use Rattle.repo_member.specs.Groups.{GroupKeys, IsGroup, node_at, member_key, client_at, client_key_at}
use Rattle.repo_member.specs.MemberState.{MemberState}
use Rattle.repo_member.specs.Deleting.{catalogued_named, member_deletes, member_drops}

-- ---- whose command octets are, and which

-- the code in place of a refusal
abbrev pub coded : Result (ℕ × Command) CommandRefusal → Result (ℕ × Command) ℕ
coded (Ok order) = Ok order
coded (Err refusal) = Err (refusal_code refusal)

-- the number of the client that signed the command `octets`, and the command; or the code of the refusal
abbrev pub order_of : GroupKeys → ℕ → List ℕ → Result (ℕ × Command) ℕ
order_of g number octets = coded (command_verdict (node_at g number) g.clients.ring octets)

-- the Interest that a client makes of a command for a member
abbrev pub order_made : GroupKeys → (number client : ℕ) → Command → List ℕ
order_made g number client command =
    command_interest (node_at g number) command (key_name (client_at g client)) (client_key_at g client)

-- A command within the limits that a client of the group makes for a member is that client's and that command.
abbrev pub MadeOrdersAreTaken : Type 0
MadeOrdersAreTaken = (g : GroupKeys) (number client : ℕ) (command : Command) → IsGroup g
    → number < length g.members.names → client < length g.clients.names → CommandIsSpelled command
    → is_command command ≡ true
    → order_of g number (order_made g number client command) ≡ Ok (client, command)

-- A command that goes beyond the limits, though its name isn't too long, is refused as malformed, whichever client
-- makes it.
abbrev pub OrdersBeyondAreMalformed : Type 0
OrdersBeyondAreMalformed = (g : GroupKeys) (number client : ℕ) (command : Command) → IsGroup g
    → number < length g.members.names → client < length g.clients.names → CommandIsSpelled command
    → named_length command ≤ object_name_limit → is_command command ≡ false
    → order_of g number (order_made g number client command) ≡ Err status.Malformed

-- ---- what becomes of the member

-- an insertion process begins, where there is a number for it
abbrev pub member_state_starts : List Component → ℕ → ℕ → MemberState → Option ℕ → MemberState
member_state_starts name first last a None = a
member_state_starts name first last a (Some number) = record a { insertions = starts name first last a.insertions }

-- The member after a command.
abbrev pub member_obeys : Command → MemberState → MemberState
member_obeys (Insert name first last) a = member_state_starts name first last a (next_number a.insertions)
member_obeys (Check process) a = a
member_obeys (Delete name) a = member_deletes name a

-- The member after octets that were read as a client's command, or refused with a status code.
abbrev pub member_after_order : Result (ℕ × Command) ℕ → MemberState → MemberState
member_after_order (Ok order) a = member_obeys order.1 a
member_after_order (Err code) a = a

-- ---- what is answered

-- The answer to an insertion: the number of its process, or that numbers are used up.
abbrev pub start_answer : Option ℕ → Answer
start_answer None = code_only status.Malformed
start_answer (Some number) = record (code_only status.Accepted) { process = Some number }

-- The answer to a deletion: how many packets are dropped, or that nothing has that name.
abbrev pub delete_answer : List Component → MemberState → Answer
delete_answer name a =
    if length (catalogued_named name a) == 0 then code_only status.NotFound
    else record (code_only status.Done) { deleted = Some (member_drops name a) }

-- The answer to a command.
abbrev pub answer_to : Command → MemberState → Answer
answer_to (Insert name first last) a = start_answer (next_number a.insertions)
answer_to (Check process) a = check_answer (value_of nat_cmp a.insertions.processes process)
answer_to (Delete name) a = delete_answer name a

-- The answer to octets that were read as a client's command, or refused with a status code.
abbrev pub member_order_answer : Result (ℕ × Command) ℕ → MemberState → Answer
member_order_answer (Ok order) a = answer_to order.1 a
member_order_answer (Err code) a = code_only code

-- ---- the packet that says it

-- how many octets of value a name may have that a reply repeats
abbrev pub reply_name_limit : ℕ
reply_name_limit = 1000

-- Data of this name, signed by the member, unless the name is too long
abbrev pub reply_named : GroupKeys → ℕ → Answer → List Component → Option (List ℕ)
reply_named g number answer name =
    if nat_le (length (encoding name)) reply_name_limit
    then Some (written_data name None (written_answer answer) (key_name (node_at g number)) (member_key g number))
    else None

-- the reply to octets that are read as an Interest; octets that are none have no reply
abbrev pub reply_to_interest : GroupKeys → ℕ → Answer → Result Interest PacketFault → Option (List ℕ)
reply_to_interest g number answer (Ok i) = reply_named g number answer i.name
reply_to_interest g number answer (Err fault) = None

-- The Data packet that replies to octets, if they are an Interest whose name isn't too long.
abbrev pub reply_to_octets : GroupKeys → ℕ → Answer → List ℕ → Option (List ℕ)
reply_to_octets g number answer octets = reply_to_interest g number answer (interest_of octets)

-- What a member answers to octets, and the packet that says it. A command that the octets are has names that are names,
-- and numbers of 64 bits at most.
pub record IsAnswerTo (g : GroupKeys) (octets : List ℕ) (a : MemberState) (answered : Answered) : Type 0 where
  pub spelled : IfOk (order_of g a.number octets) (λ order. CommandIsSpelled order.1)
  pub answer : answered.answer ≡ member_order_answer (order_of g a.number octets) a
  pub reply : option_map (λ r. r.items) answered.reply ≡ reply_to_octets g a.number answered.answer octets
