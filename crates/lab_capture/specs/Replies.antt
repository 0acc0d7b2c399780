-- Which frames a command gives: its Interest to a member, and the Data that replies to it.
use Rattle.std.specs.Prelude.{ℕ, Bool, List, [], ◌∷◌, length, Option, Some, None, nat_le, if◌then◌else◌}
use Rattle.repo_object.specs.Limits.{object_name_limit}
use Rattle.repo_command.specs.declared.answer.Answer.{Answer}
use Rattle.repo_command.specs.declared.command.Command.{Command}
use Rattle.repo_command.specs.declared.command.Command.TheVariants as command
use Rattle.repo_command.specs.Commands.{named_length}
use Rattle.group_model.specs.World.{World}
use Rattle.repo_member.specs.Groups.{GroupKeys}
use Rattle.repo_member.specs.Commanded.{order_made, reply_to_octets}
use Rattle.script_lang.specs.declared.verb.Verb.{Verb}
use Rattle.script_lang.specs.declared.verb.Verb.TheVariants as verb
use Rattle.script_lang.specs.Kinds.{Value, Named, Number, Octets, Text}
use Rattle.script_lang.specs.Forms.{Stated}
use Rattle.script_lang.specs.Checking.{Declared, party_place}
use Rattle.script_story.specs.Evaluation.{State}
use Rattle.lab_capture.specs.declared.station.Station.{Station}
use Rattle.lab_capture.specs.declared.station.Station.TheVariants as station
use Rattle.lab_capture.specs.Answers.{answer_report}
use Rattle.lab_capture.specs.Captures.{Framed}
use Rattle.lab_capture.specs.Frames.{below, member_named, sent_if, sent_now, stated_in}

-- The client of a label.
abbrev pub client_named : Declared → GroupKeys → List ℕ → Option ℕ
client_named d g label = below (length g.clients.names) (party_place label d.clients)

-- The packet by which the member `m` replies to octets, if it gave an answer to them.
abbrev pub reply_of : GroupKeys → ℕ → List ℕ → Option Answer → Option (List ℕ)
reply_of g m octets None = None
reply_of g m octets (Some answer) = reply_to_octets g m answer octets

-- The frames of octets from the station `client` to the member `m`, and of the member's reply, if there is one.
abbrev pub exchanged : GroupKeys → World → Station → ℕ → List ℕ → Option Answer → List Framed
exchanged g w client m octets answer =
    sent_now w client (station.Member m) octets
    ∷ sent_if w (station.Member m) client (reply_of g m octets answer)

-- The frames of an `order` line: octets from outside to a member, and its reply.
abbrev pub ordered : GroupKeys → World → Option ℕ → List ℕ → Option Answer → List Framed
ordered g w None octets answer = []
ordered g w (Some m) octets answer = exchanged g w station.Outside m octets answer

-- The name in a command is no longer than an object's name may be.
abbrev pub is_short : Command → Bool
is_short command = nat_le (named_length command) object_name_limit

-- The frames of a client's command: the Interest that the client makes of it for a member, and the member's reply.
abbrev pub commanded : GroupKeys → World → Option ℕ → Option ℕ → Command → Option Answer → List Framed
commanded g w (Some m) (Some client) command answer =
    if is_short command
    then exchanged g w (station.Client client) m (order_made g m client command) answer else []
commanded g w _ _ command answer = []

-- The frames of a line that gives a member a command, by the answer to it. Other lines have none here.
abbrev pub replies_of : Declared → GroupKeys → World → Verb → List Value → Option Answer → List Framed
replies_of d g w verb.Order (Text m ∷ Octets octets ∷ []) answer = ordered g w (member_named d w m) octets answer
replies_of d g w verb.Insert (Text m ∷ Text client ∷ Named name ∷ Number first ∷ Number last ∷ []) answer =
    commanded g w (member_named d w m) (client_named d g client) (command.Insert name first last) answer
replies_of d g w verb.Status (Text m ∷ Text client ∷ Number process ∷ []) answer =
    commanded g w (member_named d w m) (client_named d g client) (command.Check process) answer
replies_of d g w verb.Delete (Text m ∷ Text client ∷ Named name ∷ []) answer =
    commanded g w (member_named d w m) (client_named d g client) (command.Delete name) answer
replies_of d g w _ values answer = []

-- The frames of a line that gives a member a command, by what the line states, if anything, and by its report.
abbrev pub replies : Declared → GroupKeys → World → Option Stated → List ℕ → List Framed
replies d g w None report = []
replies d g w (Some s) report = replies_of d g w s.verb s.values (answer_report report)

-- The frames of a line that gives a member a command, by its report and by the world after it, if there is one.
abbrev pub replies_in : State → List ℕ → List ℕ → Option World → List Framed
replies_in s line report None = []
replies_in s line report (Some w) = replies s.declared s.keys w (stated_in line) report

-- The frames of a command and its reply in a line that was taken, by the line's report.
abbrev pub line_replies : State → List ℕ → List ℕ → List Framed
line_replies s line report = replies_in s line report s.world
