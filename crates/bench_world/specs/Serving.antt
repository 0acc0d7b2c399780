-- What a member answers when it is asked for a part, by what was published and what it holds; and the environment that
-- follows.
use Rattle.std.specs.Prelude.{ℕ, Bool, true, List, [], Option, Some, None, unwrap_or, is_ok, Result, Ok, Err}
use Rattle.std.specs.Prelude.{if◌then◌else◌}
use Rattle.std.specs.Str.{bytes_eq}
use Rattle.ndn_name.specs.declared.fault.PacketFault.{PacketFault}
use Rattle.repo_plan.specs.declared.part.Part.{Part}
use Rattle.repo_object.specs.Verdict.{ring_verdict}
use Rattle.repo_store.specs.Served.{served}
use Rattle.group_model.specs.Publications.{Logs}
use Rattle.group_model.specs.Events.{Response}
use Rattle.group_model.specs.Events.Response.{Nothing, Its, Another}
use Rattle.group_model.specs.World.{Environment}
use Rattle.repo_member.specs.Groups.{GroupKeys}
use Rattle.repo_member.specs.InGroup.{published_packet}
use Rattle.repo_member.specs.ConsistentMembers.{published_want, published_packets}
use Rattle.bench_world.specs.Sizes.{size_of}

-- How octets are read as a packet of a published part.
abbrev pub octets_response : GroupKeys → Logs → Part → List ℕ → Response
octets_response g logs t octets =
    if is_ok (ring_verdict (published_want g logs t) g.members.ring octets)
    then if bytes_eq octets (unwrap_or (published_packet g logs t) []) then Its else Another
    else Nothing

-- How a packet is read for the claimed part `t`: as that part's packet, as another one that passes, or as nothing.
abbrev pub packet_response : GroupKeys → Logs → Part → Option (List ℕ) → Response
packet_response g logs t None = Nothing
packet_response g logs t (Some octets) = octets_response g logs t octets

-- The packet that is served, if there is one.
abbrev pub found : Result (Option (List ℕ)) PacketFault → Option (List ℕ)
found (Ok packet) = packet
found (Err fault) = None

-- What a member that holds the parts `held` answers when it is asked for the part `t`.
abbrev pub holder_packet_response : GroupKeys → Logs → List Part → Part → Response
holder_packet_response g logs held t = packet_response g logs t (found
    (served (published_want g logs t).interest (published_packets g logs held)))

-- The environment with these draws and this network, in which keys and publications decide what members answer and how
-- large packets are.
abbrev pub environment : GroupKeys → (ℕ → ℕ → ℕ) → (ℕ → ℕ → ℕ → ℕ → ℕ → ℕ → Bool) → Environment
environment g draw passes = record {
  draw = draw;
  passes = λ j t attempt loss. passes j t.publisher t.seq t.part attempt loss;
  serves = holder_packet_response g;
  size = size_of g;
}

-- The environment where every draw is 0 and the network passes every attempt.
abbrev pub lossless : GroupKeys → Environment
lossless g = environment g (λ _ _. 0) (λ _ _ _ _ _ _. true)
