-- What a fetcher receives for its claim, and how that changes its member.
use Rattle.std.specs.Prelude.{ℕ, List, [], length, Option, Some, None, unwrap_or, Result, Ok, Err}
use Rattle.ndn_data.specs.Data.{Data}
use Rattle.repo_plan.specs.declared.part.Part.{Part}
use Rattle.sorted_lists.specs.SortedList.{keys}
use Rattle.repo_plan.specs.Plan.{claim_of}
use Rattle.repo_object.specs.declared.part_refusal.PartRefusal.{PartRefusal}
use Rattle.repo_object.specs.Verdict.{ring_verdict}
use Rattle.group_model.specs.Publications.{Logs}
use Rattle.group_model.specs.Events.{Response}
use Rattle.group_model.specs.Events.Response.{Nothing, Its, Another}
use Rattle.repo_member.specs.Groups.{GroupKeys}
use Rattle.repo_member.specs.MemberState.{MemberState, member_plan, member_accepts}
use Rattle.repo_member.specs.InGroup.{published_packet}
use Rattle.repo_member.specs.ConsistentMembers.{published_want}
use Rattle.bench_world.specs.declared.event.EventError.{EventError}
use Rattle.bench_world.specs.declared.event.EventError.TheVariants.{FetcherIdle, Foreign}
use Rattle.bench_world.specs.declared.answering.Fed.{Fed}
use Rattle.bench_world.specs.declared.answering.Fed.TheVariants.{Kept}
use Rattle.bench_world.specs.Sizes.{size_of}
use Rattle.bench_world.specs.Worlds.{state_at}
use Rattle.bench_world.specs.Serving.{octets_response, holder_packet_response}

-- ---- claims

-- The part that the fetcher `f` of member `m` claims, if it claims one.
abbrev pub claim_in : List MemberState → ℕ → ℕ → Option Part
claim_in members m f = claim_of (member_plan (state_at members m)) f

-- How member `q` answers for a claim.
abbrev pub holder_response : GroupKeys → Logs → List MemberState → ℕ → Option Part → Response
holder_response g logs members q None = Nothing
holder_response g logs members q (Some t) = holder_packet_response g logs (keys (state_at members q).store) t

-- How octets from outside are read for a claim.
abbrev pub outside_response : GroupKeys → Logs → List ℕ → Option Part → Response
outside_response g logs octets None = Nothing
outside_response g logs octets (Some t) = octets_response g logs t octets

-- The member that is asked: another one, or the asker if there is no other.
abbrev pub lender_of : MemberState → Option MemberState → MemberState
lender_of asker None = asker
lender_of asker (Some other) = other

-- ---- what is reported

-- How an answer for a claim ends: with the number of octets that are kept, or none, or with an error. A fetcher that
-- claims nothing has the error `FetcherIdle`.
abbrev pub answered : GroupKeys → Logs → Option Part → Response → Result (Option ℕ) EventError
answered g logs None came = Err FetcherIdle
answered g logs (Some t) Nothing = Ok None
answered g logs (Some t) Its = Ok (Some (size_of g logs t))
answered g logs (Some t) Another = Err Foreign

-- The result of octets for a part, by the verdict on them.
abbrev pub fed_by : Result Data PartRefusal → Fed
fed_by (Ok d) = Kept
fed_by (Err refusal) = Fed.Refused refusal

-- The result of octets that are received for the part `t`: they are kept, or refused for a reason.
abbrev pub fed_as : GroupKeys → Logs → List ℕ → Part → Fed
fed_as g logs octets t = fed_by (ring_verdict (published_want g logs t) g.members.ring octets)

-- How many octets are kept, if they are.
abbrev pub kept_of : List ℕ → Fed → Option ℕ
kept_of octets Kept = Some (length octets)
kept_of octets (Fed.Refused refusal) = None

-- ---- what becomes of the member

-- The member after a response for the part `t`, which its fetcher `f` claims. It accepts only the publisher's packet.
abbrev pub accepts_claimed : GroupKeys → Logs → ℕ → Part → Response → MemberState → MemberState
accepts_claimed g logs f t Nothing a = a
accepts_claimed g logs f t Its a = member_accepts f t (unwrap_or (published_packet g logs t) []) a
accepts_claimed g logs f t Another a = a

-- The member after a response for the claim of its fetcher `f`, if that claims a part.
abbrev pub after_claimed : GroupKeys → Logs → ℕ → Option Part → Response → MemberState → MemberState
after_claimed g logs f None came a = a
after_claimed g logs f (Some t) came a = accepts_claimed g logs f t came a
