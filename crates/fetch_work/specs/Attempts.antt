-- What is received in an attempt at a job.
use Rattle.std.specs.Prelude.{ℕ, ◌+◌, ◌<◌, List, [], slice_index_or, Option, Some, None, Result, Ok, Err}
use Rattle.ndn_data.specs.Data.{Data}
use Rattle.ndn_sign.specs.Ring.{NamedKey}
use Rattle.repo_object.specs.declared.job.Job.{Job}
use Rattle.repo_object.specs.declared.part_refusal.PartRefusal.{PartRefusal}
use Rattle.repo_object.specs.Wants.{WantedPart}
use Rattle.repo_object.specs.Verdict.{CheckedPart, ring_verdict, checked_part}
use Rattle.fetch_work.specs.declared.link.Lending.{Lending}
use Rattle.fetch_work.specs.declared.link.Lending.TheVariants as lent
use Rattle.fetch_work.specs.declared.link.Reply.{Reply}
use Rattle.fetch_work.specs.declared.link.Reply.TheVariants.{Lost, Came}

-- The octets that were received.
abbrev pub reply_octets : Reply → Option (List ℕ)
reply_octets Lost = None
reply_octets (Came octets) = Some octets.now

-- The octets that were lent.
abbrev pub octets_lent : Lending → Option (List ℕ)
octets_lent lent.Lost = None
octets_lent (lent.Octets octets) = Some octets.now
octets_lent (lent.Packet packet) = Some packet.now

-- The part, where the verdict on its octets is that they pass.
abbrev pub if_passed : Result Data PartRefusal → CheckedPart → Option CheckedPart
if_passed (Ok d) part = Some part
if_passed (Err refusal) part = None

-- The part, where octets were received that pass for the want under the key that the ring has for its publisher.
abbrev pub checked_reply : WantedPart → List NamedKey → Option (List ℕ) → Option CheckedPart
checked_reply want ring None = None
checked_reply want ring (Some octets) = if_passed (ring_verdict want ring octets) (checked_part want ring octets)

-- The part that is received in an attempt at the job, after `before` other attempts in the same phase, where the link
-- answers as `answer` says. The link is given the attempt's number, counted over all phases: `base` attempts were made
-- in earlier ones.
abbrev pub packet_at : (WantedPart → ℕ → Option (List ℕ)) → List NamedKey → Job → ℕ → Option CheckedPart
packet_at answer ring job before = checked_reply job.want ring (answer job.want (job.base + before + 1))

-- The value under a number that no job has.
abbrev pub no_job : Job
no_job =
    record {
      want = record {
        part = record { publisher = 0; seq = 0; part = 0 };
        name = [];
        digest = None;
        lists = None;
        interest = [];
      };
      base = 0;
    }

-- The job of this number, from 0 on.
abbrev pub job_at : List Job → ℕ → Job
job_at jobs i = slice_index_or jobs i no_job

-- The job can be tried `tries` times: its publisher is in the ring, and its attempts are numbers below 2^21.
pub record CanBeTried (ring_length tries : ℕ) (job : Job) : Type 0 where
  pub known : job.want.part.publisher < ring_length
  pub few : job.base + tries < 2097152
