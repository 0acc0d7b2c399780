-- What a capture keeps from line to line, as its definition has it.
use Rattle.std.specs.Prelude.{map}
use Rattle.std.specs.Option.{option_map}
use Rattle.repo_object.specs.declared.job.Job.{Job}
use Rattle.lab_capture.specs.declared.known.Claim.{Claim}
use Rattle.lab_capture.specs.declared.known.Fetch.{Fetch}
use Rattle.lab_capture.specs.declared.held.Holding.{Holding}
use Rattle.lab_capture.specs.declared.known.KnownBefore.{KnownBefore}
use Rattle.lab_capture.specs.Frames.{Asked, Claimed, Fetched, Holder, Known}

-- The `Claimed` of a `Claim` of the code.
abbrev pub claimed : Claim → Claimed
claimed c = record { asker = c.asker; asked = c.asked; part = c.part; interest = c.interest.items }

-- The part that a job of the code asks for, with its Interest.
abbrev pub asked_by : Job → Asked
asked_by j = record { part = j.want.part; interest = j.want.interest }

-- The `Fetched` of a `Fetch` of the code.
abbrev pub fetched : Fetch → Fetched
fetched f = record { asker = f.asker; parts = map asked_by f.jobs.items }

-- The `Holder` of a `Holding` of the code.
abbrev pub holder_of : Holding → Holder
holder_of h = record { member = h.member; held = h.held }

-- The `Known` of a `KnownBefore` of the code.
abbrev pub known_as : KnownBefore → Known
known_as k = record {
  sent = k.sent;
  claim = option_map claimed k.claim;
  fetch = option_map fetched k.fetch;
  holders = map holder_of k.holders.items;
  mirrors = map holder_of k.mirrors.items;
}
