-- The digests that a publication's record and index packets list, as they are read in their packets.
use Rattle.std.specs.Prelude.{ℕ, ◌≡◌, ◌-◌, ◌*◌, ◌==◌, List, [], Option, Some, None, slice_get, unwrap_or}
use Rattle.std.specs.Prelude.{if◌then◌else◌}
use Rattle.std.specs.Option.{option_and_then}
use Rattle.sha2.specs.Sha256.{sha256}
use Rattle.repo_plan.specs.declared.shape.Shape.{Shape}
use Rattle.repo_plan.specs.Parts.{most_listed, parent_number}
use Rattle.repo_object.specs.Objects.{Post, Publisher, shape_in}
use Rattle.repo_object.specs.Publication.{RecordSays, packet_at}
use Rattle.repo_object.specs.Publication.RecordSays.{Lists, WithdrawsNumber}
use Rattle.repo_object.specs.Verdict.{index_in, stated_in}
use Rattle.repo_object.specs.Wants.{listed_in}

-- The digests that a record lists. The record of a withdrawal lists none.
abbrev pub digests_stated : Option RecordSays → List (List ℕ)
digests_stated (Some (Lists listed)) = listed.digests
digests_stated (Some (WithdrawsNumber seq)) = []
digests_stated None = []

-- The digests that part `x` lists, which is the record or an index packet.
abbrev pub listed_digests : Publisher → ℕ → Post → ℕ → List (List ℕ)
listed_digests by seq post x =
    if x == 0 then digests_stated (option_and_then stated_in (packet_at by seq post 0))
    else unwrap_or
    (option_and_then (λ octets. index_in octets (listed_in (shape_in post).segments (x - 1))) (packet_at by seq post x))
    []

-- Where the digest of part `x` stands in the part that lists it: the record lists the parts from the first on, each
-- index packet the next 200 segments.
abbrev pub place_listed : Shape → ℕ → ℕ
place_listed shape x =
    if parent_number shape x == 0 then x - 1
    else x - shape.index - 1 - (parent_number shape x - 1) * most_listed

-- The digest of these octets is listed for part `x`.
abbrev pub ListsDigest : Publisher → ℕ → Post → ℕ → List ℕ → Type 0
ListsDigest by seq post x octets =
    slice_get (listed_digests by seq post (parent_number (shape_in post) x)) (place_listed (shape_in post) x)
    ≡ Some (sha256 octets)
