-- Parts that are wanted, and the Interests that ask for them.
use Rattle.std.specs.Prelude.{◌≡◌, ◌≤◌, ◌<◌, ℕ, ◌+◌, ◌-◌, ◌*◌, false, min, IfSome, IsTrue, List, [], ◌++◌, length}
use Rattle.std.specs.Prelude.{drop, take, Option, Some, None, slice_get, Bool, if◌then◌else◌}
use Rattle.ndn_tlv.specs.Types as types
use Rattle.ndn_tlv.specs.Spelling.{head, element}
use Rattle.ndn_name.specs.Names.{Component, IsName, encoding, components, full_name}
use Rattle.ndn_interest.specs.WrittenInterest.{written_plain}
use Rattle.repo_plan.specs.declared.part.Part.{Part}
use Rattle.repo_plan.specs.declared.shape.Shape.{Shape}
use Rattle.repo_plan.specs.Parts.{most_listed}
use Rattle.repo_object.specs.NameParts.{IsSpelled}
use Rattle.repo_object.specs.Objects.{record_name, segment_name}
use Rattle.repo_object.specs.Publication.{Listed, is_indexed}

-- A want as contracts see it: the part, the name, for every part but a record the digest of its packet, for an index
-- packet the number of digests that it lists, and the octets of the Interest.
pub record WantedPart : Type 0 where
  pub part : Part
  pub name : List Component
  pub digest : Option (List ℕ)
  pub lists : Option ℕ
  pub interest : List ℕ

-- The name that is asked for: the full name, where the digest is known.
abbrev pub asked_name : List Component → Option (List ℕ) → List Component
asked_name name None = name
asked_name name (Some digest) = full_name name digest

-- The want of a packet of this name and, if it is known, of this digest. Its Interest asks for just that.
abbrev pub wanted_part : Part → List Component → Option (List ℕ) → Option ℕ → WantedPart
wanted_part part name digest lists =
    record {
      part = part;
      name = name;
      digest = digest;
      lists = lists;
      interest = written_plain (asked_name name digest) false;
    }

-- The want of a publication's record, which is asked for by its name.
abbrev pub want_record : Part → List Component → List Component → WantedPart
want_record part node group = wanted_part part (record_name node group part.seq) None None

-- How many of an object's `segments` segments index packet `k`, counted from 0, lists.
abbrev pub listed_in : ℕ → ℕ → ℕ
listed_in segments k = min most_listed (segments - k * most_listed)

-- The part is one of the index packets that the publication's record lists.
pub record IsListedIndex (part : Part) (l : Listed) : Type 0 where
  pub indexed : IsTrue (is_indexed l.segments)
  pub after_record : 0 < part.part
  pub listed : part.part ≤ length l.digests

-- The want of an index packet that the publication's record lists, which is asked for by its full name.
abbrev pub want_index : Part → Listed → List Component → List Component → WantedPart
want_index part l node group =
    wanted_part part (segment_name (record_name node group part.seq) (part.part - 1))
    (slice_get l.digests (part.part - 1)) (Some (listed_in l.segments (part.part - 1)))

-- The want of a segment of an object of this name, whose publication has this shape, by the digest that its record or
-- index packet lists: it is asked for by its full name.
abbrev pub want_segment : Part → Shape → List Component → List ℕ → WantedPart
want_segment part shape name digest =
    wanted_part part (segment_name name (part.part - shape.index - 1)) (Some digest) None

-- ---- wants as they are kept

-- How an Interest begins that asks for a name of `asked` octets and says nothing else.
abbrev pub interest_prefix : ℕ → List ℕ
interest_prefix asked = head types.Interest (length (head types.Name asked) + asked) ++ head types.Name asked

-- The octets of the component that a known digest adds to a name, and no octets for None.
abbrev pub digest_component : Option (List ℕ) → List ℕ
digest_component None = []
digest_component (Some digest) = element types.ImplicitSha256DigestComponent digest

-- The octets of the Interest from `start` to `end`, which are those of the packet's name.
abbrev pub name_between : List ℕ → ℕ → ℕ → List ℕ
name_between interest start end = drop start (take end interest)

-- The digest that ends the Interest if `has_digest`. Two octets of its component stand between the name and the digest.
abbrev pub digest_after : List ℕ → ℕ → Bool → Option (List ℕ)
digest_after interest end has_digest = if has_digest then Some (drop (end + 2) interest) else None

-- A want can be made of a name of these octets and of `digest`, if it is known: they are within the limits.
pub record IsExpected (octets : List ℕ) (digest : Option (List ℕ)) : Type 0 where
  pub spelled : IsSpelled octets
  pub short : length octets ≤ 900
  pub long : IfSome digest (λ d. length d ≡ 32)

-- The Interest asks for the name that stands in it from `start` to `end` and, if `has_digest`, for the digest after it.
pub record WantIsWritten (interest : List ℕ) (start end : ℕ) (has_digest : Bool) : Type 0 where
  pub name : IsName (components (name_between interest start end))
  pub spelled : name_between interest start end ≡ encoding (components (name_between interest start end))
  pub digest : IfSome (digest_after interest end has_digest) (λ digest. length digest ≡ 32)
  pub written : interest ≡ written_plain
      (asked_name (components (name_between interest start end)) (digest_after interest end has_digest)) false
  pub short : length (name_between interest start end) ≤ 900
  pub in_order : start ≤ end
  pub within : end ≤ length interest
