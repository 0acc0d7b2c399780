use Rattle.std.proofs.Common.{refl}
use Rattle.ndn_tlv.specs.Spelling.{number}
use Rattle.ndn_tlv.specs.Listing.{gather}
use Rattle.ndn_tlv.specs.Elements.{number_at, type_at, element_at, elements_within, elements}
use Rattle.ndn_tlv.specs.OrderTable.{place_of, fields_among}
use Rattle.ndn_name.specs.Names.{encoding}
use Rattle.repo_object.specs.Records.{digests_among}
use Rattle.repo_object.proofs.laws.records_are_read_so.Goals as goal

pub returns : goal.returns
unfolding gather place_of fields_among number_at type_at element_at elements_within elements number encoding
    digests_among
returns c = record {
  withdrawal = refl;
  withdrawn = refl;
  of_none = refl;
  one = refl;
  many = refl;
  both = refl;
  both_ways = refl;
  nothing = refl;
}
