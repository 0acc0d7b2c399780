use Rattle.std.proofs.Common.{◌≡◌, ◌++◌, ◌≤◌, length, drop, map}
use Rattle.std.specs.List.{AllByRecursion}
use Rattle.ndn_name.specs.Names.{encoding}
use Rattle.ndn_name.specs.Uri.{name_of_parts}
use Rattle.ndn_name.specs.UriReading.{MayBeAppended, uri_part}
use Rattle.ndn_name.proofs.uri_read.name_of_parts.Given as goal

abbrev pub invariant-loop-part : goal.invariant-loop-part
invariant-loop-part l = record {
  so_far : l.name ++ name_of_parts (map uri_part (drop l.part-index l.parts)) ≡ name_of_parts (map uri_part l.parts);
  sound : AllByRecursion MayBeAppended (name_of_parts (map uri_part (drop l.part-index l.parts)));
  fits : length (encoding l.name) ≤ 1000;
}
