-- A mirror as a holder of parts.
use Rattle.std.specs.Prelude.{List, [], map}
use Rattle.repo_plan.specs.declared.part.Part.{Part}
use Rattle.repo_plan.specs.Parts.{part_of}
use Rattle.sorted_lists.specs.SortedList.{keys}
use Rattle.group_model.specs.Member.{insert_keys}
use Rattle.repo_mirror.specs.MirrorState.{MirrorState, mirror_holdings}
use Rattle.repo_mirror.specs.Passing.{mirror_takes}
use Rattle.repo_mirror.specs.ConsistentMirrors.{IsConsistentMirror}
use Rattle.bench_world.specs.declared.holder.Filtering.{Filtering}
use Rattle.bench_world.specs.Holders.{HolderPredicates}

-- The parts that the mirror stores, and the records that it passed over, in order.
abbrev pub mirror_held : MirrorState → List Part
mirror_held m = insert_keys (map (λ pair. part_of pair 0) m.passed) (keys m.store)

-- The mirror without the parts that it stores and the publications that it passed over.
abbrev pub mirror_rest : MirrorState → MirrorState
mirror_rest m = record m { store = []; passed = [] }

-- The functions by which contracts describe a holder, for mirrors.
abbrev pub state_words : HolderPredicates MirrorState
state_words = record {
  holdings = mirror_holdings;
  held = mirror_held;
  rest = mirror_rest;
  takes = mirror_takes;
  is_consistent = IsConsistentMirror;
}

-- The functions by which contracts describe a holder, for mirrors with a filter.
abbrev pub mirror_words : {X : Type 0} {f : _} → HolderPredicates (Filtering X f)
mirror_words = record {
  holdings = λ s. mirror_holdings s.mirror;
  held = λ s. mirror_held s.mirror;
  rest = λ s. record s { mirror = mirror_rest s.mirror };
  takes = λ xs s. record s { mirror = mirror_takes xs s.mirror };
  is_consistent = λ g logs s. IsConsistentMirror g logs s.mirror;
}
