use Rattle.std.proofs.Common.{◌∙◌, ◌++◌, None, List, ap}
use Rattle.std.specs.List.{filter}
use Rattle.repo_plan.specs.declared.part.Part.{Part}
use Rattle.repo_plan.specs.Plan.{is_after}
use Rattle.repo_plan.proofs.Scans.{after_none}
use Rattle.lab_capture.proofs.HeldLists.{fewer_left, next_small, passed_one}
use Rattle.lab_capture.proofs.held.HeldParts.of.Goals as goal

pub loop-part-init : goal.loop-part-init
loop-part-init g c = record {
  all = ap (λ (ts : List Part). ts ++ filter (is_after None) g.held) c.new-parts.ensures.items ∙ after_none g.held;
  small = tt;
}

pub loop-part-smaller : goal.loop-part-smaller
loop-part-smaller g c =
    fewer_left (g.H.HasParts.has c.args.holder.now) g.held c.requires.1 c.loop-part.last c.in-Some.part
    c.in-Some.ensures

pub loop-part-preserved : goal.loop-part-preserved
loop-part-preserved g c =
    let has = g.H.HasParts.has c.args.holder.now in
    record {
      all = passed_one has g.held c.requires.1 c.loop-part.last c.in-Some.part c.in-Some.ensures
          c.loop-part.parts.items c.push.new.self.items c.loop-part.invariant.all c.in_ok-push.ensures.items;
      small = next_small has g.held c.requires.1 c.loop-part.last c.in-Some.part c.in-Some.ensures;
    }
