use Rattle.std.proofs.Common.{◌≡◌, ◌+◌, map, Some, Vec, Global}
use Rattle.lab_seeds.specs.declared.end.SeedEnd.{SeedEnd}
use Rattle.lab_seeds.specs.Endings.{AreEnds, HasEnd}
use Rattle.lab_seeds.specs.Reading.{lines_read}
use Rattle.lab_seeds.specs.ScriptRuns.{seed_run}
use Rattle.lab_seeds.proofs.SeedOutcomes.{each_ended, ends_there}
use Rattle.lab_seeds.proofs.RunEnds.{if_ok}
use Rattle.lab_seeds.proofs.running.ends_in.Goals as goal

pub returns-clause-ends : goal.returns-clause-ends
returns-clause-ends g c =
    let script_run = seed_run (lines_read c.args.script.now) in
    let first = c.args.first in
    let found = c.put_ends.new.room in
    if_ok (λ (ends : Vec SeedEnd Global). map (λ (e : SeedEnd). Some e) ends.items ≡ found)
    (λ (ends : Vec SeedEnd Global). AreEnds script_run first ends.items)
    (λ ends is. each_ended script_run first ends.items
    (ends_there ends.items found (λ k. HasEnd script_run (first + k)) is c.put_ends.ensures))
    c.all_there.result c.all_there.ensures
