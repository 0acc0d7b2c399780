use Rattle.std.proofs.Common.{◌∙◌, ◌++◌, ℕ, List, ap, map, sym}
use Rattle.std.specs.String.{string_bytes}
use Rattle.bench_world.specs.Worlds.{world_of}
use Rattle.script_story.specs.Mirrors.{mirrored_entries}
use Rattle.script_story.specs.ReportTexts.{listing_text}
use Rattle.script_lines.proofs.MirrorWorlds.{at_as}
use Rattle.script_lines.proofs.run_state.mirroring.list.Goals as goal

pub returns-clause-report : goal.returns-clause-report
returns-clause-report c =
    let labels : List (List ℕ) = map string_bytes c.args.labels.now in
    c.in_ok-put_mirrored.ensures
    ∙ ap (λ (text : List ℕ). text ++ listing_text labels c.args.label.now c.entries.result.now) c.requires.empty
    ∙ ap (listing_text labels c.args.label.now)
    (c.entries.ensures.entries ∙ c.mirror_catalogue.ensures.lists
    ∙ ap (mirrored_entries (world_of c.args.world.now))
    (sym (at_as c.args.world.now.mirrors c.args.i c.requires.there)))
