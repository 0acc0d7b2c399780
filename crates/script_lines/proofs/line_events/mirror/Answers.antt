use Rattle.std.proofs.Common.{◌∙◌, ap}
use Rattle.std.specs.Prelude.{is_some}
use Rattle.script_story.proofs.Fitting.{mirror_placed}
use Rattle.script_lines.proofs.line_events.mirror.Goals as goal

pub unwrap-requires : goal.unwrap-requires
unwrap-requires c =
    ap is_some (c.mirror.ensures.value ∙ mirror_placed c.args.label.now c.args.words.now.mirrors c.requires)
