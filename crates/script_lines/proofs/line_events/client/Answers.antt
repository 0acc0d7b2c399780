use Rattle.std.proofs.Common.{◌∙◌, ap}
use Rattle.std.specs.Prelude.{is_some}
use Rattle.script_story.proofs.Fitting.{place_of_known}
use Rattle.script_lines.proofs.line_events.client.Goals as goal

pub unwrap-requires : goal.unwrap-requires
unwrap-requires c =
    ap is_some (c.client.ensures.value ∙ place_of_known c.args.label.now c.args.words.now.clients c.requires)
