use Rattle.std.proofs.Common.{rules, ◌≡◌, ◌∙◌, ap, length, map, sym}
use Rattle.repo_member.specs.Groups.{GroupKeys}
use Rattle.script_lines.specs.declared.run_state.Phase.{Phase}
use Rattle.script_story.specs.Mirrors.{mirror_begins}
use Rattle.script_story.specs.Evaluation.{mirrors_begin, with_member_too}
use Rattle.script_lines.specs.RunStates.{mirrors_in, phase_keys}
use Rattle.script_lines.proofs.MirrorWorlds.{begin_again}
use Rattle.script_lines.proofs.run_state.Phase.add_member.Goals as goal

added : (c : goal.In_ok-map_err)
    → c.add_member.new.self ≡ with_member_too c.args.node.now c.args.key.now c.in-Declaring.group
added c = search rules

pub returns-clause-mirrors : goal.returns-clause-mirrors
returns-clause-mirrors c =
    let keys : GroupKeys = with_member_too c.args.node.now c.args.key.now c.in-Declaring.group in
    ap (λ (k : GroupKeys). map (mirror_begins (length k.members.names)) c.in-Declaring.field-1.items) (added c)
    ∙ begin_again (length c.in-Declaring.group.members.names) (length keys.members.names) c.in-Declaring.field-1.items
    ∙ ap (λ (s : Phase). mirrors_begin (with_member_too c.args.node.now c.args.key.now (phase_keys s))
    (mirrors_in s)) (sym c.in-Declaring.is)
