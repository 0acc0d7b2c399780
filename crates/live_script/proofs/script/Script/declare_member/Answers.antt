use Rattle.std.proofs.Common.{◌≡◌, ◌∙◌, ◌<◌, length, map, Option, Ok, sym, ap}
use Rattle.std.proofs.Common.{subst}
use Rattle.std.specs.Prelude.{is_some, string_bytes}
use Rattle.std.proofs.lemmas.List.{length-map}
use Rattle.script_lang.specs.Checking.{after_line, party_node}
use Rattle.script_lang.specs.Forms.{Stated, stated}
use Rattle.repo_member.specs.Groups.{GroupKeys}
use Rattle.live_script.specs.Evaluation.{Reached, may_stand, with_member_too}
use Rattle.live_script.specs.Scripts.{IsKept, group_keys, totals_view}
use Rattle.live_script.proofs.Declaring.{is_free, member_declares, member_kept, member_named, member_taken}
use Rattle.live_script.proofs.Declaring.{member_ungrouped}
use Rattle.live_script.proofs.Taking.{memory_wanted, nothing_taken, out_of_memory, stopped_by}
use Rattle.live_script.proofs.script.Script.declare_member.Goals as goal

pub returns-in_err-check-clause-taken : goal.returns-in_err-check-clause-taken
returns-in_err-check-clause-taken c = nothing_taken c.from_residual.result _ c.from_residual.ensures.0

pub returns-in_err-check-clause-stopped : goal.returns-in_err-check-clause-stopped
returns-in_err-check-clause-stopped c =
    stopped_by _ c.args.self (stated c.args.line.now) c.in_err-check.field-0.0 c.from_residual.result c.self.view_is
    (ap (λ (s : Stated). may_stand s.verb) c.requires.is) c.in_err-check.ensures.refused c.from_residual.ensures.1

pub returns-in_default-clause-stopped : goal.returns-in_default-clause-stopped
returns-in_default-clause-stopped c =
    member_ungrouped _ c.args.self (stated c.args.line.now) c.args.label.now c.args.node.now c.args.key.now
    c.self.view_is c.requires.is (c.self.invariant.there ∙ ap is_some c.in_default.is)

pub add_member-requires-clause-node : goal.add_member-requires-clause-node
add_member-requires-clause-node c =
    (member_named (stated c.args.line.now) c.args.label.now c.args.node.now c.args.key.now c.requires.line c.requires.is
    c.cite_soundness.ensures.name).0

pub add_member-requires-clause-key : goal.add_member-requires-clause-key
add_member-requires-clause-key c =
    (member_named (stated c.args.line.now) c.args.label.now c.args.node.now c.args.key.now c.requires.line c.requires.is
    c.cite_soundness.ensures.name).1

pub add_member-requires-clause-apart : goal.add_member-requires-clause-apart
add_member-requires-clause-apart c =
    let words = c.self.inside.draft.words in
    let declares = member_declares words c.check.new.self c.args.label.now c.args.node.now c.args.key.now
    (subst (λ (s : Stated). after_line words s ≡ Ok c.check.new.self) c.requires.is c.in_ok-check.ensures.ok) in
    is_free words c.in-Some.group c.args.label.now c.args.node.now
    (c.self.invariant.nodes ∙ ap (λ (o : Option GroupKeys). (group_keys o).members.names) c.in-Some.is)
    (ap (λ (o : Option GroupKeys). (group_keys o).clients) (sym c.in-Some.is) ∙ c.self.invariant.no_clients)
    declares.0.apart

pub add_member-requires-clause-few : goal.add_member-requires-clause-few
add_member-requires-clause-few c =
    let words = c.self.inside.draft.words in
    let declares = member_declares words c.check.new.self c.args.label.now c.args.node.now c.args.key.now
    (subst (λ (s : Stated). after_line words s ≡ Ok c.check.new.self) c.requires.is c.in_ok-check.ensures.ok) in
    subst (λ n. n < 16) (sym (length-map words.members party_node)
    ∙ ap length (c.self.invariant.nodes
    ∙ ap (λ (o : Option GroupKeys). (group_keys o).members.names) c.in-Some.is)) declares.0.few

pub returns-in_err-add_member-clause-taken : goal.returns-in_err-add_member-clause-taken
returns-in_err-add_member-clause-taken c =
    nothing_taken c.from_residual-in_err-add_member.result _ c.from_residual-in_err-add_member.ensures.0

pub returns-in_err-add_member-clause-stopped : goal.returns-in_err-add_member-clause-stopped
returns-in_err-add_member-clause-stopped c =
    memory_wanted c.args.self (stated c.args.line.now) c.from_residual-in_err-add_member.result
    c.in_err-add_member.field-0.0 c.in_err-add_member.ensures.err c.from_residual-in_err-add_member.ensures.1

pub returns-in_err-add_list-clause-taken : goal.returns-in_err-add_list-clause-taken
returns-in_err-add_list-clause-taken c =
    nothing_taken c.from_residual-in_err-add_list.result _ c.from_residual-in_err-add_list.ensures.0

pub returns-in_err-add_list-clause-stopped : goal.returns-in_err-add_list-clause-stopped
returns-in_err-add_list-clause-stopped c =
    out_of_memory c.args.self (stated c.args.line.now) c.from_residual-in_err-add_list.result
    c.from_residual-in_err-add_list.ensures.1

pub invariant_of-self : goal.invariant_of-self
invariant_of-self c =
    let words = c.self.inside.draft.words in
    let declares = member_declares words c.check.new.self c.args.label.now c.args.node.now c.args.key.now
    (subst (λ (s : Stated). after_line words s ≡ Ok c.check.new.self) c.requires.is c.in_ok-check.ensures.ok) in
    let group : c.add_member.new.group ≡ with_member_too c.args.node.now c.args.key.now c.in-Some.group =
    c.in_ok-add_member.ensures.ok in
    let kept = subst (λ (o : Option GroupKeys). IsKept (map string_bytes c.self.inside.draft.labels.items) o
    (totals_view c.self.inside.totals) (record {
      lines = c.self.inside.lines;
      octets = c.self.inside.octets;
      declared = words;
      keys = group_keys c.self.inside.draft.group;
      lists = map (λ l. l.items) c.self.inside.draft.lists.items;
    })) c.in-Some.is c.self.invariant in
    rw (c.in_ok-add_list.ensures.labels, c.in_ok-add_list.ensures.lists, group)
    (member_kept _ c.in-Some.group _ _ c.check.new.self c.args.label.now c.args.node.now c.args.key.now
    (ap group_keys c.in-Some.is) kept declares.1)

pub returns-clause-taken : goal.returns-clause-taken
returns-clause-taken c =
    member_taken _ c.args.self (stated c.args.line.now) c.check.new.self c.args.label.now c.args.node.now c.args.key.now
    c.add_member.new.group (map (λ l. l.items) c.add_list.new.lists.items) c.self.view_is c.requires.is
    c.in_ok-check.ensures.ok
    (c.in_ok-add_member.ensures.ok
    ∙ ap (with_member_too c.args.node.now c.args.key.now) (sym (ap group_keys c.in-Some.is)))
    c.in_ok-add_list.ensures.lists

pub returns-clause-same : goal.returns-clause-same
returns-clause-same c = (ap (λ (r : Reached). r.lines) c.self.view_is, ap (λ (r : Reached). r.octets) c.self.view_is)
