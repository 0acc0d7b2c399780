use Rattle.std.proofs.Common.{◌≡◌, ◌++◌, length, eqb, None, Some, sym, ap, ◌∙◌}
use Rattle.std.specs.Cmp.{both_ways}
use Rattle.std.proofs.lemmas.Bool.{eqb-true, eq-eqb, false_from_ne_true}
use Rattle.std.proofs.lemmas.Bool.Decides.{Decides-eqb}
use Rattle.std.proofs.lemmas.List.{append_cancel_left}
use Rattle.std.proofs.lemmas.Slice.Eq.{strip_prefix_is}
use Rattle.ndn_name.specs.Names.{encoding}
use Rattle.repo_command.specs.Verbs.{between}
use Rattle.repo_command.proofs.NameLemmas.{is_of_node, has_digest}
use Rattle.repo_command.proofs.verb.is_command_name.Goals as goal

pub returns-in_default : goal.returns-in_default
returns-in_default c = sym (false_from_ne_true _ (λ yes.
    let d = has_digest c.args.node.now c.args.verb c.args.name.now c.octets.ensures.name yes in
    strip_prefix_is Decides-eqb c.octets.result.now c.octets-2.result.now None c.in_default.ensures.cases
    (between c.args.verb ++ d.digest)
    (c.octets.ensures.spelled ∙ d.octets
    ∙ ap (λ o. o ++ (between c.args.verb ++ d.digest)) (sym c.octets-2.ensures.spelled))))

pub returns-in-None : goal.returns-in-None
returns-in-None c = sym (false_from_ne_true _ (λ yes.
    let d = has_digest c.args.node.now c.args.verb c.args.name.now c.octets.ensures.name yes in
    let prefix =
    strip_prefix_is Decides-eqb c.octets.result.now c.octets-2.result.now (Some c.in-Some.after)
    c.in-Some.ensures.cases in
    let after =
    append_cancel_left (encoding c.args.node.now) c.in-Some.after.now (between c.args.verb ++ d.digest)
    (ap (λ o. o ++ c.in-Some.after.now) (sym c.octets-2.ensures.spelled) ∙ sym prefix ∙ c.octets.ensures.spelled
    ∙ d.octets) in
    strip_prefix_is Decides-eqb c.in-Some.after.now c.between.result.now None c.in-None.ensures.cases d.digest
    (after ∙ ap (λ o. o ++ d.digest) (sym c.between.ensures))))

pub returns-in-Some-strip_prefix : goal.returns-in-Some-strip_prefix
returns-in-Some-strip_prefix c =
    let node = c.args.node.now in
    let verb = c.args.verb in
    let name = c.args.name.now in
    let digest = c.in-Some-strip_prefix.digest.now in
    let prefix =
    strip_prefix_is Decides-eqb c.octets.result.now c.octets-2.result.now (Some c.in-Some.after)
    c.in-Some.ensures.cases in
    let after =
    strip_prefix_is Decides-eqb c.in-Some.after.now c.between.result.now (Some c.in-Some-strip_prefix.digest)
    c.in-Some-strip_prefix.ensures.cases in
    let whole : encoding name ≡ encoding node ++ (between verb ++ digest) =
    sym c.octets.ensures.spelled
    ∙ prefix
    ∙ ap (λ o. o ++ c.in-Some.after.now) c.octets-2.ensures.spelled
    ∙ ap (λ o. encoding node ++ o) (after ∙ ap (λ o. o ++ digest) c.between.ensures) in
    both_ways (eqb (length digest) 32) _
    (λ long. is_of_node node verb name digest c.octets-2.ensures.name c.octets.ensures.name whole
    (eqb-true (length digest) 32 long))
    (λ yes.
    let d = has_digest node verb name c.octets.ensures.name yes in
    let same =
    append_cancel_left (between verb) digest d.digest
    (append_cancel_left (encoding node) (between verb ++ digest) (between verb ++ d.digest) (sym whole ∙ d.octets)) in
    eq-eqb (length digest) 32 (ap length same ∙ d.long))
