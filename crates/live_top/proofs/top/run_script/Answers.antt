use Rattle.std.proofs.Common.{◌∙◌, ℕ, List, Option, map, string_bytes, sym, ap, subst}
use Rattle.std.proofs.Common.{Vec}
use Rattle.std.specs.Prelude.{⊤}
use Rattle.std.specs.Global.{Global}
use Rattle.live_member.specs.Meanings.{Meaning}
use Rattle.live_settle.specs.declared.ran.Ran.{Ran}
use Rattle.live_settle.specs.Rans.{AreRans}
use Rattle.repo_io.specs.declared.status.Status.TheVariants as status
use Rattle.repo_io.specs.Outside.{GainsPrefix, GainsText}
use Rattle.repo_io.proofs.Outputs.{prefix_taken}
use Rattle.live_top.specs.Answers.{HaveActed, Runs, RunsTo}
use Rattle.live_top.specs.Journals.{live_text}
use Rattle.live_top.proofs.Running.{nobody_ran, same_meaning, within_limits}
use Rattle.live_top.proofs.top.run_script.Goals as goal

pub returns-in_default-clause-ran : goal.returns-in_default-clause-ran
returns-in_default-clause-ran g c =
    let a = g.K.Sink.out c.args.sink.now in
    let draw = g.D.Draws.draw c.args.draws.now in
    subst (RunsTo draw c.args.script a a) (sym c.new.ensures.items)
    (nobody_ran draw c.args.script a c.in_default.ensures.none)

pub run_members-requires-clause-within : goal.run_members-requires-clause-within
run_members-requires-clause-within g c κs few =
    within_limits (g.D.Draws.draw c.args.draws.now) c.args.script c.in-Some.members c.in-Some.ensures.some

pub returns-in-Ok-write_whole-clause-ran : goal.returns-in-Ok-write_whole-clause-ran
returns-in-Ok-write_whole-clause-ran g c =
    let a = g.K.Sink.out c.args.sink.now in
    let b = g.K.Sink.out c.write_whole.new.sink in
    let same = same_meaning (g.D.Draws.draw c.args.draws.now) c.args.script c.in-Some.members c.in-Some.ensures.some in
    let labels = ap (map string_bytes) c.deref.ensures.value ∙ c.in-Some.ensures.some.labels in
    let text = c.deref-3.ensures.value ∙ c.in-Ok-live_text.ensures
    ∙ (λ i. live_text (labels i) (c.deref-2.ensures.value i)) in
    record {
      ran = subst (λ (t : Meaning). AreRans t c.in-Ok.rans.items) same c.in-Ok.ensures.ran;
      acted = subst (λ (t : Meaning). HaveActed t c.in-Ok.rans.items) same c.in-Ok.ensures.acted;
      text = subst (GainsText a b) text c.in-Ok-write_whole.ensures.whole;
    }

pub returns-clause-ran : goal.returns-clause-ran
returns-clause-ran g c =
    let a = g.K.Sink.out c.args.sink.now in
    let b = g.K.Sink.out c.write_whole.new.sink in
    let draw = g.D.Draws.draw c.args.draws.now in
    let same = same_meaning draw c.args.script c.in-Some.members c.in-Some.ensures.some in
    let labels = ap (map string_bytes) c.deref.ensures.value ∙ c.in-Some.ensures.some.labels in
    let text = c.deref-3.ensures.value ∙ c.in-Ok-live_text.ensures
    ∙ (λ i. live_text (labels i) (c.deref-2.ensures.value i)) in
    let prefix : List ℕ → Type 0 = λ t. GainsPrefix a b t ⊤ in
    subst (λ (end : Option (Vec Ran Global)). Runs draw c.args.script a b end status.WriteFault) (sym c.requires)
    (record {
      text = c.deref-3.result.now;
      may = record {
        rans = c.in-Ok.rans.items;
        ran = subst (λ (t : Meaning). AreRans t c.in-Ok.rans.items) same c.in-Ok.ensures.ran;
        is = text;
      };
      prefix = prefix_taken a b c.in-Err.field-0.written c.deref-3.result.now c.in-Err.ensures.missing
          c.in-Err.ensures.prefix;
    })
