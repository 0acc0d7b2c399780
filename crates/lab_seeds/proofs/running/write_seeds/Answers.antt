use Rattle.std.proofs.Common.{◌≡◌, ◌++◌, ◌<◌, ℕ, List, length, take, string_bytes, ap, sym, subst, ◌∙◌}
use Rattle.std.specs.List.{flat_map}
use Rattle.sorted_lists.specs.Range.{numbers_from}
use Rattle.repo_io.specs.Outside.{GainsText, HasRisen}
use Rattle.lab_seeds.specs.declared.end.SeedEnd.{SeedEnd}
use Rattle.lab_seeds.specs.Ends.{end_figures, ends_text}
use Rattle.lab_seeds.specs.Reading.{lines_read}
use Rattle.lab_seeds.specs.Seeding.{WritesSeeds, ends_status, outcome_over}
use Rattle.lab_seeds.specs.ScriptRuns.{seed_run}
use Rattle.lab_seeds.specs.Texts.{ranks_text}
use Rattle.lab_seeds.proofs.SeedOutcomes.{fell_short, status_is, text_is, written}
use Rattle.lab_seeds.proofs.running.write_seeds.Goals as goal

pub returns-in-Ok-write_whole : goal.returns-in-Ok-write_whole
returns-in-Ok-write_whole g c =
    let script_run = seed_run (lines_read c.args.script.now) in
    let first = c.args.first in
    let count = c.args.count in
    let it = outcome_over script_run (numbers_from first count) in
    let a = g.K.Sink.out c.args.sink.now in
    let b = g.K.Sink.out c.write_whole.new.sink in
    let Failed : Type 0 = HasRisen (g.K.Sink.faults c.args.sink.now) (g.K.Sink.faults c.write_whole.new.sink) in
    let ends = c.in-Ok.ends.items in
    let are = c.in-Ok.ensures.ends in
    let len = c.in-Ok.ensures.count in
    let text = string_bytes c.in-Ok-text_of.text in
    let is : text ≡ it.text =
    c.in-Ok-text_of.ensures
    ∙ ap (λ (es : List SeedEnd). ends_text first es ++ ranks_text (flat_map end_figures es)) c.deref.ensures.value
    ∙ text_is script_run first count ends are len in
    let gained : GainsText a b text =
    subst (GainsText a b) c.as_bytes.ensures.value c.in-Ok-write_whole.ensures.whole in
    let status = c.status_of.ensures ∙ ap ends_status c.deref-in-Ok-write_whole.ensures.value in
    subst (WritesSeeds it a b Failed) (sym status)
    (written it a Failed b text is ends (status_is script_run first count ends are len) gained)

pub returns : goal.returns
returns g c =
    let script_run = seed_run (lines_read c.args.script.now) in
    let first = c.args.first in
    let count = c.args.count in
    let it = outcome_over script_run (numbers_from first count) in
    let a = g.K.Sink.out c.args.sink.now in
    let b = g.K.Sink.out c.write_whole.new.sink in
    let Failed : Type 0 = HasRisen (g.K.Sink.faults c.args.sink.now) (g.K.Sink.faults c.write_whole.new.sink) in
    let ends = c.in-Ok.ends.items in
    let text = string_bytes c.in-Ok-text_of.text in
    let is : text ≡ it.text =
    c.in-Ok-text_of.ensures
    ∙ ap (λ (es : List SeedEnd). ends_text first es ++ ranks_text (flat_map end_figures es)) c.deref.ensures.value
    ∙ text_is script_run first count ends c.in-Ok.ensures.ends c.in-Ok.ensures.count in
    let n = c.in-Err.field-0.written in
    let value = c.as_bytes.ensures.value in
    fell_short it a Failed b text is n (subst (λ (t : List ℕ). n < length t) value c.in-Err.ensures.missing)
    (subst (λ (t : List ℕ). GainsText a b (take n t)) value c.in-Err.ensures.prefix) c.in-Err.ensures.risen
