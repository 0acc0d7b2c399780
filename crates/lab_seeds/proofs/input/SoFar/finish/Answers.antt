use Rattle.std.proofs.Common.{◌≡◌, ◌≢◌, [], List, ℕ, true, false, Ok, length, ap, sym, ◌∙◌}
use Rattle.std.proofs.lemmas.Bool.{eqb-true, eqb-false}
use Rattle.std.proofs.lemmas.List.{nil_from_length}
use Rattle.lab_seeds.specs.Inputs.{script_lines_are}
use Rattle.lab_seeds.specs.Reading.{octets_of}
use Rattle.lab_seeds.proofs.ScriptReading.{last_cut, last_none, last_taken}
use Rattle.lab_seeds.proofs.input.SoFar.finish.Goals as goal

pub returns-then-is_empty : goal.returns-then-is_empty
returns-then-is_empty c =
    let last = c.args.last.now in
    let none : last ≡ [] =
    nil_from_length last (eqb-true (length last) 0 (sym c.is_empty.ensures ∙ c.if-is_empty.true)) in
    c.whole.ensures ∙ last_none c.args.self.totals (octets_of c.args.self.lines.items) last none

pub returns-then-not-branch : goal.returns-then-not-branch
returns-then-not-branch c =
    let last = c.args.last.now in
    let some : last ≢ [] =
    λ e. eqb-false (length last) 0 (sym c.is_empty.ensures ∙ c.if-is_empty.false) (ap length e) in
    let test = c.if-not-branch.true in
    let was = c.in_ok-take.was in
    let beyond : c.take.result ≡ Ok false = cc in
    c.cut_off.ensures ∙ ap (λ (ls : List (List ℕ)). script_lines_are ls true) (c.take.ensures.same beyond)
    ∙ last_cut c.args.self.totals (octets_of c.args.self.lines.items) last c.requires.begun some
    (c.take.ensures.cut beyond)

pub returns : goal.returns
returns c =
    let last = c.args.last.now in
    let some : last ≢ [] =
    λ e. eqb-false (length last) 0 (sym c.is_empty.ensures ∙ c.if-is_empty.false) (ap length e) in
    let test = c.if-not-branch.false in
    let was = c.in_ok-take.was in
    let taken : c.take.result ≡ Ok true = cc in
    let takes = c.take.ensures.taken taken in
    c.whole-2.ensures ∙ ap (λ (ls : List (List ℕ)). script_lines_are ls false) takes.lines
    ∙ last_taken c.args.self.totals (octets_of c.args.self.lines.items) last c.requires.begun some takes.fits
