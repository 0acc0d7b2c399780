use Rattle.std.proofs.Common.{◌≡◌, List, ℕ, true, false, Ok, take, ap, sym, subst, ◌∙◌, arith}
use Rattle.script_lines.specs.Reading.{HasLine, IsNext}
use Rattle.lab_seeds.specs.Inputs.{fits, script_lines_are}
use Rattle.lab_seeds.specs.Reading.{Known, Takes, lines_read, octets_of}
use Rattle.lab_seeds.proofs.ScriptReading.{Reads, known_cut, known_read, known_taken}
use Rattle.lab_seeds.proofs.input.read_lines.Goals as goal

pub returns-then-not-branch-clause-read : goal.returns-then-not-branch-clause-read
returns-then-not-branch-clause-read g c =
    let held = c.next.new.self in
    let so = c.loop-so_far.so_far in
    let a = g.S.Source.left c.args.source.now in
    let b = g.S.Source.left c.next.new.source in
    let read = known_read c.loop-so_far.reader held (octets_of so.lines.items) so.totals a
    (g.S.Source.left c.loop-so_far.source) b c.in_ok-count.ensures.kept c.loop-so_far.invariant.so_far in
    let count = c.in-Line.count in
    let h : HasLine count held = subst (IsNext held) c.in-Line.is c.in_ok-count.ensures.next in
    let test = c.if-not-branch.true in
    let was = c.in_ok-take-in-Line.was in
    let result : c.take.result ≡ Ok false = cc in
    let beyond : fits so.totals (take count held) ≡ false =
    subst (λ (l : List ℕ). fits so.totals l ≡ false) c.prefix.ensures (c.take.ensures.cut result) in
    let is : lines_read c.cut_off.result ≡ script_lines_are (octets_of so.lines.items) true =
    c.cut_off.ensures ∙ ap (λ (ls : List (List ℕ)). script_lines_are ls true) (c.take.ensures.same result) in
    known_cut held a b count h (octets_of so.lines.items) so.totals c.cut_off.result beyond is read

pub loop-so_far-preserved : goal.loop-so_far-preserved
loop-so_far-preserved g c =
    let held = c.next.new.self in
    let so = c.loop-so_far.so_far in
    let new = c.take.new.self in
    let a = g.S.Source.left c.args.source.now in
    let b = g.S.Source.left c.next.new.source in
    let read = known_read c.loop-so_far.reader held (octets_of so.lines.items) so.totals a
    (g.S.Source.left c.loop-so_far.source) b c.in_ok-count.ensures.kept c.loop-so_far.invariant.so_far in
    let count = c.in-Line.count in
    let h : HasLine count held = subst (IsNext held) c.in-Line.is c.in_ok-count.ensures.next in
    let test = c.if-not-branch.false in
    let was = c.in_ok-take-in-Line.was in
    let result : c.take.result ≡ Ok true = cc in
    let takes : Takes so (take count held) new =
    subst (λ (l : List ℕ). Takes so l new) c.prefix.ensures (c.take.ensures.taken result) in
    let line = known_taken held a b count h so new takes read in
    record {
      so_far = subst (λ (left : List ℕ). Known a b (Reads left (octets_of new.lines.items) new.totals))
          (sym c.pass.ensures) line;
      within = c.take.ensures.within;
      source = omega (arith, c.loop-so_far.invariant.source, c.in_ok-count.ensures.faults);
    }
