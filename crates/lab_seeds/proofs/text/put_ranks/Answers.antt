use Rattle.std.proofs.Common.{◌≡◌, ◌≢◌, ◌<◌, ◌++◌, OnOk, length, string_bytes, List, ℕ, ◌∙◌, ap, arith, subst, sym}
use Rattle.std.proofs.lemmas.Bool.{eqb-false}
use Rattle.lab_seeds.specs.Texts.{ranks_lines, ranks_text}
use Rattle.lab_seeds.proofs.Medians.{some_ranks}
use Rattle.lab_seeds.proofs.text.put_ranks.Goals as goal

pub returns : goal.returns
returns c =
    let all = c.args.all.now in
    let ne : length all ≢ 0 = eqb-false (length all) 0 (sym c.is_empty.ensures ∙ c.if-is_empty.false) in
    let some : 0 < length all = omega arith in
    let text : ranks_lines c.in_ok-ranks.ranks ≡ ranks_text all =
    ap ranks_lines c.in_ok-ranks.ensures ∙ some_ranks all some in
    subst (λ (t : List ℕ). OnOk c.put_ranks_lines.result
    (string_bytes c.put_ranks_lines.new.text ≡ string_bytes c.args.text.now ++ t)) text c.put_ranks_lines.ensures
