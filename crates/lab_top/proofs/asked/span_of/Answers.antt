use Rattle.std.proofs.Common.{◌≢◌, length, map, string_bytes, sym, arith}
use Rattle.std.proofs.lemmas.List.{length-map}
use Rattle.lab_top.proofs.Spans.{no_span}
use Rattle.lab_top.proofs.asked.span_of.Goals as goal

pub returns-in_default-clause-value : goal.returns-in_default-clause-value
returns-in_default-clause-value c =
    let words = map string_bytes c.args.words.now in
    let other : length words ≢ 3 = λ three. omega (
      arith,
      three,
      length-map c.args.words.now string_bytes,
      c.in_default.len_below,
    ) in
    sym (no_span words other)

pub returns-in_default-2-clause-value : goal.returns-in_default-2-clause-value
returns-in_default-2-clause-value c =
    let words = map string_bytes c.args.words.now in
    let other : length words ≢ 3 = λ three. omega (
      arith,
      three,
      length-map c.args.words.now string_bytes,
      c.in_default.len_at_least,
    ) in
    sym (no_span words other)
