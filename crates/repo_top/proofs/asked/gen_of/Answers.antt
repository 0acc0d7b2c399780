use Rattle.std.proofs.Common.{◌≢◌, length, map, string_bytes, sym, arith}
use Rattle.std.proofs.lemmas.List.{length-map}
use Rattle.repo_top.proofs.Scripts.{no_script}
use Rattle.repo_top.proofs.asked.gen_of.Goals as goal

pub returns-in_default-clause-value : goal.returns-in_default-clause-value
returns-in_default-clause-value c =
    let words = map string_bytes c.args.words.now in
    let other : length words ≢ 4 = λ four. omega (
      arith,
      four,
      length-map c.args.words.now string_bytes,
      c.in_default.len_below,
    ) in
    sym (no_script words other)

pub returns-in_default-3-clause-value : goal.returns-in_default-3-clause-value
returns-in_default-3-clause-value c =
    let words = map string_bytes c.args.words.now in
    let other : length words ≢ 4 = λ four. omega (
      arith,
      four,
      length-map c.args.words.now string_bytes,
      c.in_default.len_at_least,
    ) in
    sym (no_script words other)
