use Rattle.std.proofs.Common.{◌<◌, get_or, arith}
use Rattle.script_lang.proofs.Numerals.{is_short}
use Rattle.repo_top.proofs.Numerals.{small_power, ten_times, digit_is, digit_bounds, value_more}
use Rattle.repo_top.proofs.words.value_of.Goals as goal

pub overflow_mul-value : goal.overflow_mul-value
overflow_mul-value c =
    let short = is_short c.args.numeral.now c.requires in
    let i = c.loop-digit.digit-index in
    let within : i < 18 = omega (arith, short) in
    let small = small_power i within in
    omega (arith, c.loop-digit.invariant.bound, small)

pub overflow_add-value : goal.overflow_add-value
overflow_add-value c =
    let short = is_short c.args.numeral.now c.requires in
    let i = c.loop-digit.digit-index in
    let within : i < 18 = omega (arith, short) in
    let small = small_power i within in
    let digit = digit_bounds (get_or c.args.numeral.now i 0)
    (digit_is c.args.numeral.now i c.requires c.loop-digit-test.true) in
    omega (arith, c.loop-digit.invariant.bound, small, digit.1, c.from.ensures)

pub loop-digit-preserved : goal.loop-digit-preserved
loop-digit-preserved c =
    let i = c.loop-digit.digit-index in
    let is = digit_is c.args.numeral.now i c.requires c.loop-digit-test.true in
    let digit = digit_bounds (get_or c.args.numeral.now i 0) is in
    let more = value_more c.args.numeral.now i c.loop-digit-test.true is in
    let ten = ten_times i in
    record {
      value = omega (arith, more, c.loop-digit.invariant.value, c.from.ensures);
      bound = omega (arith, ten, c.loop-digit.invariant.bound, digit.1, c.from.ensures);
    }
