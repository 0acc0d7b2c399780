use Rattle.std.proofs.Common.{◌≤◌, arith}
use Rattle.ndn_name.proofs.SizeLemmas.{head-short, head-narrow}
use Rattle.ndn_name.proofs.uri_size.tail_shape.Goals as goal

pub returns-in_ok-digest_len-in-Digest-clause-small : goal.returns-in_ok-digest_len-in-Digest-clause-small
returns-in_ok-digest_len-in-Digest-clause-small c =
    let len = c.in_ok-digest_len-in-Digest.field-0 in
    omega (arith, head-short c.in-Digest.typ len (omega arith), c.in_ok-digest_len-in-Digest.ensures.small)

pub returns-in_ok-number_len-in-Number-clause-small : goal.returns-in_ok-number_len-in-Number-clause-small
returns-in_ok-number_len-in-Number-clause-small c =
    let len = c.in_ok-number_len-in-Number.field-0 in
    let narrow : len ≤ 8 = c.in_ok-number_len-in-Number.ensures.narrow in
    let head = head-narrow c.in-Number.typ len (omega arith) (omega (arith, narrow)) in
    omega (arith, head, c.in_ok-number_len-in-Number.ensures.small)

pub returns-in_ok-value_len-in-Escaped-clause-small : goal.returns-in_ok-value_len-in-Escaped-clause-small
returns-in_ok-value_len-in-Escaped-clause-small c =
    let len = c.in_ok-value_len-in-Escaped.field-0 in
    omega (arith, head-short c.in-Escaped.typ len (omega arith), c.in_ok-value_len-in-Escaped.ensures.small)
