use Rattle.std.proofs.Common.{sym, arith}
use Rattle.ndn_packet.proofs.Lengths.{length-digest_element}
use Rattle.repo_object.proofs.want.digest_len.Goals as goal

pub returns-in-Some-clause-exact : goal.returns-in-Some-clause-exact
returns-in-Some-clause-exact c =
    let long = rw c.in-Some.is at c.requires in
    rw c.in-Some.is (sym (length-digest_element 0x01 c.in-Some.field-0.now (omega arith) long))
