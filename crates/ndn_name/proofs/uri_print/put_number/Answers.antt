use Rattle.ndn_name.proofs.Appends.{prefix-kept}
use Rattle.ndn_name.proofs.uri_print.put_number.Goals as goal

pub returns-clause-prefix : goal.returns-clause-prefix
returns-clause-prefix c =
    prefix-kept c.args.out.now.items c.as_bytes.result.now c.extend_from_slice.new.self.items
    c.put_decimal.new.out.items c.in_ok-extend_from_slice.ensures.items c.put_decimal.ensures.prefix
