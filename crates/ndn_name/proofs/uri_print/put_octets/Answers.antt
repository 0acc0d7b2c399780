use Rattle.std.proofs.Common.{take}
use Rattle.std.specs.List.{flat_map}
use Rattle.ndn_name.specs.Uri.{escape_of}
use Rattle.ndn_name.proofs.Appends.{prefix-kept}
use Rattle.ndn_name.proofs.uri_print.put_octets.Goals as goal

pub returns-in_err-put_octet-clause-prefix : goal.returns-in_err-put_octet-clause-prefix
returns-in_err-put_octet-clause-prefix c =
    let loop = c.loop-octet in
    let text = flat_map escape_of (take loop.octet-index c.args.octets.now) in
    prefix-kept c.args.out.now.items text loop.out.items c.put_octet.new.out.items loop.invariant
    c.put_octet.ensures.prefix
