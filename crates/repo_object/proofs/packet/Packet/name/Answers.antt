use Rattle.std.proofs.Common.{sym, ap, ◌∙◌}
use Rattle.ndn_data.specs.Data.{data_seen}
use Rattle.repo_object.specs.Packets.{packet_name}
use Rattle.repo_object.specs.Forms.{octets_in}
use Rattle.repo_object.proofs.ReadNames.{name_of-read}
use Rattle.repo_object.proofs.packet.Packet.name.Goals as goal

pub returns-in-Own : goal.returns-in-Own
returns-in-Own c =
    let read = rw c.unwrap.ensures at c.read.ensures in
    c.octets.ensures.spelled
    ∙ sym (name_of-read c.deref.result.now (data_seen c.unwrap.result) read)
    ∙ ap packet_name (c.deref.ensures.value ∙ sym (ap octets_in c.in-Own.is) ∙ c.self.view_is)
