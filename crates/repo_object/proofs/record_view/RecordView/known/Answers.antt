use Rattle.std.proofs.Common.{arith}
use Rattle.repo_object.specs.Readers.{remaining_digests}
use Rattle.repo_object.proofs.RecordLemmas.{listing_read}
use Rattle.repo_object.proofs.record_view.RecordView.known.Goals as goal

pub new-requires-in-Lists : goal.new-requires-in-Lists
new-requires-in-Lists c =
    let read = rw c.in-Lists.ensures at c.new.ensures.read in
    listing_read c.args.content.now c.in-Lists.name c.in-Lists.segments c.known-digests.result
    (remaining_digests c.in-Lists.digests) (λ i. omega (arith, c.type_inv.content i)) (omega arith) read
    c.known-digests.ensures
