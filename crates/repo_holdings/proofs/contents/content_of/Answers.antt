use Rattle.std.proofs.Common.{length, sym, ap, ◌∙◌, List, ℕ, arith}
use Rattle.repo_object.specs.Packets.{packet_content}
use Rattle.repo_holdings.proofs.ContentLemmas.{content_of_read, content_of_unread, content_short}
use Rattle.repo_holdings.proofs.contents.content_of.Goals as goal

pub returns-in-Ok-clause-exact : goal.returns-in-Ok-clause-exact
returns-in-Ok-clause-exact c =
    sym (content_of_read c.octets.result.now _ c.in-Ok.ensures) ∙ ap packet_content c.octets.ensures.same

pub returns-in-Err-clause-exact : goal.returns-in-Err-clause-exact
returns-in-Err-clause-exact c =
    sym (content_of_unread c.octets.result.now _ c.in-Err.ensures) ∙ ap packet_content c.octets.ensures.same

pub returns-in-Ok-clause-short : goal.returns-in-Ok-clause-short
returns-in-Ok-clause-short c =
    omega (
      arith,
      content_short c.octets.result.now,
      ap (λ (o : List ℕ). length o) (content_of_read c.octets.result.now _ c.in-Ok.ensures),
    )
