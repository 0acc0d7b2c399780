use Rattle.std.proofs.Common.{length, ap, List, ℕ, arith}
use Rattle.repo_holdings.proofs.ContentLemmas.{content_short}
use Rattle.repo_holdings.proofs.contents.stored_content.Goals as goal

pub returns-clause-short : goal.returns-clause-short
returns-clause-short c =
    omega (arith, content_short c.in_ok-packet.packet.now, ap (λ (o : List ℕ). length o) c.content.ensures)
