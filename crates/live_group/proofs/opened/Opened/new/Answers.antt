use Rattle.std.proofs.Common.{◌∙◌, ap, List, ℕ, length}
use Rattle.live_inbox.specs.Ends.{PortView}
use Rattle.live_group.proofs.Dealing.{fresh_count}
use Rattle.live_group.proofs.opened.Opened.new.Goals as goal

pub returns-clause-ports : goal.returns-clause-ports
returns-clause-ports g c =
    ap (λ (ports : List (PortView (List ℕ))). length ports) c.in_ok-inbox.ensures.ports
    ∙ fresh_count c.in_ok-inbox.inbox.inbox c.args.members c.args.members
