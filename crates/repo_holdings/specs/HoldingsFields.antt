-- The value of `Holdings`, from its fields, and the invariant of these.
use Rattle.std.specs.Prelude.{◌≡◌, []}
use Rattle.repo_holdings.specs.declared.holdings.Holdings.TheInside.{Inside}
use Rattle.repo_holdings.specs.Stock.{MatchesEntries, HaveRoom}
use Rattle.repo_holdings.specs.HoldingsState.{HoldingsState}

-- the value that the fields give
abbrev pub state : Inside → HoldingsState
state m = record {
  known = m.stock.plan.known;
  store = m.stock.store.packets;
  hidden = m.stock.plan.hidden;
  claims = m.stock.plan.claims;
  attempts = m.stock.plan.attempts;
  spare = m.spare;
}

-- plan, notes and catalogue agree with the stored packets, no entry waits to be listed or to be removed, and there is
-- room for `m.spare` parts
pub record IsHoldings (m : Inside) : Type 0 where
  pub kept : MatchesEntries m.stock m.catalogue.entries
  pub room : HaveRoom m.spare m.stock m.pending m.catalogue
  pub none_fresh : m.pending.fresh.items ≡ []
  pub none_gone : m.pending.gone.items ≡ []
