use Rattle.group_model.specs.Lasting.{EntriesStay}
use Rattle.group_model.proofs.Runs.{when_reached}
use Rattle.group_model.proofs.Listings.{entries_stay}
use Rattle.group_model.proofs.laws.entries_stay_listed.Goals as goal

pub returns-clause-any : goal.returns-clause-any
returns-clause-any c = entries_stay

pub returns-clause-reached : goal.returns-clause-reached
returns-clause-reached c = when_reached EntriesStay entries_stay
