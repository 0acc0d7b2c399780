use Rattle.repo_member.proofs.EventLemmas.{learns_at_once, learns_what_all_know, gathering_is_event, settle_is_event}
use Rattle.repo_member.proofs.EventLemmas.{open_parts_alike, catalogues_alike}
use Rattle.repo_member.proofs.laws.settles_are_events.Goals as goal

pub returns-clause-learns : goal.returns-clause-learns
returns-clause-learns c = learns_at_once

pub returns-clause-learns_all : goal.returns-clause-learns_all
returns-clause-learns_all c = learns_what_all_know

pub returns-clause-gathering : goal.returns-clause-gathering
returns-clause-gathering c = gathering_is_event

pub returns-clause-settle : goal.returns-clause-settle
returns-clause-settle c = settle_is_event

pub returns-clause-open_parts : goal.returns-clause-open_parts
returns-clause-open_parts c = open_parts_alike

pub returns-clause-catalogue : goal.returns-clause-catalogue
returns-clause-catalogue c = catalogues_alike
