use Rattle.script_story.proofs.HeadlineNames.{reports_name_only_members}
use Rattle.script_story.proofs.headline.printed_labels_are_declared.Goals as goal
use Rattle.script_report.proofs.LabelLemmas.{members_have_labels}

pub returns-clause-reports : goal.returns-clause-reports
returns-clause-reports c = reports_name_only_members

pub returns-clause-labels : goal.returns-clause-labels
returns-clause-labels c = members_have_labels
