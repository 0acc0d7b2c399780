use Rattle.repo_member.proofs.CallLogs.{logs_go_on, publications_stay, withdrawals_stay, logged_packets_stay}
use Rattle.repo_member.proofs.laws.publications_last.Goals as goal

pub returns-clause-log : goal.returns-clause-log
returns-clause-log c = logs_go_on

pub returns-clause-numbers : goal.returns-clause-numbers
returns-clause-numbers c = publications_stay

pub returns-clause-withdrawals : goal.returns-clause-withdrawals
returns-clause-withdrawals c = withdrawals_stay

pub returns-clause-packets : goal.returns-clause-packets
returns-clause-packets c = logged_packets_stay
