use Rattle.ctr_report.proofs.CountLemmas.{pair_more}
use Rattle.ctr_report.proofs.ReportLemmas.{one_report, any_order}
use Rattle.ctr_report.proofs.laws.report_laws.Goals as goal

pub returns-clause-one : goal.returns-clause-one
returns-clause-one c = one_report

pub returns-clause-any_order : goal.returns-clause-any_order
returns-clause-any_order c = any_order

pub returns-clause-pairs : goal.returns-clause-pairs
returns-clause-pairs c = pair_more
