use Rattle.ctrsim_cli.proofs.DemoText.{demo_is_accepted}
use Rattle.ctrsim_cli.proofs.ScheduleLaws.{accepted_as_one, of_lone_runs, written_is_prefix}
use Rattle.ctrsim_cli.proofs.laws.schedule_laws.Goals as goal

pub returns-clause-one : goal.returns-clause-one
returns-clause-one c = accepted_as_one c.engine_laws.ensures.breaks

pub returns-clause-lone : goal.returns-clause-lone
returns-clause-lone c = of_lone_runs c.engine_laws.ensures.given

pub returns-clause-prefix : goal.returns-clause-prefix
returns-clause-prefix c = written_is_prefix c.engine_laws.ensures.samples c.engine_laws.ensures.scheduled

pub returns-clause-demo : goal.returns-clause-demo
returns-clause-demo c = demo_is_accepted
