use Rattle.ctrsim_cli.proofs.TopLaws.{completes}
use Rattle.ctrsim_cli.proofs.top.ctrsim.Goals as goal

pub returns-clause-complete : goal.returns-clause-complete
returns-clause-complete g c = λ word asked.
    let r = c.command-fault.result in
    completes c.engine_laws.ensures.breaks g.H.HartSet.performed word (g.H.HartSet.tells c.args.harts.now) (g.S.Source.left c.args.source.now) (g.S.Source.left c.command-fault.new.source) g.K.Sink.gained
    c.args.sink.now c.command-fault.new.sink (g.H.HartSet.held c.command-fault.new.harts) c.args.harts.now c.command-fault.new.harts _ _ _ _ r
    (c.command-fault.ensures.does word asked) (c.command-fault.ensures.on_harts word asked) c.command-fault.ensures.read c.command-fault.ensures.write
