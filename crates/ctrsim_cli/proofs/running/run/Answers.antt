use Rattle.std.proofs.Common.{◌∙◌, inl, refl, sym, subst}
use Rattle.std.specs.Prelude.{Some, Err}
use Rattle.ctr_port.specs.InHand.{text_of, Of}
use Rattle.sched_text.specs.Reader.{Reader}
use Rattle.ctrsim_cli.specs.Parts.{OpenAnswer, Begins}
use Rattle.ctrsim_cli.specs.RunEnds.{RunEnds}
use Rattle.std.proofs.lemmas.Option.{same_Some}
use Rattle.ctrsim_cli.specs.declared.fault.Fault.{Fault}
use Rattle.ctrsim_cli.specs.declared.fault.Fault.TheVariants.{Usage}
use Rattle.ctrsim_cli.proofs.RunLaws.{run_ends, run_on_harts, run_known, opening_known, not_opened}
use Rattle.ctrsim_cli.proofs.running.run.Goals as goal

pub perform_all-requires-clause-follows : goal.perform_all-requires-clause-follows
perform_all-requires-clause-follows g c =
    let o = c.in-Ok.ensures.answer in
    (o.header, o.images, o.begins c.args.harts.now c.requires)

pub returns-in-Ok-clause-ends : goal.returns-in-Ok-clause-ends
returns-in-Ok-clause-ends g c = λ told.
    let o = c.in-Ok.ensures.answer in
    let left = g.S.Source.left c.args.source.now in
    let mid = text_of c.open.new.reader.hand (g.S.Source.left c.open.new.source) in
    run_ends g.H.HartSet.follows g.H.HartSet.performed g.H.HartSet.tells g.H.HartSet.held g.K.Sink.gained g.met.K.Sink.gained_then c.laws.ensures.goes_on c.laws.ensures.lone o.header o.images c.in-Ok.engine
    c.args.harts.now c.perform_all.new.harts c.args.sink.now c.perform_all.new.sink c.open.new.reader.line c.perform_all.new.reader.hand left mid (g.S.Source.left c.perform_all.new.source) c.perform_all.result o.is
    (o.begins c.args.harts.now c.requires) told
    (subst (λ (r : Reader). Of (text_of r.hand left) mid (Begins c.open.new.reader.line o.header o.images)) c.new-reader.ensures o.there)
    c.perform_all.ensures.answer

pub returns-in-Ok-clause-on_harts : goal.returns-in-Ok-clause-on_harts
returns-in-Ok-clause-on_harts g c =
    run_on_harts g.H.HartSet.follows g.H.HartSet.performed g.K.Sink.gained g.met.K.Sink.gained_then c.in-Ok.engine c.args.harts.now c.perform_all.new.harts c.args.sink.now c.perform_all.new.sink _ _ _ _ c.perform_all.result
    c.perform_all.ensures.answer

pub returns-in-Err-clause-ends : goal.returns-in-Err-clause-ends
returns-in-Err-clause-ends g c = λ told.
    let left = g.S.Source.left c.args.source.now in
    let left' = g.S.Source.left c.open.new.source in
    let sink = c.args.sink.now in
    let hs = g.H.HartSet.held c.args.harts.now in
    subst (λ (f : Fault). RunEnds left left' g.K.Sink.gained sink sink hs (Some f)) (sym c.not_opened.ensures)
    (not_opened c.in-Err.fault c.open.new.reader.line c.open.new.reader.hand left left' g.K.Sink.gained sink sink hs
    (record { written = g.met.K.Sink.gained_nothing sink; harts_are = c.laws.ensures.held_fresh c.args.harts.now c.requires told })
    (subst (λ (r : Reader). OpenAnswer g.H.HartSet.fresh g.H.HartSet.follows c.open.new.reader.line (text_of r.hand left) (text_of c.open.new.reader.hand left') c.open.new.reader.hand (Err c.in-Err.fault)) c.new-reader.ensures c.in-Err.ensures.answer))

pub returns-in-Err-clause-on_harts : goal.returns-in-Err-clause-on_harts
returns-in-Err-clause-on_harts g c = inl (refl, g.met.K.Sink.gained_nothing c.args.sink.now)

pub returns-in-Ok-clause-known : goal.returns-in-Ok-clause-known
returns-in-Ok-clause-known g c =
    run_known g.H.HartSet.follows g.H.HartSet.performed g.K.Sink.gained c.in-Ok.engine c.args.harts.now c.perform_all.new.harts c.args.sink.now c.perform_all.new.sink _ _ _ _ c.perform_all.result
    c.perform_all.ensures.answer

pub returns-in-Err-clause-known : goal.returns-in-Err-clause-known
returns-in-Err-clause-known g c = λ is. opening_known c.in-Err.fault (sym c.not_opened.ensures ∙ same_Some _ Usage is)
