use Rattle.std.proofs.Common.{subst}
use Rattle.ctrsim_cli.specs.Does.{Does, DoesOnHarts, LeavesSource}
use Rattle.ctrsim_cli.specs.declared.words.Word.{Word}
use Rattle.ctrsim_cli.proofs.ShowLaws.{one_word, within_asked}
use Rattle.ctrsim_cli.proofs.command.command.Goals as goal

pub follow-requires-clause-within : goal.follow-requires-clause-within
follow-requires-clause-within g c = within_asked c.args.words.now c.in-Some.word c.in-Some.ensures.some

pub returns-in-Some-clause-does : goal.returns-in-Some-clause-does
returns-in-Some-clause-does g c = λ word asked.
    subst (λ (w : Word). Does w (g.H.HartSet.tells c.args.harts.now) (g.S.Source.left c.args.source.now) (g.S.Source.left c.follow.new.source) g.K.Sink.gained c.args.sink.now c.follow.new.sink (g.H.HartSet.held c.follow.new.harts) c.follow.result)
    (one_word c.args.words.now c.in-Some.word word c.in-Some.ensures.some asked) c.follow.ensures.does

pub returns-in-Some-clause-on_harts : goal.returns-in-Some-clause-on_harts
returns-in-Some-clause-on_harts g c = λ word asked.
    subst (λ (w : Word). DoesOnHarts g.H.HartSet.performed w g.K.Sink.gained c.args.harts.now c.follow.new.harts c.args.sink.now c.follow.new.sink c.follow.result)
    (one_word c.args.words.now c.in-Some.word word c.in-Some.ensures.some asked) c.follow.ensures.on_harts

pub returns-in-Some-clause-source_stays : goal.returns-in-Some-clause-source_stays
returns-in-Some-clause-source_stays g c = λ word asked.
    subst (λ (w : Word). LeavesSource w c.args.source.now c.follow.new.source)
    (one_word c.args.words.now c.in-Some.word word c.in-Some.ensures.some asked) c.follow.ensures.source_stays
