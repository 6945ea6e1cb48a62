use Rattle.std.proofs.Common.{subst, Option, List, ℕ}
use Rattle.ctrsim_cli.specs.Showing.{ShowAnswer}
use Rattle.ctrsim_cli.proofs.Longest.{told_of, cut_at}
use Rattle.ctrsim_cli.proofs.showing.show.Goals as goal

pub returns-clause-bytes : goal.returns-clause-bytes
returns-clause-bytes g c = λ bytes tells.
    let left' = g.S.Source.left c.show_each.new.source in
    told_of g.K.Sink.gained g.met.K.Sink.gained_then c.args.layout bytes left' c.args.sink.now c.show_each.new.sink c.show_each.result
    (subst (λ (t : Option (List ℕ)). ShowAnswer g.K.Sink.gained c.args.layout t left' c.args.sink.now c.show_each.new.sink c.show_each.result) tells c.show_each.ensures.answer)

pub returns-clause-cut : goal.returns-clause-cut
returns-clause-cut g c =
    cut_at g.K.Sink.gained c.args.layout (g.S.Source.left c.args.source.now) (g.S.Source.left c.show_each.new.source) c.args.sink.now c.show_each.new.sink c.show_each.result c.show_each.ensures.answer
