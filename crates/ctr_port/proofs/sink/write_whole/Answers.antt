use Rattle.std.proofs.Common.{arith, take, subst, append-nil}
use Rattle.ctr_port.proofs.PieceLaws.{gained_more}
use Rattle.ctr_port.proofs.sink.write_whole.Goals as goal

pub loop-at-preserved : goal.loop-at-preserved
loop-at-preserved g c =
    let bytes = c.args.bytes.now in
    let took = c.in-Took.ensures.takes in
    record {
      within = omega (arith, took.1, c.split_at.ensures.back_len, c.loop-at.invariant.within);
      front = gained_more g.K.Sink.gained g.met.K.Sink.gained_then _ _ _ bytes _ c.loop-at.at c.in-Took.count c.split_at.ensures.back c.loop-at.invariant.front took.2;
      later = omega (arith, c.in-Took.ensures.later);
      fresh = λ none. absurd (omega (arith, took.0, none));
    }

pub returns-in-Failed-clause-part : goal.returns-in-Failed-clause-part
returns-in-Failed-clause-part g c =
    let front = take c.loop-at.at c.args.bytes.now in (
      c.loop-at.at,
      c.loop-at-test.true,
      subst (λ t. g.K.Sink.gained c.args.sink.now t c.write.new.self) (append-nil front)
          (g.met.K.Sink.gained_then _ _ _ _ _ c.loop-at.invariant.front c.in-Failed.ensures.takes),
    )
