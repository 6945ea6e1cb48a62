use Rattle.std.proofs.Common.{arith}
use Rattle.ctrsim_cli.proofs.CountLaws.{piece_passed}
use Rattle.ctrsim_cli.proofs.counting.CounterSink.write.Goals as goal

pub loop-at-preserved-then-inside-gt0 : goal.loop-at-preserved-then-inside-gt0
loop-at-preserved-then-inside-gt0 c =
    let inv = c.loop-at.invariant in
    let piece = c.args.piece.now in
    let n = c.inside-inside.result in
    let some = c.inside-inside.ensures.some c.if-inside-gt0.true in
    record {
      within = omega (arith, c.inside-inside.ensures.most, c.loop-at-test.true);
      is = rw (c.pass.ensures) (piece_passed c.args.self.now c.loop-at.self piece c.loop-at.at n inv.is c.if-inside-gt0.true (omega (arith, c.inside-inside.ensures.most, c.loop-at-test.true)) some.0 some.1 (omega (arith, c.inside-inside.ensures.small)));
    }
