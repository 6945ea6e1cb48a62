use Rattle.std.proofs.Common.{◌<◌, length, arith}
use Rattle.sched_text.proofs.LineLaws.{scan_start, scan_more, scan_line, scan_open, scan_long}
use Rattle.sched_text.proofs.lines.line_in.Goals as goal

pub loop-at-init : goal.loop-at-init
loop-at-init c = (omega arith, scan_start c.args.hand.now)

pub returns-then-at-hand-clause-sees : goal.returns-then-at-hand-clause-sees
returns-then-at-hand-clause-sees c = scan_open c.args.hand.now c.loop-at.at c.if-at-hand.true c.loop-at-test.true c.loop-at.invariant.1

pub returns-then-hand-at-eq-LINE_FEED-clause-sees : goal.returns-then-hand-at-eq-LINE_FEED-clause-sees
returns-then-hand-at-eq-LINE_FEED-clause-sees c =
    let within : c.loop-at.at < length c.args.hand.now = omega (arith, c.loop-at.invariant.0, c.if-at-hand.false) in
    (within, scan_line c.args.hand.now c.loop-at.at within c.loop-at-test.true c.if-hand-at-eq-LINE_FEED.true c.loop-at.invariant.1)

pub loop-at-preserved : goal.loop-at-preserved
loop-at-preserved c =
    let within : c.loop-at.at < length c.args.hand.now = omega (arith, c.loop-at.invariant.0, c.if-at-hand.false) in
    (omega arith, scan_more c.args.hand.now c.loop-at.at within c.loop-at-test.true c.if-hand-at-eq-LINE_FEED.false c.loop-at.invariant.1)

pub returns-clause-sees : goal.returns-clause-sees
returns-clause-sees c = scan_long c.args.hand.now c.loop-at.at (omega (arith, c.loop-at-test.false)) c.loop-at.invariant.1
