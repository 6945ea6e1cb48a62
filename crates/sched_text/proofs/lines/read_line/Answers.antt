use Rattle.std.proofs.Common.{◌≡◌, ◌<◌, ◌+◌, length, take, drop, rules, arith, refl, sym, subst}
use Rattle.ctr_port.proofs.InHand.{same_self}
use Rattle.sched_text.specs.Lines.{Line, line_at}
use Rattle.sched_text.proofs.LineLaws.{IsGrown, grown_none, line_alone}
use Rattle.sched_text.proofs.lines.read_line.Goals as goal

pub loop-count-init : goal.loop-count-init
loop-count-init g c = (
  same_self c.args.window.now (g.S.Source.left c.args.source.now),
  omega arith,
  λ whole. (refl, refl),
  λ one none. subst IsGrown (sym none) grown_none,
)

pub returns-in-Line-clause-exact : goal.returns-in-Line-clause-exact
returns-in-Line-clause-exact g c = λ one none.
    let hand = c.loop-count.window in
    let n = c.in-Line.count in
    let within : n < length hand = search rules in
    let is : line_at hand ≡ Line (take n hand) (drop (n + 1) hand) = search rules in
    line_alone hand n (c.loop-count.invariant.3 one none) within is
