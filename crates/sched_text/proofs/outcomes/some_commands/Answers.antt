use Rattle.std.proofs.Common.{◌≡◌, sym, ◌∙◌, subst, ℕ, ◌+◌, arith}
use Rattle.ctr_port.specs.InHand.{text_of, Of}
use Rattle.sched_text.specs.Outcomes.{HasFirstCommands}
use Rattle.sched_text.proofs.JoinLaws.{no_commands, counted_one, given_more}
use Rattle.sched_text.proofs.outcomes.some_commands.Goals as goal

pub loop-command-init : goal.loop-command-init
loop-command-init g c =
    let r = c.requires.open in
    let text = text_of c.args.reader.now.hand (g.S.Source.left c.args.source.now) in
    record {
      open_ = r.0;
      goes = r.1;
      number = omega (arith, r.2);
      most = omega (arith, r.2);
      count = sym r.2;
      less = c.requires.some;
      given = subst (λ (k : ℕ). Of text text (HasFirstCommands c.args.reader.now.line k)) (sym r.2) (no_commands c.args.reader.now.line text);
      later = omega arith;
    }

pub loop-command-preserved : goal.loop-command-preserved
loop-command-preserved g c =
    let inv = c.loop-command.invariant in
    let n = c.loop-command.reader.commands in
    let lines = c.args.reader.now.line in
    let number : c.loop-command.reader.line + 1 ≡ lines + (n + 1) = omega (arith, inv.number) in
    let a = text_of c.args.reader.now.hand (g.S.Source.left c.args.source.now) in
    let b = text_of c.loop-command.reader.hand (g.S.Source.left c.loop-command.source) in
    let d = text_of c.command.new.self.hand (g.S.Source.left c.command.new.source) in
    let other = sym c.if-is_end.ensures in
    let one : c.command.new.self.commands ≡ n + 1 = c.in-Ok.ensures.count inv.open_ ∙ counted_one n c.in-Ok.command other in
    let line : c.command.new.self.line ≡ c.loop-command.reader.line + 1 = c.in-Ok.ensures.line inv.open_ in
    record {
      open_ = c.in-Ok.ensures.refused;
      goes = c.in-Ok.ensures.ended inv.open_ ∙ other;
      number = omega (arith, line, one, inv.number);
      most = c.command.ensures.most;
      count = omega (arith, one, inv.count);
      less = omega (arith, c.if-count-most.false);
      given = subst (λ (k : ℕ). Of a d (HasFirstCommands lines k)) (sym one)
          (given_more lines n (c.loop-command.reader.line + 1) c.in-Ok.command a b d number other inv.given (c.in-Ok.ensures.shows inv.open_));
      later = omega (arith, inv.later, c.in-Ok.ensures.cause inv.open_);
    }

pub returns-then-count-most-clause-answer : goal.returns-then-count-most-clause-answer
returns-then-count-most-clause-answer g c =
    let inv = c.loop-command.invariant in
    let n = c.loop-command.reader.commands in
    let lines = c.args.reader.now.line in
    let number : c.loop-command.reader.line + 1 ≡ lines + (n + 1) = omega (arith, inv.number) in
    let a = text_of c.args.reader.now.hand (g.S.Source.left c.args.source.now) in
    let b = text_of c.loop-command.reader.hand (g.S.Source.left c.loop-command.source) in
    let d = text_of c.command.new.self.hand (g.S.Source.left c.command.new.source) in
    let other = sym c.if-is_end.ensures in
    let line : c.command.new.self.line ≡ c.loop-command.reader.line + 1 = c.in-Ok.ensures.line inv.open_ in
    let full : n + 1 ≡ c.args.most = omega (arith, inv.count, inv.less, c.if-count-most.true) in (
      subst (λ (k : ℕ). Of a d (HasFirstCommands lines k)) full
          (given_more lines n (c.loop-command.reader.line + 1) c.in-Ok.command a b d number other inv.given (c.in-Ok.ensures.shows inv.open_)),
      c.in-Ok.ensures.fewer,
      omega (arith, line, number, full),
    )
