use Rattle.std.proofs.Common.{◌≡◌, inr, refl, ℕ, ◌+◌, [], sym, ◌∙◌, ap, subst, arith}
use Rattle.std.specs.Prelude.{Ok}
use Rattle.ctr_port.specs.InHand.{Of, text_of}
use Rattle.sched_text.specs.Commands.{command_at}
use Rattle.ctrsim_cli.specs.Parts.{Performed, performing_fault}
use Rattle.ctrsim_cli.proofs.PerformLaws.{first_commands, counted_one, performed_more}
use Rattle.ctrsim_cli.proofs.performing.perform_all.Goals as goal

pub loop-command-init : goal.loop-command-init
loop-command-init g c =
    let r = c.requires.reader in
    let text = text_of c.args.reader.now.hand (g.S.Source.left c.args.source.now) in
    let e = c.args.engine.now in
    let hs = c.args.harts.now in
    let s = c.args.sink.now in
    let f = c.requires.follows in
    record {
      open_ = r.0;
      goes = r.1;
      number = omega (arith, r.2);
      most = omega (arith, r.2);
      performed = subst (λ (k : ℕ). Performed g.H.HartSet.follows g.H.HartSet.performed g.K.Sink.gained e hs s e hs s c.args.reader.now.line k text text) (sym r.2)
          (record {
            commands = [];
            size = refl;
            given = first_commands c.args.reader.now.line text;
            bytes = [];
            chain = (refl, refl, refl);
            written = g.met.K.Sink.gained_nothing s;
            going = (f.0, f.1, f.2);
          });
      read_later = omega arith;
      write_later = omega arith;
    }

pub perform-requires-clause-follows : goal.perform-requires-clause-follows
perform-requires-clause-follows g c =
    let p = c.loop-command.invariant.performed in
    (p.going.0, p.going.1, p.commands, omega (arith, p.size, c.loop-command.invariant.most), p.going.2)

pub loop-command-preserved : goal.loop-command-preserved
loop-command-preserved g c =
    let inv = c.loop-command.invariant in
    let n = c.loop-command.reader.commands in
    let x = c.in-Ok.command in
    let lines = c.args.reader.now.line in
    let number : c.loop-command.reader.line + 1 ≡ lines + (n + 1) = omega (arith, inv.number) in
    let t = text_of c.args.reader.now.hand (g.S.Source.left c.args.source.now) in
    let u = text_of c.loop-command.reader.hand (g.S.Source.left c.loop-command.source) in
    let v = text_of c.command.new.self.hand (g.S.Source.left c.command.new.source) in
    let one : c.command.new.self.commands ≡ n + 1 = c.in-Ok.ensures.count inv.open_ ∙ counted_one n x (sym c.if-is_end.ensures) in
    let line : c.command.new.self.line ≡ c.loop-command.reader.line + 1 = c.in-Ok.ensures.line inv.open_ in
    let read = c.in-Ok-perform.ensures.read in
    record {
      open_ = c.in-Ok.ensures.refused;
      goes = c.in-Ok.ensures.ended inv.open_ ∙ sym c.if-is_end.ensures;
      number = omega (arith, line, one, inv.number);
      most = c.command.ensures.most;
      performed = performed_more g.H.HartSet.follows g.H.HartSet.performed g.H.HartSet.tells g.H.HartSet.held g.K.Sink.gained g.met.K.Sink.gained_then c.laws.ensures.goes_on c.args.engine.now c.args.harts.now c.args.sink.now
          c.loop-command.engine c.perform.new.engine c.loop-command.harts c.perform.new.harts c.loop-command.sink c.perform.new.sink lines n t u v x (c.loop-command.reader.line + 1) c.command.new.self.commands read.0
          inv.performed number (sym c.if-is_end.ensures) (c.in-Ok.ensures.shows inv.open_) read.1 read.2 one;
      read_later = omega (arith, inv.read_later, c.in-Ok.ensures.cause inv.open_);
      write_later = omega (arith, inv.write_later, c.in-Ok-perform.ensures.cause);
    }

pub returns-in-Err-perform-clause-answer : goal.returns-in-Err-perform-clause-answer
returns-in-Err-perform-clause-answer g c =
    let inv = c.loop-command.invariant in
    let n = c.loop-command.reader.commands in
    let x = c.in-Ok.command in
    let f = c.in-Err-perform.fault in
    let lines = c.args.reader.now.line in
    let number : c.loop-command.reader.line + 1 ≡ lines + (n + 1) = omega (arith, inv.number) in
    let line : c.line.result ≡ c.loop-command.reader.line + 1 = c.line.ensures ∙ c.in-Ok.ensures.line inv.open_ in
    let u = text_of c.loop-command.reader.hand (g.S.Source.left c.loop-command.source) in
    let v = text_of c.command.new.self.hand (g.S.Source.left c.command.new.source) in
    let read = c.in-Err-perform.ensures.read in
    inr (record {
      count = n;
      middle = u;
      engine = c.loop-command.engine;
      harts = c.loop-command.harts;
      sink = c.loop-command.sink;
      before = inv.performed;
      command = x;
      why = f;
      after = c.perform.new.engine;
      bytes = read.0;
      stopped = read.1;
      written = read.2;
      next = subst (λ (k : ℕ). Of u v (λ t t'. command_at k n t ≡ Ok (x, t'))) number (c.in-Ok.ensures.shows inv.open_);
      near = c.in-Ok.ensures.fewer;
      is = c.not_performed.ensures ∙ ap (performing_fault f) (line ∙ number);
    })
