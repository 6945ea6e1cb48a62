use Rattle.std.proofs.Common.{sym, subst, ℕ, List}
use Rattle.ctr_port.specs.InHand.{text_of, Of}
use Rattle.sched_text.specs.Header.{HasHeader}
use Rattle.sched_text.specs.declared.schedule.TaskLine.{TaskLine}
use Rattle.ctrsim_cli.specs.Parts.{MemoriesRead}
use Rattle.ctrsim_cli.proofs.Endings.{begins}
use Rattle.ctrsim_cli.proofs.running.open.Goals as goal

pub returns-in-Ok-clause-answer : goal.returns-in-Ok-clause-answer
returns-in-Ok-clause-answer g c =
    let h = c.in_ok-header.header in
    let mems = c.in_ok-mems.mems in
    let a = text_of c.args.reader.now.hand (g.S.Source.left c.args.source.now) in
    let b = text_of c.header.new.self.hand (g.S.Source.left c.header.new.source) in
    let d = text_of c.read_memories.new.reader.hand (g.S.Source.left c.read_memories.new.source) in
    let read = subst (λ (ls : List TaskLine). MemoriesRead ls mems b d) c.items.ensures c.in_ok-mems.ensures.answer in
    record {
      header = h;
      images = read.images;
      is = record { header = c.in_ok-header.ensures.sound; size = read.size; bytes = read.bytes; allowed = tt };
      begins = λ harts fresh. c.in-Ok.ensures.begins read.images harts read.are fresh;
      there = begins c.read_memories.new.reader.line h read.images a b d (subst (λ (n : ℕ). Of a b (λ t t'. HasHeader t n h t')) (sym c.in_ok-mems.ensures.same.0) c.in_ok-header.ensures.heads) read.there;
    }
