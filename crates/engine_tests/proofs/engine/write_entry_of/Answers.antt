use Rattle.std.proofs.Common.{◌≡◌, ◌+◌, arith}
use Rattle.engine_tests.proofs.PlayedLemmas.{changed_hart, few_accesses}
use Rattle.engine_tests.proofs.engine.write_entry_of.Goals as goal

pub write_entry-requires : goal.write_entry-requires
write_entry-requires c =
    few_accesses c.args.performed c.args.tasks.now.tasks c.args.harts.now 0 c.hart_mut.result.now c.requires.few c.hart_mut.ensures.hart c.requires.played

pub returns : goal.returns
returns c =
    let count : c.write_entry.new.port.accesses ≡ c.hart_mut.result.now.accesses + 4 = c.write_entry.ensures.count in
    changed_hart c.args.performed c.args.tasks.now.tasks c.args.harts.now 0 c.hart_mut.result.now c.write_entry.new.port c.hart_mut.ensures.hart
    c.write_entry.ensures.rest.resident c.write_entry.ensures.rest.steps (omega (arith, count)) c.requires.played
