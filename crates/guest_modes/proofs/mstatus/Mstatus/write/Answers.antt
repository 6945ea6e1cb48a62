use Rattle.std.proofs.Common.{refl, ◌∙◌}
use Rattle.guest_modes.specs.WordLemmas.{status_rewritten, under_part}
use Rattle.guest_modes.proofs.mstatus.Mstatus.write.Goals as goal

pub invariant_of-t-7 : goal.invariant_of-t-7
invariant_of-t-7 c = rw (c.put.ensures, c.get-mpp.ensures.value) (status_rewritten c.self.inside.word c.args.value c.self.invariant)

pub invariant_of-result : goal.invariant_of-result
invariant_of-result c = record {
  kept = under_part 0x80000019AA 0x80000019AA c.args.value refl;
  known = λ e. c.if-get-eq2.false (c.get.ensures.value ∙ e);
}
