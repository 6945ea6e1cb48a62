-- The text of a reserved flag.
use Rattle.std.proofs.Common.{◌≡◌, ℕ, ◌++◌, refl}
use Rattle.std.specs.Prelude.{codes}
use Rattle.perf_sample.specs.declared.faults.SampleFault.TheVariants as sample
use Rattle.ctrsim_cli.specs.Fault.{broken_text}
use Rattle.ctrsim_cli.specs.SampleText.{dec}

pub flag_text : (i : ℕ) → broken_text (sample.FlagReserved i) ≡ codes "reserved flags in branch " ++ dec i
unfolding broken_text
flag_text i = refl
