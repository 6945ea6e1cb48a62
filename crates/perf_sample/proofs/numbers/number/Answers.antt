use Rattle.std.proofs.Common.{ap, ◌∙◌}
use Rattle.perf_sample.specs.Spelling.{le}
use Rattle.perf_sample.proofs.NumberLaws.{number_back}
use Rattle.perf_sample.proofs.numbers.number.Goals as goal

pub returns : goal.returns
returns c = ap (le 8) c.read_u64.ensures ∙ number_back c.args.bytes.now c.told-bytes c.fits-bytes
