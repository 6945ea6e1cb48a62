use Rattle.perf_sample.specs.Reading.{sample_format}
use Rattle.perf_sample.proofs.SpellingLaws.{prefix_free}
use Rattle.perf_sample.proofs.NumberLaws.{all_are_bytes}
use Rattle.perf_sample.proofs.CaseLaws.{exactly_one}
use Rattle.perf_sample.proofs.OneSpelling.{samples_exact}
use Rattle.perf_sample.proofs.WholeLaws.{front_read}
use Rattle.perf_sample.proofs.laws.sample_laws.Goals as goal

pub returns-clause-no_proper_prefix : goal.returns-clause-no_proper_prefix
returns-clause-no_proper_prefix c = prefix_free

pub returns-clause-one_of_three : goal.returns-clause-one_of_three
returns-clause-one_of_three c = λ layout bytes all.
    exactly_one (sample_format layout) (samples_exact layout) bytes (front_read layout bytes (all_are_bytes bytes all))
