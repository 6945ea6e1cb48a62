use Rattle.std.proofs.Common.{sym}
use Rattle.perf_sample.proofs.SpellingLaws.{length_spelling}
use Rattle.perf_sample.proofs.reader.length_of.Goals as goal

pub returns-clause-len : goal.returns-clause-len
returns-clause-len c = rw (c.fixed_len.ensures.len, c.items.ensures.items) (sym (length_spelling c.args.layout c.args.sample.now))
