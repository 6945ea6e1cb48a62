use Rattle.perf_sample.proofs.NumberLaws.{halves_back}
use Rattle.perf_sample.proofs.numbers.halves.Goals as goal

pub returns : goal.returns
returns c =
    let low = c.split_at.result.0.now in
    let high = c.split_at.result.1.now in
    rw (c.read_u32.ensures, c.read_u32-2.ensures) (halves_back c.args.bytes.now low high c.told-bytes c.fits-bytes c.split_at.ensures.front c.split_at.ensures.back)
