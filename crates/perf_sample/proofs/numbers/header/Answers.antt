use Rattle.perf_sample.proofs.NumberLaws.{header_back}
use Rattle.perf_sample.proofs.numbers.header.Goals as goal

pub returns : goal.returns
returns c =
    let kind = c.split_at.result.0.now in
    let rest = c.split_at.result.1.now in
    let misc = c.split_at-2.result.0.now in
    let size = c.split_at-2.result.1.now in
    rw (c.read_u32.ensures, c.read_u16.ensures, c.read_u16-2.ensures)
    (header_back c.args.bytes.now kind rest misc size c.told-bytes c.fits-bytes c.split_at.ensures.front c.split_at.ensures.back c.split_at-2.ensures.front c.split_at-2.ensures.back)
