use Rattle.std.proofs.Common.{◌≡◌, ◌≤◌, ◌-◌, ◌∙◌, arith, rules, length, take, subst, sym}
use Rattle.std.specs.Io.KnownBytes.{Consumes}
use Rattle.std.proofs.lemmas.List.{length-take-le}
use Rattle.ctr_port.proofs.PieceLaws.{taken_then, read_more}
use Rattle.perf_sample.proofs.ReadingLaws.{taken_kept, read_room, read_length}
use Rattle.perf_sample.proofs.field.read_field.Goals as goal

pub loop-at-preserved : goal.loop-at-preserved
loop-at-preserved g c =
    let left0 = g.S.Source.left c.args.source.now in
    let left = g.S.Source.left c.loop-at.source in
    let left' = g.S.Source.left c.read.new.self in
    let at = c.loop-at.at in
    let old = c.loop-at.bytes in
    let n = c.in-Bytes.count in
    let ys = c.read.new.buf in
    let gave = c.in-Bytes.ensures.gives in
    let inside : at ≤ length old = omega (arith, c.loop-at.invariant.len, c.loop-at-test.true) in
    let room : 8 - at ≡ length old - at = omega (arith, c.loop-at.invariant.len) in
    record {
      within = omega (arith, c.loop-at.invariant.len, read_room at (8 - at) n old ys inside room c.read.auto.buf gave.1);
      len = read_length at (8 - at) old ys inside room c.read.auto.buf ∙ c.loop-at.invariant.len;
      front = subst (Consumes left0 left') (sym (read_more at (8 - at) n old ys inside gave.1)) (taken_then left0 left left' (take at old) (take n ys) c.loop-at.invariant.front gave.2);
      later = omega (arith, c.loop-at.invariant.later, c.in-Bytes.ensures.later);
    }

pub returns-in-End-clause-takes : goal.returns-in-End-clause-takes
returns-in-End-clause-takes g c =
    let left0 = g.S.Source.left c.args.source.now in
    let left = g.S.Source.left c.loop-at.source in
    let left' = g.S.Source.left c.read.new.self in
    let x = take c.loop-at.at c.loop-at.bytes in
    let gave = c.in-End.ensures.gives in
    (x, length-take-le c.loop-at.at c.loop-at.bytes (search rules), c.loop-at-test.true, search (rules, taken_kept left0 left left' x c.loop-at.invariant.front gave.1), gave.2)
