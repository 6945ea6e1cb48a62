use Rattle.std.proofs.Common.{◌≡◌, ℕ, ◌∙◌, arith, sym, subst, refl, take, List}
use Rattle.std.proofs.lemmas.Result.{err_from_is_err_and}
use Rattle.std.specs.Io.KnownBytes.{Consumes}
use Rattle.perf_sample.specs.declared.faults.Place.TheVariants as place
use Rattle.perf_sample.specs.Layout.{fields_in}
use Rattle.perf_sample.specs.Fields.{before_nr}
use Rattle.perf_sample.specs.Spelling.{fields_bytes}
use Rattle.perf_sample.proofs.FieldLaws.{bytes_out, in_none}
use Rattle.ctr_port.proofs.PieceLaws.{taken_nothing}
use Rattle.perf_sample.specs.declared.faults.Place.{Place}
use Rattle.perf_sample.proofs.RowLaws.{rows_stop, row_kept, front_taken}
use Rattle.perf_sample.proofs.front.read_front.Goals.{then-has+in_ok-read_row, else-has}
use Rattle.perf_sample.proofs.front.read_front.Goals as goal

pub returns-in_err-read_row-clause-takes : goal.returns-in_err-read_row-clause-takes
returns-in_err-read_row-clause-takes g c =
    let p = err_from_is_err_and c.from_residual.result c.from_residual.ensures.1 in
    rw (p.1, p.2)
    (rows_stop (g.S.Source.left c.args.source.now) (g.S.Source.left c.loop-place.source) (g.S.Source.left c.read_row.new.source) c.args.layout c.loop-place.place-index c.loop-place.sample
    c.in_err-read_row.field-0.0 c.loop-place-test.true (sym c.has.ensures ∙ c.if-has.true) c.loop-place.invariant.took c.in_err-read_row.ensures.takes)

pub loop-place-preserved : goal.loop-place-preserved
loop-place-preserved g c =
    let done = c.loop-place.invariant in
    elim c.if-has.branch [
      | then-has+in_ok-read_row w ↦
          let took = w.in_ok-read_row.ensures.takes in
          let on = sym c.has.ensures ∙ w.if-has.true in
          let kept = row_kept c.args.layout c.loop-place.place-index c.loop-place.sample w.read_row.new.sample c.loop-place-test.true took.3 on done.fits in
          rw (w.sample-is, w.source-is)
          (record {
            items = refl;
            took =
                front_taken (g.S.Source.left c.args.source.now) (g.S.Source.left c.loop-place.source) (g.S.Source.left w.read_row.new.source) c.args.layout c.loop-place.sample
                w.read_row.new.sample c.loop-place.place-index c.loop-place-test.true on kept done.took took;
            fits = kept.fits;
            misc = kept.misc ∙ done.misc;
            branches = kept.branches ∙ done.branches;
            range = λ is. w.in_ok-read_row.ensures.range (done.range is);
            later = omega (arith, done.later, w.in_ok-read_row.ensures.cause);
          })
      | else-has w ↦
          let off = sym c.has.ensures ∙ w.if-has.false in
          rw (w.sample-is, w.source-is)
          (record {
            items = refl;
            took =
                subst (Consumes (g.S.Source.left c.args.source.now) (g.S.Source.left c.loop-place.source))
                (sym (bytes_out c.args.layout c.loop-place.sample before_nr c.loop-place.place-index place.Identifier c.loop-place-test.true off)) done.took;
            fits = done.fits;
            misc = done.misc;
            branches = done.branches;
            range = done.range;
            later = done.later;
          })
    ]

pub returns-clause-takes : goal.returns-clause-takes
returns-clause-takes g c =
    let done = c.loop-place.invariant in
    let all : c.loop-place.place-index ≡ 9 = omega (arith, c.loop-place-test.false, c.loop-place.auto.place-index-end) in
    let s = c.loop-place.sample in (
      subst (λ (n : ℕ). Consumes (g.S.Source.left c.args.source.now) (g.S.Source.left c.loop-place.source) (fields_bytes s (fields_in c.args.layout (take n before_nr)))) all done.took,
      done.fits,
      done.misc,
      done.branches,
    )

pub loop-place-init : goal.loop-place-init
loop-place-init g c =
    let left = g.S.Source.left c.args.source.now in
    record {
      items = refl;
      took = subst (λ (l : List Place). Consumes left left (fields_bytes c.args.sample.now l)) (sym (in_none c.args.layout)) (taken_nothing left);
      fits = c.requires;
      misc = refl;
      branches = refl;
      range = λ is. is;
      later = omega arith;
    }
