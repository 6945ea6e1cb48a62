use Rattle.std.proofs.Common.{◌≡◌, ℕ, ◌+◌, ◌*◌, ◌∙◌, List, length, take, arith, refl, sym, ap, subst}
use Rattle.perf_sample.specs.declared.faults.Place.{Place}
use Rattle.perf_sample.specs.declared.faults.Place.TheVariants as place
use Rattle.perf_sample.specs.Layout.{fields_in, fixed_len}
use Rattle.perf_sample.specs.Fields.{all_fields}
use Rattle.perf_sample.proofs.FieldLaws.{in_none, length_there, in_more_out}
use Rattle.perf_sample.proofs.layout.Layout.fixed_len.Goals.{then-has, else-has}
use Rattle.perf_sample.proofs.layout.Layout.fixed_len.Goals as goal

pub loop-place-init : goal.loop-place-init
loop-place-init c = record {
  items = refl;
  len = ap (λ (l : List Place). 8 + 8 * length l) (sym (in_none c.args.self));
  most = omega arith;
}

pub loop-place-preserved : goal.loop-place-preserved
loop-place-preserved c =
    let done = c.loop-place.invariant in
    let n = c.loop-place.place-index in
    elim c.if-has.branch [
      | then-has w ↦
          let more = length_there c.args.self all_fields n place.Identifier c.loop-place-test.true (sym c.has.ensures ∙ w.if-has.true) in
          rw w.len-is (record { items = refl; len = omega (arith, done.len, more); most = omega (arith, done.most) })
      | else-has w ↦
          let same = in_more_out c.args.self all_fields n place.Identifier c.loop-place-test.true (sym c.has.ensures ∙ w.if-has.false) in
          rw w.len-is (record { items = refl; len = omega (arith, done.len, ap length same); most = omega (arith, done.most) })
    ]

pub returns-clause-len : goal.returns-clause-len
unfolding fixed_len
returns-clause-len c =
    let all : c.loop-place.place-index ≡ 11 = omega (arith, c.loop-place-test.false, c.loop-place.auto.place-index-end) in
    subst (λ (n : ℕ). c.loop-place.len ≡ 8 + 8 * length (fields_in c.args.self (take n all_fields))) all c.loop-place.invariant.len
