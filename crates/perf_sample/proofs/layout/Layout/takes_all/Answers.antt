use Rattle.std.proofs.Common.{◌≡◌, ℕ, ◌∙◌, All, take, arith, refl, sym, subst}
use Rattle.std.proofs.lemmas.Bool.{true≢false}
use Rattle.std.proofs.lemmas.List.Elements.{All-more}
use Rattle.perf_sample.specs.declared.faults.Place.TheVariants as place
use Rattle.perf_sample.specs.Layout.{LeftOut}
use Rattle.perf_sample.specs.Fields.{all_fields}
use Rattle.perf_sample.proofs.layout.Layout.takes_all.Goals as goal

pub returns-then-not-takes : goal.returns-then-not-takes
returns-then-not-takes c = (
  λ no. absurd (true≢false (sym no)),
  λ all. sym c.if-not-takes.true ∙ c.takes.ensures.1 (all c.loop-place.place-index place.Identifier c.loop-place-test.true),
)

pub loop-place-preserved : goal.loop-place-preserved
loop-place-preserved c = record {
  items = refl;
  left_out =
      All-more (LeftOut c.args.self c.args.sample.now) all_fields c.loop-place.place-index place.Identifier c.loop-place-test.true c.loop-place.invariant.left_out
      (c.takes.ensures.0 c.if-not-takes.false);
}

pub returns : goal.returns
returns c =
    let all : c.loop-place.place-index ≡ 11 = omega (arith, c.loop-place-test.false, c.loop-place.auto.place-index-end) in (
      λ yes. subst (λ (n : ℕ). All (LeftOut c.args.self c.args.sample.now) (take n all_fields)) all c.loop-place.invariant.left_out,
      λ out. refl,
    )
