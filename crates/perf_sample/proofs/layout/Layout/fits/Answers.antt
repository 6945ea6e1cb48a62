use Rattle.std.proofs.Common.{sym, subst}
use Rattle.std.proofs.lemmas.List.Elements.{recursion_from_All}
use Rattle.perf_sample.specs.Layout.{LeftOut, FlagsFit}
use Rattle.perf_sample.specs.Fields.{all_fields}
use Rattle.perf_sample.proofs.layout.Layout.fits.Goals as goal

pub returns-then-takes_all : goal.returns-then-takes_all
returns-then-takes_all c =
    let all = recursion_from_All (LeftOut c.args.self c.args.sample.now) all_fields (c.takes_all.ensures.0 c.if-takes_all.true) in
    let stack = c.items.ensures.items in
    (λ fit. record { left_out = all; flags = subst FlagsFit stack (c.flags_fit.ensures.0 fit) }, λ f. c.flags_fit.ensures.1 (subst FlagsFit (sym stack) f.flags))
