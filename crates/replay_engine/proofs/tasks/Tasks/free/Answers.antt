use Rattle.std.proofs.Common.{◌≡◌, ℕ, List, sym, ap, ◌∙◌}
use Rattle.std.specs.Prelude.{slice_get, Option, Some, None}
use Rattle.replay_engine.specs.Tasks.{places, residents, resident_of}
use Rattle.replay_engine.specs.View.{view_of, after_freeing_by}
use Rattle.replay_engine.proofs.Items.{get_map, get_set_same, stays_none}
use Rattle.replay_engine.proofs.tasks.Tasks.free.Goals as goal

pub leave-requires-clause-there : goal.leave-requires-clause-there
leave-requires-clause-there c =
    c.requires.kept.inverse.resides c.args.h c.in-Some.t
    (get_map resident_of c.args.harts.now c.args.h c.hart.result.now c.hart.ensures.hart
    ∙ ap Some (sym c.in-Some.ensures))

pub returns-in-Some-clause-view : goal.returns-in-Some-clause-view
returns-in-Some-clause-view c =
    let v = view_of c.args.self.now c.args.harts.now in
    let there : slice_get v.residents c.args.h ≡ Some (Some c.in-Some.t) =
    get_map resident_of c.args.harts.now c.args.h c.hart.result.now c.hart.ensures.hart
    ∙ ap Some (sym c.in-Some.ensures) in
    c.leave.ensures.view ∙ ap (λ (o : Option (Option ℕ)). after_freeing_by o c.args.h v) (sym there)

pub returns-in-Some-clause-free : goal.returns-in-Some-clause-free
returns-in-Some-clause-free c =
    let there : slice_get (residents c.args.harts.now) c.args.h ≡ Some (Some c.in-Some.t) =
    get_map resident_of c.args.harts.now c.args.h c.hart.result.now c.hart.ensures.hart
    ∙ ap Some (sym c.in-Some.ensures) in
    ap (λ (rs : List (Option ℕ)). slice_get rs c.args.h) c.leave.ensures.residents
    ∙ get_set_same (residents c.args.harts.now) c.args.h (Some c.in-Some.t) None there

pub returns-in-Some-clause-stays : goal.returns-in-Some-clause-stays
returns-in-Some-clause-stays c = λ t e. ap (λ (ps : List (Option ℕ)). slice_get ps t)
    c.leave.ensures.places ∙ stays_none (places c.args.self.now) c.in-Some.t t e
