use Rattle.std.proofs.Common.{◌≡◌, ◌∙◌, ◌∷◌, ap, fold}
use Rattle.ctr_buffer.specs.History.{after, stack_of}
use Rattle.ctr_buffer.specs.Stack.{Stack, empty}
use Rattle.ctr_buffer.specs.declared.event.Event.TheVariants.{SetDepth}
use Rattle.ctr_buffer.proofs.history.replay.Goals as goal

pub returns-clause-pointer : goal.returns-clause-pointer
returns-clause-pointer g c =
    let e : g.B.CtrStore.means c.perform_all.new.store ≡ stack_of (SetDepth c.args.depth ∷ c.args.later.now) =
    c.perform_all.ensures ∙ ap (λ (s : Stack). fold after s c.args.later.now) c.fresh-store.ensures in
    ap (λ (s : Stack). s.pointer) e ∙ c.history_laws.ensures.pointer_is_counted (SetDepth c.args.depth ∷ c.args.later.now)

pub returns-clause-depth : goal.returns-clause-depth
returns-clause-depth g c =
    let e : g.B.CtrStore.means c.perform_all.new.store ≡ stack_of (SetDepth c.args.depth ∷ c.args.later.now) =
    c.perform_all.ensures ∙ ap (λ (s : Stack). fold after s c.args.later.now) c.fresh-store.ensures in
    ap (λ (s : Stack). s.depth) e ∙ c.history_laws.ensures.depth_is_the_last (SetDepth c.args.depth ∷ c.args.later.now)

pub returns-clause-visible : goal.returns-clause-visible
returns-clause-visible g c = λ unwritten.
    let history = SetDepth c.args.depth ∷ c.args.later.now in
    let e : g.B.CtrStore.means c.perform_all.new.store ≡ stack_of history =
    c.perform_all.ensures ∙ ap (λ (s : Stack). fold after s c.args.later.now) c.fresh-store.ensures in
    let holds = c.visible_laws.ensures.taken (empty c.args.depth) c.args.later.now c.requires in
    rw e (c.visible_laws.ensures.valid history (tt, holds) unwritten)
