-- Commands that were performed one after the other, on harts that nothing is known of and on harts
-- that tell what they hold.
use Rattle.std.proofs.Common.{◌≡◌, refl, sym, ap, ◌∙◌, subst, ℕ, List, [], ◌∷◌, ◌++◌, append-nil, append_assoc}
use Rattle.std.specs.Prelude.{Result, Ok}
use Rattle.std.proofs.lemmas.Grind.{flat_map-append}
use Rattle.perf_sample.specs.Spelling.{spelling}
use Rattle.perf_sample.specs.declared.sample.Sample.{Sample}
use Rattle.replay_engine.specs.Breaks.{AllowedAfter}
use Rattle.replay_engine.specs.HartSet.{GoesOn}
use Rattle.replay_engine.specs.Runs.{spellings}
use Rattle.replay_engine.specs.Scheduled.{samples_from, command_samples, AreHartsOf}
use Rattle.replay_engine.specs.Start.{plan_of, sample_layout}
use Rattle.replay_engine.specs.declared.fault.PerformFault.{PerformFault}
use Rattle.rv_hart.specs.Hart.{HartState}
use Rattle.sched_text.specs.declared.schedule.Command.{Command}
use Rattle.sched_text.specs.declared.schedule.Header.{Header}
use Rattle.ctrsim_cli.specs.OnHarts.{Chain}

-- what harts know of themselves
abbrev pub Follows : Type 0 → Type 0 → Type 1
Follows E H = Header → List (List ℕ) → List Command → E → H → Type 0

abbrev pub PerformedBy : Type 0 → Type 0 → Type 1
PerformedBy E H = E → H → Command → Result (Unit {0}) PerformFault → List ℕ → E → H → Type 0

-- their laws
abbrev pub CommandsGoOn : {E H : Type 0} → Follows E H → PerformedBy E H → (H → Type 0) →
    (H → List HartState) → Type 0
CommandsGoOn {E} {H} follows performed tells held = (h : Header) (images : List (List ℕ))
    (cs : List Command) (e f : E) (a b : H) (c : Command) (r : Result (Unit {0}) PerformFault)
    (bytes : List ℕ) → follows h images cs e a → performed e a c r bytes f b →
    GoesOn follows tells held h images cs c bytes a f b r

abbrev pub HartsAreTold : {E H : Type 0} → Follows E H → (H → Type 0) → (H → List HartState) → Type 0
HartsAreTold {E} {H} follows tells held = (h : Header) (images : List (List ℕ)) (cs : List Command)
    (e : E) (a : H) → follows h images cs e a → tells a → AreHartsOf h images cs (held a)

-- one command more
pub chain_more : {E H : Type 0} (performed : PerformedBy E H) (cs : List Command) (c : Command)
    (e d f : E) (a m b : H) (x y : List ℕ) → Chain performed cs e a x d m →
    performed d m c (Ok tt) y f b → Chain performed (cs ++ c ∷ []) e a (x ++ y) f b
chain_more {E} {H} performed [] c e d f a m b x y (engine, harts, none) made = (
  f,
  b,
  y,
  [],
  subst (λ (k : E). performed k a c (Ok tt) y f b) engine
      (subst (λ (k : H). performed d k c (Ok tt) y f b) harts made),
  (refl, refl, refl),
  ap (λ (u : List ℕ). u ++ y) none ∙ sym (append-nil y),
)
chain_more performed (k ∷ cs) c e d f a m b x y (d', m', x', y', first, later, is) made = (
  d',
  m',
  x',
  y' ++ y,
  first,
  chain_more performed cs c d' d f m' m b y' y later made,
  ap (λ (u : List ℕ). u ++ y) is ∙ append_assoc x' y' y,
)

-- the samples of joined lists of commands
pub joined : (h : Header) (images : List (List ℕ)) (before cs ds : List Command) →
    samples_from h images before (cs ++ ds)
    ≡ samples_from h images before cs ++ samples_from h images (before ++ cs) ds
joined h images before [] ds =
    ap (λ (b : List Command). samples_from h images b ds) (sym (append-nil before))
joined h images before (c ∷ cs) ds =
    let one = command_samples h images before c in
    let next = before ++ c ∷ [] in
    ap (λ (xs : List Sample). one ++ xs) (joined h images next cs ds)
    ∙ sym (append_assoc one (samples_from h images next cs) (samples_from h images (next ++ cs) ds))
    ∙ ap (λ (b : List Command). (one ++ samples_from h images next cs) ++ samples_from h images b ds)
    (append_assoc before (c ∷ []) cs)

-- of an engine and harts that follow some commands: those that were performed may be, they follow
-- these too, and where the harts tell what they hold, these bytes were read
pub chain_goes_on : {E H : Type 0} (follows : Follows E H) (performed : PerformedBy E H)
    (tells : H → Type 0) (held : H → List HartState) → CommandsGoOn follows performed tells held →
    (h : Header) (images : List (List ℕ)) (before cs : List Command) (e f : E) (a b : H)
    (bytes : List ℕ) → follows h images before e a → Chain performed cs e a bytes f b →
    AllowedAfter (plan_of h) before cs × follows h images (before ++ cs) f b × (tells a → tells b
    × (bytes ≡ spellings (sample_layout h) (samples_from h images before cs)))
chain_goes_on {E} {H} follows performed tells held law h images before [] e f a b bytes behind
    (engine, harts, none) = (
      tt,
      subst (λ (ds : List Command). follows h images ds f b) (sym (append-nil before))
          (subst (λ (k : E). follows h images before k b) (sym engine)
          (subst (follows h images before e) (sym harts) behind)),
      λ told. (subst tells (sym harts) told, none),
    )
chain_goes_on follows performed tells held law h images before (c ∷ cs) e f a b bytes behind
    (d, m, x, y, first, later, is) =
    let g = law h images before e d a m c (Ok tt) x behind first in
    let next = before ++ c ∷ [] in
    let r = chain_goes_on follows performed tells held law h images next cs d f m b y g.next later in
    let layout = sample_layout h in
    let one = command_samples h images before c in
    let rest = samples_from h images next cs in (
      (g.allowed, r.0),
      subst (λ (ds : List Command). follows h images ds f b) (append_assoc before (c ∷ []) cs) r.1,
      λ told.
          let u = g.told told in
          let v = r.2 u.0 in (
            v.0,
            is ∙ ap (λ (k : List ℕ). k ++ y) u.1 ∙ ap (λ (k : List ℕ). spellings layout one ++ k) v.1
                ∙ sym (flat_map-append (spelling layout) one rest),
          ),
    )
