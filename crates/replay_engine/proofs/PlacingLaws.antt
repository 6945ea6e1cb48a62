-- The fold over commands that says where a task is says what the words do.
use Rattle.std.proofs.Common.{◌≡◌, inl, inr, ◌⊎◌, refl, sym, ap, ◌∙◌, ℕ, List, [], ◌∷◌}
use Rattle.std.proofs.Common.{nat_eq, Bool, true, false, cond, Option, Some, None, arith}
use Rattle.std.specs.List.{fold}
use Rattle.std.proofs.lemmas.Bool.{cases_Bool}
use Rattle.std.proofs.lemmas.Option.{none-some, same_Some}
use Rattle.std.proofs.lemmas.Grind.{fold-append}
use Rattle.sched_text.specs.declared.schedule.Command.{Command}
use Rattle.sched_text.specs.declared.schedule.Command.TheVariants.{Run, Sample as Sampled, Evict}
use Rattle.sched_text.specs.declared.schedule.Command.TheVariants.{End}
use Rattle.replay_engine.specs.Placing.{keeps, AllKeep, IsOn}
use Rattle.replay_engine.specs.Laws.{PlacesAreTold, ResidentsAreTold}
use Rattle.replay_engine.specs.Stands.{place_next, place_after, resident_next, resident_after}
use Rattle.replay_engine.specs.View.{is_at}

same_number : (a b : ℕ) → nat_eq a b ≡ true → a ≡ b
same_number a b e = grind (arith, e)

other_number : (a b : ℕ) → nat_eq a b ≡ false → nat_eq b a ≡ false
other_number a b e = grind (arith, e)

number_itself : (a : ℕ) → nat_eq a a ≡ true
number_itself a = grind arith

-- a place that is some hart isn't at another
at_other : (p : Option ℕ) (g h : ℕ) → is_at p g ≡ false → p ≡ Some h → nat_eq g h ≡ false
at_other p g h e is = sym (ap (λ (q : Option ℕ). is_at q g) is) ∙ e

abbrev OnOrKept : Option ℕ → List Command → ℕ → ℕ → Type 0
OnOrKept p cs t h = IsOn cs t h ⊎ ((p ≡ Some h) × AllKeep t h cs)

on_later : (c : Command) (cs : List Command) (t h : ℕ) → IsOn cs t h → IsOn (c ∷ cs) t h
on_later c cs t h on = record {
  before = c ∷ on.before;
  steps = on.steps;
  later = on.later;
  are = ap (λ (ds : List Command). c ∷ ds) on.are;
  keep = on.keep;
}

by_command : (p : Option ℕ) (c : Command) (cs : List Command) (t h : ℕ) → place_next t p c
    ≡ Some h → AllKeep t h cs → OnOrKept p (c ∷ cs) t h
by_command p (Run g u n) cs t h e keep = elim (cases_Bool (nat_eq t u)) [
  | inl same ↦
      let hart : g ≡ h = same_Some g h
      (sym (ap (λ (b : Bool). cond b (Some g) (cond (is_at p g) None p)) same) ∙ e) in
      inl (record {
        before = [];
        steps = n;
        later = cs;
        are = ap (λ (k : ℕ). Run k u n ∷ cs) hart
            ∙ ap (λ (k : ℕ). Run h k n ∷ cs) (sym (same_number t u same));
        keep = keep;
      })
  | inr other ↦
      let rest : cond (is_at p g) None p ≡ Some h =
      sym (ap (λ (b : Bool). cond b (Some g) (cond (is_at p g) None p)) other) ∙ e in
      elim (cases_Bool (is_at p g)) [
        | inl there ↦ absurd (none-some h (sym (ap (λ (b : Bool). cond b None p) there) ∙ rest))
        | inr elsewhere ↦
            let is : p ≡ Some h = sym (ap (λ (b : Bool). cond b None p) elsewhere) ∙ rest in
            inr (is, (rw (other_number t u other, at_other p g h elsewhere is) refl, keep))
      ]
]
by_command p (Sampled u) cs t h e keep = inr (e, (refl, keep))
by_command p (Evict g) cs t h e keep = elim (cases_Bool (is_at p g)) [
  | inl there ↦ absurd (none-some h (sym (ap (λ (b : Bool). cond b None p) there) ∙ e))
  | inr elsewhere ↦
      let is : p ≡ Some h = sym (ap (λ (b : Bool). cond b None p) elsewhere) ∙ e in
      inr (is, (rw (at_other p g h elsewhere is) refl, keep))
]
by_command p End cs t h e keep = inr (e, (refl, keep))

on_from : (p : Option ℕ) (cs : List Command) (t h : ℕ) → fold (place_next t) p cs ≡ Some h →
    OnOrKept p cs t h
on_from p [] t h e = inr (e, tt)
on_from p (c ∷ cs) t h e = elim (on_from (place_next t p c) cs t h e) [
  | inl on ↦ inl (on_later c cs t h on)
  | inr here ↦ by_command p c cs t h here.0 here.1
]

-- commands that keep a task leave it where it is
stays_by : (c : Command) (t h : ℕ) → keeps t h c ≡ true → place_next t (Some h) c ≡ Some h
stays_by (Run g u n) t h e =
    let other : nat_eq t u ≡ false = grind (arith, e) in
    let elsewhere : nat_eq g h ≡ false = grind (arith, e) in
    rw (other, elsewhere) refl
stays_by (Sampled u) t h e = refl
stays_by (Evict g) t h e = let other : nat_eq g h ≡ false = grind (arith, e) in rw other refl
stays_by End t h e = refl

stays : (cs : List Command) (t h : ℕ) → AllKeep t h cs → fold (place_next t) (Some h) cs ≡ Some h
stays [] t h keep = refl
stays (c ∷ cs) t h keep = ap (λ (p : Option ℕ). fold (place_next t) p cs) (stays_by c t h keep.0)
    ∙ stays cs t h keep.1

told : (cs : List Command) (t h : ℕ) → place_after cs t ≡ Some h → IsOn cs t h
told cs t h e = elim (on_from None cs t h e) [
  | inl on ↦ on
  | inr here ↦ absurd (none-some h here.0)
]

is_there : (cs : List Command) (t h : ℕ) → IsOn cs t h → place_after cs t ≡ Some h
is_there cs t h on =
    let brings : place_next t (place_after on.before t) (Run h t on.steps)
    ≡ Some h = rw (number_itself t) refl in
    ap (λ (ds : List Command). place_after ds t) on.are
    ∙ fold-append (place_next t) None on.before (Run h t on.steps ∷ on.later)
    ∙ ap (λ (p : Option ℕ). fold (place_next t) p on.later) brings
    ∙ stays on.later t h on.keep

pub places_are_told : PlacesAreTold
places_are_told cs t h = (told cs t h, is_there cs t h)

-- the same of who is on a hart
resident_by : (r : Option ℕ) (c : Command) (cs : List Command) (t h : ℕ) → resident_next h r c
    ≡ Some t → AllKeep t h cs → IsOn (c ∷ cs) t h ⊎ ((r ≡ Some t) × AllKeep t h (c ∷ cs))
resident_by r (Run g u n) cs t h e keep = elim (cases_Bool (nat_eq h g)) [
  | inl same ↦
      let task : u ≡ t = same_Some u t
      (sym (ap (λ (b : Bool). cond b (Some u) (cond (is_at r u) None r)) same) ∙ e) in
      inl (record {
        before = [];
        steps = n;
        later = cs;
        are = ap (λ (k : ℕ). Run k u n ∷ cs) (sym (same_number h g same))
            ∙ ap (λ (k : ℕ). Run h k n ∷ cs) task;
        keep = keep;
      })
  | inr other ↦
      let rest : cond (is_at r u) None r ≡ Some t =
      sym (ap (λ (b : Bool). cond b (Some u) (cond (is_at r u) None r)) other) ∙ e in
      elim (cases_Bool (is_at r u)) [
        | inl there ↦ absurd (none-some t (sym (ap (λ (b : Bool). cond b None r) there) ∙ rest))
        | inr elsewhere ↦
            let is : r ≡ Some t = sym (ap (λ (b : Bool). cond b None r) elsewhere) ∙ rest in
            inr (is, (rw (at_other r u t elsewhere is, other_number h g other) refl, keep))
      ]
]
resident_by r (Sampled u) cs t h e keep = inr (e, (refl, keep))
resident_by r (Evict g) cs t h e keep = elim (cases_Bool (nat_eq h g)) [
  | inl there ↦ absurd (none-some t (sym (ap (λ (b : Bool). cond b None r) there) ∙ e))
  | inr elsewhere ↦
      let is : r ≡ Some t = sym (ap (λ (b : Bool). cond b None r) elsewhere) ∙ e in
      inr (is, (rw (other_number h g elsewhere) refl, keep))
]
resident_by r End cs t h e keep = inr (e, (refl, keep))

resident_from : (r : Option ℕ) (cs : List Command) (t h : ℕ) → fold (resident_next h) r cs ≡ Some t →
    IsOn cs t h ⊎ ((r ≡ Some t) × AllKeep t h cs)
resident_from r [] t h e = inr (e, tt)
resident_from r (c ∷ cs) t h e = elim (resident_from (resident_next h r c) cs t h e) [
  | inl on ↦ inl (on_later c cs t h on)
  | inr here ↦ resident_by r c cs t h here.0 here.1
]

resident_stays_by : (c : Command) (t h : ℕ) → keeps t h c ≡ true →
    resident_next h (Some t) c ≡ Some t
resident_stays_by (Run g u n) t h e =
    let other : nat_eq u t ≡ false = grind (arith, e) in
    let elsewhere : nat_eq h g ≡ false = grind (arith, e) in
    rw (elsewhere, other) refl
resident_stays_by (Sampled u) t h e = refl
resident_stays_by (Evict g) t h e =
    let other : nat_eq h g ≡ false = grind (arith, e) in rw other refl
resident_stays_by End t h e = refl

resident_stays : (cs : List Command) (t h : ℕ) → AllKeep t h cs →
    fold (resident_next h) (Some t) cs ≡ Some t
resident_stays [] t h keep = refl
resident_stays (c ∷ cs) t h keep =
    ap (λ (p : Option ℕ). fold (resident_next h) p cs) (resident_stays_by c t h keep.0)
    ∙ resident_stays cs t h keep.1

resident_told : (cs : List Command) (t h : ℕ) → resident_after cs h ≡ Some t → IsOn cs t h
resident_told cs t h e = elim (resident_from None cs t h e) [
  | inl on ↦ on
  | inr here ↦ absurd (none-some t here.0)
]

resident_is : (cs : List Command) (t h : ℕ) → IsOn cs t h → resident_after cs h ≡ Some t
resident_is cs t h on =
    let brings : resident_next h (resident_after on.before h) (Run h t on.steps)
    ≡ Some t = rw (number_itself h) refl in
    ap (λ (ds : List Command). resident_after ds h) on.are
    ∙ fold-append (resident_next h) None on.before (Run h t on.steps ∷ on.later)
    ∙ ap (λ (p : Option ℕ). fold (resident_next h) p on.later) brings
    ∙ resident_stays on.later t h on.keep

pub residents_are_told : ResidentsAreTold
residents_are_told cs t h = (resident_told cs t h, resident_is cs t h)
