-- Items of lists, by their places.
use Rattle.std.proofs.Common.{◌≡◌, refl, sym, ◌∙◌, ap, subst, ℕ, zero, suc, ◌+◌, ◌<◌, List, [], ◌∷◌}
use Rattle.std.proofs.Common.{length, map, arith, ◌⊎◌, inl, inr, nat_eq, cond}
use Rattle.std.proofs.lemmas.Bool.{cases_Bool, eqb-true}
use Rattle.std.specs.Prelude.{slice_get, slice_set, get_or, Option, Some, None, Result, Ok, Err}
use Rattle.std.specs.Prelude.{OnOk, OnErr}
use Rattle.std.proofs.lemmas.Option.{same_Some, none-some, slice_get_read}
use Rattle.replay_engine.specs.View.{add_at}

pub get_set_same : {A : Type 0} (xs : List A) (i : ℕ) (x y : A) → slice_get xs i ≡ Some x →
    slice_get (slice_set xs i y) i ≡ Some y
get_set_same [] i x y e = absurd (none-some x e)
get_set_same (z ∷ zs) zero x y e = refl
get_set_same (z ∷ zs) (suc i) x y e = get_set_same zs i x y e

pub get_set_other : {A : Type 0} (xs : List A) (i j : ℕ) (y : A) →
    (j ≡ i → ⊥) → slice_get (slice_set xs i y) j ≡ slice_get xs j
get_set_other [] i j y ne = refl
get_set_other (z ∷ zs) zero zero y ne = absurd (ne refl)
get_set_other (z ∷ zs) zero (suc j) y ne = refl
get_set_other (z ∷ zs) (suc i) zero y ne = refl
get_set_other (z ∷ zs) (suc i) (suc j) y ne = get_set_other zs i j y (λ e. ne (ap suc e))

pub set_got : {A : Type 0} (xs : List A) (i : ℕ) (x : A) → slice_get xs i ≡ Some x →
    slice_set xs i x ≡ xs
set_got [] i x e = refl
set_got (z ∷ zs) zero x e = ap (λ (w : _). w ∷ zs) (sym (same_Some z x e))
set_got (z ∷ zs) (suc i) x e = ap (λ (ws : List _). z ∷ ws) (set_got zs i x e)

pub get_map : {A B : Type 0} (f : A → B) (xs : List A) (i : ℕ) (x : A) → slice_get xs i ≡ Some x →
    slice_get (map f xs) i ≡ Some (f x)
get_map f [] i x e = absurd (none-some x e)
get_map f (z ∷ zs) zero x e = ap (λ (w : _). Some (f w)) (same_Some z x e)
get_map f (z ∷ zs) (suc i) x e = get_map f zs i x e

-- the item behind a mapped one
pub got_by : {A B : Type 0} (f : A → B) (xs : List A) (i : ℕ) (y : B) → slice_get (map f xs) i
    ≡ Some y → (x : A) × (slice_get xs i ≡ Some x) × (f x ≡ y)
got_by f [] i y e = absurd (none-some y e)
got_by f (z ∷ zs) zero y e = (z, refl, same_Some (f z) y e)
got_by f (z ∷ zs) (suc i) y e = got_by f zs i y e

pub map_all : {A B : Type 0} (f g : A → B) (xs : List A) →
    ((j : ℕ) (x : A) → slice_get xs j ≡ Some x → g x ≡ f x) → map g xs ≡ map f xs
map_all f g [] same = refl
map_all f g (z ∷ zs) same =
    ap (λ (w : _). w ∷ map g zs) (same zero z refl)
    ∙ ap (λ (ws : List _). f z ∷ ws) (map_all f g zs (λ j x e. same (suc j) x e))

-- a function that agrees on all items but one
pub map_but : {A B : Type 0} (f g : A → B) (xs : List A) (i : ℕ) (y : A)
    → ((j : ℕ) (x : A) → (j ≡ i → ⊥) → slice_get xs j ≡ Some x → g x ≡ f x)
    → map g (slice_set xs i y) ≡ slice_set (map f xs) i (g y)
map_but f g [] i y same = refl
map_but f g (z ∷ zs) zero y same = ap (λ (ws : List _). g y ∷ ws)
    (map_all f g zs (λ j x e. same (suc j) x (λ z. absurd (omega (arith, z))) e))
map_but f g (z ∷ zs) (suc i) y same =
    ap (λ (w : _). w ∷ map g (slice_set zs i y)) (same zero z (λ e. absurd (omega (arith, e))) refl)
    ∙ ap (λ (ws : List _). f z ∷ ws) (map_but f g zs i y
    (λ j x ne e. same (suc j) x (λ p. ne (omega (arith, p))) e))

pub add_got : (xs : List ℕ) (i n x : ℕ) → slice_get xs i ≡ Some x → add_at xs i n
    ≡ slice_set xs i (x + n)
add_got [] i n x e = refl
add_got (z ∷ zs) zero n x e = ap (λ (w : ℕ). (w + n) ∷ zs) (same_Some z x e)
add_got (z ∷ zs) (suc i) n x e = ap (λ (ws : List ℕ). z ∷ ws) (add_got zs i n x e)

pub either : (i j : ℕ) → (i ≡ j) ⊎ (i ≡ j → ⊥)
either i j = elim (cases_Bool (nat_eq i j)) [
  | inl same ↦ inl (grind (arith, same))
  | inr other ↦ inr (λ e. grind (arith, other, e))
]

pub some_of : {A : Type 0} (a b : A) → Some a ≡ Some b → a ≡ b
some_of a b e = same_Some a b e

pub get_set : {A : Type 0} (xs : List A) (i k : ℕ) (x y : A) → slice_get xs k ≡ Some x →
    slice_get (slice_set xs i y) k ≡ Some (cond (nat_eq k i) y x)
get_set xs i k x y e = elim (cases_Bool (nat_eq k i)) [
  | inl same ↦ rw same (subst (λ (j : ℕ). slice_get (slice_set xs i y) j ≡ Some y)
      (sym (eqb-true k i same)) (get_set_same xs i x y
      (subst (λ (j : ℕ). slice_get xs j ≡ Some x) (eqb-true k i same) e)))
  | inr other ↦ rw other (get_set_other xs i k y (λ p. grind (arith, other, p)) ∙ e)
]

pub get_add_other : (xs : List ℕ) (i j n : ℕ) →
    (j ≡ i → ⊥) → slice_get (add_at xs i n) j ≡ slice_get xs j
get_add_other [] i j n ne = refl
get_add_other (z ∷ zs) zero zero n ne = absurd (ne refl)
get_add_other (z ∷ zs) zero (suc j) n ne = refl
get_add_other (z ∷ zs) (suc i) zero n ne = refl
get_add_other (z ∷ zs) (suc i) (suc j) n ne = get_add_other zs i j n (λ e. ne (ap suc e))

pub get_add : (xs : List ℕ) (i k x n : ℕ) → slice_get xs k ≡ Some x → slice_get (add_at xs i n) k
    ≡ Some (x + cond (nat_eq k i) n 0)
get_add xs i k x n e = elim (cases_Bool (nat_eq k i)) [
  | inl same ↦
      let at = eqb-true k i same in
      let there : slice_get xs i ≡ Some x = subst (λ (j : ℕ). slice_get xs j ≡ Some x) at e in
      rw same (subst (λ (j : ℕ). slice_get (add_at xs i n) j ≡ Some (x + n)) (sym at)
      (ap (λ (ys : List ℕ). slice_get ys i) (add_got xs i n x there)
      ∙ get_set_same xs i x (x + n) there))
  | inr other ↦ rw other (get_add_other xs i k n (λ p. grind (arith, other, p))
      ∙ e ∙ ap Some (omega arith))
]

pub get_there : {A : Type 0} (xs : List A) (i : ℕ) → i < length xs → (x : A)
    × (slice_get xs i ≡ Some x)
get_there [] i h = absurd (omega (arith, h))
get_there (x ∷ xs) zero h = (x, refl)
get_there (x ∷ xs) (suc i) h = get_there xs i (omega (arith, h))

pub got_item : {A : Type 0} (xs ys : List A) (i : ℕ) (x : A) → ys ≡ xs → x ≡ get_or ys i x →
    i < length xs → slice_get xs i ≡ Some x
got_item xs ys i x same is within =
    slice_get_read xs (length xs) i x refl within (is ∙ ap (λ (zs : List _). get_or zs i x) same)

pub stays_none : (ps : List (Option ℕ)) (t u : ℕ) → slice_get ps u ≡ Some None →
    slice_get (slice_set ps t None) u ≡ Some None
stays_none ps t u e = elim (either u t) [
  | inl same ↦ subst (λ (k : ℕ). slice_get (slice_set ps t None) k ≡ Some None) (sym same)
      (get_set_same ps t None None (subst (λ (k : ℕ). slice_get ps k ≡ Some None) same e))
  | inr other ↦ get_set_other ps t u None other ∙ e
]

pub on_ok : {A E : Type 0} (P Q : Type 0) (r : Result A E) → (P → Q) → OnOk r P → OnOk r Q
on_ok P Q (Ok x) f p = f p
on_ok P Q (Err e) f p = tt

pub on_err : {A E : Type 0} (P Q : Type 0) (r : Result A E) → (P → Q) → OnErr r P → OnErr r Q
on_err P Q (Ok x) f p = tt
on_err P Q (Err e) f p = f p
