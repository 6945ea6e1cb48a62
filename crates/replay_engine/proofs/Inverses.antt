-- Two lists of places that are each other's inverse, and stay so.
use Rattle.std.proofs.Common.{◌≡◌, sym, ◌∙◌, ap, subst, ℕ, List, inl, inr}
use Rattle.std.specs.Prelude.{slice_get, slice_set, Option, Some, None}
use Rattle.std.proofs.lemmas.Option.{none-some}
use Rattle.replay_engine.specs.Tasks.{AreInverse}
use Rattle.replay_engine.proofs.Items.{get_set_same, get_set_other, either, some_of}

-- both are lists of places, so each fact is shown in one direction
abbrev Half : List (Option ℕ) → List (Option ℕ) → Type 0
Half ps rs = (t h : ℕ) → slice_get ps t ≡ Some (Some h) → slice_get rs h ≡ Some (Some t)

half_off : (ps rs : List (Option ℕ)) (t h : ℕ) → Half ps rs → Half rs ps → slice_get ps t
    ≡ Some (Some h) → Half (slice_set ps t None) (slice_set rs h None)
half_off ps rs t h placed resides at u g e = elim (either u t) [
  | inl same ↦ absurd (none-some g
      (some_of None (Some g) (sym (subst (λ (k : ℕ). slice_get (slice_set ps t None) k ≡ Some None)
      (sym same) (get_set_same ps t (Some h) None at)) ∙ e)))
  | inr other ↦
      let before : slice_get ps u ≡ Some (Some g) = sym (get_set_other ps t u None other) ∙ e in
      let there : slice_get rs g ≡ Some (Some u) = placed u g before in
      get_set_other rs h g None (λ same. other
      (some_of u t (some_of (Some u) (Some t) (sym there ∙ ap (slice_get rs) same
      ∙ placed t h at)))) ∙ there
]

pub inverse_off : (ps rs : List (Option ℕ)) (t h : ℕ) → AreInverse ps rs → slice_get ps t
    ≡ Some (Some h) → AreInverse (slice_set ps t None) (slice_set rs h None)
inverse_off ps rs t h i at = record {
  placed = half_off ps rs t h i.placed i.resides at;
  resides = half_off rs ps h t i.resides i.placed (i.placed t h at);
}

half_on : (ps rs : List (Option ℕ)) (t h : ℕ) → Half ps rs → slice_get ps t ≡ Some None →
    slice_get rs h ≡ Some None → Half (slice_set ps t (Some h)) (slice_set rs h (Some t))
half_on ps rs t h placed none free u g e = elim (either u t) [
  | inl same ↦
      let here : h ≡ g = some_of h g
      (some_of (Some h) (Some g) (sym (subst (λ (k : ℕ). slice_get (slice_set ps t (Some h)) k
      ≡ Some (Some h)) (sym same) (get_set_same ps t None (Some h) none)) ∙ e)) in
      subst (λ (k : ℕ). slice_get (slice_set rs h (Some t)) k ≡ Some (Some u)) here
      (get_set_same rs h None (Some t) free ∙ ap (λ (k : ℕ). Some (Some k)) (sym same))
  | inr other ↦
      let before : slice_get ps u ≡ Some (Some g) = sym (get_set_other ps t u (Some h) other) ∙ e in
      let there : slice_get rs g ≡ Some (Some u) = placed u g before in
      get_set_other rs h g (Some t) (λ same. none-some u
      (some_of None (Some u) (sym free ∙ ap (slice_get rs) (sym same) ∙ there))) ∙ there
]

pub inverse_on : (ps rs : List (Option ℕ)) (t h : ℕ) → AreInverse ps rs → slice_get ps t
    ≡ Some None → slice_get rs h ≡ Some None →
    AreInverse (slice_set ps t (Some h)) (slice_set rs h (Some t))
inverse_on ps rs t h i none free = record {
  placed = half_on ps rs t h i.placed none free;
  resides = half_on rs ps h t i.resides free none;
}

-- no other task is where one is, and none is where none resides
pub alone_there : (ps rs : List (Option ℕ)) (t h : ℕ) → AreInverse ps rs → slice_get ps t
    ≡ Some (Some h) → (u : ℕ) → slice_get ps u ≡ Some (Some h) → u ≡ t
alone_there ps rs t h i at u e =
    some_of u t (some_of (Some u) (Some t) (sym (i.placed u h e) ∙ i.placed t h at))

pub alone_free : (ps rs : List (Option ℕ)) (t h : ℕ) → AreInverse ps rs → slice_get rs h
    ≡ Some None → (u : ℕ) → slice_get ps u ≡ Some (Some h) → u ≡ t
alone_free ps rs t h i free u e =
    absurd (none-some u (some_of None (Some u) (sym free ∙ i.placed u h e)))
