-- Bytes are empty, spelled or broken, and only one of these, for any records that are told apart.
use Rattle.std.proofs.Common.{◌≡◌, ◌⊎◌, ℕ, List, [], ◌∷◌, ◌++◌, Option, Some, None, refl, sym, ◌∙◌, subst, inl, inr}
use Rattle.perf_sample.specs.Format.{Break, Format, BreaksBy}
use Rattle.perf_sample.specs.Cases.{IsSpelled, IsBroken, ExactlyOne}
use Rattle.perf_sample.proofs.BreakLaws.{not_empty}
use Rattle.perf_sample.proofs.ExactLaws.{IsExact, clash}

-- a record at the front of bytes
pub record AtFront {T F : Type 0} (format : Format T F) (bytes : List ℕ) : Type 0 where
  pub item : T
  pub spelled : List ℕ
  pub rest : List ℕ
  pub range : format.in_range item
  pub spells : format.spells item spelled
  pub is : bytes ≡ spelled ++ rest

same_break : {F : Type 0} (x y : F × List ℕ) → Some x ≡ Some y → (x.0 ≡ y.0) × (x.1 ≡ y.1)
same_break x y e = (cc, cc)

broken : {T F : Type 0} (format : Format T F) (bytes : List ℕ) (f : F) (u : List ℕ)
    → BreaksBy format.first_break bytes f u → IsBroken format bytes
broken format bytes f u breaks = record {
  fault = f;
  rest = u;
  breaks = breaks;
  alone = λ g v other. same_break (g, v) (f, u) (sym other.first ∙ breaks.first);
}

spelled : {T F : Type 0} (format : Format T F) (exact : IsExact format) (bytes : List ℕ)
    → AtFront format bytes → IsSpelled format bytes
spelled format exact bytes front = record {
  item = front.item;
  spelled = front.spelled;
  rest = front.rest;
  range = front.range;
  spells = front.spells;
  front = front.is;
  alone = λ s x z spells e. (
    exact.one_length s front.item x front.spelled z front.rest spells front.spells
        (sym e ∙ front.is),
    λ range.
        exact.one s front.item x front.spelled z front.rest range front.range spells front.spells
        (sym e ∙ front.is),
  );
}

by_break : {T F : Type 0} (format : Format T F) (exact : IsExact format) (bytes : List ℕ)
    (o : Break F) → ((bytes ≡ []) → ⊥)
    → (format.first_break bytes ≡ None → AtFront format bytes) → format.first_break bytes ≡ o
    → (bytes ≡ []) ⊎ (IsSpelled format bytes ⊎ IsBroken format bytes)
by_break format exact bytes None some front e = inr (inl (spelled format exact bytes (front e)))
by_break format exact bytes (Some (f, u)) some front e =
    inr (inr (broken format bytes f u (record { some = some; first = e })))

by_bytes : {T F : Type 0} (format : Format T F) (exact : IsExact format) (bytes : List ℕ)
    → (format.first_break bytes ≡ None → AtFront format bytes)
    → (bytes ≡ []) ⊎ (IsSpelled format bytes ⊎ IsBroken format bytes)
by_bytes format exact [] front = inl refl
by_bytes format exact (b ∷ bytes) front =
    by_break format exact (b ∷ bytes) (format.first_break (b ∷ bytes)) (λ e. absurd cc) front refl

pub exactly_one : {T F : Type 0} (format : Format T F) (exact : IsExact format) (bytes : List ℕ)
    → (format.first_break bytes ≡ None → AtFront format bytes)
    → ExactlyOne (bytes ≡ []) (IsSpelled format bytes) (IsBroken format bytes)
exactly_one format exact bytes front = record {
  some = by_bytes format exact bytes front;
  not_first_and_second = λ e s.
      not_empty s.spelled s.rest (exact.some s.item s.spelled s.spells) (sym s.front ∙ e);
  not_first_and_third = λ e b. b.breaks.some e;
  not_second_and_third = λ s b.
      clash format exact s.item s.spelled s.rest b.rest b.fault s.spells
      (subst (λ (t : List ℕ). BreaksBy format.first_break t b.fault b.rest) s.front b.breaks);
}
