-- What a reader answers is what the bytes say, for any records that are told apart.
use Rattle.std.proofs.Common.{◌≡◌, ℕ, ◌<◌, List, [], ◌∷◌, ◌++◌, length, Option, Some, None, Result, Ok, Err, refl, sym, ap, ◌∙◌, subst, arith, inl, inr}
use Rattle.std.specs.Prelude.{IfOk, IfSome}
use Rattle.perf_sample.specs.declared.limits.TheConstants.{MAX_SAMPLES}
use Rattle.perf_sample.specs.Format.{Cause, OfRead, OfCount, OfBytes, Break, FaultKinds, Format, BreaksBy}
use Rattle.perf_sample.specs.Reader.{Reader, Refuses, IsNextAnswer, Answers, ReadsNext, after}
use Rattle.perf_sample.proofs.BreakLaws.{not_empty}

-- the fault of a failed read and that of a record too many are the only ones of their causes
pub record AreKinds {F : Type 0} (kinds : FaultKinds F) : Type 0 where
  pub of_read : (f : F) → kinds.cause_of f ≡ OfRead → f ≡ kinds.read_fault
  pub of_count : (f : F) → kinds.cause_of f ≡ OfCount → f ≡ kinds.too_many

-- a spelling isn't empty, has no break, and is one of one record
pub record IsExact {T F : Type 0} (format : Format T F) : Type 0 where
  pub kinds : AreKinds format.kinds
  pub some : (s : T) (x : List ℕ) → format.spells s x → 0 < length x
  pub whole : (s : T) (x z : List ℕ) → format.spells s x → format.first_break (x ++ z) ≡ None
  pub one_length : (s t : T) (x y z w : List ℕ) → format.spells s x → format.spells t y
      → x ++ z ≡ y ++ w → x ≡ y
  pub one : (s t : T) (x y z w : List ℕ) → format.in_range s → format.in_range t
      → format.spells s x → format.spells t y → x ++ z ≡ y ++ w → s ≡ t

-- what an answer tells of the bytes, where a source tells them
abbrev Refused : Cause → {T F : Type 0} → Format T F → ℕ → List ℕ → F → Type 0
Refused OfBytes format given t f =
    (given < MAX_SAMPLES) × (rest : List ℕ) × BreaksBy format.first_break t f rest
Refused OfCount format given t f =
    (given ≡ MAX_SAMPLES) × (b : ℕ) × (rest : List ℕ) × (t ≡ b ∷ rest)
Refused OfRead format given t f = Unit {0}

abbrev Told : {T F : Type 0} → Format T F → ℕ → List ℕ → Result (Option T) F → Type 0
Told format given t (Ok None) = t ≡ []
Told format given t (Ok (Some s)) =
    (given < MAX_SAMPLES) × (x : List ℕ) × (rest : List ℕ) × format.spells s x × (t ≡ x ++ rest)
Told format given t (Err f) = Refused (format.kinds.cause_of f) format given t f

refused : {T F : Type 0} (c : Cause) (format : Format T F) (given : ℕ) (t : List ℕ)
    (left' : Option (List ℕ)) (f : F) → Refuses c format given (Some t) left' f
    → Refused c format given t f
refused OfBytes format given t None f h = absurd h.1
refused OfBytes format given t (Some u) f h = (h.0, u, h.1)
refused OfCount format given t None f h = absurd h.1
refused OfCount format given t (Some u) f h = (h.0, h.1.0, u, h.1.1)
refused OfRead format given t left' f h = tt

told : {T F : Type 0} (r : Result (Option T) F) (format : Format T F) (given : ℕ) (t : List ℕ)
    (left' : Option (List ℕ)) → IsNextAnswer format given (Some t) left' r → Told format given t r
told (Ok None) format given t None h = absurd h
told (Ok None) format given t (Some u) h = h.0
told (Ok (Some s)) format given t None (few, x, spells, took) = absurd took
told (Ok (Some s)) format given t (Some u) (few, x, spells, took) = (few, x, u, spells, took)
told (Err f) format given t left' h = refused (format.kinds.cause_of f) format given t left' f h

told_of : {T F : Type 0} (r : Result (Option T) F) (format : Format T F) (given : ℕ) (t : List ℕ)
    (left left' : Option (List ℕ)) → IsNextAnswer format given left left' r → left ≡ Some t
    → Told format given t r
told_of r format given t left left' h e =
    told r format given t left'
    (subst (λ (l : Option (List ℕ)). IsNextAnswer format given l left' r) e h)

none_some : {A : Type 0} (x : A) → None ≡ Some x → ⊥
none_some x e = absurd cc

same_fault : {F : Type 0} (x y : F × List ℕ) → Some x ≡ Some y → x.0 ≡ y.0
same_fault x y e = cc

failed : {T F : Type 0} (format : Format T F) (exact : IsExact format) (f : F)
    (answer : Result (Option T) F) → format.kinds.cause_of f ≡ OfRead
    → Answers format (Err f) answer
failed format exact f answer e = inr (ap Err (exact.kinds.of_read f e))

-- nothing is left
none_by : {T F : Type 0} (c : Cause) (format : Format T F) (exact : IsExact format) (given : ℕ)
    (f : F) → format.kinds.cause_of f ≡ c → Refused c format given [] f
    → Answers format (Err f) (Ok None)
none_by OfBytes format exact given f e (few, rest, breaks) = absurd (breaks.some refl)
none_by OfCount format exact given f e (full, b, rest, is) = absurd cc
none_by OfRead format exact given f e h = failed format exact f (Ok None) e

none_told : {T F : Type 0} (r : Result (Option T) F) (format : Format T F) (exact : IsExact format)
    (given : ℕ) → Told format given [] r → Answers format r (Ok None)
none_told (Ok None) format exact given h = inl refl
none_told (Ok (Some s)) format exact given (few, x, rest, spells, e) =
    absurd (not_empty x rest (exact.some s x spells) (sym e))
none_told (Err f) format exact given h =
    none_by (format.kinds.cause_of f) format exact given f refl h

-- a spelling stands at the front
pub clash : {T F : Type 0} (format : Format T F) (exact : IsExact format) (s : T)
    (x rest u : List ℕ) (f : F) → format.spells s x
    → BreaksBy format.first_break (x ++ rest) f u → ⊥
clash format exact s x rest u f spells breaks =
    absurd (none_some (f, u) (sym (exact.whole s x rest spells) ∙ breaks.first))

spelled_by : {T F : Type 0} (c : Cause) (format : Format T F) (exact : IsExact format) (given : ℕ)
    (s : T) (x rest : List ℕ) (f : F) → format.kinds.cause_of f ≡ c → given < MAX_SAMPLES
    → format.spells s x → Refused c format given (x ++ rest) f
    → Answers format (Err f) (Ok (Some s))
spelled_by OfBytes format exact given s x rest f e few spells (less, u, breaks) =
    absurd (clash format exact s x rest u f spells breaks)
spelled_by OfCount format exact given s x rest f e few spells (full, b, u, is) =
    absurd (omega (arith, few, full))
spelled_by OfRead format exact given s x rest f e few spells h =
    failed format exact f (Ok (Some s)) e

spelled_told : {T F : Type 0} (r : Result (Option T) F) (format : Format T F)
    (exact : IsExact format) (given : ℕ) (s : T) (x rest : List ℕ) → given < MAX_SAMPLES
    → format.in_range s → format.spells s x → IfOk r (λ next. IfSome next format.in_range)
    → Told format given (x ++ rest) r → Answers format r (Ok (Some s))
spelled_told (Ok None) format exact given s x rest few is spells range h =
    absurd (not_empty x rest (exact.some s x spells) h)
spelled_told (Ok (Some t)) format exact given s x rest few is spells range (less, y, u, other, e) =
    let same : t ≡ s = sym (exact.one s t x y rest u is range spells other e) in
    inl (ap (λ v. Ok (Some v)) same)
spelled_told (Err f) format exact given s x rest few is spells range h =
    spelled_by (format.kinds.cause_of f) format exact given s x rest f refl few spells h

-- the bytes break
break_by : {T F : Type 0} (c : Cause) (format : Format T F) (exact : IsExact format) (given : ℕ)
    (t u : List ℕ) (f g : F) → format.kinds.cause_of g ≡ c → given < MAX_SAMPLES
    → BreaksBy format.first_break t f u → Refused c format given t g
    → Answers format (Err g) (Err f)
break_by OfBytes format exact given t u f g e few breaks (less, v, other) =
    inl (ap Err (same_fault (g, v) (f, u) (sym other.first ∙ breaks.first)))
break_by OfCount format exact given t u f g e few breaks (full, b, v, is) =
    absurd (omega (arith, few, full))
break_by OfRead format exact given t u f g e few breaks h = failed format exact g (Err f) e

break_told : {T F : Type 0} (r : Result (Option T) F) (format : Format T F)
    (exact : IsExact format) (given : ℕ) (t u : List ℕ) (f : F) → given < MAX_SAMPLES
    → BreaksBy format.first_break t f u → Told format given t r → Answers format r (Err f)
break_told (Ok None) format exact given t u f few breaks h = absurd (breaks.some h)
break_told (Ok (Some s)) format exact given t u f few breaks (less, x, rest, spells, e) =
    absurd (clash format exact s x rest u f spells
    (subst (λ (b : List ℕ). BreaksBy format.first_break b f u) e breaks))
break_told (Err g) format exact given t u f few breaks h =
    break_by (format.kinds.cause_of g) format exact given t u f g refl few breaks h

-- all records that a reader gives were given, and a byte is left
full_by : {T F : Type 0} (c : Cause) (format : Format T F) (exact : IsExact format) (given : ℕ)
    (t : List ℕ) (f : F) → format.kinds.cause_of f ≡ c → given ≡ MAX_SAMPLES
    → Refused c format given t f → Answers format (Err f) (Err format.kinds.too_many)
full_by OfBytes format exact given t f e full (few, u, breaks) = absurd (omega (arith, few, full))
full_by OfCount format exact given t f e full h = inl (ap Err (exact.kinds.of_count f e))
full_by OfRead format exact given t f e full h =
    failed format exact f (Err format.kinds.too_many) e

full_told : {T F : Type 0} (r : Result (Option T) F) (format : Format T F) (exact : IsExact format)
    (given b : ℕ) (t : List ℕ) → given ≡ MAX_SAMPLES → Told format given (b ∷ t) r
    → Answers format r (Err format.kinds.too_many)
full_told (Ok None) format exact given b t full h = absurd cc
full_told (Ok (Some s)) format exact given b t full (few, x, rest, spells, e) =
    absurd (omega (arith, few, full))
full_told (Err f) format exact given b t full h =
    full_by (format.kinds.cause_of f) format exact given (b ∷ t) f refl full h

-- an answer, and the reader after it, is all that a call promises
pub reads_next : {T F : Type 0} (format : Format T F) (exact : IsExact format)
    (bytes_of : T → List ℕ) (old new : Reader F) (left left' : Option (List ℕ))
    (result : Result (Option T) F) → IsNextAnswer format old.given left left' result
    → new ≡ after bytes_of old result → IfOk result (λ next. IfSome next format.in_range)
    → ReadsNext format bytes_of old new left left' result
reads_next format exact bytes_of old new left left' result answer state range = record {
  answer = answer;
  state = state;
  none = λ e.
      none_told result format exact old.given
      (told_of result format old.given [] left left' answer e);
  spelled = λ s bytes rest few is spells e.
      spelled_told result format exact old.given s bytes rest few is spells range
      (told_of result format old.given (bytes ++ rest) left left' answer e);
  broken = λ f bytes rest few breaks e.
      break_told result format exact old.given bytes rest f few breaks
      (told_of result format old.given bytes left left' answer e);
  too_many = λ byte rest full e.
      full_told result format exact old.given byte rest full
      (told_of result format old.given (byte ∷ rest) left left' answer e);
}
