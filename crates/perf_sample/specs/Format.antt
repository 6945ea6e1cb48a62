-- Records that follow one another in a stream: how each is spelled, where bytes break, and what
-- reading one does to the bytes that a source has left. Samples are such records, and so is a
-- sample with a further block in it.
use Rattle.std.specs.Prelude.{◌≡◌, ◌≢◌, ◌⊎◌, ℕ, Bool, true, false, List, [], Option, Some, None}
use Rattle.std.specs.Prelude.{Result, Ok, Err}
use Rattle.std.specs.Io.KnownBytes.{Consumes}
use Rattle.ctr_port.specs.InHand.{Of}

-- what a fault comes from: a read, the number of records, or their bytes
pub data Cause : Type 0 where
  OfRead : Cause
  OfCount : Cause
  OfBytes : Cause

-- the faults of a stream: what each comes from, whether it says that a field is cut short, that of
-- a failed read, and that of a record too many
pub record FaultKinds (F : Type 0) : Type 0 where
  pub cause_of : F → Cause
  pub is_short : F → Bool
  pub read_fault : F
  pub too_many : F

-- the first broken field of bytes: its fault, and what follows it
abbrev pub Break : Type 0 → Type 0
Break F = Option (F × List ℕ)

-- a stream of records: the range of their numbers, their spelling, and the first broken field
pub record Format (T F : Type 0) : Type 1 where
  pub kinds : FaultKinds F
  pub in_range : T → Type 0
  pub spells : T → List ℕ → Type 0
  pub first_break : List ℕ → Break F

-- bytes break with this fault; the rest follows the broken field
pub record BreaksBy {F : Type 0} (broken : List ℕ → Break F) (bytes : List ℕ) (f : F)
    (rest : List ℕ) : Type 0 where
  pub some : bytes ≢ []
  pub first : broken bytes ≡ Some (f, rest)

-- by `broken`, bytes end in a field or in its place
abbrev pub IsCut : {F : Type 0} → FaultKinds F → (List ℕ → Break F) → List ℕ → Type 0
IsCut {F} kinds broken bytes =
    (f : F) × (kinds.is_short f ≡ true) × (broken bytes ≡ Some (f, []))

abbrev pub StoppedBy : {F : Type 0} → FaultKinds F → Cause → (List ℕ → Break F)
    → Option (List ℕ) → Option (List ℕ) → F → Type 0
StoppedBy kinds OfRead broken left left' f =
    (x : List ℕ) × Consumes left left' x × IsCut kinds broken x
StoppedBy kinds OfCount broken left left' f = ⊥
StoppedBy kinds OfBytes broken left left' f = Of left left' (λ t t'. broken t ≡ Some (f, t'))

-- reading stopped at the first of some fields that is broken, and took the bytes up to its end; or
-- a read failed in a field
abbrev pub Stops : {F : Type 0} → FaultKinds F → (List ℕ → Break F) → Option (List ℕ)
    → Option (List ℕ) → F → Type 0
Stops kinds broken left left' f = StoppedBy kinds (kinds.cause_of f) broken left left' f

-- bytes that a failed read cut off: none, or those of a field that is cut short, and of the fields
-- before it
abbrev pub IsPartial : {F : Type 0} → FaultKinds F → (List ℕ → Break F) → List ℕ → Type 0
IsPartial {F} kinds broken bytes =
    (bytes ≡ []) ⊎ ((f : F) × (kinds.is_short f ≡ true) × BreaksBy broken bytes f [])

abbrev pub BrokeBy : {F : Type 0} → FaultKinds F → Cause → (List ℕ → Break F)
    → Option (List ℕ) → Option (List ℕ) → F → Type 0
BrokeBy kinds OfRead broken left left' f =
    (x : List ℕ) × Consumes left left' x × IsPartial kinds broken x
BrokeBy kinds OfCount broken left left' f = ⊥
BrokeBy kinds OfBytes broken left left' f = Of left left' (λ t t'. BreaksBy broken t f t')

-- a record broke at the first broken field, and the bytes up to its end were taken; or a read
-- failed in a field
abbrev pub Broke : {F : Type 0} → FaultKinds F → (List ℕ → Break F) → Option (List ℕ)
    → Option (List ℕ) → F → Type 0
Broke kinds broken left left' f = BrokeBy kinds (kinds.cause_of f) broken left left' f

-- what a call that reads into a room answers, with the record that the room holds then
abbrev pub answer_of : {T F : Type 0} → Result Bool F → T → Result (Option T) F
answer_of (Ok true) s = Ok (Some s)
answer_of (Ok false) s = Ok None
answer_of (Err f) s = Err f

-- a record was taken, or there is none
abbrev pub TakesRecord : {T F : Type 0} → Format T F → Option (List ℕ) → Option (List ℕ)
    → Result (Option T) F → Type 0
TakesRecord format left left' (Ok None) = Of left left' (λ t t'. (t ≡ []) × (t' ≡ []))
TakesRecord format left left' (Ok (Some s)) =
    (x : List ℕ) × format.spells s x × Consumes left left' x
TakesRecord format left left' (Err f) = Broke format.kinds format.first_break left left' f
