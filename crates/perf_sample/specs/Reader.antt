-- What contracts see of a reader of records that follow one another, and what its calls say.
use Rattle.std.specs.Prelude.{◌≡◌, ◌⊎◌, ℕ, ◌+◌, ◌<◌, true, List, [], ◌∷◌, ◌++◌, length, Option}
use Rattle.std.specs.Prelude.{Some, None, Result, Ok, Err, IfOk, IfSome}
use Rattle.std.specs.Io.KnownBytes.{Consumes}
use Rattle.ctr_port.specs.InHand.{Of}
use Rattle.perf_sample.specs.declared.limits.TheConstants.{MAX_SAMPLES}
use Rattle.perf_sample.specs.declared.sample.Sample.{Sample}
use Rattle.perf_sample.specs.declared.faults.SampleFault.{SampleFault}
use Rattle.perf_sample.specs.Format.{Cause, OfRead, OfCount, OfBytes, Format, BreaksBy}
use Rattle.perf_sample.specs.Layout.{LayoutWords}
use Rattle.perf_sample.specs.Reading.{sample_format}
use Rattle.perf_sample.specs.Spelling.{spelling}

pub record Reader (F : Type 0) : Type 0 where
  pub layout : LayoutWords
  -- what was refused, if anything
  pub refused : Option F
  -- how many records were given
  pub given : ℕ
  -- how many bytes they have together
  pub taken : ℕ
  -- the place of the first byte of the record last begun
  pub offset : ℕ

-- before the first record
abbrev pub fresh : {F : Type 0} → LayoutWords → Reader F
fresh layout = record { layout = layout; refused = None; given = 0; taken = 0; offset = 0 }

-- a failed read cut these bytes off: none, or those up to the end of a field that is cut short
abbrev pub IsCutOff : {T F : Type 0} → Format T F → ℕ → List ℕ → Type 0
IsCutOff {T} {F} format given bytes =
    (bytes ≡ [])
    ⊎ ((given < MAX_SAMPLES) × (f : F) × (format.kinds.is_short f ≡ true)
    × BreaksBy format.first_break bytes f [])

abbrev pub Refuses : Cause → {T F : Type 0} → Format T F → ℕ → Option (List ℕ)
    → Option (List ℕ) → F → Type 0
Refuses OfBytes format given left left' f =
    (given < MAX_SAMPLES) × Of left left' (λ t t'. BreaksBy format.first_break t f t')
Refuses OfCount format given left left' f =
    (given ≡ MAX_SAMPLES) × Of left left' (λ t t'. (b : ℕ) × (t ≡ b ∷ t'))
Refuses OfRead format given left left' f =
    (bytes : List ℕ) × Consumes left left' bytes × IsCutOff format given bytes

-- what the next call answers after so many records, of the bytes that a source has left: there is
-- none, and no record; they begin with the spelling of a record, and it alone is taken; or there is
-- a fault. After a fault of the bytes those up to the end of the broken field are taken
abbrev pub IsNextAnswer : {T F : Type 0} → Format T F → ℕ → Option (List ℕ) → Option (List ℕ)
    → Result (Option T) F → Type 0
IsNextAnswer format given left left' (Ok None) = Of left left' (λ t t'. (t ≡ []) × (t' ≡ []))
IsNextAnswer format given left left' (Ok (Some s)) =
    (given < MAX_SAMPLES) × (bytes : List ℕ) × format.spells s bytes × Consumes left left' bytes
IsNextAnswer format given left left' (Err f) =
    Refuses (format.kinds.cause_of f) format given left left' f

-- the reader after an answer, by the spelling of a record
abbrev pub after : {T F : Type 0} → (T → List ℕ) → Reader F → Result (Option T) F → Reader F
after bytes_of r (Ok None) = r
after bytes_of r (Ok (Some s)) = record r {
  given = r.given + 1;
  taken = r.taken + length (bytes_of s);
  offset = r.taken;
}
after bytes_of r (Err f) = record r { refused = Some f; offset = r.taken }

-- this is the answer, unless a read failed
abbrev pub Answers : {T F : Type 0} → Format T F → Result (Option T) F → Result (Option T) F
    → Type 0
Answers format result answer = (result ≡ answer) ⊎ (result ≡ Err format.kinds.read_fault)

-- what a call that reads the next record promises, where nothing was refused before it
pub record ReadsNext {T F : Type 0} (format : Format T F) (bytes_of : T → List ℕ)
    (old new : Reader F) (left left' : Option (List ℕ)) (result : Result (Option T) F)
    : Type 0 where
  -- what it answers, and what was taken
  pub answer : IsNextAnswer format old.given left left' result
  pub state : new ≡ after bytes_of old result
  -- of a source that tells its bytes each answer comes wherever its cause is there
  pub none : left ≡ Some [] → Answers format result (Ok None)
  pub spelled : (s : T) (bytes rest : List ℕ) → old.given < MAX_SAMPLES → format.in_range s
      → format.spells s bytes → left ≡ Some (bytes ++ rest)
      → Answers format result (Ok (Some s))
  pub broken : (f : F) (bytes rest : List ℕ) → old.given < MAX_SAMPLES
      → BreaksBy format.first_break bytes f rest → left ≡ Some bytes
      → Answers format result (Err f)
  pub too_many : (byte : ℕ) (rest : List ℕ) → old.given ≡ MAX_SAMPLES
      → left ≡ Some (byte ∷ rest) → Answers format result (Err format.kinds.too_many)

-- the same of samples
abbrev pub ReadsSample : Reader SampleFault → Reader SampleFault → Option (List ℕ)
    → Option (List ℕ) → Result (Option Sample) SampleFault → Type 0
ReadsSample old new left left' result =
    ReadsNext (sample_format old.layout) (spelling old.layout) old new left left' result
