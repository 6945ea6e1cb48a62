-- What the word `show` reads and writes.
use Rattle.std.specs.Prelude.{◌≡◌, ℕ, ◌+◌, ◌<◌, ◌≤◌, List, [], ◌∷◌, ◌++◌, length, All, ⊤, Option}
use Rattle.std.specs.Prelude.{Result, Ok, Err}
use Rattle.std.specs.List.{flat_map}
use Rattle.std.specs.Io.KnownBytes.{Consumes}
use Rattle.ctr_port.specs.InHand.{Of}
use Rattle.ctr_port.specs.Sink.{GainsPart}
use Rattle.perf_sample.specs.declared.sample.Sample.{Sample}
use Rattle.perf_sample.specs.declared.faults.SampleFault.{SampleFault}
use Rattle.perf_sample.specs.Layout.{LayoutWords}
use Rattle.perf_sample.specs.Spelling.{spelling, Spells}
use Rattle.perf_sample.specs.Sample.{IsSample}
use Rattle.perf_sample.specs.declared.limits.TheConstants.{MAX_SAMPLES}
use Rattle.perf_sample.specs.Reader.{Refuses}
use Rattle.perf_sample.specs.Format.{Cause, OfRead, OfCount, OfBytes}
use Rattle.perf_sample.specs.Reading.{cause_of, sample_format}
use Rattle.perf_sample.specs.declared.faults.SampleFault.TheVariants as sample_fault
use Rattle.ctrsim_cli.specs.SampleText.{shown_sample}
use Rattle.ctrsim_cli.specs.declared.showing.ShowFault.{ShowFault}
use Rattle.ctrsim_cli.specs.declared.showing.ShowFault.TheVariants as fault

-- the spellings of samples, joined
unfoldable pub joined : LayoutWords → List Sample → List ℕ
joined layout samples = flat_map (spelling layout) samples

-- the texts of samples of which the first begins at this offset, joined
unfoldable pub texts : LayoutWords → ℕ → List Sample → List ℕ
texts layout offset [] = []
texts layout offset (s ∷ rest) =
    shown_sample layout offset s ++ texts layout (offset + length (spelling layout s)) rest

-- each of them is a sample that the layout spells
abbrev pub AreSpelled : LayoutWords → List Sample → Type 0
AreSpelled layout samples = All (λ s. IsSample s × Spells layout s (spelling layout s)) samples

-- these samples are the longest prefix of the bytes that is a join of at most 2^24 spellings, and
-- this is their text
pub record Shown (layout : LayoutWords) (bytes : List ℕ) (text : List ℕ) : Type 0 where
  pub samples : List Sample
  pub rest : List ℕ
  pub spelled : AreSpelled layout samples
  pub few : length samples ≤ MAX_SAMPLES
  pub join : bytes ≡ joined layout samples ++ rest
  pub longest : length samples < MAX_SAMPLES → (s : Sample) (x z : List ℕ) → IsSample s →
      Spells layout s x → rest ≡ x ++ z → ⊥
  pub is : text ≡ texts layout 0 samples

-- samples were read, the source lost the join of their spellings, and the sink gained their texts
pub record AreShown {K : Type 0} (gained : K → List ℕ → K → Type 0) (layout : LayoutWords)
    (left left' : Option (List ℕ)) (old new : K) (samples : List Sample) : Type 0 where
  pub spelled : AreSpelled layout samples
  pub few : length samples ≤ MAX_SAMPLES
  pub taken : Consumes left left' (joined layout samples)
  pub written : gained old (texts layout 0 samples) new

-- all bytes were samples
pub record AllShown {K : Type 0} (gained : K → List ℕ → K → Type 0) (layout : LayoutWords)
    (left left' : Option (List ℕ)) (old new : K) : Type 0 where
  pub samples : List Sample
  pub middle : Option (List ℕ)
  pub went : AreShown gained layout left middle old new samples
  pub ended : Of middle left' (λ t t'. (t ≡ []) × (t' ≡ []))

-- the bytes at the offset are no sample, or a read failed, or there were 2^24 samples before
pub record Refused {K : Type 0} (gained : K → List ℕ → K → Type 0) (layout : LayoutWords)
    (left left' : Option (List ℕ)) (old new : K) (f : SampleFault) (offset : ℕ) : Type 0 where
  pub samples : List Sample
  pub middle : Option (List ℕ)
  pub went : AreShown gained layout left middle old new samples
  pub refuses :
      Refuses (cause_of f) (sample_format layout) (length samples) middle left' f
  pub at : offset ≡ length (joined layout samples)

-- the sink failed inside the text of the last sample
pub record Unwritten {K : Type 0} (gained : K → List ℕ → K → Type 0) (layout : LayoutWords)
    (left left' : Option (List ℕ)) (old new : K) : Type 0 where
  pub samples : List Sample
  pub last : Sample
  pub few : length samples < MAX_SAMPLES
  pub middle : K
  pub before : Option (List ℕ)
  pub went : AreShown gained layout left before old middle samples
  pub taken : Consumes before left' (spelling layout last)
  pub fits : IsSample last × Spells layout last (spelling layout last)
  pub part : GainsPart gained middle new (shown_sample layout (length (joined layout samples)) last)

abbrev pub ShowAnswer : {K : Type 0} → (K → List ℕ → K → Type 0) → LayoutWords → Option (List ℕ) →
    Option (List ℕ) → K → K → Result ⊤ ShowFault → Type 0
ShowAnswer gained layout left left' old new (Ok _) = AllShown gained layout left left' old new
ShowAnswer gained layout left left' old new (Err (fault.Sample f offset)) =
    Refused gained layout left left' old new f offset
ShowAnswer gained layout left left' old new (Err fault.Write) =
    Unwritten gained layout left left' old new

-- of a source that tells its bytes: the sink gained that text, or after a fault of its own a proper
-- prefix of it; nothing is said after a failed read
abbrev pub ByCause : Cause → {K : Type 0} →
    (K → List ℕ → K → Type 0) → LayoutWords → List ℕ → K → K → Type 0
ByCause OfRead gained layout bytes old new = ⊤
ByCause OfCount gained layout bytes old new = (text : List ℕ)
    × Shown layout bytes text × gained old text new
ByCause OfBytes gained layout bytes old new = (text : List ℕ)
    × Shown layout bytes text × gained old text new

abbrev pub BytesAnswer : {K : Type 0} → (K → List ℕ → K → Type 0) → LayoutWords → List ℕ → K → K →
    Result ⊤ ShowFault → Type 0
BytesAnswer gained layout bytes old new (Ok _) = (text : List ℕ)
    × Shown layout bytes text × gained old text new
BytesAnswer gained layout bytes old new (Err (fault.Sample f offset)) =
    ByCause (cause_of f) gained layout bytes old new
BytesAnswer gained layout bytes old new (Err fault.Write) =
    (text : List ℕ) → Shown layout bytes text → GainsPart gained old new text

-- status 3: the text of the bytes that were taken
abbrev pub TakenShown : {K : Type 0} → (K → List ℕ → K → Type 0) → LayoutWords → Option (List ℕ) →
    Option (List ℕ) → K → K → Type 0
TakenShown gained layout left left' old new =
    (taken : List ℕ) × Consumes left left' taken × (text : List ℕ)
    × Shown layout taken text × gained old text new

abbrev pub CutAt : {K : Type 0} → (K → List ℕ → K → Type 0) → LayoutWords → Option (List ℕ) →
    Option (List ℕ) → K → K → Result ⊤ ShowFault → Type 0
CutAt gained layout left left' old new r =
    (at : ℕ) → r ≡ Err (fault.Sample sample_fault.ReadFault at) →
    TakenShown gained layout left left' old new
