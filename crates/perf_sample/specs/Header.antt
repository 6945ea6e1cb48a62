-- The header of a sample, read whatever its size has to be, for records that hold something more.
use Rattle.std.specs.Prelude.{◌≡◌, ◌≢◌, ℕ, ◌<◌, Bool, List, [], length, Option, Some, None, Result}
use Rattle.std.specs.Prelude.{Ok, Err}
use Rattle.std.specs.Io.KnownBytes.{Consumes}
use Rattle.ctr_port.specs.InHand.{Of}
use Rattle.perf_sample.specs.declared.header.Header.{Header}
use Rattle.perf_sample.specs.declared.faults.SampleFault.{SampleFault}
use Rattle.perf_sample.specs.Spelling.{header_bytes}
use Rattle.perf_sample.specs.Breaks.{header_break}
use Rattle.perf_sample.specs.Format.{Cause, OfRead, OfCount, OfBytes}
use Rattle.perf_sample.specs.Reading.{cause_of}

-- a header is cut short or has a wrong type, whatever its size has to be; or a read failed in it
abbrev pub HeaderBroke : Cause → Option (List ℕ) → Option (List ℕ) → SampleFault → Type 0
HeaderBroke OfRead left left' f = (x : List ℕ) × Consumes left left' x × (length x < 8)
HeaderBroke OfCount left left' f = ⊥
HeaderBroke OfBytes left left' f = (is_right : ℕ → Bool)
    → Of left left' (λ t t'. (t ≢ []) × (header_break is_right t ≡ Some (f, t')))

-- a header of any size was taken, or there is none
abbrev pub TakesHeader : Option (List ℕ) → Option (List ℕ) → Result (Option Header) SampleFault
    → Type 0
TakesHeader left left' (Ok None) = Of left left' (λ t t'. (t ≡ []) × (t' ≡ []))
TakesHeader left left' (Ok (Some h)) = Consumes left left' (header_bytes h.misc h.size)
TakesHeader left left' (Err f) = HeaderBroke (cause_of f) left left' f
