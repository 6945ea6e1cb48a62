-- The images, which follow the line `images` at once.
use Rattle.std.specs.Prelude.{◌≡◌, ℕ, ◌<◌, if◌then◌else◌, nat_lt, List, [], length, take, drop}
use Rattle.std.specs.Prelude.{Option, Result, Ok, Err, ⊤}
use Rattle.ctr_port.specs.InHand.{Of}
use Rattle.sched_text.specs.Header.{refuse}
use Rattle.sched_text.specs.declared.faults.Reason.TheVariants as reason
use Rattle.sched_text.specs.declared.faults.LineFault.{LineFault}
use Rattle.sched_text.specs.declared.faults.ScheduleFault.{ScheduleFault}
use Rattle.sched_text.specs.declared.faults.ScheduleFault.TheVariants as fault

-- an image of so many bytes at the front of a text; a text that is shorter is refused with the
-- number of the line `images`
abbrev pub image_at : ℕ → ℕ → List ℕ → Result (List ℕ × List ℕ) LineFault
image_at line len text =
    if nat_lt (length text) len then refuse line reason.Cut else Ok (take len text, drop len text)

-- the rest of a text after fewer bytes than the image has
abbrev pub IsWithin : ℕ → List ℕ → List ℕ → Type 0
IsWithin len text rest = (n : ℕ) × (n < len) × (rest ≡ drop n text)

-- an image is answered, or its line refused, as defined of the text. After a failed read nothing is
-- in hand, and fewer bytes than the image has were passed over
abbrev pub ImageAnswer : ℕ → ℕ → Option (List ℕ) → Option (List ℕ) → List ℕ
    → Result (List ℕ) ScheduleFault → Type 0
ImageAnswer line len text text' hand (Ok image) =
    Of text text' (λ t t'. image_at line len t ≡ Ok (image, t'))
ImageAnswer line len text text' hand (Err (fault.Line f)) =
    Of text text' (λ t t'. image_at line len t ≡ Err f)
ImageAnswer line len text text' hand (Err fault.ReadFault) =
    (hand ≡ []) × Of text text' (λ t t'. IsWithin len t t')
ImageAnswer line len text text' hand (Err fault.Memory) = ⊤
