-- The static predictor in the words of signed numbers: an offset is backward exactly where it is
-- below 0 (Unprivileged ISA, "Conditional Branches": the offset is a signed number).
use Rattle.std.specs.Prelude.{ℕ, ◌≡◌, ◌^◌, ◌<◌, pos, int_lt}
use Rattle.std.specs.Int.{w64, cast_signed}
use Rattle.xfer_class.specs.Missed.{is_backward}

abbrev pub BackwardIsNegative : Type 0
BackwardIsNegative =
    (off : ℕ) → off < 2 ^ 64 → is_backward off ≡ int_lt (cast_signed w64 off) (pos 0)
