-- What a word of eight bytes is.
use Rattle.std.specs.Prelude.{◌≡◌, ◌^◌, ◌<◌}
use Rattle.perf_sample.specs.declared.word.Word.{Word}
use Rattle.perf_sample.specs.declared.word.Word.TheVariants as word

-- its numbers are 0
abbrev pub IsZero : Word → Type 0
IsZero (word.Whole number) = number ≡ 0
IsZero (word.Halves low high) = (low ≡ 0) × (high ≡ 0)

-- the numbers of a word lie in their widths
abbrev pub InWidth : Word → Type 0
InWidth (word.Whole number) = number < 2 ^ 64
InWidth (word.Halves low high) = (low < 2 ^ 32) × (high < 2 ^ 32)
