-- What a sink comes to that counts the samples that are written to it, byte for byte.
use Rattle.std.specs.Prelude.{◌≡◌, refl, ℕ, ◌+◌, ◌-◌, ◌*◌, ◌/◌, ◌%◌, ◌^◌, if◌then◌else◌, nat_eq, List, [], ◌++◌, fold}
use Rattle.std.proofs.Common.{ap, sym, ◌∙◌}
use Rattle.std.proofs.lemmas.Grind.{fold-append}
use Rattle.ctrsim_cli.specs.declared.counting.Counter.{Counter}

-- nothing was written yet
abbrev pub none_counted : Counter
none_counted = record { samples = 0; bytes = 0; branches = 0; at = 0; size = 0 }

-- the size field is in the bytes 6 and 7 of a sample, the lower first (`perf_event.h`,
-- perf_event_header)
abbrev pub size_after : Counter → ℕ → ℕ
size_after c b =
    if nat_eq c.at 6 then b else (if nat_eq c.at 7 then c.size % 256 + 256 * b else c.size)

-- the place after one byte more
abbrev pub next_place : Counter → ℕ
next_place c = (c.at + 1) % 2 ^ 64

-- one byte more: where it is the last of its sample, one sample more, and the branches that its
-- size leaves room for, which is 32 bytes and 24 for each branch
abbrev pub count_byte : Counter → ℕ → Counter
count_byte c b = if nat_eq (next_place c) (size_after c b) then record {
  samples = (c.samples + 1) % 2 ^ 64;
  bytes = (c.bytes + 1) % 2 ^ 64;
  branches = (c.branches + (size_after c b - 32) / 24) % 2 ^ 64;
  at = 0;
  size = size_after c b;
} else record {
  samples = c.samples;
  bytes = (c.bytes + 1) % 2 ^ 64;
  branches = c.branches;
  at = next_place c;
  size = size_after c b;
}

abbrev pub counted : Counter → List ℕ → Counter
counted c bytes = fold count_byte c bytes

-- so many bytes inside a sample, before its last
abbrev pub passed : Counter → ℕ → Counter
passed c n = record c { bytes = (c.bytes + n) % 2 ^ 64; at = c.at + n }

-- counting nothing, and counting some bytes and then others
pub counted_nothing : (c : Counter) → c ≡ counted c []
counted_nothing c = refl

pub counted_then : (a b c : Counter) (x y : List ℕ) → b ≡ counted a x → c ≡ counted b y
    → c ≡ counted a (x ++ y)
counted_then a b c x y p q =
    q ∙ ap (λ (k : Counter). counted k y) p ∙ sym (fold-append count_byte a x y)
