-- The memory of a task: bytes from the address 0x80000000 on (RISC-V Unprivileged ISA, RV64I,
-- "Load and Store Instructions").
use Rattle.std.specs.Prelude.{ℕ, ◌+◌, ◌-◌, ◌*◌, Bool, cond, nat_le, ◌&&◌, List, ◌++◌, length, replicate, take, drop, Option, Some, None}
use Rattle.byteorder.specs.Endian.{little_number, little_bytes}
use Rattle.ctr_bits.specs.Sext.{sign_extension}
use Rattle.rv_decode.specs.declared.operations.Width.{Width}
use Rattle.rv_decode.specs.declared.operations.Width.TheVariants.{B, H, W, D}

-- where memory begins
abbrev pub base : ℕ
base = 0x80000000

-- an image with zeros after it, so many bytes in all
abbrev pub memory_of : List ℕ → ℕ → List ℕ
memory_of image mem = image ++ replicate (mem - length image) 0

-- the place of so many bytes from an address on, in a memory of this size; none where they aren't wholly in it
abbrev pub place_of : ℕ → ℕ → ℕ → Option ℕ
place_of size address count =
    cond (nat_le base address && nat_le (address + count) (base + size)) (Some (address - base)) None

-- the bytes of a load or store
abbrev pub bytes_of : Width → ℕ
bytes_of B = 1
bytes_of H = 2
bytes_of W = 4
bytes_of D = 8

-- the little-endian number of this width at a place
abbrev pub number_at : Width → List ℕ → ℕ → ℕ
number_at width bytes at = little_number (bytes_of width) (drop at bytes)

-- the same as a register takes it, with its sign where the load is signed
abbrev pub loaded : Width → Bool → List ℕ → ℕ → ℕ
loaded width signed bytes at = cond signed (sign_extension (8 * bytes_of width) (number_at width bytes at)) (number_at width bytes at)

-- the memory after the lowest bytes of a value were written at a place, the lowest first
abbrev pub stored : Width → ℕ → List ℕ → ℕ → List ℕ
stored width value bytes at =
    take at bytes ++ (take (bytes_of width) (little_bytes 8 value) ++ drop (at + bytes_of width) bytes)
