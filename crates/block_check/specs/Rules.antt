-- What an image asks of a branch and of the stretch before it (`perf_event.h`, struct
-- perf_branch_entry; RISC-V Unprivileged ISA, "Control Transfer Instructions"; Control Transfer
-- Records 1.0, transfer types).
use Rattle.std.specs.Prelude.{◌≡◌, ◌⊎◌, ℕ, ◌+◌, ◌/◌, ◌%◌, ◌^◌, ◌||◌, nat_eq, Bool, true, List, []}
use Rattle.std.specs.Prelude.{◌∷◌, Some}
use Rattle.rv_decode.specs.declared.instruction.Instr.{Instr}
use Rattle.rv_decode.specs.declared.instruction.Instr.TheVariants as instr
use Rattle.rv_decode.specs.Rows.{Row}
use Rattle.xfer_class.specs.declared.types.XferType.{XferType}
use Rattle.xfer_class.specs.TypeRows.{HasType}
use Rattle.xfer_class.specs.Types.{code_of}
use Rattle.perf_sample.specs.declared.sample.Branch.{Branch}
use Rattle.perf_sample.specs.PerfTypes.{perf_type_of}
use Rattle.block_check.specs.declared.rules.Why.{Why}
use Rattle.block_check.specs.declared.rules.Why.TheVariants.{Source, Kind, Target, Gap}
use Rattle.block_check.specs.Image.{word_at}
use Rattle.block_check.specs.Straight.{Straight}

-- the type of a branch: bits 20 to 23 of its flags
abbrev pub kind_of : Branch → ℕ
kind_of b = b.flags / 2 ^ 20 % 16

-- a syscall or an interrupt, of whose own addresses nothing is asked
abbrev pub is_trap : Branch → Bool
is_trap b = nat_eq (kind_of b) 7 || nat_eq (kind_of b) 12

-- the instruction is a jump, a branch or a return of this type
abbrev pub HasClass : Instr → ℕ → Type 0
HasClass i kind =
    (taken : Bool) × (t : XferType) × HasType i taken t × (perf_type_of (code_of t) ≡ kind)

-- the image has this instruction at the source, and it is of the branch's type
pub record HasTransfer (image : List ℕ) (b : Branch) (i : Instr) : Type 0 where
  pub word : ℕ
  pub there : word_at image b.from ≡ Some word
  pub decodes : Row word i
  pub class : HasClass i (kind_of b)

-- a direct jump has one target, and a branch two: taken or not. The others go by a register
abbrev pub GoesTo : Instr → ℕ → ℕ → Type 0
GoesTo (instr.Jal rd off) from to = to ≡ (from + off) % 2 ^ 64
GoesTo (instr.Branch c rs1 rs2 off) from to =
    (to ≡ (from + off) % 2 ^ 64) ⊎ (to ≡ (from + 4) % 2 ^ 64)
GoesTo i from to = to % 4 ≡ 0

-- a branch, with the older ones behind it, meets a rule
abbrev pub Meets : Why → List ℕ → Branch → List Branch → Type 0
Meets Source image b older =
    (is_trap b ≡ true) ⊎ ((word : ℕ) × (word_at image b.from ≡ Some word))
Meets Kind image b older = (is_trap b ≡ true) ⊎ ((i : Instr) × HasTransfer image b i)
Meets Target image b older =
    (is_trap b ≡ true) ⊎ ((i : Instr) × HasTransfer image b i × GoesTo i b.from b.to)
Meets Gap image b [] = Unit {0}
Meets Gap image b (o ∷ rest) = (o.to ≡ 0) ⊎ ((b.from ≡ 0) ⊎ Straight image o.to b.from)

-- it meets all: whoever has a target has a kind, and a source
pub record IsFine (image : List ℕ) (b : Branch) (older : List Branch) : Type 0 where
  pub own : Meets Target image b older
  pub gap : Meets Gap image b older

-- the first rule that it breaks, in the order source, kind, target, gap
abbrev pub Breaks : Why → List ℕ → Branch → List Branch → Type 0
Breaks Source image b older = Meets Source image b older → ⊥
Breaks Kind image b older = Meets Source image b older × (Meets Kind image b older → ⊥)
Breaks Target image b older = Meets Kind image b older × (Meets Target image b older → ⊥)
Breaks Gap image b older = Meets Target image b older × (Meets Gap image b older → ⊥)
