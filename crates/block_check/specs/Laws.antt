-- Laws of faults, of recorded transfers and of straight code.
use Rattle.std.specs.Prelude.{◌≡◌, ◌⊎◌, ℕ, ◌+◌, ◌%◌, Bool, List, Some}
use Rattle.rv_decode.specs.declared.instruction.Instr.{Instr}
use Rattle.rv_decode.specs.Rows.{Row}
use Rattle.xfer_class.specs.declared.types.XferType.{XferType}
use Rattle.xfer_class.specs.declared.types.XferType.TheVariants.{Exception, Interrupt, NotTaken, Taken}
use Rattle.xfer_class.specs.TypeRows.{HasType}
use Rattle.xfer_class.specs.Types.{code_of}
use Rattle.perf_sample.specs.declared.sample.Branch.{Branch}
use Rattle.perf_sample.specs.Flags.{transfer_branch}
use Rattle.block_check.specs.declared.rules.Broken.{Broken}
use Rattle.block_check.specs.declared.rules.Why.TheVariants.{Target}
use Rattle.block_check.specs.Image.{word_at}
use Rattle.block_check.specs.Straight.{RunsOn, RunsOnAt, Straight}
use Rattle.block_check.specs.Rules.{GoesTo, Meets}
use Rattle.block_check.specs.Plausible.{IsPlausible, IsFault}

-- a stack has at most one fault, and none where it is plausible
abbrev pub OneFault : Type 0
OneFault = (image : List ℕ) (branches : List Branch) (f g : Broken) → IsFault image branches f
    → IsFault image branches g → f ≡ g

abbrev pub PlausibleHasNone : Type 0
PlausibleHasNone = (image : List ℕ) (branches : List Branch) (f : Broken)
    → IsPlausible image branches → IsFault image branches f → ⊥

-- the image has an instruction at the one address that goes to the other: its transfer between them,
-- recorded as a branch, breaks none of the rules source, kind and target
abbrev pub TransfersAreFine : Type 0
TransfersAreFine = (image : List ℕ) (word from to : ℕ) (i : Instr) (taken : Bool) (t : XferType)
    (mispredicted : Bool) (older : List Branch) → word_at image from ≡ Some word → Row word i
    → HasType i taken t → GoesTo i from to
    → Meets Target image (transfer_branch from to (code_of t) mispredicted) older

-- nor does a recorded exception or interrupt, wherever it came from
abbrev pub TrapsAreFine : Type 0
TrapsAreFine = (image : List ℕ) (from to : ℕ) (t : XferType) (mispredicted : Bool)
    (older : List Branch) → (t ≡ Exception) ⊎ (t ≡ Interrupt)
    → Meets Target image (transfer_branch from to (code_of t) mispredicted) older

-- code runs straight on over no word, over one that runs on, and over one stretch after another
abbrev pub StraightOverNone : Type 0
StraightOverNone = (image : List ℕ) (a : ℕ) → a % 4 ≡ 0 → Straight image a a

abbrev pub StraightOverOne : Type 0
StraightOverOne = (image : List ℕ) (a : ℕ) → a % 4 ≡ 0 → RunsOnAt image a
    → Straight image a (a + 4)

abbrev pub StraightOverBoth : Type 0
StraightOverBoth = (image : List ℕ) (a b c : ℕ) → Straight image a b → Straight image b c
    → Straight image a c

-- of the transfers only a branch may be passed over
abbrev pub TransfersEndStraight : Type 0
TransfersEndStraight = (i : Instr) (taken : Bool) (t : XferType) → HasType i taken t → RunsOn i
    → (t ≡ Taken) ⊎ (t ≡ NotTaken)
