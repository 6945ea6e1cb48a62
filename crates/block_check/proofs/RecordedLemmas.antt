-- Recorded transfers and traps meet the rules of one branch.
use Rattle.std.proofs.Common.{◌≡◌, ◌⊎◌, inl, inr, ℕ, Bool, true, false, List, Some, refl}
use Rattle.rv_decode.specs.declared.instruction.Instr.{Instr}
use Rattle.rv_decode.specs.Rows.{Row}
use Rattle.xfer_class.specs.declared.types.XferType.{XferType}
use Rattle.xfer_class.specs.declared.types.XferType.TheVariants.{Exception, Interrupt, TrapReturn, NotTaken, Taken, IndirectCall, DirectCall, IndirectJump, DirectJump, Swap, Return, IndirectLinkJump, DirectLinkJump}
use Rattle.xfer_class.specs.TypeRows.{HasType}
use Rattle.xfer_class.specs.Types.{code_of}
use Rattle.perf_sample.specs.declared.sample.Branch.{Branch}
use Rattle.perf_sample.specs.Flags.{transfer_branch}
use Rattle.perf_sample.specs.PerfTypes.{perf_type_of}
use Rattle.block_check.specs.declared.rules.Why.TheVariants.{Target}
use Rattle.block_check.specs.Image.{word_at}
use Rattle.block_check.specs.Rules.{kind_of, GoesTo, Meets}

-- the type in the flags of a recorded branch is the one of its transfer
kind_kept : (from to : ℕ) (t : XferType) (mispredicted : Bool) → perf_type_of (code_of t) ≡ kind_of (transfer_branch from to (code_of t) mispredicted)
kind_kept from to Exception m = refl
kind_kept from to Interrupt m = refl
kind_kept from to TrapReturn m = refl
kind_kept from to NotTaken true = refl
kind_kept from to NotTaken false = refl
kind_kept from to Taken true = refl
kind_kept from to Taken false = refl
kind_kept from to IndirectCall true = refl
kind_kept from to IndirectCall false = refl
kind_kept from to DirectCall m = refl
kind_kept from to IndirectJump true = refl
kind_kept from to IndirectJump false = refl
kind_kept from to DirectJump m = refl
kind_kept from to Swap true = refl
kind_kept from to Swap false = refl
kind_kept from to Return true = refl
kind_kept from to Return false = refl
kind_kept from to IndirectLinkJump true = refl
kind_kept from to IndirectLinkJump false = refl
kind_kept from to DirectLinkJump m = refl

pub transfers_fine : (image : List ℕ) (word from to : ℕ) (i : Instr) (taken : Bool) (t : XferType) (mispredicted : Bool) (older : List Branch)
    → word_at image from ≡ Some word → Row word i → HasType i taken t → GoesTo i from to → Meets Target image (transfer_branch from to (code_of t) mispredicted) older
transfers_fine image word from to i taken t mispredicted older there decodes type goes =
    inr (i, record { word = word; there = there; decodes = decodes; class = (taken, t, type, kind_kept from to t mispredicted) }, goes)

pub traps_fine : (image : List ℕ) (from to : ℕ) (t : XferType) (mispredicted : Bool) (older : List Branch) → (t ≡ Exception) ⊎ (t ≡ Interrupt)
    → Meets Target image (transfer_branch from to (code_of t) mispredicted) older
traps_fine image from to t mispredicted older (inl e) = inl (rw e refl)
traps_fine image from to t mispredicted older (inr e) = inl (rw e refl)
