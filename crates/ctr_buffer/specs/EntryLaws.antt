-- Laws of the words of an entry (RISC-V Control Transfer Records 1.0, registers ctrsource,
-- ctrtarget and ctrdata).
use Rattle.std.specs.Prelude.{◌≡◌, ℕ, Bool, true, false}
use Rattle.ctr_buffer.specs.Entry.{Entry, recorded_entry, unlinked, is_valid, is_mispredicted, source_address, target_address}

-- what is read of the entry of a transfer is what was recorded: V, MISP, both addresses and the type
pub record ReadsBack (from to : ℕ) (misp : Bool) (kind : ℕ) : Type 0 where
  pub valid : is_valid (recorded_entry from to misp kind) ≡ true
  pub mispredicted : is_mispredicted (recorded_entry from to misp kind) ≡ misp
  pub source : source_address (recorded_entry from to misp kind) ≡ from
  pub target : target_address (recorded_entry from to misp kind) ≡ to
  pub type : (recorded_entry from to misp kind).kind ≡ kind

-- clearing V leaves both addresses, MISP and the type
pub record KeepsAllButV (e : Entry) : Type 0 where
  pub valid : is_valid (unlinked e) ≡ false
  pub mispredicted : is_mispredicted (unlinked e) ≡ is_mispredicted e
  pub source : source_address (unlinked e) ≡ source_address e
  pub target : target_address (unlinked e) ≡ target_address e
  pub kind : (unlinked e).kind ≡ e.kind
