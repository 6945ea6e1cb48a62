-- An entry of the record buffer as numbers (RISC-V Control Transfer Records 1.0, registers ctrsource, ctrtarget and ctrdata).
use Rattle.std.specs.Prelude.{ℕ, ◌+◌, ◌*◌, ◌/◌, ◌%◌, ◌^◌, ◌<◌, Bool, true, false, List, filter, nat_eq}
use Rattle.ctr_buffer.specs.declared.slot.Part.{Part}
use Rattle.ctr_buffer.specs.declared.slot.Part.TheVariants.{Source, Target, Kind}

-- the source word, the target word, and the code of the transfer type
pub record Entry : Type 0 where
  pub source : ℕ
  pub target : ℕ
  pub kind : ℕ

-- the entry that nothing was recorded in
abbrev pub zero_entry : Entry
zero_entry = record { source = 0; target = 0; kind = 0 }

-- what a part of an entry can hold: words of 64 bits, and a type of four bits
abbrev pub FitsPart : Part → ℕ → Type 0
FitsPart Source word = word < 2 ^ 64
FitsPart Target word = word < 2 ^ 64
FitsPart Kind code = code < 16

-- an entry each of whose parts is what the part can hold
abbrev pub IsEntry : Entry → Type 0
IsEntry e = FitsPart Source e.source × FitsPart Target e.target × FitsPart Kind e.kind

-- a part of an entry, and an entry with one part replaced
abbrev pub part_of : Part → Entry → ℕ
part_of Source e = e.source
part_of Target e = e.target
part_of Kind e = e.kind

abbrev pub with_part : Entry → Part → ℕ → Entry
with_part e Source value = record { source = value; target = e.target; kind = e.kind }
with_part e Target value = record { source = e.source; target = value; kind = e.kind }
with_part e Kind value = record { source = e.source; target = e.target; kind = value }

-- a word is an address, which is even, and a flag in bit 0
abbrev pub address_in : ℕ → ℕ
address_in word = word / 2 * 2

abbrev pub flag_in : ℕ → Bool
flag_in word = nat_eq (word % 2) 1

abbrev pub with_flag : ℕ → Bool → ℕ
with_flag address true = address + 1
with_flag address false = address

-- V, the flag of the source word: the entry holds a transfer
abbrev pub is_valid : Entry → Bool
is_valid e = flag_in e.source

-- MISP, the flag of the target word: the transfer was mispredicted
abbrev pub is_mispredicted : Entry → Bool
is_mispredicted e = flag_in e.target

abbrev pub source_address : Entry → ℕ
source_address e = address_in e.source

abbrev pub target_address : Entry → ℕ
target_address e = address_in e.target

-- the entry that a transfer is recorded as, from one even address to another
abbrev pub recorded_entry : ℕ → ℕ → Bool → ℕ → Entry
recorded_entry source target misp kind = record { source = with_flag source true; target = with_flag target misp; kind = kind }

-- the entry with V cleared
abbrev pub unlinked : Entry → Entry
unlinked e = record { source = address_in e.source; target = e.target; kind = e.kind }

-- the entries that hold a transfer, in the same order
abbrev pub valid_entries : List Entry → List Entry
valid_entries slots = filter is_valid slots
