-- What the contracts of the source over `std::io::Read` say of it.
use Rattle.std.specs.Prelude.{ℕ}
use Rattle.ctr_port.specs.declared.std_source.StdSource.{StdSource}

-- the reader that a source reads from, and how often a read failed
abbrev pub reader_of : {R : Type 0} → StdSource R → R
reader_of s = s.reader

abbrev pub read_faults : {R : Type 0} → StdSource R → ℕ
read_faults s = s.faults
