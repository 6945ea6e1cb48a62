-- What the contracts of the sink over `std::io::Write` say of it.
use Rattle.std.specs.Prelude.{ℕ}
use Rattle.ctr_port.specs.declared.std_sink.StdSink.{StdSink}

-- the writer that a sink writes to, and how often a write failed
abbrev pub writer_of : {W : Type 0} → StdSink W → W
writer_of s = s.writer

abbrev pub write_faults : {W : Type 0} → StdSink W → ℕ
write_faults s = s.faults
