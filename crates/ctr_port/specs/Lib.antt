-- What a reader must believe: Counts, Source, Sink, Script, MemorySource and MemorySink. InHand
-- says what is known of a source that may tell nothing, and StdSource and StdSink tie the ends over
-- std to the traits.
pub mod Counts
pub mod Source
pub mod InHand
pub mod Sink
pub mod Script
pub mod MemorySource
pub mod MemorySink
pub mod StdSource
pub mod StdSink
