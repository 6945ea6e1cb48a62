mod FaultLemmas
mod RecordedLemmas
mod StraightLemmas
