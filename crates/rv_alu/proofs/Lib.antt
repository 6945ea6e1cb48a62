mod ProductLemmas
mod DivisionLemmas
