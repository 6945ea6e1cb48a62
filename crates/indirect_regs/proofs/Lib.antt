mod AccessLemmas
mod LawLemmas
mod FrozenLemmas
