-- What a reader that keeps bytes in hand has before it.
use Rattle.std.specs.Prelude.{ℕ, List, ⊤, None, Some}
use Rattle.std.specs.declared.option.Option.{Option}
use Rattle.std.specs.Io.KnownBytes.{Keeps, prepend_known}

-- the bytes in hand, followed by those that the source has left; none where the source doesn't tell
abbrev pub text_of : List ℕ → Option (List ℕ) → Option (List ℕ)
text_of hand left = prepend_known hand left

-- nothing was lost and nothing added: what a read gave is in hand
abbrev pub Same : List ℕ → Option (List ℕ) → List ℕ → Option (List ℕ) → Type 0
Same hand left hand' left' = Keeps (text_of hand left) (text_of hand' left')

-- P holds of the text before and the text after; nothing is said of a source that doesn't tell
abbrev pub Of : Option (List ℕ) → Option (List ℕ) → (List ℕ → List ℕ → Type 0) → Type 0
Of None text' P = ⊤
Of (Some text) None P = ⊥
Of (Some text) (Some text') P = P text text'
