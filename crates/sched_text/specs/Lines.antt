-- The lines of a text and the words of a line. A line ends with one LF, and words are parted by one
-- space.
use Rattle.std.specs.Prelude.{ℕ, zero, suc, Bool, if◌then◌else◌, eqb, List, [], ◌∷◌, get_or}
use Rattle.std.specs.List.{slice_split}
use Rattle.sched_text.specs.declared.limits.TheConstants.{LINE_FEED, LINE_LIMIT}

-- what a text begins with
pub data LineCut : Type 0 where
  -- a line, and what follows its LF
  Line : List ℕ → List ℕ → LineCut
  -- 256 bytes, and no LF among them
  Long : LineCut
  -- the text ends before either
  Open : LineCut

-- the same with a byte in front
abbrev pub put_front : ℕ → LineCut → LineCut
put_front b (Line line rest) = Line (b ∷ line) rest
put_front b Long = Long
put_front b Open = Open

-- the first line, where fewer than `room` bytes may stand before its LF
unfoldable pub line_within : ℕ → List ℕ → LineCut
line_within zero text = Long
line_within (suc room) [] = Open
line_within (suc room) (b ∷ text) =
    if eqb b LINE_FEED then Line [] text else put_front b (line_within room text)

abbrev pub line_at : List ℕ → LineCut
line_at text = line_within LINE_LIMIT text

abbrev pub is_space : ℕ → Bool
is_space b = eqb b 32

-- two spaces have an empty word between them, and a line without a space is one word
abbrev pub words : List ℕ → List (List ℕ)
words line = slice_split is_space line

abbrev pub word : List ℕ → ℕ → List ℕ
word line i = get_or (words line) i []
