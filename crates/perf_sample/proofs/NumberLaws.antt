-- Numbers as bytes, and back.
use Rattle.std.proofs.Common.{◌≡◌, ℕ, zero, suc, ◌+◌, ◌<◌, List, [], ◌∷◌, ◌++◌, length, take, drop, get_or, sym, ap, ◌∙◌, subst, arith, inl, inr, append_assoc}
use Rattle.std.proofs.lemmas.Nat.{le_bytes_2, le_bytes_4, le_bytes_8}
use Rattle.std.proofs.lemmas.Bool.{cases_lt}
use Rattle.std.proofs.lemmas.List.Elements.{All-head, All-tail}
use Rattle.std.specs.List.{All}
use Rattle.std.proofs.lemmas.List.{get_or-drop, length-drop, length-take, get_or-take, get_or_past, take-append-drop}
use Rattle.byteorder.specs.Endian.{little_number}
use Rattle.perf_sample.specs.Spelling.{le}

-- each number of a list is one of a byte
abbrev pub AreBytes : List ℕ → Type 0
AreBytes bytes = (i : ℕ) → get_or bytes i 0 < 256

-- the bytes of the number that eight bytes spell are those bytes
pub all_are_bytes : (bytes : List ℕ) → All (λ b. b < 256) bytes → AreBytes bytes
all_are_bytes [] all i = omega arith
all_are_bytes (b ∷ bs) all zero = All-head (λ n. n < 256) b bs all
all_are_bytes (b ∷ bs) all (suc i) = all_are_bytes bs (All-tail (λ n. n < 256) b bs all) i

pub number_back : (bytes : List ℕ) → length bytes ≡ 8 → AreBytes bytes → le 8 (little_number 8 bytes) ≡ bytes
unfolding le
number_back bytes len are = le_bytes_8 bytes (little_number 8 bytes) len are (omega arith)

pub number_back_4 : (bytes : List ℕ) → length bytes ≡ 4 → AreBytes bytes → le 4 (little_number 4 bytes) ≡ bytes
unfolding le
number_back_4 bytes len are = le_bytes_4 bytes (little_number 4 bytes) len are (omega arith)

number_back_2 : (bytes : List ℕ) → length bytes ≡ 2 → AreBytes bytes → le 2 (little_number 2 bytes) ≡ bytes
unfolding le
number_back_2 bytes len are = le_bytes_2 bytes (little_number 2 bytes) len are (omega arith)

pub are_behind : (n : ℕ) (bytes : List ℕ) → AreBytes bytes → AreBytes (drop n bytes)
are_behind n bytes are i = rw get_or-drop (are (n + i))

pub are_before : (n : ℕ) (bytes : List ℕ) → AreBytes bytes → AreBytes (take n bytes)
are_before n bytes are i =
    elim (cases_lt i n) [
      | inl lt ↦ rw (get_or-take n bytes i 0 lt) (are i)
      | inr le ↦ rw (get_or_past (take n bytes) i 0 (omega (arith, length-take n bytes))) (omega arith)
    ]

pub halves_back : (bytes low high : List ℕ) → length bytes ≡ 8 → AreBytes bytes → low ≡ take 4 bytes → high ≡ drop 4 bytes → le 4 (little_number 4 low) ++ le 4 (little_number 4 high) ≡ bytes
halves_back bytes low high len are l h =
    let first : le 4 (little_number 4 (take 4 bytes)) ≡ take 4 bytes = number_back_4 (take 4 bytes) (omega (arith, len, length-take 4 bytes)) (are_before 4 bytes are) in
    let second : le 4 (little_number 4 (drop 4 bytes)) ≡ drop 4 bytes = number_back_4 (drop 4 bytes) (omega (arith, len, length-drop 4 bytes)) (are_behind 4 bytes are) in
    rw (l, h, first, second) (take-append-drop 4 bytes)

pub header_back : (bytes kind rest misc size : List ℕ) → length bytes ≡ 8 → AreBytes bytes → kind ≡ take 4 bytes → rest ≡ drop 4 bytes → misc ≡ take 2 rest → size ≡ drop 2 rest
    → le 4 (little_number 4 kind) ++ le 2 (little_number 2 misc) ++ le 2 (little_number 2 size) ≡ bytes
header_back bytes kind rest misc size len are k r m s =
    let long : length rest ≡ 4 = ap length r ∙ omega (arith, len, length-drop 4 bytes) in
    let behind : AreBytes rest = subst AreBytes (sym r) (are_behind 4 bytes are) in
    let first : le 4 (little_number 4 (take 4 bytes)) ≡ take 4 bytes = number_back_4 (take 4 bytes) (omega (arith, len, length-take 4 bytes)) (are_before 4 bytes are) in
    let second : le 2 (little_number 2 (take 2 rest)) ≡ take 2 rest = number_back_2 (take 2 rest) (omega (arith, long, length-take 2 rest)) (are_before 2 rest behind) in
    let third : le 2 (little_number 2 (drop 2 rest)) ≡ drop 2 rest = number_back_2 (drop 2 rest) (omega (arith, long, length-drop 2 rest)) (are_behind 2 rest behind) in
    let joined : (take 4 bytes ++ take 2 rest) ++ drop 2 rest ≡ bytes =
    append_assoc (take 4 bytes) (take 2 rest) (drop 2 rest) ∙ ap (λ (t : List ℕ). take 4 bytes ++ t) (take-append-drop 2 rest ∙ r) ∙ take-append-drop 4 bytes in
    rw (k, m, s, first, second, third) joined
