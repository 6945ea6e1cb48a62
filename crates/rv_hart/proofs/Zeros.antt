-- Lists of one item again and again, looked through from the front.
use Rattle.std.proofs.Common.{◌≡◌, sym, ◌∙◌, ap, ℕ, ◌+◌, ◌<◌, List, ◌∷◌, [], ◌++◌, length, take, replicate, get_or, Some}
use Rattle.std.specs.List.{slice_get}
use Rattle.std.proofs.lemmas.List.{take_more, get_or-replicate, replicate-append-replicate}
use Rattle.std.proofs.lemmas.Option.{slice_get_within, get_or_from_slice_get}
use Rattle.std.proofs.Math.Seq.{take-length}

-- so far every item was the same, and so is this one
pub one_more : {A : Type 0} (xs : List A) (i : ℕ) (z x : A)
    → take i xs ≡ replicate i z → slice_get xs i ≡ Some x → x ≡ z → take (i + 1) xs ≡ replicate (i + 1) z
one_more xs i z x same got is =
    take_more xs i z (slice_get_within xs i x got)
    ∙ ap (λ (front : List _). front ++ (get_or xs i z ∷ [])) same
    ∙ ap (λ (item : _). replicate i z ++ (item ∷ [])) (get_or_from_slice_get xs i x z got ∙ is)
    ∙ replicate-append-replicate i 1 z

-- this one differs
pub other_one : {A : Type 0} (xs : List A) (i n : ℕ) (z x : A)
    → slice_get xs i ≡ Some x → i < n → (x ≡ z → ⊥) → xs ≡ replicate n z → ⊥
other_one xs i n z x got within differs same =
    differs (sym (get_or_from_slice_get xs i x z got) ∙ ap (λ (l : List _). get_or l i z) same ∙ get_or-replicate n i z z within)

-- all were looked through
pub all_same : {A : Type 0} (xs : List A) (n : ℕ) (z : A) → length xs ≡ n → take n xs ≡ replicate n z → xs ≡ replicate n z
all_same xs n z full same = sym (take-length xs) ∙ ap (λ (k : ℕ). take k xs) full ∙ same
