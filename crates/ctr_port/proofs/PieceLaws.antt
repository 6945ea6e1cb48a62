-- What readers and writers in pieces want of the ends: pieces joined, proper prefixes, and reads
-- into a buffer's middle.
use Rattle.std.proofs.Common.{◌≡◌, ℕ, ◌+◌, ◌<◌, ◌≤◌, List, [], ◌++◌, length, take, drop, arith, sym, ◌∙◌, ap, subst, length-append, take-append-drop}
use Rattle.std.proofs.KnownBytes.{Consumes-nil, Consumes-trans}
use Rattle.std.proofs.Math.Seq.{take-append-add, take-add, take-append_seam}
use Rattle.std.proofs.lemmas.List.{take-append-le, length-take-le, drop-drop}
use Rattle.std.specs.Io.KnownBytes.{Consumes}
use Rattle.std.specs.declared.option.Option.{Option}
use Rattle.ctr_port.specs.Sink.{GainsPart}
use borrow.Rule.Slice.PartMut.{put_mid, post_of}

-- no byte taken leaves a source as it was
pub taken_nothing : (a : Option (List ℕ)) → Consumes a a []
taken_nothing a = Consumes-nil a

-- bytes taken, and then more bytes taken, are all of them taken
pub taken_then : (a b c : Option (List ℕ)) (x y : List ℕ) → Consumes a b x → Consumes b c y → Consumes a c (x ++ y)
taken_then a b c x y p q = Consumes-trans a b c x y p q

-- bytes given at a place of a list, and then more of it, are the list up to the new place
pub taken_more : (a b c : Option (List ℕ)) (xs : List ℕ) (at n : ℕ) → Consumes a b (take at xs) → Consumes b c (take n (drop at xs)) → Consumes a c (take (at + n) xs)
taken_more a b c xs at n p q = subst (Consumes a c) (sym (take-add at n xs)) (taken_then a b c (take at xs) (take n (drop at xs)) p q)

-- the same of bytes appended from a place of a list on
pub gained_more : {S : Type 0} (gained : S → List ℕ → S → Type 0) → ((a b c : S) (x y : List ℕ) → gained a x b → gained b y c → gained a (x ++ y) c)
    → (a b c : S) (xs rest : List ℕ) (at n : ℕ) → rest ≡ drop at xs → gained a (take at xs) b → gained b (take n rest) c → gained a (take (at + n) xs) c
gained_more gained joins a b c xs rest at n e p q =
    subst (λ t. gained a t c) (sym (take-add at n xs))
    (joins a b c (take at xs) (take n (drop at xs)) p (subst (λ t. gained b (take n t) c) e q))

-- what a source has left is what it gave and what it has left then
pub given_next : (xs new rest : List ℕ) (at n : ℕ) → length new ≡ n → new ≡ take n (drop at xs) → drop at xs ≡ take n (new ++ rest) ++ drop (at + n) xs
given_next xs new rest at n len e =
    sym (take-append-drop n (drop at xs))
    ∙ ap (λ t. t ++ drop n (drop at xs)) (sym e ∙ sym (ap (λ m. take m (new ++ rest)) (sym len) ∙ take-append_seam new rest))
    ∙ ap (λ t. take n (new ++ rest) ++ t) (drop-drop n at xs)

-- the whole of what comes first, and a proper prefix of what follows, are a proper prefix of both
-- together
pub part_after : {S : Type 0} (gained : S → List ℕ → S → Type 0) → ((a b c : S) (x y : List ℕ) → gained a x b → gained b y c → gained a (x ++ y) c)
    → (a b c : S) (x y : List ℕ) → gained a x b → GainsPart gained b c y → GainsPart gained a c (x ++ y)
part_after gained joins a b c x y h p = (
  length x + p.0,
  omega (arith, p.1, length-append x y),
  subst (λ t. gained a t c) (sym (take-append-add x y p.0)) (joins a b c x (take p.0 y) h p.2),
)

-- a proper prefix of what comes first is one of the whole
pub part_of_more : {S : Type 0} (gained : S → List ℕ → S → Type 0) (a b : S) (x y : List ℕ) → GainsPart gained a b x → GainsPart gained a b (x ++ y)
part_of_more gained a b x y p = (
  p.0,
  omega (arith, p.1, length-append x y),
  subst (λ t. gained a t b) (sym (take-append-le p.0 x y (omega (arith, p.1)))) p.2,
)

-- a buffer after n bytes were read into it from a place on, up to the new place
pub read_more : (at k n : ℕ) (buf ys : List ℕ) → at ≤ length buf → n ≤ length ys → take (at + n) (put_mid at k buf ys) ≡ take at buf ++ take n ys
read_more at k n buf ys h within =
    let front = take at buf in
    let rest = post_of at k buf in
    let len : length front ≡ at = length-take-le at buf h in
    ap (λ m. take (m + n) (front ++ (ys ++ rest))) (sym len) ∙ take-append-add front (ys ++ rest) n ∙ ap (λ t. front ++ t) (take-append-le n ys rest within)

-- and the new place is within it
pub read_within : (at k n : ℕ) (buf ys : List ℕ) → at ≤ length buf → n ≤ length ys → at + n ≤ length (put_mid at k buf ys)
read_within at k n buf ys h within =
    let front = take at buf in
    let rest = post_of at k buf in
    omega (arith, length-take-le at buf h, length-append front (ys ++ rest), length-append ys rest, within)

-- a proper prefix isn't the whole
pub part_apart : (held held' bytes : List ℕ) (n : ℕ) → n < length bytes → held' ≡ held ++ take n bytes → held' ≡ held ++ bytes → ⊥
part_apart held held' bytes n less part whole =
    omega (arith, less, ap length part, ap length whole, length-append held (take n bytes), length-append held bytes, length-take-le n bytes (omega (arith, less)))
