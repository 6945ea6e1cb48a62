-- An image, piece by piece.
use Rattle.std.proofs.Common.{◌≡◌, ℕ, ◌+◌, ◌-◌, ◌<◌, ◌≤◌, min, List, [], ◌++◌, length, take, drop, Option, None, Some, Ok, if◌then◌else◌, nat_lt, Bool, true, false, refl, sym, ap, ◌∙◌, append_assoc, append-nil, take-append-drop, length-append, lt-ltb, le-ltb, arith}
use Rattle.std.proofs.Math.Seq.{take-append_seam, drop-append_seam}
use Rattle.std.proofs.lemmas.List.{length-take, drop_all}
use Rattle.std.specs.Io.KnownBytes.{IsAtEnd}
use Rattle.ctr_port.specs.InHand.{text_of, Same, Of}
use Rattle.ctr_port.proofs.InHand.{of_map, of_then, of_same}
use Rattle.sched_text.specs.Header.{refuse}
use Rattle.sched_text.specs.Images.{image_at, IsWithin}
use Rattle.sched_text.specs.declared.faults.Reason.TheVariants as reason

-- the text is what the image has so far, and what follows
abbrev pub Joins : List ℕ → List ℕ → List ℕ → Type 0
Joins image t t' = t ≡ image ++ t'

-- bytes in hand move behind those of the image
moved : (image hand xs : List ℕ) (n : ℕ) → image ++ (hand ++ xs) ≡ (image ++ take n hand) ++ (drop n hand ++ xs)
moved image hand xs n =
    sym (append_assoc image (take n hand) (drop n hand ++ xs)
    ∙ ap (λ (t : List ℕ). image ++ t) (sym (append_assoc (take n hand) (drop n hand) xs) ∙ ap (λ (t : List ℕ). t ++ xs) (take-append-drop n hand)))

pub joins_moved : (a : Option (List ℕ)) (hand hand' image image' : List ℕ) (left : Option (List ℕ)) (n : ℕ) → Of a (text_of hand left) (Joins image) → image' ≡ image ++ take n hand → hand' ≡ drop n hand
    → Of a (text_of hand' left) (Joins image')
joins_moved None hand hand' image image' left n h i w = tt
joins_moved (Some t) hand hand' image image' None n h i w = absurd h
joins_moved (Some t) hand hand' image image' (Some xs) n h i w = rw (i, w) (h ∙ moved image hand xs n)

-- nothing is in the image before the first byte
pub joins_none : (hand : List ℕ) (left : Option (List ℕ)) → Of (text_of hand left) (text_of hand left) (Joins [])
joins_none hand None = tt
joins_none hand (Some xs) = refl

-- a read changes nothing of the text
pub joins_read : (a : Option (List ℕ)) (hand hand' image : List ℕ) (left left' : Option (List ℕ)) → Of a (text_of hand left) (Joins image) → Same hand left hand' left' → Of a (text_of hand' left') (Joins image)
joins_read a hand hand' image left left' h same =
    of_then a (text_of hand left) (text_of hand' left') (Joins image) (λ t t'. t' ≡ t) (Joins image) h (of_same hand hand' left left' same) (λ x y z e f. e ∙ ap (λ (t : List ℕ). image ++ t) (sym f))

test_false : {A : Type 0} (b : Bool) (x y : A) → b ≡ false → (if b then x else y) ≡ y
test_false b x y e = rw e refl

test_true : {A : Type 0} (b : Bool) (x y : A) → b ≡ true → (if b then x else y) ≡ x
test_true b x y e = rw e refl

-- the image is whole
pub image_whole : (a b : Option (List ℕ)) (image : List ℕ) (line len : ℕ) → Of a b (Joins image) → length image ≡ len → Of a b (λ t t'. image_at line len t ≡ Ok (image, t'))
image_whole a b image line len h e =
    of_map a b (Joins image) (λ t t'. image_at line len t ≡ Ok (image, t')) h
    (λ t t' j.
    let long : len ≤ length (image ++ t') = omega (arith, length-append image t', e) in
    rw (j, ← e) (test_false (nat_lt (length (image ++ t')) (length image)) (refuse line reason.Cut) (Ok (take (length image) (image ++ t'), drop (length image) (image ++ t'))) (le-ltb (length (image ++ t')) (length image) (omega (arith, long, e)))
    ∙ ap Ok (rw (take-append_seam image t', drop-append_seam image t') refl)))

-- the text ended inside the image
pub image_cut : (a : Option (List ℕ)) (hand image : List ℕ) (left : Option (List ℕ)) (line len : ℕ) → Of a (text_of hand left) (Joins image) → length image < len → hand ≡ [] → IsAtEnd left
    → Of a (text_of hand left) (λ t t'. image_at line len t ≡ refuse line reason.Cut)
image_cut None hand image left line len h short none end = tt
image_cut (Some t) hand image None line len h short none end = absurd h
image_cut (Some t) hand image (Some xs) line len h short none end =
    let whole : t ≡ image = h ∙ rw (none, end) (append-nil image) in
    test_true (nat_lt (length t) len) (refuse line reason.Cut) (Ok (take len t, drop len t)) (lt-ltb (length t) len (rw whole short))

-- a read failed inside the image
pub image_within : (a b : Option (List ℕ)) (image : List ℕ) (len : ℕ) → Of a b (Joins image) → length image < len → Of a b (IsWithin len)
image_within a b image len h short =
    of_map a b (Joins image) (IsWithin len) h (λ t t' j. (length image, short, sym (ap (drop (length image)) j ∙ drop-append_seam image t')))

-- how much moved
pub took : (hand hand' image image' : List ℕ) (len : ℕ) → length image ≤ len → image' ≡ image ++ take (min (len - length image) (length hand)) hand
    → hand' ≡ drop (min (len - length image) (length hand)) hand
    → (length image' ≤ len) × (length image' < len → hand' ≡ []) × (len ≤ length image + length hand → length image' ≡ len) × (0 < length hand → length image < len → length image < length image')
    × (length image + length hand ≤ len → hand' ≡ [])
took hand hand' image image' len short i w =
    let n = min (len - length image) (length hand) in
    let size : length image' ≡ length image + length (take n hand) = ap length i ∙ length-append image (take n hand) in
    let part : length (take n hand) ≡ min n (length hand) = length-take n hand in (
      omega (arith, size, part),
      λ less. let all : length hand ≤ n = omega (arith, size, part, less) in w ∙ drop_all n hand all,
      λ enough. omega (arith, size, part, enough),
      λ some more. omega (arith, size, part, some, more),
      λ few. let all : length hand ≤ n = omega (arith, few) in w ∙ drop_all n hand all,
    )
