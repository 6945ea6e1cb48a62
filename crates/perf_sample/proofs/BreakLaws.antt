-- The first broken field, field by field.
use Rattle.std.proofs.Common.{◌≡◌, ◌≢◌, ℕ, ◌^◌, ◌<◌, List, [], ◌∷◌, ◌++◌, length, drop, Bool, true, false, if◌then◌else◌, nat_lt, Option, Some, None, refl, ap, ◌∙◌, subst, arith, length-append, le-ltb}
use Rattle.std.proofs.Math.Seq.{drop-append_seam}
use Rattle.byteorder.specs.Endian.{little_number}
use Rattle.byteorder.specs.Numbers.{length-bytes_low_first, little_number-reads_back}
use Rattle.perf_sample.specs.Spelling.{le}
use Rattle.perf_sample.specs.Breaks.{number_at, Field, cut_in, wrong_in, fault_in, or_on, first_of}
use Rattle.perf_sample.specs.Reading.{cut_at}
use Rattle.perf_sample.specs.declared.faults.SampleFault.{SampleFault}
use Rattle.perf_sample.specs.Layout.{LayoutWords}

abbrev Found : Type 0
Found = Option (SampleFault × List ℕ)

cut_first_by : (b : Bool) (field : Field) (rest : List ℕ) (w : Option SampleFault) (n : Found) (r : SampleFault × List ℕ) → (if b then Some (cut_in field, rest) else None) ≡ Some r
    → or_on (if b then Some (cut_in field) else w) rest n ≡ Some r
cut_first_by true field rest w n r e = e
cut_first_by false field rest w n r e = absurd cc

-- a field that is cut is the first that is broken
pub cut_first : (layout : LayoutWords) (size : ℕ) (field : Field) (fields : List Field) (bytes : List ℕ) (r : SampleFault × List ℕ) → cut_at field bytes ≡ Some r
    → first_of layout size (field ∷ fields) bytes ≡ Some r
unfolding first_of
cut_first layout size field fields bytes r e =
    cut_first_by (nat_lt (length bytes) 8) field (drop 8 bytes) (wrong_in layout size field bytes) (first_of layout size fields (drop 8 bytes)) r e

pub long : (y z : List ℕ) → length y ≡ 8 → nat_lt (length (y ++ z)) 8 ≡ false
long y z e = le-ltb (length (y ++ z)) 8 (omega (arith, e, length-append y z))

pub behind : (y z : List ℕ) (n : ℕ) → length y ≡ n → drop n (y ++ z) ≡ z
behind y z n e = subst (λ (k : ℕ). drop k (y ++ z) ≡ z) e (drop-append_seam y z)

-- a field whose value is right is passed over
pub passes : (layout : LayoutWords) (size : ℕ) (field : Field) (fields : List Field) (y z : List ℕ) → length y ≡ 8 → wrong_in layout size field (y ++ z) ≡ None
    → first_of layout size (field ∷ fields) (y ++ z) ≡ first_of layout size fields z
unfolding first_of
passes layout size field fields y z len right = rw (long y z len, right, behind y z 8 len) refl

-- a field whose value is wrong is the first that is broken
pub stops : (layout : LayoutWords) (size : ℕ) (field : Field) (fields : List Field) (y z : List ℕ) (f : SampleFault) → length y ≡ 8 → wrong_in layout size field (y ++ z) ≡ Some f
    → first_of layout size (field ∷ fields) (y ++ z) ≡ Some (f, z)
unfolding first_of
stops layout size field fields y z f len wrong = rw (long y z len, wrong, behind y z 8 len) refl

pub length_le : (k n : ℕ) → length (le k n) ≡ k
unfolding le
length_le k n = length-bytes_low_first 0 k n

-- a number that was spelled is read
pub number_read : (k n : ℕ) (z : List ℕ) → n < 256 ^ k → number_at 0 k (le k n ++ z) ≡ n
unfolding le number_at
number_read k n z small = little_number-reads_back k n z small

pub number_behind : (at k n : ℕ) (y z : List ℕ) → length y ≡ at → n < 256 ^ k → number_at at k (y ++ (le k n ++ z)) ≡ n
unfolding number_at le
number_behind at k n y z len small = ap (little_number k) (behind y (le k n ++ z) at len) ∙ little_number-reads_back k n z small

-- what breaks among some fields breaks among those and others behind them
early_by : (w : Option SampleFault) (rest : List ℕ) (n m : Found) (r : SampleFault × List ℕ) → (n ≡ Some r → m ≡ Some r) → or_on w rest n ≡ Some r → or_on w rest m ≡ Some r
early_by None rest n m r next e = next e
early_by (Some f) rest n m r next e = e

pub early : (layout : LayoutWords) (size : ℕ) (ps qs : List Field) (bytes : List ℕ) (r : SampleFault × List ℕ) → first_of layout size ps bytes ≡ Some r → first_of layout size (ps ++ qs) bytes ≡ Some r
unfolding first_of
early layout size [] qs bytes r e = absurd cc
early layout size (p ∷ ps) qs bytes r e =
    early_by (fault_in layout size p bytes) (drop 8 bytes) (first_of layout size ps (drop 8 bytes)) (first_of layout size (ps ++ qs) (drop 8 bytes)) r (early layout size ps qs (drop 8 bytes) r) e

pub not_empty : (y z : List ℕ) → 0 < length y → y ++ z ≢ []
not_empty [] z some e = omega (arith, some)
not_empty (b ∷ y) z some e = absurd cc
