-- The header of a sample, which comes first.
use Rattle.std.proofs.Common.{◌≡◌, ◌≢◌, ℕ, ◌^◌, ◌<◌, List, [], ◌∷◌, ◌++◌, map, length, drop, Bool, true, false, nat_eq, Option, Some, None, refl, sym, ap, ◌∙◌, arith, length-append, append_assoc, append-nil, lt-ltb, inl, inr}
use Rattle.std.proofs.lemmas.Bool.{ne_eqb, eq-eqb}
use Rattle.std.proofs.lemmas.List.{drop_all}
use Rattle.std.specs.Io.KnownBytes.{Consumes, IsAtEnd}
use Rattle.ctr_port.specs.InHand.{Of}
use Rattle.ctr_port.proofs.InHand.{of_map}
use Rattle.perf_sample.specs.Layout.{LayoutWords, fields_in, nr_at}
use Rattle.perf_sample.specs.Fields.{all_fields}
use Rattle.perf_sample.specs.Spelling.{le, header_bytes}
use Rattle.perf_sample.specs.Breaks.{number_at, is_size, Header, At, branch_fields, fields_of, fault_in, header_break, or_on, first_of, first_break, unless}
use Rattle.perf_sample.specs.Format.{Cause, OfRead, OfCount, OfBytes, Break, BreaksBy, IsPartial, BrokeBy, Broke}
use Rattle.perf_sample.specs.Header.{HeaderBroke}
use Rattle.perf_sample.specs.Reading.{sample_faults, cause_of}
use Rattle.perf_sample.specs.declared.faults.SampleFault.{SampleFault}
use Rattle.perf_sample.specs.declared.faults.SampleFault.TheVariants as fault
use Rattle.perf_sample.proofs.BreakLaws.{long, behind, length_le, number_read, number_behind, not_empty}
use Rattle.perf_sample.proofs.ReadingLaws.{of_taken}

-- the bytes of a header of any type
abbrev pub any_header : ℕ → ℕ → ℕ → List ℕ
any_header kind misc size = le 4 kind ++ le 2 misc ++ le 2 size

pub length_header : (kind misc size : ℕ) → length (any_header kind misc size) ≡ 8
length_header kind misc size =
    omega (arith, length-append (le 4 kind ++ le 2 misc) (le 2 size), length-append (le 4 kind) (le 2 misc), length_le 4 kind, length_le 2 misc, length_le 2 size)

pub kind_read : (kind misc size : ℕ) (z : List ℕ) → kind < 2 ^ 32 → number_at 0 4 (any_header kind misc size ++ z) ≡ kind
kind_read kind misc size z small =
    ap (number_at 0 4) (append_assoc (le 4 kind ++ le 2 misc) (le 2 size) z ∙ append_assoc (le 4 kind) (le 2 misc) (le 2 size ++ z)) ∙ number_read 4 kind (le 2 misc ++ (le 2 size ++ z)) small

pub size_read : (kind misc size : ℕ) (z : List ℕ) → size < 2 ^ 16 → number_at 6 2 (any_header kind misc size ++ z) ≡ size
size_read kind misc size z small =
    ap (number_at 6 2) (append_assoc (le 4 kind ++ le 2 misc) (le 2 size) z)
    ∙ number_behind 6 2 size (le 4 kind ++ le 2 misc) z (omega (arith, length-append (le 4 kind) (le 2 misc), length_le 4 kind, length_le 2 misc)) small

-- a header with a wrong type, or a wrong size
pub any_header_stops : (is_right : ℕ → Bool) (kind misc size : ℕ) (z : List ℕ) (f : SampleFault) → kind < 2 ^ 32 → size < 2 ^ 16
    → unless (nat_eq kind 9) fault.Kind (unless (is_right size) fault.Size None) ≡ Some f → header_break is_right (any_header kind misc size ++ z) ≡ Some (f, z)
unfolding header_break
any_header_stops is_right kind misc size z f small_kind small_size wrong =
    let y = any_header kind misc size in
    rw (long y z (length_header kind misc size), kind_read kind misc size z small_kind, size_read kind misc size z small_size, wrong, behind y z 8 (length_header kind misc size)) refl

-- a right one
pub any_header_passes : (is_right : ℕ → Bool) (misc size : ℕ) (z : List ℕ) → size < 2 ^ 16 → is_right size ≡ true → header_break is_right (header_bytes misc size ++ z) ≡ None
unfolding header_break
any_header_passes is_right misc size z small right =
    let y = any_header 9 misc size in
    rw (long y z (length_header 9 misc size), kind_read 9 misc size z (omega arith), size_read 9 misc size z small, right) refl

pub any_header_cut : (is_right : ℕ → Bool) (x : List ℕ) → length x < 8 → header_break is_right x ≡ Some (fault.Header, [])
unfolding header_break
any_header_cut is_right x short = rw (lt-ltb (length x) 8 short) (ap (λ (t : List ℕ). Some (fault.Header, t)) (drop_all 8 x (omega (arith, short))))

pub kind_apart : (kind misc size : ℕ) (a b : Option (List ℕ)) → kind < 2 ^ 32 → size < 2 ^ 16 → (kind ≡ 9 → ⊥) → Consumes a b (any_header kind misc size)
    → (is_right : ℕ → Bool) → Of a b (λ t t'. (t ≢ []) × (header_break is_right t ≡ Some (fault.Kind, t')))
kind_apart kind misc size a b small_kind small_size wrong took is_right =
    let y = any_header kind misc size in
    of_taken a b y (λ t t'. (t ≢ []) × (header_break is_right t ≡ Some (fault.Kind, t'))) took
    (λ z. (not_empty y z (omega (arith, length_header kind misc size)), any_header_stops is_right kind misc size z fault.Kind small_kind small_size (rw (ne_eqb kind 9 wrong) refl)))

-- the input ended in a header
pub header_ended : (n : ℕ) (a b : Option (List ℕ)) → (n ≡ 0 → ⊥) → ((x : List ℕ) × (length x ≡ n) × (n < 8) × Consumes a b x × IsAtEnd b)
    → (is_right : ℕ → Bool) → Of a b (λ t t'. (t ≢ []) × (header_break is_right t ≡ Some (fault.Header, t')))
header_ended n None b some taken is_right = tt
header_ended n (Some t) None some (x, len, short, took, end) is_right = absurd took
header_ended n (Some t) (Some u) some (x, len, short, took, end) is_right =
    let whole : t ≡ x = took ∙ ap (λ (s : List ℕ). x ++ s) end ∙ append-nil x in
    rw (whole, end) (λ none. some (sym len ∙ ap length none), any_header_cut is_right x (omega (arith, len, short)))

-- a read failed in it
pub header_failed : (a b : Option (List ℕ)) → ((x : List ℕ) × (length x < 8) × Consumes a b x) → (x : List ℕ) × Consumes a b x × (length x < 8)
header_failed a b (x, short, took) = (x, took, short)

-- a broken header is the first broken field of a sample
header_first_by : (w : Option SampleFault) (rest : List ℕ) (m : Break SampleFault)
    (r : SampleFault × List ℕ) → or_on w rest None ≡ Some r → or_on w rest m ≡ Some r
header_first_by (Some f) rest m r e = e
header_first_by None rest m r e = absurd cc

header_first : (layout : LayoutWords) (x : List ℕ) (r : SampleFault × List ℕ)
    → header_break (is_size layout) x ≡ Some r → first_break layout x ≡ Some r
unfolding first_break fields_of header_break first_of
header_first layout x r e =
    let size = number_at 6 2 x in
    let nr = number_at (nr_at layout) 8 x in
    header_first_by (fault_in layout size Header x) (drop 8 x)
    (first_of layout size (map At (fields_in layout all_fields) ++ branch_fields 0 nr) (drop 8 x)) r
    e

partial : (layout : LayoutWords) (x : List ℕ) → length x < 8
    → IsPartial sample_faults (first_break layout) x
partial layout [] short = inl refl
partial layout (b ∷ x) short = inr (
  fault.Header,
  refl,
  record {
    some = λ none. absurd cc;
    first =
        header_first layout (b ∷ x) (fault.Header, [])
        (any_header_cut (is_size layout) (b ∷ x) short);
  },
)

header_broke_by : (c : Cause) (layout : LayoutWords) (a b : Option (List ℕ)) (f : SampleFault)
    → HeaderBroke c a b f → BrokeBy sample_faults c (first_break layout) a b f
header_broke_by OfRead layout a b f (x, took, short) = (x, took, partial layout x short)
header_broke_by OfCount layout a b f h = absurd h
header_broke_by OfBytes layout a b f h =
    of_map a b (λ t t'. (t ≢ []) × (header_break (is_size layout) t ≡ Some (f, t')))
    (λ t t'. BreaksBy (first_break layout) t f t') (h (is_size layout))
    (λ t t' p. record { some = p.0; first = header_first layout t (f, t') p.1 })

-- reading stopped in the header of a sample
pub header_broke : (layout : LayoutWords) (a b : Option (List ℕ)) (f : SampleFault)
    → HeaderBroke (cause_of f) a b f → Broke sample_faults (first_break layout) a b f
header_broke layout a b f h = header_broke_by (cause_of f) layout a b f h

-- no sample of the layout has the size in the header
pub size_broke : (layout : LayoutWords) (misc size : ℕ) (a b : Option (List ℕ)) → size < 2 ^ 16
    → is_size layout size ≡ false → Consumes a b (header_bytes misc size)
    → Broke sample_faults (first_break layout) a b fault.Size
size_broke layout misc size a b small wrong took =
    of_taken a b (header_bytes misc size) (λ t t'. BreaksBy (first_break layout) t fault.Size t')
    took
    (λ z. record {
      some = not_empty (header_bytes misc size) z (omega (arith, length_header 9 misc size));
      first =
          header_first layout (header_bytes misc size ++ z) (fault.Size, z)
          (any_header_stops (is_size layout) 9 misc size z fault.Size (omega arith) small
          (rw wrong refl));
    })
