-- One branch, field by field.
use Rattle.std.proofs.Common.{◌≡◌, ℕ, suc, ◌+◌, ◌*◌, ◌-◌, ◌^◌, ◌<◌, ◌≤◌, nat_lt, nat_le, nat_eq, false, true, le-ltb, lt-ltb, List, [], ◌∷◌, ◌++◌, length, Option, Some, None, refl, sym, ap, ◌∙◌, arith, append_assoc}
use Rattle.std.proofs.lemmas.Bool.{lt-leb, le-leb, ne_eqb}
use Rattle.std.proofs.lemmas.List.Elements.{All-head, All-tail}
use Rattle.std.specs.List.{flat_map}
use Rattle.std.specs.Io.KnownBytes.{Consumes}
use Rattle.perf_sample.specs.declared.sample.Branch.{Branch}
use Rattle.perf_sample.specs.Layout.{LayoutWords, fixed_len, FlagsFit}
use Rattle.ctr_port.specs.InHand.{Of}
use Rattle.ctr_port.proofs.PieceLaws.{taken_then}
use Rattle.perf_sample.specs.Spelling.{le, branch_bytes}
use Rattle.perf_sample.specs.Breaks.{number_at, At, first_of, branch_fields, unless}
use Rattle.perf_sample.specs.Reading.{sample_faults, cut_at, Stopped}
use Rattle.perf_sample.specs.declared.faults.SampleFault.{SampleFault}
use Rattle.perf_sample.specs.declared.faults.SampleFault.TheVariants as fault
use Rattle.perf_sample.specs.declared.faults.Place.TheVariants as place
use Rattle.perf_sample.proofs.BreakLaws.{cut_first, passes, stops, early, length_le, number_read}
use Rattle.perf_sample.proofs.ReadingLaws.{stops_after, stops_as, of_taken}

pub from_stops : (a b : Option (List ℕ)) (i : ℕ) (f : SampleFault) → Stopped (cut_at (At (place.From i))) a b f
    → (layout : LayoutWords) (size : ℕ) → Stopped (first_of layout size (branch_fields i 1)) a b f
unfolding branch_fields
from_stops a b i f h layout size =
    stops_as sample_faults a b (cut_at (At (place.From i))) (first_of layout size (branch_fields i 1)) f
    (λ z r e. cut_first layout size (At (place.From i)) (At (place.To i) ∷ At (place.Flags i) ∷ []) z r e) h

-- what follows from of a branch
behind_from : (layout : LayoutWords) (size i from : ℕ) (z : List ℕ) → first_of layout size (branch_fields i 1) (le 8 from ++ z) ≡ first_of layout size (At (place.To i) ∷ At (place.Flags i) ∷ []) z
unfolding branch_fields
behind_from layout size i from z = passes layout size (At (place.From i)) (At (place.To i) ∷ At (place.Flags i) ∷ []) (le 8 from) z (length_le 8 from) refl

behind_to : (layout : LayoutWords) (size i from to : ℕ) (z : List ℕ) → first_of layout size (branch_fields i 1) ((le 8 from ++ le 8 to) ++ z) ≡ first_of layout size (At (place.Flags i) ∷ []) z
behind_to layout size i from to z =
    ap (first_of layout size (branch_fields i 1)) (append_assoc (le 8 from) (le 8 to) z)
    ∙ behind_from layout size i from (le 8 to ++ z)
    ∙ passes layout size (At (place.To i)) (At (place.Flags i) ∷ []) (le 8 to) z (length_le 8 to) refl

pub to_stops : (a b c : Option (List ℕ)) (i from : ℕ) (f : SampleFault) → Consumes a b (le 8 from) → Stopped (cut_at (At (place.To i))) b c f
    → (layout : LayoutWords) (size : ℕ) → Stopped (first_of layout size (branch_fields i 1)) a c f
to_stops a b c i from f took h layout size =
    stops_after sample_faults a b c (le 8 from) (cut_at (At (place.To i))) (first_of layout size (branch_fields i 1)) f took
    (λ z r e. behind_from layout size i from z ∙ cut_first layout size (At (place.To i)) (At (place.Flags i) ∷ []) z r e) h

pub flags_stop : (a b c d : Option (List ℕ)) (i from to : ℕ) (f : SampleFault) → Consumes a b (le 8 from) → Consumes b c (le 8 to) → Stopped (cut_at (At (place.Flags i))) c d f
    → (layout : LayoutWords) (size : ℕ) → Stopped (first_of layout size (branch_fields i 1)) a d f
flags_stop a b c d i from to f first then h layout size =
    stops_after sample_faults a c d (le 8 from ++ le 8 to) (cut_at (At (place.Flags i))) (first_of layout size (branch_fields i 1)) f (taken_then a b c (le 8 from) (le 8 to) first then)
    (λ z r e. behind_to layout size i from to z ∙ cut_first layout size (At (place.Flags i)) [] z r e) h

-- a reserved flag
pub flags_wrong : (a b c d : Option (List ℕ)) (i from to flags : ℕ) → Consumes a b (le 8 from) → Consumes b c (le 8 to) → Consumes c d (le 8 flags) → flags < 2 ^ 64 → 2 ^ 33 ≤ flags
    → (layout : LayoutWords) (size : ℕ) → Of a d (λ t t'. first_of layout size (branch_fields i 1) t ≡ Some (fault.FlagReserved i, t'))
flags_wrong a b c d i from to flags first then last small large layout size =
    of_taken a d ((le 8 from ++ le 8 to) ++ le 8 flags) (λ t t'. first_of layout size (branch_fields i 1) t ≡ Some (fault.FlagReserved i, t'))
    (taken_then a c d (le 8 from ++ le 8 to) (le 8 flags) (taken_then a b c (le 8 from) (le 8 to) first then) last)
    (λ z.
    let wrong : nat_lt (number_at 0 8 (le 8 flags ++ z)) (2 ^ 33) ≡ false = rw (number_read 8 flags z small) (le-ltb flags (2 ^ 33) large) in
    ap (first_of layout size (branch_fields i 1)) (append_assoc (le 8 from ++ le 8 to) (le 8 flags) z)
    ∙ behind_to layout size i from to (le 8 flags ++ z)
    ∙ stops layout size (At (place.Flags i)) [] (le 8 flags) z (fault.FlagReserved i) (length_le 8 flags) (rw wrong refl))

-- one whole branch is passed over
branch_passes : (layout : LayoutWords) (size i n : ℕ) (b : Branch) (z : List ℕ) → b.flags < 2 ^ 33 → first_of layout size (branch_fields i (suc n)) (branch_bytes b ++ z) ≡ first_of layout size (branch_fields (suc i) n) z
unfolding branch_fields
branch_passes layout size i n b z right =
    let others = branch_fields (suc i) n in
    let seen : nat_lt (number_at 0 8 (le 8 b.flags ++ z)) (2 ^ 33) ≡ true = rw (number_read 8 b.flags z (omega (arith, right))) (lt-ltb b.flags (2 ^ 33) right) in
    ap (first_of layout size (branch_fields i (suc n))) (append_assoc (le 8 b.from ++ le 8 b.to) (le 8 b.flags) z ∙ append_assoc (le 8 b.from) (le 8 b.to) (le 8 b.flags ++ z))
    ∙ passes layout size (At (place.From i)) (At (place.To i) ∷ At (place.Flags i) ∷ others) (le 8 b.from) (le 8 b.to ++ (le 8 b.flags ++ z)) (length_le 8 b.from) refl
    ∙ passes layout size (At (place.To i)) (At (place.Flags i) ∷ others) (le 8 b.to) (le 8 b.flags ++ z) (length_le 8 b.to) refl
    ∙ passes layout size (At (place.Flags i)) others (le 8 b.flags) z (length_le 8 b.flags) (rw seen refl)

-- whole branches are passed over
pub branches_pass : (layout : LayoutWords) (size i n : ℕ) (bs : List Branch) (z : List ℕ) → FlagsFit bs
    → first_of layout size (branch_fields i (length bs + n)) (flat_map branch_bytes bs ++ z) ≡ first_of layout size (branch_fields (i + length bs) n) z
branches_pass layout size i n [] z fit =
    let none : 0 + n ≡ n = omega arith in
    let here : i ≡ i + 0 = omega arith in
    ap (λ (k : ℕ). first_of layout size (branch_fields i k) z) none ∙ ap (λ (k : ℕ). first_of layout size (branch_fields k n) z) here
branches_pass layout size i n (b ∷ bs) z fit =
    let count : length (b ∷ bs) + n ≡ suc (length bs + n) = omega arith in
    let next : suc i + length bs ≡ i + length (b ∷ bs) = omega arith in
    ap (λ (k : ℕ). first_of layout size (branch_fields i k) (flat_map branch_bytes (b ∷ bs) ++ z)) count
    ∙ ap (first_of layout size (branch_fields i (suc (length bs + n)))) (append_assoc (branch_bytes b) (flat_map branch_bytes bs) z)
    ∙ branch_passes layout size i (length bs + n) b (flat_map branch_bytes bs ++ z) (All-head (λ b. b.flags < 2 ^ 33) b bs fit)
    ∙ branches_pass layout size (suc i) n bs z (All-tail (λ b. b.flags < 2 ^ 33) b bs fit)
    ∙ ap (λ (k : ℕ). first_of layout size (branch_fields k n) z) next

-- what breaks in a branch breaks in it and those after it
branch_early : (layout : LayoutWords) (size i n : ℕ) (z : List ℕ) (r : SampleFault × List ℕ) → first_of layout size (branch_fields i 1) z ≡ Some r → first_of layout size (branch_fields i (suc n)) z ≡ Some r
unfolding branch_fields
branch_early layout size i n z r e = early layout size (At (place.From i) ∷ At (place.To i) ∷ At (place.Flags i) ∷ []) (branch_fields (suc i) n) z r e

-- reading stopped in a branch that follows others
pub branches_stop : (a b c : Option (List ℕ)) (nr i : ℕ) (bs : List Branch) (f : SampleFault) → i < nr → length bs ≡ i → FlagsFit bs → Consumes a b (flat_map branch_bytes bs)
    → ((layout : LayoutWords) (size : ℕ) → Stopped (first_of layout size (branch_fields i 1)) b c f) → (layout : LayoutWords) (size : ℕ) → Stopped (first_of layout size (branch_fields 0 nr)) a c f
branches_stop a b c nr i bs f within len fit took h layout size =
    let n = nr - (i + 1) in
    let count : length bs + suc n ≡ nr = omega (arith, len, within) in
    let here : 0 + length bs ≡ i = omega (arith, len) in
    stops_after sample_faults a b c (flat_map branch_bytes bs) (first_of layout size (branch_fields i 1)) (first_of layout size (branch_fields 0 nr)) f took
    (λ z r e.
    ap (λ (k : ℕ). first_of layout size (branch_fields 0 k) (flat_map branch_bytes bs ++ z)) (sym count)
    ∙ branches_pass layout size 0 (suc n) bs z fit
    ∙ ap (λ (k : ℕ). first_of layout size (branch_fields k (suc n)) z) here
    ∙ branch_early layout size i n z r e)
    (h layout size)

-- the number of branches is wrong
nr_stops : (layout : LayoutWords) (size nr : ℕ) (a b : Option (List ℕ)) (f : SampleFault) → nr < 2 ^ 64 → unless (nat_le nr 256) fault.Count (unless (nat_eq size (fixed_len layout + 24 * nr)) fault.Size None) ≡ Some f
    → Consumes a b (le 8 nr) → Of a b (λ t t'. first_of layout size (At place.Nr ∷ []) t ≡ Some (f, t'))
nr_stops layout size nr a b f small wrong took =
    of_taken a b (le 8 nr) (λ t t'. first_of layout size (At place.Nr ∷ []) t ≡ Some (f, t')) took
    (λ z. stops layout size (At place.Nr) [] (le 8 nr) z f (length_le 8 nr) (rw (number_read 8 nr z small) wrong))

pub count_wrong : (layout : LayoutWords) (size nr : ℕ) (a b : Option (List ℕ)) → nr < 2 ^ 64 → 256 < nr → Consumes a b (le 8 nr) → Of a b (λ t t'. first_of layout size (At place.Nr ∷ []) t ≡ Some (fault.Count, t'))
count_wrong layout size nr a b small many took = nr_stops layout size nr a b fault.Count small (rw (lt-leb nr 256 many) refl) took

pub nr_wrong : (layout : LayoutWords) (size nr : ℕ) (a b : Option (List ℕ)) → nr < 2 ^ 64 → nr ≤ 256 → (size ≡ fixed_len layout + 24 * nr → ⊥) → Consumes a b (le 8 nr)
    → Of a b (λ t t'. first_of layout size (At place.Nr ∷ []) t ≡ Some (fault.Size, t'))
nr_wrong layout size nr a b small few wrong took = nr_stops layout size nr a b fault.Size small (rw (le-leb nr 256 few, ne_eqb size (fixed_len layout + 24 * nr) wrong) refl) took

pub nr_cut : (layout : LayoutWords) (size : ℕ) (a b : Option (List ℕ)) (f : SampleFault) → Stopped (cut_at (At place.Nr)) a b f → Stopped (first_of layout size (At place.Nr ∷ [])) a b f
nr_cut layout size a b f h = stops_as sample_faults a b (cut_at (At place.Nr)) (first_of layout size (At place.Nr ∷ [])) f (λ z r e. cut_first layout size (At place.Nr) [] z r e) h
