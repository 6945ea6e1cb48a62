-- The parts of a sample that are read one by one: what was taken, and how reading stops.
use Rattle.std.proofs.Common.{rules, ◌≡◌, ◌≢◌, ℕ, ◌+◌, ◌*◌, ◌^◌, ◌<◌, ◌≤◌, List, [], ◌∷◌, ◌++◌, map, length, Bool, true, false, nat_eq, Option, Some, None, Ok, refl, sym, ap, ◌∙◌, arith, subst, append_assoc, append-nil, length-append, lt-ltb, le-leb}
use Rattle.std.proofs.lemmas.Bool.{ne_eqb, eq-eqb}
use Rattle.std.proofs.lemmas.List.{drop_all}
use Rattle.std.proofs.lemmas.Grind.{flat_map-append}
use Rattle.std.proofs.lemmas.List.{map-append}
use Rattle.std.specs.List.{All, AllByRecursion, flat_map}
use Rattle.perf_sample.specs.BranchRange.{IsBranch}
use Rattle.perf_sample.specs.Sample.{IsSample}
use Rattle.std.specs.Io.KnownBytes.{Consumes, IsAtEnd}
use Rattle.ctr_port.specs.InHand.{Of}
use Rattle.ctr_port.proofs.PieceLaws.{taken_then}
use Rattle.perf_sample.specs.declared.sample.Branch.{Branch}
use Rattle.perf_sample.specs.declared.sample.Sample.{Sample}
use Rattle.perf_sample.specs.declared.faults.SampleFault.{SampleFault}
use Rattle.perf_sample.specs.declared.faults.SampleFault.TheVariants as fault
use Rattle.perf_sample.specs.declared.faults.Place.{Place}
use Rattle.perf_sample.specs.declared.faults.Place.TheVariants as place
use Rattle.perf_sample.specs.Layout.{LayoutWords, fields_in, fixed_len, nr_at, FlagsFit, Fits}
use Rattle.perf_sample.specs.Fields.{before_nr, all_fields}
use Rattle.perf_sample.specs.Spelling.{le, place_bytes, fields_bytes, header_bytes, branch_bytes, size_of, spelling}
use Rattle.perf_sample.specs.Breaks.{number_at, Field, Header, At, cut_in, wrong_header, unless, header_break, first_of, branch_fields}
use Rattle.perf_sample.specs.Reading.{sample_faults, Stopped}
use Rattle.perf_sample.specs.Front.{SameWord}
use Rattle.perf_sample.specs.Front.{front_bytes, front_break}
use Rattle.perf_sample.specs.Back.{back_bytes, back_break, TakesBack}
use Rattle.perf_sample.proofs.BreakLaws.{long, behind, passes, early, length_le, number_read, not_empty}
use Rattle.perf_sample.proofs.HeaderLaws.{length_header}
use Rattle.perf_sample.proofs.FieldLaws.{fields_pass, same_bytes, length_fields, all_split}
use Rattle.perf_sample.proofs.ReadingLaws.{stops_after, stops_as, of_taken}
use Rattle.perf_sample.proofs.RowLaws.{before_right}
use Rattle.perf_sample.proofs.BranchLaws.{branches_pass}

-- the fields behind the header, those from the number of branches on, and those behind it
abbrev pub index_fields : LayoutWords → List Field
index_fields layout = map At (fields_in layout (place.HwIndex ∷ []))

abbrev pub nr_fields : LayoutWords → ℕ → List Field
nr_fields layout nr = At place.Nr ∷ (index_fields layout ++ branch_fields 0 nr)

pub fields_split : (layout : LayoutWords) (nr : ℕ) → map At (fields_in layout all_fields) ++ branch_fields 0 nr ≡ map At (fields_in layout before_nr) ++ nr_fields layout nr
fields_split layout nr =
    ap (λ (l : List Place). map At l ++ branch_fields 0 nr) (all_split layout)
    ∙ ap (λ (l : List Field). l ++ branch_fields 0 nr) (map-append At (fields_in layout before_nr) (place.Nr ∷ fields_in layout (place.HwIndex ∷ [])))
    ∙ append_assoc (map At (fields_in layout before_nr)) (At place.Nr ∷ index_fields layout) (branch_fields 0 nr)

abbrev pub index_bytes : LayoutWords → Sample → List ℕ
index_bytes layout t = fields_bytes t (fields_in layout (place.HwIndex ∷ []))

-- the fields of a sample are those parts
pub fields_parts : (layout : LayoutWords) (s : Sample)
    → fields_bytes s (fields_in layout all_fields) ≡ fields_bytes s (fields_in layout before_nr) ++ (le 8 (length s.branches) ++ index_bytes layout s)
fields_parts layout s =
    ap (fields_bytes s) (all_split layout)
    ∙ flat_map-append (λ p. place_bytes p s) (fields_in layout before_nr) (place.Nr ∷ fields_in layout (place.HwIndex ∷ []))

-- a sample with branches, which had none
pub with_branches : (layout : LayoutWords) (s : Sample) (bs : List Branch) → Fits layout s → FlagsFit bs → Fits layout (record s { branches = bs })
with_branches layout s bs f fit =
    let l = f.left_out in record {
      left_out = search rules;
      flags = fit;
    }

pub range_with : (s : Sample) (bs : List Branch) → IsSample s → All IsBranch bs → length bs ≤ 256 → IsSample (record s { branches = bs })
range_with s bs is are few =
    let l = is.fields in record {
      misc = is.misc;
      fields = search rules;
      branches = are;
    }

-- the fields from the number of branches on
behind_nr : (layout : LayoutWords) (size nr : ℕ) (z : List ℕ) → nr ≤ 256 → size ≡ fixed_len layout + 24 * nr
    → back_break layout size (le 8 nr ++ z) ≡ first_of layout size (index_fields layout ++ branch_fields 0 nr) z
unfolding fields_in
behind_nr layout size nr z few sized =
    let fs = λ (n : ℕ). index_fields layout ++ branch_fields 0 n in
    ap (λ (n : ℕ). first_of layout size (At place.Nr ∷ fs n) (le 8 nr ++ z)) (number_read 8 nr z (omega (arith, few)))
    ∙ passes layout size (At place.Nr) (fs nr) (le 8 nr) z (length_le 8 nr)
    (rw (number_read 8 nr z (omega (arith, few)), le-leb nr 256 few, eq-eqb size (fixed_len layout + 24 * nr) sized) refl)

behind_index : (layout : LayoutWords) (size nr : ℕ) (t : Sample) (z : List ℕ) → nr ≤ 256 → size ≡ fixed_len layout + 24 * nr
    → back_break layout size ((le 8 nr ++ index_bytes layout t) ++ z) ≡ first_of layout size (branch_fields 0 nr) z
behind_index layout size nr t z few sized =
    ap (back_break layout size) (append_assoc (le 8 nr) (index_bytes layout t) z)
    ∙ behind_nr layout size nr (index_bytes layout t ++ z) few sized
    ∙ fields_pass layout size t (place.HwIndex ∷ []) (branch_fields 0 nr) z (λ z. refl, tt)

pub nr_breaks : (layout : LayoutWords) (size : ℕ) (a b : Option (List ℕ)) (f : SampleFault) → Stopped (first_of layout size (At place.Nr ∷ [])) a b f → Stopped (back_break layout size) a b f
unfolding fields_in
nr_breaks layout size a b f h =
    stops_as sample_faults a b (first_of layout size (At place.Nr ∷ [])) (back_break layout size) f
    (λ z r e. early layout size (At place.Nr ∷ []) (index_fields layout ++ branch_fields 0 (number_at 0 8 z)) z r e) h

pub index_breaks : (layout : LayoutWords) (size nr : ℕ) (a b c : Option (List ℕ)) (f : SampleFault) → nr ≤ 256 → size ≡ fixed_len layout + 24 * nr
    → Consumes a b (le 8 nr) → Stopped (first_of layout size (index_fields layout)) b c f → Stopped (back_break layout size) a c f
index_breaks layout size nr a b c f few sized took h =
    stops_after sample_faults a b c (le 8 nr) (first_of layout size (index_fields layout)) (back_break layout size) f took
    (λ z r e. behind_nr layout size nr z few sized ∙ early layout size (index_fields layout) (branch_fields 0 nr) z r e) h

pub branches_break : (layout : LayoutWords) (size nr : ℕ) (t : Sample) (a b c d : Option (List ℕ)) (f : SampleFault) → nr ≤ 256 → size ≡ fixed_len layout + 24 * nr
    → Consumes a b (le 8 nr) → Consumes b c (index_bytes layout t) → Stopped (first_of layout size (branch_fields 0 nr)) c d f → Stopped (back_break layout size) a d f
branches_break layout size nr t a b c d f few sized took index h =
    stops_after sample_faults a c d (le 8 nr ++ index_bytes layout t) (first_of layout size (branch_fields 0 nr)) (back_break layout size) f (taken_then a b c (le 8 nr) (index_bytes layout t) took index)
    (λ z r e. behind_index layout size nr t z few sized ∙ e) h

-- all of them were taken
pub back_taken : (layout : LayoutWords) (size nr : ℕ) (s t : Sample) (bs : List Branch) (a b c d : Option (List ℕ)) → nr ≤ 256 → size ≡ fixed_len layout + 24 * nr
    → Fits layout t → AllByRecursion (SameWord s t) before_nr → t.misc ≡ s.misc → FlagsFit bs → length bs ≡ nr
    → Consumes a b (le 8 nr) → Consumes b c (index_bytes layout t) → Consumes c d (flat_map branch_bytes bs)
    → TakesBack layout size a d s (record t { branches = bs }) (Ok tt)
unfolding fields_in
back_taken layout size nr s t bs a b c d few sized fits same misc fit len took index stack =
    let u : Sample = record t { branches = bs } in
    let indexes : index_bytes layout t ≡ index_bytes layout u = same_bytes layout t u (place.HwIndex ∷ []) (refl, tt) in
    let whole : (le 8 nr ++ index_bytes layout t) ++ flat_map branch_bytes bs ≡ back_bytes layout u =
    ap (λ (n : ℕ). (le 8 n ++ index_bytes layout t) ++ flat_map branch_bytes bs) (sym len)
    ∙ ap (λ (x : List ℕ). (le 8 (length bs) ++ x) ++ flat_map branch_bytes bs) indexes in (
      subst (Consumes a d) whole (taken_then a c d (le 8 nr ++ index_bytes layout t) (flat_map branch_bytes bs) (taken_then a b c (le 8 nr) (index_bytes layout t) took index) stack),
      with_branches layout t bs fits fit,
      same,
      misc,
      omega (arith, len, few),
      sized ∙ ap (λ (n : ℕ). fixed_len layout + 24 * n) (sym len),
    )

-- what is spelled is passed over
pub front_passes : (layout : LayoutWords) (s : Sample) (z : List ℕ) → front_break layout (front_bytes layout s ++ z) ≡ None
unfolding first_of
front_passes layout s z =
    ap (λ (l : List Field). first_of layout 0 l (front_bytes layout s ++ z)) (sym (append-nil (map At (fields_in layout before_nr))))
    ∙ fields_pass layout 0 s before_nr [] z (before_right layout 0 s)

pub back_passes : (layout : LayoutWords) (s : Sample) (z : List ℕ) → length s.branches ≤ 256 → FlagsFit s.branches → back_break layout (size_of layout s) (back_bytes layout s ++ z) ≡ None
unfolding fields_in first_of branch_fields
back_passes layout s z few fit =
    let bs = s.branches in
    let size = size_of layout s in
    let y = le 8 (length bs) ++ index_bytes layout s in
    let count : length bs ≡ length bs + 0 = omega arith in
    ap (back_break layout size) (append_assoc y (flat_map branch_bytes bs) z)
    ∙ behind_index layout size (length bs) s (flat_map branch_bytes bs ++ z) few refl
    ∙ ap (λ (n : ℕ). first_of layout size (branch_fields 0 n) (flat_map branch_bytes bs ++ z)) count
    ∙ branches_pass layout size 0 0 bs z fit

-- where the number of branches stands
pub length_front : (layout : LayoutWords) (misc size : ℕ) (s : Sample) → length (header_bytes misc size ++ front_bytes layout s) ≡ nr_at layout
unfolding nr_at
length_front layout misc size s =
    omega (arith, length-append (header_bytes misc size) (front_bytes layout s), length_header 9 misc size, length_fields s (fields_in layout before_nr))
