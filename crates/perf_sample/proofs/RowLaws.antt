-- The fields between the header and the branches, read one by one.
use Rattle.std.proofs.Common.{rules, ◌≡◌, ℕ, zero, suc, ◌+◌, ◌^◌, ◌<◌, List, [], ◌∷◌, ◌++◌, map, length, take, drop, get_or, Option, Some, Result, Ok, Err, refl, sym, ap, ◌∙◌, subst, arith, inl, inr, append_assoc, append-nil, length-append, true, false}
use Rattle.std.proofs.lemmas.Bool.{ne_eqb}
use Rattle.std.proofs.lemmas.List.{map-append}
use Rattle.std.specs.Io.KnownBytes.{Consumes}
use Rattle.std.specs.List.{AllByRecursion}
use Rattle.ctr_port.proofs.PieceLaws.{taken_then}
use Rattle.perf_sample.specs.declared.sample.Sample.{Sample}
use Rattle.perf_sample.specs.declared.word.Word.{Word}
use Rattle.perf_sample.specs.declared.faults.Place.{Place}
use Rattle.perf_sample.specs.declared.faults.Place.TheVariants as place
use Rattle.perf_sample.specs.declared.faults.SampleFault.{SampleFault}
use Rattle.perf_sample.specs.declared.faults.SampleFault.TheVariants as fault
use Rattle.perf_sample.specs.Word.{InWidth}
use Rattle.perf_sample.specs.Fields.{word_of}
use Rattle.perf_sample.specs.Layout.{LayoutWords, has, fields_in, Fits}
use Rattle.perf_sample.specs.Fields.{before_nr, all_fields}
use Rattle.perf_sample.specs.Sample.{IsSample}
use Rattle.perf_sample.specs.Spelling.{le, place_bytes, fields_bytes}
use Rattle.perf_sample.specs.Breaks.{number_at, Field, At, first_of}
use Rattle.perf_sample.specs.Reading.{sample_faults, cut_at, Stopped}
use Rattle.perf_sample.specs.Front.{SetsOnly, SameWord, Holds, PutsIn, TakesRow, TakesHwIndex}
use Rattle.perf_sample.specs.Fields.{with_word}
use Rattle.perf_sample.proofs.BreakLaws.{cut_first, stops, early, length_le, number_behind}
use Rattle.perf_sample.proofs.ReadingLaws.{stops_after, stops_as, of_taken}
use Rattle.perf_sample.proofs.FieldLaws.{SameBut, IsRight, fields_pass, same_bytes, bytes_there, in_there, in_left_out, in_split, left_out_kept, widths_kept}

abbrev none : Place
none = place.Identifier

-- the field of this number, of those before the number of branches
abbrev pub field_at : ℕ → Place
field_at n = get_or before_nr n none

-- what a word that is put into a field leaves as it was
record SetKept (n : ℕ) (p : Place) (old new : Sample) : Type 0 where
  before : AllByRecursion (SameWord old new) (take n before_nr)
  others : AllByRecursion (SameBut p old new) all_fields
  misc : new.misc ≡ old.misc
  branches : new.branches ≡ old.branches

set_kept : (n : ℕ) (w : Word) (s : Sample) → n < 9 → SetKept n (field_at n) s (with_word (field_at n) w s)
set_kept zero w s within = record { before = tt; others = search rules; misc = refl; branches = refl }
set_kept (suc zero) w s within = record { before = search rules; others = search rules; misc = refl; branches = refl }
set_kept (suc (suc zero)) w s within = record { before = search rules; others = search rules; misc = refl; branches = refl }
set_kept (suc (suc (suc zero))) w s within = record { before = search rules; others = search rules; misc = refl; branches = refl }
set_kept (suc (suc (suc (suc zero)))) w s within = record { before = search rules; others = search rules; misc = refl; branches = refl }
set_kept (suc (suc (suc (suc (suc zero))))) w s within = record { before = search rules; others = search rules; misc = refl; branches = refl }
set_kept (suc (suc (suc (suc (suc (suc zero)))))) w s within = record { before = search rules; others = search rules; misc = refl; branches = refl }
set_kept (suc (suc (suc (suc (suc (suc (suc zero))))))) w s within = record { before = search rules; others = search rules; misc = refl; branches = refl }
set_kept (suc (suc (suc (suc (suc (suc (suc (suc zero)))))))) w s within = record { before = search rules; others = search rules; misc = refl; branches = refl }
set_kept (suc (suc (suc (suc (suc (suc (suc (suc (suc n))))))))) w s within = absurd (omega (arith, within))

-- what stays where a field is read into a sample
pub record Kept (layout : LayoutWords) (n : ℕ) (p : Place) (old new : Sample) : Type 0 where
  pub front : fields_bytes new (fields_in layout (take n before_nr)) ≡ fields_bytes old (fields_in layout (take n before_nr))
  pub fits : Fits layout new
  pub range : IsSample old → InWidth (word_of p new) → IsSample new
  pub misc : new.misc ≡ old.misc
  pub branches : new.branches ≡ old.branches

pub row_kept : (layout : LayoutWords) (n : ℕ) (old new : Sample) → n < 9 → SetsOnly (field_at n) old new → has layout (field_at n) ≡ true → Fits layout old
    → Kept layout n (field_at n) old new
row_kept layout n old new within e on f =
    let p = field_at n in
    let k : SetKept n p old new = subst (SetKept n p old) (sym e) (set_kept n (word_of p new) old within) in
    record {
      front = sym (same_bytes layout old new (take n before_nr) k.before);
      fits = record {
        left_out = left_out_kept layout p old new all_fields on k.others f.left_out;
        flags = rw k.branches f.flags;
      };
      range = λ is small. record {
        misc = rw k.misc is.misc;
        fields = widths_kept p old new all_fields small k.others is.fields;
        branches = rw k.branches is.branches;
      };
      misc = k.misc;
      branches = k.branches;
    }

reserved_read : (cpu reserved : ℕ) (z : List ℕ) → reserved < 2 ^ 32 → number_at 4 4 ((le 4 cpu ++ le 4 reserved) ++ z) ≡ reserved
reserved_read cpu reserved z small =
    ap (number_at 4 4) (append_assoc (le 4 cpu) (le 4 reserved) z) ∙ number_behind 4 4 reserved (le 4 cpu) z (length_le 4 cpu) small

cpu_right : (layout : LayoutWords) (size : ℕ) (s : Sample) → IsRight layout size s place.Cpu
cpu_right layout size s z = rw (reserved_read s.cpu 0 z (omega arith)) refl

-- what is spelled before the number of branches is right
pub before_right : (layout : LayoutWords) (size : ℕ) (s : Sample) → AllByRecursion (IsRight layout size s) before_nr
before_right layout size s =
    (λ z. refl, (λ z. refl, (λ z. refl, (λ z. refl, (λ z. refl, (λ z. refl, (λ z. refl, (cpu_right layout size s, (λ z. refl, tt)))))))))

taken_right : (layout : LayoutWords) (size : ℕ) (s : Sample) (n : ℕ) (ps : List Place) → AllByRecursion (IsRight layout size s) ps → AllByRecursion (IsRight layout size s) (take n ps)
taken_right layout size s zero ps right = tt
taken_right layout size s (suc n) [] right = tt
taken_right layout size s (suc n) (p ∷ ps) (here, more) = (here, taken_right layout size s n ps more)

-- reading stopped in a field that follows others
pub rows_stop : (a b c : Option (List ℕ)) (layout : LayoutWords) (n : ℕ) (s : Sample) (f : SampleFault) → n < 9 → has layout (field_at n) ≡ true
    → Consumes a b (fields_bytes s (fields_in layout (take n before_nr)))
    → ((layout : LayoutWords) (size : ℕ) → Stopped (first_of layout size (At (field_at n) ∷ [])) b c f)
    → (size : ℕ) → Stopped (first_of layout size (map At (fields_in layout before_nr))) a c f
rows_stop a b c layout n s f within on took h size =
    let front = fields_in layout (take n before_nr) in
    let behind = map At (fields_in layout (drop (n + 1) before_nr)) in
    let here = At (field_at n) ∷ [] in
    stops_after sample_faults a b c (fields_bytes s front) (first_of layout size here) (first_of layout size (map At (fields_in layout before_nr))) f took
    (λ z r e.
    ap (λ (l : List Place). first_of layout size (map At l) (fields_bytes s front ++ z)) (in_split layout before_nr n none within on)
    ∙ ap (λ (l : List Field). first_of layout size l (fields_bytes s front ++ z)) (map-append At front (field_at n ∷ fields_in layout (drop (n + 1) before_nr)))
    ∙ fields_pass layout size s (take n before_nr) (here ++ behind) z (taken_right layout size s n before_nr (before_right layout size s))
    ∙ early layout size here behind z r e)
    (h layout size)

-- the bytes ended in a field, or in its place
pub row_cut : (a b : Option (List ℕ)) (p : Place) (f : SampleFault) → Stopped (cut_at (At p)) a b f
    → (layout : LayoutWords) (size : ℕ) → Stopped (first_of layout size (At p ∷ [])) a b f
row_cut a b p f h layout size =
    stops_as sample_faults a b (cut_at (At p)) (first_of layout size (At p ∷ [])) f (λ z r e. cut_first layout size (At p) [] z r e) h

two_halves : (m n : ℕ) → length (le 4 m ++ le 4 n) ≡ 8
two_halves m n = omega (arith, length-append (le 4 m) (le 4 n), length_le 4 m, length_le 4 n)

-- what was put into the sample was taken
pub row_put : (r : Result (Unit {0}) SampleFault) (a b : Option (List ℕ)) (p : Place) (bytes : List ℕ) (old new : Sample) → Consumes a b bytes
    → PutsIn p bytes old new r → TakesRow p a b old new r
row_put (Ok done) a b p bytes old new took (holds, sets) = (bytes, took, holds, sets)
row_put (Err f) a b p bytes old new took (is, at, cpu, reserved, spelled, some, small) = λ layout size.
    rw (is, at)
    (of_taken a b (le 4 cpu ++ le 4 reserved) (λ t t'. first_of layout size (At place.Cpu ∷ []) t ≡ Some (fault.CpuReserved, t')) (subst (Consumes a b) (sym spelled) took)
    (λ z.
    stops layout size (At place.Cpu) [] (le 4 cpu ++ le 4 reserved) z fault.CpuReserved (two_halves cpu reserved)
    (rw (reserved_read cpu reserved z small, ne_eqb reserved 0 some) refl)))

-- a field before the number of branches holds what was read
held : (n : ℕ) (bytes : List ℕ) (s : Sample) → n < 9 → Holds (field_at n) bytes s → place_bytes (field_at n) s ≡ bytes
held zero bytes s within h = h
held (suc zero) bytes s within h = h
held (suc (suc zero)) bytes s within h = h
held (suc (suc (suc zero))) bytes s within h = h
held (suc (suc (suc (suc zero)))) bytes s within h = h
held (suc (suc (suc (suc (suc zero))))) bytes s within h = h
held (suc (suc (suc (suc (suc (suc zero)))))) bytes s within h = h
held (suc (suc (suc (suc (suc (suc (suc zero))))))) bytes s within h = h
held (suc (suc (suc (suc (suc (suc (suc (suc zero)))))))) bytes s within h = h
held (suc (suc (suc (suc (suc (suc (suc (suc (suc n))))))))) bytes s within h = absurd (omega (arith, within))

-- the bytes of a field were taken after those of the fields before it
pub front_taken : (a b c : Option (List ℕ)) (layout : LayoutWords) (old new : Sample) (n : ℕ) → n < 9 → has layout (field_at n) ≡ true
    → Kept layout n (field_at n) old new → Consumes a b (fields_bytes old (fields_in layout (take n before_nr)))
    → ((bytes : List ℕ) × Consumes b c bytes × Holds (field_at n) bytes new × SetsOnly (field_at n) old new)
    → Consumes a c (fields_bytes new (fields_in layout (take (n + 1) before_nr)))
front_taken a b c layout old new n within on kept took (bytes, next, holds, sets) =
    let front = fields_in layout (take n before_nr) in
    let whole : fields_bytes new (fields_in layout (take (n + 1) before_nr)) ≡ fields_bytes old front ++ bytes =
    bytes_there layout new before_nr n none within on
    ∙ ap (λ (l : List ℕ). l ++ place_bytes (field_at n) new) kept.front
    ∙ ap (λ (l : List ℕ). fields_bytes old front ++ l) (held n bytes new within holds) in
    subst (Consumes a c) (sym whole) (taken_then a b c (fields_bytes old front) bytes took next)

-- what stays where the hardware index is read
pub record IndexKept (layout : LayoutWords) (old new : Sample) : Type 0 where
  pub before : AllByRecursion (SameWord old new) before_nr
  pub fits : Fits layout new
  pub range : IsSample old → InWidth (word_of place.HwIndex new) → IsSample new
  pub misc : new.misc ≡ old.misc
  pub branches : new.branches ≡ old.branches

record IndexSet (old new : Sample) : Type 0 where
  before : AllByRecursion (SameWord old new) before_nr
  others : AllByRecursion (SameBut place.HwIndex old new) all_fields
  misc : new.misc ≡ old.misc
  branches : new.branches ≡ old.branches

index_set : (w : Word) (s : Sample) → IndexSet s (with_word place.HwIndex w s)
index_set w s = record { before = search rules; others = search rules; misc = refl; branches = refl }

pub index_kept : (layout : LayoutWords) (old new : Sample) → SetsOnly place.HwIndex old new → has layout place.HwIndex ≡ true → Fits layout old → IndexKept layout old new
index_kept layout old new sets on f =
    let k : IndexSet old new = subst (IndexSet old) (sym sets) (index_set (word_of place.HwIndex new) old) in
    record {
      before = k.before;
      fits = record {
        left_out = left_out_kept layout place.HwIndex old new all_fields on k.others f.left_out;
        flags = rw k.branches f.flags;
      };
      range = λ is small. record {
        misc = rw k.misc is.misc;
        fields = widths_kept place.HwIndex old new all_fields small k.others is.fields;
        branches = rw k.branches is.branches;
      };
      misc = k.misc;
      branches = k.branches;
    }

-- the hardware index, which is there
pub index_taken : (a b : Option (List ℕ)) (layout : LayoutWords) (old new : Sample) → has layout place.HwIndex ≡ true → Fits layout old
    → TakesRow place.HwIndex a b old new (Ok tt) → TakesHwIndex layout a b old new (Ok tt)
index_taken a b layout old new on f (bytes, took, holds, sets) =
    let kept = index_kept layout old new sets on f in
    let whole : fields_bytes new (fields_in layout (place.HwIndex ∷ [])) ≡ bytes =
    ap (fields_bytes new) (in_there layout place.HwIndex on) ∙ append-nil (place_bytes place.HwIndex new) ∙ holds in
    (subst (Consumes a b) (sym whole) took, kept.fits, kept.before, kept.misc, kept.branches)

-- and which the layout leaves out
pub index_left_out : (a : Option (List ℕ)) (layout : LayoutWords) (s : Sample) → has layout place.HwIndex ≡ false → Fits layout s → Consumes a a []
    → TakesHwIndex layout a a s s (Ok tt)
index_left_out a layout s off f took = (
  subst (Consumes a a) (sym (ap (fields_bytes s) (in_left_out layout place.HwIndex off))) took,
  f,
  (refl, (refl, (refl, (refl, (refl, (refl, (refl, (refl, (refl, tt))))))))),
  refl,
  refl,
)

pub index_stops : (a b : Option (List ℕ)) (layout : LayoutWords) (f : SampleFault) → has layout place.HwIndex ≡ true
    → ((layout : LayoutWords) (size : ℕ) → Stopped (first_of layout size (At place.HwIndex ∷ [])) a b f)
    → (size : ℕ) → Stopped (first_of layout size (map At (fields_in layout (place.HwIndex ∷ [])))) a b f
index_stops a b layout f on h size = subst (λ (l : List Place). Stopped (first_of layout size (map At l)) a b f) (sym (in_there layout place.HwIndex on)) (h layout size)
