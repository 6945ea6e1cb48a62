-- The longest join of spellings is one.
use Rattle.std.proofs.Common.{◌≡◌, ℕ, ◌+◌, ◌-◌, ◌<◌, ◌≤◌, List, [], ◌∷◌, ◌++◌, length, Option, Some, None, Ok, Err, Result, arith, refl, sym, ap, ◌∙◌, subst, append_assoc, append-nil, length-append, inl, inr}
use Rattle.std.proofs.lemmas.List.{nil_from_length}
use Rattle.std.proofs.lemmas.List.Elements.{All-head, All-tail, All-append, All-cons, All-nil}
use Rattle.std.specs.Io.KnownBytes.{Consumes}
use Rattle.ctr_port.specs.InHand.{Of}
use Rattle.ctr_port.specs.Sink.{GainsPart}
use Rattle.ctr_port.proofs.PieceLaws.{part_after, part_of_more}
use Rattle.perf_sample.specs.declared.sample.Sample.{Sample}
use Rattle.perf_sample.specs.declared.faults.SampleFault.{SampleFault}
use Rattle.perf_sample.specs.Layout.{LayoutWords}
use Rattle.perf_sample.specs.Spelling.{spelling, Spells}
use Rattle.perf_sample.specs.Breaks.{Breaks}
use Rattle.perf_sample.specs.Sample.{IsSample}
use Rattle.perf_sample.specs.declared.limits.TheConstants.{MAX_SAMPLES}
use Rattle.perf_sample.specs.Reader.{Refuses}
use Rattle.perf_sample.specs.Format.{Cause, OfRead, OfCount, OfBytes}
use Rattle.perf_sample.specs.Reading.{cause_of, sample_format}
use Rattle.ctrsim_cli.specs.declared.showing.ShowFault.{ShowFault}
use Rattle.ctrsim_cli.specs.declared.showing.ShowFault.TheVariants as fault
use Rattle.perf_sample.specs.declared.faults.SampleFault.TheVariants as sample_fault
use Rattle.std.proofs.KnownBytes.{Consumes-trans}
use Rattle.std.specs.Bool.{⊤}
use Rattle.perf_sample.specs.Reader.{IsCutOff}
use Rattle.perf_sample.proofs.OneSpelling.{one_spelling, samples_exact, spelled_some}
use Rattle.perf_sample.proofs.ExactLaws.{clash}
use Rattle.ctrsim_cli.specs.SampleText.{shown_sample}
use Rattle.ctrsim_cli.specs.Showing.{joined, texts, AreSpelled, AreShown, AllShown, Refused, Unwritten, Shown, ByCause, BytesAnswer, ShowAnswer, TakenShown, CutAt}
use Rattle.ctrsim_cli.proofs.Shows.{joined_more, texts_last, One}

pub joined_cons : (layout : LayoutWords) (x : Sample) (xs : List Sample) → joined layout (x ∷ xs) ≡ spelling layout x ++ joined layout xs
unfolding joined
joined_cons layout x xs = refl

pub joined_empty : (layout : LayoutWords) (rest : List ℕ) → joined layout [] ++ rest ≡ rest
unfolding joined
joined_empty layout rest = refl

texts_append : (layout : LayoutWords) (offset : ℕ) (xs ys : List Sample) → (n : ℕ) × (texts layout offset (xs ++ ys) ≡ texts layout offset xs ++ texts layout n ys)
unfolding texts
texts_append layout offset [] ys = (offset, refl)
texts_append layout offset (x ∷ xs) ys =
    let more = texts_append layout (offset + length (spelling layout x)) xs ys in (
      more.0,
      ap (λ (t : List ℕ). shown_sample layout offset x ++ t) more.1
          ∙ sym (append_assoc (shown_sample layout offset x) (texts layout (offset + length (spelling layout x)) xs) (texts layout more.0 ys)),
    )

-- no spelling begins these bytes, or there are so many samples
abbrev Stops : LayoutWords → ℕ → List Sample → List ℕ → Type 0
Stops layout m ys rest = length ys < m → (s : Sample) (x z : List ℕ) → IsSample s → Spells layout s x → rest ≡ x ++ z → ⊥

pub cons_front : (layout : LayoutWords) (x : Sample) (xs : List Sample) (rest : List ℕ) → joined layout (x ∷ xs) ++ rest ≡ spelling layout x ++ (joined layout xs ++ rest)
cons_front layout x xs rest = ap (λ (t : List ℕ). t ++ rest) (joined_cons layout x xs) ∙ append_assoc (spelling layout x) (joined layout xs) rest

pub is_prefix : (layout : LayoutWords) (m : ℕ) (xs ys : List Sample) (rest rest' : List ℕ) → AreSpelled layout xs → AreSpelled layout ys → joined layout xs ++ rest ≡ joined layout ys ++ rest'
    → length xs ≤ m → Stops layout m ys rest' → (more : List Sample) × (ys ≡ xs ++ more)
is_prefix layout m [] ys rest rest' ps qs e few stops = (ys, refl)
is_prefix layout m (x ∷ xs) [] rest rest' ps qs e few stops =
    let one = All-head (One layout) x xs ps in
    absurd (stops (omega (arith, few)) x (spelling layout x) (joined layout xs ++ rest) one.0 one.1
    (sym (joined_empty layout rest') ∙ sym e ∙ cons_front layout x xs rest))
is_prefix layout m (x ∷ xs) (y ∷ ys) rest rest' ps qs e few stops =
    let one = All-head (One layout) x xs ps in
    let other = All-head (One layout) y ys qs in
    let same = one_spelling layout x y (spelling layout x) (spelling layout y) (joined layout xs ++ rest) (joined layout ys ++ rest') one.0 other.0 one.1 other.1
    (sym (cons_front layout x xs rest) ∙ e ∙ cons_front layout y ys rest') in
    let more = is_prefix layout (m - 1) xs ys rest rest' (All-tail (One layout) x xs ps) (All-tail (One layout) y ys qs) same.2 (omega (arith, few)) (λ less. stops (omega (arith, less))) in
    (more.0, ap (λ (s : Sample). s ∷ ys) (sym same.0) ∙ ap (λ (t : List Sample). x ∷ t) more.1)

-- the source's bytes
pub taken_told : (bytes : List ℕ) (left' : Option (List ℕ)) (x : List ℕ) → Consumes (Some bytes) left' x → (rest : List ℕ) × (left' ≡ Some rest) × (bytes ≡ x ++ rest)
taken_told bytes None x p = absurd p
taken_told bytes (Some rest) x p = (rest, refl, p)

empty_join : (x z : List ℕ) → 0 < length x → [] ≡ x ++ z → ⊥
empty_join x z some e = omega (arith, some, ap length e, length-append x z)

told_end : (rest : List ℕ) (left' : Option (List ℕ)) → Of (Some rest) left' (λ t t'. (t ≡ []) × (t' ≡ [])) → rest ≡ []
told_end rest None p = absurd p
told_end rest (Some t) p = p.0

pub shown_all : {K : Type 0} (gained : K → List ℕ → K → Type 0) (layout : LayoutWords) (bytes : List ℕ) (left' : Option (List ℕ)) (old new : K)
    → AllShown gained layout (Some bytes) left' old new → (text : List ℕ) × Shown layout bytes text × gained old text new
shown_all gained layout bytes left' old new so =
    let told = taken_told bytes so.middle (joined layout so.samples) so.went.taken in
    let none = told_end told.0 left' (subst (λ m. Of m left' (λ t t'. (t ≡ []) × (t' ≡ []))) told.1 so.ended) in (
      texts layout 0 so.samples,
      record {
        samples = so.samples;
        rest = told.0;
        spelled = so.went.spelled;
        few = so.went.few;
        join = told.2;
        is = refl;
        longest = λ less s x z range spells e. empty_join x z (spelled_some layout s x spells) (sym none ∙ e);
      },
      so.went.written,
    )

pub shown_part : {K : Type 0} (gained : K → List ℕ → K → Type 0) → ((a b c : K) (x y : List ℕ) → gained a x b → gained b y c → gained a (x ++ y) c)
    → (layout : LayoutWords) (bytes : List ℕ) (left' : Option (List ℕ)) (old new : K)
    → Unwritten gained layout (Some bytes) left' old new → (text : List ℕ) → Shown layout bytes text → GainsPart gained old new text
shown_part gained joins layout bytes left' old new so text shown =
    let xs = so.samples ++ so.last ∷ [] in
    let front = taken_told bytes so.before (joined layout so.samples) so.went.taken in
    let behind = taken_told front.0 left' (spelling layout so.last) (subst (λ m. Consumes m left' (spelling layout so.last)) front.1 so.taken) in
    let whole : bytes ≡ joined layout xs ++ behind.0 =
    front.2 ∙ ap (λ (t : List ℕ). joined layout so.samples ++ t) behind.2
    ∙ sym (append_assoc (joined layout so.samples) (spelling layout so.last) behind.0)
    ∙ ap (λ (t : List ℕ). t ++ behind.0) (sym (joined_more layout so.samples so.last)) in
    let more = is_prefix layout MAX_SAMPLES xs shown.samples behind.0 shown.rest
    (All-append (One layout) so.samples (so.last ∷ []) so.went.spelled (All-cons (One layout) so.last [] so.fits (All-nil (One layout))))
    shown.spelled (sym whole ∙ shown.join) (omega (arith, so.few, length-append so.samples (so.last ∷ []))) shown.longest in
    let tail = texts_append layout 0 xs more.0 in
    let split : text ≡ (texts layout 0 so.samples ++ shown_sample layout (length (joined layout so.samples)) so.last) ++ texts layout tail.0 more.0 =
    shown.is ∙ ap (texts layout 0) more.1 ∙ tail.1 ∙ ap (λ (t : List ℕ). t ++ texts layout tail.0 more.0) (texts_last layout so.samples so.last) in
    subst (GainsPart gained old new) (sym split)
    (part_of_more gained old new (texts layout 0 so.samples ++ shown_sample layout (length (joined layout so.samples)) so.last) (texts layout tail.0 more.0)
    (part_after gained joins old so.middle new (texts layout 0 so.samples) (shown_sample layout (length (joined layout so.samples)) so.last) so.went.written so.part))

-- broken bytes begin with no spelling
broken_stops : (layout : LayoutWords) (rest u : List ℕ) (f : SampleFault) → Breaks layout rest f u → (s : Sample) (x z : List ℕ) → Spells layout s x → rest ≡ x ++ z → ⊥
broken_stops layout rest u f breaks s x z spells e = clash (sample_format layout) (samples_exact layout) s x z u f spells (subst (λ (t : List ℕ). Breaks layout t f u) e breaks)

pub shown_up_to : {K : Type 0} (gained : K → List ℕ → K → Type 0) (layout : LayoutWords) (bytes rest : List ℕ) (middle : Option (List ℕ)) (old new : K) (samples : List Sample)
    → AreShown gained layout (Some bytes) middle old new samples → middle ≡ Some rest
    → (length samples < MAX_SAMPLES → (s : Sample) (x z : List ℕ) → Spells layout s x → rest ≡ x ++ z → ⊥)
    → (text : List ℕ) × Shown layout bytes text × gained old text new
shown_up_to gained layout bytes rest middle old new samples went is stops =
    let join : Consumes (Some bytes) (Some rest) (joined layout samples) = subst (λ m. Consumes (Some bytes) m (joined layout samples)) is went.taken in (
      texts layout 0 samples,
      record {
        samples = samples;
        rest = rest;
        spelled = went.spelled;
        few = went.few;
        join = join;
        is = refl;
        longest = λ less s x z range spells e. stops less s x z spells e;
      },
      went.written,
    )

by_bytes : (layout : LayoutWords) (rest : List ℕ) (left' : Option (List ℕ)) (f : SampleFault) → Of (Some rest) left' (λ t t'. Breaks layout t f t')
    → (s : Sample) (x z : List ℕ) → Spells layout s x → rest ≡ x ++ z → ⊥
by_bytes layout rest None f p = absurd p
by_bytes layout rest (Some u) f p = broken_stops layout rest u f p

pub shown_refused : {K : Type 0} (gained : K → List ℕ → K → Type 0) (layout : LayoutWords) (bytes : List ℕ) (middle left' : Option (List ℕ)) (old new : K) (f : SampleFault)
    (samples : List Sample) → AreShown gained layout (Some bytes) middle old new samples → (why : Cause) → Refuses why (sample_format layout) (length samples) middle left' f
    → ByCause why gained layout bytes old new
shown_refused gained layout bytes middle left' old new f samples went OfRead refuses = tt
shown_refused gained layout bytes middle left' old new f samples went OfCount refuses =
    let told = taken_told bytes middle (joined layout samples) went.taken in
    shown_up_to gained layout bytes told.0 middle old new samples went told.1 (λ less. absurd (omega (arith, less, refuses.0)))
shown_refused gained layout bytes middle left' old new f samples went OfBytes refuses =
    let told = taken_told bytes middle (joined layout samples) went.taken in
    shown_up_to gained layout bytes told.0 middle old new samples went told.1
    (λ less. by_bytes layout told.0 left' f (subst (λ m. Of m left' (λ t t'. Breaks layout t f t')) told.1 refuses.1))

pub told_of : {K : Type 0} (gained : K → List ℕ → K → Type 0) → ((a b c : K) (x y : List ℕ) → gained a x b → gained b y c → gained a (x ++ y) c)
    → (layout : LayoutWords) (bytes : List ℕ) (left' : Option (List ℕ)) (old new : K) (r : Result ⊤ ShowFault) → ShowAnswer gained layout (Some bytes) left' old new r
    → BytesAnswer gained layout bytes old new r
told_of gained joins layout bytes left' old new (Ok u) so = shown_all gained layout bytes left' old new so
told_of gained joins layout bytes left' old new (Err (fault.Sample f at)) so =
    shown_refused gained layout bytes so.middle left' old new f so.samples so.went (cause_of f) so.refuses
told_of gained joins layout bytes left' old new (Err fault.Write) so = shown_part gained joins layout bytes left' old new so

-- what a failed read cut off begins with no spelling
cut_stops : (layout : LayoutWords) (given : ℕ) (cut : List ℕ) → IsCutOff (sample_format layout) given cut → (s : Sample) (x z : List ℕ) → Spells layout s x → cut ≡ x ++ z → ⊥
cut_stops layout given cut (inl none) s x z spells e = empty_join x z (spelled_some layout s x spells) (sym none ∙ e)
cut_stops layout given cut (inr short) s x z spells e = broken_stops layout cut [] short.1 short.3 s x z spells e

pub cut_of : {K : Type 0} (gained : K → List ℕ → K → Type 0) (layout : LayoutWords) (at : ℕ) (left left' : Option (List ℕ)) (old new : K)
    → Refused gained layout left left' old new sample_fault.ReadFault at → TakenShown gained layout left left' old new
cut_of gained layout at left left' old new so =
    let cut = so.refuses.0 in (
      joined layout so.samples ++ cut,
      Consumes-trans left so.middle left' (joined layout so.samples) cut so.went.taken so.refuses.1,
      texts layout 0 so.samples,
      record {
        samples = so.samples;
        rest = cut;
        spelled = so.went.spelled;
        few = so.went.few;
        join = refl;
        is = refl;
        longest = λ less s x z range spells e. cut_stops layout (length so.samples) cut so.refuses.2 s x z spells e;
      },
      so.went.written,
    )

pub cut_at : {K : Type 0} (gained : K → List ℕ → K → Type 0) (layout : LayoutWords) (left left' : Option (List ℕ)) (old new : K) (r : Result ⊤ ShowFault)
    → ShowAnswer gained layout left left' old new r → CutAt gained layout left left' old new r
cut_at gained layout left left' old new r so at e = cut_of gained layout at left left' old new (subst (ShowAnswer gained layout left left' old new) e so)

-- that text is one
pub one_text : (layout : LayoutWords) (bytes text other : List ℕ) → Shown layout bytes text → Shown layout bytes other → text ≡ other
one_text layout bytes text other a b =
    let more = is_prefix layout MAX_SAMPLES a.samples b.samples a.rest b.rest a.spelled b.spelled (sym a.join ∙ b.join) a.few b.longest in
    let less = is_prefix layout MAX_SAMPLES b.samples a.samples b.rest a.rest b.spelled a.spelled (sym b.join ∙ a.join) b.few a.longest in
    let none : length more.0 ≡ 0 = omega (arith, ap length more.1, ap length less.1, length-append a.samples more.0, length-append b.samples less.0) in
    a.is ∙ ap (texts layout 0) (sym (more.1 ∙ ap (λ (t : List Sample). a.samples ++ t) (nil_from_length more.0 none) ∙ append-nil a.samples)) ∙ sym b.is
