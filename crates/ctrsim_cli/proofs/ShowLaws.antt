-- What the end of `show` says of its words and its bytes.
use Rattle.std.proofs.Common.{◌≡◌, ℕ, ◌+◌, ◌≤◌, List, [], ◌∷◌, ◌++◌, length}
use Rattle.std.proofs.Common.{Option, Some, None, arith, refl, sym, ap, ◌∙◌, subst}
use Rattle.std.proofs.Common.{length-append, false, get_or}
use Rattle.std.proofs.lemmas.List.Elements.{All-head, All-tail}
use Rattle.std.specs.declared.string.String.{String}
use Rattle.ctr_port.specs.Counts.{Rose}
use Rattle.ctr_port.specs.InHand.{Of}
use Rattle.perf_sample.specs.Breaks.{Breaks}
use Rattle.perf_sample.specs.Layout.{LayoutWords}
use Rattle.perf_sample.specs.declared.limits.TheConstants.{MAX_SAMPLES}
use Rattle.perf_sample.specs.Reader.{Refuses}
use Rattle.perf_sample.specs.Format.{Cause, OfRead, OfCount, OfBytes}
use Rattle.perf_sample.specs.Reading.{cause_of, is_read, sample_format}
use Rattle.perf_sample.specs.Spelling.{spelling}
use Rattle.perf_sample.specs.declared.faults.SampleFault.{SampleFault}
use Rattle.perf_sample.specs.declared.faults.SampleFault.TheVariants as sample
use Rattle.perf_sample.specs.declared.sample.Sample.{Sample}
use Rattle.perf_sample.proofs.ExactLaws.{clash}
use Rattle.ctrsim_cli.specs.declared.fault.Fault.{Fault}
use Rattle.ctrsim_cli.specs.declared.fault.Fault.TheVariants.{Usage, ReadFault, WriteFault, Memory}
use Rattle.ctrsim_cli.specs.declared.fault.Fault.TheVariants.{Line, Sample as BadSample}
use Rattle.ctrsim_cli.specs.Performed.{ReadCause, WriteCause}
use Rattle.ctrsim_cli.specs.ShowEnds.{ShowEnds}
use Rattle.ctrsim_cli.specs.Showing.{joined, AreSpelled, Refused}
use Rattle.ctrsim_cli.specs.Words.{IsRun, IsShow, IsDemo, IsAsked, IsWithin}
use Rattle.ctrsim_cli.specs.declared.words.Word.{Word}
use Rattle.ctrsim_cli.specs.declared.words.Word.TheVariants.{Run, Show, Demo}
use Rattle.perf_sample.proofs.OneSpelling.{one_spelling, samples_exact, spelled_some}
use Rattle.ctrsim_cli.proofs.Longest.{joined_cons, joined_empty, cons_front, taken_told}
use Rattle.ctrsim_cli.proofs.Shows.{One, joined_none}

-- words that ask for one thing don't ask for another
run_or_show : {A : Type 0} (words : List (String A)) (layout : LayoutWords) → IsRun words
    → IsShow words layout → ⊥
run_or_show [] layout run show = run
run_or_show (word ∷ []) layout run show = show
run_or_show (word ∷ (other ∷ words)) layout run show = run

run_or_demo : {A : Type 0} (words : List (String A)) (turns : ℕ) → IsRun words → IsDemo words turns → ⊥
run_or_demo [] turns run demo = run
run_or_demo (word ∷ []) turns run demo = demo
run_or_demo (word ∷ (other ∷ words)) turns run demo = run

show_or_demo : {A : Type 0} (words : List (String A)) (layout : LayoutWords) (turns : ℕ) → IsShow words layout → IsDemo words turns → ⊥
show_or_demo [] layout turns show demo = show
show_or_demo (word ∷ []) layout turns show demo = show
show_or_demo (word ∷ (number ∷ [])) layout turns show demo =
    let first : 115 ≡ 100 = ap (λ (letters : List ℕ). get_or letters 0 0) (sym show.0 ∙ demo.0) in
    absurd (omega (arith, first))
show_or_demo (word ∷ (number ∷ (more ∷ words))) layout turns show demo = demo

layout_is : (t t' b b' : ℕ) → t ≡ t' → b ≡ b'
    → ◌≡◌ {A = LayoutWords} (record { sample_type = t; branch = b }) (record { sample_type = t'; branch = b' })
layout_is t t' b b' et eb =
    ap (λ (x : ℕ). record { sample_type = x; branch = b }) et
    ∙ ap (λ (x : ℕ). record { sample_type = t'; branch = x }) eb

one_layout : {A : Type 0} (words : List (String A)) (a b : LayoutWords) → IsShow words a
    → IsShow words b → a ≡ b
one_layout [] a b p q = absurd p
one_layout (word ∷ []) a b p q = absurd p
one_layout (word ∷ (hex ∷ [])) a b p q =
    layout_is a.sample_type b.sample_type a.branch b.branch
    (p.1.0.value ∙ sym q.1.0.value) (p.2 ∙ sym q.2)
one_layout (word ∷ (hex ∷ (branch ∷ []))) a b p q =
    layout_is a.sample_type b.sample_type a.branch b.branch
    (p.1.0.value ∙ sym q.1.0.value) (p.2.0.value ∙ sym q.2.0.value)
one_layout (word ∷ (hex ∷ (branch ∷ (more ∷ words)))) a b p q = absurd p

one_number : {A : Type 0} (words : List (String A)) (m n : ℕ) → IsDemo words m → IsDemo words n → m ≡ n
one_number [] m n p q = absurd p
one_number (word ∷ []) m n p q = absurd p
one_number (word ∷ (number ∷ [])) m n p q = p.1.digits.value ∙ sym q.1.digits.value
one_number (word ∷ (number ∷ (more ∷ words))) m n p q = absurd p

-- so they ask for one thing
pub one_word : {A : Type 0} (words : List (String A)) (a b : Word) → IsAsked words a → IsAsked words b → a ≡ b
one_word words Run Run p q = refl
one_word words Run (Show layout) p q = absurd (run_or_show words layout p q)
one_word words Run (Demo turns) p q = absurd (run_or_demo words turns p q)
one_word words (Show layout) Run p q = absurd (run_or_show words layout q p)
one_word words (Show a) (Show b) p q = ap Show (one_layout words a b p q)
one_word words (Show layout) (Demo turns) p q = absurd (show_or_demo words layout turns p q)
one_word words (Demo turns) Run p q = absurd (run_or_demo words turns q p)
one_word words (Demo turns) (Show layout) p q = absurd (show_or_demo words layout turns q p)
one_word words (Demo a) (Demo b) p q = ap Demo (one_number words a b p q)

few_turns : {A : Type 0} (words : List (String A)) (n : ℕ) → IsDemo words n → n ≤ 100000
few_turns [] n demo = absurd demo
few_turns (word ∷ []) n demo = absurd demo
few_turns (word ∷ (number ∷ [])) n demo = demo.1.most
few_turns (word ∷ (number ∷ (more ∷ rest))) n demo = absurd demo

pub within_asked : {A : Type 0} (words : List (String A)) (word : Word) → IsAsked words word → IsWithin word
within_asked words Run p = tt
within_asked words (Show layout) p = tt
within_asked words (Demo turns) p = few_turns words turns p

-- what is left of a join of spellings behind some of them is the join of the others
left_over : (layout : LayoutWords) (xs ys : List Sample) (rest : List ℕ) → AreSpelled layout xs
    → AreSpelled layout ys → joined layout xs ++ rest ≡ joined layout ys
    → (ms : List Sample) × AreSpelled layout ms × (rest ≡ joined layout ms)
    × (length ys ≡ length xs + length ms)
left_over layout [] ys rest ps qs e = (ys, qs, sym (joined_empty layout rest) ∙ e, omega arith)
left_over layout (x ∷ xs) [] rest ps qs e =
    let one = All-head (One layout) x xs ps in
    let none : [] ≡ spelling layout x ++ (joined layout xs ++ rest) =
    sym (joined_none layout) ∙ sym e ∙ cons_front layout x xs rest in
    absurd (omega (
      arith,
      spelled_some layout x (spelling layout x) one.1,
      ap (λ (t : List ℕ). length t) none,
      length-append (spelling layout x) (joined layout xs ++ rest),
    ))
left_over layout (x ∷ xs) (y ∷ ys) rest ps qs e =
    let one = All-head (One layout) x xs ps in
    let other = All-head (One layout) y ys qs in
    let same = one_spelling layout x y (spelling layout x) (spelling layout y)
    (joined layout xs ++ rest) (joined layout ys) one.0 other.0 one.1 other.1
    (sym (cons_front layout x xs rest) ∙ e ∙ joined_cons layout y ys) in
    let more = left_over layout xs ys rest (All-tail (One layout) x xs ps)
    (All-tail (One layout) y ys qs) same.2 in
    (more.0, more.1, more.2, omega (arith, more.3))

-- so there is no break there
no_break : (layout : LayoutWords) (ms : List Sample) (rest u : List ℕ) (f : SampleFault)
    → AreSpelled layout ms → rest ≡ joined layout ms → Breaks layout rest f u → ⊥
no_break layout [] rest u f spelled is breaks = breaks.some (is ∙ joined_none layout)
no_break layout (m ∷ ms) rest u f spelled is breaks =
    clash (sample_format layout) (samples_exact layout) m (spelling layout m) (joined layout ms) u f
    (All-head (One layout) m ms spelled).1
    (subst (λ (t : List ℕ). Breaks layout t f u) (is ∙ joined_cons layout m ms) breaks)

broken_of : (layout : LayoutWords) (ms : List Sample) (rest : List ℕ) (left' : Option (List ℕ))
    (f : SampleFault) → AreSpelled layout ms → rest ≡ joined layout ms
    → Of (Some rest) left' (λ t t'. Breaks layout t f t') → ⊥
broken_of layout ms rest None f spelled is p = p
broken_of layout ms rest (Some u) f spelled is p = no_break layout ms rest u f spelled is p

-- and with as many samples as there may be, none is left over
counted_of : (layout : LayoutWords) (ms : List Sample) (rest : List ℕ) (left' : Option (List ℕ))
    → rest ≡ joined layout ms → length ms ≡ 0
    → Of (Some rest) left' (λ t t'. (b : ℕ) × (t ≡ b ∷ t')) → ⊥
counted_of layout [] rest None is none p = p
counted_of layout [] rest (Some u) is none p =
    absurd (omega (arith, ap (λ (t : List ℕ). length t) (sym p.1 ∙ is ∙ joined_none layout)))
counted_of layout (m ∷ ms) rest left' is none p = absurd (omega (arith, none))

not_refused : {K : Type 0} (gained : K → List ℕ → K → Type 0) (layout : LayoutWords)
    (left' : Option (List ℕ)) (old new : K) (f : SampleFault) (at : ℕ) (ys : List Sample) (why : Cause)
    (so : Refused gained layout (Some (joined layout ys)) left' old new f at)
    → Refuses why (sample_format layout) (length so.samples) so.middle left' f → (why ≡ OfRead → ⊥)
    → AreSpelled layout ys → length ys ≤ MAX_SAMPLES → ⊥
not_refused gained layout left' old new f at ys OfRead so refuses other spelled few = other refl
not_refused gained layout left' old new f at ys OfBytes so refuses other spelled few =
    let told = taken_told (joined layout ys) so.middle (joined layout so.samples) so.went.taken in
    let more = left_over layout so.samples ys told.0 so.went.spelled spelled (sym told.2) in
    broken_of layout more.0 told.0 left' f more.1 more.2
    (subst (λ m. Of m left' (λ t t'. Breaks layout t f t')) told.1 refuses.1)
not_refused gained layout left' old new f at ys OfCount so refuses other spelled few =
    let told = taken_told (joined layout ys) so.middle (joined layout so.samples) so.went.taken in
    let more = left_over layout so.samples ys told.0 so.went.spelled spelled (sym told.2) in
    counted_of layout more.0 told.0 left' more.2 (omega (arith, more.3, few, refuses.0))
    (subst (λ m. Of m left' (λ t t'. (b : ℕ) × (t ≡ b ∷ t'))) told.1 refuses.1)

not_read : (f : SampleFault) → is_read f ≡ false → cause_of f ≡ OfRead → ⊥
not_read sample.Header other e = absurd (cc e)
not_read sample.Kind other e = absurd (cc e)
not_read sample.Size other e = absurd (cc e)
not_read (sample.Short p) other e = absurd (cc e)
not_read sample.CpuReserved other e = absurd (cc e)
not_read sample.Count other e = absurd (cc e)
not_read (sample.FlagReserved i) other e = absurd (cc e)
not_read sample.TooMany other e = absurd (cc e)
not_read sample.ReadFault other e = absurd (cc other)

-- a join of so many spellings at most is shown whole
pub ends_shown : {K : Type 0} (gained : K → List ℕ → K → Type 0) (layout : LayoutWords)
    (left left' : Option (List ℕ)) (old new : K) (reads reads' writes writes' : ℕ)
    (fault : Option Fault) (ys : List Sample) → left ≡ Some (joined layout ys) → AreSpelled layout ys
    → length ys ≤ MAX_SAMPLES → ShowEnds gained layout left left' old new fault
    → ReadCause reads reads' fault → WriteCause writes writes' fault → (Rose reads reads' → ⊥)
    → (Rose writes writes' → ⊥) → fault ≡ None
ends_shown gained layout left left' old new r r' w w' None ys is spelled few so read write kept sent =
    refl
ends_shown gained layout left left' old new r r' w w' (Some Usage) ys is spelled few so read write
    kept sent = absurd so
ends_shown gained layout left left' old new r r' w w' (Some ReadFault) ys is spelled few so read write
    kept sent = absurd (kept read)
ends_shown gained layout left left' old new r r' w w' (Some WriteFault) ys is spelled few so read
    write kept sent = absurd (sent write)
ends_shown gained layout left left' old new r r' w w' (Some Memory) ys is spelled few so read write
    kept sent = absurd so
ends_shown gained layout left left' old new r r' w w' (Some (Line f)) ys is spelled few so read write
    kept sent = absurd so
ends_shown gained layout left left' old new r r' w w' (Some (BadSample at f)) ys is spelled few so
    read write kept sent =
    let told = subst (λ (l : Option (List ℕ)). Refused gained layout l left' old new f at) is so.1 in
    absurd (not_refused gained layout left' old new f at ys (cause_of f) told told.refuses
    (not_read f so.0) spelled few)
