-- What holds after some samples were read and shown, and how one more changes it.
use Rattle.std.proofs.Common.{◌≡◌, ℕ, ◌+◌, ◌<◌, List, [], ◌∷◌, ◌++◌, length, Option, Some, None, Ok, arith, refl, sym, ap, ◌∙◌, subst, append_assoc, append-nil, length-append}
use Rattle.std.proofs.KnownBytes.{Consumes-nil, Consumes-trans}
use Rattle.std.proofs.lemmas.List.Elements.{All-append, All-nil, All-cons}
use Rattle.std.proofs.lemmas.Grind.{flat_map-append}
use Rattle.std.specs.List.{flat_map}
use Rattle.std.specs.Io.KnownBytes.{Consumes}
use Rattle.perf_sample.specs.declared.sample.Sample.{Sample}
use Rattle.perf_sample.specs.Layout.{LayoutWords}
use Rattle.perf_sample.specs.Spelling.{spelling, Spells}
use Rattle.perf_sample.specs.Sample.{IsSample}
use Rattle.perf_sample.specs.declared.faults.SampleFault.{SampleFault}
use Rattle.perf_sample.specs.declared.limits.TheConstants.{MAX_SAMPLES}
use Rattle.perf_sample.specs.Reader.{Reader, fresh, after, IsNextAnswer}
use Rattle.perf_sample.specs.Reading.{sample_format}
use Rattle.ctrsim_cli.specs.SampleText.{shown_sample}
use Rattle.ctrsim_cli.specs.Showing.{joined, texts, AreShown}

zero-add : (n : ℕ) → 0 + n ≡ n
zero-add n = omega arith

add-zero : (n : ℕ) → n + 0 ≡ n
add-zero n = omega arith

pub joined_none : (layout : LayoutWords) → joined layout [] ≡ []
unfolding joined
joined_none layout = refl

pub joined_more : (layout : LayoutWords) (samples : List Sample) (s : Sample) → joined layout (samples ++ s ∷ []) ≡ joined layout samples ++ spelling layout s
unfolding joined
joined_more layout samples s =
    flat_map-append (spelling layout) samples (s ∷ []) ∙ ap (λ (t : List ℕ). flat_map (spelling layout) samples ++ t) (append-nil (spelling layout s))

pub texts_none : (layout : LayoutWords) (offset : ℕ) → texts layout offset [] ≡ []
unfolding texts
texts_none layout offset = refl

pub texts_more : (layout : LayoutWords) (offset : ℕ) (samples : List Sample) (s : Sample)
    → texts layout offset (samples ++ s ∷ []) ≡ texts layout offset samples ++ shown_sample layout (offset + length (joined layout samples)) s
unfolding texts joined
texts_more layout offset [] s =
    append-nil (shown_sample layout offset s) ∙ ap (λ (n : ℕ). shown_sample layout n s) (sym (add-zero offset))
texts_more layout offset (x ∷ samples) s =
    let next = offset + length (spelling layout x) in
    let place : next + length (flat_map (spelling layout) samples) ≡ offset + length (spelling layout x ++ flat_map (spelling layout) samples) =
    omega (arith, length-append (spelling layout x) (flat_map (spelling layout) samples)) in
    ap (λ (t : List ℕ). shown_sample layout offset x ++ t) (texts_more layout next samples s)
    ∙ sym (append_assoc (shown_sample layout offset x) (texts layout next samples) (shown_sample layout (next + length (flat_map (spelling layout) samples)) s))
    ∙ ap (λ (n : ℕ). (shown_sample layout offset x ++ texts layout next samples) ++ shown_sample layout n s) place

abbrev pub One : LayoutWords → Sample → Type 0
One layout x = IsSample x × Spells layout x (spelling layout x)

pub texts_last : (layout : LayoutWords) (samples : List Sample) (s : Sample) → texts layout 0 (samples ++ s ∷ []) ≡ texts layout 0 samples ++ shown_sample layout (length (joined layout samples)) s
texts_last layout samples s = texts_more layout 0 samples s ∙ ap (λ (n : ℕ). texts layout 0 samples ++ shown_sample layout n s) (zero-add (length (joined layout samples)))

-- a reader that has given these samples and refused nothing
pub record Shows {K : Type 0} (gained : K → List ℕ → K → Type 0) (layout : LayoutWords) (left left' : Option (List ℕ)) (old new : K) (r : Reader SampleFault) : Type 0 where
  pub samples : List Sample
  pub went : AreShown gained layout left left' old new samples
  pub layout_is : r.layout ≡ layout
  pub free : r.refused ≡ None
  pub given : r.given ≡ length samples
  pub taken : r.taken ≡ length (joined layout samples)

pub went_none : {K : Type 0} (gained : K → List ℕ → K → Type 0) (layout : LayoutWords) (left : Option (List ℕ)) (old : K) → gained old [] old
    → AreShown gained layout left left old old []
went_none gained layout left old nothing = record {
  spelled = All-nil (One layout);
  few = omega arith;
  taken = subst (Consumes left left) (sym (joined_none layout)) (Consumes-nil left);
  written = subst (λ t. gained old t old) (sym (texts_none layout 0)) nothing;
}

pub went_more : {K : Type 0} (gained : K → List ℕ → K → Type 0) → ((a b c : K) (x y : List ℕ) → gained a x b → gained b y c → gained a (x ++ y) c)
    → (layout : LayoutWords) (left middle left' : Option (List ℕ)) (old mid new : K) (samples : List Sample) (s : Sample) (bytes : List ℕ)
    → AreShown gained layout left middle old mid samples → length samples < MAX_SAMPLES → IsSample s → Spells layout s bytes → Consumes middle left' bytes
    → gained mid (shown_sample layout (length (joined layout samples)) s) new
    → AreShown gained layout left left' old new (samples ++ s ∷ [])
went_more gained joins layout left middle left' old mid new samples s bytes went few is spells took wrote =
    let same = spells.bytes_are in
    record {
      spelled = All-append (One layout) samples (s ∷ []) went.spelled (All-cons (One layout) s [] (is, subst (Spells layout s) same spells) (All-nil (One layout)));
      few = omega (arith, few, length-append samples (s ∷ []));
      taken = subst (Consumes left left') (sym (joined_more layout samples s))
          (Consumes-trans left middle left' (joined layout samples) (spelling layout s) went.taken (subst (Consumes middle left') same took));
      written = subst (λ t. gained old t new) (sym (texts_more layout 0 samples s ∙ ap (λ (n : ℕ). texts layout 0 samples ++ shown_sample layout n s) (zero-add (length (joined layout samples)))))
          (joins old mid new (texts layout 0 samples) (shown_sample layout (length (joined layout samples)) s) went.written wrote);
    }

-- before the first sample
pub begins : {K : Type 0} (gained : K → List ℕ → K → Type 0) (layout : LayoutWords) (left : Option (List ℕ)) (old : K) (r : Reader SampleFault) → gained old [] old → r ≡ fresh layout
    → Shows gained layout left left old old r
begins gained layout left old r nothing is = record {
  samples = [];
  went = went_none gained layout left old nothing;
  layout_is = ap (λ (x : Reader SampleFault). x.layout) is;
  free = ap (λ (x : Reader SampleFault). x.refused) is;
  given = ap (λ (x : Reader SampleFault). x.given) is;
  taken = ap (λ (x : Reader SampleFault). x.taken) is ∙ sym (ap length (joined_none layout));
}

-- one sample more
pub goes_on : {K : Type 0} (gained : K → List ℕ → K → Type 0) → ((a b c : K) (x y : List ℕ) → gained a x b → gained b y c → gained a (x ++ y) c)
    → (layout : LayoutWords) (left middle left' : Option (List ℕ)) (old mid new : K) (r r' : Reader SampleFault) (s : Sample)
    → Shows gained layout left middle old mid r → r' ≡ after (spelling r.layout) r (Ok (Some s)) → IsNextAnswer (sample_format r.layout) r.given middle left' (Ok (Some s)) → IsSample s
    → gained mid (shown_sample layout r'.offset s) new
    → Shows gained layout left left' old new r'
goes_on gained joins layout left middle left' old mid new r r' s so is answer range wrote =
    let offset : r'.offset ≡ length (joined layout so.samples) = ap (λ (x : Reader SampleFault). x.offset) is ∙ so.taken in
    record {
      samples = so.samples ++ s ∷ [];
      went = went_more gained joins layout left middle left' old mid new so.samples s answer.1 so.went (omega (arith, answer.0, so.given)) range
          (subst (λ l. Spells l s answer.1) so.layout_is answer.2) answer.3 (subst (λ n. gained mid (shown_sample layout n s) new) offset wrote);
      layout_is = ap (λ (x : Reader SampleFault). x.layout) is ∙ so.layout_is;
      free = ap (λ (x : Reader SampleFault). x.refused) is ∙ so.free;
      given = omega (arith, ap (λ (x : Reader SampleFault). x.given) is, so.given, length-append so.samples (s ∷ []));
      taken = ap (λ (x : Reader SampleFault). x.taken) is ∙ omega (arith, so.taken, ap (λ (l : LayoutWords). length (spelling l s)) so.layout_is, length-append (joined layout so.samples) (spelling layout s)) ∙ sym (ap length (joined_more layout so.samples s));
    }
