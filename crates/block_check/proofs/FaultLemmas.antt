-- A stack has at most one fault.
use Rattle.std.proofs.Common.{◌≡◌, inl, inr, ℕ, ◌<◌, ◌≤◌, ◌+◌, List, [], ◌∷◌, length, get_or, drop, drop-cons, add-one, refl, sym, ap, ◌∙◌, arith, subst}
use Rattle.std.proofs.lemmas.Bool.{cases_lt}
use Rattle.std.proofs.lemmas.List.{drop_all}
use Rattle.perf_sample.specs.declared.sample.Branch.{Branch}
use Rattle.block_check.specs.declared.rules.Why.{Why}
use Rattle.block_check.specs.declared.rules.Why.TheVariants.{Source, Kind, Target, Gap}
use Rattle.block_check.specs.declared.rules.Broken.{Broken}
use Rattle.block_check.specs.Rules.{Meets, Breaks, IsFine}
use Rattle.block_check.specs.Plausible.{FirstIsFine, FirstBreaks, IsPlausible, IsFault}

-- whoever has a target has a kind, and a source
pub kind_met : (image : List ℕ) (b : Branch) (older : List Branch) → Meets Target image b older → Meets Kind image b older
kind_met image b older (inl trap) = inl trap
kind_met image b older (inr p) = inr (p.0, p.1)

pub source_met : (image : List ℕ) (b : Branch) (older : List Branch) → Meets Kind image b older → Meets Source image b older
source_met image b older (inl trap) = inl trap
source_met image b older (inr p) = inr (p.1.word, p.1.there)

clash : (why : Why) (image : List ℕ) (bs : List Branch) → FirstIsFine image bs → FirstBreaks why image bs → ⊥
clash why image [] fine breaks = breaks
clash Source image (b ∷ older) fine breaks = breaks (source_met image b older (kind_met image b older fine.own))
clash Kind image (b ∷ older) fine breaks = breaks.1 (kind_met image b older fine.own)
clash Target image (b ∷ older) fine breaks = breaks.1 fine.own
clash Gap image (b ∷ older) fine breaks = breaks.1 fine.gap

same_why : (v w : Why) (image : List ℕ) (bs : List Branch) → FirstBreaks v image bs → FirstBreaks w image bs → v ≡ w
same_why v w image [] p q = absurd p
same_why Source Source image (b ∷ older) p q = refl
same_why Source Kind image (b ∷ older) p q = absurd (p q.0)
same_why Source Target image (b ∷ older) p q = absurd (p (source_met image b older q.0))
same_why Source Gap image (b ∷ older) p q = absurd (p (source_met image b older (kind_met image b older q.0)))
same_why Kind Source image (b ∷ older) p q = absurd (q p.0)
same_why Kind Kind image (b ∷ older) p q = refl
same_why Kind Target image (b ∷ older) p q = absurd (p.1 q.0)
same_why Kind Gap image (b ∷ older) p q = absurd (p.1 (kind_met image b older q.0))
same_why Target Source image (b ∷ older) p q = absurd (q (source_met image b older p.0))
same_why Target Kind image (b ∷ older) p q = absurd (q.1 p.0)
same_why Target Target image (b ∷ older) p q = refl
same_why Target Gap image (b ∷ older) p q = absurd (p.1 q.0)
same_why Gap Source image (b ∷ older) p q = absurd (q (source_met image b older (kind_met image b older p.0)))
same_why Gap Kind image (b ∷ older) p q = absurd (q.1 (kind_met image b older p.0))
same_why Gap Target image (b ∷ older) p q = absurd (q.1 p.0)
same_why Gap Gap image (b ∷ older) p q = refl

pub has_none : (image : List ℕ) (branches : List Branch) (f : Broken) → IsPlausible image branches → IsFault image branches f → ⊥
has_none image branches f fine fault = clash f.why image (drop f.branch branches) (fine f.branch) fault.breaks

-- no fault comes before another
not_before : (image : List ℕ) (branches : List Branch) (f g : Broken) → IsFault image branches f → IsFault image branches g → f.branch < g.branch → ⊥
not_before image branches f g one other less = clash f.why image (drop f.branch branches) (other.before f.branch less) one.breaks

fault_is : (m n : ℕ) (v w : Why) → m ≡ n → v ≡ w → ◌≡◌ {A = Broken} (record { branch = m; why = v }) (record { branch = n; why = w })
fault_is m n v w em ev =
    ap (λ (x : ℕ). record { branch = x; why = v }) em
    ∙ ap (λ (x : Why). record { branch = n; why = x }) ev

same_place : (image : List ℕ) (branches : List Branch) (f g : Broken) → IsFault image branches f → IsFault image branches g → f.branch ≡ g.branch
same_place image branches f g one other =
    elim (cases_lt f.branch g.branch) [
      | inl less ↦ absurd (not_before image branches f g one other less)
      | inr more ↦ elim (cases_lt g.branch f.branch) [
        | inl less ↦ absurd (not_before image branches g f other one less)
        | inr most ↦ omega (arith, more, most)
      ]
    ]

pub one_fault : (image : List ℕ) (branches : List Branch) (f g : Broken) → IsFault image branches f → IsFault image branches g → f ≡ g
one_fault image branches f g one other =
    let place = same_place image branches f g one other in
    fault_is f.branch g.branch f.why g.why place
    (same_why f.why g.why image (drop f.branch branches) one.breaks
    (subst (λ (n : ℕ). FirstBreaks g.why image (drop n branches)) (sym place) other.breaks))

-- the branch at a place, with those behind it
from_place : (branches : List Branch) (n : ℕ) (d : Branch) → n < length branches → drop n branches ≡ get_or branches n d ∷ drop (n + 1) branches
from_place branches n d within = rw (add-one n) (drop-cons branches n d within)

pub fine_at : (image : List ℕ) (branches : List Branch) (n : ℕ) (d : Branch) → n < length branches
    → IsFine image (get_or branches n d) (drop (n + 1) branches) → FirstIsFine image (drop n branches)
fine_at image branches n d within fine = subst (FirstIsFine image) (sym (from_place branches n d within)) fine

pub breaks_at : (why : Why) (image : List ℕ) (branches : List Branch) (n : ℕ) (d : Branch) → n < length branches
    → Breaks why image (get_or branches n d) (drop (n + 1) branches) → FirstBreaks why image (drop n branches)
breaks_at why image branches n d within breaks = subst (FirstBreaks why image) (sym (from_place branches n d within)) breaks

-- one more branch is fine
pub fine_more : (image : List ℕ) (branches : List Branch) (n : ℕ) → ((k : ℕ) → k < n → FirstIsFine image (drop k branches))
    → FirstIsFine image (drop n branches) → (k : ℕ) → k < n + 1 → FirstIsFine image (drop k branches)
fine_more image branches n before now k less =
    elim (cases_lt k n) [
      | inl below ↦ before k below
      | inr above ↦ let same : n ≡ k = omega (arith, less, above) in subst (λ (m : ℕ). FirstIsFine image (drop m branches)) same now
    ]

-- and past the last there is none
pub all_fine : (image : List ℕ) (branches : List Branch) → ((k : ℕ) → k < length branches → FirstIsFine image (drop k branches)) → IsPlausible image branches
all_fine image branches before k =
    elim (cases_lt k (length branches)) [
      | inl below ↦ before k below
      | inr above ↦ subst (FirstIsFine image) (sym (drop_all k branches above)) tt
    ]

-- where an older branch meets the rule whatever is behind it, so do the older branches
pub gap_of : (image : List ℕ) (b : Branch) (older : List Branch) (d : Branch) → 1 ≤ length older
    → ((rest : List Branch) → Meets Gap image b (get_or older 0 d ∷ rest)) → Meets Gap image b older
gap_of image b [] d some f = absurd (omega (arith, some))
gap_of image b (o ∷ rest) d some f = f rest

pub no_gap_of : (image : List ℕ) (b : Branch) (older : List Branch) (d : Branch) → 1 ≤ length older
    → ((rest : List Branch) → Meets Gap image b (get_or older 0 d ∷ rest) → ⊥) → Meets Gap image b older → ⊥
no_gap_of image b [] d some f met = omega (arith, some)
no_gap_of image b (o ∷ rest) d some f met = f rest met
