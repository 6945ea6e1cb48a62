-- What the end of a call says of each fault, the other way round.
use Rattle.std.proofs.Common.{◌≡◌, ◌⊎◌, inl, inr, refl, ap, subst, ℕ, List}
use Rattle.std.specs.Prelude.{Option, Some, None}
use Rattle.ctr_port.specs.Counts.{Rose}
use Rattle.ctr_port.specs.InHand.{Of}
use Rattle.replay_engine.specs.Breaks.{AcceptedOrBroken, IsAccepted, ScheduleBreak}
use Rattle.rv_hart.specs.Hart.{HartState}
use Rattle.sched_text.specs.declared.faults.LineFault.{LineFault}
use Rattle.sched_text.specs.declared.schedule.Command.{Command}
use Rattle.ctrsim_cli.specs.declared.fault.Fault.{Fault}
use Rattle.ctrsim_cli.specs.declared.fault.Fault.TheVariants.{Usage, ReadFault, WriteFault, Line}
use Rattle.ctrsim_cli.specs.declared.fault.Fault.TheVariants.{Memory, Sample as SampleAt}
use Rattle.ctrsim_cli.specs.OnHarts.{CountedOnHarts}
use Rattle.ctrsim_cli.proofs.ChainLaws.{PerformedBy}
use Rattle.ctrsim_cli.proofs.ShowLaws.{ends_shown}
use Rattle.ctrsim_cli.specs.Does.{Does, DoesOnHarts, Completes}
use Rattle.ctrsim_cli.specs.declared.words.Word.{Word}
use Rattle.ctrsim_cli.specs.declared.words.Word.TheVariants.{Run, Show, Demo}
use Rattle.ctrsim_cli.specs.Performed.{ReadCause, WriteCause}
use Rattle.ctrsim_cli.specs.RunEnds.{RunEnds, RefusedBefore, RefusedAfter}
use Rattle.ctrsim_cli.specs.Says.{IsRefusedBefore}

-- of a source that tells its bytes
told : (left left' : Option (List ℕ)) (text : List ℕ) (P : List ℕ → List ℕ → Type 0) (Q : Type 0) → left ≡ Some text → Of left left' P → ((rest : List ℕ) → P text rest → Q) → Q
told left left' text P Q is of then = by_rest left' (subst (λ (l : Option (List ℕ)). Of l left' P) is of)
  where
    by_rest : (l : Option (List ℕ)) → Of (Some text) l P → Q
    by_rest None p = absurd p
    by_rest (Some rest) p = then rest p

-- the line that a run refused is where its text breaks
refused_is : {K : Type 0} (left left' : Option (List ℕ)) (gained : K → List ℕ → K → Type 0) (old new : K) (harts : List HartState) (text : List ℕ) (f : LineFault) → left ≡ Some text
    → RefusedBefore left left' gained old new harts f ⊎ RefusedAfter left left' gained old new harts f → ScheduleBreak text f
refused_is left left' gained old new harts text f is (inl r) = told left left' text (λ b b'. IsRefusedBefore b f) (ScheduleBreak text f) is r.text (λ rest p. before p)
  where
    before : IsRefusedBefore text f → ScheduleBreak text f
    before (inl p) = inl p
    before (inr p) = inr (inl p)
refused_is left left' gained old new harts text f is (inr r) = told left left' text _ (ScheduleBreak text f) is r.text (λ rest p. inr (inr p.refused))

pub all_performed : {K : Type 0} {text : List ℕ} → AcceptedOrBroken text → (left left' : Option (List ℕ)) (gained : K → List ℕ → K → Type 0) (old new : K) (harts : List HartState) (reads reads' writes writes' : ℕ) (fault : Option Fault) (commands : List Command)
    → left ≡ Some text → IsAccepted text commands → RunEnds left left' gained old new harts fault → ReadCause reads reads' fault → WriteCause writes writes' fault
    → (Rose reads reads' → ⊥) → (Rose writes writes' → ⊥) → (fault ≡ None) ⊎ (fault ≡ Some Memory)
all_performed law left left' gained old new harts reads reads' writes writes' None commands is accepted ends read write kept sent = inl refl
all_performed law left left' gained old new harts reads reads' writes writes' (Some ReadFault) commands is accepted ends read write kept sent = absurd (kept read)
all_performed law left left' gained old new harts reads reads' writes writes' (Some WriteFault) commands is accepted ends read write kept sent = absurd (sent write)
all_performed {text = text} law left left' gained old new harts reads reads' writes writes' (Some (Line f)) commands is accepted ends read write kept sent =
    absurd (law.not_both commands f accepted (refused_is left left' gained old new harts text f is ends))
all_performed law left left' gained old new harts reads reads' writes writes' (Some Memory) commands is accepted ends read write kept sent = inr refl
all_performed law left left' gained old new harts reads reads' writes writes' (Some Usage) commands is accepted ends read write kept sent = absurd ends
all_performed law left left' gained old new harts reads reads' writes writes' (Some (SampleAt at f)) commands is accepted ends read write kept sent = absurd ends

pub all_refused : {K : Type 0} {text : List ℕ} → AcceptedOrBroken text → (left left' : Option (List ℕ)) (gained : K → List ℕ → K → Type 0) (old new : K) (harts : List HartState) (reads reads' writes writes' : ℕ) (fault : Option Fault) (f : LineFault)
    → left ≡ Some text → ScheduleBreak text f → RunEnds left left' gained old new harts fault → ReadCause reads reads' fault → WriteCause writes writes' fault
    → (Rose reads reads' → ⊥) → (Rose writes writes' → ⊥) → (fault ≡ Some (Line f)) ⊎ (fault ≡ Some Memory)
all_refused {text = text} law left left' gained old new harts reads reads' writes writes' None f is broken ends read write kept sent =
    told left left' text _ _ is ends.text (λ rest p. absurd (law.not_both _ f p.1.accepted broken))
all_refused law left left' gained old new harts reads reads' writes writes' (Some ReadFault) f is broken ends read write kept sent = absurd (kept read)
all_refused law left left' gained old new harts reads reads' writes writes' (Some WriteFault) f is broken ends read write kept sent = absurd (sent write)
all_refused {text = text} law left left' gained old new harts reads reads' writes writes' (Some (Line g)) f is broken ends read write kept sent =
    inl (ap (λ (h : LineFault). Some (Line h)) (law.one g f (refused_is left left' gained old new harts text g is ends) broken))
all_refused law left left' gained old new harts reads reads' writes writes' (Some Memory) f is broken ends read write kept sent = inr refl
all_refused law left left' gained old new harts reads reads' writes writes' (Some Usage) f is broken ends read write kept sent = absurd ends
all_refused law left left' gained old new harts reads reads' writes writes' (Some (SampleAt at g)) f is broken ends read write kept sent = absurd ends

pub all_summed : {E H K : Type 0} (performed : PerformedBy E H) (gained : K → List ℕ → K → Type 0) (a b : H) (old new : K) (writes writes' turns : ℕ) (fault : Option Fault) → CountedOnHarts performed gained turns a b old new fault → WriteCause writes writes' fault
    → (Rose writes writes' → ⊥) → (fault ≡ None) ⊎ (fault ≡ Some Memory)
all_summed performed gained a b old new writes writes' turns None ends write sent = inl refl
all_summed performed gained a b old new writes writes' turns (Some WriteFault) ends write sent = absurd (sent write)
all_summed performed gained a b old new writes writes' turns (Some Memory) ends write sent = inr refl
all_summed performed gained a b old new writes writes' turns (Some Usage) ends write sent = absurd ends
all_summed performed gained a b old new writes writes' turns (Some ReadFault) ends write sent = absurd ends
all_summed performed gained a b old new writes writes' turns (Some (Line f)) ends write sent = absurd ends
all_summed performed gained a b old new writes writes' turns (Some (SampleAt at f)) ends write sent = absurd ends

-- of each word
pub completes : {E H K : Type 0} → ((text : List ℕ) → AcceptedOrBroken text) → (performed : PerformedBy E H) (word : Word) (tells : Type 0) (left left' : Option (List ℕ)) (gained : K → List ℕ → K → Type 0) (old new : K) (harts : List HartState) (a b : H) (reads reads' writes writes' : ℕ) (fault : Option Fault)
    → Does word tells left left' gained old new harts fault → DoesOnHarts performed word gained a b old new fault → ReadCause reads reads' fault → WriteCause writes writes' fault
    → Completes word tells (Rose reads reads' → ⊥) (Rose writes writes' → ⊥) left fault
completes law performed Run tells left left' gained old new harts a b reads reads' writes writes' fault does on read write = λ told kept sent. record {
  performed = λ text commands is accepted. all_performed (law text) left left' gained old new harts reads reads' writes writes' fault commands is accepted (does told) read write kept sent;
  refused = λ text f is broken. all_refused (law text) left left' gained old new harts reads reads' writes writes' fault f is broken (does told) read write kept sent;
}
completes law performed (Show layout) tells left left' gained old new harts a b reads reads' writes writes' fault does on read write = λ kept sent samples spelled few is.
    ends_shown gained layout left left' old new reads reads' writes writes' fault samples is spelled few does.0 read write kept sent
completes law performed (Demo turns) tells left left' gained old new harts a b reads reads' writes writes' fault does on read write = λ sent.
    all_summed performed gained a b old new writes writes' turns fault on write sent
