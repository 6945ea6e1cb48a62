-- What a run of a schedule comes to, by its fault.
use Rattle.std.proofs.Common.{◌≡◌, ◌⊎◌, inl, inr, refl, sym, ap, ◌∙◌, subst, ℕ, ◌+◌, ◌<◌, List, [], ◌∷◌, ◌++◌, length, append-nil, append_assoc}
use Rattle.std.specs.Prelude.{Option, Some, None, Ok, Err}
use Rattle.std.proofs.lemmas.Grind.{flat_map-append}
use Rattle.std.proofs.lemmas.Option.{same_Some}
use Rattle.ctr_port.specs.InHand.{Of, text_of}
use Rattle.ctr_port.proofs.InHand.{of_then}
use Rattle.perf_sample.specs.Spelling.{spelling}
use Rattle.perf_sample.specs.declared.sample.Sample.{Sample}
use Rattle.replay_engine.specs.Breaks.{AreAllowed, reason_of}
use Rattle.replay_engine.specs.HartSet.{IsHeldUp, IsStopped, GoesOn}
use Rattle.replay_engine.specs.Runs.{spellings}
use Rattle.replay_engine.specs.Scheduled.{samples_from}
use Rattle.replay_engine.specs.Start.{plan_of, sample_layout}
use Rattle.replay_engine.specs.declared.fault.PerformFault.{PerformFault}
use Rattle.replay_engine.specs.declared.fault.PerformFault.TheVariants as why
use Rattle.rv_hart.specs.Hart.{HartState}
use Rattle.sched_text.specs.Commands.{command_at}
use Rattle.sched_text.specs.Header.{HasHeader, HeaderBreak, HeaderAnswer, IsCutOff}
use Rattle.sched_text.specs.Images.{IsWithin}
use Rattle.sched_text.specs.Lines.{Open, line_at}
use Rattle.sched_text.specs.Outcomes.{total, IsShort, FirstCommands}
use Rattle.sched_text.specs.Reader.{EndsAt, CommandAnswer}
use Rattle.sched_text.specs.Text.{ImagesBreak}
use Rattle.sched_text.specs.declared.faults.CommandFault.{CommandFault}
use Rattle.sched_text.specs.declared.faults.CommandFault.TheVariants as reading
use Rattle.sched_text.specs.declared.faults.LineFault.{LineFault}
use Rattle.sched_text.specs.declared.faults.Reason.{Reason}
use Rattle.sched_text.specs.declared.faults.Reason.TheVariants as reason
use Rattle.sched_text.specs.declared.faults.ScheduleFault.{ScheduleFault}
use Rattle.sched_text.specs.declared.faults.ScheduleFault.TheVariants as fault
use Rattle.sched_text.specs.declared.limits.TheConstants.{WINDOW}
use Rattle.sched_text.specs.declared.schedule.Command.{Command}
use Rattle.sched_text.specs.declared.schedule.Command.TheVariants as command
use Rattle.sched_text.specs.declared.schedule.Header.{Header}
use Rattle.ctrsim_cli.specs.declared.fault.Fault.{Fault}
use Rattle.ctrsim_cli.specs.declared.fault.Fault.TheVariants.{Usage, WriteFault, Line}
use Rattle.ctrsim_cli.specs.OnHarts.{ReadOnHarts}
use Rattle.ctrsim_cli.specs.Parts.{Begins, Performed, PerformAnswer, ImagesRefused, opening_fault, reading_fault, performing_fault}
use Rattle.ctrsim_cli.specs.RunEnds.{IsDone, Nothing, RunEnds}
use Rattle.ctrsim_cli.specs.Says.{IsAcceptedAs, IsRefusedAfter, IsRefusedBefore, IsTakenTo, IsCutBefore, IsCutAfter, Took}
use Rattle.ctrsim_cli.specs.Schedule.{IsSchedule, output_of, followed_by}
use Rattle.ctrsim_cli.proofs.ChainLaws.{Follows, PerformedBy, CommandsGoOn, HartsAreTold, chain_goes_on, joined}
use Rattle.ctrsim_cli.proofs.Endings.{bare, schedule, header_cut_off, images_short, images_cut_off, accepted_as, refused_by_text, refused_by_place}
use Rattle.ctrsim_cli.proofs.Endings.{command_cut_off, end_cut_off, taken_to}

-- the schedule couldn't be opened
refused_images : (f : ScheduleFault) (lines : ℕ) (hand : List ℕ) (left left' : Option (List ℕ)) {K : Type 0} (gained : K → List ℕ → K → Type 0) (old new : K) (hs : List HartState)
    → Nothing gained old new hs → ImagesRefused lines (text_of [] left) (text_of hand left') hand f → RunEnds left left' gained old new hs (Some (opening_fault f))
refused_images (fault.Line f) lines hand left left' gained old new hs none r = inl (record {
  nothing = none;
  text = bare hand left left' (λ t t'. ImagesBreak t f) (λ b b'. IsRefusedBefore b f)
      (of_then (text_of [] left) r.middle (text_of hand left') (λ t t'. HasHeader t lines r.header t') (λ t t'. IsShort lines (total r.header.tasks) f t) (λ t t'. ImagesBreak t f) r.has r.refused (λ x y z p q. images_short lines r.header f x y p q))
      (λ b b' p. inr p);
})
refused_images fault.ReadFault lines hand left left' gained old new hs none r = inl (record {
  nothing = none;
  text = bare hand left left' (Took IsCutBefore) (Took IsCutBefore)
      (of_then (text_of [] left) r.middle (text_of hand left') (λ t t'. HasHeader t lines r.header t') (IsWithin (total r.header.tasks)) (Took IsCutBefore) r.has r.refused.1 (λ x y z p q. images_cut_off lines r.header x z y p q))
      (λ b b' p. subst (λ (u : List ℕ). Took IsCutBefore b (u ++ b')) r.refused.0 p);
})
refused_images fault.Memory lines hand left left' gained old new hs none r = none

refused_header : (f : ScheduleFault) (lines : ℕ) (hand : List ℕ) (left left' : Option (List ℕ)) {K : Type 0} (gained : K → List ℕ → K → Type 0) (old new : K) (hs : List HartState)
    → Nothing gained old new hs → HeaderAnswer lines (text_of [] left) (text_of hand left') hand (Err f) → RunEnds left left' gained old new hs (Some (opening_fault f))
refused_header (fault.Line f) lines hand left left' gained old new hs none r = inl (record {
  nothing = none;
  text = bare hand left left' (λ t t'. HeaderBreak t f) (λ b b'. IsRefusedBefore b f) r.1 (λ b b' p. inl p);
})
refused_header fault.ReadFault lines hand left left' gained old new hs none r = inl (record {
  nothing = none;
  text = bare hand left left' (IsCutOff lines) (Took IsCutBefore) r.1 (λ b b' p. header_cut_off lines hand b b' r.0 p);
})
refused_header fault.Memory lines hand left left' gained old new hs none r = none

pub not_opened : (f : ScheduleFault) (lines : ℕ) (hand : List ℕ) (left left' : Option (List ℕ)) {K : Type 0} (gained : K → List ℕ → K → Type 0) (old new : K) (hs : List HartState)
    → Nothing gained old new hs → HeaderAnswer lines (text_of [] left) (text_of hand left') hand (Err f) ⊎ ImagesRefused lines (text_of [] left) (text_of hand left') hand f → RunEnds left left' gained old new hs (Some (opening_fault f))
not_opened f lines hand left left' gained old new hs none (inl r) = refused_header f lines hand left left' gained old new hs none r
not_opened f lines hand left left' gained old new hs none (inr r) = refused_images f lines hand left left' gained old new hs none r

-- the commands behind header and images, as a relation of the whole text and what follows them
abbrev Behind : ℕ → ℕ → Header → List (List ℕ) → List Command → List ℕ → List ℕ → Type 0
Behind lines count h images cs t k = (m : List ℕ) × Begins lines h images t m × FirstCommands lines count cs m k

behind : (lines count : ℕ) (h : Header) (images : List (List ℕ)) (cs : List Command) (a b c : Option (List ℕ)) → Of a b (Begins lines h images) → Of b c (FirstCommands lines count cs) → Of a c (Behind lines count h images cs)
behind lines count h images cs a b c begins given = of_then a b c (Begins lines h images) (FirstCommands lines count cs) (Behind lines count h images cs) begins given (λ x y z p q. (y, p, q))

-- the commands that were performed on harts that tell what they hold, as done
done : {E H K : Type 0} (follows : Follows E H) (performed : PerformedBy E H) (tells : H → Type 0) (held : H → List HartState) (gained : K → List ℕ → K → Type 0) → CommandsGoOn follows performed tells held → HartsAreTold follows tells held
    → (h : Header) (images : List (List ℕ)) (e f : E) (a b : H) (old new : K) (lines count : ℕ) (t u : Option (List ℕ)) → IsSchedule (schedule h images []) → follows h images [] e a → tells a
    → (p : Performed follows performed gained e a old f b new lines count t u) → IsDone gained old new (held b) (schedule h images p.commands) × follows h images p.commands f b × tells b
done follows performed tells held gained law lone h images e f a b old new lines count t u is begun told p =
    let r = chain_goes_on follows performed tells held law h images [] p.commands e f a b p.bytes begun p.chain in
    let s = r.2 told in (
      record {
        is = record { header = is.header; size = is.size; bytes = is.bytes; allowed = r.0 };
        written = subst (λ (bytes : List ℕ). gained old bytes new) s.1 p.written;
        harts_are = lone h images p.commands f b r.1 s.0;
      },
      r.1,
      s.0,
    )

-- a read failed where the next command was looked for
abbrev Unread : ℕ → ℕ → Header → List (List ℕ) → List Command → List ℕ → List ℕ → List ℕ → Type 0
Unread lines count h images cs hand t t' = (k : List ℕ) × Behind lines count h images cs t k × ((t' ≡ k) ⊎ ((hand ≡ []) × EndsAt (line_at k) t'))

unread : (lines count : ℕ) (h : Header) (images : List (List ℕ)) (cs : List Command) (hand b b' : List ℕ) → length images ≡ length h.tasks → AreAllowed (plan_of h) cs → line_at hand ≡ Open → Unread lines count h images cs hand b (hand ++ b')
    → Took (λ t. IsCutAfter t (schedule h images cs)) b b'
unread lines count h images cs hand b b' size allowed open_ (k, (m, begins, given), inl same) =
    command_cut_off lines count h images cs hand b b' m size open_ begins (subst (λ (u : List ℕ). FirstCommands lines count cs m u) (sym same) given) allowed
unread lines count h images cs hand b b' size allowed open_ (k, (m, begins, given), inr ends) =
    end_cut_off lines count h images cs b b' m k size begins given allowed (subst (λ (u : List ℕ). EndsAt (line_at k) (u ++ b')) ends.0 ends.1)

-- nothing behind nothing
empty_back : (xs ys : List ℕ) → xs ++ ys ≡ [] → ys ≡ []
empty_back [] ys e = e
empty_back (x ∷ xs) ys e = absurd cc

-- no command could be read
unread_ends : {E H K : Type 0} (follows : Follows E H) (performed : PerformedBy E H) (tells : H → Type 0) (held : H → List HartState) (gained : K → List ℕ → K → Type 0) → CommandsGoOn follows performed tells held → HartsAreTold follows tells held
    → (h : Header) (images : List (List ℕ)) (e : E) (a b : H) (old new : K) (lines count : ℕ) (hand : List ℕ) (left mid middle left' : Option (List ℕ)) (engine : E) → IsSchedule (schedule h images []) → follows h images [] e a → tells a
    → Of (text_of [] left) mid (Begins lines h images) → Performed follows performed gained e a old engine b new lines count mid middle
    → (f : CommandFault) → CommandAnswer (command_at (lines + (count + 1)) count) middle (text_of hand left') hand (Err f) → RunEnds left left' gained old new (held b) (Some (reading_fault f))
unread_ends follows performed tells held gained law lone h images e a b old new lines count hand left mid middle left' engine is begun told begins p (reading.Line f) next =
    let d = done follows performed tells held gained law lone h images e engine a b old new lines count mid middle is begun told p in
    let cs = p.commands in
    inr (record {
      schedule = schedule h images cs;
      done = d.0;
      text = bare hand left left' (λ t t'. IsRefusedAfter t (schedule h images cs) f) (λ b b'. IsRefusedAfter b (schedule h images cs) f)
          (of_then (text_of [] left) middle (text_of hand left') (Behind lines count h images cs) (λ t t'. command_at (lines + (count + 1)) count t ≡ Err f) (λ t t'. IsRefusedAfter t (schedule h images cs) f)
          (behind lines count h images cs (text_of [] left) mid middle begins p.given) next
          (λ x y z q r. refused_by_text lines count h images cs x q.0 y f is.size q.1 q.2 d.0.is.allowed r))
          (λ b b' q. q);
    })
unread_ends follows performed tells held gained law lone h images e a b old new lines count hand left mid middle left' engine is begun told begins p reading.ReadFault next =
    let d = done follows performed tells held gained law lone h images e engine a b old new lines count mid middle is begun told p in
    let cs = p.commands in
    inr (record {
      schedule = schedule h images cs;
      done = d.0;
      text = bare hand left left' (Unread lines count h images cs hand) (Took (λ t. IsCutAfter t (schedule h images cs)))
          (of_then (text_of [] left) middle (text_of hand left') (Behind lines count h images cs) (λ t t'. (t' ≡ t) ⊎ ((hand ≡ []) × EndsAt (line_at t) t')) (Unread lines count h images cs hand)
          (behind lines count h images cs (text_of [] left) mid middle begins p.given) next.1 (λ x y z q r. (y, q, r)))
          (λ b b' q. unread lines count h images cs hand b b' is.size d.0.is.allowed next.0 q);
    })

-- the next command was refused by the commands before it
held_up : {E H K : Type 0} (follows : Follows E H) (performed : PerformedBy E H) (tells : H → Type 0) (held : H → List HartState) (gained : K → List ℕ → K → Type 0) → ((a b c : K) (x y : List ℕ) → gained a x b → gained b y c → gained a (x ++ y) c) → CommandsGoOn follows performed tells held → HartsAreTold follows tells held
    → (h : Header) (images : List (List ℕ)) (e f : E) (a m b : H) (old sink new : K) (lines count : ℕ) (hand : List ℕ) (left mid middle left' : Option (List ℕ)) (engine : E) (c : Command) (bytes : List ℕ) → IsSchedule (schedule h images []) → follows h images [] e a → tells a
    → Of (text_of [] left) mid (Begins lines h images) → (p : Performed follows performed gained e a old engine m sink lines count mid middle) → gained sink bytes new
    → Of middle (text_of hand left') (λ t t'. command_at (lines + (count + 1)) count t ≡ Ok (c, t'))
    → (why : PerformFault) (r : Reason) → reason_of why ≡ Some r → IsHeldUp follows tells h images p.commands c bytes m f b why
    → RunEnds left left' gained old new (held b) (Some (Line (record { line = lines + (count + 1); reason = r })))
held_up follows performed tells held gained joins law lone h images e f a m b old sink new lines count hand left mid middle left' engine c bytes is begun told begins p wrote next why r named u =
    let d = done follows performed tells held gained law lone h images e engine a m old sink lines count mid middle is begun told p in
    let cs = p.commands in
    let s = schedule h images cs in
    let g : LineFault = record { line = lines + (count + 1); reason = r } in
    let same : output_of s ++ bytes ≡ output_of s = ap (λ (x : List ℕ). output_of s ++ x) u.none ∙ append-nil (output_of s) in
    inr (record {
      schedule = s;
      done = record {
        is = d.0.is;
        written = subst (λ (x : List ℕ). gained old x new) same (joins old sink new (output_of s) bytes d.0.written wrote);
        harts_are = lone h images cs f b u.same (u.told d.2);
      };
      text = bare hand left left' (λ t t'. IsRefusedAfter t s g) (λ b b'. IsRefusedAfter b s g)
          (of_then (text_of [] left) middle (text_of hand left') (Behind lines count h images cs) (λ t t'. command_at (lines + (count + 1)) count t ≡ Ok (c, t')) (λ t t'. IsRefusedAfter t s g)
          (behind lines count h images cs (text_of [] left) mid middle begins p.given) next
          (λ x y z q k. refused_by_place lines count h images cs x q.0 y z g c why is.size q.1 q.2 d.0.is.allowed k u.refused named refl))
          (λ b b' q. q);
    })

-- a sample of it could not be written
stopped : {E H K : Type 0} (follows : Follows E H) (performed : PerformedBy E H) (tells : H → Type 0) (held : H → List HartState) (gained : K → List ℕ → K → Type 0) → ((a b c : K) (x y : List ℕ) → gained a x b → gained b y c → gained a (x ++ y) c) → CommandsGoOn follows performed tells held → HartsAreTold follows tells held
    → (h : Header) (images : List (List ℕ)) (e : E) (a m b : H) (old sink new : K) (lines count : ℕ) (hand : List ℕ) (left mid middle left' : Option (List ℕ)) (engine : E) (c : Command) (bytes : List ℕ) → IsSchedule (schedule h images []) → follows h images [] e a → tells a
    → Of (text_of [] left) mid (Begins lines h images) → (p : Performed follows performed gained e a old engine m sink lines count mid middle) → gained sink bytes new
    → Of middle (text_of hand left') (λ t t'. command_at (lines + (count + 1)) count t ≡ Ok (c, t')) → length hand < WINDOW
    → IsStopped tells held h images p.commands c bytes m b → RunEnds left left' gained old new (held b) (Some WriteFault)
stopped follows performed tells held gained joins law lone h images e a m b old sink new lines count hand left mid middle left' engine c bytes is begun told begins p wrote next near u =
    let d = done follows performed tells held gained law lone h images e engine a m old sink lines count mid middle is begun told p in
    let cs = p.commands in
    let s = schedule h images cs in
    let x = (u.told d.2).1 in
    let layout = sample_layout h in
    let all = samples_from h images [] cs in
    let part = samples_from h images cs x.before in
    let shorter : samples_from h images [] (cs ++ x.before) ≡ all ++ part = joined h images [] cs x.before in
    let bytes_are : output_of s ++ bytes ≡ output_of (followed_by s x.before) ++ x.last =
    ap (λ (k : List ℕ). output_of s ++ k) x.are ∙ sym (append_assoc (output_of s) (spellings layout part) x.last)
    ∙ ap (λ (k : List ℕ). k ++ x.last) (sym (flat_map-append (spelling layout) all part) ∙ ap (spellings layout) (sym shorter)) in
    record {
      schedule = s;
      command = c;
      cut_off = record {
        is = d.0.is;
        made = x.made;
        before = x.before;
        parts = x.parts;
        failed = x.failed;
        is_last = joined h images [] cs (x.made ∷ []) ∙ ap (λ (k : List Sample). all ++ k) x.is_last
            ∙ sym (append_assoc all part (x.failed ∷ [])) ∙ ap (λ (k : List Sample). k ++ x.failed ∷ []) (sym shorter);
        last = x.last;
        cut = x.cut;
        written = subst (λ (k : List ℕ). gained old k new) bytes_are (joins old sink new (output_of s) bytes d.0.written wrote);
        harts_are = x.harts_are;
      };
      text = bare hand left left' (λ t t'. (k : List ℕ) × Behind lines count h images cs t k × (command_at (lines + (count + 1)) count k ≡ Ok (c, t'))) (λ b b'. IsTakenTo b b' s c)
          (of_then (text_of [] left) middle (text_of hand left') (Behind lines count h images cs) (λ t t'. command_at (lines + (count + 1)) count t ≡ Ok (c, t'))
          (λ t t'. (k : List ℕ) × Behind lines count h images cs t k × (command_at (lines + (count + 1)) count k ≡ Ok (c, t')))
          (behind lines count h images cs (text_of [] left) mid middle begins p.given) next (λ x y z q r. (y, q, r)))
          (λ b b' q. taken_to lines count h images cs c hand b b' q.1.0 q.0 is.size q.1.1 q.1.2 d.0.is.allowed u.allowed q.2 near);
    }

part_ends : {E H K : Type 0} (follows : Follows E H) (performed : PerformedBy E H) (tells : H → Type 0) (held : H → List HartState) (gained : K → List ℕ → K → Type 0) → ((a b c : K) (x y : List ℕ) → gained a x b → gained b y c → gained a (x ++ y) c) → CommandsGoOn follows performed tells held → HartsAreTold follows tells held
    → (h : Header) (images : List (List ℕ)) (e f : E) (a m b : H) (old sink new : K) (lines count : ℕ) (hand : List ℕ) (left mid middle left' : Option (List ℕ)) (engine : E) (c : Command) (bytes : List ℕ) → IsSchedule (schedule h images []) → follows h images [] e a → tells a
    → Of (text_of [] left) mid (Begins lines h images) → (p : Performed follows performed gained e a old engine m sink lines count mid middle) → gained sink bytes new
    → Of middle (text_of hand left') (λ t t'. command_at (lines + (count + 1)) count t ≡ Ok (c, t')) → length hand < WINDOW
    → (why : PerformFault) → GoesOn follows tells held h images p.commands c bytes m f b (Err why) → RunEnds left left' gained old new (held b) (Some (performing_fault why (lines + (count + 1))))
part_ends follows performed tells held gained joins law lone h images e f a m b old sink new lines count hand left mid middle left' engine c bytes is begun told begins p wrote next near why.NoTask u =
    held_up follows performed tells held gained joins law lone h images e f a m b old sink new lines count hand left mid middle left' engine c bytes is begun told begins p wrote next why.NoTask reason.NoTask refl u
part_ends follows performed tells held gained joins law lone h images e f a m b old sink new lines count hand left mid middle left' engine c bytes is begun told begins p wrote next near why.NoHart u =
    held_up follows performed tells held gained joins law lone h images e f a m b old sink new lines count hand left mid middle left' engine c bytes is begun told begins p wrote next why.NoHart reason.NoHart refl u
part_ends follows performed tells held gained joins law lone h images e f a m b old sink new lines count hand left mid middle left' engine c bytes is begun told begins p wrote next near why.NotResident u =
    held_up follows performed tells held gained joins law lone h images e f a m b old sink new lines count hand left mid middle left' engine c bytes is begun told begins p wrote next why.NotResident reason.NotResident refl u
part_ends follows performed tells held gained joins law lone h images e f a m b old sink new lines count hand left mid middle left' engine c bytes is begun told begins p wrote next near why.EmptyHart u =
    held_up follows performed tells held gained joins law lone h images e f a m b old sink new lines count hand left mid middle left' engine c bytes is begun told begins p wrote next why.EmptyHart reason.EmptyHart refl u
part_ends follows performed tells held gained joins law lone h images e f a m b old sink new lines count hand left mid middle left' engine c bytes is begun told begins p wrote next near why.Write u =
    stopped follows performed tells held gained joins law lone h images e a m b old sink new lines count hand left mid middle left' engine c bytes is begun told begins p wrote next near u

pub run_ends : {E H K : Type 0} (follows : Follows E H) (performed : PerformedBy E H) (tells : H → Type 0) (held : H → List HartState) (gained : K → List ℕ → K → Type 0) → ((a b c : K) (x y : List ℕ) → gained a x b → gained b y c → gained a (x ++ y) c) → CommandsGoOn follows performed tells held → HartsAreTold follows tells held
    → (h : Header) (images : List (List ℕ)) (e : E) (a b : H) (old new : K) (lines : ℕ) (hand : List ℕ) (left mid left' : Option (List ℕ)) (f : Option Fault) → IsSchedule (schedule h images []) → follows h images [] e a → tells a
    → Of (text_of [] left) mid (Begins lines h images) → PerformAnswer follows performed gained e a old b new lines mid (text_of hand left') hand f → RunEnds left left' gained old new (held b) f
run_ends follows performed tells held gained joins law lone h images e a b old new lines hand left mid left' None is begun told begins p =
    let d = done follows performed tells held gained law lone h images e p.engine a b old new lines p.count mid p.middle is begun told p.before in
    let cs = p.before.commands in
    let s = schedule h images cs in
    record {
      schedule = s;
      done = d.0;
      text = bare hand left left' (λ t t'. (t' ≡ []) × IsAcceptedAs t s) (λ b b'. (b' ≡ []) × IsAcceptedAs b s)
          (of_then (text_of [] left) p.middle (text_of hand left') (Behind lines p.count h images cs) (λ t t'. command_at (lines + (p.count + 1)) p.count t ≡ Ok (command.End, t')) (λ t t'. (t' ≡ []) × IsAcceptedAs t s)
          (behind lines p.count h images cs (text_of [] left) mid p.middle begins p.before.given) p.next
          (λ x y z q r. accepted_as lines p.count h images cs x q.0 y z is.size q.1 q.2 d.0.is.allowed r))
          (λ b b' q. (empty_back hand b' q.0, q.1));
    }
run_ends follows performed tells held gained joins law lone h images e a b old new lines hand left mid left' (Some fault) is begun told begins (inl p) =
    subst (λ (x : Fault). RunEnds left left' gained old new (held b) (Some x)) (sym p.next.1)
    (unread_ends follows performed tells held gained law lone h images e a b old new lines p.count hand left mid p.middle left' p.engine is begun told begins p.before p.next.0 p.next.2)
run_ends follows performed tells held gained joins law lone h images e a b old new lines hand left mid left' (Some fault) is begun told begins (inr p) =
    let r = chain_goes_on follows performed tells held law h images [] p.before.commands e p.engine a p.harts p.before.bytes begun p.before.chain in
    subst (λ (x : Fault). RunEnds left left' gained old new (held b) (Some x)) (sym p.is)
    (part_ends follows performed tells held gained joins law lone h images e p.after a p.harts b old p.sink new lines p.count hand left mid p.middle left' p.engine p.command p.bytes is begun told begins p.before p.written p.next p.near p.why
    (law h images p.before.commands p.engine p.after p.harts b p.command (Err p.why) p.bytes r.1 p.stopped))

-- what was read on harts that nothing is known of
all_on_harts : {E H K : Type 0} (follows : Follows E H) (performed : PerformedBy E H) (gained : K → List ℕ → K → Type 0) (e f : E) (a b : H) (old new : K) (lines count : ℕ) (t u : Option (List ℕ)) → Performed follows performed gained e a old f b new lines count t u → ReadOnHarts performed gained a b old new
all_on_harts follows performed gained e f a b old new lines count t u p = inr (record {
  first = e;
  commands = p.commands;
  bytes = p.bytes;
  engine = f;
  harts = b;
  chain = p.chain;
  rest = [];
  stop = inl (refl, refl);
  written = subst (λ (x : List ℕ). gained old x new) (sym (append-nil p.bytes)) p.written;
})

pub run_on_harts : {E H K : Type 0} (follows : Follows E H) (performed : PerformedBy E H) (gained : K → List ℕ → K → Type 0) → ((a b c : K) (x y : List ℕ) → gained a x b → gained b y c → gained a (x ++ y) c)
    → (e : E) (a b : H) (old new : K) (lines : ℕ) (hand : List ℕ) (t u : Option (List ℕ)) (f : Option Fault) → PerformAnswer follows performed gained e a old b new lines t u hand f → ReadOnHarts performed gained a b old new
run_on_harts follows performed gained joins e a b old new lines hand t u None p = all_on_harts follows performed gained e p.engine a b old new lines p.count t p.middle p.before
run_on_harts follows performed gained joins e a b old new lines hand t u (Some fault) (inl p) = all_on_harts follows performed gained e p.engine a b old new lines p.count t p.middle p.before
run_on_harts follows performed gained joins e a b old new lines hand t u (Some fault) (inr p) = inr (record {
  first = e;
  commands = p.before.commands;
  bytes = p.before.bytes;
  engine = p.engine;
  harts = p.harts;
  chain = p.before.chain;
  rest = p.bytes;
  stop = inr (p.command, p.why, p.after, p.stopped);
  written = joins old p.sink new p.before.bytes p.bytes p.before.written p.written;
})

reading_known : (f : CommandFault) → reading_fault f ≡ Usage → ⊥
reading_known (reading.Line f) e = absurd (cc e)
reading_known reading.ReadFault e = absurd (cc e)

performing_known : (f : PerformFault) (line : ℕ) → performing_fault f line ≡ Usage → ⊥
performing_known why.NoTask line e = absurd (cc e)
performing_known why.NoHart line e = absurd (cc e)
performing_known why.NotResident line e = absurd (cc e)
performing_known why.EmptyHart line e = absurd (cc e)
performing_known why.Write line e = absurd (cc e)

pub opening_known : (f : ScheduleFault) → opening_fault f ≡ Usage → ⊥
opening_known (fault.Line f) e = absurd (cc e)
opening_known fault.ReadFault e = absurd (cc e)
opening_known fault.Memory e = absurd (cc e)

-- no run of a schedule ends by the words of the call
pub run_known : {E H K : Type 0} (follows : Follows E H) (performed : PerformedBy E H) (gained : K → List ℕ → K → Type 0) (e : E) (a b : H) (old new : K) (lines : ℕ) (hand : List ℕ) (t u : Option (List ℕ)) (f : Option Fault)
    → PerformAnswer follows performed gained e a old b new lines t u hand f → f ≡ Some Usage → ⊥
run_known follows performed gained e a b old new lines hand t u None p is = absurd (cc is)
run_known follows performed gained e a b old new lines hand t u (Some f) (inl p) is = reading_known p.next.0 (sym p.next.1 ∙ same_Some f Usage is)
run_known follows performed gained e a b old new lines hand t u (Some f) (inr p) is = performing_known p.why (lines + (p.count + 1)) (sym p.is ∙ same_Some f Usage is)
