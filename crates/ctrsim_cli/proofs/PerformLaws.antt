-- One command more, read and performed; and how the loop over them ends.
use Rattle.std.proofs.Common.{◌≡◌, refl, sym, ap, ◌∙◌, subst, ℕ, suc}
use Rattle.std.proofs.Common.{◌+◌, List, [], ◌∷◌, ◌++◌, length-append, append-nil, append_assoc, add-one}
use Rattle.std.specs.Prelude.{Option, Some, None, Ok, false, true}
use Rattle.std.proofs.lemmas.Bool.{or_from}
use Rattle.ctr_port.specs.InHand.{Of}
use Rattle.ctr_port.proofs.InHand.{of_then}
use Rattle.perf_sample.specs.declared.sample.Sample.{Sample}
use Rattle.replay_engine.specs.Breaks.{AllowedAfter}
use Rattle.replay_engine.specs.Laws.{SamplesJoin}
use Rattle.replay_engine.specs.Refusals.{command_refusal}
use Rattle.replay_engine.specs.Stands.{scheduled_samples, scheduled_of}
use Rattle.replay_engine.specs.Tasks.{PresentState}
use Rattle.replay_engine.specs.View.{Plan}
use Rattle.rv_hart.specs.Hart.{HartState}
use Rattle.sched_text.specs.Commands.{is_end, command_at, commands_after, next_command, with_command}
use Rattle.sched_text.specs.Outcomes.{FirstCommands}
use Rattle.sched_text.specs.Reader.{count_after}
use Rattle.sched_text.specs.Text.{has_end}
use Rattle.sched_text.specs.declared.schedule.Command.{Command}
use Rattle.sched_text.specs.declared.schedule.Command.TheVariants as command
use Rattle.sched_text.proofs.FrontLaws.{end_more}
use Rattle.ctrsim_cli.specs.Parts.{Performed}
use Rattle.ctrsim_cli.proofs.ChainLaws.{Follows, PerformedBy, CommandsGoOn, chain_more}

pub first_commands : (lines : ℕ) (a : Option (List ℕ)) → Of a a (FirstCommands lines 0 [])
unfolding commands_after
first_commands lines None = tt
first_commands lines (Some t) = (refl, refl)

pub gives_more : (lines count : ℕ) (cs : List Command) (c : Command) (t t' t'' : List ℕ) → is_end c ≡ false → FirstCommands lines count cs t t' → command_at (lines + (count + 1)) count t' ≡ Ok (c, t'')
    → FirstCommands lines (count + 1) (cs ++ c ∷ []) t t''
unfolding commands_after
gives_more lines count cs c t t' t'' other given next = (
  rw (add-one count) (ap (next_command (lines + suc count) count) given.0 ∙ ap (with_command cs) (rw (add-one count) at next)),
  end_more cs c ∙ or_from (has_end cs) (is_end c) given.1 other,
)

pub end_is : (c : Command) → is_end c ≡ true → c ≡ command.End
end_is (command.Run h t n) e = absurd (cc e)
end_is (command.Sample t) e = absurd (cc e)
end_is (command.Evict h) e = absurd (cc e)
end_is command.End e = refl

pub counted_one : (n : ℕ) (c : Command) → is_end c ≡ false → count_after n (Ok c) ≡ n + 1
counted_one n c e = rw e refl

-- one more command that may be performed
pub allowed_more : (plan : Plan) (before cs : List Command) (c : Command) → AllowedAfter plan before cs → command_refusal plan (before ++ cs) c ≡ None
    → AllowedAfter plan before (cs ++ c ∷ [])
allowed_more plan before [] c are e = (ap (λ (ds : List Command). command_refusal plan ds c) (sym (append-nil before)) ∙ e, tt)
allowed_more plan before (d ∷ cs) c are e =
    (are.0, allowed_more plan (before ++ d ∷ []) cs c are.1 (ap (λ (ds : List Command). command_refusal plan ds c) (append_assoc before (d ∷ []) cs) ∙ e))

-- the samples of one command more
pub samples_more : SamplesJoin → (plan : Plan) (first : List PresentState) (cs : List Command) (c : Command) →
    scheduled_samples plan first (cs ++ c ∷ []) ≡ scheduled_samples plan first cs ++ scheduled_of plan first cs c
samples_more joins plan first cs c =
    joins plan first cs (c ∷ []) ∙ ap (λ (xs : List Sample). scheduled_samples plan first cs ++ xs) (append-nil (scheduled_of plan first cs c))

pub performed_more : {E H K : Type 0} (follows : Follows E H) (performed : PerformedBy E H) (tells : H → Type 0) (held : H → List HartState) (gained : K → List ℕ → K → Type 0) → ((a b c : K) (x y : List ℕ) → gained a x b → gained b y c → gained a (x ++ y) c)
    → CommandsGoOn follows performed tells held → (e : E) (a : H) (old : K) (d f : E) (m b : H) (mid new : K) (lines count : ℕ) (t u v : Option (List ℕ)) (c : Command) (number count' : ℕ) (bytes : List ℕ)
    → Performed follows performed gained e a old d m mid lines count t u → number ≡ lines + (count + 1) → is_end c ≡ false
    → Of u v (λ t t'. command_at number count t ≡ Ok (c, t')) → performed d m c (Ok tt) bytes f b → gained mid bytes new → count' ≡ count + 1
    → Performed follows performed gained e a old f b new lines count' t v
performed_more follows performed tells held gained joins law e a old d f m b mid new lines count t u v c number count' bytes p is other next made wrote one =
    let cs = p.commands in
    let g = law p.going.0 p.going.1 cs d f m b c (Ok tt) bytes p.going.2 made in
    subst (λ (k : ℕ). Performed follows performed gained e a old f b new lines k t v) (sym one) (record {
      commands = cs ++ c ∷ [];
      size = length-append cs (c ∷ []) ∙ ap (λ (n : ℕ). n + 1) p.size;
      given = of_then t u v (FirstCommands lines count cs) (λ t t'. command_at number count t ≡ Ok (c, t')) (FirstCommands lines (count + 1) (cs ++ c ∷ [])) p.given next
          (λ x y z f e. gives_more lines count cs c x y z other f (subst (λ (k : ℕ). command_at k count y ≡ Ok (c, z)) is e));
      bytes = p.bytes ++ bytes;
      chain = chain_more performed cs c e d f a m b p.bytes bytes p.chain made;
      written = joins old mid new p.bytes bytes p.written wrote;
      going = (p.going.0, p.going.1, g.next);
    })
