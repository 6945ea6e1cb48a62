-- The laws of commands on tasks and harts, each over the lemma that shows it.
use Rattle.std.proofs.Common.{◌≡◌, sym, ap, ◌∙◌, ℕ, zero, suc, ◌+◌, List, [], ◌∷◌, ◌++◌}
use Rattle.std.proofs.Common.{length, arith, append_assoc, append-nil}
use Rattle.std.specs.Prelude.{slice_get, Some, map}
use Rattle.perf_sample.specs.declared.sample.Sample.{Sample}
use Rattle.rv_hart.specs.Lone.{after_steps}
use Rattle.rv_hart.specs.Task.{Irq}
use Rattle.sched_text.specs.Irqs.{lines_of_task}
use Rattle.sched_text.specs.declared.schedule.Command.{Command}
use Rattle.sched_text.specs.declared.schedule.IrqLine.{IrqLine}
use Rattle.replay_engine.specs.Laws.{MovesKeepStates, PresentsAreSteps, RunsJoin, StatesAreLone}
use Rattle.replay_engine.specs.Laws.{SamplesJoin, SamplesAreOwn, CommandsAddLittle, CountsLoosen}
use Rattle.replay_engine.specs.Laws.{RefusalsAgree, HeadersGiveInterrupts}
use Rattle.replay_engine.specs.Runs.{next_present, present_after}
use Rattle.replay_engine.specs.Samples.{sample_of}
use Rattle.replay_engine.specs.Stands.{own_steps, scheduled_of, scheduled_from}
use Rattle.replay_engine.specs.Start.{first_present, lone_present, interrupt_of, irqs_of, task_of_line}
use Rattle.replay_engine.specs.Tasks.{PresentState}
use Rattle.replay_engine.specs.View.{Plan}
use Rattle.replay_engine.proofs.HeaderLaws.{header_irqs, are_interrupts}
use Rattle.replay_engine.proofs.Items.{get_map}
use Rattle.replay_engine.proofs.LoneRuns.{lone_is}
use Rattle.replay_engine.proofs.Performs.{brought_presents, freed_presents}
use Rattle.replay_engine.proofs.Recs.{cut_run}
use Rattle.replay_engine.proofs.Standing.{advanced_add}
use Rattle.replay_engine.proofs.Withins.{looser, performed_within, refusal_same}

pub moves_keep_states : MovesKeepStates
moves_keep_states t h v = (brought_presents t h v, freed_presents (slice_get v.residents h) h v)

pub presents_are_steps : PresentsAreSteps
presents_are_steps irqs zero p = let none : p.steps ≡ p.steps + 0 = omega arith in
    ap (λ (k : ℕ). record { state = p.state; steps = k }) none
presents_are_steps irqs (suc n) p =
    let one : p.steps + n + 1 ≡ p.steps + suc n = omega arith in
    ap (next_present irqs) (presents_are_steps irqs n p)
    ∙ ap (λ (k : ℕ). record { state = after_steps irqs p.steps (suc n) p.state; steps = k }) one

pub runs_join : RunsJoin
runs_join s irqs m n p = (sym (advanced_add irqs m n p), cut_run s irqs m n p)

pub states_are_lone : StatesAreLone
states_are_lone plan tasks cs v t task o s at ordered same =
    s.present_states t (first_present task) o (get_map first_present tasks t task at) ordered
    ∙ ap (λ (irqs : List Irq). Some (present_after irqs (own_steps cs t) (first_present task))) same
    ∙ ap Some (lone_is task (own_steps cs t))

joined_from : (plan : Plan) (first : List PresentState) (before cs ds : List Command)
    → scheduled_from plan first before (cs ++ ds)
    ≡ scheduled_from plan first before cs ++ scheduled_from plan first (before ++ cs) ds
joined_from plan first before [] ds =
    ap (λ (b : List Command). scheduled_from plan first b ds) (sym (append-nil before))
joined_from plan first before (c ∷ cs) ds =
    ap (λ (xs : List Sample). scheduled_of plan first before c ++ xs)
    (joined_from plan first (before ++ c ∷ []) cs ds)
    ∙ ap (λ (b : List Command). scheduled_of plan first before c ++
    (scheduled_from plan first (before ++ c ∷ []) cs ++ scheduled_from plan first b ds))
    (append_assoc before (c ∷ []) cs)
    ∙ sym (append_assoc (scheduled_of plan first before c)
    (scheduled_from plan first (before ++ c ∷ []) cs)
    (scheduled_from plan first (before ++ c ∷ cs) ds))

pub samples_join : SamplesJoin
samples_join plan first cs ds = joined_from plan first [] cs ds

pub samples_are_own : SamplesAreOwn
samples_are_own a b line image t n g h layout branch irqs =
    ap (λ (l : ℕ). record (sample_of
    (record {
      layout = record { sample_type = l; branch = a.branch };
      task = t;
      hart =
          g;
      period = line.period;
    })
    (lone_present (task_of_line line image (map interrupt_of (lines_of_task t a.irqs))) n)) { cpu = 0 })
    layout
    ∙ ap (λ (l : ℕ). record
    (sample_of (record {
      layout = record { sample_type = b.layout; branch = l };
      task =
          t;
      hart = g;
      period = line.period;
    })
    (lone_present (task_of_line line image (map interrupt_of (lines_of_task t a.irqs))) n)) { cpu = 0 })
    branch
    ∙ ap (λ (lines : List IrqLine). record
    (sample_of (record {
      layout = record { sample_type = b.layout; branch = b.branch };
      task =
          t;
      hart = g;
      period = line.period;
    })
    (lone_present (task_of_line line image (map interrupt_of lines)) n)) { cpu = 0 }) irqs

pub commands_add_little : CommandsAddLittle
commands_add_little = performed_within

pub counts_loosen : CountsLoosen
counts_loosen = looser

pub refusals_agree : RefusalsAgree
refusals_agree = refusal_same

pub headers_give_interrupts : HeadersGiveInterrupts
headers_give_interrupts h t is =
    are_interrupts (irqs_of t h.irqs) (header_irqs (length h.tasks) h.irqs is.irqs is.order t).each
