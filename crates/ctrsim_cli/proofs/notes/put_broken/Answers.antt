use Rattle.std.proofs.Common.{◌∙◌, ◌++◌, ap, sym, List, ℕ, append_assoc}
use Rattle.std.specs.Prelude.{codes}
use Rattle.perf_sample.specs.declared.faults.SampleFault.{SampleFault}
use Rattle.ctrsim_cli.specs.Fault.{broken_text}
use Rattle.ctrsim_cli.specs.SampleText.{dec}
use Rattle.ctrsim_cli.proofs.BrokenTexts.{flag_text}
use Rattle.ctrsim_cli.proofs.notes.put_broken.Goals as goal

pub returns-in-FlagReserved-clause-items : goal.returns-in-FlagReserved-clause-items
returns-in-FlagReserved-clause-items c =
    c.put_branch_place.ensures.items
    ∙ append_assoc c.args.out.now.items (codes "reserved flags in branch ")
    (dec c.in-FlagReserved.number)
    ∙ ap (λ (text : List ℕ). c.args.out.now.items ++ text)
    (sym (flag_text c.in-FlagReserved.number))
    ∙ ap (λ (f : SampleFault). c.args.out.now.items ++ broken_text f) (sym c.in-FlagReserved.is)

pub returns-in-ReadFault-clause-items : goal.returns-in-ReadFault-clause-items
unfolding broken_text
returns-in-ReadFault-clause-items c =
    c.put-in-ReadFault.ensures.items
    ∙ ap (λ (f : SampleFault). c.args.out.now.items ++ broken_text f) (sym c.in-ReadFault.is)
