use Rattle.std.proofs.Common.{rules, ◌≡◌}
use Rattle.ctr_rules.specs.Admitted.{act_under, view_of, row_of}
use Rattle.ctr_rules.specs.FreezeBits.{freezes}
use Rattle.ctr_rules.proofs.PickedRow.{row_decides, nothing_else, freeze_only, freeze_where, decided_is_even, decided_is_own}
use Rattle.ctr_rules.proofs.rules.act.Goals as goal

pub returns-clause-freeze : goal.returns-clause-freeze
returns-clause-freeze c =
    let e : c.recorded.result ≡ act_under c.args.transfer c.args.m c.args.vs c.args.frozen = search rules in
    let t = c.args.transfer in
    let freezing = freezes t c.args.m c.args.vs in
    let row = row_of (view_of t c.args.m c.args.vs) in
    rw e (freeze_only c.args.frozen freezing row t, freeze_where c.args.frozen freezing row t)

pub returns-clause-row : goal.returns-clause-row
returns-clause-row c =
    let e : c.recorded.result ≡ act_under c.args.transfer c.args.m c.args.vs c.args.frozen = search rules in
    rw e (row_decides c.args.transfer c.args.m c.args.vs c.args.frozen)

pub returns-clause-none : goal.returns-clause-none
returns-clause-none c =
    let e : c.recorded.result ≡ act_under c.args.transfer c.args.m c.args.vs c.args.frozen = search rules in
    rw e (nothing_else c.args.frozen c.args.transfer c.args.m c.args.vs)

pub returns-clause-even : goal.returns-clause-even
returns-clause-even c =
    let e : c.recorded.result ≡ act_under c.args.transfer c.args.m c.args.vs c.args.frozen = search rules in
    let t = c.args.transfer in
    rw e (decided_is_even c.args.frozen (freezes t c.args.m c.args.vs) (row_of (view_of t c.args.m c.args.vs)) t)

pub returns-clause-own : goal.returns-clause-own
returns-clause-own c =
    let e : c.recorded.result ≡ act_under c.args.transfer c.args.m c.args.vs c.args.frozen = search rules in
    let t = c.args.transfer in
    rw e (decided_is_own c.args.frozen (freezes t c.args.m c.args.vs) (row_of (view_of t c.args.m c.args.vs)) t)
