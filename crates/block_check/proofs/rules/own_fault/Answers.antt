use Rattle.std.proofs.Common.{rules, ◌≡◌, inr, sym, ◌∙◌, Some}
use Rattle.rv_decode.specs.Rows.{Row}
use Rattle.block_check.specs.Image.{word_at}
use Rattle.block_check.specs.Rules.{kind_of, HasClass, GoesTo}
use Rattle.block_check.proofs.rules.own_fault.Goals as goal

pub returns-clause-none : goal.returns-clause-none
returns-clause-none c = λ e older.
    let b = c.args.branch in
    let i = c.in-Some-decode.instr in
    let there : word_at c.args.image.now b.from ≡ Some c.in-Some.word = sym c.word_at.ensures ∙ c.in-Some.is in
    let decodes : Row c.in-Some.word i = (c.decode.ensures.some i).0 c.in-Some-decode.is in
    let class : HasClass i (kind_of b) = search rules in
    let goes : GoesTo i b.from b.to = search rules in
    inr (i, record { word = c.in-Some.word; there = there; decodes = decodes; class = class }, goes)
