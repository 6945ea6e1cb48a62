use Rattle.std.proofs.Common.{◌≡◌, List, ◌++◌, sym, ap, ◌∙◌, append-nil}
use Rattle.perf_sample.specs.declared.faults.Place.{Place}
use Rattle.perf_sample.specs.declared.faults.Place.TheVariants as place
use Rattle.perf_sample.specs.Spelling.{word_bytes, place_bytes, fields_bytes}
use Rattle.perf_sample.specs.Fields.{word_of}
use Rattle.perf_sample.specs.declared.word.Word.{Word}
use Rattle.perf_sample.proofs.FieldLaws.{in_there, in_left_out}
use Rattle.perf_sample.proofs.writing.put_hw_index.Goals as goal

pub returns-then-has-clause-items : goal.returns-then-has-clause-items
returns-then-has-clause-items c =
    let s = c.args.sample.now in
    let old = c.args.out.now.items in
    c.put_word.ensures.items
    ∙ ap (λ (w : Word). old ++ word_bytes w) c.word_of-word.ensures.word
    ∙ ap (λ (l : List _). old ++ l) (sym (append-nil (place_bytes place.HwIndex s)))
    ∙ ap (λ (l : List Place). old ++ fields_bytes s l) (sym (in_there c.args.layout place.HwIndex (sym c.has.ensures ∙ c.if-has.true)))

pub returns-else-has-clause-items : goal.returns-else-has-clause-items
returns-else-has-clause-items c =
    let s = c.args.sample.now in
    let old = c.args.out.now.items in
    sym (append-nil old) ∙ ap (λ (l : List Place). old ++ fields_bytes s l) (sym (in_left_out c.args.layout place.HwIndex (sym c.has.ensures ∙ c.if-has.false)))
