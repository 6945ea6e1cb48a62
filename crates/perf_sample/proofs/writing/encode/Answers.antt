use Rattle.std.proofs.Common.{◌≡◌, ◌+◌, ◌*◌, ◌∙◌, ap, refl, length, [], ◌∷◌}
use Rattle.std.proofs.lemmas.List.Elements.{recursion_from_All}
use Rattle.perf_sample.specs.declared.faults.Place.{Place}
use Rattle.perf_sample.specs.declared.faults.Place.TheVariants as place
use Rattle.perf_sample.specs.Fields.{before_nr}
use Rattle.perf_sample.specs.Spelling.{size_of, spelling}
use Rattle.perf_sample.specs.Word.{InWidth}
use Rattle.perf_sample.specs.Fields.{word_of}
use Rattle.perf_sample.proofs.FieldLaws.{all_of_both}
use Rattle.perf_sample.proofs.SampleLaws.{parts_written}
use Rattle.perf_sample.proofs.SpellingLaws.{length_spelling}
use Rattle.perf_sample.proofs.writing.encode.Goals as goal

written : (c : goal.After-put_back) → c.put_back.new.out.items ≡ spelling c.args.layout c.args.sample.now
written c =
    let layout = c.args.layout in
    let s = c.args.sample.now in
    let n = c.fixed_len.result + 24 * length c.items-branches.result.now in
    let sized : n ≡ size_of layout s = rw (c.fixed_len.ensures.len, c.items-branches.ensures.items) refl in
    parts_written layout s n _ _ _ _ c.clear.ensures c.put_header.ensures.items c.put_front.ensures.items c.put_back.ensures.items sized

pub returns-clause-spells : goal.returns-clause-spells
returns-clause-spells c = record { fits = c.requires; few = c.put_back.ensures.few; bytes_are = written c }

pub returns-clause-size : goal.returns-clause-size
returns-clause-size c = ap length (written c) ∙ length_spelling c.args.layout c.args.sample.now

pub returns-clause-range : goal.returns-clause-range
returns-clause-range c =
    let s = c.args.sample.now in
    let wide = λ (p : Place). InWidth (word_of p s) in
    let back = c.put_back.ensures in
    record {
      misc = c.put_header.ensures.range;
      fields = all_of_both wide before_nr (place.Nr ∷ place.HwIndex ∷ []) (recursion_from_All wide before_nr c.put_front.ensures.range) (back.number, (back.index, tt));
      branches = back.branches;
    }
