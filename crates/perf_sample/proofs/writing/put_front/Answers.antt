use Rattle.std.proofs.Common.{◌≡◌, ℕ, ◌+◌, ◌*◌, ◌++◌, ◌∙◌, List, All, length, take, arith, refl, sym, ap, subst, append-nil, append_assoc}
use Rattle.std.proofs.lemmas.List.Elements.{All-nil, All-more, recursion_from_All}
use Rattle.arrayvec.specs.ArrayVec.{array_vec_len}
use Rattle.perf_sample.specs.declared.faults.Place.{Place}
use Rattle.perf_sample.specs.declared.faults.Place.TheVariants as place
use Rattle.perf_sample.specs.Word.{InWidth}
use Rattle.perf_sample.specs.Fields.{word_of}
use Rattle.perf_sample.specs.Layout.{fields_in, fixed_len}
use Rattle.perf_sample.specs.Fields.{before_nr}
use Rattle.perf_sample.specs.Spelling.{word_bytes, fields_bytes}
use Rattle.perf_sample.specs.declared.word.Word.{Word}
use Rattle.perf_sample.proofs.FieldLaws.{in_none, length_there, in_more_out, bytes_there, bytes_out}
use Rattle.perf_sample.proofs.writing.put_front.Goals.{then-has, else-has}
use Rattle.perf_sample.proofs.writing.put_front.Goals as goal

pub loop-place-init : goal.loop-place-init
loop-place-init c =
    let layout = c.args.layout in
    let s = c.args.sample.now in
    let out = c.args.out.now in
    record {
      items = refl;
      bytes = sym (ap (λ (l : List Place). out.items ++ fields_bytes s l) (in_none layout) ∙ append-nil out.items);
      len = omega (arith, ap length (in_none layout));
      most = omega arith;
      range = All-nil (λ p. InWidth (word_of p s));
    }

pub loop-place-preserved : goal.loop-place-preserved
loop-place-preserved c =
    let done = c.loop-place.invariant in
    let layout = c.args.layout in
    let s = c.args.sample.now in
    let n = c.loop-place.place-index in
    let wide = All-more (λ p. InWidth (word_of p s)) before_nr n place.Identifier c.loop-place-test.true done.range c.word_of-word.ensures.range in
    elim c.if-has.branch [
      | then-has w ↦
          let on = sym c.has.ensures ∙ w.if-has.true in
          let more = length_there layout before_nr n place.Identifier c.loop-place-test.true on in
          let bytes = bytes_there layout s before_nr n place.Identifier c.loop-place-test.true on in
          rw w.out-is (record {
            items = refl;
            bytes =
                w.put_word.ensures.items
                ∙ ap (λ (l : List ℕ). l ++ word_bytes c.word_of-word.result) done.bytes
                ∙ append_assoc c.args.out.now.items (fields_bytes s (fields_in layout (take n before_nr))) (word_bytes c.word_of-word.result)
                ∙ ap (λ (v : Word). c.args.out.now.items ++ (fields_bytes s (fields_in layout (take n before_nr)) ++ word_bytes v)) c.word_of-word.ensures.word
                ∙ ap (λ (l : List ℕ). c.args.out.now.items ++ l) (sym bytes);
            len = omega (arith, done.len, more, w.put_word.ensures.len);
            most = omega (arith, done.most, w.put_word.ensures.len);
            range = wide;
          })
      | else-has w ↦
          let off = sym c.has.ensures ∙ w.if-has.false in
          let same = in_more_out layout before_nr n place.Identifier c.loop-place-test.true off in
          let bytes = bytes_out layout s before_nr n place.Identifier c.loop-place-test.true off in
          rw w.out-is (record {
            items = refl;
            bytes = done.bytes ∙ ap (λ (l : List ℕ). c.args.out.now.items ++ l) (sym bytes);
            len = omega (arith, done.len, ap length same);
            most = omega (arith, done.most);
            range = wide;
          })
    ]

pub returns-clause-items : goal.returns-clause-items
returns-clause-items c =
    let all : c.loop-place.place-index ≡ 9 = omega (arith, c.loop-place-test.false, c.loop-place.auto.place-index-end) in
    subst (λ (n : ℕ). c.loop-place.out.items ≡ c.args.out.now.items ++ fields_bytes c.args.sample.now (fields_in c.args.layout (take n before_nr))) all c.loop-place.invariant.bytes

pub returns-clause-range : goal.returns-clause-range
returns-clause-range c =
    let all : c.loop-place.place-index ≡ 9 = omega (arith, c.loop-place-test.false, c.loop-place.auto.place-index-end) in
    subst (λ (n : ℕ). All (λ p. InWidth (word_of p c.args.sample.now)) (take n before_nr)) all c.loop-place.invariant.range
