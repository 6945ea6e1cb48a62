use Rattle.std.proofs.Common.{◌++◌, ◌∙◌, ℕ, ◌<◌, ◌^◌, ◌≡◌, true, rules, sym, subst, Ok}
use Rattle.std.proofs.lemmas.Result.{err_from_is_err_and}
use Rattle.std.specs.Io.KnownBytes.{Consumes}
use Rattle.ctr_port.proofs.PieceLaws.{taken_then}
use Rattle.perf_sample.specs.Breaks.{is_size}
use Rattle.perf_sample.specs.Front.{front_bytes}
use Rattle.perf_sample.specs.Back.{back_bytes}
use Rattle.perf_sample.specs.Header.{TakesHeader}
use Rattle.perf_sample.specs.Spelling.{header_bytes}
use Rattle.perf_sample.proofs.HeaderLaws.{header_broke, size_broke}
use Rattle.perf_sample.proofs.SampleLaws.{up_to_nr, front_broke, back_broke, parts_spell}
use Rattle.perf_sample.proofs.reading.read_sample.Goals as goal

pub returns-in_err-header-clause-takes : goal.returns-in_err-header-clause-takes
returns-in_err-header-clause-takes g c =
    let p = err_from_is_err_and c.from_residual.result c.from_residual.ensures.1 in
    rw (p.1, p.2) (header_broke c.args.layout (g.S.Source.left c.args.source.now) (g.S.Source.left c.read_header.new.source) c.in_err-header.field-0.0 c.in_err-header.ensures.takes)

pub returns-then-not-is_size-clause-takes : goal.returns-then-not-is_size-clause-takes
returns-then-not-is_size-clause-takes g c =
    let h = c.in-Some.header in
    let left0 = g.S.Source.left c.args.source.now in
    let left1 = g.S.Source.left c.read_header.new.source in
    let took = subst (λ o. TakesHeader left0 left1 (Ok o)) c.in-Some.is c.in_ok-header.ensures.takes in
    let small : h.size < 2 ^ 16 = search rules in
    size_broke c.args.layout h.misc h.size left0 left1 small (sym c.is_size.ensures ∙ c.if-not-is_size.true) took

pub returns-in_err-read_front-clause-takes : goal.returns-in_err-read_front-clause-takes
returns-in_err-read_front-clause-takes g c =
    let layout = c.args.layout in
    let h = c.in-Some.header in
    let left0 = g.S.Source.left c.args.source.now in
    let left1 = g.S.Source.left c.read_header.new.source in
    let took = subst (λ o. TakesHeader left0 left1 (Ok o)) c.in-Some.is c.in_ok-header.ensures.takes in
    let small : h.size < 2 ^ 16 = search rules in
    let right : is_size layout h.size ≡ true = sym c.is_size.ensures ∙ c.if-not-is_size.false in
    let p = err_from_is_err_and c.from_residual-in_err-read_front.result c.from_residual-in_err-read_front.ensures.1 in
    rw (p.1, p.2)
    (front_broke layout h.misc h.size left0 left1 (g.S.Source.left c.read_front.new.source) c.in_err-read_front.field-0.0 small right took (c.in_err-read_front.ensures.takes h.size))

pub returns-in_err-read_back-clause-takes : goal.returns-in_err-read_back-clause-takes
returns-in_err-read_back-clause-takes g c =
    let layout = c.args.layout in
    let h = c.in-Some.header in
    let s = c.read_front.new.sample in
    let left0 = g.S.Source.left c.args.source.now in
    let left1 = g.S.Source.left c.read_header.new.source in
    let left2 = g.S.Source.left c.read_front.new.source in
    let took = subst (λ o. TakesHeader left0 left1 (Ok o)) c.in-Some.is c.in_ok-header.ensures.takes in
    let small : h.size < 2 ^ 16 = search rules in
    let right : is_size layout h.size ≡ true = sym c.is_size.ensures ∙ c.if-not-is_size.false in
    let next = taken_then left0 left1 left2 (header_bytes h.misc h.size) (front_bytes layout s) took c.in_ok-read_front.ensures.takes.0 in
    let p = err_from_is_err_and c.from_residual-in_err-read_back.result c.from_residual-in_err-read_back.ensures.1 in
    rw (p.1, p.2)
    (back_broke layout h.misc h.size s left0 left2 (g.S.Source.left c.read_back.new.source) c.in_err-read_back.field-0.0 small right next c.in_err-read_back.ensures.takes)

pub returns-clause-takes : goal.returns-clause-takes
returns-clause-takes g c =
    let layout = c.args.layout in
    let h = c.in-Some.header in
    let s = c.read_front.new.sample in
    let t = c.read_back.new.sample in
    let left0 = g.S.Source.left c.args.source.now in
    let left1 = g.S.Source.left c.read_header.new.source in
    let left2 = g.S.Source.left c.read_front.new.source in
    let left3 = g.S.Source.left c.read_back.new.source in
    let took = subst (λ o. TakesHeader left0 left1 (Ok o)) c.in-Some.is c.in_ok-header.ensures.takes in
    let front = c.in_ok-read_front.ensures.takes in
    let back = c.in_ok-read_back.ensures.takes in
    let up = up_to_nr layout h.misc h.size s in
    let next = taken_then left0 left1 left2 (header_bytes h.misc h.size) (front_bytes layout s) took front.0 in (
      up ++ back_bytes layout t,
      parts_spell layout h.misc h.size s t back.1 back.2 (sym front.2 ∙ sym back.3) back.4 back.5,
      taken_then left0 left2 left3 up (back_bytes layout t) next back.0,
    )
