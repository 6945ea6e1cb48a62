use Rattle.std.proofs.Common.{◌≡◌, ◌<◌, ◌≤◌, ◌-◌, ◌++◌, ℕ, List, min, take, drop, [], length, ap, refl, arith, length-append}
use Rattle.ctr_port.specs.InHand.{text_of}
use Rattle.ctr_port.proofs.InHand.{same_self, same_given}
use Rattle.sched_text.proofs.ImageLaws.{joins_none, joins_moved, joins_read, took}
use Rattle.sched_text.proofs.images.read_image.Goals as goal

pub loop-window-init : goal.loop-window-init
loop-window-init g c =
    let left = g.S.Source.left c.args.source.now in
    let hand = c.args.window.now in
    let image' = c.take_front.new.image in
    let hand' = c.take_front.new.window in
    let none : List ℕ = [] in
    let i : image' ≡ none ++ take (min (c.args.len - length none) (length hand)) hand = rw c.new-image.ensures at c.in_ok-take_front.ensures.image in
    let w : hand' ≡ drop (min (c.args.len - length none) (length hand)) hand = rw c.new-image.ensures at c.in_ok-take_front.ensures.window in
    let t = took hand hand' none image' c.args.len (omega arith) i w in (
      joins_moved (text_of hand left) hand hand' none image' left (min (c.args.len - length none) (length hand)) (joins_none hand left) i w,
      t.0,
      t.1,
      c.take_front.ensures.hand,
      omega arith,
      λ enough. (t.2 (omega (arith, enough)), refl),
      λ few. t.4 (omega (arith, few)),
    )

pub loop-window-preserved : goal.loop-window-preserved
loop-window-preserved g c =
    let a = text_of c.args.window.now (g.S.Source.left c.args.source.now) in
    let left = g.S.Source.left c.loop-window.source in
    let left' = g.S.Source.left c.fill.new.source in
    let hand = c.loop-window.window in
    let filled = c.fill.new.self in
    let image = c.loop-window.image in
    let image' = c.take_front-in-loop-window.new.image in
    let hand' = c.take_front-in-loop-window.new.window in
    let fills = c.in-Bytes.ensures.fills in
    let same = same_given hand hand filled fills.0 left left left' (same_self hand left) fills.2 fills.3 in
    let asked : c.in-Bytes.field-0 ≤ c.args.len - length image = rw c.items-in-loop-window.ensures at c.in-Bytes.ensures.asks in
    let short : length image < c.args.len = rw c.items.ensures at c.loop-window-test.true in
    let some : 0 < length filled = omega (arith, ap length fills.2, length-append hand fills.0, fills.1) in
    let t = took filled hand' image image' c.args.len c.loop-window.invariant.1 c.in_ok-take_front-2.ensures.image c.in_ok-take_front-2.ensures.window in (
      joins_moved a filled hand' image image' left' (min (c.args.len - length image) (length filled)) (joins_read a hand filled image left left' c.loop-window.invariant.0 same) c.in_ok-take_front-2.ensures.image c.in_ok-take_front-2.ensures.window,
      t.0,
      t.1,
      c.take_front-in-loop-window.ensures.hand,
      omega (arith, c.loop-window.invariant.4, c.in-Bytes.ensures.later),
      λ enough. absurd (omega (arith, short, (c.loop-window.invariant.5 enough).0)),
      λ few. t.4 (omega (arith, asked, fills.4, ap length fills.2, length-append hand fills.0, ap length (c.loop-window.invariant.2 short))),
    )
