use Rattle.std.proofs.Common.{map, ap, arith, Vec, Global, length}
use Rattle.std.proofs.lemmas.List.{length-map}
use Rattle.lumber_frame.specs.Window.{window_bytes}
use Rattle.wire_base.specs.declared.blob.Blob.{Blob}
use Rattle.lumber_frame.proofs.Answering.{item_of, whole_stops, whole_next}
use Rattle.lumber_frame.proofs.acknowledgements.whole_within.Goals as goal

pub returns-in_default-clause-whole : goal.returns-in_default-clause-whole
returns-in_default-clause-whole c =
    let f = λ (w : Vec Blob Global). w.items in
    let item = item_of f c.args.windows.now c.loop-window.window-index c.window-item.result c.loop-window-test.true c.window-item.is in
    let size = ap (λ w. length (window_bytes w)) c.deref.ensures.value in
    let stops = whole_stops (map f c.args.windows.now) c.loop-window.window-index c.loop-window.left c.window-item.result.items (omega (arith, length-map c.args.windows.now f)) item (λ long. c.in_default.ensures (omega (arith, size))) in
    omega (arith, stops, c.loop-window.invariant.1)

pub loop-window-preserved : goal.loop-window-preserved
loop-window-preserved c =
    let f = λ (w : Vec Blob Global). w.items in
    let item = item_of f c.args.windows.now c.loop-window.window-index c.window-item.result c.loop-window-test.true c.window-item.is in
    let size = ap (λ w. length (window_bytes w)) c.deref.ensures.value in
    let next = whole_next (map f c.args.windows.now) c.loop-window.window-index c.loop-window.left c.in-Some.after c.window-item.result.items (omega (arith, length-map c.args.windows.now f)) item (omega (arith, size, c.in-Some.ensures.0)) (omega (arith, size, c.in-Some.ensures.1)) in
    (omega arith, omega (arith, next, c.loop-window.invariant.1))
