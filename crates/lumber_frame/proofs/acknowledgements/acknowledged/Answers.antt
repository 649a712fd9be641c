use Rattle.std.proofs.Common.{◌+◌, ◌++◌, [], length, take, map, ap, sym, ◌∙◌, arith, Vec, Global}
use Rattle.std.proofs.lemmas.List.{get_or_read, length-map}
use Rattle.wire_base.specs.declared.blob.Blob.{Blob}
use Rattle.lumber_frame.specs.Acknowledged.{acknowledgements, answers, greatest}
use Rattle.lumber_frame.proofs.Answering.{item_of, payloads_step}
use Rattle.lumber_frame.proofs.acknowledgements.acknowledged.Goals as goal

pub loop-before-preserved : goal.loop-before-preserved
loop-before-preserved c =
    let f = λ (w : Vec Blob Global). w.items in
    let windows = map f c.deref-window-items.result.now in
    let given = answers windows c.args.talk.now [] 0 (acknowledgements c.in_ok-received.received.items) in
    let item = item_of f c.deref-window-items.result.now c.loop-before.before c.window-item.result c.loop-before-test.true c.window-item.is in
    let number = c.loop-before.before + 1 in
    let same_windows = c.deref-2.ensures.value ∙ sym c.deref-window-items.ensures.value in
    let read = get_or_read c.in_ok-mosts.mosts.items number c.index.result.now (omega (arith, c.in_ok-mosts.mosts.ok, c.in_ok-mosts.ensures.each, ap length same_windows)) c.index.ensures 0 in
    let most = read ∙ c.in_ok-mosts.ensures.greatest number (omega (arith, ap length same_windows)) ∙ ap (λ ws. greatest number (answers (map f ws) c.args.talk.now [] 0 (acknowledgements c.deref-3.result.now))) same_windows ∙ ap (λ bytes. greatest number (answers windows c.args.talk.now [] 0 (acknowledgements bytes))) c.deref-3.ensures.value in
    let appended = c.in_ok-append_front.ensures ∙ ap (λ window. c.loop-before.payloads.items ++ take c.index.result.now window) c.deref-in-loop-before.ensures.value in
    payloads_step given windows c.loop-before.before c.index.result.now c.window-item.result.items c.loop-before.payloads.items c.append_front.new.payloads.items _ (omega (arith, length-map c.deref-window-items.result.now f)) item most appended c.loop-before.invariant
