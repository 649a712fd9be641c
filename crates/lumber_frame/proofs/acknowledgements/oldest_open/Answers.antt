use Rattle.std.proofs.Common.{◌+◌, map, ◌∙◌, arith, Vec, Global}
use Rattle.std.proofs.lemmas.List.{length-map}
use Rattle.wire_base.specs.declared.blob.Blob.{Blob}
use Rattle.lumber_frame.proofs.Answering.{item_of, oldest_full, oldest_here}
use Rattle.lumber_frame.proofs.acknowledgements.oldest_open.Goals as goal

pub returns-then-mosts-before-clause-oldest : goal.returns-then-mosts-before-clause-oldest
returns-then-mosts-before-clause-oldest c = λ given are.
    let f = λ (w : Vec Blob Global). w.items in
    let before = c.loop-before.before in
    let item = item_of f c.args.windows.now before c.index-windows-before.result (omega (arith, c.requires.whole, c.loop-before-test.true)) c.index-windows-before.is in
    let most = are (before + 1) (omega (arith, c.requires.whole, c.loop-before-test.true)) in
    oldest_here given (map f c.args.windows.now) c.args.whole before c.index-windows-before.result.items c.loop-before-test.true (omega (arith, length-map c.args.windows.now f, c.requires.whole)) item (omega (arith, most, c.if-mosts-before.true, c.len.ensures)) ∙ c.loop-before.invariant given are

pub loop-before-preserved : goal.loop-before-preserved
loop-before-preserved c = λ given are.
    let f = λ (w : Vec Blob Global). w.items in
    let before = c.loop-before.before in
    let item = item_of f c.args.windows.now before c.index-windows-before.result (omega (arith, c.requires.whole, c.loop-before-test.true)) c.index-windows-before.is in
    let most = are (before + 1) (omega (arith, c.requires.whole, c.loop-before-test.true)) in
    oldest_full given (map f c.args.windows.now) c.args.whole before c.index-windows-before.result.items c.loop-before-test.true (omega (arith, length-map c.args.windows.now f, c.requires.whole)) item (omega (arith, most, c.if-mosts-before.false, c.len.ensures)) ∙ c.loop-before.invariant given are
