use Rattle.std.proofs.Common.{◌-◌, map, arith, Vec, Global}
use Rattle.wire_base.specs.declared.blob.Blob.{Blob}
use Rattle.lumber_frame.proofs.Answering.{item_of, count_is}
use Rattle.lumber_frame.proofs.acknowledgements.count_at.Goals as goal

pub returns : goal.returns
returns c =
    let f = λ (w : Vec Blob Global). w.items in
    let item = item_of f c.args.windows.now (c.args.number - 1) c.index-windows-number.result (omega arith) c.index-windows-number.is in
    let count = count_is (map f c.args.windows.now) c.args.number c.index-windows-number.result.items c.if-number-eq0.false item in
    grind (arith, count)
