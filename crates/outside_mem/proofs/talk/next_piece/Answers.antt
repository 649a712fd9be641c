use Rattle.std.proofs.Common.{◌+◌, ◌<◌, List, ◌∷◌, ◌++◌, length, take, drop, sym, ap, ◌∙◌, arith}
use Rattle.std.proofs.lemmas.List.{drop_more, take-append-drop}
use Rattle.outside_mem.specs.declared.talk.MemPiece.{MemPiece}
use Rattle.outside_mem.proofs.talk.next_piece.Goals as goal

pub returns-then-at-size : goal.returns-then-at-size
returns-then-at-size c =
    let pieces = c.args.pieces.now in
    let i = c.loop-piece.piece-index in
    let piece = c.piece-item.result in
    let within : i < length pieces = omega arith in
    record {
      before = take i pieces;
      after = drop (i + 1) pieces;
      is = sym (take-append-drop i pieces) ∙ ap (λ (l : List MemPiece). take i pieces ++ l) (drop_more pieces i piece within ∙ ap (λ (p : MemPiece). p ∷ drop (i + 1) pieces) (sym c.piece-item.is));
      so_far = c.loop-piece.invariant;
      left = omega (arith, c.if-at-size.true, ap length c.bytes-size.ensures);
    }
