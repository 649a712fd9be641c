use Rattle.std.proofs.Common.{◌≡◌, ◌-◌, length}
use Rattle.ship_core.specs.CoveredEnd.{covered_end, end_within}
use Rattle.ship_core.specs.RowOver.{notes_of, spans_in}
use Rattle.ship_core.proofs.reading.covered_end.Given as goal

-- this many spans are left to lead on from here
abbrev pub invariant-loop-i : goal.invariant-loop-i
invariant-loop-i l = record {
  left : end_within (spans_in l.epoch (notes_of l.slot l.notes)) (l._i-end - l._i) l.end ≡ covered_end (spans_in l.epoch (notes_of l.slot l.notes)) l.base;
  all : l._i-end ≡ length (spans_in l.epoch (notes_of l.slot l.notes));
}
