use Rattle.std.proofs.Common.{◌≡◌, None, drop}
use Rattle.ship_core.proofs.Passes.{naming, newest_of}
use Rattle.ship_core.proofs.reading.newest_path.Given as goal

-- the newest naming so far, and the notes that are left
abbrev pub invariant-loop-note : goal.invariant-loop-note
invariant-loop-note l = record {
  so_far : newest_of l.slot (naming l.newest l.path) (drop l.note-index l.notes) ≡ newest_of l.slot None l.notes;
  first : l.newest ≡ None → l.path ≡ l.first;
}
