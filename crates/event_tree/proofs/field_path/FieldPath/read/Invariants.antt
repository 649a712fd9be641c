use Rattle.std.proofs.Common.{◌≡◌, ◌+◌, length, take, drop, option_map}
use Rattle.std.specs.Prelude.{◌≢◌, [], All}
use Rattle.event_tree.specs.Parts.{parts_of, empty_place}
use Rattle.event_tree.proofs.Dots.{reach}
use Rattle.event_tree.proofs.field_path.FieldPath.read.Given as goal

-- the parts so far are read, none is empty, and the next begins at `at`
abbrev pub invariant-loop-part : goal.invariant-loop-part
invariant-loop-part l = record {
  can_next : (goal.iterator-loop-part).can_next l.part-iterator;
  is_finite : (goal.iterator-loop-part).is_finite l.part-iterator;
  so_far : l.parts.items ≡ take (length l.yielded) (parts_of l.text);
  named : All (λ part. part ≢ []) l.parts.items;
  reaches : l.at + reach (drop (length l.yielded) (parts_of l.text)) ≡ length l.text + 1;
  place : option_map (λ place. l.at + place) (empty_place (drop (length l.yielded) (parts_of l.text))) ≡ empty_place (parts_of l.text);
}
