use Rattle.std.proofs.Common.{◌≡◌, ◌++◌, length, map}
use Rattle.std.specs.List.{AllByRecursion, flat_map}
use Rattle.lumber_frame.specs.Window.{IsWindow, window_bytes}
use Rattle.lumber_frame.proofs.windows.windows_of.Given as goal

abbrev pub invariant-loop-windows : goal.invariant-loop-windows
invariant-loop-windows l = record {
  each : AllByRecursion IsWindow (map (λ window. window.items) l.windows.items);
  whole : l.bytes ≡ flat_map window_bytes (map (λ window. window.items) l.windows.items) ++ l.rest;
}

abbrev pub decreases-loop-windows : goal.decreases-loop-windows
decreases-loop-windows l = length l.rest
