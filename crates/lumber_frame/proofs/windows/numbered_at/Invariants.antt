use Rattle.std.proofs.Common.{ℕ, ◌+◌, ◌-◌, List}
use Rattle.lumber_frame.specs.Window.{IsNumbered}
use Rattle.lumber_frame.proofs.windows.numbered_at.Given as goal

abbrev pub invariant-loop-before : goal.invariant-loop-before
invariant-loop-before l = record {
  taken : IsNumbered 1 l.before l.bytes l.payloads.items l.rest;
  ahead : (payloads : List (List ℕ)) (rest : List ℕ) → IsNumbered 1 l.count l.bytes payloads rest → (others : List (List ℕ)) × IsNumbered (l.before + 1) (l.count - l.before) l.rest others rest;
}
