-- What is left of a closed queue (this project's profile).
use Rattle.std.specs.Prelude.{List, [], ◌∷◌, Option, Some, None, IfSome, IsSome, unwrap_or}
use Rattle.crossbeam_queue.specs.Passes.{Pass, view}
use Rattle.wire_base.specs.declared.parcel.Parcel.{Parcel}
use Rattle.mem_queue.specs.declared.rule.Hand.{Hand}

-- the parcel that was taken ahead, and after it what the pass knows to be left in the queue
abbrev pub left_over : Option Parcel → Pass Parcel Hand → List Parcel
left_over None pass = []
left_over (Some next) pass = next ∷ unwrap_or (view pass).rest []

-- while a parcel was taken ahead, the pass knows the rest
abbrev pub KnowsBehind : Option Parcel → Pass Parcel Hand → Type 0
KnowsBehind next pass = IfSome next (λ _. IsSome (view pass).rest)
