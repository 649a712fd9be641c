-- What the talks of a worker's links acknowledge together (Lumberjack v2; this project's profile): link by link, in order.
use Rattle.std.specs.Prelude.{◌≡◌, ℕ, List, [], ◌∷◌, ◌++◌}
use Rattle.lumber_frame.specs.Acknowledged.{Acknowledges}
use Rattle.outside.specs.Wires.{Outcome, Refused, Finished}
use Rattle.wire_base.specs.declared.talk.Piece.{Piece}

-- this talk acknowledges the first of the payloads, and the others the rest
pub record AcknowledgesFirst (talk : List Piece) (Rest : List (List ℕ) → Type 0) (payloads : List (List ℕ)) : Type 0 where
  pub first : List (List ℕ)
  pub rest : List (List ℕ)
  pub are : payloads ≡ first ++ rest
  pub acknowledges : Acknowledges talk first
  pub others : Rest rest

-- the finished links' talks acknowledge these payloads, and no others
abbrev pub AcknowledgeInAll : List Outcome → List (List ℕ) → Type 0
AcknowledgeInAll [] payloads = payloads ≡ []
AcknowledgeInAll (Refused ∷ outcomes) payloads = AcknowledgeInAll outcomes payloads
AcknowledgeInAll (Finished talk faults idles ∷ outcomes) payloads = AcknowledgesFirst talk.pieces (AcknowledgeInAll outcomes) payloads
