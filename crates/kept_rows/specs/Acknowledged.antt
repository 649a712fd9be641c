-- Where payloads are among what the talks of a run acknowledge (Lumberjack v2; this project's profile), and talks that
-- grow.
use Rattle.std.specs.Prelude.{◌≡◌, ℕ, List, [], ◌∷◌, ◌++◌, map, slice_get, Option, Some, None}
use Rattle.lumber_frame.specs.Acknowledged.{Acknowledges}
use Rattle.outside.specs.Talks.{Talk}
use Rattle.outside.specs.Wires.{Outcome, Refused, Finished}
use Rattle.wire_base.specs.declared.talk.Piece.{Piece}
use Rattle.kept_rows.specs.Account.{Place}
use Rattle.kept_rows.specs.Trace.{WireTold}

abbrev pub talk_of : Outcome → Option (List Piece)
talk_of Refused = None
talk_of (Finished talk faults idles) = Some talk.pieces

-- a link that is not finished has the number that it will have
abbrev pub open_talks : Option Talk → List (Option (List Piece))
open_talks None = []
open_talks (Some talk) = Some talk.pieces ∷ []

-- the talks of a wire's connections in this run, in order; none if it was refused
abbrev pub talks_of : WireTold → List (Option (List Piece))
talks_of wire = map talk_of wire.outcomes ++ open_talks wire.open_talk

-- the payload is at the place
pub record IsAcknowledgedAt (wires : List WireTold) (payload : List ℕ) (place : Place) : Type 0 where
  pub wire : WireTold
  pub wire_is : slice_get wires place.wire ≡ Some wire
  pub talk : List Piece
  pub talk_is : slice_get (talks_of wire) place.connection ≡ Some (Some talk)
  pub acknowledged : List (List ℕ)
  pub acknowledges : Acknowledges talk acknowledged
  pub stands : slice_get acknowledged place.number ≡ Some payload

-- ---- talks that grow: each goes on, and others may follow

abbrev pub TalkGoesOn : Option (List Piece) → Option (List Piece) → Type 0
TalkGoesOn None now = now ≡ None
TalkGoesOn (Some talk) now = (more : List Piece) × (now ≡ Some (talk ++ more))

abbrev pub TalksGoOn : List (Option (List Piece)) → List (Option (List Piece)) → Type 0
TalksGoOn [] now = Unit {0}
TalksGoOn (talk ∷ before) [] = ⊥
TalksGoOn (talk ∷ before) (grown ∷ now) = TalkGoesOn talk grown × TalksGoOn before now

abbrev pub WiresGoOn : List WireTold → List WireTold → Type 0
WiresGoOn [] now = Unit {0}
WiresGoOn (wire ∷ before) [] = ⊥
WiresGoOn (wire ∷ before) (grown ∷ now) = TalksGoOn (talks_of wire) (talks_of grown) × WiresGoOn before now
