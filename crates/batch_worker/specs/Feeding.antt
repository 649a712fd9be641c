-- Bytes of a peer that a window was given one by one, up to the first fault (this project's profile). Cited by private calls
-- only.
use Rattle.std.specs.Prelude.{◌≡◌, ℕ, ◌+◌, ◌-◌, ◌^◌, min, List, [], ◌∷◌, ◌++◌, length, Option, Some, None}
use Rattle.lumber_client.specs.Exchange.{Exchange, with_talk}
use Rattle.lumber_client.specs.Held.{Held}
use Rattle.lumber_client.specs.Standing.{StandsFor}
use Rattle.lumber_frame.specs.Talk.{in_bytes}
use Rattle.wire_base.specs.declared.talk.Piece.{Piece}
use Rattle.wire_base.specs.declared.talk.Piece.TheVariants.{In}

-- the talk with these bytes as one piece
abbrev pub with_bytes : List Piece → List ℕ → List Piece
with_bytes talk [] = talk
with_bytes talk (byte ∷ bytes) = talk ++ In (byte ∷ bytes) ∷ []

-- the byte after the front made a fault, and those after it were not given
pub record FeedsTo (new : Held) (e : Exchange) (bytes : List ℕ) (at : ℕ) : Type 0 where
  pub front : List ℕ
  pub byte : ℕ
  pub rest : List ℕ
  pub are : bytes ≡ (front ++ byte ∷ []) ++ rest
  pub stands : StandsFor new (with_talk e (with_bytes e.talk (front ++ byte ∷ [])))
  pub place : at ≡ min (length (in_bytes e.talk) + length front) (2 ^ 64 - 1)

abbrev pub Feeds : Held → Exchange → List ℕ → Option ℕ → Type 0
Feeds new e bytes None = StandsFor new (with_talk e (with_bytes e.talk bytes))
Feeds new e bytes (Some at) = FeedsTo new e bytes at
