-- What a call adds to a talk and to a sink, if they are known (this project's profile).
use Rattle.std.specs.Prelude.{◌≡◌, ℕ, suc, Bool, List, [], ◌∷◌, ◌++◌, Option, Some, None}
use Rattle.outside.specs.Talks.{Talk}
use Rattle.wire_base.specs.declared.talk.Piece.{Piece}
use Rattle.wire_base.specs.declared.talk.Piece.TheVariants.{Out, In}
use Rattle.lumber_frame.specs.Talk.{out_bytes, in_bytes}

-- the talk went on by these pieces
abbrev pub TalkGoesOn : Option Talk → List Piece → Option Talk → Type 0
TalkGoesOn None pieces after = after ≡ None
TalkGoesOn (Some talk) pieces after = (idled : Bool) × (after ≡ Some (record { pieces = talk.pieces ++ pieces; idled = idled }))

-- the sink took these bytes
abbrev pub SinkTakes : Option (List ℕ) → List ℕ → Option (List ℕ) → Type 0
SinkTakes None bytes after = after ≡ None
SinkTakes (Some written) bytes after = after ≡ Some (written ++ bytes)

-- how many pieces were received
abbrev pub received_pieces : List Piece → ℕ
received_pieces [] = 0
received_pieces (Out bytes ∷ pieces) = received_pieces pieces
received_pieces (In bytes ∷ pieces) = suc (received_pieces pieces)

-- the pieces were sent, and their bytes are these
pub record IsSending (pieces : List Piece) (bytes : List ℕ) : Type 0 where
  pub sent : out_bytes pieces ≡ bytes
  pub none_received : in_bytes pieces ≡ []
  pub no_received_piece : received_pieces pieces ≡ 0

-- the bytes were sent over the talk
pub record Sends (before : Option Talk) (bytes : List ℕ) (after : Option Talk) : Type 0 where
  pub pieces : List Piece
  pub sending : IsSending pieces bytes
  pub talk : TalkGoesOn before pieces after
