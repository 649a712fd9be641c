-- What one receiving over a link came to (Lumberjack v2 over TCP; this project's profile).
use Rattle.std.specs.Prelude.{◌≡◌, ℕ, List, [], ◌∷◌, ◌++◌, Option}
use Rattle.outside.specs.Talks.{Talk}
use Rattle.outside.specs.declared.link.Recv.{Recv}
use Rattle.outside.specs.declared.link.Recv.TheVariants.{Got, Closed, NotYet, Failed}
use Rattle.wire_base.specs.declared.talk.Piece.TheVariants.{In}
use Rattle.lumber_answers.specs.Changes.{TalkGoesOn}

-- the bytes that came are after those that were there, and the talk went on by them
pub record IsPieceHeard (talk : Option Talk) (unread more : List ℕ) (after : Option Talk) : Type 0 where
  pub piece : List ℕ
  pub behind : more ≡ unread ++ piece
  pub talk_is : TalkGoesOn talk (In piece ∷ []) after

pub record IsNothingHeard (talk : Option Talk) (unread more : List ℕ) (after : Option Talk) : Type 0 where
  pub same : more ≡ unread
  pub talk_is : TalkGoesOn talk [] after

abbrev pub IsHeard : Option Talk → List ℕ → Recv → List ℕ → Option Talk → Type 0
IsHeard talk unread (Got count) more after = IsPieceHeard talk unread more after
IsHeard talk unread Closed more after = IsNothingHeard talk unread more after
IsHeard talk unread NotYet more after = IsNothingHeard talk unread more after
IsHeard talk unread Failed more after = IsNothingHeard talk unread more after
