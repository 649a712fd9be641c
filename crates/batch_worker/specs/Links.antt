-- What a turn makes of its worker's link (Lumberjack v2; this project's profile).
use Rattle.std.specs.Prelude.{◌≡◌, ◌⊎◌, ℕ, ◌<◌, List, [], ◌∷◌, ◌++◌, length, Option, Some, None, IfSome, Ok}
use Rattle.outside.specs.Talks.{Talk, TellsSending, no_talk}
use Rattle.wire_base.specs.declared.talk.Piece.TheVariants.{In}
use Rattle.batch_worker.specs.Working.{Working}

-- a window was begun, and all that was begun is out: only then a link is read
pub record IsAllOut {L : Type 0} (w : Working L) : Type 0 where
  pub begun : 0 < length w.window.flights
  pub out : w.window.out ≡ []

-- a link was made, over which nothing went yet
pub record MakesLink {L : Type 0} (told : L → Option Talk) (old new : Working L) : Type 0 where
  pub none : old.link ≡ None
  pub link : L
  pub is : new.link ≡ Some link
  pub unused : IfSome (told link) (λ talk. talk ≡ no_talk)

abbrev pub KeepsOrMakesLink : {L : Type 0} → (L → Option Talk) → Working L → Working L → Type 0
KeepsOrMakesLink told old new = (new.link ≡ old.link) ⊎ MakesLink told old new

-- a front of what was going out was sent, and nothing was read
pub record SendsOver {L : Type 0} (told : L → Option Talk) (old new : Working L) : Type 0 where
  pub link : L
  pub was : old.link ≡ Some link
  pub later : L
  pub is : new.link ≡ Some later
  pub count : ℕ
  pub told_is : TellsSending (told link) old.window.out (Ok count) (told later)

-- these bytes came
abbrev pub TalkGets : Option Talk → List ℕ → Option Talk → Type 0
TalkGets None bytes after = after ≡ None
TalkGets (Some talk) bytes after = after ≡ Some (record talk { pieces = talk.pieces ++ In bytes ∷ [] })

-- it was read, and bytes came
pub record ReadsOver {L : Type 0} (told : L → Option Talk) (old new : Working L) : Type 0 where
  pub all_out : IsAllOut old
  pub link : L
  pub was : old.link ≡ Some link
  pub later : L
  pub is : new.link ≡ Some later
  pub bytes : List ℕ
  pub some : 0 < length bytes
  pub told_is : TalkGets (told link) bytes (told later)

-- it is as it was, or was made, sent over, or read
abbrev pub UsesLink : {L : Type 0} → (L → Option Talk) → Working L → Working L → Type 0
UsesLink told old new = KeepsOrMakesLink told old new ⊎ (SendsOver told old new ⊎ ReadsOver told old new)
