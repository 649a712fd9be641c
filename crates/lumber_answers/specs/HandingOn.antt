-- How lines and acknowledgements are handed on (this project's profile).
use Rattle.std.specs.Prelude.{◌⊎◌, ℕ, List, [], take, Option}
use Rattle.outside.specs.Talks.{Talk}
use Rattle.lumber_answers.specs.Changes.{Sends, SinkTakes}
use Rattle.lumber_answers.specs.Laying.{WritesFront}
use Rattle.lumber_answers.specs.declared.outgoing.Outgoing.{Outgoing}

-- what is known of the link and the sink
pub record Told : Type 0 where
  pub told : Option Talk
  pub written : Option (List ℕ)

abbrev pub telling : Option Talk → Option (List ℕ) → Told
telling told written = record { told = told; written = written }

-- the lines were not written whole, and nothing was sent
pub record FailsToWrite (lines : List ℕ) (before after : Told) : Type 0 where
  pub written : WritesFront before.written lines after.written
  pub sent : Sends before.told [] after.told

-- the lines were written, and the acknowledgements not sent whole
pub record FailsToSend (lines answers : List ℕ) (before after : Told) : Type 0 where
  pub written : SinkTakes before.written lines after.written
  pub count : ℕ
  pub sent : Sends before.told (take count answers) after.told

abbrev pub FailsToHandOn : Outgoing → Told → Told → Type 0
FailsToHandOn outgoing before after =
    FailsToWrite outgoing.lines.items before after ⊎ FailsToSend outgoing.lines.items outgoing.answers.items before after
