-- Which notes are posted (this project's profile): announcements, settlements and forgettings. How a file begins, what
-- it is renamed to and when it last changed is reported to the keeper itself, between two rounds.
use Rattle.wire_base.specs.declared.note.Note.{Note}
use Rattle.wire_base.specs.declared.note.Note.TheVariants.{Begin, Announce, Settle, Rename, Seen, Forget}

abbrev pub IsPostable : Note → Type 0
IsPostable (Begin slot key path epoch base changed) = ⊥
IsPostable (Announce slot epoch) = Unit {0}
IsPostable (Settle slot epoch span cause) = Unit {0}
IsPostable (Rename slot scan path) = ⊥
IsPostable (Seen slot changed) = ⊥
IsPostable (Forget slot epoch end) = Unit {0}
