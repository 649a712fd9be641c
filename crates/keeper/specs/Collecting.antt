-- What a turn collects (this project's profile): what its pass collected in this turn is noted after all else, in order, but for
-- a note that memory refused, which is held; one that was held before comes first.
use Rattle.std.specs.Prelude.{◌≡◌, Bool, true, false, All, Contains, List, ◌++◌, length, count_by}
use Rattle.outside.specs.Counts.{added_counts}
use Rattle.settle_box.specs.Collector.{collector}
use Rattle.settle_box.specs.Notes.{IsPostable}
use Rattle.settle_box.specs.Senders.{notes}
use Rattle.settle_box.specs.declared.sender.Sent.{Sent}
use Rattle.wire_base.specs.Ranges.{IsNote}
use Rattle.wire_base.specs.declared.note.Cause.{Cause}
use Rattle.wire_base.specs.declared.note.Cause.TheVariants.{Acked, Dropped}
use Rattle.wire_base.specs.declared.note.Note.{Note}
use Rattle.wire_base.specs.declared.note.Note.TheVariants.{Begin, Announce, Settle, Rename, Seen, Forget}
use Rattle.keeper.specs.Keeping.{Keeping, held_in}

abbrev pub is_acked : Cause → Bool
is_acked Acked = true
is_acked (Dropped rule) = false

abbrev pub is_by_rule : Cause → Bool
is_by_rule Acked = false
is_by_rule (Dropped rule) = true

-- the note settles what a peer acknowledged
abbrev pub is_shipped : Note → Bool
is_shipped (Begin slot key path epoch base changed) = false
is_shipped (Announce slot epoch) = false
is_shipped (Settle slot epoch span cause) = is_acked cause
is_shipped (Rename slot scan path) = false
is_shipped (Seen slot changed) = false
is_shipped (Forget slot epoch end) = false

-- the note settles what a rule dropped
abbrev pub is_dropped : Note → Bool
is_dropped (Begin slot key path epoch base changed) = false
is_dropped (Announce slot epoch) = false
is_dropped (Settle slot epoch span cause) = is_by_rule cause
is_dropped (Rename slot scan path) = false
is_dropped (Seen slot changed) = false
is_dropped (Forget slot epoch end) = false

pub record Collects (old new : Keeping) : Type 0 where
  -- what the pass collected, and what was noted, each in order
  pub sent : List Sent
  pub more : List Note
  pub pass : new.pass ≡ collector old.pass.desk (old.pass.got ++ sent)
  pub noted : new.tracked.notes ≡ old.tracked.notes ++ more
  pub notes_are : held_in old.held ++ notes sent ≡ more ++ held_in new.held
  pub kinds : All IsPostable (notes sent)
  pub ranges : All IsNote (notes sent)
  pub opening : new.tracked.opening ≡ old.tracked.opening
  pub gone : All (Contains new.tracked.gone) old.tracked.gone
  pub shipped : new.shipped ≡ added_counts old.shipped (count_by is_shipped (notes sent))
  pub dropped : new.dropped ≡ added_counts old.dropped (count_by is_dropped (notes sent))
  pub collected : new.collected ≡ added_counts old.collected (length sent)

-- ---- for private clauses

-- the same, and nothing is committed
pub record Gathers (old new : Keeping) : Type 0 where
  pub collects : Collects old new
  pub committed : new.tracked.committed ≡ old.tracked.committed
  pub store : new.store ≡ old.store
