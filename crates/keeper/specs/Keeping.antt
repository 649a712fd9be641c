-- What contracts see of a keeper (this project's profile): the notes for which it stands over its opening rows, which of them
-- are stored, the store, and what was collected.
use Rattle.std.specs.Prelude.{ℕ, List, [], ◌∷◌, Option, Some, None}
use Rattle.ack_tracker.specs.Tracked.{Tracked}
use Rattle.registry_store.specs.Standing.{Standing}
use Rattle.settle_box.specs.Collector.{Collector}
use Rattle.wire_base.specs.declared.note.Note.{Note}

pub record Keeping : Type 0 where
  -- the opening rows, the notes since then, those of them before the last commit, and the slots whose rows went
  pub tracked : Tracked
  pub store : Standing
  pub pass : Collector
  -- a note that was collected, and that memory refused
  pub held : Option Note
  -- how many notes were collected that settle what a peer acknowledged, and what a rule dropped, and how many in all
  pub shipped : ℕ
  pub dropped : ℕ
  pub collected : ℕ

-- a keeper over the rows of this store, with nothing noted and nothing collected
abbrev pub begun_with : Standing → Collector → Keeping
begun_with store pass = record {
  tracked = record { opening = store.rows; notes = []; committed = []; gone = [] };
  store = store;
  pass = pass;
  held = None;
  shipped = 0;
  dropped = 0;
  collected = 0;
}

-- the note that is held
abbrev pub held_in : Option Note → List Note
held_in None = []
held_in (Some note) = note ∷ []
