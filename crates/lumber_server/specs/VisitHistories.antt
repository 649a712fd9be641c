-- How the record of a visit in memory changes, and what is known of a port's visits in memory (this project's profile).
use Rattle.std.specs.Prelude.{◌≡◌, ℕ, ◌≤◌, true, false, List, [], ◌∷◌, ◌++◌}
use Rattle.wire_base.specs.declared.talk.Piece.TheVariants.{Out, In}
use Rattle.outside.specs.Counts.{next_count}
use Rattle.outside.specs.Talks.{Talk}
use Rattle.lumber_server.specs.Ports.{Finished}
use Rattle.lumber_server.specs.declared.visit_history.VisitHistory.{VisitHistory}

abbrev pub talk_of : VisitHistory → Talk
talk_of r = record { pieces = r.pieces.items; idled = r.idled }

abbrev pub finished_of : VisitHistory → Finished
finished_of r = record { talk = talk_of r; faults = r.faults; idles = r.idles; failed_sends = r.failed_sends }

-- nothing was done with the link
pub record IsFresh (r : VisitHistory) : Type 0 where
  pub pieces : r.pieces.items ≡ []
  pub idled : r.idled ≡ false
  pub faults : r.faults ≡ 0
  pub idles : r.idles ≡ 0
  pub failed_sends : r.failed_sends ≡ 0

-- nothing was added, and nothing counted
pub record Stays (old new : VisitHistory) : Type 0 where
  pub talk : talk_of new ≡ talk_of old
  pub faults : new.faults ≡ old.faults
  pub idles : new.idles ≡ old.idles
  pub failed_sends : new.failed_sends ≡ old.failed_sends

-- these bytes were sent
pub record SendsBytes (old : VisitHistory) (bytes : List ℕ) (new : VisitHistory) : Type 0 where
  pub pieces : new.pieces.items ≡ old.pieces.items ++ Out bytes ∷ []
  pub idled : new.idled ≡ false
  pub faults : new.faults ≡ old.faults
  pub idles : new.idles ≡ old.idles
  pub failed_sends : new.failed_sends ≡ old.failed_sends

-- these bytes were received
pub record ReceivesBytes (old : VisitHistory) (bytes : List ℕ) (new : VisitHistory) : Type 0 where
  pub pieces : new.pieces.items ≡ old.pieces.items ++ In bytes ∷ []
  pub idled : new.idled ≡ old.idled
  pub faults : new.faults ≡ old.faults
  pub idles : new.idles ≡ old.idles
  pub failed_sends : new.failed_sends ≡ old.failed_sends

-- one fault more, which the talk does not show
pub record FaultsOnce (old new : VisitHistory) : Type 0 where
  pub talk : talk_of new ≡ talk_of old
  pub faults : new.faults ≡ next_count old.faults
  pub no_less : old.faults ≤ new.faults
  pub idles : new.idles ≡ old.idles
  pub failed_sends : new.failed_sends ≡ old.failed_sends

-- one failed send more, which the talk does not show
pub record FailsOnce (old new : VisitHistory) : Type 0 where
  pub talk : talk_of new ≡ talk_of old
  pub faults : new.faults ≡ next_count old.faults
  pub no_less_faults : old.faults ≤ new.faults
  pub idles : new.idles ≡ old.idles
  pub failed_sends : new.failed_sends ≡ next_count old.failed_sends
  pub no_less : old.failed_sends ≤ new.failed_sends

-- nothing had come
pub record IdlesOnce (old new : VisitHistory) : Type 0 where
  pub pieces : new.pieces.items ≡ old.pieces.items
  pub idled : new.idled ≡ true
  pub faults : new.faults ≡ old.faults
  pub idles : new.idles ≡ next_count old.idles
  pub no_less : old.idles ≤ new.idles
  pub failed_sends : new.failed_sends ≡ old.failed_sends
