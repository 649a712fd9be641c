-- How the record of a link in memory changes (this project's profile).
use Rattle.std.specs.Prelude.{◌≡◌, ℕ, ◌≤◌, true, false, List, [], ◌∷◌, ◌++◌}
use Rattle.wire_base.specs.declared.talk.Piece.TheVariants.{Out, In}
use Rattle.outside.specs.Counts.{Rose, next_count}
use Rattle.outside.specs.Talks.{Talk}
use Rattle.outside_mem.specs.declared.link_history.LinkHistory.{LinkHistory}

-- what the trait of links sees of it
abbrev pub talk_of : LinkHistory → Talk
talk_of r = record { pieces = r.pieces.items; idled = r.idled }

-- nothing was done with the link
pub record IsFresh (r : LinkHistory) : Type 0 where
  pub pieces : r.pieces.items ≡ []
  pub idled : r.idled ≡ false
  pub faults : r.faults ≡ 0
  pub idles : r.idles ≡ 0

-- nothing was added, and nothing counted
pub record Stays (old new : LinkHistory) : Type 0 where
  pub talk : talk_of new ≡ talk_of old
  pub faults : new.faults ≡ old.faults
  pub idles : new.idles ≡ old.idles

-- these bytes were sent
pub record Sends (old : LinkHistory) (bytes : List ℕ) (new : LinkHistory) : Type 0 where
  pub pieces : new.pieces.items ≡ old.pieces.items ++ Out bytes ∷ []
  pub idled : new.idled ≡ false
  pub faults : new.faults ≡ old.faults
  pub idles : new.idles ≡ old.idles

-- these bytes were received
pub record Receives (old : LinkHistory) (bytes : List ℕ) (new : LinkHistory) : Type 0 where
  pub pieces : new.pieces.items ≡ old.pieces.items ++ In bytes ∷ []
  pub idled : new.idled ≡ old.idled
  pub faults : new.faults ≡ old.faults
  pub idles : new.idles ≡ old.idles

-- one fault more, which the talk does not show
pub record Faults (old new : LinkHistory) : Type 0 where
  pub talk : talk_of new ≡ talk_of old
  pub faults : new.faults ≡ next_count old.faults
  pub no_less : old.faults ≤ new.faults
  pub rose : Rose old.faults new.faults
  pub idles : new.idles ≡ old.idles

-- nothing had come
pub record Idles (old new : LinkHistory) : Type 0 where
  pub pieces : new.pieces.items ≡ old.pieces.items
  pub idled : new.idled ≡ true
  pub faults : new.faults ≡ old.faults
  pub idles : new.idles ≡ next_count old.idles
  pub no_less : old.idles ≤ new.idles
  pub rose : Rose old.idles new.idles
