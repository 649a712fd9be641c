-- The turns of the keeper in one round (this project's profile): as long as each keeps something, and at most 256.
use Rattle.std.specs.Prelude.{◌≡◌, ◌⊎◌, ◌+◌, ℕ, ◌<◌, ◌≤◌, Bool, true, false, List, [], ◌∷◌, IsSome, Option, length}
use Rattle.outside.specs.Counts.{Rose}
use Rattle.registry_store.specs.Settled.{AreSettled}
use Rattle.registry_store.specs.Standing.{chosen_by}
use Rattle.settle_box.specs.Rule.{WasEmpty}
use Rattle.keeper.specs.Answers.{IfDiskFault, IfEmpty, IfKept, IfNotKept}
use Rattle.keeper.specs.Collecting.{Collects}
use Rattle.keeper.specs.Keeping.{Keeping}
use Rattle.keeper.specs.Storing.{Commits, IsStoredInFull, Stores}
use Rattle.keeper.specs.declared.turn.KeeperTurn.{KeeperTurn}
use Rattle.keeper.specs.declared.turn.KeeperTurn.TheVariants.{Kept, Empty, DiskFault, NoMemory}
use Rattle.rounds.specs.Words.{DiskWords}
use Rattle.rounds.specs.declared.storing.Stored.{Stored}
use Rattle.rounds.specs.declared.storing.Storing.{Storing}

abbrev pub begun_stored : Stored
begun_stored = record { moved = false; memory = false; disk = false }

-- with one turn more
abbrev pub stored_with : KeeperTurn → Stored → Stored
stored_with (Kept count) stored = record stored { moved = true }
stored_with Empty stored = stored
stored_with DiskFault stored = record stored { disk = true }
stored_with NoMemory stored = record stored { memory = true }

abbrev pub stored_of : Stored → List KeeperTurn → Stored
stored_of stored [] = stored
stored_of stored (turn ∷ turns) = stored_of (stored_with turn stored) turns

abbrev pub IsKeeping : KeeperTurn → Type 0
IsKeeping (Kept count) = Unit {0}
IsKeeping Empty = ⊥
IsKeeping DiskFault = ⊥
IsKeeping NoMemory = ⊥

-- all of them but the last kept something
abbrev pub AllButLastKept : List KeeperTurn → Type 0
AllButLastKept [] = Unit {0}
AllButLastKept (turn ∷ []) = Unit {0}
AllButLastKept (turn ∷ next ∷ turns) = IsKeeping turn × AllButLastKept (next ∷ turns)

-- the last of them did not
abbrev pub EndStill : List KeeperTurn → Type 0
EndStill [] = ⊥
EndStill (turn ∷ []) = ¬ (IsKeeping turn)
EndStill (turn ∷ next ∷ turns) = EndStill (next ∷ turns)

abbrev pub AllKept : List KeeperTurn → Type 0
AllKept [] = Unit {0}
AllKept (turn ∷ turns) = IsKeeping turn × AllKept turns

abbrev pub HasKept : Bool → KeeperTurn → Type 0
HasKept true turn = IsKeeping turn
HasKept false turn = ¬ (IsKeeping turn)

-- the turn was counted; whether it kept something
pub record Counts {D : Type 0} (turn : KeeperTurn) (kept : Bool) (old new : Storing D) : Type 0 where
  pub is : new ≡ record old { stored = stored_with turn old.stored }
  pub kept_is : HasKept kept turn

-- a keeper and its areas, whatever was counted
pub record StoringState (D : Type 0) : Type 0 where
  pub keeper : Keeping
  pub a : D
  pub b : D

abbrev pub storing_state : {D : Type 0} → Storing D → StoringState D
storing_state storing = record { keeper = storing.keeper.now; a = storing.a.now; b = storing.b.now }

-- the keeper and its areas are the same objects as before, whatever was written
pub record SameObjects {D : Type 0} (old new : Storing D) : Type 0 where
  pub keeper : new.keeper.ghost_name ≡ old.keeper.ghost_name
  pub a : new.a.ghost_name ≡ old.a.ghost_name
  pub b : new.b.ghost_name ≡ old.b.ghost_name

-- an area that reported what it holds reports it still
pub record StillTell {D : Type 0} (contents : D → Option (List ℕ)) (old new : Storing D) : Type 0 where
  pub a : IsSome (contents old.a.now) → IsSome (contents new.a.now)
  pub b : IsSome (contents old.b.now) → IsSome (contents new.b.now)

module _ {D : Type 0} (disks : DiskWords D) where
  -- one turn, as the keeper's contract says
  pub record KeeperTurned (turn : KeeperTurn) (old new : StoringState D) : Type 0 where
    pub collected : Collects old.keeper new.keeper
    pub at_most : length new.keeper.pass.got ≤ length old.keeper.pass.got + 8_192
    pub count : IfKept turn (λ count. length new.keeper.pass.got ≡ length old.keeper.pass.got + count)
    pub stored : Stores new.keeper.tracked new.keeper.store
    pub stored_in_full : IfKept turn (λ _. IsStoredInFull new.keeper)
    pub committed_stays : IfNotKept turn (new.keeper.tracked.committed ≡ old.keeper.tracked.committed)
    pub kept_only_for_something : IfKept turn (λ count. (0 < count) ⊎ (¬ IsStoredInFull old.keeper))
    pub open_where_kept : IfKept turn (λ _. new.keeper.store.closed ≡ false)
    pub store_kept_where_held : IsSome new.keeper.held → new.keeper.store ≡ old.keeper.store
    pub a_kept_where_held : IsSome new.keeper.held → new.a ≡ old.a
    pub b_kept_where_held : IsSome new.keeper.held → new.b ≡ old.b
    pub empty : IfEmpty turn (WasEmpty old.keeper.pass)
    pub nothing_to_store : IfEmpty turn (IsStoredInFull old.keeper)
    pub kept_where_empty : IfEmpty turn (new.keeper ≡ old.keeper)
    pub a_kept_where_empty : IfEmpty turn (new.a ≡ old.a)
    pub b_kept_where_empty : IfEmpty turn (new.b ≡ old.b)
    pub commits : AreSettled disks.contents disks.images old.a old.b (chosen_by old.keeper.store) →
        Commits disks.contents disks.images disks.moment disks.images_since old.keeper.store new.keeper.store
        old.keeper.tracked.opening old.keeper.tracked.committed new.keeper.tracked.notes old.a old.b new.a new.b
    pub settled : AreSettled disks.contents disks.images old.a old.b (chosen_by old.keeper.store) → new.keeper.store.closed ≡ false →
        AreSettled disks.contents disks.images new.a new.b (chosen_by new.keeper.store)
    pub disk_fault_only_where_faults_rose : IfDiskFault turn (Rose (disks.faults old.a) (disks.faults new.a) ⊎ Rose (disks.faults old.b) (disks.faults new.b))
    pub a_told : IsSome (disks.contents old.a) → IsSome (disks.contents new.a)
    pub b_told : IsSome (disks.contents old.b) → IsSome (disks.contents new.b)
    pub a_faults_never_fall : disks.faults old.a ≤ disks.faults new.a
    pub b_faults_never_fall : disks.faults old.b ≤ disks.faults new.b

  -- these turns were made, the first one first
  abbrev pub KeeperRun : List KeeperTurn → StoringState D → StoringState D → Type 0
  KeeperRun [] old new = new ≡ old
  KeeperRun (turn ∷ turns) old new = (mid : StoringState D) × KeeperTurned turn old mid × KeeperRun turns mid new

  pub record KeeperRan (old new : Storing D) : Type 0 where
    pub turns : List KeeperTurn
    pub some : 0 < length turns
    pub few : length turns ≤ 256
    pub kept : AllButLastKept turns
    pub over : (length turns ≡ 256) ⊎ EndStill turns
    pub ran : KeeperRun turns (storing_state old) (storing_state new)
    pub same_objects : SameObjects old new
    pub stored : new.stored ≡ stored_of begun_stored turns

  -- ---- for private clauses

  -- one turn was made and counted; whether it kept something
  pub record KeepsOne (kept : Bool) (old new : Storing D) : Type 0 where
    pub turn : KeeperTurn
    pub turned : KeeperTurned turn (storing_state old) (storing_state new)
    pub same_objects : SameObjects old new
    pub stored : new.stored ≡ stored_with turn old.stored
    pub kept_is : HasKept kept turn

  -- this many turns were made so far, each of which kept something
  pub record KeepsSoFar (count : ℕ) (old new : Storing D) : Type 0 where
    pub turns : List KeeperTurn
    pub many : length turns ≡ count
    pub kept : AllKept turns
    pub ran : KeeperRun turns (storing_state old) (storing_state new)
    pub same_objects : SameObjects old new
    pub stored : new.stored ≡ stored_of begun_stored turns
    pub is_open : new.keeper.now.store.closed ≡ false
