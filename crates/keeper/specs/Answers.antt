-- What an answer of a turn is about (this project's profile).
use Rattle.std.specs.Prelude.{ℕ}
use Rattle.keeper.specs.declared.turn.KeeperTurn.{KeeperTurn}
use Rattle.keeper.specs.declared.turn.KeeperTurn.TheVariants.{Kept, Empty, DiskFault, NoMemory}

abbrev pub IfKept : KeeperTurn → (ℕ → Type 0) → Type 0
IfKept (Kept count) P = P count
IfKept Empty P = Unit {0}
IfKept DiskFault P = Unit {0}
IfKept NoMemory P = Unit {0}

abbrev pub IfEmpty : KeeperTurn → Type 0 → Type 0
IfEmpty (Kept count) P = Unit {0}
IfEmpty Empty P = P
IfEmpty DiskFault P = Unit {0}
IfEmpty NoMemory P = Unit {0}

abbrev pub IfDiskFault : KeeperTurn → Type 0 → Type 0
IfDiskFault (Kept count) P = Unit {0}
IfDiskFault Empty P = Unit {0}
IfDiskFault DiskFault P = P
IfDiskFault NoMemory P = Unit {0}

-- the turn stored nothing, or not all
abbrev pub IfNotKept : KeeperTurn → Type 0 → Type 0
IfNotKept (Kept count) P = Unit {0}
IfNotKept Empty P = P
IfNotKept DiskFault P = P
IfNotKept NoMemory P = P
