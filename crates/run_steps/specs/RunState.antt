-- What the objects of a run are between two of its steps (this project's profile): what is known of folder and clock, lanes and workers,
-- the keeper, and the two areas. While a step writes, the areas are lent to it.
use Rattle.std.specs.Prelude.{ℕ, List, Option}
use Rattle.keeper.specs.Keeping.{Keeping}
use Rattle.outside.specs.Folders.{FolderHistory}
use Rattle.rounds.specs.declared.crew.Crew.{Crew}
use Rattle.rounds.specs.declared.storing.Storing.{Storing}
use Rattle.wire_base.specs.declared.numbers.Slot.{Slot}

pub data Phase : Type 0 where
  -- files are begun and turned, and no tail was closed
  Reading : Phase
  -- each file was reported to its end
  Finished : Phase
  -- tails may be closed, whatever was reported of their files; others may be turned on
  Leaving : Phase
  -- so it is, and the last epoch of the file of this slot is over
  OutOfEpochs : Slot → Phase
  -- the run was stopped while it read; tails may be closed
  Halted : Phase
  -- files are turned, also after a read of them failed; between rounds tails may be closed of files that may be opened again
  Following : Phase
  -- the run was stopped while it followed its files; tails may be closed
  HaltedFollowing : Phase

-- once tails are closed
abbrev pub phase_left : Phase → Phase
phase_left Reading = Halted
phase_left Finished = Finished
phase_left Leaving = Leaving
phase_left (OutOfEpochs slot) = OutOfEpochs slot
phase_left Halted = Halted
phase_left Following = HaltedFollowing
phase_left HaltedFollowing = HaltedFollowing

pub record RunState (T W L D : Type 0) : Type 0 where
  pub shown : Option FolderHistory
  pub moments : Option (List ℕ)
  pub crew : Crew T W L
  pub keeper : Keeping
  pub a : D
  pub b : D
  pub phase : Phase

-- with the keeper if it is lent, and the areas with it
abbrev pub within : {T W L D : Type 0} → Option FolderHistory → Option (List ℕ) → Crew T W L → Storing D → Phase → RunState T W L D
within shown moments crew storing phase = record {
  shown = shown;
  moments = moments;
  crew = crew;
  keeper = storing.keeper.now;
  a = storing.a.now;
  b = storing.b.now;
  phase = phase;
}
