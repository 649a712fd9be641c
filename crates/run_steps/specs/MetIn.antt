-- What ends the run in a round (this project's profile): if a round hit several causes, the first in this order. A read fault ends
-- the run of one file alone, and the run has met it once the others are at their ends.
use Rattle.std.specs.Prelude.{◌≡◌, ℕ, ◌<◌, ◌≤◌, Bool, true, false, List, All, take, slice_get, Option, Some, None, Result, Ok, Err}
use Rattle.keeper.specs.Keeping.{Keeping}
use Rattle.rounds.specs.Settled.{IsDoneIn}
use Rattle.rounds.specs.declared.answer.Round.{Round}
use Rattle.rounds.specs.declared.carrier.Carrier.{Carrier}
use Rattle.rounds.specs.declared.crew.Crew.{Crew}
use Rattle.run_steps.specs.declared.met.Met.{Met}
use Rattle.run_steps.specs.declared.met.Met.TheVariants.{DiskFault, Done, Epochs, FolderFault, NoMemory, NoNative, Stopped, Unreachable}

-- the worker failed less often in a row than it may
abbrev pub HasTriesLeft : {W L : Type 0} → ℕ → Carrier W L → Type 0
HasTriesLeft attempts one = one.worker.failures < attempts

-- the worker of this number failed as often in a row as it may, and none before it
pub record HasFailed {W L : Type 0} (attempts : ℕ) (carriers : List (Carrier W L)) (number : ℕ) : Type 0 where
  pub one : Carrier W L
  pub is : slice_get carriers number ≡ Some one
  pub failed : attempts ≤ one.worker.failures
  pub first : All (HasTriesLeft attempts) (take number carriers)

abbrev pub NoneFailed : {W L : Type 0} → ℕ → List (Carrier W L) → Type 0
NoneFailed attempts carriers = All (HasTriesLeft attempts) carriers

-- the round found memory, and no disk failed
pub record WasStoring (round : Round) : Type 0 where
  pub memory : round.memory ≡ false
  pub disk : round.disk ≡ false

-- and each file is in an epoch that is not the last
pub record WasReading (round : Round) : Type 0 where
  pub storing : WasStoring round
  pub no_epochs : round.epochs ≡ None

-- and each worker may go on
pub record WasSending {T W L : Type 0} (attempts : ℕ) (crew : Crew T W L) (round : Round) : Type 0 where
  pub reading : WasReading round
  pub none_failed : NoneFailed attempts crew.carriers.items

-- a run that does not read its files once is never done
abbrev pub IsMetIn : {T W L : Type 0} → Bool → ℕ → Crew T W L → Keeping → Round → Option Met → Type 0
IsMetIn once attempts crew keeper round (Some NoMemory) = round.memory ≡ true
IsMetIn once attempts crew keeper round (Some DiskFault) = (round.memory ≡ false) × (round.disk ≡ true)
IsMetIn once attempts crew keeper round (Some FolderFault) = ⊥
IsMetIn once attempts crew keeper round (Some (Epochs slot)) = WasStoring round × (round.epochs ≡ Some slot)
IsMetIn once attempts crew keeper round (Some (Unreachable worker)) = WasReading round × HasFailed attempts crew.carriers.items worker
IsMetIn once attempts crew keeper round (Some Done) = WasSending attempts crew round × (once ≡ true) × (round.moved ≡ false) × IsDoneIn crew keeper
IsMetIn once attempts crew keeper round (Some Stopped) = ⊥
IsMetIn once attempts crew keeper round (Some (NoNative slot)) = ⊥
IsMetIn once attempts crew keeper round None = WasSending attempts crew round × (once ≡ true → round.moved ≡ false → ¬ (IsDoneIn crew keeper))

-- a run in which some file met a fault has met that, unless it has no memory or a disk failed
abbrev pub met_behind : Bool → Met → Met
met_behind false met = met
met_behind true Done = FolderFault
met_behind true Stopped = FolderFault
met_behind true NoMemory = NoMemory
met_behind true DiskFault = DiskFault
met_behind true FolderFault = FolderFault
met_behind true (Unreachable worker) = FolderFault
met_behind true (Epochs slot) = FolderFault
met_behind true (NoNative slot) = FolderFault

-- whether some file hit a fault, if the run goes on, or what it has hit
abbrev pub read_by : Bool → Option Met → Result Bool Met
read_by faulty None = Ok faulty
read_by faulty (Some met) = Err (met_behind faulty met)
