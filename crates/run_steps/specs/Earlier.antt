-- Openings that came before the last one of a slot (this project's profile): each was closed, with what its tail told. They are of the same
-- file, and each begins where the one before it was told to, or later.
use Rattle.std.specs.Prelude.{◌≡◌, ◌⊎◌, ℕ, ◌==◌, ◌<◌, ◌≤◌, true, List, [], ◌∷◌, ◌++◌, Contains, IsSome, None, Option, Some, if◌then◌else◌}
use Rattle.std.specs.List.{AllByRecursion}
use Rattle.accounts.specs.FollowedFile.{MayReopenAt, start_in}
use Rattle.accounts.specs.Opened.{Opened}
use Rattle.accounts.specs.ToldFile.{IsToldFile}
use Rattle.accounts.specs.Watch.{Watch}
use Rattle.harvester.specs.History.{History, told_to}
use Rattle.outside.specs.Folders.{FolderHistory}
use Rattle.slot_parts.specs.Account.{goes_on}
use Rattle.slot_parts.specs.Tellings.{tellings_in}
use Rattle.wire_base.specs.declared.numbers.Slot.{Slot}
use Rattle.run_steps.specs.Begun.{IsKeyed}
use Rattle.run_steps.specs.LastEpoch.{AreToldInEpochs}
use Rattle.run_steps.specs.SoFar.{Earlier, opened_before}

-- of one file, by one rule
pub record AreOfOneFile (one other : Opened) : Type 0 where
  pub slot : one.begin.slot ≡ other.begin.slot
  pub input : one.begin.input ≡ other.begin.input
  pub key : one.begin.key ≡ other.begin.key
  pub rule : one.rule ≡ other.rule

-- the next one goes on where so much was told: in the same epoch if it was listed with at least that size, else from the first byte in the next
-- epoch
pub record GoesOnFrom (history : History) (next : Opened) : Type 0 where
  pub starts : start_in next ≡ goes_on history.present.epoch (told_to history.present) next.begin.size

-- what was told so ends before the place at which a later one begins, or there
abbrev pub EndsBefore : History → Opened → Type 0
EndsBefore history later =
    (history.present.epoch < later.begin.epoch.0)
    ⊎ ((history.present.epoch ≡ later.begin.epoch.0) × (told_to history.present ≤ later.begin.base))

-- it was told so, and closed where the file may be opened again; the next one goes on from there, and the last one of its slot not before
pub record IsEarlierSo (watch : Watch) (opened : List Opened) (moments : List ℕ) (one : Earlier) : Type 0 where
  pub is_told : IsToldFile watch one.opened moments one.left.turned one.left.told
  pub in_epochs : AreToldInEpochs (tellings_in one.left.turned.history)
  pub may : MayReopenAt one.left.turned.history.stage
  pub goes_on : GoesOnFrom one.left.turned.history one.next
  pub last : Opened
  pub among : Contains opened last
  pub of_one : AreOfOneFile one.opened last
  pub ends : EndsBefore one.left.turned.history last

-- those of one slot, one after another
abbrev pub GoesBefore : Earlier → Earlier → Type 0
GoesBefore one later = one.opened.begin.slot ≡ later.opened.begin.slot → EndsBefore one.left.turned.history later.opened

-- the first of these openings that is of the slot
abbrev pub first_of : Slot → List Opened → Option Opened
first_of slot [] = None
first_of slot (one ∷ others) = if one.begin.slot.0 == slot.0 then Some one else first_of slot others

-- with the last ones
abbrev pub AreInTurn : List Opened → List Earlier → Type 0
AreInTurn opened [] = Unit {0}
AreInTurn opened (one ∷ later) =
    (first_of one.opened.begin.slot (opened_before later ++ opened) ≡ Some one.next)
    × AllByRecursion (GoesBefore one) later × AreInTurn opened later

-- those of a run that watches its files so and shows this of its folder
pub record AreEarlier (watch : Watch) (shown : Option FolderHistory) (opened : List Opened) (moments : List ℕ) (earlier : List Earlier) : Type 0 where
  -- a run that reads its files once opens none again
  pub none_with_once : watch.once ≡ true → earlier ≡ []
  pub each : AllByRecursion (IsEarlierSo watch opened moments) earlier
  pub in_turn : AreInTurn opened earlier
  pub keyed : IsSome shown → AllByRecursion (λ one. IsKeyed one.opened) earlier
  pub tell : IsSome shown → AllByRecursion (λ one. IsSome one.left.told) earlier
