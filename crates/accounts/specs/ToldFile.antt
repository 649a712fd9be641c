-- What was reported of a file (this project's profile): its history goes on from how it was opened and asked for its key, at moments that the
-- clock gave; each event is reported by the path that the file had then; its end may be found if files are read once, or if it was
-- removed; and its looks are those of its tail. This outlives the harvester.
use Rattle.std.specs.Prelude.{◌≡◌, ◌⊎◌, ℕ, false, true, List, [], ◌∷◌, ◌++◌, Contains, Option, IfSome, flat_map}
use Rattle.std.specs.List.{AllByRecursion}
use Rattle.file_looks.specs.Looks.{TellsLooks}
use Rattle.harvester.specs.History.{Changed, Ended, History, IsTelling, Telling, left_to_tell, rules_in}
use Rattle.harvester.specs.Looked.{AreLookedAt}
use Rattle.kept_rows.specs.Scans.{StandInOrder}
use Rattle.outside.specs.Tails.{TailHistory}
use Rattle.slot_parts.specs.Tellings.{AreNumberedFrom, tellings_in}
use Rattle.told_events.specs.Told.{ToldEvent}
use Rattle.accounts.specs.Opened.{IsTailOf, Opened}
use Rattle.accounts.specs.Turned.{Turned}
use Rattle.accounts.specs.Watch.{AreNamesFrom, MayFindEnd, Name, Watch, last_path}

-- the first is the one with which the file was begun, and is reported from the place with which it was
abbrev pub AreEpochsFrom : ℕ → ℕ → List Telling → Type 0
AreEpochsFrom epoch base [] = ⊥
AreEpochsFrom epoch base (first ∷ later) = (first.epoch ≡ epoch) × (first.start ≡ base) × AreNumberedFrom epoch later

-- ---- by which paths

-- the event was reported by this path, at one of these moments
pub record IsToldBy (path moments : List ℕ) (event : ToldEvent) : Type 0 where
  pub path_is : event.path ≡ path
  pub given : Contains moments event.now

-- in order: first those that were reported before it had the next name, and then those that were reported since
abbrev pub AreToldInTurn : List ℕ → List ℕ → List Name → List ToldEvent → Type 0
AreToldInTurn moments path [] told = AllByRecursion (IsToldBy path moments) told
AreToldInTurn moments path (next ∷ names) told =
    (before : List ToldEvent) × (since : List ToldEvent) × (told ≡ before ++ since)
    × AllByRecursion (IsToldBy path moments) before × AreToldInTurn moments next.path names since

abbrev pub events_in : History → List ToldEvent
events_in history = flat_map (λ telling. telling.told) (tellings_in history)

-- ---- its history

-- the history of a file that was opened this way, to which nothing was given but turns at some of these moments, and what scans reported
pub record IsHistoryOf (watch : Watch) (opened : Opened) (moments : List ℕ) (history : History) : Type 0 where
  pub rule : history.rule ≡ opened.rule
  pub processors_are : history.processors ≡ watch.processors
  pub begin : history.begin ≡ opened.begin
  pub asked_before : history.before ≡ opened.asked
  -- its names since it was opened, and the one that was given last
  pub names : List Name
  pub rise : AreNamesFrom 0 names
  pub renamed : AllByRecursion (watch.renamed opened) names
  pub path : history.path ≡ last_path opened.begin.path names
  -- later turns may find its end, and some turn might, only if files are read once or it was removed
  pub ends : history.ends ≡ true → MayFindEnd watch opened
  pub may_end : history.may_end ≡ true → MayFindEnd watch opened
  pub not_forgotten : history.forgets ≡ false
  pub epochs : AreEpochsFrom opened.begin.epoch.0 opened.begin.base (tellings_in history)
  pub at : StandInOrder history.moments moments
  pub told : AreToldInTurn moments opened.begin.path names (events_in history)

-- its end was found, and all complete lines are reported
pub record IsToldToItsEnd (history : History) : Type 0 where
  pub ended : history.stage ≡ Ended
  pub all_told : left_to_tell history ≡ []

-- the same holds, or it was found to have another key, and is read no further
abbrev pub IsReadThrough : History → Type 0
IsReadThrough history = IsToldToItsEnd history ⊎ (history.stage ≡ Changed)

-- by what its tail reports, if that is known
pub record IsToldFile (watch : Watch) (opened : Opened) (moments : List ℕ) (turned : Turned) (told : Option TailHistory) : Type 0 where
  pub slot : turned.slot ≡ opened.begin.slot
  pub history : IsHistoryOf watch opened moments turned.history
  pub epochs : AllByRecursion (IsTelling (rules_in turned.history)) (tellings_in turned.history)
  pub looked : AreLookedAt opened.file.numbers turned.history told
  pub tail : IfSome told (IsTailOf opened)
  pub tells : IfSome told TellsLooks
