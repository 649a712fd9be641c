-- What a run shows (this project's profile): the files, all that was done with the folder, of which this many things
-- were done before the run, the looks of tails that are open, the moments that the clock gave in the run, and for each
-- wire what became of its connections in the run, and the talk of a link that is not finished.
use Rattle.std.specs.Prelude.{◌≡◌, ℕ, suc, ◌≤◌, ◌==◌, drop, List, [], ◌∷◌, slice_get, Option, Some, None, option_map, if◌then◌else◌}
use Rattle.outside.specs.declared.history.Look.{Look}
use Rattle.outside.specs.declared.history.Sight.{Sight}
use Rattle.outside.specs.Files.{File}
use Rattle.outside.specs.Folders.{Event, Listed, ListingFailed, Opened, NotThere, OpeningFailed, Closed}
use Rattle.outside.specs.Talks.{Talk}
use Rattle.outside.specs.Wires.{Outcome}

-- a tail that is not closed yet, by the place of its opening in the folder's list
pub record OpenTail : Type 0 where
  pub opening : ℕ
  pub looks : List Look

pub record WireTold : Type 0 where
  pub outcomes : List Outcome
  pub open_talk : Option Talk

pub record Trace : Type 0 where
  pub files : List File
  pub events : List Event
  pub began : ℕ
  pub open_tails : List OpenTail
  pub moments : List ℕ
  pub wires : List WireTold

-- ---- a tail, which is found by the place of its opening and by its closing after it

pub record Closing : Type 0 where
  pub looks : List Look
  pub faults : ℕ

abbrev pub closing_by : ℕ → Event → Option Closing
closing_by opening (Listed root depth shown) = None
closing_by opening ListingFailed = None
closing_by opening (Opened path number begun) = None
closing_by opening (NotThere path) = None
closing_by opening (OpeningFailed path) = None
closing_by opening (Closed of looks faults) = if of == opening then Some (record { looks = looks; faults = faults }) else None

abbrev pub first_of_two : {A : Type 0} → Option A → Option A → Option A
first_of_two None second = second
first_of_two (Some first) second = Some first

-- the first closing among these of a tail with this number
abbrev pub closing_in : ℕ → List Event → Option Closing
closing_in opening [] = None
closing_in opening (event ∷ events) = first_of_two (closing_by opening event) (closing_in opening events)

-- the closing of the tail that was opened there: the first after its opening. One that comes before it took back the tail of
-- another folder, in whose list the number is that of an opening, too
abbrev pub closing_of : Trace → ℕ → Option Closing
closing_of trace opening = closing_in opening (drop (suc opening) trace.events)

abbrev pub open_looks_in : ℕ → List OpenTail → Option (List Look)
open_looks_in opening [] = None
open_looks_in opening (tail ∷ tails) = if tail.opening == opening then Some tail.looks else open_looks_in opening tails

-- the looks that the tail reports, closed or open
abbrev pub looks_of : Trace → ℕ → Option (List Look)
looks_of trace opening =
    first_of_two (option_map (λ closing. closing.looks) (closing_of trace opening)) (open_looks_in opening trace.open_tails)

-- in this run the file of this number was opened by the path, and the tail reports these looks
pub record IsTail (trace : Trace) (opening : ℕ) (path : List ℕ) (number : ℕ) (looks : List Look) : Type 0 where
  pub in_this_run : trace.began ≤ opening
  pub begun : Sight
  pub opened : slice_get trace.events opening ≡ Some (Opened path number begun)
  pub tells : looks_of trace opening ≡ Some looks

-- in this run nothing was there by the path as it was to be opened
pub record WasGone (trace : Trace) (opening : ℕ) (path : List ℕ) : Type 0 where
  pub in_this_run : trace.began ≤ opening
  pub not_there : slice_get trace.events opening ≡ Some (NotThere path)
