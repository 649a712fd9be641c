-- What a run has done so far (this project's profile), as its account will report it: the files that it began, what was reported of each,
-- and where that went.
use Rattle.std.specs.Prelude.{ℕ, ◌==◌, List, [], ◌∷◌, ◌++◌, map, Option, if◌then◌else◌}
use Rattle.std.specs.List.{flat_map}
use Rattle.accounts.specs.Hidden.{Hidden}
use Rattle.accounts.specs.Opened.{Opened}
use Rattle.accounts.specs.Turned.{Turned}
use Rattle.harvester.specs.History.{told_to}
use Rattle.outside.specs.Tails.{TailHistory}
use Rattle.rounds.specs.Books.{Told}
use Rattle.wire_base.specs.declared.note.Note.{Note}
use Rattle.wire_base.specs.declared.note.Note.TheVariants.{Announce, Forget}
use Rattle.wire_base.specs.declared.parcel.Parcel.{Parcel}
use Rattle.run_steps.specs.LaterScans.{LaterScan}

-- a file whose tail was closed, with what that tail reported then
pub record Left : Type 0 where
  pub turned : Turned
  pub told : Option TailHistory

-- an opening that came before the last one of its slot, with what its tail told till it was closed, and the opening after it
pub record Earlier : Type 0 where
  pub opened : Opened
  pub left : Left
  pub next : Opened

-- a removed file whose Forget the keeper was told, as it was opened last, with what its tail told till it was closed
pub record Forgotten : Type 0 where
  pub opened : Opened
  pub left : Left

pub record SoFar : Type 0 where
  -- the moments that the clock gave since the run began, the last one before it with them
  pub moments : List ℕ
  -- the scans that it made after its first one
  pub scans : List LaterScan
  -- the files of which the keeper was told, by their slots, each as it was opened last
  pub opened : List Opened
  -- and the hidden rows that were noted, by their slots after those
  pub hidden : List Hidden
  -- those that harvesters turn, lane by lane, and those whose tails were closed
  pub lanes : List (List Turned)
  pub left : List Left
  -- the openings that came before those, in order
  pub earlier : List Earlier
  -- those that are forgotten, since they were removed
  pub forgotten : List Forgotten
  -- what was reported of them, and what a peer acknowledged of it
  pub told : Told
  -- the notes that the run told the keeper itself, but for epochs of files that were opened again and for Forgets, and those that the keeper collected
  pub begun : List Note
  pub collected : List Note
  -- what the queue and the box held as all passes met last
  pub queued : List Parcel
  pub boxed : List Note

-- ---- as files were opened

-- this opening instead of another one of its slot
abbrev pub as_opened : Opened → Opened → Opened
as_opened one other = if other.begin.slot.0 == one.begin.slot.0 then one else other

abbrev pub with_opening : Opened → List Opened → List Opened
with_opening one opened = map (as_opened one) opened

-- each as it was opened first
abbrev pub first_opened : List Earlier → List Opened → List Opened
first_opened [] last = last
first_opened (one ∷ earlier) last = with_opening one.opened (first_opened earlier last)

-- the epoch that the keeper was told as a file was opened again, if it is another one than was told last
abbrev pub announced_by : Earlier → List Note
announced_by one =
    if one.next.begin.epoch.0 == one.left.turned.history.present.epoch then []
    else Announce one.opened.begin.slot one.next.begin.epoch ∷ []

abbrev pub announced_in : List Earlier → List Note
announced_in earlier = flat_map announced_by earlier

-- ---- as files were forgotten

-- the last epoch of the file, and the end of the last event that was told in it
abbrev pub forget_of : Forgotten → Note
forget_of one = Forget one.opened.begin.slot (record { 0 = one.left.turned.history.present.epoch }) (told_to one.left.turned.history.present)

abbrev pub forgets_in : List Forgotten → List Note
forgets_in forgotten = map forget_of forgotten

-- what the keeper was told as files were opened again, and as they were forgotten
abbrev pub noted_since : List Earlier → List Forgotten → List Note
noted_since earlier forgotten = announced_in earlier ++ forgets_in forgotten

-- ---- its parts: a step that leaves one as it is keeps all that is said of it

-- the files
pub record FilesSoFar : Type 0 where
  pub moments : List ℕ
  pub scans : List LaterScan
  pub opened : List Opened
  pub lanes : List (List Turned)
  pub left : List Left
  pub earlier : List Earlier
  pub forgotten : List Forgotten

abbrev pub files_of : SoFar → FilesSoFar
files_of so_far = record {
  moments = so_far.moments;
  scans = so_far.scans;
  opened = so_far.opened;
  lanes = so_far.lanes;
  left = so_far.left;
  earlier = so_far.earlier;
  forgotten = so_far.forgotten;
}

-- all openings
abbrev pub opened_before : List Earlier → List Opened
opened_before earlier = map (λ one. one.opened) earlier

abbrev pub openings_within : FilesSoFar → List Opened
openings_within files = opened_before files.earlier ++ files.opened

-- what was told of each since it was opened last
abbrev pub files_within : FilesSoFar → List Turned
files_within files = flat_map (λ turned. turned) files.lanes ++ map (λ one. one.turned) files.left

abbrev pub files_in : SoFar → List Turned
files_in so_far = files_within (files_of so_far)

-- all of which something may have been reported
abbrev pub told_before : List Earlier → List Turned
told_before earlier = map (λ one. one.left.turned) earlier

abbrev pub all_told : SoFar → List Turned
all_told so_far = told_before so_far.earlier ++ files_in so_far

-- what was reported of them, and where each event of it is
pub record BooksSoFar : Type 0 where
  pub files : List Turned
  pub told : Told
  pub queued : List Parcel
  pub boxed : List Note

abbrev pub books_of : SoFar → BooksSoFar
books_of so_far = record { files = all_told so_far; told = so_far.told; queued = so_far.queued; boxed = so_far.boxed }

-- the notes: a Begin is of a file as it was opened first
pub record NotesSoFar : Type 0 where
  pub scans : List LaterScan
  pub opened : List Opened
  pub hidden : List Hidden
  pub since : List Note
  pub begun : List Note
  pub collected : List Note

abbrev pub notes_of : SoFar → NotesSoFar
notes_of so_far = record {
  scans = so_far.scans;
  opened = first_opened so_far.earlier so_far.opened;
  hidden = so_far.hidden;
  since = noted_since so_far.earlier so_far.forgotten;
  begun = so_far.begun;
  collected = so_far.collected;
}
