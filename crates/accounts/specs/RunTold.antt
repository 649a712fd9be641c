-- What is known of a run as it ends (this project's profile): from this its account is made, and what is said of its rows, its images and what it sent.
use Rattle.std.specs.Prelude.{◌≡◌, ◌<◌, List, ◌++◌, Contains, IfSome, None, map}
use Rattle.std.specs.List.{AllByRecursion}
use Rattle.kept_rows.specs.Account.{Following}
use Rattle.kept_rows.specs.Followed.{IsGoneBefore, IsNewlyKnown}
use Rattle.kept_rows.specs.Run.{Run}
use Rattle.ship_core.specs.RowOver.{row_over}
use Rattle.wire_base.specs.declared.note.Note.{Note}
use Rattle.accounts.specs.ByScans.{IsByScans}
use Rattle.accounts.specs.Filed.{Filed, following_of, left_in, slot_in, turned_of}
use Rattle.accounts.specs.FollowedFile.{AreFollowedFiles}
use Rattle.accounts.specs.Hidden.{AreBeside, Hidden, MayAllGo, hidden_following}
use Rattle.accounts.specs.Places.{AreOfWorkers}
use Rattle.accounts.specs.Taken.{FitBooks, Taken}
use Rattle.accounts.specs.ToldNotes.{AreMixed, AreToldNotes}

-- its notes: those that it gave its keeper itself, those that the keeper collected, and all of them as they were noted
pub record RunNotes : Type 0 where
  pub told : List Note
  pub collected : List Note
  pub all : List Note

-- a file leaves only once its row went. This is said of all notes of the run, which is right for one that goes on, too: a row that went stays gone,
-- whatever is noted later (`no_row_goes_back` of ship_core), and the notes of a later slot of its key are none of this one. So it holds of all notes if
-- it held of those that were noted as the file left. That a file leaves as soon as its row went is not said
abbrev pub LeftWithoutRow : List Note → Filed → Type 0
LeftWithoutRow notes file = IfSome (left_in file) (λ last. row_over (slot_in file) notes ≡ None)

-- all slots, those of files and those of hidden rows
abbrev pub all_slots : List Filed → List Hidden → List Following
all_slots files hiddens = map following_of files ++ map hidden_following hiddens

-- where two slots have one key, the earlier one was gone, and its row, before the later one was known; this, too, is said of all notes. And a key that
-- a later scan than the first made known was not known before
pub record TakeTurns (run : Run) (files : List Filed) (hiddens : List Hidden) (notes : List Note) : Type 0 where
  pub gone : (one later : Following) → Contains (all_slots files hiddens) one → Contains (all_slots files hiddens) later → one.slot < later.slot → IsGoneBefore one later
  pub no_row : (one later : Following) → Contains (all_slots files hiddens) one → Contains (all_slots files hiddens) later → one.slot < later.slot →
      one.key ≡ later.key → row_over one.slot notes ≡ None
  pub newly_known : AllByRecursion (IsNewlyKnown run (all_slots files hiddens)) (map following_of files)

-- of these files, in the order of their slots, of these hidden rows, in the order of theirs, of these workers, a wire for each, and with these notes: if
-- the folder, all wires and the clock are known
pub record RunTold (run : Run) (files : List Filed) (hiddens : List Hidden) (workers : List Taken) (notes : RunNotes) : Type 0 where
  pub by : IsByScans run
  pub followed : AreFollowedFiles run files
  pub may_go : MayAllGo run hiddens
  pub beside : AreBeside files hiddens
  pub turns : TakeTurns run files hiddens notes.all
  pub talks : AreOfWorkers workers run.trace.wires
  pub told : AreToldNotes run files hiddens notes.told
  pub mixed : AreMixed notes.told notes.collected notes.all
  pub fits : FitBooks (turned_of files) workers notes.collected
  pub gone : AllByRecursion (LeftWithoutRow notes.all) files
