-- What a file's tails told one by one, and what the run tells its keeper as it opens a file (this project's profile): the epoch, if it is another one
-- than was told last, or, as it is opened first, than the one with which its slot begins.
use Rattle.std.specs.Prelude.{◌==◌, List, [], ◌∷◌, ◌++◌, map, Option, None, Some, if◌then◌else◌}
use Rattle.harvester.specs.History.{History, Telling}
use Rattle.kept_rows.specs.Followed.{Start}
use Rattle.slot_parts.specs.Tellings.{tellings_in}
use Rattle.wire_base.specs.declared.note.Note.{Note}
use Rattle.wire_base.specs.declared.note.Note.TheVariants.{Announce}
use Rattle.wire_base.specs.declared.numbers.Slot.{Slot}
use Rattle.accounts.specs.Filed.{Filed, Opening, told_both}
use Rattle.accounts.specs.Turned.{Turned}

-- what each tail reported, the first one first
abbrev pub turned_by : Slot → Opening → Turned
turned_by slot one = record { slot = slot; history = one.history }

abbrev pub each_turned : Filed → List Turned
each_turned file = file.turned ∷ map (turned_by file.turned.slot) file.later

-- the first of these epochs, if it is not the one that was reported last
abbrev pub announced_after : Slot → Telling → List Telling → List Note
announced_after slot last [] = []
announced_after slot last (first ∷ later) = if first.epoch == last.epoch then [] else Announce slot (record { 0 = first.epoch }) ∷ []

abbrev pub announced_over : Slot → History → List Opening → List Note
announced_over slot so_far [] = []
announced_over slot so_far (next ∷ later) =
    announced_after slot so_far.present (tellings_in next.history) ++ announced_over slot (told_both so_far next.history) later

-- the first of these epochs, if the file shrank before
abbrev pub announced_first : Slot → Option Start → List Telling → List Note
announced_first slot None tellings = []
announced_first slot (Some start) [] = []
announced_first slot (Some start) (first ∷ later) = Announce slot (record { 0 = first.epoch }) ∷ []

abbrev pub announced_again : Filed → List Note
announced_again file =
    announced_first file.turned.slot file.shrank_from (tellings_in file.turned.history) ++ announced_over file.turned.slot file.turned.history file.later
