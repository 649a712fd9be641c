-- The records in which the clauses of a run speak of the objects that it is lent (this project's profile): each is made of the members of
-- their traits, as `F.Folder`, and of the objects themselves.
use Rattle.std.specs.Prelude.{Some, map}
use Rattle.outside.specs.declared.bell.Bell.{Ghosts as BellGhosts}
use Rattle.outside.specs.declared.clock.Clock.{Ghosts as ClockGhosts}
use Rattle.outside.specs.declared.disk.Disk.{Ghosts as DiskGhosts}
use Rattle.outside.specs.declared.folder.Folder.{Ghosts as FolderGhosts}
use Rattle.outside.specs.declared.wire.Wire.{Ghosts as WireGhosts}
use Rattle.rounds.specs.declared.storing.Storing.{Storing}
use Rattle.run_steps.specs.AccountedFor.{RunObjects}
use Rattle.run_steps.specs.Ends.{Ending}
use Rattle.run_steps.specs.Outset.{Earlier, Outset}
use Rattle.run_steps.specs.Questions.{count_given, questions_of}
use Rattle.run_steps.specs.RunOf.{FolderTold}
use Rattle.run_steps.specs.RunState.{Phase}
use Rattle.run_steps.specs.Worked.{Tolls}
use Rattle.run_steps.specs.declared.beginning.Scanned.{Scanned}
use Rattle.run_steps.specs.declared.context.Context.{Context}
use Rattle.run_steps.specs.declared.context.Surroundings.{Surroundings}

-- as it sets out
abbrev pub outset_of : {F T W D K B : Type 0} → FolderGhosts F T → ClockGhosts K → Context → Scanned → Storing D → Surroundings F W K B →
    Outset W D
outset_of folder clock context scanned storing around = record {
  settings = context.settings.now;
  once = context.once;
  listed = scanned.listed.items;
  doubled = scanned.doubled.items;
  moment = scanned.now.0;
  shown = folder.told around.folder.now;
  moments = clock.moments around.clock.now;
  wires = around.wires.now.items;
  keeper = storing.keeper.now;
  a = storing.a.now;
  b = storing.b.now;
}

-- as it ends
abbrev pub ending_of : {F T W D K B : Type 0} → FolderGhosts F T → ClockGhosts K → Storing D → Surroundings F W K B → Phase → Ending D
ending_of folder clock storing around phase = record {
  shown = folder.told around.folder.now;
  moments = clock.moments around.clock.now;
  keeper = storing.keeper.now;
  a = storing.a.now;
  b = storing.b.now;
  phase = phase;
}

-- what they tell before and after it; before it set out it had asked neither the bell nor a wire
abbrev pub objects_of : {F T W L D K B : Type 0} → FolderGhosts F T → ClockGhosts K → BellGhosts B → WireGhosts W L → FolderTold → Earlier D →
    Surroundings F W K B → Storing D → Surroundings F W K B → RunObjects D
objects_of folder clock bell wire told earlier before storing after = record {
  before = record {
    folder = Some told.earlier;
    moments = earlier.moments;
    questions = record { clock = earlier.asked; bell = bell.questions before.bell.now; given = count_given earlier.moments };
    outcomes = map wire.outcomes before.wires.now.items;
    a = earlier.a;
    b = earlier.b;
  };
  after = record {
    folder = folder.told after.folder.now;
    moments = clock.moments after.clock.now;
    questions = questions_of clock bell after.clock.now after.bell.now;
    outcomes = map wire.outcomes after.wires.now.items;
    a = storing.a.now;
    b = storing.b.now;
  };
}

-- the faults and the rings of the bell that they count
abbrev pub tolls_of : {F T W D K B : Type 0} → FolderGhosts F T → DiskGhosts D → BellGhosts B → Storing D → Surroundings F W K B → Tolls
tolls_of folder disk bell storing around = record {
  a_faults = disk.faults storing.a.now;
  b_faults = disk.faults storing.b.now;
  folder_faults = folder.faults around.folder.now;
  rings = bell.rings around.bell.now;
}
