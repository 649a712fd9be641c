-- The file that a script in memory is reported as (this project's profile).
use Rattle.outside.specs.Files.{File}
use Rattle.outside_mem.specs.declared.script.Script.{Script}
use Rattle.outside_mem.specs.declared.steps.MemFile.{MemFile}
use Rattle.outside_mem.specs.Steps.{lives_of}

abbrev pub file_of : Script → File
file_of script = record { numbers = script.file.native; lives = lives_of script.file.steps.items }

-- the file that these steps are reported as
abbrev pub told_file : MemFile → File
told_file file = record { numbers = file.native; lives = lives_of file.steps.items }
