use Rattle.std.proofs.Common.{take}
use Rattle.file_rows.specs.Removed.{HasListedKeys}
use Rattle.file_rows.proofs.keys.listed_keys.Given as goal

-- the keys of the files so far
abbrev pub invariant-loop-one : goal.invariant-loop-one
invariant-loop-one l = HasListedKeys (take l.one-index l.listed) l.keys
