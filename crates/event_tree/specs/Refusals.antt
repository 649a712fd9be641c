-- When a change of a tree is refused (this project's profile). Out of memory may come with any.
use Rattle.std.specs.Prelude.{◌≡◌, Some, None, IsSome, IsNone}
use Rattle.event_tree.specs.Value.{TreeValue}
use Rattle.event_tree.specs.Paths.{Parts, get_at, blocked_at}
use Rattle.event_tree.specs.declared.errors.PutError.{PutError}
use Rattle.event_tree.specs.declared.errors.PutError.TheVariants as put
use Rattle.event_tree.specs.declared.errors.RenameError.{RenameError}
use Rattle.event_tree.specs.declared.errors.RenameError.TheVariants as rename

-- the part is the one whose holder is no map
abbrev pub IsPutRefusal : Parts → TreeValue → PutError → Type 0
IsPutRefusal path tree (put.NotObject part) = blocked_at path tree ≡ Some part
IsPutRefusal path tree put.NoMemory = Unit {0}

-- nothing is at `from`; else something is at `to`; else a part of `to` has a holder that is no map
abbrev pub IsRenameRefusal : Parts → Parts → TreeValue → RenameError → Type 0
IsRenameRefusal from to tree rename.Absent = IsNone (get_at from tree)
IsRenameRefusal from to tree rename.Present = IsSome (get_at from tree) × IsSome (get_at to tree)
IsRenameRefusal from to tree (rename.NotObject part) = IsSome (get_at from tree) × IsNone (get_at to tree) × (blocked_at to tree ≡ Some part)
IsRenameRefusal from to tree rename.NoMemory = Unit {0}

-- none of these
pub record IsRenamable (from to : Parts) (tree : TreeValue) : Type 0 where
  pub there : IsSome (get_at from tree)
  pub free : IsNone (get_at to tree)
  pub open_way : blocked_at to tree ≡ None
