-- A store: what it knows of the area that it uses, and what a commit makes of that (this project's profile).
use Rattle.std.specs.Prelude.{◌≡◌, ◌⊎◌, ℕ, ◌+◌, ◌-◌, ◌^◌, Bool, false, ◌&&◌, nat_lt, if◌then◌else◌, List, [], length}
use Rattle.wire_base.specs.declared.limits.Which.{Which}
use Rattle.wire_base.specs.declared.limits.Which.TheVariants.{A}
use Rattle.wire_base.specs.declared.row.Op.{Op}
use Rattle.wire_base.specs.declared.row.Row.{Row}
use Rattle.registry_log.specs.Area.{area_bytes}
use Rattle.registry_store.specs.Choice.{Choice, Fresh, Chosen, IsChoice}
use Rattle.registry_store.specs.Sides.{written_of}

-- `start` is the place of the first gate after the checkpoint, and `end` that of the last gate; a store is closed once a
-- commit has failed
pub record Standing : Type 0 where
  pub area : Which
  pub generation : ℕ
  pub rows : List Row
  pub start : ℕ
  pub end : ℕ
  pub closed : Bool

-- what the areas choose while a store is like this; an area that is read has its first gate at 29
abbrev pub chosen_by : Standing → Choice
chosen_by store = Chosen store.area store.generation store.rows 29 store.end

-- a commit of these operations begins with a checkpoint: there is one, the part of the area past its checkpoint is longer
-- than 10 MiB, and there is a next generation
abbrev pub is_worn : ℕ → ℕ → ℕ → List Op → Bool
is_worn generation start end ops =
    nat_lt 0 (length ops) && (nat_lt 10_485_760 (end - start) && nat_lt generation (2 ^ 64 - 1))

abbrev pub is_due : Standing → List Op → Bool
is_due store ops = is_worn store.generation store.start store.end ops

-- the one area that a commit writes; it is used afterwards
abbrev pub written_area : Standing → List Op → Which
written_area store ops = written_of store.area (is_due store ops)

-- the generation of the area that is used after a commit
abbrev pub generation_after : Standing → List Op → ℕ
generation_after store ops = if is_due store ops then store.generation + 1 else store.generation

-- the place of the first gate after the checkpoint, after a commit
abbrev pub start_after : Standing → List Op → ℕ
start_after store ops = if is_due store ops then length (area_bytes (store.generation + 1) store.rows) - 1 else store.start

-- a store over an empty registry: area A is started
pub record IsEmpty (store : Standing) : Type 0 where
  pub area : store.area ≡ A
  pub generation : store.generation ≡ 1
  pub rows : store.rows ≡ []
  pub closed : store.closed ≡ false

-- the bytes of A and B choose what the store has, or the registry is empty and so is the store
abbrev pub IsOpenedBy : List ℕ → List ℕ → Standing → Type 0
IsOpenedBy first second store =
    IsChoice first second (Chosen store.area store.generation store.rows store.start store.end) ⊎ (IsChoice first second Fresh × IsEmpty store)
