-- The choice between the areas A and B (this project's profile). Of the areas that are opened the one with the greater
-- generation is used, and A if both have the same. If none is opened, the registry is empty if B is blank and A is
-- blank or closed. Else it is refused: as area A, at its place, if A is broken; else as area B, at its place if B
-- is broken, and at 0 if it is closed. The versions do not matter.
use Rattle.std.specs.Prelude.{◌≡◌, ℕ, nat_lt, if◌then◌else◌, List, [], Option, Some, None}
use Rattle.wire_base.specs.declared.limits.Which.{Which}
use Rattle.wire_base.specs.declared.limits.Which.TheVariants.{A, B}
use Rattle.wire_base.specs.declared.row.Row.{Row}
use Rattle.registry_log.specs.State.{IsState, State, Blank, Closed, Opened, Broken}

pub data Choice : Type 0 where
  -- the registry is empty
  Fresh : Choice
  Chosen : (area : Which) (generation : ℕ) (rows : List Row) (start end : ℕ) → Choice
  Refused : (area : Which) (at : ℕ) → Choice

-- what the states of A and B choose
abbrev pub chosen_area : State → State → Choice
chosen_area (Opened generation rows start end) (Opened other others from to) =
    if nat_lt generation other then Chosen B other others from to else Chosen A generation rows start end
chosen_area (Opened generation rows start end) Blank = Chosen A generation rows start end
chosen_area (Opened generation rows start end) Closed = Chosen A generation rows start end
chosen_area (Opened generation rows start end) (Broken at) = Chosen A generation rows start end
chosen_area Blank (Opened generation rows start end) = Chosen B generation rows start end
chosen_area Closed (Opened generation rows start end) = Chosen B generation rows start end
chosen_area (Broken at) (Opened generation rows start end) = Chosen B generation rows start end
chosen_area Blank Blank = Fresh
chosen_area Closed Blank = Fresh
chosen_area (Broken at) Blank = Refused A at
chosen_area (Broken at) Closed = Refused A at
chosen_area (Broken at) (Broken other) = Refused A at
chosen_area Blank (Broken at) = Refused B at
chosen_area Closed (Broken at) = Refused B at
chosen_area Blank Closed = Refused B 0
chosen_area Closed Closed = Refused B 0

-- the bytes of A and B make this choice
pub record IsChoice (first second : List ℕ) (choice : Choice) : Type 0 where
  pub first_state : State
  pub second_state : State
  pub first_is : IsState first first_state
  pub second_is : IsState second second_state
  pub chosen : chosen_area first_state second_state ≡ choice

-- the rows that a choice gives; none if it refuses the registry
abbrev pub rows_of : Choice → Option (List Row)
rows_of Fresh = Some []
rows_of (Chosen area generation rows start end) = Some rows
rows_of (Refused area at) = None

-- the bytes of A and B give these rows
pub record GivesRows (first second : List ℕ) (rows : List Row) : Type 0 where
  pub choice : Choice
  pub chosen : IsChoice first second choice
  pub given : rows_of choice ≡ Some rows

-- ---- for private clauses

-- what is chosen if one area's state decides
abbrev pub decided : Which → State → Choice
decided area (Opened generation rows start end) = Chosen area generation rows start end
decided area (Broken at) = Refused area at
decided area Closed = Refused area 0
decided area Blank = Fresh
