-- What the members of a scan so far began, and one member more.
use Rattle.std.specs.Prelude.{◌≡◌, ℕ, ◌+◌, Bool, true, false, cond, List, [], ◌∷◌, ◌++◌, length, All, Some, None, is_none, is_some, slice_get, if◌then◌else◌}
use Rattle.std.specs.BTreeMap.{is_at}
use Rattle.std.specs.BTreeSet.{contains}
use Rattle.prospector_core.specs.declared.seen.Seen.{Seen}
use Rattle.prospector_core.specs.KnownFiles.{first_with}
use Rattle.prospector_core.specs.Limits.{Refusal}
use Rattle.restart_join.specs.declared.join.Joined.{Joined}
use Rattle.restart_join.specs.declared.join_error.JoinError.{JoinError}
use Rattle.restart_join.specs.declared.join_error.JoinError.TheVariants.{TooMany, NoMemory}
use Rattle.restart_join.specs.Joining.{begin_at, begins_of, first_ones, full_for, new_keys, refusals}
use Rattle.restart_join.specs.Starts.{start_of}
use Rattle.ship_core.specs.Rows.{find}
use Rattle.wire_base.specs.declared.row.Row.{Row}
use Rattle.wire_base.specs.KeyOrder.{compare}
use Rattle.wire_base.specs.Ranges.{IsBegin}

pub record HasJoined (rows : List Row) (first : ℕ) (members : List Seen) (joined : Joined) : Type 0 where
  pub begins : joined.begins.items ≡ begins_of rows first members
  pub keys : (key : List ℕ) → contains compare joined.keys key ≡ is_some (first_with key members)
  pub files : joined.files ≡ length rows + new_keys rows members
  pub next : joined.next ≡ first + length (first_ones members)
  pub none_refused : refusals rows first members ≡ []
  pub in_range : All IsBegin joined.begins.items

-- ---- one member

pub record Further (old new : Joined) : Type 0 where
  pub begins : new.begins.items ≡ old.begins.items
  pub keys : (key : List ℕ) → contains compare new.keys key ≡ contains compare old.keys key
  pub files : new.files ≡ old.files
  pub next : new.next ≡ old.next

pub record First (rows : List Row) (old : Joined) (member : Seen) (new : Joined) : Type 0 where
  pub room : full_for old.files old.next member.size (find member.key rows) ≡ None
  pub begins : new.begins.items ≡ old.begins.items ++ begin_at old.next member (start_of member.size (find member.key rows)) ∷ []
  pub keys : (key : List ℕ) → contains compare new.keys key ≡ cond (is_at (compare member.key) key) true (contains compare old.keys key)
  pub files : new.files ≡ old.files + (if is_none (find member.key rows) then 1 else 0)
  pub next : new.next ≡ old.next + 1
  pub in_range : IsBegin (begin_at old.next member (start_of member.size (find member.key rows)))

-- by whether an earlier member has the key
abbrev pub JoinsMember : Bool → List Row → Joined → Seen → Joined → Type 0
JoinsMember true rows old member new = Further old new
JoinsMember false rows old member new = First rows old member new

abbrev pub MemberRefused : List Row → Joined → Seen → JoinError → Type 0
MemberRefused rows joined member (TooMany what path) =
    (contains compare joined.keys member.key ≡ false) × (full_for joined.files joined.next member.size (find member.key rows) ≡ Some what) × (path ≡ member.path)
MemberRefused rows joined member NoMemory = Unit {0}

abbrev pub IsFirstRefused : List Refusal → JoinError → Type 0
IsFirstRefused found (TooMany what path) = slice_get found 0 ≡ Some (record { what = what; path = path })
IsFirstRefused found NoMemory = Unit {0}
