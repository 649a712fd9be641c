-- What a spool that was opened stands for (this project's profile).
use Rattle.std.specs.Prelude.{◌≡◌, ℕ, ◌+◌, ◌-◌, ◌*◌, ◌^◌, ◌<◌, ◌≤◌, ◌⊎◌, List, length, drop, Option, Some, None, IsTrue}
use Rattle.spool_queue.specs.declared.limits.TheConstants.{MAX_SPOOL_BYTES}
use Rattle.spool_queue.specs.declared.spool.Spool.{Spool}
use Rattle.spool_queue.specs.Log.{Log, payloads, settled, outstanding}
use Rattle.spool_queue.specs.Spool.{EndsAt, IsReadAs, Reaches}

-- the disk has these bytes, and these payloads are outstanding
pub record IsSpoolOf (spool : Spool) (bytes : List ℕ) (list : List (List ℕ)) : Type 0 where
  pub log : Log
  pub ends : EndsAt bytes log spool.end
  pub events : length (payloads log) ≡ spool.events
  pub settlements : settled log ≡ spool.settled
  pub list_is : outstanding log ≡ list

-- the contents are known, and are of this kind
abbrev pub Holds : (List ℕ → Type 0) → Option (List ℕ) → Type 0
Holds Kind None = ⊥
Holds Kind (Some bytes) = Kind bytes

-- the contents are known, and are those of this spool, with these payloads outstanding
abbrev pub HoldsList : Spool → List (List ℕ) → Option (List ℕ) → Type 0
HoldsList spool list contents = Holds (λ now. IsSpoolOf spool now list) contents

abbrev pub count_of : Spool → ℕ
count_of spool = spool.events - spool.settled

-- an earlier call answered that the disk failed
abbrev pub IsClosed : Spool → Type 0
IsClosed spool = IsTrue spool.closed

-- the bytes up to the last gate, with room for a settlement of each event by itself
abbrev pub reserved : Spool → ℕ
reserved spool = spool.end + 34 * count_of spool

-- each record that settles them has room
abbrev pub HasRoom : Spool → Type 0
HasRoom spool = reserved spool ≤ MAX_SPOOL_BYTES

-- with one more event of that length there is not room for all
abbrev pub WouldFill : Spool → ℕ → Type 0
WouldFill spool size = MAX_SPOOL_BYTES < spool.end + 14 + size + 34 * (count_of spool + 1)

-- read as one list, or as the other
abbrev pub IsEither : List (List ℕ) → List (List ℕ) → List ℕ → Type 0
IsEither one other image = IsReadAs image one ⊎ IsReadAs image other

-- records that were passed stay that way
abbrev pub KeepsPlaces : Spool → Option (List ℕ) → Option (List ℕ) → Type 0
KeepsPlaces was before now = (bytes : List ℕ) (list : List (List ℕ)) (log : Log) (place : ℕ) → before ≡ Some bytes → IsSpoolOf was bytes list → Reaches bytes log place (drop place bytes) → length (payloads log) < 2 ^ 64 →
    Holds (λ bytes. Reaches bytes log place (drop place bytes)) now
