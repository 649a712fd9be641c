-- Reads after the length (Filebeat reference, filestream input; this project's profile): a tail is asked for its file's length, and if that
-- is not below the place up to which was read, the file is read there, directly after it. Reads that ask which file this is do not count.
use Rattle.std.specs.Prelude.{◌≡◌, ℕ, ◌+◌, Bool, true, false, List, [], ◌∷◌, Option, Some, IfSome, if◌then◌else◌}
use Rattle.file_looks.specs.Step.{falls_below, given_by, is_counted, reaches}
use Rattle.harvester.specs.HasTold.{begin_of}
use Rattle.harvester.specs.declared.harvester.Harvester.{Harvester}
use Rattle.kept_rows.specs.Account.{FollowedTail}
use Rattle.kept_rows.specs.Trace.{Trace, closing_of}
use Rattle.outside.specs.Tails.{TailHistory}
use Rattle.outside.specs.declared.history.Look.{Look}
use Rattle.outside.specs.declared.history.Question.{Question}
use Rattle.outside.specs.declared.history.Question.TheVariants.{Length, ReadAt}
use Rattle.outside.specs.declared.history.Sight.{Sight}

-- the look reads at this place
abbrev pub IsReadThere : ℕ → Question → Type 0
IsReadThere place Length = ⊥
IsReadThere place (ReadAt at count) = at ≡ place

-- up to where was read after a look that is made at this place: a fall of the length begins anew
abbrev pub place_then : Bool → ℕ → Question → Sight → ℕ
place_then behind place question sight =
    if falls_below place question sight then 0
    else place + (if is_counted behind question then given_by question else 0)

-- the same holds of looks the first of which is made at this place; `behind` says that a look at the length is directly before it that was
-- not below the place
abbrev pub ReadsBehind : Bool → ℕ → List Look → Type 0
ReadsBehind behind place [] = behind ≡ false
ReadsBehind behind place (look ∷ looks) =
    (behind ≡ true → IsReadThere place look.question)
    × ReadsBehind (reaches place look.question look.sight) (place_then behind place look.question look.sight) looks

-- ---- of a tail

-- so far, of one that counted no fault, if its looks are known
abbrev pub ReadsWhereNoFault : {T : Type 0} → (T → Option TailHistory) → (T → ℕ) → Harvester T → Type 0
ReadsWhereNoFault told faults harvester = faults harvester.tail ≡ 0 → IfSome (told harvester.tail) (λ tail. ReadsBehind false (begin_of harvester).base tail.looks)

-- of one in the account that was closed and counted none
abbrev pub HasReadBehind : Trace → FollowedTail → Type 0
HasReadBehind trace tail = (looks : List Look) → closing_of trace tail.opening ≡ Some (record { looks = looks; faults = 0 }) → ReadsBehind false tail.place looks
