-- What the steps of a file in memory make of it (this project's profile).
use Rattle.std.specs.Prelude.{ℕ, ◌+◌, Bool, nat_le, if◌then◌else◌, List, [], ◌∷◌, ◌++◌, length, take, Option, Some, None}
use Rattle.outside.specs.declared.history.Sight.{Sight}
use Rattle.outside_mem.specs.declared.steps.Due.{Due}
use Rattle.outside_mem.specs.declared.steps.Due.TheVariants.{Listings, TailCalls}
use Rattle.outside_mem.specs.declared.steps.MemChange.{MemChange}
use Rattle.outside_mem.specs.declared.steps.MemChange.TheVariants.{Append, Truncate, Rename, Remove}
use Rattle.outside_mem.specs.declared.steps.MemStep.{MemStep}

-- which life is present, from 0, and its bytes
pub record Standing : Type 0 where
  pub life : ℕ
  pub bytes : List ℕ

abbrev pub changed : Standing → MemChange → Standing
changed s (Append blob) = record { life = s.life; bytes = s.bytes ++ blob }
changed s (Truncate kept) = record { life = s.life + 1; bytes = take kept s.bytes }
changed s (Rename path) = s
changed s Remove = s

-- after all the steps, the first of them first
abbrev pub after_steps : Standing → List MemStep → Standing
after_steps s [] = s
after_steps s (step ∷ steps) = after_steps (changed s step.change) steps

-- after this many listings and tail calls
abbrev pub is_due : ℕ → ℕ → Due → Bool
is_due listings calls (Listings count) = nat_le count listings
is_due listings calls (TailCalls count) = nat_le count calls

-- the steps that are made by then: those before the first that is not due
abbrev pub made : ℕ → ℕ → List MemStep → List MemStep
made listings calls [] = []
made listings calls (step ∷ steps) = if is_due listings calls step.due then step ∷ made listings calls steps else []

abbrev pub no_bytes : Standing
no_bytes = record { life = 0; bytes = [] }

abbrev pub standing_at : ℕ → ℕ → List MemStep → Standing
standing_at listings calls steps = after_steps no_bytes (made listings calls steps)

-- what is there by then
abbrev pub sight_at : ℕ → ℕ → List MemStep → Sight
sight_at listings calls steps = let s = standing_at listings calls steps in record { life = s.life; length = length s.bytes }

-- a truncation ends the life that these bytes were
abbrev pub with_ended : MemChange → List ℕ → List (List ℕ) → List (List ℕ)
with_ended (Append blob) bytes lives = lives
with_ended (Truncate kept) bytes lives = bytes ∷ lives
with_ended (Rename path) bytes lives = lives
with_ended Remove bytes lives = lives

-- the lives from one on that has these bytes so far, each as it comes to be at last
abbrev pub lives_from : List ℕ → List MemStep → List (List ℕ)
lives_from bytes [] = bytes ∷ []
lives_from bytes (step ∷ steps) = with_ended step.change bytes (lives_from (changed (record { life = 0; bytes = bytes }) step.change).bytes steps)

abbrev pub lives_of : List MemStep → List (List ℕ)
lives_of steps = lives_from [] steps

-- how many bytes the steps append in all
abbrev pub appended_by : MemChange → ℕ
appended_by (Append blob) = length blob
appended_by (Truncate kept) = 0
appended_by (Rename path) = 0
appended_by Remove = 0

abbrev pub appended : List MemStep → ℕ
appended [] = 0
appended (step ∷ steps) = appended_by step.change + appended steps

-- the path after a change, and none once the file was removed
abbrev pub named : Option (List ℕ) → MemChange → Option (List ℕ)
named None change = None
named (Some path) (Append blob) = Some path
named (Some path) (Truncate kept) = Some path
named (Some path) (Rename next) = Some next
named (Some path) Remove = None

abbrev pub named_after : Option (List ℕ) → List MemStep → Option (List ℕ)
named_after path [] = path
named_after path (step ∷ steps) = named_after (named path step.change) steps

-- the path by which the file can be found; it has none before its first step
abbrev pub found_by : List ℕ → List MemStep → Option (List ℕ)
found_by path [] = None
found_by path (step ∷ steps) = named_after (named (Some path) step.change) steps

abbrev pub path_at : ℕ → ℕ → List ℕ → List MemStep → Option (List ℕ)
path_at listings calls path steps = found_by path (made listings calls steps)

-- what is there of a standing
abbrev pub seen : Standing → Sight
seen s = record { life = s.life; length = length s.bytes }
