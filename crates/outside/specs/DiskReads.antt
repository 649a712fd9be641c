-- What the calls of a disk show of its bytes (std's files, and this project's profile).
use Rattle.std.specs.Prelude.{◌≡◌, ℕ, ◌+◌, ◌-◌, ◌<◌, ◌≤◌, List, [], ◌∷◌, ◌++◌, length, take, drop, replicate, Option, Some, None, IsSome, Result, IfOk, OnOk, IfSome}
use Rattle.outside.specs.declared.failed.Failed.{Failed}

abbrev pub TellsLength : Option (List ℕ) → Result ℕ Failed → Type 0
TellsLength contents result = IfSome contents (λ bytes. IfOk result (λ answer. answer ≡ length bytes))

-- the front of the buffer holds the `count` bytes from `at` on, and 0 comes into a nonempty buffer only at the end
pub record HoldsRange (bytes : List ℕ) (at : ℕ) (into : List ℕ) (count : ℕ) : Type 0 where
  pub within : count ≤ length bytes - at
  pub bytes_read : take count into ≡ take count (drop at bytes)
  pub zero_only_at_the_end : 0 < length into → count ≡ 0 → length bytes ≤ at

abbrev pub Reads : Option (List ℕ) → ℕ → List ℕ → Result ℕ Failed → Type 0
Reads contents at into result = IfSome contents (λ bytes. IfOk result (HoldsRange bytes at into))

-- bytes with others written over them; a gap before `at` reads as zeros, and an empty write changes nothing
abbrev pub written : List ℕ → ℕ → List ℕ → List ℕ
written old at [] = old
written old at (byte ∷ bytes) =
    take at (old ++ replicate (at - length old) 0) ++ byte ∷ bytes ++ drop (at + length (byte ∷ bytes)) old

-- a write that fails may leave anything that is an image; what is known stays known
abbrev pub Written : {T : Type 0} → Option (List ℕ) → ℕ → List ℕ → Result T Failed → Option (List ℕ) → Type 0
Written None at bytes result after = after ≡ None
Written (Some before) at bytes result after = IsSome after × OnOk result (after ≡ Some (written before at bytes))

abbrev pub Cut : {T : Type 0} → Option (List ℕ) → ℕ → Result T Failed → Option (List ℕ) → Type 0
Cut None len result after = after ≡ None
Cut (Some before) len result after = IsSome after × OnOk result (after ≡ Some (take len before))

-- a sync that succeeds leaves the bytes as they read; one that fails may leave any image
abbrev pub KeepsSynced : {T : Type 0} → Option (List ℕ) → Result T Failed → Option (List ℕ) → Type 0
KeepsSynced None result after = after ≡ None
KeepsSynced (Some before) result after = IsSome after × OnOk result (after ≡ Some before)
