-- What a source gives and what a sink takes (std's `Read` and `Write`, and this project's profile).
use Rattle.std.specs.Prelude.{◌≡◌, ℕ, ◌<◌, ◌≤◌, List, [], ◌++◌, length, take, drop, Option, Some, None, Result, MatchResult}
use Rattle.outside.specs.declared.failed.Failed.{Failed}

-- the front of the buffer holds the first `count` bytes that were left, and 0 into a nonempty buffer is the end
pub record GivesFront (left into : List ℕ) (count : ℕ) (after : Option (List ℕ)) : Type 0 where
  pub within : count ≤ length left
  pub bytes : take count into ≡ take count left
  pub rest : after ≡ Some (drop count left)
  pub zero_only_at_the_end : 0 < length into → count ≡ 0 → left ≡ []

-- a read of a source that reports what is left; one that fails takes nothing
abbrev pub ReadsOn : Option (List ℕ) → List ℕ → Result ℕ Failed → Option (List ℕ) → Type 0
ReadsOn None into result after = after ≡ None
ReadsOn (Some left) into result after =
    MatchResult result (λ count. GivesFront left into count after) (λ _. after ≡ Some left)

-- a write to a sink that reports what it holds: the front that was taken is at the end; one that fails adds nothing
abbrev pub WritesOn : Option (List ℕ) → List ℕ → Result ℕ Failed → Option (List ℕ) → Type 0
WritesOn None piece result after = after ≡ None
WritesOn (Some written) piece result after =
    MatchResult result (λ count. after ≡ Some (written ++ take count piece)) (λ _. after ≡ Some written)
