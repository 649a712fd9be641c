-- Wire history: the connections that failed and the links that were finished, in order (this project's profile).
use Rattle.std.specs.Prelude.{◌≡◌, ◌⊎◌, ℕ, List, [], ◌∷◌, ◌++◌, Option, Some, None, IfOk, Result, Ok, Err, MatchResult}
use Rattle.outside.specs.declared.failed.Failed.{Failed}
use Rattle.outside.specs.Counts.{IsAtEnd, next_count}
use Rattle.outside.specs.Talks.{Talk, no_talk}

-- what became of one connection: it failed, or its link was finished with this talk, this many faults and this many idles
pub data Outcome : Type 0 where
  Refused : Outcome
  Finished : Talk → ℕ → ℕ → Outcome

-- a connection that failed is in the list, also if it was out of memory, until the count of faults is at its end
abbrev pub KeepsRefusal : List Outcome → Option (List Outcome) → ℕ → Type 0
KeepsRefusal outcomes after faults = (after ≡ Some (outcomes ++ Refused ∷ [])) ⊎ (IsAtEnd faults × (after ≡ Some outcomes))

-- a link of a wire that reports begins with no talk; one of a wire that reports nothing reports nothing
abbrev pub TellsConnecting : {L : Type 0} → (L → Option Talk) → Option (List Outcome) → Result L Failed → Option (List Outcome) → ℕ → Type 0
TellsConnecting link_told None result after faults = (after ≡ None) × IfOk result (λ link. link_told link ≡ None)
TellsConnecting link_told (Some outcomes) result after faults = MatchResult result
    (λ link. (link_told link ≡ Some no_talk) × (after ≡ Some outcomes))
    (λ _. KeepsRefusal outcomes after faults)

-- a link that was not used yet has counted nothing
pub record IsUnused {L : Type 0} (link_faults link_idles link_failed_sends : L → ℕ) (link : L) : Type 0 where
  pub faults : link_faults link ≡ 0
  pub idles : link_idles link ≡ 0
  pub failed_sends : link_failed_sends link ≡ 0

-- the link is in the list with its talk; of one that reports nothing, nothing is
abbrev pub TellsFinishing : Option (List Outcome) → Option Talk → ℕ → ℕ → Option (List Outcome) → Type 0
TellsFinishing None talk faults idles after = after ≡ None
TellsFinishing (Some outcomes) None faults idles after = after ≡ Some outcomes
TellsFinishing (Some outcomes) (Some talk) faults idles after = after ≡ Some (outcomes ++ Finished talk faults idles ∷ [])

-- how many links are not finished after a connecting
abbrev pub count_after_connecting : {L : Type 0} → ℕ → Result L Failed → ℕ
count_after_connecting count (Ok link) = next_count count
count_after_connecting count (Err error) = count
