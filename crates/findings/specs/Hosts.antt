-- Trying hosts (this project's profile): each connection that is tried is added after those before it.
use Rattle.std.specs.Prelude.{◌≡◌, ℕ, List, [], ◌∷◌, ◌++◌, Option, None, Some, Result, Ok, Err}
use Rattle.findings.specs.declared.trial.Trial.{Trial}
use Rattle.wire_base.specs.declared.host.Host.{Host}
use Rattle.wire_base.specs.declared.memory.NoMemory.{NoMemory}

abbrev pub trial_of : Host → Option (List ℕ) → Trial
trial_of host refusal = record { host = host; refusal = refusal }

abbrev pub TellsTrial : Option (List Trial) → Host → Result (Option (List ℕ)) NoMemory → Option (List Trial) → Type 0
TellsTrial None host result after = after ≡ None
TellsTrial (Some tried) host (Ok refusal) after = after ≡ Some (tried ++ trial_of host refusal ∷ [])
TellsTrial (Some tried) host (Err error) after = after ≡ Some tried
