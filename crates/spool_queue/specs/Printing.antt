-- What a run prints, and what a sink has taken (this project's profile).
use Rattle.std.specs.Prelude.{◌≡◌, ◌⊎◌, List, ℕ, ◌++◌, Option, Some, None, codes, decimal}
use Rattle.spool_queue.specs.declared.status.SpoolStatus.{SpoolStatus}
use Rattle.spool_queue.specs.declared.status.SpoolStatus.TheVariants.{OutFault}

-- if its content is known, all of the bytes are at the end
abbrev pub HasTaken : Option (List ℕ) → List ℕ → Option (List ℕ) → Type 0
HasTaken None bytes after = after ≡ None
HasTaken (Some before) bytes after = after ≡ Some (before ++ bytes)

-- of lines that were put
abbrev pub spooled_text : ℕ → List ℕ
spooled_text lines = codes "spooled " ++ decimal lines ++ codes "\n"

-- of payloads that were settled, and of those that are left
abbrev pub sent_text : ℕ → ℕ → List ℕ
sent_text sent left = codes "sent " ++ decimal sent ++ codes " left " ++ decimal left ++ codes "\n"

-- the text was printed and the run ends as it was asked to, or the sink failed
abbrev pub IsSaid : Option (List ℕ) → List ℕ → Option (List ℕ) → SpoolStatus → SpoolStatus → Type 0
IsSaid before text after told result = (result ≡ OutFault) ⊎ ((result ≡ told) × HasTaken before text after)
