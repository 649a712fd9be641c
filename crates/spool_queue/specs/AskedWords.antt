-- For private clauses: what is read of the arguments.
use Rattle.std.specs.Prelude.{List, ℕ, Option, Some, None}
use Rattle.spool_queue.specs.declared.words.Asked.{Asked}
use Rattle.spool_queue.specs.declared.words.Asked.TheVariants.{Put, Send}
use Rattle.spool_queue.specs.Words.{IsCommand, IsPut, IsSend}

abbrev pub IsAskedBy : List (List ℕ) → Option Asked → Type 0
IsAskedBy words None = ¬ IsCommand words
IsAskedBy words (Some Put) = IsPut words
IsAskedBy words (Some (Send target)) = IsSend words
