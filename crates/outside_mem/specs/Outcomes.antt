-- What the chain of a wire in memory reports: the connections that failed and the links that were finished, the first
-- of them first (this project's profile).
use Rattle.std.specs.Prelude.{◌≡◌, ◌⊎◌, ℕ, zero, suc, List, [], ◌∷◌, ◌++◌}
use Rattle.wire_base.specs.declared.talk.Piece.{Piece}
use Rattle.outside.specs.Counts.{IsAtEnd, next_count}
use Rattle.outside.specs.Wires.{Outcome, Refused, Finished}
use Rattle.outside_mem.specs.declared.outcomes.OutcomeChain.{OutcomeChain}
use Rattle.outside_mem.specs.declared.outcomes.OutcomeChain.TheVariants.{Start, After'}
use Rattle.outside_mem.specs.declared.outcomes.Outcomes.{Outcomes}
use Rattle.outside_mem.specs.LinkHistories.{talk_of}

-- this many connections failed after these outcomes
abbrev pub with_refused : List Outcome → ℕ → List Outcome
with_refused outcomes zero = outcomes
with_refused outcomes (suc count) = with_refused outcomes count ++ Refused ∷ []

-- up to the last link that was finished
abbrev pub told_chain : OutcomeChain → List Outcome
told_chain Start = []
told_chain (After' p before refused r) = with_refused (told_chain before) refused ++ Finished (talk_of r) r.faults r.idles ∷ []

-- with the connections that failed since then
abbrev pub told : Outcomes → List Outcome
told o = with_refused (told_chain o.last) o.refused

-- one connection more failed; if their count is at its end, the list stays
pub record Refuses (old new : Outcomes) : Type 0 where
  pub told : (told new ≡ told old ++ Refused ∷ []) ⊎ (IsAtEnd old.refused × (told new ≡ told old))
  pub refused : new.refused ≡ next_count old.refused

-- the pieces of the link that was finished last, or these if none was
abbrev pub last_talk : List Piece → List Outcome → List Piece
last_talk pieces [] = pieces
last_talk pieces (Refused ∷ outcomes) = last_talk pieces outcomes
last_talk pieces (Finished talk faults idles ∷ outcomes) = last_talk talk.pieces outcomes
