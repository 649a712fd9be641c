-- Pieces that are put one behind the other.
use Rattle.std.proofs.Common.{◌≡◌, List, ◌++◌, ap, ◌∙◌, append_assoc}

-- a first piece, and then the rest
pub before : {X : Type 0} (old mid new first rest : List X) → mid ≡ old ++ first → new ≡ mid ++ rest → new ≡ old ++ (first ++ rest)
before old mid new first rest one others = others ∙ ap (λ l. l ++ rest) one ∙ append_assoc old first rest
