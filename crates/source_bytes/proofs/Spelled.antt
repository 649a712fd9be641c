-- What holds of the bytes that were read holds of the source's bytes.
use Rattle.std.proofs.Common.{◌≡◌, ℕ, List, take, Option, Some, None, IfSome, subst}

pub spelled : (source : Option (List ℕ)) (limit : ℕ) (all : List ℕ) (P : List ℕ → Type 0) → IfSome source (λ bytes. all ≡ take limit bytes) → P all → IfSome source (λ bytes. P (take limit bytes))
spelled None limit all P is holds = tt
spelled (Some bytes) limit all P is holds = subst P is holds
