-- Parcels that are handed out of a window one by one.
use Rattle.std.proofs.Common.{◌≡◌, ℕ, zero, suc, ◌+◌, List, [], ◌∷◌, ◌++◌, take, drop, refl, sym, ap, ◌∙◌, subst, append_assoc, append-nil, arith}
use Rattle.lumber_client.specs.Exchange.{Exchange, with_handed}
use Rattle.lumber_client.specs.Held.{Held}
use Rattle.lumber_client.specs.Standing.{StandsFor}
use Rattle.wire_base.specs.declared.parcel.Parcel.{Parcel}
use Rattle.settled_parcels.specs.Handing.{with_all_handed}

taken_at : (xs : List Parcel) (n s : ℕ) (x : Parcel) (rest : List Parcel) → s ≡ n + 1 → drop n xs ≡ x ∷ rest → (take s xs ≡ take n xs ++ x ∷ []) × (drop s xs ≡ rest)
taken_at [] zero s x rest sum same = absurd cc
taken_at [] (suc n) s x rest sum same = absurd cc
taken_at (y ∷ xs) zero zero x rest sum same = absurd (omega (arith, sum))
taken_at (y ∷ xs) zero (suc zero) x rest sum same =
    let first : y ≡ x = cc in
    let others : xs ≡ rest = cc in
    (ap (λ (z : Parcel). z ∷ []) first, others)
taken_at (y ∷ xs) zero (suc (suc s)) x rest sum same = absurd (omega (arith, sum))
taken_at (y ∷ xs) (suc n) zero x rest sum same = absurd (omega (arith, sum))
taken_at (y ∷ xs) (suc n) (suc s) x rest sum same =
    let is = taken_at xs n s x rest (omega (arith, sum)) same in
    (ap (λ (l : List Parcel). y ∷ l) is.0, is.1)

pub next_taken : (xs : List Parcel) (n : ℕ) (x : Parcel) (rest : List Parcel) → drop n xs ≡ x ∷ rest → (take (n + 1) xs ≡ take n xs ++ x ∷ []) × (drop (n + 1) xs ≡ rest)
next_taken xs n x rest same = taken_at xs n (n + 1) x rest refl same

pub handed_more : (w : Held) (e : Exchange) (before after : List Parcel) (parcel : Parcel) → after ≡ before ++ parcel ∷ [] → StandsFor w (with_handed (with_all_handed e before) parcel) → StandsFor w (with_all_handed e after)
handed_more w e before after parcel is s =
    let S : List Parcel → Type 0 = λ l. StandsFor w (record { talk = e.talk; begun = e.begun; earlier = e.earlier; handed = l }) in
    subst S (append_assoc e.handed before (parcel ∷ []) ∙ ap (λ (l : List Parcel). e.handed ++ l) (sym is)) s

pub handed_none : (w : Held) (e : Exchange) → StandsFor w e → StandsFor w (with_all_handed e [])
handed_none w e s =
    let S : List Parcel → Type 0 = λ l. StandsFor w (record { talk = e.talk; begun = e.begun; earlier = e.earlier; handed = l }) in
    subst S (sym (append-nil e.handed)) s
