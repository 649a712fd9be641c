-- How the parts of a path follow from its slashes.
use Rattle.std.proofs.Common.{◌≡◌, ◌≢◌, ℕ, suc, ◌<◌, List, [], ◌∷◌, ◌++◌, length, get_or, refl, eqb, Bool, true, false, cond, arith}
use Rattle.std.proofs.lemmas.Bool.Decides.{nat_tests}
use Rattle.wire_base.specs.Path.{parts_of, on_first_part}

-- no byte is a slash
abbrev pub NoSlash : List ℕ → Type 0
NoSlash [] = Unit {0}
NoSlash (byte ∷ bytes) = (eqb byte 47 ≡ false) × NoSlash bytes

apart : (byte : ℕ) → byte ≢ 47 → eqb byte 47 ≡ false
apart byte other = grind (arith, nat_tests)

pub NoSlash-by_index : (bytes : List ℕ) → ((i : ℕ) → i < length bytes → get_or bytes i 0 ≢ 47) → NoSlash bytes
NoSlash-by_index [] none = tt
NoSlash-by_index (byte ∷ bytes) none =
    (apart byte (none 0 (omega arith)), NoSlash-by_index bytes (λ i inside. none (suc i) (omega arith)))

pub parts_of-whole : (part : List ℕ) → NoSlash part → parts_of part ≡ part ∷ []
parts_of-whole [] none = refl
parts_of-whole (byte ∷ bytes) none = rw (none.0, parts_of-whole bytes none.1) refl

pub parts_of-append : (part rest : List ℕ) → NoSlash part → parts_of (part ++ 47 ∷ rest) ≡ part ∷ parts_of rest
parts_of-append [] rest none = refl
parts_of-append (byte ∷ bytes) rest none = rw (none.0, parts_of-append bytes rest none.1) refl

pub first_of : (text part rest : List ℕ) → (text ≡ part ++ 47 ∷ rest) × ((i : ℕ) → i < length part → get_or part i 0 ≢ 47) → parts_of text ≡ part ∷ parts_of rest
first_of text part rest split = rw split.0 (parts_of-append part rest (NoSlash-by_index part split.1))

pub only_of : (text : List ℕ) → ((i : ℕ) → i < length text → get_or text i 0 ≢ 47) → parts_of text ≡ text ∷ []
only_of text none = parts_of-whole text (NoSlash-by_index text none)

pub some_part : (text : List ℕ) → parts_of text ≢ []
some_part [] none = cc
some_part (byte ∷ bytes) none = by_test (eqb byte 47) (parts_of bytes) none
  where
    by_test : (slash : Bool) (parts : List (List ℕ)) → cond slash ([] ∷ parts) (on_first_part byte parts) ≡ [] → ⊥
    by_test true parts none = cc
    by_test false [] none = cc
    by_test false (part ∷ parts) none = cc
