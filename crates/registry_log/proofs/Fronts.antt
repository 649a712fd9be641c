-- What a front of some bytes says of all of them.
use Rattle.std.proofs.Common.{◌≡◌, ◌⊎◌, inl, inr, ℕ, zero, suc, ◌+◌, ◌-◌, ◌<◌, ◌≤◌, List, [], ◌∷◌, ◌++◌, length, take, drop, get_or, Some, refl, sym, ap, ◌∙◌, subst, arith, length-append, length-drop}
use Rattle.std.proofs.lemmas.List.{append_assoc, drop-drop, take-append-drop, take_all, length-take-le}
use Rattle.registry_log.specs.Header.{HasHeader, first_wrong, generation_of}
use Rattle.registry_log.specs.RecordReading.{IsFront}
use Rattle.registry_log.specs.Starting.{IsBlank, IsClosed}
use Rattle.registry_log.specs.State.{IsUnclosed}
use Rattle.registry_log.proofs.Headers.{same_first_wrong, same_generation}

-- ---- lists

pub take-add : (n k : ℕ) (xs : List ℕ) → take (n + k) xs ≡ take n xs ++ take k (drop n xs)
take-add zero k xs = let none : 0 + k ≡ k = omega arith in ap (λ (i : ℕ). take i xs) none
take-add (suc n) k [] = take_all (suc n + k) [] (omega arith) ∙ sym (take_all k [] (omega arith))
take-add (suc n) k (x ∷ xs) =
    let more : suc n + k ≡ suc (n + k) = omega arith in ap (λ (i : ℕ). take i (x ∷ xs)) more ∙ ap (λ (l : List ℕ). x ∷ l) (take-add n k xs)

pub take_past : (front more : List ℕ) (n : ℕ) → length front ≤ n → take n (front ++ more) ≡ front ++ take (n - length front) more
take_past [] more n enough = let same : n ≡ n - 0 = omega arith in ap (λ (i : ℕ). take i more) same
take_past (x ∷ front) more zero enough = absurd (omega (arith, enough))
take_past (x ∷ front) more (suc n) enough =
    let same : n - length front ≡ suc n - suc (length front) = omega arith in
    ap (λ (l : List ℕ). x ∷ l) (take_past front more n (omega (arith, enough)) ∙ ap (λ (i : ℕ). front ++ take i more) same)

-- ---- a front and the whole

pub whole_of : (front whole : List ℕ) → IsFront front whole → whole ≡ front ++ drop (length front) whole
whole_of front whole is = sym (take-append-drop (length front) whole) ∙ ap (λ (l : List ℕ). l ++ drop (length front) whole) (sym is)

-- this many bytes are there, or all
abbrev pub IsEnough : ℕ → List ℕ → List ℕ → Type 0
IsEnough wanted front whole = (wanted ≤ length front) ⊎ (length whole ≤ length front)

-- what the whole begins with, a front that is enough begins with, too
pub front_begins : (front whole begun more : List ℕ) (wanted : ℕ) → IsFront front whole → IsEnough wanted front whole → length begun ≤ wanted → whole ≡ begun ++ more → (rest : List ℕ) × (front ≡ begun ++ rest)
front_begins front whole begun more wanted is (inl enough) fits begins =
    (take (length front - length begun) more, is ∙ ap (take (length front)) begins ∙ take_past begun more (length front) (omega (arith, enough, fits)))
front_begins front whole begun more wanted is (inr all) fits begins = (more, is ∙ take_all (length front) whole all ∙ begins)

-- what a front begins with, the whole begins with, too
pub whole_begins : (front whole begun rest : List ℕ) → IsFront front whole → front ≡ begun ++ rest → (more : List ℕ) × (whole ≡ begun ++ more)
whole_begins front whole begun rest is begins =
    (rest ++ drop (length front) whole, whole_of front whole is ∙ ap (λ (l : List ℕ). l ++ drop (length front) whole) begins ∙ append_assoc begun rest (drop (length front) whole))

-- ---- an area by its first bytes

pub blank_front : (front area : List ℕ) → IsEnough 29 front area → length front ≤ 1 → IsBlank area
blank_front front area (inl enough) few = absurd (omega (arith, enough, few))
blank_front front area (inr all) few = omega (arith, all, few)

abbrev BeginsClosed : List ℕ → Type 0
BeginsClosed area = (1 < length area) × IsClosed area

pub closed_front : (front area : List ℕ) → IsFront front area → 1 < length front → (get_or front 0 0 ≡ 0x7B → ⊥) → BeginsClosed area
closed_front [] area is long closed = absurd (omega (arith, long))
closed_front (gate ∷ front) area is long closed =
    let more = length-append (gate ∷ front) (drop (length (gate ∷ front)) area) in
    subst BeginsClosed (sym (whole_of (gate ∷ front) area is)) (omega (arith, long, more), closed)

pub unclosed_front : (front area : List ℕ) → IsFront front area → 1 < length front → get_or front 0 0 ≡ 0x7B → IsUnclosed area
unclosed_front [] area is long opened = absurd (omega (arith, long))
unclosed_front (gate ∷ front) area is long opened =
    let more = length-append (gate ∷ front) (drop (length (gate ∷ front)) area) in
    subst IsUnclosed (sym (whole_of (gate ∷ front) area is)) (record { gate = ap Some opened; more = omega (arith, long, more) })

pub wrong_front : (front area : List ℕ) → IsFront front area → IsEnough 29 front area → first_wrong front ≡ first_wrong area
wrong_front front area is (inl enough) = ap first_wrong is ∙ same_first_wrong area (length front) enough
wrong_front front area is (inr all) = ap first_wrong (is ∙ take_all (length front) area all)

number_front : (front area : List ℕ) → IsFront front area → IsEnough 29 front area → generation_of front ≡ generation_of area
number_front front area is (inl enough) = ap generation_of is ∙ same_generation area (length front) (omega (arith, enough))
number_front front area is (inr all) = ap generation_of (is ∙ take_all (length front) area all)

pub header_front : (front area : List ℕ) (generation : ℕ) → IsFront front area → IsEnough 29 front area → HasHeader front generation → HasHeader area generation
header_front front area generation is enough header = record {
  right = sym (wrong_front front area is enough) ∙ header.right;
  number = sym (number_front front area is enough) ∙ header.number;
}

-- ---- a front that grows or is passed over

pub no_bytes : (bytes whole : List ℕ) → bytes ≡ [] → IsFront bytes whole
no_bytes bytes whole none = let Is : List ℕ → Type 0 = λ l. IsFront l whole in subst Is (sym none) refl

-- with `count` bytes more, which a call of a disk laid into a block
pub grown_front : (bytes block whole : List ℕ) (count : ℕ) → IsFront bytes whole → count ≤ length block → take count block ≡ take count (drop (length bytes) whole) → IsFront (bytes ++ take count block) whole
grown_front bytes block whole count is fits same =
    let long : length (bytes ++ take count block) ≡ length bytes + count = omega (arith, length-append bytes (take count block), length-take-le count block fits) in
    ap (λ (l : List ℕ). l ++ take count block) is ∙ ap (λ (l : List ℕ). take (length bytes) whole ++ l) same ∙ sym (take-add (length bytes) count whole) ∙ sym (ap (λ (n : ℕ). take n whole) long)

drop_of_take : (k n : ℕ) (xs : List ℕ) → k ≤ n → drop k (take n xs) ≡ take (n - k) (drop k xs)
drop_of_take zero n xs low = let same : n ≡ n - 0 = omega arith in ap (λ (i : ℕ). take i xs) same
drop_of_take (suc k) zero xs low = absurd (omega (arith, low))
drop_of_take (suc k) (suc n) [] low = sym (take_all (suc n - suc k) [] (omega arith))
drop_of_take (suc k) (suc n) (x ∷ xs) low =
    let same : n - k ≡ suc n - suc k = omega arith in drop_of_take k n xs (omega (arith, low)) ∙ ap (λ (i : ℕ). take i (drop k xs)) same

pub passed_front : (bytes area : List ℕ) (place count : ℕ) → IsFront bytes (drop place area) → count ≤ length bytes → IsFront (drop count bytes) (drop (place + count) area)
passed_front bytes area place count is fits =
    let fewer : length bytes - count ≡ length (drop count bytes) = sym (length-drop count bytes) in
    ap (drop count) is ∙ drop_of_take count (length bytes) (drop place area) fits ∙ ap (λ (n : ℕ). take n (drop count (drop place area))) fewer
    ∙ ap (take (length (drop count bytes))) (drop-drop count place area)
