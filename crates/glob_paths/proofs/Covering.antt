-- How covering goes on part by part.
use Rattle.std.proofs.Common.{◌≡◌, ◌≢◌, ℕ, zero, suc, ◌+◌, ◌-◌, ◌<◌, ◌≤◌, ◌↔◌, Bool, true, false, Option, Some, None, List, [], ◌∷◌, length, take, drop, map, refl, sym, ap, subst, arith, IsTrue, MatchOption, option_copied, is_some, not}
use denote.Ref.{Bor}
use Rattle.std.proofs.lemmas.Bool.{false≢true}
use Rattle.std.specs.List.{AllByRecursion}
use Rattle.wire_base.specs.Path.{parts_of}
use Rattle.glob_paths.proofs.Slashes.{some_part}
use Rattle.glob_paths.specs.Cover.{Part, part_of, parts_left, PartsCover}

-- how much of a text there is, if there is one
abbrev pub size_left : Option (List ℕ) → ℕ
size_left None = 0
size_left (Some text) = length text + 1

-- a `**` that stands for at most this many parts
abbrev pub DeepWithin : ℕ → List Part → List (List ℕ) → Type 0
DeepWithin most parts names =
    (count : ℕ) × (count ≤ most) × (count ≤ length names) × AllByRecursion (λ name. name ≢ []) (take count names) × PartsCover parts (drop count names)

pub deep_here : (most : ℕ) (parts : List Part) (names : List (List ℕ)) → PartsCover parts names → DeepWithin most parts names
deep_here most parts names covers = (0, omega arith, omega arith, tt, covers)

pub deep_ends : (parts : List Part) (names : List (List ℕ)) → DeepWithin 0 parts names ↔ PartsCover parts names
deep_ends parts names = (λ d. at_none d.0 d.1 d.4, λ covers. deep_here 0 parts names covers)
  where
    at_none : (count : ℕ) → count ≤ 0 → PartsCover parts (drop count names) → PartsCover parts names
    at_none zero le covers = covers
    at_none (suc count) le covers = absurd (omega arith)

pub deep_no_names : (most : ℕ) (parts : List Part) → ¬ (PartsCover parts []) → ¬ (DeepWithin most parts [])
deep_no_names most parts wrong = λ d. at_end d.0 d.2 d.4
  where
    at_end : (count : ℕ) → count ≤ 0 → PartsCover parts (drop count []) → ⊥
    at_end zero le covers = wrong covers
    at_end (suc count) le covers = omega arith

pub deep_no_name : (most : ℕ) (parts : List Part) (names : List (List ℕ)) → ¬ (PartsCover parts ([] ∷ names)) → ¬ (DeepWithin most parts ([] ∷ names))
deep_no_name most parts names wrong = λ d. at_first d.0 d.3 d.4
  where
    at_first : (count : ℕ) → AllByRecursion (λ name. name ≢ []) (take count ([] ∷ names)) → PartsCover parts (drop count ([] ∷ names)) → ⊥
    at_first zero all covers = wrong covers
    at_first (suc count) all covers = all.0 refl

pub deep_past : (most : ℕ) (parts : List Part) (name : List ℕ) (names : List (List ℕ)) → ¬ (PartsCover parts (name ∷ names)) → name ≢ [] → DeepWithin (suc most) parts (name ∷ names) ↔ DeepWithin most parts names
deep_past most parts name names wrong some =
    (λ d. shorter d.0 d.1 d.2 d.3 d.4, λ d. (suc d.0, omega (arith, d.1), omega (arith, d.2), (some, d.3), d.4))
  where
    shorter : (count : ℕ) → count ≤ suc most → count ≤ length (name ∷ names) → AllByRecursion (λ name. name ≢ []) (take count (name ∷ names)) → PartsCover parts (drop count (name ∷ names)) → DeepWithin most parts names
    shorter zero le inside all covers = absurd (wrong covers)
    shorter (suc count) le inside all covers = (count, omega arith, omega arith, all.1, covers)

-- the parts from a text on, by what its first part left
pub first_left : (parts : List (List ℕ)) (name : List ℕ) (more : Option (Bor (List ℕ))) → MatchOption more (parts ≡ name ∷ []) (λ rest. parts ≡ name ∷ parts_of rest.now) → parts ≡ name ∷ parts_left (option_copied more)
first_left parts name None first = first
first_left parts name (Some rest) first = first

pub first_some : (parts : List (List ℕ)) (name : List ℕ) (more : Option (Bor (List ℕ))) (rest : Bor (List ℕ)) → MatchOption more (parts ≡ name ∷ []) (λ rest. parts ≡ name ∷ parts_of rest.now) → more ≡ Some rest → parts ≡ name ∷ parts_of rest.now
first_some parts name more rest first is =
    let P : Option (Bor (List ℕ)) → Type 0 = λ more. MatchOption more (parts ≡ name ∷ []) (λ rest. parts ≡ name ∷ parts_of rest.now) in subst P is first

none_covers : (names : List (List ℕ)) → names ≢ [] → PartsCover [] names → ⊥
none_covers [] some covers = some refl
none_covers (name ∷ names) some covers = covers

module _ (A : Type 0) where
  -- with no part of the glob left
  pub all_left : (pattern path : Option (Bor (List ℕ))) (answer : Bool) → A ↔ PartsCover (map part_of (parts_left (option_copied pattern))) (parts_left (option_copied path)) → pattern ≡ None → is_some path ≡ not answer → IsTrue answer ↔ A
  all_left pattern path answer same none is =
      let P : Option (Bor (List ℕ)) → Type 0 = λ p. A ↔ PartsCover (map part_of (parts_left (option_copied p))) (parts_left (option_copied path)) in
      by_path path answer (subst P none same) is
    where
      by_path : (path : Option (Bor (List ℕ))) (answer : Bool) → A ↔ PartsCover [] (parts_left (option_copied path)) → is_some path ≡ not answer → IsTrue answer ↔ A
      by_path None true same is = (λ e. same.1 tt, λ a. refl)
      by_path None false same is = absurd (false≢true is)
      by_path (Some text) true same is = absurd (false≢true (sym is))
      by_path (Some text) false same is = (λ e. absurd (false≢true e), λ a. absurd (none_covers _ (some_part text.now) (same.0 a)))

  -- the steps of a `**`, of which `passed` parts are passed
  module _ (passed : ℕ) (parts : List Part) (names : List (List ℕ)) (same : (most : ℕ) → passed + most ≡ 8 → A ↔ DeepWithin most parts names) where
    pub deep_found : passed < 8 → PartsCover parts names → IsTrue true ↔ A
    deep_found some covers = (λ e. (same (8 - passed) (omega arith)).1 (deep_here (8 - passed) parts names covers), λ a. refl)

    pub deep_stuck : passed < 8 → ¬ (PartsCover parts names) → names ≡ [] → IsTrue false ↔ A
    deep_stuck some wrong none =
        let P : List (List ℕ) → Type 0 = λ left. ¬ (PartsCover parts left) in
        let Q : List (List ℕ) → Type 0 = λ left. DeepWithin (8 - passed) parts left in
        (λ e. absurd (false≢true e), λ a. absurd (deep_no_names (8 - passed) parts (subst P none wrong) (subst Q none ((same (8 - passed) (omega arith)).0 a))))

    pub deep_empty : passed < 8 → ¬ (PartsCover parts names) → (name : List ℕ) (rest : List (List ℕ)) → names ≡ name ∷ rest → length name ≡ 0 → IsTrue false ↔ A
    deep_empty some wrong name rest first empty = at_name name first empty
      where
        at_name : (name : List ℕ) → names ≡ name ∷ rest → length name ≡ 0 → IsTrue false ↔ A
        at_name (byte ∷ bytes) first empty = absurd (omega arith)
        at_name [] first empty =
            let P : List (List ℕ) → Type 0 = λ left. ¬ (PartsCover parts left) in
            let Q : List (List ℕ) → Type 0 = λ left. DeepWithin (8 - passed) parts left in
            (λ e. absurd (false≢true e), λ a. absurd (deep_no_name (8 - passed) parts rest (subst P first wrong) (subst Q first ((same (8 - passed) (omega arith)).0 a))))

    pub deep_next : ¬ (PartsCover parts names) → (name : List ℕ) (rest : List (List ℕ)) → names ≡ name ∷ rest → length name ≢ 0 → (most : ℕ) → passed + 1 + most ≡ 8 → A ↔ DeepWithin most parts rest
    deep_next wrong name rest first some most is =
        let P : List (List ℕ) → Type 0 = λ left. ¬ (PartsCover parts left) in
        let Q : List (List ℕ) → Type 0 = λ left. A ↔ DeepWithin (suc most) parts left in
        let past = deep_past most parts name rest (subst P first wrong) (λ e. some (ap length e)) in
        let here = subst Q first (same (suc most) (omega arith)) in
        (λ a. past.0 (here.0 a), λ d. here.1 (past.1 d))

    pub deep_last : 8 ≤ passed → passed ≤ 8 → (answer : Bool) → IsTrue answer ↔ PartsCover parts names → IsTrue answer ↔ A
    deep_last all most answer is =
        let ends = deep_ends parts names in
        let here = same 0 (omega arith) in
        (λ e. here.1 (ends.1 (is.0 e)), λ a. is.1 (ends.0 (here.0 a)))
