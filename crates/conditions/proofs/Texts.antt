-- Where a text stands within another.
use Rattle.std.proofs.Common.{◌≡◌, ℕ, ◌+◌, ◌<◌, Bool, true, false, ◌||◌, List, [], ◌∷◌, ◌++◌, length, take, drop, Option, Some, None, is_some, bytes_eq, inl, inr, refl, sym, ap, subst, ◌∙◌, arith, length-append, take-append-drop}
use Rattle.memchr.specs.Find.{OccursAt, FindsNeedle}
use Rattle.memchr.proofs.lemmas.MatchLemmas.{OccursAt-split, OccursAt-from_part}
use Rattle.std.proofs.lemmas.Bool.{cases_Bool, false_from_ne_true}
use Rattle.std.proofs.lemmas.List.{take_at, drop_at}
use Rattle.std.proofs.lemmas.Slice.Eq.{bytes_eq-Decides}
use Rattle.event_tree.specs.Parts.{parts_of}
use Rattle.event_tree.specs.Paths.{get_at}
use Rattle.event_tree.specs.Value.{TreeValue, as_values, list_of}
use Rattle.conditions.specs.Asked.{is_at, passes}
use Rattle.conditions.specs.Within.{is_within}

either : (b c : Bool) → (b || c) ≡ true → b ≡ false → c ≡ true
either true c some none = absurd cc
either false c some none = some

first_of : (b c : Bool) → b ≡ true → (b || c) ≡ true
first_of true c is = refl
first_of false c is = absurd cc

second_of : (b c : Bool) → c ≡ true → (b || c) ≡ true
second_of true c is = refl
second_of false c is = is

-- the bytes, with the text among them
pub record Stands (text bytes : List ℕ) : Type 0 where
  pub front : List ℕ
  pub behind : List ℕ
  pub are : bytes ≡ front ++ (text ++ behind)

pub stands_there : (text bytes : List ℕ) → is_within text bytes ≡ true → Stands text bytes
stands_there text [] within = record { front = []; behind = []; are = (bytes_eq-Decides [] text).0 within ∙ sym (no_rest text) }
  where
    no_rest : (list : List ℕ) → list ++ [] ≡ list
    no_rest [] = refl
    no_rest (x ∷ list) = ap (λ (l : List ℕ). x ∷ l) (no_rest list)
stands_there text (byte ∷ bytes) within = elim (cases_Bool (bytes_eq (take (length text) (byte ∷ bytes)) text)) [
  | inl here ↦
      let same = (bytes_eq-Decides (take (length text) (byte ∷ bytes)) text).0 here in
      record {
        front = [];
        behind = drop (length text) (byte ∷ bytes);
        are = sym (take-append-drop (length text) (byte ∷ bytes)) ∙ ap (λ (l : List ℕ). l ++ drop (length text) (byte ∷ bytes)) same;
      }
  | inr elsewhere ↦
      let later = stands_there text bytes (either (bytes_eq (take (length text) (byte ∷ bytes)) text) (is_within text bytes) within elsewhere) in
      record { front = byte ∷ later.front; behind = later.behind; are = ap (λ (l : List ℕ). byte ∷ l) later.are }
]

in_front : (text rest : List ℕ) → is_within text (text ++ rest) ≡ true
in_front [] [] = refl
in_front [] (x ∷ rest) = refl
in_front (byte ∷ text) rest =
    first_of (bytes_eq (take (length (byte ∷ text)) (byte ∷ (text ++ rest))) (byte ∷ text)) (is_within (byte ∷ text) (text ++ rest))
    ((bytes_eq-Decides (take (length (byte ∷ text)) (byte ∷ (text ++ rest))) (byte ∷ text)).1 (take_at (byte ∷ text) rest (length (byte ∷ text)) refl))

pub found_there : (text front behind : List ℕ) → is_within text (front ++ (text ++ behind)) ≡ true
found_there text [] behind = in_front text behind
found_there text (byte ∷ front) behind =
    second_of (bytes_eq (take (length text) (byte ∷ (front ++ (text ++ behind)))) text) (is_within text (front ++ (text ++ behind)))
    (found_there text front behind)

-- ---- questions at a path

pub asked_there : (path : List ℕ) (test : TreeValue → Bool) (tree value : TreeValue) → get_at (parts_of path) tree ≡ Some value →
    is_at path test tree ≡ test value
asked_there path test tree value there = ap (passes test) there

pub asked_of_none : (path : List ℕ) (test : TreeValue → Bool) (tree : TreeValue) → get_at (parts_of path) tree ≡ None → is_at path test tree ≡ false
asked_of_none path test tree absent = ap (passes test) absent

-- ---- a search for bytes

found_at : (hay needle : List ℕ) (k : ℕ) → OccursAt hay needle k → is_within needle hay ≡ true
found_at hay needle k occurs =
    let split = OccursAt-split hay needle k occurs in
    let whole : take k hay ++ (needle ++ drop (k + length needle) hay) ≡ hay = ap (λ (l : List ℕ). take k hay ++ l) (sym split) ∙ take-append-drop k hay in
    subst (λ bytes. is_within needle bytes ≡ true) whole (found_there needle (take k hay) (drop (k + length needle) hay))

occurs_there : (hay needle : List ℕ) (there : Stands needle hay) → (length there.front < length hay + 1) × OccursAt hay needle (length there.front)
occurs_there hay needle there =
    let long : length hay ≡ length there.front + (length needle + length there.behind) =
    ap length there.are ∙ length-append there.front (needle ++ there.behind) ∙ ap (λ n. length there.front + n) (length-append needle there.behind) in
    let rest : drop (length there.front) hay ≡ needle ++ there.behind =
    ap (drop (length there.front)) there.are ∙ drop_at there.front (needle ++ there.behind) (length there.front) refl in
    let reads : take (length needle) (drop (length there.front) hay) ≡ needle = ap (take (length needle)) rest ∙ take_at needle there.behind (length needle) refl in
    (omega (arith, long), OccursAt-from_part hay needle (length there.front) (omega (arith, long)) reads)

pub found_where_within : (hay needle : List ℕ) (place : Option ℕ) → FindsNeedle hay needle 0 place → is_some place ≡ is_within needle hay
found_where_within hay needle (Some k) found = sym (found_at hay needle k found.1)
found_where_within hay needle None nowhere = sym (false_from_ne_true (is_within needle hay) (λ within.
    let stands = stands_there needle hay within in
    let there = occurs_there hay needle stands in
    nowhere (length stands.front) (omega arith) there.0 there.1))

-- the members of a list
pub listed_back : (members : List TreeValue) → list_of (as_values members) ≡ members
listed_back [] = refl
listed_back (member ∷ members) = ap (λ (l : List TreeValue). member ∷ l) (listed_back members)
