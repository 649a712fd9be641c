-- What `drop_fields` makes of a tree is told by the first path that it misses.
use Rattle.std.proofs.Common.{◌≡◌, ℕ, ◌+◌, ◌<◌, ◌≤◌, Bool, true, false, not, ◌&&◌, ◌||◌, ◌==◌, List, [], ◌∷◌, ◌++◌, length, get_or, take, drop, cond, codes, Option, Some, None, option_map, is_none, is_some, IfNone, if◌then◌else◌, inl, inr, refl, sym, ap, ◌∙◌, arith}
use Rattle.std.specs.List.{list_any, onto_first}
use Rattle.std.proofs.lemmas.Bool.{cases_Bool}
use Rattle.std.proofs.lemmas.List.{take_more, drop_more, drop_all}
use Rattle.std.proofs.lemmas.List.Folds.{list_any-append}
use Rattle.event_tree.specs.Parts.{parts_of}
use Rattle.event_tree.specs.Paths.{Parts, get_at, remove_at}
use Rattle.event_tree.specs.Tree.{value_of}
use Rattle.event_tree.specs.Value.{TreeValue}
use Rattle.event_tree.specs.declared.tree.Tree.{Tree}
use Rattle.processors_core.specs.Attempt.{Attempt, Done, Failed, and_then}
use Rattle.processors_core.specs.Dropped.{is_left, field_dropped, fields_dropped}
use Rattle.processors_core.specs.Error.{settled, with_error}
use Rattle.processors_core.specs.Missing.{is_front, hides, is_missing, missing_from, missing_of}
use Rattle.processors_core.proofs.Ways.{kept_unless_below}

-- ---- parts of a text

some-onto : (byte : ℕ) (parts : Parts) → 0 < length (onto_first byte parts)
some-onto byte [] = omega arith
some-onto byte (part ∷ parts) = omega arith

some_part : (bytes : List ℕ) → 0 < length (parts_of bytes)
some_part [] = omega arith
some_part (byte ∷ bytes) = by_case (byte == 46)
  where
    by_case : (b : Bool) → 0 < length (cond b ([] ∷ parts_of bytes) (onto_first byte (parts_of bytes)))
    by_case true = omega arith
    by_case false = some-onto byte (parts_of bytes)

kept : (path other : Parts) (v : TreeValue) → 0 < length path → is_some (get_at other (remove_at path v)) ≡ (is_some (get_at other v) && not (is_front path other))
kept [] other v some = absurd (omega arith)
kept (part ∷ path) other v some = kept_unless_below part path other v

-- ---- after some removals, what is there is what was there and is not hidden

abbrev hidden : List (List ℕ) → Parts → Bool
hidden earlier parts = list_any (λ one. hides one parts) earlier

abbrev IsAfter : List (List ℕ) → TreeValue → TreeValue → Type 0
IsAfter earlier tree now = (parts : Parts) → is_some (get_at parts now) ≡ (is_some (get_at parts tree) && not (hidden earlier parts))

at_first : (tree : TreeValue) → IsAfter [] tree tree
at_first tree parts = by_case (is_some (get_at parts tree))
  where
    by_case : (b : Bool) → b ≡ (b && not false)
    by_case true = refl
    by_case false = refl

one_more : (earlier : List (List ℕ)) (path : List ℕ) (parts : Parts) (left : Bool) → is_left path ≡ left →
    hidden (earlier ++ path ∷ []) parts ≡ (hidden earlier parts || (not left && is_front (parts_of path) parts))
one_more earlier path parts left is =
    list_any-append (λ one. hides one parts) earlier (path ∷ [])
    ∙ ap (λ b. hidden earlier parts || ((not b && is_front (parts_of path) parts) || false)) is
    ∙ ap (λ b. hidden earlier parts || b) (or_false (not left && is_front (parts_of path) parts))
  where
    or_false : (b : Bool) → (b || false) ≡ b
    or_false true = refl
    or_false false = refl

-- a path that is left takes nothing away
after_left : (earlier : List (List ℕ)) (path : List ℕ) (tree now : TreeValue) → is_left path ≡ true → IsAfter earlier tree now → IsAfter (earlier ++ path ∷ []) tree now
after_left earlier path tree now left after parts =
    after parts ∙ ap (λ b. is_some (get_at parts tree) && not b) (sym (one_more earlier path parts true left ∙ or_false (hidden earlier parts)))
  where
    or_false : (b : Bool) → (b || false) ≡ b
    or_false true = refl
    or_false false = refl

after_removal : (earlier : List (List ℕ)) (path : List ℕ) (tree now : TreeValue) → is_left path ≡ false → IsAfter earlier tree now →
    IsAfter (earlier ++ path ∷ []) tree (remove_at (parts_of path) now)
after_removal earlier path tree now left after parts =
    kept (parts_of path) parts now (some_part path)
    ∙ ap (λ b. b && not (is_front (parts_of path) parts)) (after parts)
    ∙ both (is_some (get_at parts tree)) (hidden earlier parts) (is_front (parts_of path) parts)
    ∙ ap (λ b. is_some (get_at parts tree) && not b) (sym (one_more earlier path parts false left))
  where
    both : (there hides below : Bool) → ((there && not hides) && not below) ≡ (there && not (hides || below))
    both true true below = refl
    both true false below = refl
    both false hides below = refl

-- ---- the first that is missing

abbrev pub by_missing : Option (List ℕ) → Attempt → Attempt
by_missing None whole = whole
by_missing (Some path) whole = Failed (codes "drop_fields: no field " ++ path)

missing_is : (earlier : List (List ℕ)) (path : List ℕ) (tree now : TreeValue) (there : Bool) → is_left path ≡ false → IsAfter earlier tree now →
    is_some (get_at (parts_of path) now) ≡ there → is_missing earlier path tree ≡ not there
missing_is earlier path tree now there left after is =
    ap (λ b. not b && (is_none (get_at (parts_of path) tree) || hidden earlier (parts_of path))) left
    ∙ by_case (get_at (parts_of path) tree) (hidden earlier (parts_of path)) (sym (after (parts_of path)) ∙ is)
  where
    by_case : (found : Option TreeValue) (hides : Bool) → (is_some found && not hides) ≡ there → (is_none found || hides) ≡ not there
    by_case None hides e = ap not e
    by_case (Some v) true e = ap not e
    by_case (Some v) false e = ap not e

pub all_dropped : (earlier paths : List (List ℕ)) (tree now : TreeValue) → IsAfter earlier tree now →
    fields_dropped false paths now ≡ by_missing (missing_from earlier paths tree) (fields_dropped true paths now)
all_dropped earlier [] tree now after = refl
all_dropped earlier (path ∷ paths) tree now after = elim (cases_Bool (is_left path)) [
  | inl left ↦
      let stays : (ignore : Bool) → fields_dropped ignore (path ∷ paths) now ≡ fields_dropped ignore paths now =
      λ ignore. ap (λ b. and_then (if b then Done now
      else if is_some (get_at (parts_of path) now) then Done (remove_at (parts_of path) now)
      else if ignore then Done now else Failed (codes "drop_fields: no field " ++ path)) (λ t. fields_dropped ignore paths t)) left in
      let there : missing_from earlier (path ∷ paths) tree ≡ missing_from (earlier ++ path ∷ []) paths tree =
      ap (λ b. if not b && (is_none (get_at (parts_of path) tree) || hidden earlier (parts_of path)) then Some path else missing_from (earlier ++ path ∷ []) paths tree) left in
      stays false ∙ all_dropped (earlier ++ path ∷ []) paths tree now (after_left earlier path tree now left after)
      ∙ (λ i. by_missing (sym there i) (sym (stays true) i))
  | inr other ↦
      let unleft : (ignore : Bool) → fields_dropped ignore (path ∷ paths) now ≡ and_then (if is_some (get_at (parts_of path) now) then Done (remove_at (parts_of path) now)
      else if ignore then Done now else Failed (codes "drop_fields: no field " ++ path)) (λ t. fields_dropped ignore paths t) =
      λ ignore. ap (λ b. and_then (if b then Done now
      else if is_some (get_at (parts_of path) now) then Done (remove_at (parts_of path) now)
      else if ignore then Done now else Failed (codes "drop_fields: no field " ++ path)) (λ t. fields_dropped ignore paths t)) other in
      elim (cases_Bool (is_some (get_at (parts_of path) now))) [
        | inl is ↦
            let goes : (ignore : Bool) → fields_dropped ignore (path ∷ paths) now ≡ fields_dropped ignore paths (remove_at (parts_of path) now) =
            λ ignore. unleft ignore ∙ ap (λ b. and_then (if b then Done (remove_at (parts_of path) now)
            else if ignore then Done now else Failed (codes "drop_fields: no field " ++ path)) (λ t. fields_dropped ignore paths t)) is in
            let there : missing_from earlier (path ∷ paths) tree ≡ missing_from (earlier ++ path ∷ []) paths tree =
            ap (λ b. if b then Some path else missing_from (earlier ++ path ∷ []) paths tree) (missing_is earlier path tree now true other after is) in
            goes false ∙ all_dropped (earlier ++ path ∷ []) paths tree (remove_at (parts_of path) now) (after_removal earlier path tree now other after)
            ∙ (λ i. by_missing (sym there i) (sym (goes true) i))
        | inr is ↦
            let there : missing_from earlier (path ∷ paths) tree ≡ Some path =
            ap (λ b. if b then Some path else missing_from (earlier ++ path ∷ []) paths tree) (missing_is earlier path tree now false other after is) in
            unleft false ∙ ap (λ b. and_then (if b then Done (remove_at (parts_of path) now)
            else Failed (codes "drop_fields: no field " ++ path)) (λ t. fields_dropped false paths t)) is
            ∙ ap (λ o. by_missing o (fields_dropped true (path ∷ paths) now)) (sym there)
      ]
]

pub misses_one : (ignore : Bool) (paths : List (List ℕ)) (tree : TreeValue) (path text : List ℕ) → ignore ≡ false → missing_of paths tree ≡ Some path →
    text ≡ codes "drop_fields: no field " ++ path → with_error text tree ≡ settled tree (fields_dropped ignore paths tree)
misses_one ignore paths tree path text is there told =
    ap (λ t. with_error t tree) told
    ∙ ap (settled tree) (ap (λ o. by_missing o (fields_dropped true paths tree)) (sym there) ∙ sym (all_dropped [] paths tree tree (at_first tree)) ∙ ap (λ b. fields_dropped b paths tree) (sym is))

pub misses_none : (ignore : Bool) (paths : List (List ℕ)) (tree after : TreeValue) → ignore ≡ false → missing_of paths tree ≡ None →
    fields_dropped true paths tree ≡ Done after → after ≡ settled tree (fields_dropped ignore paths tree)
misses_none ignore paths tree after is there removed =
    ap (settled tree) (sym removed ∙ ap (λ o. by_missing o (fields_dropped true paths tree)) (sym there) ∙ sym (all_dropped [] paths tree tree (at_first tree)) ∙ ap (λ b. fields_dropped b paths tree) (sym is))

pub ignores_all : (ignore : Bool) (paths : List (List ℕ)) (tree after : TreeValue) → ignore ≡ true →
    fields_dropped true paths tree ≡ Done after → after ≡ settled tree (fields_dropped ignore paths tree)
ignores_all ignore paths tree after is removed = ap (settled tree) (sym removed ∙ ap (λ b. fields_dropped b paths tree) (sym is))

-- ---- one removal

pub removed : (path : List ℕ) (taken : Option Tree) (tree after : TreeValue) → is_left path ≡ false → option_map value_of taken ≡ get_at (parts_of path) tree →
    after ≡ remove_at (parts_of path) tree → IfNone taken (after ≡ tree) → field_dropped true path tree ≡ Done after
removed path None tree after left is removal same =
    ap (λ b. if b then Done tree else if is_some (get_at (parts_of path) tree) then Done (remove_at (parts_of path) tree) else Done tree) left
    ∙ ap (λ o. if is_some o then Done (remove_at (parts_of path) tree) else Done tree) (sym is) ∙ ap Done (sym same)
removed path (Some value) tree after left is removal same =
    ap (λ b. if b then Done tree else if is_some (get_at (parts_of path) tree) then Done (remove_at (parts_of path) tree) else Done tree) left
    ∙ ap (λ o. if is_some o then Done (remove_at (parts_of path) tree) else Done tree) (sym is) ∙ ap Done (sym removal)

pub stays : (path : List ℕ) (tree : TreeValue) → is_left path ≡ true → field_dropped true path tree ≡ Done tree
stays path tree left = ap (λ b. if b then Done tree else if is_some (get_at (parts_of path) tree) then Done (remove_at (parts_of path) tree) else Done tree) left

-- ---- steps over the paths

module _ (paths : List (List ℕ)) (i : ℕ) (path : List ℕ) (inside : i < length paths) (at : path ≡ get_or paths i path) where
  rest : drop i paths ≡ path ∷ drop (i + 1) paths
  rest = drop_more paths i path inside ∙ ap (λ p. p ∷ drop (i + 1) paths) (sym at)

  front : take (i + 1) paths ≡ take i paths ++ path ∷ []
  front = take_more paths i path inside ∙ ap (λ p. take i paths ++ p ∷ []) (sym at)

  pub drop_step : (tree after : TreeValue) → field_dropped true path tree ≡ Done after → (whole : Attempt) → fields_dropped true (drop i paths) tree ≡ whole →
      fields_dropped true (drop (i + 1) paths) after ≡ whole
  drop_step tree after done whole so_far =
      sym (ap (λ l. fields_dropped true l tree) rest ∙ ap (λ a. and_then a (λ t. fields_dropped true (drop (i + 1) paths) t)) done) ∙ so_far

  pub finds_missing : (tree : TreeValue) → is_missing (take i paths) path tree ≡ true → (whole : Option (List ℕ)) → missing_from (take i paths) (drop i paths) tree ≡ whole → Some path ≡ whole
  finds_missing tree is whole so_far =
      sym (ap (λ l. missing_from (take i paths) l tree) rest
      ∙ ap (λ b. if b then Some path else missing_from (take i paths ++ path ∷ []) (drop (i + 1) paths) tree) is) ∙ so_far

  pub finds_none : (tree : TreeValue) → is_missing (take i paths) path tree ≡ false → (whole : Option (List ℕ)) → missing_from (take i paths) (drop i paths) tree ≡ whole →
      missing_from (take (i + 1) paths) (drop (i + 1) paths) tree ≡ whole
  finds_none tree is whole so_far =
      ap (λ l. missing_from l (drop (i + 1) paths) tree) front
      ∙ sym (ap (λ l. missing_from (take i paths) l tree) rest
      ∙ ap (λ b. if b then Some path else missing_from (take i paths ++ path ∷ []) (drop (i + 1) paths) tree) is) ∙ so_far

pub drop_end : (paths : List (List ℕ)) (i : ℕ) (tree : TreeValue) → length paths ≤ i → (whole : Attempt) → fields_dropped true (drop i paths) tree ≡ whole → whole ≡ Done tree
drop_end paths i tree past whole so_far = sym so_far ∙ ap (λ l. fields_dropped true l tree) (drop_all i paths past)

pub missing_end : (paths : List (List ℕ)) (i : ℕ) (tree : TreeValue) → length paths ≤ i → (whole : Option (List ℕ)) → missing_from (take i paths) (drop i paths) tree ≡ whole → None ≡ whole
missing_end paths i tree past whole so_far = sym (ap (λ l. missing_from (take i paths) l tree) (drop_all i paths past)) ∙ so_far
