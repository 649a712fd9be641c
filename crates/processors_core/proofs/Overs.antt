-- Fields that are put under a target one by one are the fields of the map there with these put over them.
use Rattle.std.proofs.Common.{◌≡◌, ℕ, zero, suc, ◌+◌, ◌<◌, ◌≤◌, Bool, true, false, ◌&&◌, List, [], ◌∷◌, ◌++◌, length, drop, codes, Option, Some, None, is_none, is_some, bytes_eq, if◌then◌else◌, refl, sym, ap, ◌∙◌, arith, add-one}
use Rattle.std.specs.List.{slice_get}
use Rattle.std.specs.Prelude.{unwrap_or}
use Rattle.std.proofs.lemmas.List.{drop_all}
use Rattle.event_tree.specs.Keys.{find, set_field}
use Rattle.event_tree.specs.Parts.{parts_of, IsNamed}
use Rattle.event_tree.specs.Paths.{Parts, fields_in, map_of, get_at, put_at, blocked_at}
use Rattle.event_tree.specs.Value.{TreeValue, FieldList, as_members}
use Rattle.processors_core.specs.Added.{merged, members_over, with_field, with_fields, target_parts, takes_fields, is_map_if_there, fields_added}
use Rattle.processors_core.specs.Attempt.{Done, Failed}
use Rattle.processors_core.specs.Error.{settled, with_error}
use Rattle.processors_core.specs.Over.{put_over, map_at}
use Rattle.processors_core.proofs.Keys.{find_step}
use Rattle.processors_core.proofs.Ways.{pairs_back, fields_or_none, get_put, put_put, put_last, get_last}

-- ---- members of a map

pub over_members : (pairs old : FieldList) → members_over (as_members pairs) old ≡ put_over pairs old
over_members [] old = refl
over_members (pair ∷ pairs) old = over_members pairs (set_field pair.0 (merged pair.1 (find pair.0 old)) old)

-- a map over a map
pub map_over : (pairs old : FieldList) → map_of (put_over pairs old) ≡ merged (map_of pairs) (Some (map_of old))
map_over pairs old = sym (ap (λ l. map_of (members_over (as_members pairs) l)) (pairs_back old) ∙ ap map_of (over_members pairs old))

-- ---- under a target

fields_of_put : (parts : Parts) (old : FieldList) (tree : TreeValue) → fields_or_none (get_at parts (put_at parts (map_of old) tree)) ≡ old
fields_of_put parts old tree = ap fields_or_none (get_put parts (map_of old) tree) ∙ pairs_back old

one_field : (parts : Parts) (pair : List ℕ × TreeValue) (tree : TreeValue) →
    with_field parts pair tree ≡ put_at parts (map_of (set_field pair.0 (merged pair.1 (find pair.0 (fields_or_none (get_at parts tree)))) (fields_or_none (get_at parts tree)))) tree
one_field parts pair tree =
    ap (λ o. put_at (parts ++ pair.0 ∷ []) (merged pair.1 o) tree) (get_last parts pair.0 tree) ∙ put_last parts pair.0 _ tree

on_a_map : (parts : Parts) (pairs old : FieldList) (tree : TreeValue) → with_fields parts pairs (put_at parts (map_of old) tree) ≡ put_at parts (map_of (put_over pairs old)) tree
on_a_map parts [] old tree = refl
on_a_map parts (pair ∷ pairs) old tree =
    let next : FieldList = set_field pair.0 (merged pair.1 (find pair.0 old)) old in
    ap (with_fields parts pairs) (one_field parts pair (put_at parts (map_of old) tree)
    ∙ ap (λ l. put_at parts (map_of (set_field pair.0 (merged pair.1 (find pair.0 l)) l)) (put_at parts (map_of old) tree)) (fields_of_put parts old tree)
    ∙ put_put parts (map_of old) (map_of next) tree)
    ∙ on_a_map parts pairs next tree

pub some_fields : (parts : Parts) (pairs : FieldList) (tree : TreeValue) → 0 < length pairs →
    with_fields parts pairs tree ≡ put_at parts (map_of (put_over pairs (fields_or_none (get_at parts tree)))) tree
some_fields parts [] tree some = absurd (omega arith)
some_fields parts (pair ∷ pairs) tree some =
    ap (with_fields parts pairs) (one_field parts pair tree) ∙ on_a_map parts pairs _ tree

-- ---- what a processor makes of a tree

pub added_at_top : (pairs old : FieldList) → map_of (put_over pairs old) ≡ settled (map_of old) (fields_added pairs [] (map_of old))
added_at_top pairs old = sym (on_a_map [] pairs old (map_of old))

-- the parts of a target that is a path
pub target_is : (target : List ℕ) → IsNamed (parts_of target) → target_parts target ≡ parts_of target
target_is [] named = absurd (named.named 0 [] (omega arith) refl)
target_is (byte ∷ bytes) named = refl

module _ (pairs : FieldList) (target : List ℕ) (tree : TreeValue) (named : IsNamed (parts_of target)) where
  by_parts : settled tree (fields_added pairs target tree) ≡ settled tree (if takes_fields (parts_of target) tree then Done (with_fields (parts_of target) pairs tree) else Failed (codes "add_fields: no map at " ++ target))
  by_parts = ap (λ p. settled tree (if takes_fields p tree then Done (with_fields p pairs tree) else Failed (codes "add_fields: no map at " ++ target))) (target_is target named)

  refused : takes_fields (parts_of target) tree ≡ false → with_error (codes "add_fields: no map at " ++ target) tree ≡ settled tree (fields_added pairs target tree)
  refused is = sym (by_parts ∙ ap (λ b. settled tree (if b then Done (with_fields (parts_of target) pairs tree) else Failed (codes "add_fields: no map at " ++ target))) is)

  taken : takes_fields (parts_of target) tree ≡ true → with_fields (parts_of target) pairs tree ≡ settled tree (fields_added pairs target tree)
  taken is = sym (by_parts ∙ ap (λ b. settled tree (if b then Done (with_fields (parts_of target) pairs tree) else Failed (codes "add_fields: no map at " ++ target))) is)

  -- a part of the target is in something that is no map
  pub on_no_map_before : true ≡ is_some (blocked_at (parts_of target) tree) → with_error (codes "add_fields: no map at " ++ target) tree ≡ settled tree (fields_added pairs target tree)
  on_no_map_before blocked = refused (by_case (blocked_at (parts_of target) tree) blocked)
    where
      by_case : (o : Option ℕ) → true ≡ is_some o → (is_none o && is_map_if_there (get_at (parts_of target) tree)) ≡ false
      by_case None e = absurd (cc)
      by_case (Some n) e = refl

  -- the target is no map
  pub on_no_map : None ≡ map_at (get_at (parts_of target) tree) → with_error (codes "add_fields: no map at " ++ target) tree ≡ settled tree (fields_added pairs target tree)
  on_no_map none = refused (by_case (get_at (parts_of target) tree) (is_none (blocked_at (parts_of target) tree)) none)
    where
      no_fields : (o : Option FieldList) → None ≡ o → is_some o ≡ false
      no_fields None e = refl
      no_fields (Some l) e = absurd (cc)

      by_case : (found : Option TreeValue) (free : Bool) → None ≡ map_at found → (free && is_map_if_there found) ≡ false
      by_case None free e = absurd (cc)
      by_case (Some v) true e = no_fields (fields_in v) e
      by_case (Some v) false e = refl

  free_map : false ≡ is_some (blocked_at (parts_of target) tree) → (old : FieldList) → Some old ≡ map_at (get_at (parts_of target) tree) → takes_fields (parts_of target) tree ≡ true
  free_map free old is = λ i. free_way (blocked_at (parts_of target) tree) free i && there (get_at (parts_of target) tree) is i
    where
      free_way : (o : Option ℕ) → false ≡ is_some o → is_none o ≡ true
      free_way None e = refl
      free_way (Some n) e = absurd (cc)

      some_map : (o : Option FieldList) → Some old ≡ o → is_some o ≡ true
      some_map None e = absurd (cc)
      some_map (Some l) e = refl

      there : (found : Option TreeValue) → Some old ≡ map_at found → is_map_if_there found ≡ true
      there None e = refl
      there (Some v) e = some_map (fields_in v) e

  old_fields : (old : FieldList) → Some old ≡ map_at (get_at (parts_of target) tree) → fields_or_none (get_at (parts_of target) tree) ≡ old
  old_fields old is = by_case (get_at (parts_of target) tree) is
    where
      of_map : (o : Option FieldList) → Some old ≡ o → unwrap_or o [] ≡ old
      of_map None e = absurd (cc)
      of_map (Some l) e = cc

      by_case : (found : Option TreeValue) → Some old ≡ map_at found → fields_or_none found ≡ old
      by_case None e = cc
      by_case (Some v) e = of_map (fields_in v) e

  pub put_there : false ≡ is_some (blocked_at (parts_of target) tree) → (old : FieldList) → Some old ≡ map_at (get_at (parts_of target) tree) → 0 < length pairs →
      put_at (parts_of target) (map_of (put_over pairs old)) tree ≡ settled tree (fields_added pairs target tree)
  put_there free old is some =
      sym (some_fields (parts_of target) pairs tree some ∙ ap (λ l. put_at (parts_of target) (map_of (put_over pairs l)) tree) (old_fields old is)) ∙ taken (free_map free old is)

  pub none_put : false ≡ is_some (blocked_at (parts_of target) tree) → (old : FieldList) → Some old ≡ map_at (get_at (parts_of target) tree) → length pairs ≡ 0 →
      tree ≡ settled tree (fields_added pairs target tree)
  none_put free old is none = no_pairs pairs none ∙ taken (free_map free old is)
    where
      no_pairs : (l : FieldList) → length l ≡ 0 → tree ≡ with_fields (parts_of target) l tree
      no_pairs [] e = refl
      no_pairs (p ∷ l) e = absurd (omega arith)

pub is_positive : (n m : ℕ) → (n ≡ 0 → ⊥) → n ≡ m → 0 < m
is_positive zero m some same = absurd (some refl)
is_positive (suc n) m some same = omega (arith, same)

-- where the top is no map
pub no_map_on_top : (pairs : FieldList) (tree : TreeValue) → fields_in tree ≡ None → with_error (codes "add_fields: no map at ") tree ≡ settled tree (fields_added pairs [] tree)
no_map_on_top pairs tree none =
    sym (ap (λ o. settled tree (if is_some o then Done (with_fields [] pairs tree) else Failed (codes "add_fields: no map at " ++ []))) none)

-- ---- steps over fields

module _ {X : Type 0} where
  pub drop_got : (xs : List X) (i : ℕ) (x : X) → slice_get xs i ≡ Some x → drop i xs ≡ x ∷ drop (suc i) xs
  drop_got [] i x got = absurd (cc)
  drop_got (y ∷ ys) zero x got = ap (λ z. z ∷ ys) (cc)
  drop_got (y ∷ ys) (suc i) x got = drop_got ys i x got

module _ (key : List ℕ) (pairs : FieldList) (i : ℕ) (name : List ℕ) (value : TreeValue) (got : slice_get pairs i ≡ Some (name, value)) (whole : Option TreeValue) (so_far : find key (drop i pairs) ≡ whole) where
  step : find key (drop i pairs) ≡ (if bytes_eq name key then Some value else find key (drop (suc i) pairs))
  step = ap (find key) (drop_got pairs i (name, value) got) ∙ find_step key name value (drop (suc i) pairs)

  pub found_here : bytes_eq name key ≡ true → Some value ≡ whole
  found_here is = sym (step ∙ ap (λ b. if b then Some value else find key (drop (suc i) pairs)) is) ∙ so_far

  pub found_later : bytes_eq name key ≡ false → find key (drop (i + 1) pairs) ≡ whole
  found_later is =
      ap (λ n. find key (drop n pairs)) (add-one i) ∙ sym (step ∙ ap (λ b. if b then Some value else find key (drop (suc i) pairs)) is) ∙ so_far

pub found_nowhere : (key : List ℕ) (pairs : FieldList) (i : ℕ) (whole : Option TreeValue) → length pairs ≤ i → find key (drop i pairs) ≡ whole → None ≡ whole
found_nowhere key pairs i whole past so_far = sym (ap (find key) (drop_all i pairs past)) ∙ so_far

-- one more member is put over
pub over_step : (pairs : FieldList) (i : ℕ) (name key : List ℕ) (value next : TreeValue) (old after whole : FieldList) → slice_get pairs i ≡ Some (name, value) → key ≡ name →
    next ≡ merged value (find name old) → after ≡ set_field key next old → put_over (drop i pairs) old ≡ whole → put_over (drop (i + 1) pairs) after ≡ whole
over_step pairs i name key value next old after whole got same made is so_far =
    ap (λ n. put_over (drop n pairs) after) (add-one i)
    ∙ ap (put_over (drop (suc i) pairs)) (is ∙ (λ k. set_field (same k) (made k) old))
    ∙ sym (ap (λ l. put_over l old) (drop_got pairs i (name, value) got)) ∙ so_far

pub over_end : (pairs : FieldList) (i : ℕ) (old whole : FieldList) → length pairs ≤ i → put_over (drop i pairs) old ≡ whole → old ≡ whole
over_end pairs i old whole past so_far = sym (ap (λ l. put_over l old) (drop_all i pairs past)) ∙ so_far
