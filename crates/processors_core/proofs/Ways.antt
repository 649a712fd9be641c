-- What is at a path after an edit of a tree.
use Rattle.std.proofs.Common.{◌≡◌, ◌≢◌, ℕ, suc, ◌+◌, ◌<◌, Bool, true, false, not, ◌&&◌, List, [], ◌∷◌, ◌++◌, length, get_or, drop, Option, Some, None, option_map, is_some, bytes_eq, inl, inr, refl, sym, ap, subst, ◌∙◌}
use Rattle.std.specs.Option.{option_map_or}
use Rattle.std.specs.Prelude.{option_and_then, unwrap_or}
use Rattle.std.proofs.lemmas.Bool.{cases_Bool, both_ways, and_right}
use Rattle.std.proofs.lemmas.List.{drop_more}
use Rattle.std.proofs.lemmas.Slice.Eq.{bytes_eq-Decides}
use Rattle.event_tree.specs.Keys.{find, set_field, unset_field}
use Rattle.event_tree.specs.Paths.{Parts, fields_in, map_of, member_at, get_at, put_at, with_fields, with_member, remove_at, blocked_at, blocked_by}
use Rattle.event_tree.specs.Tree.{value_of}
use Rattle.event_tree.specs.Value.{TreeValue, null, flag, int, str, list, fields, FieldList, pairs_in, as_members}
use Rattle.event_tree.specs.declared.tree.Tree.{Tree}
use Rattle.event_tree.specs.declared.tree.Tree.TheVariants.{Map}
use Rattle.processors_core.specs.Missing.{is_front}
use Rattle.processors_core.proofs.Keys.{find-set, find-set_not, find-unset, find-unset_not, set-set}

-- ---- maps

pub pairs_back : (ps : FieldList) → pairs_in (as_members ps) ≡ ps
pairs_back [] = refl
pairs_back (p ∷ ps) = ap (λ (t : FieldList). p ∷ t) (pairs_back ps)

-- the fields of what is there, none if nothing is
abbrev pub fields_or_none : Option TreeValue → FieldList
fields_or_none None = []
fields_or_none (Some v) = unwrap_or (fields_in v) []

-- ---- a put

pub get_put : (path : Parts) (new v : TreeValue) → get_at path (put_at path new v) ≡ Some new
get_put [] new v = refl
get_put (part ∷ parts) new v =
    ap (λ q. option_and_then (get_at parts) (find part q)) (pairs_back _) ∙ ap (option_and_then (get_at parts)) (find-set part _ (unwrap_or (fields_in v) [])) ∙ get_put parts new _

-- what is put later is kept
pub put_put : (path : Parts) (old new v : TreeValue) → put_at path new (put_at path old v) ≡ put_at path new v
put_put [] old new v = refl
put_put (part ∷ parts) old new v =
    ap (λ q. map_of (set_field part (put_at parts new (unwrap_or (find part q) (map_of []))) q)) (pairs_back _)
    ∙ ap (λ o. map_of (set_field part (put_at parts new (unwrap_or o (map_of []))) (set_field part (put_at parts old below) here))) (find-set part _ here)
    ∙ ap (λ w. map_of (set_field part w (set_field part (put_at parts old below) here))) (put_put parts old new below)
    ∙ ap map_of (set-set part _ _ here)
  where
    here : FieldList
    here = unwrap_or (fields_in v) []

    below : TreeValue
    below = unwrap_or (member_at part v) (map_of [])

-- one more part: the fields of what is there, with the key
pub put_last : (path : Parts) (key : List ℕ) (new v : TreeValue) → put_at (path ++ key ∷ []) new v ≡ put_at path (map_of (set_field key new (fields_or_none (get_at path v)))) v
put_last [] key new v = refl
put_last (part ∷ parts) key new v =
    ap (λ w. map_of (set_field part w (unwrap_or (fields_in v) []))) (put_last parts key new (unwrap_or (member_at part v) (map_of [])) ∙ by_case (member_at part v))
  where
    none_in : (parts : Parts) → fields_or_none (get_at parts (map_of [])) ≡ []
    none_in [] = refl
    none_in (first ∷ later) = refl

    by_case : (o : Option TreeValue) → put_at parts (map_of (set_field key new (fields_or_none (get_at parts (unwrap_or o (map_of [])))))) (unwrap_or o (map_of []))
        ≡ put_at parts (map_of (set_field key new (fields_or_none (option_and_then (get_at parts) o)))) (unwrap_or o (map_of []))
    by_case None = ap (λ fs. put_at parts (map_of (set_field key new fs)) (map_of [])) (none_in parts)
    by_case (Some w) = refl

-- what is at one more part
pub get_last : (path : Parts) (key : List ℕ) (v : TreeValue) → get_at (path ++ key ∷ []) v ≡ find key (fields_or_none (get_at path v))
get_last [] key v = by_case (fields_in v)
  where
    same : (o : Option TreeValue) → option_and_then (get_at []) o ≡ o
    same None = refl
    same (Some w) = refl

    by_case : (o : Option FieldList) → option_and_then (get_at []) (option_and_then (find key) o) ≡ find key (unwrap_or o [])
    by_case None = refl
    by_case (Some ps) = same (find key ps)
get_last (part ∷ parts) key v = by_case (λ w. get_last parts key w) (member_at part v)
  where
    by_case : ((w : TreeValue) → get_at (parts ++ key ∷ []) w ≡ find key (fields_or_none (get_at parts w))) → (o : Option TreeValue) →
        option_and_then (get_at (parts ++ key ∷ [])) o ≡ find key (fields_or_none (option_and_then (get_at parts) o))
    by_case later None = refl
    by_case later (Some w) = later w

-- ---- a removal

fields_in-with : (f : FieldList → FieldList) (v : TreeValue) → fields_in (with_fields f v) ≡ option_map f (fields_in v)
fields_in-with f null = refl
fields_in-with f (flag b) = refl
fields_in-with f (int n) = refl
fields_in-with f (str s) = refl
fields_in-with f (list vs) = refl
fields_in-with f (fields ms) = ap Some (pairs_back (f (pairs_in ms)))

get_with : (f : FieldList → FieldList) (first : List ℕ) (other : Parts) (v : TreeValue) → get_at (first ∷ other) (with_fields f v) ≡ option_and_then (get_at other) (option_and_then (find first) (option_map f (fields_in v)))
get_with f first other v = ap (λ o. option_and_then (get_at other) (option_and_then (find first) o)) (fields_in-with f v)

find_with : (key : List ℕ) (f : TreeValue → TreeValue) (ps : FieldList) → find key (with_member key f ps) ≡ option_map f (find key ps)
find_with key f ps = by_case (find key ps) refl
  where
    by_case : (o : Option TreeValue) → find key ps ≡ o → find key (option_map_or (λ v. set_field key (f v) ps) o ps) ≡ option_map f o
    by_case None e = e
    by_case (Some v) e = find-set key (f v) ps

find_with_other : (key other : List ℕ) (f : TreeValue → TreeValue) (ps : FieldList) → other ≢ key → find other (with_member key f ps) ≡ find other ps
find_with_other key other f ps differs = by_case (find key ps)
  where
    by_case : (o : Option TreeValue) → find other (option_map_or (λ v. set_field key (f v) ps) o ps) ≡ find other ps
    by_case None = refl
    by_case (Some v) = find-set_not key other (f v) ps differs

apart : (part first : List ℕ) → bytes_eq part first ≡ false → first ≢ part
apart part first is same = both_ways (bytes_eq part first) is ((bytes_eq-Decides part first).1 (sym same))

and_true : (b : Bool) → b ≡ (b && true)
and_true true = refl
and_true false = refl

-- after a removal something is where it was, but below the path
pub kept_unless_below : (part : List ℕ) (path other : Parts) (v : TreeValue) →
    is_some (get_at other (remove_at (part ∷ path) v)) ≡ (is_some (get_at other v) && not (is_front (part ∷ path) other))
kept_unless_below part path [] v = refl
kept_unless_below part [] (first ∷ other) v = ap is_some (get_with (unset_field part) first other v) ∙ by_case (fields_in v)
  where
    by_case : (o : Option FieldList) → is_some (option_and_then (get_at other) (option_and_then (find first) (option_map (unset_field part) o)))
        ≡ (is_some (option_and_then (get_at other) (option_and_then (find first) o)) && not (bytes_eq part first && true))
    by_case None = refl
    by_case (Some ps) = elim (cases_Bool (bytes_eq part first)) [
      | inl is ↦
          let gone : is_some (option_and_then (get_at other) (find first (unset_field part ps))) ≡ false =
          subst (λ k. is_some (option_and_then (get_at other) (find k (unset_field part ps))) ≡ false) ((bytes_eq-Decides part first).0 is)
          (ap (λ o. is_some (option_and_then (get_at other) o)) (find-unset part ps)) in
          gone ∙ sym (ap (λ b. is_some (option_and_then (get_at other) (find first ps)) && not (b && true)) is ∙ and_right _ false refl)
      | inr is ↦
          ap (λ o. is_some (option_and_then (get_at other) o)) (find-unset_not part first ps (apart part first is))
          ∙ and_true _ ∙ sym (ap (λ b. is_some (option_and_then (get_at other) (find first ps)) && not (b && true)) is)
    ]
kept_unless_below part (next ∷ path) (first ∷ other) v =
    ap is_some (get_with (with_member part (remove_at (next ∷ path))) first other v) ∙ by_case (λ w. kept_unless_below next path other w) (fields_in v)
  where
    at_child : ((w : TreeValue) → is_some (get_at other (remove_at (next ∷ path) w)) ≡ (is_some (get_at other w) && not (is_front (next ∷ path) other))) → (o : Option TreeValue) →
        is_some (option_and_then (get_at other) (option_map (remove_at (next ∷ path)) o)) ≡ (is_some (option_and_then (get_at other) o) && not (is_front (next ∷ path) other))
    at_child later None = refl
    at_child later (Some w) = later w

    by_case : ((w : TreeValue) → is_some (get_at other (remove_at (next ∷ path) w)) ≡ (is_some (get_at other w) && not (is_front (next ∷ path) other))) → (o : Option FieldList) →
        is_some (option_and_then (get_at other) (option_and_then (find first) (option_map (with_member part (remove_at (next ∷ path))) o)))
        ≡ (is_some (option_and_then (get_at other) (option_and_then (find first) o)) && not (bytes_eq part first && is_front (next ∷ path) other))
    by_case later None = refl
    by_case later (Some ps) = elim (cases_Bool (bytes_eq part first)) [
      | inl is ↦
          subst (λ k. is_some (option_and_then (get_at other) (find k (with_member part (remove_at (next ∷ path)) ps))) ≡ (is_some (option_and_then (get_at other) (find k ps)) && not (is_front (next ∷ path) other)))
          ((bytes_eq-Decides part first).0 is)
          (ap (λ o. is_some (option_and_then (get_at other) o)) (find_with part (remove_at (next ∷ path)) ps) ∙ at_child later (find part ps))
          ∙ sym (ap (λ b. is_some (option_and_then (get_at other) (find first ps)) && not (b && is_front (next ∷ path) other)) is)
      | inr is ↦
          ap (λ o. is_some (option_and_then (get_at other) o)) (find_with_other part first (remove_at (next ∷ path)) ps (apart part first is))
          ∙ and_true _ ∙ sym (ap (λ b. is_some (option_and_then (get_at other) (find first ps)) && not (b && is_front (next ∷ path) other)) is)
    ]

-- a way that is free stays free where something is taken out of the tree
pub free_after_remove : (to from : Parts) (v : TreeValue) → blocked_at to v ≡ None → blocked_at to (remove_at from v) ≡ None
free_after_remove [] from v free = refl
free_after_remove (first ∷ to) [] v free = free
free_after_remove (first ∷ to) (part ∷ []) v free =
    ap (λ o. blocked_by (option_map (find first) o) (blocked_at to)) (fields_in-with (unset_field part) v) ∙ by_case (fields_in v) free
  where
    by_case : (o : Option FieldList) → blocked_by (option_map (find first) o) (blocked_at to) ≡ None → blocked_by (option_map (find first) (option_map (unset_field part) o)) (blocked_at to) ≡ None
    by_case None e = e
    by_case (Some ps) e = elim (cases_Bool (bytes_eq part first)) [
      | inl is ↦ subst (λ k. blocked_by (Some (find k (unset_field part ps))) (blocked_at to) ≡ None) ((bytes_eq-Decides part first).0 is) (ap (λ f. blocked_by (Some f) (blocked_at to)) (find-unset part ps))
      | inr is ↦ ap (λ f. blocked_by (Some f) (blocked_at to)) (find-unset_not part first ps (apart part first is)) ∙ e
    ]
free_after_remove (first ∷ to) (part ∷ next ∷ from) v free =
    ap (λ o. blocked_by (option_map (find first) o) (blocked_at to)) (fields_in-with (with_member part (remove_at (next ∷ from))) v) ∙ by_case (λ w free_below. free_after_remove to (next ∷ from) w free_below) (fields_in v) free
  where
    none_later : (o : Option ℕ) → option_map suc o ≡ None → o ≡ None
    none_later None e = refl
    none_later (Some n) e = absurd (let q : Some (suc n) ≡ None = e in cc)

    at_child : ((v : TreeValue) → blocked_at to v ≡ None → blocked_at to (remove_at (next ∷ from) v) ≡ None) → (o : Option TreeValue) → blocked_by (Some o) (blocked_at to) ≡ None → blocked_by (Some (option_map (remove_at (next ∷ from)) o)) (blocked_at to) ≡ None
    at_child rest None e = refl
    at_child rest (Some w) e = ap (option_map suc) (rest w (none_later (blocked_at to w) e))

    by_case : ((v : TreeValue) → blocked_at to v ≡ None → blocked_at to (remove_at (next ∷ from) v) ≡ None) → (o : Option FieldList) → blocked_by (option_map (find first) o) (blocked_at to) ≡ None → blocked_by (option_map (find first) (option_map (with_member part (remove_at (next ∷ from))) o)) (blocked_at to) ≡ None
    by_case rest None e = e
    by_case rest (Some ps) e = elim (cases_Bool (bytes_eq part first)) [
      | inl is ↦
          let same = (bytes_eq-Decides part first).0 is in
          subst (λ k. blocked_by (Some (find k (with_member part (remove_at (next ∷ from)) ps))) (blocked_at to) ≡ None) same
          (ap (λ f. blocked_by (Some f) (blocked_at to)) (find_with part (remove_at (next ∷ from)) ps) ∙ at_child rest (find part ps) (subst (λ k. blocked_by (Some (find k ps)) (blocked_at to) ≡ None) (sym same) e))
      | inr is ↦ ap (λ f. blocked_by (Some f) (blocked_at to)) (find_with_other part first (remove_at (next ∷ from)) ps (apart part first is)) ∙ e
    ]

-- ---- one step down a path, at a tree of the program

module _ (parts : Parts) (i : ℕ) (part : List ℕ) (inside : i < length parts) (is : part ≡ get_or parts i part) (here : Tree) (inner : FieldList) (map_is : here ≡ Map inner) where
  rest : drop i parts ≡ part ∷ drop (i + 1) parts
  rest = drop_more parts i part inside ∙ ap (λ p. p ∷ drop (i + 1) parts) (sym is)

  step : blocked_at (drop i parts) (value_of here) ≡ blocked_by (Some (find part inner)) (blocked_at (drop (i + 1) parts))
  step = rw (rest, map_is) (ap (λ q. blocked_by (Some (find part q)) (blocked_at (drop (i + 1) parts))) (pairs_back inner))

  -- the part is absent
  pub way_ends : find part inner ≡ None → (whole : Bool) → is_some (blocked_at (drop i parts) (value_of here)) ≡ whole → false ≡ whole
  way_ends lacks whole so_far = rw (step, lacks) at so_far

  still : (o : Option ℕ) → is_some (option_map suc o) ≡ is_some o
  still None = refl
  still (Some n) = refl

  -- the part is there
  pub way_goes_on : (next : Tree) → find part inner ≡ Some (value_of next) → (whole : Bool) → is_some (blocked_at (drop i parts) (value_of here)) ≡ whole → is_some (blocked_at (drop (i + 1) parts) (value_of next)) ≡ whole
  way_goes_on next has whole so_far = sym (still (blocked_at (drop (i + 1) parts) (value_of next))) ∙ (rw (step, has) at so_far)
