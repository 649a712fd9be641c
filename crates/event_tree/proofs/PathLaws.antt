-- What is at each path after a put or a removal.
use Rattle.std.proofs.Common.{◌≡◌, ◌≢◌, ℕ, suc, ◌<◌, length, arith, List, [], ◌∷◌, Option, Some, None, option_map, refl, sym, ap, ◌∙◌, subst}
use Rattle.std.specs.Prelude.{option_and_then, unwrap_or}
use Rattle.std.specs.Option.{option_map_or}
use Rattle.std.specs.declared.cmp.Ordering.{Ordering}
use Rattle.std.specs.declared.cmp.Ordering.TheVariants.{Less, Equal, Greater}
use Rattle.event_tree.specs.Value.{TreeValue, null, flag, int, str, list, fields, FieldList, pairs_in}
use Rattle.wire_base.specs.KeyOrder.{compare}
use Rattle.wire_base.proofs.ByteOrder.{same_key, compare_same}
use Rattle.event_tree.specs.Keys.{find, set_field, unset_field}
use Rattle.event_tree.specs.Paths.{Parts, fields_in, map_of, member_at, get_at, put_at, with_fields, with_member, remove_at, blocked_at, blocked_by, IsApart}
use Rattle.event_tree.proofs.Edits.{find-set, find-set_not, find-unset, find-unset_not}
use Rattle.event_tree.proofs.Steps.{pairs_back, get_at-map}

-- ---- a put

pub get_put : (path : Parts) (new v : TreeValue) → get_at path (put_at path new v) ≡ Some new
get_put [] new v = refl
get_put (part ∷ parts) new v =
    get_at-map part parts _ ∙ ap (option_and_then (get_at parts)) (find-set part _ (unwrap_or (fields_in v) [])) ∙ get_put parts new _

-- two keys are the same, or differ
by_key : {G : Type 0} (a b : List ℕ) → (a ≡ b → G) → (a ≢ b → G) → G
by_key {G} a b same differs = by_case (compare a b) refl
  where
    by_case : (o : Ordering) → compare a b ≡ o → G
    by_case Less e = differs (λ same. let q : Less ≡ Equal = sym e ∙ compare_same a b same in cc)
    by_case Equal e = same (same_key a b e)
    by_case Greater e = differs (λ same. let q : Greater ≡ Equal = sym e ∙ compare_same a b same in cc)

find_in : (key : List ℕ) (o : Option FieldList) → find key (unwrap_or o []) ≡ option_and_then (find key) o
find_in key None = refl
find_in key (Some ps) = refl

get_missing : (path other : Parts) → IsApart path other → (o : Option TreeValue) → get_at other (unwrap_or o (map_of [])) ≡ option_and_then (get_at other) o
get_missing path other apart (Some v) = refl
get_missing [] other apart None = absurd apart
get_missing (part ∷ path) [] apart None = absurd apart
get_missing (part ∷ path) (first ∷ other) apart None = refl

pub get_put_apart : (path other : Parts) → IsApart path other → (new v : TreeValue) → get_at other (put_at path new v) ≡ get_at other v
get_put_apart [] other apart new v = absurd apart
get_put_apart (part ∷ path) [] apart new v = absurd apart
get_put_apart (part ∷ path) (first ∷ other) apart new v =
    get_at-map first other _ ∙ by_key first part (same (get_put_apart path other)) differs
  where
    below : TreeValue
    below = put_at path new (unwrap_or (member_at part v) (map_of []))

    same : (IsApart path other → (new v : TreeValue) → get_at other (put_at path new v) ≡ get_at other v) → first ≡ part → option_and_then (get_at other) (find first (set_field part (put_at path new (unwrap_or (member_at part v) (map_of []))) (unwrap_or (fields_in v) []))) ≡ get_at (first ∷ other) v
    same rest e =
        let apart_below = apart (sym e) in
        subst (λ k. option_and_then (get_at other) (find k (set_field part (put_at path new (unwrap_or (member_at part v) (map_of []))) (unwrap_or (fields_in v) []))) ≡ get_at (k ∷ other) v) (sym e)
        (ap (option_and_then (get_at other)) (find-set part _ _) ∙ rest apart_below new _ ∙ get_missing path other apart_below (member_at part v))

    differs : first ≢ part → option_and_then (get_at other) (find first (set_field part (put_at path new (unwrap_or (member_at part v) (map_of []))) (unwrap_or (fields_in v) []))) ≡ get_at (first ∷ other) v
    differs e = ap (option_and_then (get_at other)) (find-set_not part first _ _ e ∙ find_in first (fields_in v))

-- ---- a removal

pub fields_in-with : (f : FieldList → FieldList) (v : TreeValue) → fields_in (with_fields f v) ≡ option_map f (fields_in v)
fields_in-with f null = refl
fields_in-with f (flag b) = refl
fields_in-with f (int n) = refl
fields_in-with f (str s) = refl
fields_in-with f (list vs) = refl
fields_in-with f (fields ms) = ap Some (pairs_back (f (pairs_in ms)))

get_with : (f : FieldList → FieldList) (first : List ℕ) (other : Parts) (v : TreeValue) → get_at (first ∷ other) (with_fields f v) ≡ option_and_then (get_at other) (option_and_then (find first) (option_map f (fields_in v)))
get_with f first other v = ap (λ o. option_and_then (get_at other) (option_and_then (find first) o)) (fields_in-with f v)

-- what another key has
find_with_other : (key other : List ℕ) (f : TreeValue → TreeValue) (ps : FieldList) → other ≢ key → find other (with_member key f ps) ≡ find other ps
find_with_other key other f ps differs = by_case (find key ps)
  where
    by_case : (o : Option TreeValue) → find other (option_map_or (λ v. set_field key (f v) ps) o ps) ≡ find other ps
    by_case None = refl
    by_case (Some v) = find-set_not key other (f v) ps differs

-- what the key has
find_with : (key : List ℕ) (f : TreeValue → TreeValue) (ps : FieldList) → find key (with_member key f ps) ≡ option_map f (find key ps)
find_with key f ps = by_case (find key ps) refl
  where
    by_case : (o : Option TreeValue) → find key ps ≡ o → find key (option_map_or (λ v. set_field key (f v) ps) o ps) ≡ option_map f o
    by_case None e = e
    by_case (Some v) e = find-set key (f v) ps

pub get_removed : (part : List ℕ) (path : Parts) (v : TreeValue) → get_at (part ∷ path) (remove_at (part ∷ path) v) ≡ None
get_removed part [] v = get_with (unset_field part) part [] v ∙ by_case (fields_in v)
  where
    by_case : (o : Option FieldList) → option_and_then (get_at []) (option_and_then (find part) (option_map (unset_field part) o)) ≡ None
    by_case None = refl
    by_case (Some ps) = ap (option_and_then (get_at [])) (find-unset part ps)
get_removed part (next ∷ path) v = get_with (with_member part (remove_at (next ∷ path))) part (next ∷ path) v ∙ by_case (get_removed next path) (fields_in v)
  where
    at_child : ((v : TreeValue) → get_at (next ∷ path) (remove_at (next ∷ path) v) ≡ None) → (o : Option TreeValue) → option_and_then (get_at (next ∷ path)) (option_map (remove_at (next ∷ path)) o) ≡ None
    at_child rest None = refl
    at_child rest (Some v) = rest v

    by_case : ((v : TreeValue) → get_at (next ∷ path) (remove_at (next ∷ path) v) ≡ None) → (o : Option FieldList) → option_and_then (get_at (next ∷ path)) (option_and_then (find part) (option_map (with_member part (remove_at (next ∷ path))) o)) ≡ None
    by_case rest None = refl
    by_case rest (Some ps) = ap (option_and_then (get_at (next ∷ path))) (find_with part (remove_at (next ∷ path)) ps) ∙ at_child rest (find part ps)

pub get_remove_apart : (path other : Parts) → IsApart path other → (v : TreeValue) → get_at other (remove_at path v) ≡ get_at other v
get_remove_apart [] other apart v = absurd apart
get_remove_apart (part ∷ path) [] apart v = absurd apart
get_remove_apart (part ∷ []) (first ∷ other) apart v = get_with (unset_field part) first other v ∙ by_case (fields_in v)
  where
    by_case : (o : Option FieldList) → option_and_then (get_at other) (option_and_then (find first) (option_map (unset_field part) o)) ≡ option_and_then (get_at other) (option_and_then (find first) o)
    by_case None = refl
    by_case (Some ps) = by_key first part (λ e. absurd (apart (sym e))) (λ e. ap (option_and_then (get_at other)) (find-unset_not part first ps e))
get_remove_apart (part ∷ next ∷ path) (first ∷ other) apart v =
    get_with (with_member part (remove_at (next ∷ path))) first other v ∙ by_case (get_remove_apart (next ∷ path) other) (fields_in v)
  where
    Rest : Type 0
    Rest = IsApart (next ∷ path) other → (v : TreeValue) → get_at other (remove_at (next ∷ path) v) ≡ get_at other v

    at_child : (IsApart (next ∷ path) other → (v : TreeValue) → get_at other (remove_at (next ∷ path) v) ≡ get_at other v) → IsApart (next ∷ path) other → (o : Option TreeValue) → option_and_then (get_at other) (option_map (remove_at (next ∷ path)) o) ≡ option_and_then (get_at other) o
    at_child rest below None = refl
    at_child rest below (Some v) = rest below v

    by_case : (IsApart (next ∷ path) other → (v : TreeValue) → get_at other (remove_at (next ∷ path) v) ≡ get_at other v) → (o : Option FieldList) → option_and_then (get_at other) (option_and_then (find first) (option_map (with_member part (remove_at (next ∷ path))) o)) ≡ option_and_then (get_at other) (option_and_then (find first) o)
    by_case rest None = refl
    by_case rest (Some ps) = by_key first part
        (λ e. subst (λ k. option_and_then (get_at other) (find k (with_member part (remove_at (next ∷ path)) ps)) ≡ option_and_then (get_at other) (find k ps)) (sym e)
        (ap (option_and_then (get_at other)) (find_with part (remove_at (next ∷ path)) ps) ∙ at_child rest (apart (sym e)) (find part ps)))
        (λ e. ap (option_and_then (get_at other)) (find_with_other part first (remove_at (next ∷ path)) ps e))

-- a way that is free stays free where something is taken out of the tree
pub free_after_remove : (to from : Parts) (v : TreeValue) → blocked_at to v ≡ None → blocked_at to (remove_at from v) ≡ None
free_after_remove [] from v free = refl
free_after_remove (first ∷ to) [] v free = free
free_after_remove (first ∷ to) (part ∷ []) v free =
    ap (λ o. blocked_by (option_map (find first) o) (blocked_at to)) (fields_in-with (unset_field part) v) ∙ by_case (fields_in v) free
  where
    by_case : (o : Option FieldList) → blocked_by (option_map (find first) o) (blocked_at to) ≡ None → blocked_by (option_map (find first) (option_map (unset_field part) o)) (blocked_at to) ≡ None
    by_case None e = e
    by_case (Some ps) e = by_key first part
        (λ same. subst (λ k. blocked_by (Some (find k (unset_field part ps))) (blocked_at to) ≡ None) (sym same) (ap (λ f. blocked_by (Some f) (blocked_at to)) (find-unset part ps)))
        (λ differs. ap (λ f. blocked_by (Some f) (blocked_at to)) (find-unset_not part first ps differs) ∙ e)
free_after_remove (first ∷ to) (part ∷ next ∷ from) v free =
    ap (λ o. blocked_by (option_map (find first) o) (blocked_at to)) (fields_in-with (with_member part (remove_at (next ∷ from))) v) ∙ by_case (free_after_remove to (next ∷ from)) (fields_in v) free
  where
    none_later : (o : Option ℕ) → option_map suc o ≡ None → o ≡ None
    none_later None e = refl
    none_later (Some n) e = absurd (let q : Some (suc n) ≡ None = e in cc)

    at_child : ((v : TreeValue) → blocked_at to v ≡ None → blocked_at to (remove_at (next ∷ from) v) ≡ None) → (o : Option TreeValue) → blocked_by (Some o) (blocked_at to) ≡ None → blocked_by (Some (option_map (remove_at (next ∷ from)) o)) (blocked_at to) ≡ None
    at_child rest None e = refl
    at_child rest (Some w) e = ap (option_map suc) (rest w (none_later (blocked_at to w) e))

    by_case : ((v : TreeValue) → blocked_at to v ≡ None → blocked_at to (remove_at (next ∷ from) v) ≡ None) → (o : Option FieldList) → blocked_by (option_map (find first) o) (blocked_at to) ≡ None → blocked_by (option_map (find first) (option_map (with_member part (remove_at (next ∷ from))) o)) (blocked_at to) ≡ None
    by_case rest None e = e
    by_case rest (Some ps) e = by_key first part
        (λ same. subst (λ k. blocked_by (Some (find k (with_member part (remove_at (next ∷ from)) ps))) (blocked_at to) ≡ None) (sym same)
        (ap (λ f. blocked_by (Some f) (blocked_at to)) (find_with part (remove_at (next ∷ from)) ps) ∙ at_child rest (find part ps) (subst (λ k. blocked_by (Some (find k ps)) (blocked_at to) ≡ None) same e)))
        (λ differs. ap (λ f. blocked_by (Some f) (blocked_at to)) (find_with_other part first (remove_at (next ∷ from)) ps differs) ∙ e)

-- a path with a part leads nowhere once what is there is taken out
pub gone_after_remove : (path : Parts) (v : TreeValue) → 0 < length path → get_at path (remove_at path v) ≡ None
gone_after_remove [] v some = absurd (omega arith)
gone_after_remove (part ∷ path) v some = get_removed part path v
