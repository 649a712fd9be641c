-- One step down a path, at a tree of the program.
use Rattle.std.proofs.Common.{◌≡◌, ℕ, suc, ◌+◌, ◌<◌, List, [], ◌∷◌, length, get_or, drop, Option, Some, None, option_map, refl, sym, ap, ◌∙◌, arith}
use Rattle.std.specs.Prelude.{option_and_then}
use Rattle.std.proofs.lemmas.List.{drop_more}
use Rattle.event_tree.specs.Value.{TreeValue, FieldList, pairs_in, as_members}
use Rattle.event_tree.specs.Keys.{find}
use Rattle.event_tree.specs.Paths.{Parts, fields_in, map_of, get_at, blocked_at, blocked_by}
use Rattle.event_tree.specs.Tree.{value_of}
use Rattle.event_tree.specs.declared.tree.Tree.{Tree}
use Rattle.event_tree.specs.declared.tree.Tree.TheVariants.{Map}

pub pairs_back : (ps : FieldList) → pairs_in (as_members ps) ≡ ps
pairs_back [] = refl
pairs_back (p ∷ ps) = ap (λ t. p ∷ t) (pairs_back ps)

pub fields_in_map : (ps : FieldList) → fields_in (map_of ps) ≡ Some ps
fields_in_map ps = ap Some (pairs_back ps)

pub get_at-map : (part : List ℕ) (parts : Parts) (ps : FieldList) → get_at (part ∷ parts) (map_of ps) ≡ option_and_then (get_at parts) (find part ps)
get_at-map part parts ps = ap (λ q. option_and_then (get_at parts) (find part q)) (pairs_back ps)

pub blocked_at-map : (part : List ℕ) (parts : Parts) (ps : FieldList) → blocked_at (part ∷ parts) (map_of ps) ≡ blocked_by (Some (find part ps)) (blocked_at parts)
blocked_at-map part parts ps = ap (λ q. blocked_by (Some (find part q)) (blocked_at parts)) (pairs_back ps)

module _ (parts : Parts) (i : ℕ) (part : List ℕ) (inside : i < length parts) (is : part ≡ get_or parts i part) (here : Tree) (fields : FieldList) (map_is : here ≡ Map fields) where
  rest : drop i parts ≡ part ∷ drop (i + 1) parts
  rest = drop_more parts i part inside ∙ ap (λ p. p ∷ drop (i + 1) parts) (sym is)

  pub get_step : get_at (drop i parts) (value_of here) ≡ option_and_then (get_at (drop (i + 1) parts)) (find part fields)
  get_step = rw (rest, map_is) (get_at-map part (drop (i + 1) parts) fields)

  pub blocked_step : blocked_at (drop i parts) (value_of here) ≡ blocked_by (Some (find part fields)) (blocked_at (drop (i + 1) parts))
  blocked_step = rw (rest, map_is) (blocked_at-map part (drop (i + 1) parts) fields)

  -- the part is absent
  pub get_ends : find part fields ≡ None → (whole : Option TreeValue) → get_at (drop i parts) (value_of here) ≡ whole → None ≡ whole
  get_ends lacks whole so_far = rw (get_step, lacks) at so_far

  pub blocked_ends : find part fields ≡ None → (whole : Option ℕ) → option_map (λ p. i + p) (blocked_at (drop i parts) (value_of here)) ≡ whole → None ≡ whole
  blocked_ends lacks whole so_far = rw (blocked_step, lacks) at so_far

  -- the part is there
  pub get_goes_on : (next : Tree) → find part fields ≡ Some (value_of next) → (whole : Option TreeValue) → get_at (drop i parts) (value_of here) ≡ whole → get_at (drop (i + 1) parts) (value_of next) ≡ whole
  get_goes_on next has whole so_far = rw (get_step, has) at so_far

  shifted : (o : Option ℕ) → option_map (λ p. i + p) (option_map suc o) ≡ option_map (λ p. i + 1 + p) o
  shifted None = refl
  shifted (Some n) = ap Some (omega arith)

  pub blocked_goes_on : (next : Tree) → find part fields ≡ Some (value_of next) → (whole : Option ℕ) → option_map (λ p. i + p) (blocked_at (drop i parts) (value_of here)) ≡ whole → option_map (λ p. i + 1 + p) (blocked_at (drop (i + 1) parts) (value_of next)) ≡ whole
  blocked_goes_on next has whole so_far = rw (← shifted) (rw (blocked_step, has) at so_far)
