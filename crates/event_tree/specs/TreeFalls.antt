-- Each tree in a list or a map is smaller than it (this project's profile).
use Rattle.std.specs.Prelude.{◌≡◌, refl, ℕ, ◌≤◌, max, List, [], ◌∷◌}
use Rattle.std.proofs.Common.{arith}
use denote.Param.Weighed.{most}
use Rattle.event_tree.specs.declared.fields.Fields.TheDeep.{deep-Tree, deep-Trees, deep-Fields}
use Rattle.event_tree.specs.declared.fields.Fields.TheInside.{Inside as InFields}
use Rattle.event_tree.specs.declared.trees.Trees.TheInside.{Inside as InTrees}
use Rattle.event_tree.specs.declared.tree.Tree.{Tree}
use Rattle.event_tree.specs.declared.tree.Tree.TheVariants.{Null, Flag, Int, Str, List as ListOf, Map}
use Rattle.event_tree.specs.Value.{TreeValue, FieldList, as_values, as_members}
use Rattle.event_tree.specs.Size.{value_size, values_size, members_size, trees_size, fields_size}
use Rattle.event_tree.specs.Tree.{value_of, values_of, pairs_of}

values_size-as : (vs : List TreeValue) → values_size (as_values vs) ≡ trees_size vs
values_size-as [] = refl
values_size-as (v ∷ vs) = omega (arith, values_size-as vs)

members_size-as : (ps : FieldList) → members_size (as_members ps) ≡ fields_size ps
members_size-as [] = refl
members_size-as (p ∷ ps) = omega (arith, members_size-as ps)

deep_le_size : (t : Tree) → deep-Tree t ≤ value_size (value_of t)
deep_le_size Null = omega arith
deep_le_size (Flag b) = omega arith
deep_le_size (Int n) = omega arith
deep_le_size (Str s) = omega arith
deep_le_size (ListOf vs) = omega (arith, values_size-as vs)
deep_le_size (Map ps) = omega (arith, members_size-as ps)

trees_most : (ts : List Tree) → most (λ t. deep-Tree t) ts ≤ trees_size (values_of ts)
trees_most [] = omega arith
trees_most (t ∷ ts) = omega (arith, deep_le_size t, trees_most ts)

-- as the logic counts a pair: each of its parts, and nothing after them
abbrev entry_size : List ℕ × Tree → ℕ
entry_size p = max 0 (max (deep-Tree p.1) 0)

fields_most : (ps : List (List ℕ × Tree)) → most entry_size ps ≤ fields_size (pairs_of ps)
fields_most [] = omega arith
fields_most (p ∷ ps) = omega (arith, deep_le_size p.1, fields_most ps)

pub trees_fall : (t : InTrees) → deep-Trees t ≤ trees_size (values_of t.trees.items)
trees_fall t = omega (arith, trees_most t.trees.items)

pub fields_fall : (f : InFields) → deep-Fields f ≤ fields_size (pairs_of f.entries.items)
fields_fall f =
    let falls : max (most entry_size f.entries.items) 0 ≤ fields_size (pairs_of f.entries.items) = omega (arith, fields_most f.entries.items) in
    falls
