-- What a removal below a key does to the entries of a map.
use Rattle.std.proofs.Common.{◌≡◌, ℕ, ◌<◌, List, [], ◌∷◌, length, get_or, set, Option, Some, None, refl, sym, ap, ◌∙◌, subst, arith}
use Rattle.std.specs.List.{remove}
use Rattle.std.proofs.lemmas.List.{nil_from_length}
use Rattle.event_tree.specs.Value.{TreeValue, FieldList}
use Rattle.wire_base.specs.KeyOrder.{IsInOrder, IsAt}
use Rattle.event_tree.specs.Keys.{key_of, find, set_field, unset_field}
use Rattle.event_tree.specs.Paths.{Parts, map_of, get_at, remove_at, with_member}
use Rattle.event_tree.specs.Tree.{value_of, pairs_of}
use Rattle.event_tree.specs.declared.tree.Tree.{Tree}
use Rattle.event_tree.proofs.Entries.{find_entry, set_entry, remove_entry}
use Rattle.event_tree.proofs.Edits.{unset_absent, in_order-unset}
use Rattle.event_tree.proofs.Steps.{pairs_back, get_at-map}

remove_at_last-map : (key : List ℕ) (ps : FieldList) → remove_at (key ∷ []) (map_of ps) ≡ map_of (unset_field key ps)
remove_at_last-map key ps = ap (λ q. map_of (unset_field key q)) (pairs_back ps)

remove_at_more-map : (key next : List ℕ) (later : Parts) (ps : FieldList) → remove_at (key ∷ next ∷ later) (map_of ps) ≡ map_of (with_member key (remove_at (next ∷ later)) ps)
remove_at_more-map key next later ps = ap (λ q. map_of (with_member key (remove_at (next ∷ later)) q)) (pairs_back ps)

-- the key is not there
pub get_absent : (key : List ℕ) (later : Parts) (ps : FieldList) → find key ps ≡ None → None ≡ get_at (key ∷ later) (map_of ps)
get_absent key later ps lacks = rw (get_at-map key later ps, lacks) refl

pub remove_absent : (key : List ℕ) (later : Parts) (ps : FieldList) → find key ps ≡ None → map_of ps ≡ remove_at (key ∷ later) (map_of ps)
remove_absent key [] ps lacks = rw (remove_at_last-map key ps, unset_absent key ps lacks) refl
remove_absent key (next ∷ later) ps lacks = rw (remove_at_more-map key next later ps, lacks) refl

module _ (es : List (List ℕ × Tree)) (ordered : IsInOrder key_of (pairs_of es)) (key : List ℕ) (later : Parts) (i : ℕ) (e : List ℕ × Tree) (at : IsAt key_of (pairs_of es) key i) (is : e ≡ get_or es i e) where
  has : find key (pairs_of es) ≡ Some (value_of e.1)
  has = sym (find_entry es ordered key i e at is)

  -- the key is the last part
  pub take_last : length later ≡ 0 → Some (value_of e.1) ≡ get_at (key ∷ later) (map_of (pairs_of es))
  take_last ends = rw (nil_from_length later ends, get_at-map key [] (pairs_of es), has) refl

  pub left_last : length later ≡ 0 → map_of (pairs_of (remove es i)) ≡ remove_at (key ∷ later) (map_of (pairs_of es))
  left_last ends = rw (nil_from_length later ends, remove_at_last-map key (pairs_of es)) (ap map_of (remove_entry es ordered key i at))

  pub last_in_order : IsInOrder key_of (pairs_of (remove es i))
  last_in_order = subst (IsInOrder key_of) (sym (remove_entry es ordered key i at)) (in_order-unset key (pairs_of es) ordered)

  -- more parts follow
  pub take_there : (taken : Option TreeValue) → taken ≡ get_at later (value_of e.1) → taken ≡ get_at (key ∷ later) (map_of (pairs_of es))
  take_there taken same = rw (get_at-map key later (pairs_of es), has) same

  pub left_there : (new : Tree) → 0 < length later → value_of new ≡ remove_at later (value_of e.1) → map_of (pairs_of (set es i (e.0, new))) ≡ remove_at (key ∷ later) (map_of (pairs_of es))
  left_there new goes_on left = ap map_of (set_entry es ordered key i e new at is) ∙ by_parts later goes_on left
    where
      by_parts : (later : Parts) → 0 < length later → value_of new ≡ remove_at later (value_of e.1) → map_of (set_field key (value_of new) (pairs_of es)) ≡ remove_at (key ∷ later) (map_of (pairs_of es))
      by_parts [] more same = absurd (omega arith)
      by_parts (next ∷ rest) more same = rw (remove_at_more-map key next rest (pairs_of es), has, same) refl
