-- What a put below a key does to the entries of a map.
use Rattle.std.proofs.Common.{◌≡◌, ℕ, suc, List, [], ◌∷◌, get_or, set, Option, Some, None, option_map, refl, sym, ap, ◌∙◌, subst}
use Rattle.std.specs.List.{insert}
use Rattle.std.specs.Prelude.{unwrap_or}
use Rattle.std.proofs.lemmas.List.{map-set, set-get_or}
use Rattle.event_tree.specs.Value.{TreeValue, FieldList}
use Rattle.wire_base.specs.KeyOrder.{IsInOrder, IsAt, IsGap}
use Rattle.event_tree.specs.Keys.{key_of, find, set_field}
use Rattle.event_tree.specs.Paths.{Parts, map_of, put_at, blocked_at}
use Rattle.event_tree.specs.Tree.{value_of, pair_of, pairs_of}
use Rattle.event_tree.specs.declared.tree.Tree.{Tree}
use Rattle.event_tree.proofs.Entries.{find_entry, set_entry, insert_entry, find_gap}
use Rattle.event_tree.proofs.Edits.{in_order-set}
use Rattle.event_tree.proofs.Steps.{pairs_back, blocked_at-map}

pub put_at-map : (key : List ℕ) (later : Parts) (v : TreeValue) (ps : FieldList) → put_at (key ∷ later) v (map_of ps) ≡ map_of (set_field key (put_at later v (unwrap_or (find key ps) (map_of []))) ps)
put_at-map key later v ps = ap (λ q. map_of (set_field key (put_at later v (unwrap_or (find key q) (map_of []))) q)) (pairs_back ps)

none_later : (o : Option ℕ) → option_map suc o ≡ None → o ≡ None
none_later None e = refl
none_later (Some n) e = absurd (let q : Some (suc n) ≡ None = e in cc)

module _ (es : List (List ℕ × Tree)) (ordered : IsInOrder key_of (pairs_of es)) (key : List ℕ) (later : Parts) (i : ℕ) where
  -- the key is there
  module _ (e : List ℕ × Tree) (at : IsAt key_of (pairs_of es) key i) (is : e ≡ get_or es i e) where
    has : find key (pairs_of es) ≡ Some (value_of e.1)
    has = sym (find_entry es ordered key i e at is)

    pub free_below : blocked_at (key ∷ later) (map_of (pairs_of es)) ≡ None → blocked_at later (value_of e.1) ≡ None
    free_below free = none_later _ (rw (blocked_at-map key later (pairs_of es), has) at free)

    pub put_there : (v : TreeValue) (new : Tree) → value_of new ≡ put_at later v (value_of e.1) → map_of (pairs_of (set es i (e.0, new))) ≡ put_at (key ∷ later) v (map_of (pairs_of es))
    put_there v new made =
        ap map_of (set_entry es ordered key i e new at is) ∙ rw (put_at-map key later v (pairs_of es), has, made) refl

    pub kept_there : (new : Tree) → value_of new ≡ value_of e.1 → pairs_of (set es i (e.0, new)) ≡ pairs_of es
    kept_there new kept =
        map-set pair_of es i (e.0, new) ∙ ap (λ v. set (pairs_of es) i (e.0, v)) kept ∙ sym (map-set pair_of es i e) ∙ ap (λ l. pairs_of l) (ap (λ x. set es i x) is ∙ set-get_or es i e)

  -- the key is not there, and goes in as a copy
  pub put_new : IsGap key_of (pairs_of es) key i → (v : TreeValue) (copy : List ℕ) (new : Tree) → copy ≡ key → value_of new ≡ put_at later v (map_of []) → map_of (pairs_of (insert es i (copy, new))) ≡ put_at (key ∷ later) v (map_of (pairs_of es))
  put_new gap v copy new same made =
      ap (λ k. map_of (pairs_of (insert es i (k, new)))) same ∙ ap map_of (insert_entry es ordered key i new gap) ∙ rw (put_at-map key later v (pairs_of es), find_gap es ordered key i gap, made) refl

module _ (es : List (List ℕ × Tree)) (ordered : IsInOrder key_of (pairs_of es)) (key : List ℕ) (i : ℕ) (gap : IsGap key_of (pairs_of es) key i) where
  pub new_in_order : (copy : List ℕ) (new : Tree) → copy ≡ key → IsInOrder key_of (pairs_of (insert es i (copy, new)))
  new_in_order copy new same =
      subst (λ k. IsInOrder key_of (pairs_of (insert es i (k, new)))) (sym same) (subst (IsInOrder key_of) (sym (insert_entry es ordered key i new gap)) (in_order-set key (value_of new) (pairs_of es) ordered))
