-- The entries of a map in memory, and the pairs that they stand for.
use Rattle.std.proofs.Common.{◌≡◌, ℕ, suc, ◌<◌, List, [], ◌∷◌, length, get_or, set, Bool, true, false, if◌then◌else◌, option_map, take, drop, ◌++◌, None, Some, Result, Ok, Err, IfOk, IfErr, sym, ap, ◌∙◌, subst, arith}
use Rattle.std.specs.List.{insert, remove}
use Rattle.std.specs.List.Sorted.{IsSearchInRange, IsBinarySearchResult}
use Rattle.std.proofs.lemmas.List.{get_or-map, length-map, map-append, map-set, take-map, drop-map}
use Rattle.wire_base.specs.KeyOrder.{compare, IsBefore, IsInOrder, IsAt, IsGap}
use Rattle.wire_base.proofs.Keyed as keyed
use Rattle.event_tree.specs.Value.{TreeValue, null}
use Rattle.event_tree.specs.Keys.{key_of, find, set_field, unset_field}
use Rattle.event_tree.specs.Tree.{value_of, pair_of, pairs_of}
use Rattle.event_tree.specs.declared.tree.Tree.{Tree}
use Rattle.event_tree.specs.declared.tree.Tree.TheVariants.{Null}
use Rattle.event_tree.proofs.Edits.{value_in, in_order-set}

-- the key of an entry
abbrev entry_key : List ℕ × Tree → List ℕ
entry_key entry = entry.0

-- some entry and some pair, to read beyond the end
abbrev no_entry : List ℕ × Tree
no_entry = ([], Null)

abbrev no_pair : List ℕ × TreeValue
no_pair = ([], null)

before_entries : (key : List ℕ) (es : List (List ℕ × Tree)) → IsBefore key_of key (pairs_of es) → IsBefore entry_key key es
before_entries key [] before = tt
before_entries key (e ∷ es) before = (before.0, before_entries key es before.1)

ordered_entries : (es : List (List ℕ × Tree)) → IsInOrder key_of (pairs_of es) → IsInOrder entry_key es
ordered_entries [] ordered = tt
ordered_entries (e ∷ es) ordered = (before_entries e.0 es ordered.0, ordered_entries es ordered.1)

module _ (es : List (List ℕ × Tree)) (ordered : IsInOrder key_of (pairs_of es)) (key : List ℕ) where
  key_at : (i : ℕ) (d : List ℕ × Tree) (fallback : List ℕ × TreeValue) → i < length es → key_of (get_or (pairs_of es) i fallback) ≡ (get_or es i d).0
  key_at i d fallback inside = ap key_of (get_or-map pair_of es i d fallback inside)

  at_pair : (i : ℕ) → IsAt entry_key es key i → IsAt key_of (pairs_of es) key i
  at_pair i at = record {
    in_range = rw (length-map es pair_of) at.in_range;
    has_key = λ fallback. key_at i no_entry fallback at.in_range ∙ at.has_key no_entry;
  }

  gap_pair : (i : ℕ) → IsGap entry_key es key i → IsGap key_of (pairs_of es) key i
  gap_pair i gap =
      let n = length-map es pair_of in
      record {
        in_range = rw n gap.in_range;
        lesser_before = λ j fallback lt. rw (key_at j no_entry fallback (omega (arith, lt, gap.in_range))) (gap.lesser_before j no_entry lt);
        greater_behind = λ j fallback le lt. let within : j < length es = rw (← n) lt in rw (key_at j no_entry fallback within) (gap.greater_behind j no_entry le within);
      }

  -- a binary search by key ends at the key, or where it belongs
  pub found : (r : Result ℕ ℕ) → IsSearchInRange r (length es) → IsBinarySearchResult (λ e. compare e.0 key) es r → IfOk r (IsAt key_of (pairs_of es) key)
  found (Ok i) inside equal = at_pair i (keyed.found entry_key es (ordered_entries es ordered) key (Ok i) inside equal)
  found (Err i) inside parted = tt

  pub absent : (r : Result ℕ ℕ) → IsSearchInRange r (length es) → IsBinarySearchResult (λ e. compare e.0 key) es r → IfErr r (IsGap key_of (pairs_of es) key)
  absent (Ok i) inside equal = tt
  absent (Err i) inside parted = gap_pair i (keyed.absent entry_key es (ordered_entries es ordered) key (Err i) inside parted)

  pub find_gap : (i : ℕ) → IsGap key_of (pairs_of es) key i → find key (pairs_of es) ≡ None
  find_gap i gap = ap (option_map value_in) (keyed.find_gap key_of (pairs_of es) key i gap)

  pub find_entry : (i : ℕ) (e : List ℕ × Tree) → IsAt key_of (pairs_of es) key i → e ≡ get_or es i e → Some (value_of e.1) ≡ find key (pairs_of es)
  find_entry i e at is =
      let inside : i < length es = rw (← length-map es pair_of) at.in_range in
      ap (λ (x : List ℕ × Tree). Some (value_of x.1)) is ∙ ap (λ (p : List ℕ × TreeValue). Some p.1) (sym (get_or-map pair_of es i e no_pair inside)) ∙ sym (ap (option_map value_in) (keyed.find_at key_of (pairs_of es) key i no_pair ordered at))

  pub set_entry : (i : ℕ) (e : List ℕ × Tree) (value : Tree) → IsAt key_of (pairs_of es) key i → e ≡ get_or es i e → pairs_of (set es i (e.0, value)) ≡ set_field key (value_of value) (pairs_of es)
  set_entry i e value at is =
      let inside : i < length es = rw (← length-map es pair_of) at.in_range in
      let same : e.0 ≡ key = ap entry_key is ∙ sym (key_at i e no_pair inside) ∙ at.has_key no_pair in
      map-set pair_of es i (e.0, value) ∙ ap (λ k. set (pairs_of es) i (k, value_of value)) same ∙ keyed.set_at_place key_of (pairs_of es) (key, value_of value) i ordered at

  pub insert_entry : (i : ℕ) (value : Tree) → IsGap key_of (pairs_of es) key i → pairs_of (insert es i (key, value)) ≡ set_field key (value_of value) (pairs_of es)
  insert_entry i value gap =
      map-append pair_of (take i es) ((key, value) ∷ drop i es) ∙ (λ k. sym (take-map pair_of i es) k ++ (key, value_of value) ∷ sym (drop-map pair_of i es) k) ∙ keyed.insert_in_gap key_of (pairs_of es) (key, value_of value) i gap

  pub remove_entry : (i : ℕ) → IsAt key_of (pairs_of es) key i → pairs_of (remove es i) ≡ unset_field key (pairs_of es)
  remove_entry i at =
      map-append pair_of (take i es) (drop (suc i) es) ∙ (λ k. sym (take-map pair_of i es) k ++ sym (drop-map pair_of (suc i) es) k) ∙ keyed.remove_at_place key_of (pairs_of es) key i ordered at

  -- the same if the insertion may be refused
  pub insert_kept : (i : ℕ) (value : Tree) (made : Bool) (new : List (List ℕ × Tree)) → IsGap key_of (pairs_of es) key i → new ≡ (if made then insert es i (key, value) else es) → IsInOrder key_of (pairs_of new)
  insert_kept i value true new gap is = subst (λ l. IsInOrder key_of (pairs_of l)) (sym is) (subst (IsInOrder key_of) (sym (insert_entry i value gap)) (in_order-set key (value_of value) (pairs_of es) ordered))
  insert_kept i value false new gap is = subst (λ l. IsInOrder key_of (pairs_of l)) (sym is) ordered
