-- What an ordered map has at a key, by what calls of the tree say.
use Rattle.std.proofs.Common.{◌≡◌, ◌⊎◌, inl, inr, ℕ, false, cond, List, [], ◌∷◌, Contains, Some, None, IsSome, refl, sym, ◌∙◌, subst}
use Rattle.std.specs.BTreeMap.{BTreeMap, Updates, WritesThrough, is_at}
use Rattle.std.specs.Ordering.{is_eq}
use Rattle.std.specs.declared.cmp.Ordering.{Ordering}
use Rattle.std.specs.declared.cmp.Ordering.TheVariants.{Less, Equal, Greater}
use Rattle.wire_base.proofs.ByteOrder.{same_key, compare_same}
use Rattle.wire_base.specs.KeyOrder.{compare}
use Rattle.ack_tracker.specs.Keys.{at_key}
use Rattle.ack_tracker.proofs.Contained.{first_there, later_there}

pub key_cases : (a b : List ℕ) → (a ≡ b) ⊎ (a ≡ b → ⊥)
key_cases a b = by_case (compare a b) refl
  where
    by_case : (o : Ordering) → compare a b ≡ o → (a ≡ b) ⊎ (a ≡ b → ⊥)
    by_case Equal e = inl (same_key a b e)
    by_case Less e = inr (λ same. let q : Less ≡ Equal = sym e ∙ compare_same a b same in cc)
    by_case Greater e = inr (λ same. let q : Greater ≡ Equal = sym e ∙ compare_same a b same in cc)

not_at_key : (a b : List ℕ) → (a ≡ b → ⊥) → is_at (compare a) b ≡ false
not_at_key a b differs = by_case (compare a b) refl
  where
    by_case : (o : Ordering) → compare a b ≡ o → is_eq o ≡ false
    by_case Equal e = absurd (differs (same_key a b e))
    by_case Less e = refl
    by_case Greater e = refl

-- a key has this, and others have what they had
pub record Sets {X : Type 0} (old new : List (List ℕ × X)) (key : List ℕ) (x : X) : Type 0 where
  pub here : at_key new key ≡ Some x
  pub others : (other : List ℕ) → (key ≡ other → ⊥) → at_key new other ≡ at_key old other

pub sets_inserted : {X : Type 0} (old new : BTreeMap (List ℕ) X) (key : List ℕ) (x : X) → Updates compare old new key (Some x) → Sets old.entries new.entries key x
sets_inserted old new key x updates = record { here = updates.1; others = λ other differs. updates.2 other (not_at_key key other differs) }

pub sets_written : {X : Type 0} (old new : BTreeMap (List ℕ) X) (key : List ℕ) (was after : X) → at_key old.entries key ≡ Some was → WritesThrough compare (compare key) old after new → Sets old.entries new.entries key after
sets_written old new key was after there written =
    let updates = written.3 (subst IsSome (sym there) refl) in
    record { here = updates.1; others = λ other differs. updates.2 other (not_at_key key other differs) }

-- what is found is an entry
pub found_at_key : {X : Type 0} (entries : List (List ℕ × X)) (key : List ℕ) (x : X) → at_key entries key ≡ Some x → Contains entries (key, x)
found_at_key [] key x e = absurd (let q : None ≡ Some x = e in cc)
found_at_key {X} (entry ∷ entries) key x e = by_case (compare key entry.0) refl e (found_at_key entries key x)
  where
    by_case : (o : Ordering) → compare key entry.0 ≡ o → cond (is_eq o) (Some entry.1) (at_key entries key) ≡ Some x → (at_key entries key ≡ Some x → Contains entries (key, x)) → Contains (entry ∷ entries) (key, x)
    by_case Equal at e h =
        let value : entry.1 ≡ x = let q : Some entry.1 ≡ Some x = e in cc in
        let same : entry ≡ (key, x) = λ k. (sym (same_key key entry.0 at) k, value k) in
        subst (λ (p : List ℕ × X). Contains (entry ∷ entries) p) same (first_there entry entries)
    by_case Less at e h = later_there entry (key, x) entries (h e)
    by_case Greater at e h = later_there entry (key, x) entries (h e)
