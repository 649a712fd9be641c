-- The set of the keys of listed files, with one file more.
use Rattle.std.proofs.Common.{◌≡◌, ◌≢◌, ◌⊎◌, ◌↔◌, ℕ, ◌+◌, ◌<◌, true, cond, List, [], ◌∷◌, ◌++◌, length, take, get_or, Some, None, IsTrue, refl, sym, ap, ◌∙◌, subst, inl, inr}
use Rattle.std.specs.Prelude.{Contains}
use Rattle.std.specs.BTreeSet.{BTreeSet, Updates, contains}
use Rattle.std.specs.Ordering.{is_eq}
use Rattle.std.specs.declared.cmp.Ordering.{Ordering}
use Rattle.std.specs.declared.cmp.Ordering.TheVariants.{Less, Equal, Greater}
use Rattle.std.proofs.lemmas.List.{take_more}
use Rattle.std.proofs.lemmas.List.Elements.{Contains-append_left, Contains-push, Contains-push_cases}
use Rattle.prospect.specs.declared.listed.Listed.{Listed}
use Rattle.wire_base.proofs.ByteOrder.{compare_same, same_key}
use Rattle.wire_base.specs.KeyOrder.{compare}
use Rattle.file_rows.specs.Removed.{HasListedKeys, IsListedKey}

listed_by : (listed : List Listed) (one : Listed) (key : List ℕ) → Contains listed one → one.key ≡ Some key → IsListedKey listed key
listed_by listed one key there is = (there.0, one, there.1, there.2, is)

pub one_more : (listed : List Listed) (i : ℕ) (one : Listed) → i < length listed → one ≡ get_or listed i one → take (i + 1) listed ≡ take i listed ++ one ∷ []
one_more listed i one inside is = take_more listed i one inside ∙ ap (λ (l : Listed). take i listed ++ l ∷ []) (sym is)

module _ (listed : List Listed) (one : Listed) where
  listed_before : (key : List ℕ) → IsListedKey listed key → IsListedKey (listed ++ one ∷ []) key
  listed_before key found = listed_by (listed ++ one ∷ []) found.1 key (Contains-append_left listed (one ∷ []) found.1 (found.0, found.2, found.3)) found.4

  listed_last : (key : List ℕ) → one.key ≡ Some key → IsListedKey (listed ++ one ∷ []) key
  listed_last key is = listed_by (listed ++ one ∷ []) one key (Contains-push listed one) is

  listed_cases : (key : List ℕ) → IsListedKey (listed ++ one ∷ []) key → IsListedKey listed key ⊎ (one.key ≡ Some key)
  listed_cases key found = by_place (Contains-push_cases listed one found.1 (found.0, found.2, found.3))
    where
      by_place : Contains listed found.1 ⊎ (one ≡ found.1) → IsListedKey listed key ⊎ (one.key ≡ Some key)
      by_place (inl before) = inl (listed_by listed found.1 key before found.4)
      by_place (inr last) = inr (subst (λ (l : Listed). l.key ≡ Some key) (sym last) found.4)

  pub without_a_key : (old : BTreeSet (List ℕ)) → HasListedKeys listed old → one.key ≡ None → HasListedKeys (listed ++ one ∷ []) old
  without_a_key old has none key = (λ q. listed_before key ((has key).0 q), λ found. by_case (listed_cases key found))
    where
      by_case : IsListedKey listed key ⊎ (one.key ≡ Some key) → IsTrue (contains compare old key)
      by_case (inl before) = (has key).1 before
      by_case (inr last) = absurd (let q : None ≡ Some key = sym none ∙ last in cc)

  pub with_a_key : (old new : BTreeSet (List ℕ)) (its : List ℕ) → HasListedKeys listed old → one.key ≡ Some its → Updates compare old new its true → HasListedKeys (listed ++ one ∷ []) new
  with_a_key old new its has is updates key = by_order (compare its key) refl
    where
      now : (o : Ordering) → compare its key ≡ o → contains compare new key ≡ cond (is_eq o) true (contains compare old key)
      now o e = updates.0 key ∙ ap (λ (p : Ordering). cond (is_eq p) true (contains compare old key)) e

      same_as_before : contains compare new key ≡ contains compare old key → its ≢ key → IsTrue (contains compare new key) ↔ IsListedKey (listed ++ one ∷ []) key
      same_as_before same differs = (λ q. listed_before key ((has key).0 (sym same ∙ q)), λ found. by_case (listed_cases key found))
        where
          by_case : IsListedKey listed key ⊎ (one.key ≡ Some key) → IsTrue (contains compare new key)
          by_case (inl before) = same ∙ (has key).1 before
          by_case (inr last) = absurd (differs (let q : Some its ≡ Some key = sym is ∙ last in cc))

      by_order : (o : Ordering) → compare its key ≡ o → IsTrue (contains compare new key) ↔ IsListedKey (listed ++ one ∷ []) key
      by_order Less e = same_as_before (now Less e) (λ same. let q : Less ≡ Equal = sym e ∙ compare_same its key same in cc)
      by_order Equal e = (λ q. listed_last key (subst (λ (k : List ℕ). one.key ≡ Some k) (same_key its key e) is), λ found. now Equal e)
      by_order Greater e = same_as_before (now Greater e) (λ same. let q : Greater ≡ Equal = sym e ∙ compare_same its key same in cc)
