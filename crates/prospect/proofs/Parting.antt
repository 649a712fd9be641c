-- One listed file more, by the set of the keys of those that are followed: the keys, and both parts.
use Rattle.std.proofs.Common.{◌≡◌, ◌≢◌, ◌⊎◌, ◌↔◌, ℕ, Bool, true, false, cond, not, List, [], ◌∷◌, ◌++◌, Contains, IsTrue, Option, Some, None, refl, sym, ap, ◌∙◌, subst, inl, inr, append-nil, append_assoc}
use Rattle.std.specs.BTreeSet.{BTreeSet, Updates, contains}
use Rattle.std.specs.Ordering.{is_eq}
use Rattle.std.specs.declared.cmp.Ordering.{Ordering}
use Rattle.std.specs.declared.cmp.Ordering.TheVariants.{Less, Equal, Greater}
use Rattle.std.proofs.lemmas.List.Elements.{Contains-append_left, Contains-push, Contains-push_cases}
use Rattle.wire_base.proofs.ByteOrder.{compare_same, same_key}
use Rattle.wire_base.specs.KeyOrder.{compare}
use Rattle.prospect.specs.declared.parted.Parted.{Parted}
use Rattle.prospect.specs.declared.listed.Listed.{Listed}
use Rattle.prospect.specs.Doubled.{HaveKey, PartsBehind, PartsDoubled}
use Rattle.prospect.specs.Parting.{AddsKey, HasKeysOf, PartsOne}

-- ---- files that have a key, and one file more

have_by : (files : List Listed) (one : Listed) (key : List ℕ) → Contains files one → one.key ≡ Some key → HaveKey files (Some key)
have_by files one key there is = (there.0, one, there.1, there.2, is)

module _ (files : List Listed) (one : Listed) (key : List ℕ) where
  have_before : HaveKey files (Some key) → HaveKey (files ++ one ∷ []) (Some key)
  have_before found = have_by (files ++ one ∷ []) found.1 key (Contains-append_left files (one ∷ []) found.1 (found.0, found.2, found.3)) found.4

  have_last : one.key ≡ Some key → HaveKey (files ++ one ∷ []) (Some key)
  have_last is = have_by (files ++ one ∷ []) one key (Contains-push files one) is

  have_cases : HaveKey (files ++ one ∷ []) (Some key) → HaveKey files (Some key) ⊎ (one.key ≡ Some key)
  have_cases found = by_place (Contains-push_cases files one found.1 (found.0, found.2, found.3))
    where
      by_place : Contains files found.1 ⊎ (one ≡ found.1) → HaveKey files (Some key) ⊎ (one.key ≡ Some key)
      by_place (inl before) = inl (have_by files found.1 key before found.4)
      by_place (inr last) = inr (subst (λ (l : Listed). l.key ≡ Some key) (sym last) found.4)

-- ---- the set of their keys

not_false : (b : Bool) → true ≡ not b → b ≡ false
not_false true is = is
not_false false is = refl

not_true : (b : Bool) → false ≡ not b → b ≡ true
not_true true is = refl
not_true false is = is

module _ (files : List Listed) (old new : BTreeSet (List ℕ)) (has : HasKeysOf files old) where
  -- a file whose key was in the set already
  pub is_followed : (key : Option (List ℕ)) → AddsKey key old new false → HaveKey files key
  is_followed None adds = absurd (let q : false ≡ true = adds.0 in cc)
  is_followed (Some key) adds = (has key).0 (not_true (contains compare old key) adds.0)

  pub keys_stay : (key : Option (List ℕ)) → AddsKey key old new false → HasKeysOf files new
  keys_stay None adds key = absurd (let q : false ≡ true = adds.0 in cc)
  keys_stay (Some its) adds key = by_order (compare its key) refl
    where
      now : (o : Ordering) → compare its key ≡ o → contains compare new key ≡ cond (is_eq o) true (contains compare old key)
      now o e = adds.1.0 key ∙ ap (λ (p : Ordering). cond (is_eq p) true (contains compare old key)) e

      as_before : contains compare new key ≡ contains compare old key → IsTrue (contains compare new key) ↔ HaveKey files (Some key)
      as_before same = (λ q. (has key).0 (sym same ∙ q), λ found. same ∙ (has key).1 found)

      by_order : (o : Ordering) → compare its key ≡ o → IsTrue (contains compare new key) ↔ HaveKey files (Some key)
      by_order Less e = as_before (now Less e)
      by_order Equal e =
          (λ q. subst (λ (k : List ℕ). HaveKey files (Some k)) (same_key its key e) (is_followed (Some its) adds), λ found. now Equal e)
      by_order Greater e = as_before (now Greater e)

  -- a file whose key was not, or that has none
  pub is_not_followed : (key : Option (List ℕ)) → AddsKey key old new true → ¬ (HaveKey files key)
  is_not_followed None adds found = found
  is_not_followed (Some key) adds found =
      (let q : true ≡ false = sym ((has key).1 found) ∙ not_false (contains compare old key) adds.0 in cc)

  module _ (one : Listed) where
    keys_without : one.key ≡ None → new ≡ old → HasKeysOf (files ++ one ∷ []) new
    keys_without none same key = subst (λ (s : BTreeSet (List ℕ)). IsTrue (contains compare s key) ↔ HaveKey (files ++ one ∷ []) (Some key)) (sym same)
        (λ q. have_before files one key ((has key).0 q), λ found. by_case (have_cases files one key found))
      where
        by_case : HaveKey files (Some key) ⊎ (one.key ≡ Some key) → IsTrue (contains compare old key)
        by_case (inl before) = (has key).1 before
        by_case (inr last) = absurd (let q : None ≡ Some key = sym none ∙ last in cc)

    keys_with : (its : List ℕ) → one.key ≡ Some its → Updates compare old new its true → HasKeysOf (files ++ one ∷ []) new
    keys_with its is updates key = by_order (compare its key) refl
      where
        now : (o : Ordering) → compare its key ≡ o → contains compare new key ≡ cond (is_eq o) true (contains compare old key)
        now o e = updates.0 key ∙ ap (λ (p : Ordering). cond (is_eq p) true (contains compare old key)) e

        as_before : contains compare new key ≡ contains compare old key → its ≢ key → IsTrue (contains compare new key) ↔ HaveKey (files ++ one ∷ []) (Some key)
        as_before same differs = (λ q. have_before files one key ((has key).0 (sym same ∙ q)), λ found. by_case (have_cases files one key found))
          where
            by_case : HaveKey files (Some key) ⊎ (one.key ≡ Some key) → IsTrue (contains compare new key)
            by_case (inl before) = same ∙ (has key).1 before
            by_case (inr last) = absurd (differs (let q : Some its ≡ Some key = sym is ∙ last in cc))

        by_order : (o : Ordering) → compare its key ≡ o → IsTrue (contains compare new key) ↔ HaveKey (files ++ one ∷ []) (Some key)
        by_order Less e = as_before (now Less e) (λ same. let q : Less ≡ Equal = sym e ∙ compare_same its key same in cc)
        by_order Equal e = (λ q. have_last files one key (subst (λ (k : List ℕ). one.key ≡ Some k) (same_key its key e) is), λ found. now Equal e)
        by_order Greater e = as_before (now Greater e) (λ same. let q : Greater ≡ Equal = sym e ∙ compare_same its key same in cc)

    pub keys_grow : AddsKey one.key old new true → HasKeysOf (files ++ one ∷ []) new
    keys_grow = by_key one.key refl
      where
        by_key : (key : Option (List ℕ)) → one.key ≡ key → AddsKey key old new true → HasKeysOf (files ++ one ∷ []) new
        by_key None is adds = keys_without is adds.1
        by_key (Some its) is adds = keys_with its is adds.1

-- ---- both parts

more_behind : (before listed files doubled more_files more_doubled : List Listed) (one : Listed) → PartsBehind before listed files doubled →
    PartsBehind (before ++ files) (one ∷ []) more_files more_doubled → PartsBehind before (listed ++ one ∷ []) (files ++ more_files) (doubled ++ more_doubled)
more_behind before [] files doubled more_files more_doubled one parts last =
    subst (λ (l : List Listed). PartsBehind before (one ∷ []) (l ++ more_files) (doubled ++ more_doubled)) (sym parts.0)
    (subst (λ (l : List Listed). PartsBehind before (one ∷ []) more_files (l ++ more_doubled)) (sym parts.1)
    (subst (λ (l : List Listed). PartsBehind l (one ∷ []) more_files more_doubled) (ap (λ (l : List Listed). before ++ l) parts.0 ∙ append-nil before) last))
more_behind before (next ∷ listed) files doubled more_files more_doubled one (inl (have, others, is, parts)) last =
    inl (
      have,
      others ++ more_doubled,
      ap (λ (l : List Listed). l ++ more_doubled) is,
      more_behind before listed files others more_files more_doubled one parts last,
    )
more_behind before (next ∷ listed) files doubled more_files more_doubled one (inr (lacks, others, is, parts)) last =
    inr (
      lacks,
      others ++ more_files,
      ap (λ (l : List Listed). l ++ more_files) is,
      more_behind (before ++ next ∷ []) listed others doubled more_files more_doubled one parts
          (subst (λ (l : List Listed). PartsBehind l (one ∷ []) more_files more_doubled)
          (ap (λ (l : List Listed). before ++ l) is ∙ sym (append_assoc before (next ∷ []) others)) last),
    )

pub parts_more : (listed : List Listed) (one : Listed) (old new : Parted) → PartsDoubled listed old.files.items old.doubled.items → PartsOne one old new →
    PartsDoubled (listed ++ one ∷ []) new.files.items new.doubled.items
parts_more listed one old new parts (inl (have, files_are, doubled_are)) =
    subst (λ (l : List Listed). PartsDoubled (listed ++ one ∷ []) l new.doubled.items) (append-nil old.files.items ∙ sym files_are)
    (subst (λ (l : List Listed). PartsDoubled (listed ++ one ∷ []) (old.files.items ++ []) l) (sym doubled_are)
    (more_behind [] listed old.files.items old.doubled.items [] (one ∷ []) one parts (inl (have, [], refl, (refl, refl)))))
parts_more listed one old new parts (inr (lacks, files_are, doubled_are)) =
    subst (λ (l : List Listed). PartsDoubled (listed ++ one ∷ []) l new.doubled.items) (sym files_are)
    (subst (λ (l : List Listed). PartsDoubled (listed ++ one ∷ []) (old.files.items ++ one ∷ []) l) (append-nil old.doubled.items ∙ sym doubled_are)
    (more_behind [] listed old.files.items old.doubled.items (one ∷ []) [] one parts (inr (lacks, [], refl, (refl, refl)))))
