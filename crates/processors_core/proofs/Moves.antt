-- What `rename` makes of a tree, pair by pair.
use Rattle.std.proofs.Common.{◌≡◌, ℕ, ◌+◌, ◌<◌, ◌≤◌, Bool, true, false, ◌&&◌, List, ◌∷◌, ◌++◌, length, map, get_or, drop, codes, Option, Some, None, is_none, is_some, IfSome, if◌then◌else◌, refl, sym, ap, ◌∙◌}
use Rattle.std.specs.Option.{option_map_or}
use Rattle.std.proofs.lemmas.List.{drop_more, drop_all}
use Rattle.event_tree.specs.Parts.{parts_of}
use Rattle.event_tree.specs.Paths.{blocked_at, get_at, put_at, remove_at, rename_at}
use Rattle.event_tree.specs.Value.{TreeValue}
use Rattle.event_tree.specs.declared.processor_rule.Pair.{Pair}
use Rattle.processors_core.specs.Attempt.{Attempt, Done, Failed, and_then, attempt_of}
use Rattle.processors_core.specs.Pairs.{pair_of}
use Rattle.processors_core.specs.Renamed.{rename_fault, moved_or_failed, pair_renamed, pairs_renamed}
use Rattle.processors_core.specs.declared.rename.NamedPair.{NamedPair}

-- ---- one pair

none_of_three : (first second third : Bool) (x y z : List ℕ) → (if first then Some x else if second then Some y else if third then Some z else None) ≡ None → (first ≡ false) × (third ≡ false)
none_of_three true second third x y z e = absurd (cc)
none_of_three false true third x y z e = absurd (cc)
none_of_three false false true x y z e = absurd (cc)
none_of_three false false false x y z e = (refl, refl)

no_part : (o : Option ℕ) → is_some o ≡ false → o ≡ None
no_part None e = refl
no_part (Some n) e = absurd (cc)

module _ (pair : Pair) (tree : TreeValue) where
  parts : rename_fault pair tree ≡ None → (is_none (get_at (parts_of pair.from) tree) ≡ false) × (is_some (blocked_at (parts_of pair.to) tree) ≡ false)
  parts none =
      none_of_three (is_none (get_at (parts_of pair.from) tree)) (is_some (get_at (parts_of pair.to) tree)) (is_some (blocked_at (parts_of pair.to) tree))
      (codes "rename: no field " ++ pair.from) (codes "rename: field " ++ pair.to ++ codes " exists") (codes "rename: no map at " ++ pair.to) none

  pub is_there : rename_fault pair tree ≡ None → is_none (get_at (parts_of pair.from) tree) ≡ false
  is_there none = (parts none).0

  pub is_free : rename_fault pair tree ≡ None → blocked_at (parts_of pair.to) tree ≡ None
  is_free none = no_part (blocked_at (parts_of pair.to) tree) (parts none).1

  -- the first path is absent, and may be
  pub passed_over : (ignore : Bool) → true ≡ (ignore && is_none (get_at (parts_of pair.from) tree)) → pair_renamed ignore true pair tree ≡ Done tree
  passed_over ignore is = ap (λ b. if b then Done tree else moved_or_failed true (rename_fault pair tree) pair tree) (sym is)

  pub tried : (ignore : Bool) (fault : Option (List ℕ)) → false ≡ (ignore && is_none (get_at (parts_of pair.from) tree)) → fault ≡ rename_fault pair tree →
      pair_renamed ignore true pair tree ≡ moved_or_failed true fault pair tree
  tried ignore fault is same =
      ap (λ b. if b then Done tree else moved_or_failed true (rename_fault pair tree) pair tree) (sym is) ∙ ap (λ f. moved_or_failed true f pair tree) (sym same)

  pub moved : (value : TreeValue) → Some value ≡ get_at (parts_of pair.from) tree → put_at (parts_of pair.to) value (remove_at (parts_of pair.from) tree) ≡ rename_at (parts_of pair.from) (parts_of pair.to) tree
  moved value is = ap (λ o. option_map_or (λ v. put_at (parts_of pair.to) v (remove_at (parts_of pair.from) tree)) o tree) is

  -- an error that does not fail leaves the pair out
  whether_it_fails : (fails passed : Bool) (fault error : Option (List ℕ)) (after : TreeValue) →
      (if passed then Done tree else moved_or_failed true fault pair tree) ≡ attempt_of error after → IfSome error (λ _. after ≡ tree) →
      (fails ≡ true → (text : List ℕ) → error ≡ Some text → ⊥) → (if passed then Done tree else moved_or_failed fails fault pair tree) ≡ Done after
  whether_it_fails fails passed fault None after e kept goes = by_case fails passed fault e
    where
      by_case : (fails passed : Bool) (fault : Option (List ℕ)) → (if passed then Done tree else moved_or_failed true fault pair tree) ≡ Done after →
          (if passed then Done tree else moved_or_failed fails fault pair tree) ≡ Done after
      by_case fails true fault e = e
      by_case true false None e = e
      by_case false false None e = e
      by_case true false (Some text) e = e
      by_case false false (Some text) e = absurd (cc)
  whether_it_fails fails passed fault (Some text) after e kept goes = by_case fails passed fault e goes
    where
      by_case : (fails passed : Bool) (fault : Option (List ℕ)) → (if passed then Done tree else moved_or_failed true fault pair tree) ≡ Failed text →
          (fails ≡ true → (told : List ℕ) → Some text ≡ Some told → ⊥) → (if passed then Done tree else moved_or_failed fails fault pair tree) ≡ Done after
      by_case true passed fault e goes = absurd (goes refl text refl)
      by_case false true fault e goes = absurd (cc)
      by_case false false None e goes = absurd (cc)
      by_case false false (Some told) e goes = ap Done (sym kept)

pub none_told : (error : Option (List ℕ)) (text : List ℕ) → error ≡ None → error ≡ Some text → ⊥
none_told None text none told = absurd (cc)
none_told (Some t) text none told = absurd (cc)

pub not_both : (fails : Bool) → fails ≡ false → fails ≡ true → ⊥
not_both fails fails_not does = let both : false ≡ true = sym fails_not ∙ does in absurd (cc)

-- ---- pair by pair

module _ (ignore fails : Bool) (pairs : List NamedPair) (i : ℕ) (pair : NamedPair) (inside : i < length pairs) (at : pair ≡ get_or pairs i pair) (tree after : TreeValue) (error : Option (List ℕ)) (one : pair_renamed ignore true (pair_of pair) tree ≡ attempt_of error after) (whole : Attempt) (so_far : pairs_renamed ignore fails (map pair_of (drop i pairs)) tree ≡ whole) where
  rest : drop i pairs ≡ pair ∷ drop (i + 1) pairs
  rest = drop_more pairs i pair inside ∙ ap (λ p. p ∷ drop (i + 1) pairs) (sym at)

  step : and_then (pair_renamed ignore fails (pair_of pair) tree) (λ t. pairs_renamed ignore fails (map pair_of (drop (i + 1) pairs)) t) ≡ whole
  step = sym (ap (λ l. pairs_renamed ignore fails (map pair_of l) tree) rest) ∙ so_far

  pub next_pair : IfSome error (λ _. after ≡ tree) → (fails ≡ true → (text : List ℕ) → error ≡ Some text → ⊥) → pairs_renamed ignore fails (map pair_of (drop (i + 1) pairs)) after ≡ whole
  next_pair kept goes =
      sym (ap (λ a. and_then a (λ t. pairs_renamed ignore fails (map pair_of (drop (i + 1) pairs)) t))
      (whether_it_fails (pair_of pair) tree fails (ignore && is_none (get_at (parts_of pair.from) tree)) (rename_fault (pair_of pair) tree) error after one kept goes)) ∙ step

  pub last_pair : (text : List ℕ) → error ≡ Some text → fails ≡ true → whole ≡ attempt_of error after
  last_pair text is does =
      sym step ∙ ap (λ a. and_then a (λ t. pairs_renamed ignore fails (map pair_of (drop (i + 1) pairs)) t))
      (ap (λ b. pair_renamed ignore b (pair_of pair) tree) does ∙ one ∙ ap (λ e. attempt_of e after) is) ∙ sym (ap (λ e. attempt_of e after) is)

pub no_more_pairs : (ignore fails : Bool) (pairs : List NamedPair) (i : ℕ) (tree : TreeValue) (whole : Attempt) → length pairs ≤ i →
    pairs_renamed ignore fails (map pair_of (drop i pairs)) tree ≡ whole → whole ≡ Done tree
no_more_pairs ignore fails pairs i tree whole past so_far = sym so_far ∙ ap (λ l. pairs_renamed ignore fails (map pair_of l) tree) (drop_all i pairs past)
