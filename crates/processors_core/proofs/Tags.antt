-- What `add_tags` makes of a tree, case by case.
use Rattle.std.proofs.Common.{◌≡◌, ℕ, Bool, true, false, List, [], ◌∷◌, ◌++◌, map, codes, Option, Some, None, is_none, if◌then◌else◌, refl, sym, ap, ◌∙◌}
use Rattle.event_tree.specs.Parts.{parts_of}
use Rattle.event_tree.specs.Paths.{blocked_at, get_at, put_at}
use Rattle.event_tree.specs.Value.{TreeValue, null, flag, int, str, list, fields, as_values, list_of}
use Rattle.processors_core.specs.Attempt.{Failed}
use Rattle.processors_core.specs.Error.{settled, with_error}
use Rattle.processors_core.specs.Tagged.{with_tags, put_if, tags_added, list_at}

without_list : (tags : List (List ℕ)) (found : Option TreeValue) → None ≡ list_at found → with_tags tags found ≡ None
without_list tags None none = absurd (cc)
without_list tags (Some null) none = refl
without_list tags (Some (flag b)) none = refl
without_list tags (Some (int n)) none = refl
without_list tags (Some (str s)) none = refl
without_list tags (Some (list vs)) none = absurd (cc)
without_list tags (Some (fields ms)) none = refl

with_list : (tags : List (List ℕ)) (old : List TreeValue) (found : Option TreeValue) → Some old ≡ list_at found → with_tags tags found ≡ Some (list (as_values (old ++ map str tags)))
with_list tags old None is = let none : [] ≡ old = cc in ap (λ (l : List TreeValue). Some (list (as_values (l ++ map str tags)))) none
with_list tags old (Some null) is = absurd (cc)
with_list tags old (Some (flag b)) is = absurd (cc)
with_list tags old (Some (int n)) is = absurd (cc)
with_list tags old (Some (str s)) is = absurd (cc)
with_list tags old (Some (list vs)) is = let same : list_of vs ≡ old = cc in ap (λ (l : List TreeValue). Some (list (as_values (l ++ map str tags)))) same
with_list tags old (Some (fields ms)) is = absurd (cc)

pub values_back : (vs : List TreeValue) → list_of (as_values vs) ≡ vs
values_back [] = refl
values_back (v ∷ vs) = ap (λ (t : List TreeValue). v ∷ t) (values_back vs)

module _ (tags : List (List ℕ)) (target : List ℕ) (tree : TreeValue) where
  -- the target is there and is no list
  pub on_no_list : None ≡ list_at (get_at (parts_of target) tree) → with_error (codes "add_tags: no list at " ++ target) tree ≡ settled tree (tags_added tags target tree)
  on_no_list none = sym (by_case (is_none (blocked_at (parts_of target) tree)))
    where
      by_case : (free : Bool) → settled tree (if free then put_if (codes "add_tags: no list at " ++ target) (parts_of target) (with_tags tags (get_at (parts_of target) tree)) tree else Failed (codes "add_tags: no list at " ++ target))
          ≡ with_error (codes "add_tags: no list at " ++ target) tree
      by_case true = ap (λ o. settled tree (put_if (codes "add_tags: no list at " ++ target) (parts_of target) o tree)) (without_list tags (get_at (parts_of target) tree) none)
      by_case false = refl

  -- a part of the target is in something that is no map
  pub on_no_map : (part : ℕ) → blocked_at (parts_of target) tree ≡ Some part → with_error (codes "add_tags: no list at " ++ target) tree ≡ settled tree (tags_added tags target tree)
  on_no_map part blocked =
      sym (ap (λ o. settled tree (if is_none o then put_if (codes "add_tags: no list at " ++ target) (parts_of target) (with_tags tags (get_at (parts_of target) tree)) tree else Failed (codes "add_tags: no list at " ++ target))) blocked)

  pub tagged : (old : List TreeValue) (after : TreeValue) → Some old ≡ list_at (get_at (parts_of target) tree) → blocked_at (parts_of target) tree ≡ None →
      after ≡ put_at (parts_of target) (list (as_values (old ++ map str tags))) tree → after ≡ settled tree (tags_added tags target tree)
  tagged old after is free put =
      put ∙ sym (ap (λ o. settled tree (if is_none o then put_if (codes "add_tags: no list at " ++ target) (parts_of target) (with_tags tags (get_at (parts_of target) tree)) tree else Failed (codes "add_tags: no list at " ++ target))) free
      ∙ ap (λ o. settled tree (put_if (codes "add_tags: no list at " ++ target) (parts_of target) o tree)) (with_list tags old (get_at (parts_of target) tree) is))
