-- What an error leaves, case by case.
use Rattle.std.proofs.Common.{◌≡◌, ℕ, Bool, true, false, List, Some, None, is_none, if◌then◌else◌, refl, sym, ap, ◌∙◌}
use Rattle.event_tree.specs.Paths.{blocked_at, get_at, put_at}
use Rattle.event_tree.specs.Value.{TreeValue, str}
use Rattle.processors_core.specs.Error.{error_path, with_text, put_if_some, with_error}

module _ (text : List ℕ) (tree : TreeValue) where
  pub text_put : (texts : List ℕ) (after : TreeValue) → blocked_at error_path tree ≡ None → Some (str texts) ≡ with_text text (get_at error_path tree) →
      after ≡ put_at error_path (str texts) tree → after ≡ with_error text tree
  text_put texts after free made is =
      is ∙ ap (λ o. put_if_some o tree) made
      ∙ sym (ap (λ o. if is_none o then put_if_some (with_text text (get_at error_path tree)) tree else tree) free)

  pub text_blocked : (part : ℕ) → blocked_at error_path tree ≡ Some part → tree ≡ with_error text tree
  text_blocked part blocked = sym (ap (λ o. if is_none o then put_if_some (with_text text (get_at error_path tree)) tree else tree) blocked)

  pub no_text : None ≡ with_text text (get_at error_path tree) → tree ≡ with_error text tree
  no_text none = sym (by_case (is_none (blocked_at error_path tree)))
    where
      by_case : (free : Bool) → (if free then put_if_some (with_text text (get_at error_path tree)) tree else tree) ≡ tree
      by_case true = ap (λ o. put_if_some o tree) (sym none)
      by_case false = refl
