-- Lists that elements make together with those before them: one list after another.
use Rattle.std.proofs.Common.{◌≡◌, List, [], ◌∷◌, ◌++◌, sym, ap, ◌∙◌, append_assoc}
use Rattle.std.proofs.lemmas.List.{append-nil}
use Rattle.prospector_core.specs.Earlier.{flat_map_with_earlier}

module _ {A B : Type 0} (step : List A → A → List B) where
  pub along-append : (earlier xs ys : List A) →
      flat_map_with_earlier step earlier (xs ++ ys) ≡ flat_map_with_earlier step earlier xs ++ flat_map_with_earlier step (earlier ++ xs) ys
  along-append earlier [] ys = ap (λ (e : List A). flat_map_with_earlier step e ys) (sym (append-nil earlier))
  along-append earlier (x ∷ xs) ys =
      ap (λ (l : List B). step earlier x ++ l) (along-append (earlier ++ x ∷ []) xs ys)
      ∙ sym (append_assoc (step earlier x) (flat_map_with_earlier step (earlier ++ x ∷ []) xs) (flat_map_with_earlier step ((earlier ++ x ∷ []) ++ xs) ys))
      ∙ ap (λ (e : List A). (step earlier x ++ flat_map_with_earlier step (earlier ++ x ∷ []) xs) ++ flat_map_with_earlier step e ys) (append_assoc earlier (x ∷ []) xs)

  pub along-push : (xs : List A) (x : A) → flat_map_with_earlier step [] (xs ++ x ∷ []) ≡ flat_map_with_earlier step [] xs ++ step xs x
  along-push xs x = along-append [] xs (x ∷ []) ∙ ap (λ (l : List B). flat_map_with_earlier step [] xs ++ l) (append-nil (step xs x))

  -- where the elements so far and the next one are known
  pub along-more : (xs : List A) (x : A) (made more : List B) → made ≡ flat_map_with_earlier step [] xs → more ≡ step xs x →
      made ++ more ≡ flat_map_with_earlier step [] (xs ++ x ∷ [])
  along-more xs x made more is next =
      ap (λ (l : List B). l ++ more) is ∙ ap (λ (l : List B). flat_map_with_earlier step [] xs ++ l) next ∙ sym (along-push xs x)

  -- where the next one makes nothing
  pub along-same : (xs : List A) (x : A) → step xs x ≡ [] → flat_map_with_earlier step [] (xs ++ x ∷ []) ≡ flat_map_with_earlier step [] xs
  along-same xs x none = along-push xs x ∙ ap (λ (l : List B). flat_map_with_earlier step [] xs ++ l) none ∙ append-nil (flat_map_with_earlier step [] xs)
