-- A list that each element of another makes together with the elements before it.
use Rattle.std.specs.Prelude.{List, [], ◌∷◌, ◌++◌}

-- what the step makes of each of the elements, one after another, if `earlier` come before the first of them
abbrev pub flat_map_with_earlier : {A B : Type 0} → (List A → A → List B) → List A → List A → List B
flat_map_with_earlier step earlier [] = []
flat_map_with_earlier step earlier (one ∷ others) = step earlier one ++ flat_map_with_earlier step (earlier ++ one ∷ []) others
