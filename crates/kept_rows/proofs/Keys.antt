-- Keys are distinguished: of two inputs whose ids have no colon, keys that name a path are the same only if the ids are, and
-- the paths.
use Rattle.std.proofs.Common.{◌≡◌, ◌≢◌, ℕ, List, [], ◌∷◌, ◌++◌, codes, refl, sym, ap, ◌∙◌}
use Rattle.std.proofs.lemmas.List.{append_cancel_left}
use Rattle.std.specs.List.{AllByRecursion}
use Rattle.file_identity.specs.Key.{path_key}
use Rattle.kept_rows.specs.Followed.{IsKeyOf}

abbrev pub HasNoColon : List ℕ → Type 0
HasNoColon text = AllByRecursion (λ byte. byte ≢ 58) text

-- what is before the first colon, and what follows it
same_parts : (first second behind after : List ℕ) → HasNoColon first → HasNoColon second → first ++ 58 ∷ behind ≡ second ++ 58 ∷ after → (first ≡ second) × (behind ≡ after)
same_parts [] [] behind after none none_there is =
    let q : 58 ∷ behind ≡ 58 ∷ after = is in
    let same : behind ≡ after = cc in
    (refl, same)
same_parts [] (byte ∷ second) behind after none none_there is =
    let q : 58 ∷ behind ≡ byte ∷ (second ++ 58 ∷ after) = is in
    let colon : byte ≡ 58 = cc in
    absurd (none_there.0 colon)
same_parts (byte ∷ first) [] behind after none none_there is =
    let q : byte ∷ (first ++ 58 ∷ behind) ≡ 58 ∷ after = is in
    let colon : byte ≡ 58 = cc in
    absurd (none.0 colon)
same_parts (byte ∷ first) (other ∷ second) behind after none none_there is =
    let q : byte ∷ (first ++ 58 ∷ behind) ≡ other ∷ (second ++ 58 ∷ after) = is in
    let same : byte ≡ other = cc in
    let rest : first ++ 58 ∷ behind ≡ second ++ 58 ∷ after = cc in
    let both = same_parts first second behind after none.1 none_there.1 rest in
    (ap (λ (n : ℕ). n ∷ first) same ∙ ap (λ (l : List ℕ). other ∷ l) both.0, both.1)

-- what is in a key of a path after its first word
behind_the_word : (id path : List ℕ) → id ++ codes "::" ++ codes "path" ++ codes "::" ++ path ≡ id ++ (codes "::path::" ++ path)
behind_the_word [] path = refl
behind_the_word (byte ∷ id) path = ap (λ (l : List ℕ). byte ∷ l) (behind_the_word id path)

spelled : (id path : List ℕ) → path_key id path ≡ codes "filestream::" ++ (id ++ (codes "::path::" ++ path))
spelled id path = ap (λ (l : List ℕ). codes "filestream::" ++ l) (behind_the_word id path)

-- the key of a path is one of its input
pub path_key_of_input : (id path : List ℕ) → IsKeyOf id (path_key id path)
path_key_of_input id path = record { rest = codes "path::" ++ path; spelled = spelled id path }

pub path_keys_apart : (id other path place : List ℕ) → HasNoColon id → HasNoColon other → path_key id path ≡ path_key other place → (id ≡ other) × (path ≡ place)
path_keys_apart id other path place none none_there is =
    let behind = append_cancel_left (codes "filestream::") (id ++ (codes "::path::" ++ path)) (other ++ (codes "::path::" ++ place)) (sym (spelled id path) ∙ is ∙ spelled other place) in
    let both = same_parts id other (codes ":path::" ++ path) (codes ":path::" ++ place) none none_there behind in
    (both.0, append_cancel_left (codes ":path::") path place both.1)
