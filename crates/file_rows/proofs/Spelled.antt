-- The front of a key: if the parts of one are taken off, what is left is what follows them.
use Rattle.std.proofs.Common.{◌≡◌, ℕ, List, ◌++◌, codes, sym, ap, ◌∙◌}
use Rattle.std.proofs.lemmas.List.{append_cancel_left}
use Rattle.kept_rows.specs.Followed.{IsKeyOf}

pub key_of_input : (id key behind rest after : List ℕ) → key ≡ codes "filestream::" ++ behind → behind ≡ id ++ rest → rest ≡ codes "::" ++ after → IsKeyOf id key
key_of_input id key behind rest after first second third = record {
  rest = after;
  spelled = first ∙ ap (λ (l : List ℕ). codes "filestream::" ++ l) (second ∙ ap (λ (l : List ℕ). id ++ l) third);
}

-- what follows the first word
behind_word : (id key behind : List ℕ) → key ≡ codes "filestream::" ++ behind → (of : IsKeyOf id key) → behind ≡ id ++ (codes "::" ++ of.rest)
behind_word id key behind first of = append_cancel_left (codes "filestream::") behind (id ++ (codes "::" ++ of.rest)) (sym first ∙ of.spelled)

pub has_the_id : (id key behind : List ℕ) → key ≡ codes "filestream::" ++ behind → ((rest : List ℕ) → behind ≡ id ++ rest → ⊥) → IsKeyOf id key → ⊥
has_the_id id key behind first lacks of = lacks (codes "::" ++ of.rest) (behind_word id key behind first of)

pub has_the_colons : (id key behind rest : List ℕ) → key ≡ codes "filestream::" ++ behind → behind ≡ id ++ rest → (of : IsKeyOf id key) → rest ≡ codes "::" ++ of.rest
has_the_colons id key behind rest first second of = append_cancel_left id rest (codes "::" ++ of.rest) (sym second ∙ behind_word id key behind first of)
