-- The text of a section, put piece by piece.
use Rattle.std.proofs.Common.{◌≡◌, ℕ, List, [], ◌∷◌, ◌++◌, length, take, flat_map, ap, ◌∙◌, append_assoc}
use Rattle.findings.specs.Page.{head_line, more_text, section_text}
use Rattle.findings.specs.Texts.{finding_line}
use Rattle.findings.specs.declared.finding.Finding.{Finding}
use Rattle.findings.specs.declared.kind.Kind.{Kind}
use Rattle.findings.specs.declared.page.TheConstants.{SHOWN}

pub section_put : (kind : Kind) (of : List Finding) (count : ℕ) (old head lines new : List ℕ) → count ≡ length of → (count ≡ 0 → ⊥) → head ≡ old ++ head_line kind count
    → lines ≡ head ++ flat_map finding_line (take SHOWN of) → new ≡ lines ++ more_text count → new ≡ old ++ section_text kind of
section_put kind [] count old head lines new count_is some first second third = absurd (some count_is)
section_put kind (one ∷ others) count old head lines new count_is some first second third =
    let of : List Finding = one ∷ others in
    let shown : List ℕ = flat_map finding_line (take SHOWN of) in
    let more : List ℕ = more_text (length of) in
    third
    ∙ ap (λ (n : ℕ). lines ++ more_text n) count_is
    ∙ ap (λ (l : List ℕ). l ++ more) (second ∙ ap (λ (l : List ℕ). l ++ shown) (first ∙ ap (λ (n : ℕ). old ++ head_line kind n) count_is))
    ∙ append_assoc (old ++ head_line kind (length of)) shown more
    ∙ append_assoc old (head_line kind (length of)) (shown ++ more)
