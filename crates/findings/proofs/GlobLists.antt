-- The globs of the inputs, with one input more.
use Rattle.std.proofs.Common.{◌≡◌, ℕ, ◌+◌, ◌<◌, List, [], ◌∷◌, ◌++◌, length, take, get_or, sym, ap, ◌∙◌, append_assoc, append-nil, arith}
use Rattle.std.proofs.lemmas.List.{take_more, length-take}
use Rattle.event_tree.specs.declared.input_rule.InputRule.{InputRule}
use Rattle.findings.specs.Globs.{asked_globs, of_input}
use Rattle.findings.specs.declared.globs.GlobAsked.{GlobAsked}

of_one_more : (number : ℕ) (inputs : List InputRule) (input : InputRule) → asked_globs number (inputs ++ input ∷ []) ≡ asked_globs number inputs ++ of_input (number + length inputs) input
of_one_more number [] input = append-nil (of_input number input) ∙ ap (λ (n : ℕ). of_input n input) (omega arith)
of_one_more number (first ∷ inputs) input =
    ap (λ (l : List GlobAsked). of_input number first ++ l)
    (of_one_more (number + 1) inputs input ∙ ap (λ (n : ℕ). asked_globs (number + 1) inputs ++ of_input n input) (omega arith))
    ∙ sym (append_assoc (of_input number first) (asked_globs (number + 1) inputs) (of_input (number + length (first ∷ inputs)) input))

pub of_next : (before after : List GlobAsked) (inputs : List InputRule) (i : ℕ) (input : InputRule) → i < length inputs → input ≡ get_or inputs i input →
    before ≡ asked_globs 0 (take i inputs) → after ≡ before ++ of_input i input → after ≡ asked_globs 0 (take (i + 1) inputs)
of_next before after inputs i input within is before_is after_is =
    let number_is : 0 + length (take i inputs) ≡ i = omega (arith, length-take i inputs) in
    after_is
    ∙ ap (λ (l : List GlobAsked). l ++ of_input i input) before_is
    ∙ ap (λ (n : ℕ). asked_globs 0 (take i inputs) ++ of_input n input) (sym number_is)
    ∙ sym (of_one_more 0 (take i inputs) input)
    ∙ ap (λ (x : InputRule). asked_globs 0 (take i inputs ++ x ∷ [])) is
    ∙ ap (λ (l : List InputRule). asked_globs 0 l) (sym (take_more inputs i input within))
