-- The unsupported keys of the inputs, with one input more.
use Rattle.std.proofs.Common.{◌≡◌, ℕ, ◌+◌, ◌<◌, List, [], ◌∷◌, ◌++◌, length, take, get_or, sym, ap, ◌∙◌, append_assoc, append-nil, arith}
use Rattle.std.proofs.lemmas.List.{take_more, length-take}
use Rattle.event_tree.specs.declared.input_rule.InputRule.{InputRule}
use Rattle.prospect.specs.Lacks.{lacks_of_input, lacks_of_inputs}

of_one_more : (number : ℕ) (inputs : List InputRule) (input : InputRule) → lacks_of_inputs number (inputs ++ input ∷ []) ≡ lacks_of_inputs number inputs ++ lacks_of_input (number + length inputs) input
of_one_more number [] input = append-nil (lacks_of_input number input) ∙ ap (λ (n : ℕ). lacks_of_input n input) (omega arith)
of_one_more number (first ∷ inputs) input =
    ap (λ (l : List (List ℕ)). lacks_of_input number first ++ l)
    (of_one_more (number + 1) inputs input ∙ ap (λ (n : ℕ). lacks_of_inputs (number + 1) inputs ++ lacks_of_input n input) (omega arith))
    ∙ sym (append_assoc (lacks_of_input number first) (lacks_of_inputs (number + 1) inputs) (lacks_of_input (number + length (first ∷ inputs)) input))

pub of_next : (lacks before after : List (List ℕ)) (inputs : List InputRule) (i : ℕ) (input : InputRule) → i < length inputs → input ≡ get_or inputs i input →
    before ≡ lacks ++ lacks_of_inputs 0 (take i inputs) → after ≡ before ++ lacks_of_input i input → after ≡ lacks ++ lacks_of_inputs 0 (take (i + 1) inputs)
of_next lacks before after inputs i input within is before_is after_is =
    let number_is : 0 + length (take i inputs) ≡ i = omega (arith, length-take i inputs) in
    after_is
    ∙ ap (λ (l : List (List ℕ)). l ++ lacks_of_input i input) before_is
    ∙ append_assoc lacks (lacks_of_inputs 0 (take i inputs)) (lacks_of_input i input)
    ∙ ap (λ (n : ℕ). lacks ++ (lacks_of_inputs 0 (take i inputs) ++ lacks_of_input n input)) (sym number_is)
    ∙ ap (λ (l : List (List ℕ)). lacks ++ l) (sym (of_one_more 0 (take i inputs) input))
    ∙ ap (λ (x : InputRule). lacks ++ lacks_of_inputs 0 (take i inputs ++ x ∷ [])) is
    ∙ ap (λ (l : List InputRule). lacks ++ lacks_of_inputs 0 l) (sym (take_more inputs i input within))

pub two_more : (old first second a b : List (List ℕ)) → first ≡ old ++ a → second ≡ first ++ b → second ≡ old ++ (a ++ b)
two_more old first second a b one two = rw (two, one) (append_assoc old a b)
