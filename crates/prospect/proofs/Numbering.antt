-- The inputs as they were read, each with its place.
use Rattle.std.proofs.Common.{◌≡◌, ℕ, suc, ◌+◌, ◌<◌, List, [], ◌∷◌, ◌++◌, length, map, take, get_or, sym, ◌∙◌, ap, arith}
use Rattle.std.proofs.lemmas.List.{map-append, take_more, length-take}
use Rattle.event_tree.specs.declared.input_rule.InputRule.{InputRule}
use Rattle.prospect.specs.declared.scan_input.ScanInput.{ScanInput}
use Rattle.prospect.specs.Readings.{Reading, reading, reading_of, readings_from}

one_more : (number : ℕ) (inputs : List InputRule) (input : InputRule) → readings_from number (inputs ++ input ∷ []) ≡ readings_from number inputs ++ reading (number + length inputs) input ∷ []
one_more number [] input = ap (λ (n : ℕ). reading n input ∷ []) (omega arith)
one_more number (first ∷ inputs) input =
    ap (λ (l : List Reading). reading number first ∷ l)
    (one_more (suc number) inputs input ∙ ap (λ (n : ℕ). readings_from (suc number) inputs ++ reading n input ∷ []) (omega arith))

-- the next input was read
pub reads_next : (inputs : List InputRule) (i : ℕ) (input : InputRule) (reads after : List ScanInput) (read : ScanInput) → i < length inputs → input ≡ get_or inputs i input →
    map reading_of reads ≡ readings_from 0 (take i inputs) → reading_of read ≡ reading i input → after ≡ reads ++ read ∷ [] →
    map reading_of after ≡ readings_from 0 (take (i + 1) inputs)
reads_next inputs i input reads after read within is before here after_is =
    let number_is : 0 + length (take i inputs) ≡ i = omega (arith, length-take i inputs) in
    ap (λ (l : List ScanInput). map reading_of l) after_is
    ∙ map-append reading_of reads (read ∷ [])
    ∙ ap (λ (l : List Reading). l ++ reading_of read ∷ []) before
    ∙ ap (λ (r : Reading). readings_from 0 (take i inputs) ++ r ∷ []) here
    ∙ ap (λ (n : ℕ). readings_from 0 (take i inputs) ++ reading n input ∷ []) (sym number_is)
    ∙ sym (one_more 0 (take i inputs) input)
    ∙ ap (λ (x : InputRule). readings_from 0 (take i inputs ++ x ∷ [])) is
    ∙ ap (λ (l : List InputRule). readings_from 0 l) (sym (take_more inputs i input within))
