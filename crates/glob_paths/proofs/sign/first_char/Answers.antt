use Rattle.std.proofs.Common.{ap, sym, ◌∙◌, ◌++◌, length, arith}
use Rattle.std.proofs.lemmas.Str.{chars_past_char, len_utf8_bounds}
use Rattle.std.specs.Char.{encode_utf8}
use Rattle.glob_paths.proofs.Signs.{places_of, chars_empty}
use Rattle.glob_paths.proofs.sign.first_char.Goals as goal

pub returns-in-Some-clause-cases : goal.returns-in-Some-clause-cases
returns-in-Some-clause-cases c =
    let spelled = sym c.chars-rest.ensures.rest ∙ c.in-Some.ensures.steps.0 ∙ ap (λ rest. encode_utf8 c.in-Some.code ++ rest) (sym c.as_str.ensures) in
    chars_past_char c.args.text.now c.as_str.result.now c.in-Some.code c.utf8.text spelled

pub returns-in-Some-clause-places : goal.returns-in-Some-clause-places
returns-in-Some-clause-places c =
    let spelled = sym c.chars-rest.ensures.rest ∙ c.in-Some.ensures.steps.0 ∙ ap (λ rest. encode_utf8 c.in-Some.code ++ rest) (sym c.as_str.ensures) in
    places_of _ _ _ spelled

pub returns-in-Some-clause-shorter : goal.returns-in-Some-clause-shorter
returns-in-Some-clause-shorter c =
    let spelled = sym c.chars-rest.ensures.rest ∙ c.in-Some.ensures.steps.0 ∙ ap (λ rest. encode_utf8 c.in-Some.code ++ rest) (sym c.as_str.ensures) in
    omega (arith, places_of _ _ _ spelled, len_utf8_bounds c.in-Some.code)

pub returns-in-None-clause-cases : goal.returns-in-None-clause-cases
returns-in-None-clause-cases c = chars_empty c.args.text.now (ap length (sym c.chars-rest.ensures.rest) ∙ c.in-None.ensures.steps.0.0)
