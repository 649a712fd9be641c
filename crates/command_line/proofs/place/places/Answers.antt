use Rattle.std.proofs.Common.{◌∙◌, ◌++◌, ap, codes, List, ℕ}
use Rattle.command_line.proofs.place.places.Goals as goal

pub returns-clause-first_area_in_data : goal.returns-clause-first_area_in_data
returns-clause-first_area_in_data c =
    (c.in_ok-asked.asked, c.in_ok-asked.ensures, c.in_ok-joined.ensures ∙ ap (λ (t : List ℕ). t ++ codes "/registry.a") c.as_str-folder.ensures)

pub returns-clause-second_area_in_data : goal.returns-clause-second_area_in_data
returns-clause-second_area_in_data c =
    (c.in_ok-asked.asked, c.in_ok-asked.ensures, c.in_ok-joined-2.ensures ∙ ap (λ (t : List ℕ). t ++ codes "/registry.b") c.as_str-folder.ensures)
