-- Which paths a run skipped as it opened files (this project's profile), also if its folder does not say why: those of some listed files,
-- in the order of the list.
use Rattle.std.specs.Prelude.{◌≡◌, List, [], ◌∷◌, ◌++◌}
use Rattle.prospect.specs.declared.listed.Listed.{Listed}
use Rattle.report.specs.declared.passing.Passing.{Passing}
use Rattle.run_steps.specs.BeginsAll.{passed_by}
use Rattle.run_steps.specs.declared.begin.Admission.{Admission}

-- by what became of each of the first ones
abbrev pub passed_among : List Admission → List Listed → List Passing
passed_among [] listed = []
passed_among (one ∷ more) [] = []
passed_among (one ∷ more) (first ∷ listed) = passed_by one first ++ passed_among more listed

pub record ArePassedOver (listed : List Listed) (passed : List Passing) : Type 0 where
  pub begun : List Admission
  pub are : passed ≡ passed_among begun listed
