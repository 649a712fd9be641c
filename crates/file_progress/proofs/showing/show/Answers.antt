use Rattle.std.proofs.Common.{subst}
use Rattle.registry_store.specs.Choice.{Choice, Refused}
use Rattle.report.specs.declared.status.Status.{Status}
use Rattle.file_progress.specs.Registry.{IsGivenBy, IsRefusedAs}
use Rattle.file_progress.proofs.showing.show.Goals as goal

pub returns-in-Err-clause-registry_bad_only_where_the_areas_are_refused : goal.returns-in-Err-clause-registry_bad_only_where_the_areas_are_refused
returns-in-Err-clause-registry_bad_only_where_the_areas_are_refused g c = λ first second area at a b is.
    subst (λ (s : Status). IsRefusedAs first second s) is (c.in-Err.ensures.refused first second a b)

pub returns-in-Ok-write_all-clause-shown : goal.returns-in-Ok-write_all-clause-shown
returns-in-Ok-write_all-clause-shown g c = λ _. record {
  overview = c.in-Ok.overview;
  looks = c.in-Ok.ensures.shown;
  committed_is = c.in-Ok.ensures.committed;
  text = c.in-Ok-text_of.text.items;
  is_text = c.in-Ok-text_of.ensures;
  written = rw c.deref.ensures.value at c.in-Ok-write_all.ensures.told;
}

pub returns-in-Ok-write_all-clause-refused_areas_are_never_shown : goal.returns-in-Ok-write_all-clause-refused_areas_are_never_shown
returns-in-Ok-write_all-clause-refused_areas_are_never_shown g c = λ first second area at a b refused _.
    let looks = c.in-Ok.ensures.shown in
    let gives = looks.given first second a b in
    let same = c.one_choice.ensures first second gives.choice (Refused area at) gives.chosen refused in
    subst (λ (choice : Choice). IsGivenBy choice looks.registry) same gives.given
