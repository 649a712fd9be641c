-- One path more of those that a run skipped.
use Rattle.std.proofs.Common.{◌≡◌, List, [], ◌∷◌, ◌++◌, map, ap, sym, ◌∙◌, append_assoc}
use Rattle.std.proofs.lemmas.List.{map-append}
use Rattle.prospect.specs.declared.listed.Listed.{Listed}
use Rattle.report.specs.declared.passing.Passing.{Passing}
use Rattle.report.specs.declared.passing.Why.{Why}
use Rattle.beat_run.specs.Skipped.{skipped_for}

pub skipped_more : (why : Why) (passed : List Passing) (front : List Listed) (one : Listed) (all new : List Passing) → all ≡ passed ++ map (skipped_for why) front → new ≡ all ++ skipped_for why one ∷ [] →
    new ≡ passed ++ map (skipped_for why) (front ++ one ∷ [])
skipped_more why passed front one all new is more =
    more
    ∙ ap (λ (l : List Passing). l ++ skipped_for why one ∷ []) is
    ∙ append_assoc passed (map (skipped_for why) front) (skipped_for why one ∷ [])
    ∙ ap (λ (l : List Passing). passed ++ l) (sym (map-append (skipped_for why) front (one ∷ [])))
