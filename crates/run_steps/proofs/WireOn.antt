-- What a wire told stays in front of what it tells: by nothing, over two steps, and where a connection is refused or a link is finished.
use Rattle.std.proofs.Common.{◌≡◌, ℕ, List, [], ◌∷◌, ◌++◌, append_assoc, append-nil, inl, inr, Option, Some, None, IfSome, sym, ap, subst, ◌∙◌}
use Rattle.outside.specs.Talks.{Talk}
use Rattle.outside.specs.Wires.{Finished, KeepsRefusal, Outcome, Refused, TellsFinishing}
use Rattle.rounds.specs.Pairs.{Pairs}
use Rattle.run_steps.specs.WireOn.{OutcomesGoOn}

pub told_stays : (o : Option (List Outcome)) → OutcomesGoOn o o
told_stays None = tt
told_stays (Some list) = ([], ap (λ (l : List Outcome). Some l) (sym (append-nil list)))

pub told_same : (before after : Option (List Outcome)) → after ≡ before → OutcomesGoOn before after
told_same before after same = subst (OutcomesGoOn before) (sym same) (told_stays before)

pub told_further : (one two three : Option (List Outcome)) → OutcomesGoOn one two → OutcomesGoOn two three → OutcomesGoOn one three
told_further None two three first then = tt
told_further (Some list) two three first then =
    let next : OutcomesGoOn (Some (list ++ first.0)) three = subst (λ (o : Option (List Outcome)). OutcomesGoOn o three) first.1 then in
    (first.0 ++ next.0, next.1 ∙ ap (λ (l : List Outcome). Some l) (append_assoc list first.0 next.0))

-- a connection was refused
pub told_refused : (before after : Option (List Outcome)) (faults : ℕ) → IfSome before (λ list. KeepsRefusal list after faults) → OutcomesGoOn before after
told_refused None after faults kept = tt
told_refused (Some list) after faults (inl is) = (Refused ∷ [], is)
told_refused (Some list) after faults (inr end) = ([], end.1 ∙ ap (λ (l : List Outcome). Some l) (sym (append-nil list)))

-- a link was finished
pub told_finished : (before : Option (List Outcome)) (talk : Option Talk) (faults idles : ℕ) (after : Option (List Outcome)) → TellsFinishing before talk faults idles after → OutcomesGoOn before after
told_finished None talk faults idles after is = tt
told_finished (Some list) None faults idles after is = ([], is ∙ ap (λ (l : List Outcome). Some l) (sym (append-nil list)))
told_finished (Some list) (Some talk) faults idles after is = (Finished talk faults idles ∷ [], is)

pub all_told_stay : (outcomes : List (Option (List Outcome))) → Pairs OutcomesGoOn outcomes outcomes
all_told_stay [] = tt
all_told_stay (o ∷ outcomes) = (told_stays o, all_told_stay outcomes)
