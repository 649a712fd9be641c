-- What one turn did, in parts.
use Rattle.std.proofs.Common.{◌≡◌, ℕ, List, [], sym, ap, ◌∙◌, append-nil}
use Rattle.told_events.specs.Told.{ToldEvent}
use Rattle.harvester.specs.History.{History, Stage, with_events, with_licences, with_present, with_read, with_stage}
use Rattle.harvester.specs.Turns.{did_with, with_told}
use Rattle.harvester.proofs.Lasting.{same_read}

module _ (now : ℕ) (h : History) (stage : Stage) where
  -- with no byte more
  pub did_both : (licences : List ℕ) (events : List ToldEvent) → did_with now events (record { bytes = []; licences = licences; stage = stage }) h
      ≡ with_stage stage (with_told licences events h)
  did_both licences events = ap (λ (g : History). with_stage stage (with_told licences events g)) (same_read now h)

  pub did_licences : (licences : List ℕ) → did_with now [] (record { bytes = []; licences = licences; stage = stage }) h
      ≡ with_stage stage (with_present (with_licences licences h.present) h)
  did_licences licences =
      did_both licences []
      ∙ ap (λ (t : List ToldEvent). with_stage stage (with_present (record (with_licences licences h.present) { told = t }) h)) (append-nil h.present.told)

  -- it is only elsewhere
  pub did_stage : did_with now [] (record { bytes = []; licences = []; stage = stage }) h ≡ with_stage stage h
  did_stage =
      did_licences [] ∙ ap (λ (l : List ℕ). with_stage stage (with_present (record h.present { licences = l }) h)) (append-nil h.present.licences)

  module _ (same : h.stage ≡ stage) where
    pub did_events : (events : List ToldEvent) → did_with now events (record { bytes = []; licences = []; stage = stage }) h ≡ with_present (with_events events h.present) h
    did_events events =
        did_both [] events
        ∙ ap (λ (l : List ℕ). with_stage stage (with_present (with_events events (record h.present { licences = l })) h)) (append-nil h.present.licences)
        ∙ ap (λ (s : Stage). with_stage s (with_present (with_events events h.present) h)) (sym same)

    pub did_nothing : did_with now [] (record { bytes = []; licences = []; stage = stage }) h ≡ h
    did_nothing = did_events [] ∙ ap (λ (t : List ToldEvent). with_present (record h.present { told = t }) h) (append-nil h.present.told)

-- with some bytes more, and nothing reported
pub did_bytes : (now : ℕ) (h : History) (stage : Stage) (bytes : List ℕ) → did_with now [] (record { bytes = bytes; licences = []; stage = stage }) h
    ≡ with_stage stage (with_read now bytes h)
did_bytes now h stage bytes =
    let r = with_read now bytes h in
    ap (λ (l : List ℕ). with_stage stage (with_present (with_events [] (record r.present { licences = l })) r)) (append-nil r.present.licences)
    ∙ ap (λ (t : List ToldEvent). with_stage stage (with_present (record r.present { told = t }) r)) (append-nil r.present.told)
