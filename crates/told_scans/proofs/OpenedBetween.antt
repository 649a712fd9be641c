-- Which openings lie between the scans of a run, as it goes on: one more scan has none of them, and more that lists nothing has its own.
use Rattle.std.proofs.Common.{◌≡◌, ◌⊎◌, inl, inr, ⊎_elim, ℕ, ◌≤◌, ◌<◌, List, [], ◌∷◌, Contains, length, Some, subst, arith}
use Rattle.std.specs.Prelude.{slice_get}
use Rattle.event_tree.specs.declared.settings.Settings.{Settings}
use Rattle.outside.specs.Folders.{FolderHistory, Opened as OpenedAs}
use Rattle.outside.specs.declared.history.Sight.{Sight}
use Rattle.told_scans.proofs.AskedEvents.{event_was, longer, only_asked_still}
use Rattle.told_scans.proofs.ScansPlaced.{between_appended, between_later}
use Rattle.told_scans.proofs.ToldScans.{go_on, scan_goes_on}
use Rattle.told_scans.specs.FolderOn.{FolderGoesOn}
use Rattle.told_scans.specs.OnlyAsked.{WasOnlyAsked}
use Rattle.told_scans.specs.ToldScan.{IsTold, ToldScan}
use Rattle.told_scans.specs.ToldScans.{AreOpenedFor, AreToldFrom, AreToldIn, LiesBetween, ToldRun, with_ended, with_scan}

pub between_until : (settings : Settings) (place : ℕ) (before : FolderHistory) (scans : List ToldScan) (now : FolderHistory) → AreToldFrom settings before scans now → LiesBetween place before scans now →
    place < length now.events
between_until settings place before [] now are lies = lies.1
between_until settings place before (told ∷ scans) now are (inl here) =
    let its = longer told.earlier told.scanned (scan_goes_on told are.0.is) in
    let rest = longer told.scanned now (go_on settings told.scanned scans now are.1) in
    omega (arith, here.1, its, rest)
between_until settings place before (told ∷ scans) now are (inr later) = between_until settings place told.scanned scans now are.1 later

module _ (run : ToldRun) (are : AreToldIn run) (openings : List ℕ) (served : AreOpenedFor run openings) where
  -- one that lay there before is one of these, or only asked, still
  still_served : (ended : FolderHistory) → FolderGoesOn run.ended ended → (opening : ℕ) (path : List ℕ) (number : ℕ) (begun : Sight) → LiesBetween opening run.earlier run.scans run.ended →
      slice_get ended.events opening ≡ Some (OpenedAs path number begun) → Contains openings opening ⊎ WasOnlyAsked ended opening
  still_served ended on opening path number begun lies is =
      let less = between_until run.settings opening run.earlier run.scans run.ended are lies in
      ⊎_elim inl (λ was. inr (only_asked_still run.ended ended on opening less was))
      (served opening path number begun lies (event_was run.ended ended on opening (OpenedAs path number begun) less is))

  pub opened_with_scan : (told : ToldScan) → told.earlier ≡ run.ended → IsTold told → AreOpenedFor (with_scan run told) openings
  opened_with_scan told from has opening path number begun lies is =
      still_served told.scanned (subst (λ (h : FolderHistory). FolderGoesOn h told.scanned) from (scan_goes_on told has)) opening path number begun
      (subst (LiesBetween opening run.earlier run.scans) from (between_appended opening run.earlier run.scans told lies)) is

  -- with those that were opened since
  pub opened_since : (ended : FolderHistory) → FolderGoesOn run.ended ended → (more : List ℕ) → ((opening : ℕ) → Contains openings opening → Contains more opening) →
      ((opening : ℕ) (path : List ℕ) (number : ℕ) (begun : Sight) → length run.ended.events ≤ opening → slice_get ended.events opening ≡ Some (OpenedAs path number begun) →
      Contains more opening ⊎ WasOnlyAsked ended opening) → AreOpenedFor (with_ended run ended) more
  opened_since ended on more within new opening path number begun lies is =
      ⊎_elim (λ old. ⊎_elim (λ there. inl (within opening there)) inr (still_served ended on opening path number begun old is)) (λ since. new opening path number begun since is)
      (between_later opening run.earlier run.scans run.ended ended lies)
