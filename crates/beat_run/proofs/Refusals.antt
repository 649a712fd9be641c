-- A run that goes on was not refused.
use Rattle.std.proofs.Common.{◌≡◌, refl, inl, inr, ℕ, List, take, Option, Some, None, IfSome, IsSomeAnd}
use Rattle.beat_config.specs.Document.{AreSettingsOf, IsFirstFault}
use Rattle.beat_config.specs.declared.settings_error.SettingsError.{SettingsError}
use Rattle.command_line.specs.Words.{IsNoCommand}
use Rattle.event_tree.specs.declared.settings.Settings.{Settings}
use Rattle.prospect.specs.Lacks.{IsFirstLack}
use Rattle.report.specs.declared.status.Lack.{Lack}
use Rattle.run_steps.specs.Registry.{AreRefusedAt}
use Rattle.wire_base.specs.declared.limits.Which.{Which}
use Rattle.beat_run.specs.Asked.{AskFor}
use Rattle.beat_run.specs.Untouched.{AskByKey, IsRefused}
use Rattle.beat_run.specs.declared.settings.TheConstants.{LIMIT}

both_told : (first second : Option (List ℕ)) (P : Type 0) → ((one other : List ℕ) (area : Which) (at : ℕ) → first ≡ Some one → second ≡ Some other → AreRefusedAt one other area at → P) →
    IsSomeAnd first (λ one. IsSomeAnd second (λ other. (area : Which) × (at : ℕ) × AreRefusedAt one other area at)) → P
both_told None second P so is = absurd is
both_told (Some one) None P so is = absurd is
both_told (Some one) (Some other) P so is = so one other is.0 is.1 refl refl is.2

faultless : (source : Option (List ℕ)) → ((fault : SettingsError) → IfSome source (λ bytes. IsFirstFault (take LIMIT bytes) fault → ⊥)) →
    IsSomeAnd source (λ bytes. (fault : SettingsError) × IsFirstFault (take LIMIT bytes) fault) → ⊥
faultless None never is = absurd is
faultless (Some bytes) never is = never is.0 is.1

keyless : (source : Option (List ℕ)) → ((settings : Settings) (key : List ℕ) → IfSome source (λ bytes. AreSettingsOf (take LIMIT bytes) settings → IsFirstLack settings key → ⊥)) →
    IsSomeAnd source (λ bytes. (key : List ℕ) × AskByKey (take LIMIT bytes) key) → ⊥
keyless None never is = absurd is
keyless (Some bytes) never is = never is.1.settings is.0 is.1.are is.1.first

-- once arguments and settings are found good, only the areas may refuse a run
pub refused_by_areas : (words : List (List ℕ)) (source first second : Option (List ℕ)) (P : Type 0) → (IsNoCommand words → ⊥) → ((lack : Lack) → AskFor words lack → ⊥) →
    ((fault : SettingsError) → IfSome source (λ bytes. IsFirstFault (take LIMIT bytes) fault → ⊥)) →
    ((settings : Settings) (key : List ℕ) → IfSome source (λ bytes. AreSettingsOf (take LIMIT bytes) settings → IsFirstLack settings key → ⊥)) →
    ((one other : List ℕ) (area : Which) (at : ℕ) → first ≡ Some one → second ≡ Some other → AreRefusedAt one other area at → P) → IsRefused words source first second → P
refused_by_areas words source first second P command lacks faults keys so (inl none) = absurd (command none)
refused_by_areas words source first second P command lacks faults keys so (inr (inl asked)) = absurd (lacks asked.0 asked.1)
refused_by_areas words source first second P command lacks faults keys so (inr (inr (inl fault))) = absurd (faultless source faults fault)
refused_by_areas words source first second P command lacks faults keys so (inr (inr (inr (inl key)))) = absurd (keyless source keys key)
refused_by_areas words source first second P command lacks faults keys so (inr (inr (inr (inr written)))) = both_told first second P so written
