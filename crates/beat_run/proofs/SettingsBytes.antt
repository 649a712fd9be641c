-- What the bytes of the settings spell.
use Rattle.std.proofs.Common.{◌≡◌, ℕ, List, take, Option, IfSome}
use Rattle.beat_config.specs.Document.{AreSettingsOf, IsFirstFault}
use Rattle.beat_config.specs.declared.settings_error.SettingsError.{SettingsError}
use Rattle.event_tree.specs.declared.settings.Settings.{Settings}
use Rattle.source_bytes.proofs.Spelled.{spelled}
use Rattle.beat_run.specs.declared.settings.TheConstants.{LIMIT}

-- settings have no fault
pub never_faulty : (source : Option (List ℕ)) (all : List ℕ) (settings : Settings) (fault : SettingsError) (P : Type 0) →
    ((bytes : List ℕ) (s : Settings) (f : SettingsError) → AreSettingsOf bytes s → IsFirstFault bytes f → ⊥) →
    IfSome source (λ bytes. all ≡ take LIMIT bytes) → AreSettingsOf all settings → IfSome source (λ bytes. IsFirstFault (take LIMIT bytes) fault → P)
never_faulty source all settings fault P law is are = spelled source LIMIT all (λ bytes. IsFirstFault bytes fault → P) is (λ first. absurd (law all settings fault are first))

-- and faulty ones have one first fault
pub only_fault : (source : Option (List ℕ)) (all : List ℕ) (told fault : SettingsError) →
    ((bytes : List ℕ) (first second : SettingsError) → IsFirstFault bytes first → IsFirstFault bytes second → first ≡ second) →
    IfSome source (λ bytes. all ≡ take LIMIT bytes) → IsFirstFault all told → IfSome source (λ bytes. IsFirstFault (take LIMIT bytes) fault → told ≡ fault)
only_fault source all told fault law is are = spelled source LIMIT all (λ bytes. IsFirstFault bytes fault → told ≡ fault) is (λ first. law all told fault are first)
