use Rattle.std.proofs.Common.{◌≡◌, ◌⊎◌, inl, inr, take, IfSome, subst}
use Rattle.beat_config.specs.Document.{IsFirstFault}
use Rattle.beat_config.specs.declared.settings_error.SettingsError.{SettingsError}
use Rattle.beat_run.specs.declared.settings.TheConstants.{LIMIT}
use Rattle.source_bytes.proofs.Spelled.{spelled}
use Rattle.beat_run.proofs.SettingsBytes.{never_faulty, only_fault}
use Rattle.beat_run.proofs.settings.read_source.Goals as goal

pub returns-in-Ok-read_settings-clause-fault_refused : goal.returns-in-Ok-read_settings-clause-fault_refused
returns-in-Ok-read_settings-clause-fault_refused g c = λ fault.
    never_faulty _ c.in-Ok.bytes.items c.in-Ok-read_settings.settings fault _ c.settings_or_one_first_fault.ensures.no_fault c.in-Ok.ensures.read (rw c.deref.ensures.value at c.in-Ok-read_settings.ensures.settings_of_the_document)

-- the other of two
other_of : (P Q : Type 0) → P ⊎ Q → (P → ⊥) → Q
other_of P Q (inl is) never = absurd (never is)
other_of P Q (inr is) never = is

pub returns : goal.returns
returns g c =
    let told : SettingsError = c.in-Err.fault in
    let first : IsFirstFault c.in-Ok.bytes.items told = rw c.deref.ensures.value at (other_of _ _ c.in-Err.ensures.first_fault c.in_default.not-NoMemory) in
    record {
      settings = tt;
      in_range = tt;
      fault_only = λ fault is.
          let same : told ≡ fault = cc in
          subst (λ (f : SettingsError). IfSome (g.R.Source.left c.args.source.now) (λ bytes. IsFirstFault (take LIMIT bytes) f)) same
          (spelled _ LIMIT c.in-Ok.bytes.items (λ bytes. IsFirstFault bytes told) c.in-Ok.ensures.read first);
      fault_refused = λ fault. only_fault _ c.in-Ok.bytes.items told fault c.settings_or_one_first_fault.ensures.one_fault c.in-Ok.ensures.read first;
      ends = tt;
    }
