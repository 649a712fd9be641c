use Rattle.std.proofs.Common.{◌≡◌, ◌⊎◌, inl, inr, take, IfSome, subst}
use Rattle.beat_config.specs.Document.{IsFirstFault}
use Rattle.beat_config.specs.declared.settings_error.SettingsError.{SettingsError}
use Rattle.source_bytes.proofs.Spelled.{spelled}
use Rattle.file_progress.specs.declared.settings.TheConstants.{LIMIT}
use Rattle.file_progress.proofs.settings.read_source.Goals as goal

-- the other of two
other_of : (P Q : Type 0) → P ⊎ Q → (P → ⊥) → Q
other_of P Q (inl is) never = absurd (never is)
other_of P Q (inr is) never = is

pub returns : goal.returns
returns g c =
    let told : SettingsError = c.in-Err.fault in
    let first : IsFirstFault c.in-Ok.bytes.items told = rw c.deref.ensures.value at (other_of _ _ c.in-Err.ensures.first_fault c.in_default.not-NoMemory) in
    record {
      settings = tt;
      in_range = tt;
      fault = λ fault is.
          let same : told ≡ fault = cc in
          subst (λ (f : SettingsError). IfSome (g.R.Source.left c.args.source.now) (λ bytes. IsFirstFault (take LIMIT bytes) f)) same
          (spelled _ LIMIT c.in-Ok.bytes.items (λ bytes. IsFirstFault bytes told) c.in-Ok.ensures.read first);
      ends = tt;
    }
