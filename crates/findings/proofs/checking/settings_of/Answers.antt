use Rattle.std.proofs.Common.{◌⊎◌, inl, inr}
use Rattle.beat_config.specs.Document.{IsFirstFault}
use Rattle.source_bytes.proofs.Spelled.{spelled}
use Rattle.findings.specs.declared.settings.TheConstants.{LIMIT}
use Rattle.findings.proofs.checking.settings_of.Goals as goal

-- the other of two
other_of : (P Q : Type 0) → P ⊎ Q → (P → ⊥) → Q
other_of P Q (inl is) never = absurd (never is)
other_of P Q (inr is) never = is

pub returns : goal.returns
returns g c =
    let first : IsFirstFault c.in-Ok.bytes.items c.in-Err-read_settings.fault =
    rw c.deref.ensures.value at (other_of _ _ c.in-Err-read_settings.ensures.first_fault c.in_default.not-NoMemory)
    in
    record {
      named = tt;
      in_range = tt;
      refused = spelled _ LIMIT c.in-Ok.bytes.items (λ bytes. IsFirstFault bytes c.in-Err-read_settings.fault) c.in-Ok.ensures.read first;
      nothing_told = tt;
    }
