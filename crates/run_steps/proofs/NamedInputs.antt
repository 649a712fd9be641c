-- Inputs within the ranges of the settings have their own ids, and their files may be asked for their keys.
use Rattle.std.proofs.Common.{◌≡◌, ◌≢◌, ℕ, suc, true, false, AllPairs, List, [], ◌∷◌, get_or, map, IsTrue, sym, ap, subst, ◌∙◌, arith}
use Rattle.std.specs.List.{AllByRecursion}
use Rattle.accounts.proofs.Grounded.{of_map}
use Rattle.accounts.specs.RunsInARow.{HaveOwnIds}
use Rattle.beat_config.specs.InRange.{AreInRange, IsIdentityInRange, IsInputInRange}
use Rattle.beat_config.specs.Name.{is_name_byte}
use Rattle.event_tree.specs.declared.input_rule.IdentityRule.{IdentityRule}
use Rattle.event_tree.specs.declared.input_rule.IdentityRule.TheVariants.{Fingerprint, Native, Path}
use Rattle.event_tree.specs.declared.input_rule.InputRule.{InputRule}
use Rattle.event_tree.specs.declared.settings.Settings.{Settings}
use Rattle.file_identity.specs.Answers.{IsAskable}
use Rattle.kept_rows.specs.Scans.{AreDistinct}
use Rattle.prospect.specs.AskedFiles.{AreAskable}
use Rattle.told_scans.proofs.Members.{each_of}

-- no letter, digit or other byte of a name is a colon
no_colon_there : (bytes : List ℕ) → AllByRecursion (λ byte. IsTrue (is_name_byte byte)) bytes → AllByRecursion (λ byte. byte ≢ 58) bytes
no_colon_there [] each = tt
no_colon_there (byte ∷ bytes) each = (
  λ colon. let is : is_name_byte 58 ≡ true = subst (λ (n : ℕ). is_name_byte n ≡ true) colon each.0 in absurd (let q : false ≡ true = is in cc),
  no_colon_there bytes each.1,
)

no_colons : (inputs : List InputRule) → AllByRecursion IsInputInRange inputs → AllByRecursion (λ (input : InputRule). AllByRecursion (λ byte. byte ≢ 58) input.id) inputs
no_colons [] each = tt
no_colons (input ∷ inputs) each = (
  no_colon_there input.id (each_of (λ byte. IsTrue (is_name_byte byte)) input.id each.0.id.bytes),
  no_colons inputs each.1,
)

ids_apart : (inputs : List InputRule) → AllPairs (λ (earlier later : InputRule). earlier.id ≢ later.id) inputs → AreDistinct (map (λ (input : InputRule). input.id) inputs)
ids_apart [] differ = tt
ids_apart (input ∷ inputs) differ = (
  λ there.
      let of = of_map (λ (other : InputRule). other.id) inputs input.id there in
      differ 0 (suc of.among.0) of.item (omega arith) (let k = of.among.1 in omega (arith, k)) (sym (ap (λ (other : InputRule). other.id) of.among.2 ∙ of.is)),
  ids_apart inputs (λ i j d before within. differ (suc i) (suc j) d (omega (arith, before)) (omega (arith, within))),
)

pub inputs_have_own_ids : (settings : Settings) → AreInRange settings → HaveOwnIds settings.inputs
inputs_have_own_ids settings in_range = record {
  no_colon = no_colons settings.inputs (each_of IsInputInRange settings.inputs in_range.inputs);
  ids_apart = ids_apart settings.inputs in_range.ids_differ;
}

-- ---- what their files may be asked

-- a fingerprint in its range is of some bytes within a file
askable : (rule : IdentityRule) → IsIdentityInRange rule → IsAskable rule
askable (Fingerprint offset count) range = (omega (arith, range.1.0), omega (arith, range.0, range.1.1))
askable Native range = tt
askable Path range = tt

pub inputs_are_askable : (settings : Settings) → AreInRange settings → AreAskable settings.inputs
inputs_are_askable settings in_range k d within = askable (get_or settings.inputs k d).file_identity (in_range.inputs k d within).file_identity
