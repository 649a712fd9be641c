-- The first key by which settings ask for what is not built: all settings of the same bytes have the same.
use Rattle.std.proofs.Common.{◌≡◌, ℕ, true, false, List, [], take, Contains, Option, Some, None, IfSome, refl, sym, ap, ◌∙◌, subst, arith}
use Rattle.std.proofs.lemmas.List.Elements.{All-contains}
use Rattle.std.proofs.lemmas.Option.{same_Some}
use Rattle.std.specs.Ordering.{is_lt}
use Rattle.std.specs.declared.cmp.Ordering.{Ordering}
use Rattle.std.specs.declared.cmp.Ordering.TheVariants.{Less}
use Rattle.beat_config.specs.Document.{AreSettings, AreSettingsOf, IsFirstFault}
use Rattle.beat_config.specs.declared.settings_error.SettingsError.{SettingsError}
use Rattle.event_tree.specs.declared.input_rule.InputRule.{InputRule}
use Rattle.event_tree.specs.declared.settings.Settings.{Settings}
use Rattle.prospect.specs.Lacks.{IsFirstLack, lacks_of, lacks_of_inputs}
use Rattle.wire_base.specs.KeyOrder.{compare}
use Rattle.report.specs.declared.status.Lack.TheVariants.{Key, Follow}
use Rattle.report.specs.declared.status.Status.{Status}
use Rattle.report.specs.declared.status.Status.TheVariants.{Done, Stopped, Usage, Settings as SettingsFault, RegistryBad, DiskFault, FolderFault, Unreachable, OutFault, SourceFault, TooMany, NoNative, NoMemory, Unbuilt}
use Rattle.beat_run.specs.declared.settings.TheConstants.{LIMIT}
use Rattle.beat_run.specs.Ends.{IsLackEnd, IsSettingsEnd, RefusesKey}
use Rattle.beat_run.specs.Named.{IsNamed}
use Rattle.wire_base.proofs.ByteOrder.{neither_before}

-- ---- settings of the same bytes

-- all settings of the same bytes have the same unsupported keys
same_lacks : (bytes : List ℕ) (settings other : Settings) → AreSettingsOf bytes settings → AreSettingsOf bytes other → lacks_of settings ≡ lacks_of other
same_lacks bytes settings other are also =
    let said : AreSettings also.document settings = subst (λ d. AreSettings d settings) (same_Some _ _ (sym are.parsed ∙ also.parsed)) are.said in
    ap (λ (l : List InputRule). lacks_of_inputs 0 l) (said.inputs ∙ sym also.said.inputs)

same_first_lack : (settings other : Settings) (key also : List ℕ) → lacks_of settings ≡ lacks_of other → IsFirstLack settings key → IsFirstLack other also → key ≡ also
same_first_lack settings other key also same first too =
    let there : Contains (lacks_of settings) also = subst (λ l. Contains l also) (sym same) too.lacking in
    let here : Contains (lacks_of other) key = subst (λ l. Contains l key) same first.lacking in
    neither_before key also
    (λ less. is_less (compare key also) less (All-contains (λ o. is_lt (compare o also) ≡ false) (lacks_of other) key too.first here))
    (λ less. is_less (compare also key) less (All-contains (λ o. is_lt (compare o key) ≡ false) (lacks_of settings) also first.first there))
  where
    is_less : (o : Ordering) → o ≡ Less → is_lt o ≡ false → ⊥
    is_less o is not = let two : true ≡ false = sym (ap is_lt is) ∙ not in cc

no_first_lack : (settings other : Settings) (key : List ℕ) → lacks_of settings ≡ [] → lacks_of settings ≡ lacks_of other → IsFirstLack other key → ⊥
no_first_lack settings other key none same first =
    let there : Contains {X = List ℕ} [] key = subst (λ l. Contains l key) (sym same ∙ none) first.lacking in
    omega (arith, there.1)

-- ---- what a key refuses

-- what is so of each status that ends the reading of the settings
settings_cases : (before now : ℕ) (P : Status → Type 0) → P SourceFault → P NoMemory → ((fault : SettingsError) → P (SettingsFault fault)) → (status : Status) → IsSettingsEnd before now status → P status
settings_cases before now P source memory settings Done ends = absurd ends
settings_cases before now P source memory settings Stopped ends = absurd ends
settings_cases before now P source memory settings Usage ends = absurd ends
settings_cases before now P source memory settings (SettingsFault fault) ends = settings fault
settings_cases before now P source memory settings (RegistryBad area at) ends = absurd ends
settings_cases before now P source memory settings DiskFault ends = absurd ends
settings_cases before now P source memory settings FolderFault ends = absurd ends
settings_cases before now P source memory settings (Unreachable worker failures) ends = absurd ends
settings_cases before now P source memory settings OutFault ends = absurd ends
settings_cases before now P source memory settings SourceFault ends = source
settings_cases before now P source memory settings (TooMany what path) ends = absurd ends
settings_cases before now P source memory settings (NoNative path) ends = absurd ends
settings_cases before now P source memory settings NoMemory ends = memory
settings_cases before now P source memory settings (Unbuilt what) ends = absurd ends

-- and of each that ends the look for what is not built
lack_cases : (P : Status → Type 0) → P NoMemory → ((key : List ℕ) → P (Unbuilt (Key key))) → (status : Status) → IsLackEnd status → P status
lack_cases P memory by_key Done ends = absurd ends
lack_cases P memory by_key Stopped ends = absurd ends
lack_cases P memory by_key Usage ends = absurd ends
lack_cases P memory by_key (SettingsFault fault) ends = absurd ends
lack_cases P memory by_key (RegistryBad area at) ends = absurd ends
lack_cases P memory by_key DiskFault ends = absurd ends
lack_cases P memory by_key FolderFault ends = absurd ends
lack_cases P memory by_key (Unreachable worker failures) ends = absurd ends
lack_cases P memory by_key OutFault ends = absurd ends
lack_cases P memory by_key SourceFault ends = absurd ends
lack_cases P memory by_key (TooMany what path) ends = absurd ends
lack_cases P memory by_key (NoNative path) ends = absurd ends
lack_cases P memory by_key NoMemory ends = memory
lack_cases P memory by_key (Unbuilt (Key key)) ends = by_key key
lack_cases P memory by_key (Unbuilt Follow) ends = absurd ends

-- the settings have a fault, so they are no settings
pub fault_refuses_key : (source : Option (List ℕ)) (before now : ℕ) (status : Status) (settings : Settings) (key : List ℕ) →
    ((bytes : List ℕ) (s : Settings) (f : SettingsError) → AreSettingsOf bytes s → IsFirstFault bytes f → ⊥) → IsSettingsEnd before now status →
    ((fault : SettingsError) → status ≡ SettingsFault fault → IfSome source (λ bytes. IsFirstFault (take LIMIT bytes) fault)) →
    IfSome source (λ bytes. AreSettingsOf (take LIMIT bytes) settings → IsFirstLack settings key → RefusesKey key status)
fault_refuses_key None before now status settings key law ends first = tt
fault_refuses_key (Some bytes) before now status settings key law ends first = λ are lack.
    settings_cases before now (λ s. ((fault : SettingsError) → s ≡ SettingsFault fault → IsFirstFault (take LIMIT bytes) fault) → RefusesKey key s)
    (λ firsts. tt) (λ firsts. tt) (λ fault firsts. absurd (law (take LIMIT bytes) settings fault are (firsts fault refl))) status ends first

-- no key is unsupported, so none is refused
pub no_lack : (source : Option (List ℕ)) (found settings : Settings) (key : List ℕ) (P : Type 0) → IsNamed source found → lacks_of found ≡ [] →
    IfSome source (λ bytes. AreSettingsOf (take LIMIT bytes) settings → IsFirstLack settings key → P)
no_lack None found settings key P named none = tt
no_lack (Some bytes) found settings key P named none = λ are first. absurd (no_first_lack found settings key none (same_lacks (take LIMIT bytes) found settings named are) first)

pub lack_refuses_key : (source : Option (List ℕ)) (status : Status) (found settings : Settings) (key : List ℕ) → IsNamed source found → IsLackEnd status →
    ((k : List ℕ) → status ≡ Unbuilt (Key k) → IsFirstLack found k) →
    IfSome source (λ bytes. AreSettingsOf (take LIMIT bytes) settings → IsFirstLack settings key → RefusesKey key status)
lack_refuses_key None status found settings key named ends only = tt
lack_refuses_key (Some bytes) status found settings key named ends only = λ are first.
    lack_cases (λ s. ((k : List ℕ) → s ≡ Unbuilt (Key k) → IsFirstLack found k) → RefusesKey key s)
    (λ onlies. tt) (λ told onlies. same_first_lack found settings told key (same_lacks (take LIMIT bytes) found settings named are) (onlies told refl) first) status ends only
