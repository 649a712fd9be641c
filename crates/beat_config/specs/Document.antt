-- What a document says, and what is wrong with it; and the same of the bytes that spell it (this project's profile).
use Rattle.std.specs.Prelude.{◌≡◌, ◌⊎◌, true, false, ℕ, ◌<◌, ◌≤◌, List, [], ◌∷◌, ◌++◌, length, codes, Some, None, IsUtf8}
use Rattle.event_tree.specs.declared.settings.Settings.{Settings}
use Rattle.toml.specs.Data.{Members, get_member}
use Rattle.toml.specs.Parse.{parse_document}
use Rattle.beat_config.specs.declared.settings_error.SettingsError.{SettingsError}
use Rattle.beat_config.specs.declared.settings_error.SettingsError.TheVariants.{TooLong, NotToml}
use Rattle.beat_config.specs.Finding.{IsFirst}
use Rattle.beat_config.specs.Input.{inputs_of, inputs_findings}
use Rattle.beat_config.specs.Nesting.{nests_too_deep}
use Rattle.beat_config.specs.Output.{output_of, output_findings, events_of, queue_findings, lanes_of, harvest_findings}
use Rattle.beat_config.specs.Processors.{AreProcessorsOf, processors_findings}
use Rattle.beat_config.specs.Table.{keys_findings}

abbrev pub document_keys : List (List ℕ)
document_keys = codes "inputs" ∷ codes "output" ∷ codes "processors" ∷ codes "queue" ∷ codes "harvest" ∷ []

-- what is wrong with a document, in no order that matters but for two faults of one kind and key
unfoldable pub document_findings : Members → List SettingsError
document_findings document =
    keys_findings [] document_keys (codes "inputs" ∷ codes "output" ∷ []) document
    ++ (inputs_findings (codes "inputs") (get_member (codes "inputs") document)
    ++ (output_findings (codes "output") (get_member (codes "output") document)
    ++ (processors_findings (codes "processors") (get_member (codes "processors") document)
    ++ (queue_findings (codes "queue") (get_member (codes "queue") document)
    ++ harvest_findings (codes "harvest") (get_member (codes "harvest") document)))))

-- the settings are those of the document
pub record AreSettings (document : Members) (settings : Settings) : Type 0 where
  pub inputs : settings.inputs ≡ inputs_of (get_member (codes "inputs") document)
  pub output : settings.output ≡ output_of (get_member (codes "output") document)
  pub processors : AreProcessorsOf (get_member (codes "processors") document) settings.processors
  pub events : settings.events ≡ events_of (get_member (codes "queue") document)
  pub lanes : settings.lanes ≡ lanes_of (get_member (codes "harvest") document)

-- the bytes are those of a document without a fault, and the settings are those of that document
pub record AreSettingsOf (bytes : List ℕ) (settings : Settings) : Type 0 where
  pub few : length bytes ≤ 1048576
  pub text : IsUtf8 bytes
  pub shallow : nests_too_deep bytes ≡ false
  pub document : Members
  pub parsed : parse_document bytes ≡ Some document
  pub faultless : document_findings document ≡ []
  pub said : AreSettings document settings

-- the bytes are no text, nest too deep, or are no TOML document
abbrev pub IsNotToml : List ℕ → Type 0
IsNotToml bytes = (¬ IsUtf8 bytes) ⊎ ((nests_too_deep bytes ≡ true) ⊎ (parse_document bytes ≡ None))

-- the fault of a document is its first
pub record IsFaultOf (bytes : List ℕ) (fault : SettingsError) : Type 0 where
  pub text : IsUtf8 bytes
  pub shallow : nests_too_deep bytes ≡ false
  pub document : Members
  pub parsed : parse_document bytes ≡ Some document
  pub first : IsFirst (document_findings document) fault

-- the first fault of bytes
abbrev pub IsFirstFault : List ℕ → SettingsError → Type 0
IsFirstFault bytes fault =
    ((fault ≡ TooLong) × (1048576 < length bytes))
    ⊎ ((length bytes ≤ 1048576) × (((fault ≡ NotToml) × IsNotToml bytes) ⊎ IsFaultOf bytes fault))
