-- The settings of a run (this project's profile): those that all bytes of its source spell, as far as these are known.
use Rattle.std.specs.Prelude.{ℕ, List, take, Option, IfSome}
use Rattle.beat_config.specs.Document.{AreSettingsOf}
use Rattle.event_tree.specs.declared.settings.Settings.{Settings}
use Rattle.beat_run.specs.declared.settings.TheConstants.{LIMIT}

abbrev pub IsNamed : Option (List ℕ) → Settings → Type 0
IsNamed source settings = IfSome source (λ bytes. AreSettingsOf (take LIMIT bytes) settings)
