-- When listed files may be begun (this project's profile): the settings and what was listed are in their ranges, there is a lane, and the
-- keeper may know all their keys.
use Rattle.std.specs.Prelude.{◌≡◌, ◌<◌, ◌≤◌, [], All, length}
use Rattle.beat_config.specs.InRange.{AreInRange}
use Rattle.event_tree.specs.declared.settings.Settings.{Settings}
use Rattle.keeper.specs.Keeping.{Keeping}
use Rattle.prospect.specs.ListedFiles.{IsListedInRange}
use Rattle.rounds.specs.declared.crew.Crew.{Crew}
use Rattle.wire_base.specs.Ranges.{IsMoment}
use Rattle.run_steps.specs.Beginning.{ListedFile}
use Rattle.run_steps.specs.BeginsAll.{IsOfInputs}
use Rattle.run_steps.specs.KnownKeys.{HasRoomToBegin}
use Rattle.run_steps.specs.Starting.{AreFewFiles, starts_among}
use Rattle.run_steps.specs.declared.beginning.Scanned.{Scanned}

-- one of them
pub record IsBeginnable {T W L : Type 0} (settings : Settings) (file : ListedFile) (crew : Crew T W L) (keeper : Keeping) : Type 0 where
  pub settings_in_range : AreInRange settings
  pub in_range : IsListedInRange file.listed
  pub input : file.listed.input < length settings.inputs
  pub moment : IsMoment file.now
  pub some_lanes : 0 < length crew.lanes.items
  pub start : file.start.base ≤ file.listed.size
  pub few : HasRoomToBegin file.listed keeper

-- all of a scan, by a keeper to which nothing was noted
pub record AreBeginnable {T W L : Type 0} (settings : Settings) (scanned : Scanned) (crew : Crew T W L) (keeper : Keeping) : Type 0 where
  pub settings_in_range : AreInRange settings
  pub in_range : All IsListedInRange scanned.listed.items
  pub of_inputs : All (IsOfInputs settings) scanned.listed.items
  pub few : AreFewFiles keeper.store.rows scanned.listed.items
  pub few_listed : length scanned.listed.items ≤ 65_536
  pub starts : scanned.starts.items ≡ starts_among keeper.store.rows scanned.listed.items
  pub moment : IsMoment scanned.now
  pub some_lanes : 0 < length crew.lanes.items
  pub nothing_told : keeper.tracked.notes ≡ []
