-- What a look prints in each of its formats (this project's profile).
use Rattle.std.specs.Prelude.{◌≡◌, ℕ, List, Option, Ok}
use Rattle.report.specs.Writing.{WritesAll}
use Rattle.wire_base.specs.declared.numbers.Moment.{Moment}
use Rattle.file_progress.specs.Json.{IsJson}
use Rattle.file_progress.specs.Looks.{Looks, Told}
use Rattle.file_progress.specs.Prometheus.{prometheus_text}
use Rattle.file_progress.specs.Table.{IsTable}
use Rattle.file_progress.specs.declared.overview.Overview.{Overview}
use Rattle.file_progress.specs.declared.showing.Format.{Format}
use Rattle.file_progress.specs.declared.showing.Format.TheVariants.{Json, Prometheus, Table}

abbrev pub IsTextOf : Format → Overview → List ℕ → Type 0
IsTextOf Table overview text = IsTable overview text
IsTextOf Json overview text = IsJson overview text
IsTextOf Prometheus overview text = text ≡ prometheus_text overview

-- the sink was given the text of a look that shows what was known of the objects
pub record Shows (format : Format) (committed : Option Moment) (told : Told) (before after : Option (List ℕ)) : Type 0 where
  pub overview : Overview
  pub looks : Looks told overview
  pub committed_is : overview.committed ≡ committed
  pub text : List ℕ
  pub is_text : IsTextOf format overview text
  pub written : WritesAll before text (Ok tt) after
