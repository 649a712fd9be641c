-- What a known system answers (this project's profile): always the same of one path, since a check changes nothing.
use Rattle.std.specs.Prelude.{ℕ, List, Option}
use Rattle.findings.specs.declared.place.Place.{Place}
use Rattle.findings.specs.declared.skipped.Skipped.{Skipped}

pub record SystemTold : Type 0 where
  -- what has the path
  pub place : List ℕ → Place
  -- what a glob reaches and a run does not ship
  pub skipped : List ℕ → List Skipped
  -- why the file of the path cannot be read
  pub refusal : List ℕ → Option (List ℕ)
  -- why the registry of the folder cannot be written
  pub write_refusal : List ℕ → Option (List ℕ)
  -- how many files the process may have open
  pub open_limit : Option ℕ
