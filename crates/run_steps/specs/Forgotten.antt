-- Files that a run forgets (Filebeat reference, `clean_removed`; this project's profile): a later whole scan showed no file with the key, and the last
-- tail of the file is closed. Its end was found before that, where it was asked to end, or the tail was closed before the scan was made, if the folder
-- shows both.
use Rattle.std.specs.Prelude.{◌≡◌, ◌⊎◌, true, List, Contains, IfSome}
use Rattle.std.specs.List.{AllByRecursion}
use Rattle.accounts.specs.FollowedFile.{MayReopenAt}
use Rattle.accounts.specs.Opened.{Opened}
use Rattle.accounts.specs.ToldFile.{IsToldToItsEnd}
use Rattle.told_scans.specs.OnlyAsked.{WasClosedWith}
use Rattle.run_steps.specs.LaterScans.{LaterScan, WasMissed}
use Rattle.run_steps.specs.SoFar.{Forgotten, Left}

-- the tail was closed before the scan was made, as far as the folder shows both
abbrev pub WasClosedBy : LaterScan → Left → Type 0
WasClosedBy scan left = IfSome scan.told (λ told. IfSome left.told (λ tail. WasClosedWith told.earlier tail.opening tail.looks))

-- its input cleans removed files, it was opened so last, and its tail was closed with this, where the file may be opened again
pub record IsForgottenSo (scans : List LaterScan) (opened : List Opened) (left : List Left) (one : Forgotten) : Type 0 where
  pub cleans : one.opened.rule.clean_removed ≡ true
  pub among : Contains opened one.opened
  pub of_left : Contains left one.left
  pub slot_is : one.left.turned.slot ≡ one.opened.begin.slot
  pub missed : WasMissed scans one.opened
  pub may : MayReopenAt one.left.turned.history.stage
  pub done : IsToldToItsEnd one.left.turned.history ⊎ WasClosedBy missed.scan one.left

-- each of these, in a run that made these later scans: with none of them, no file is forgotten
abbrev pub AreForgotten : List LaterScan → List Opened → List Left → List Forgotten → Type 0
AreForgotten scans opened left forgotten = AllByRecursion (IsForgottenSo scans opened left) forgotten
