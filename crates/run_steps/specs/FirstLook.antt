-- A first look (Filebeat reference, filestream input; this project's profile): some file that a run follows was asked for its length, unless
-- its first scan passed over each covered path that it showed. Looks that ask which file this is are reads, so none of them counts. A run that
-- was stopped after it had asked its bell at least twice has one.
use Rattle.std.specs.Prelude.{◌≡◌, ◌⊎◌, ℕ, List, Contains, slice_get, Some}
use Rattle.event_tree.specs.declared.input_rule.InputRule.{InputRule}
use Rattle.kept_rows.specs.Account.{FollowedTail, SlotAccount}
use Rattle.kept_rows.specs.Drained.{IsPassedOver}
use Rattle.kept_rows.specs.Run.{Run, Scan}
use Rattle.kept_rows.specs.Scans.{IsCovered, ShowsEntry}
use Rattle.kept_rows.specs.Trace.{Trace, looks_of}
use Rattle.outside.specs.declared.history.Look.{Look}
use Rattle.outside.specs.declared.history.Question.TheVariants.{Length}
use Rattle.outside.specs.declared.history.Shown.{Shown}
use Rattle.rounds.specs.Pairs.{SomeOf}

abbrev pub IsLengthLook : Look → Type 0
IsLengthLook look = look.question ≡ Length

-- a tail was asked this way, by what it reports, open or closed
pub record WasLookedAt (trace : Trace) (tail : FollowedTail) : Type 0 where
  pub looks : List Look
  pub tells : looks_of trace tail.opening ≡ Some looks
  pub asked : SomeOf IsLengthLook looks

-- some tail that was opened to follow the file of its slot was
pub record SomeWasLookedAt (trace : Trace) (account : List SlotAccount) : Type 0 where
  pub one : SlotAccount
  pub of_account : Contains account one
  pub tail : FollowedTail
  pub of_slot : Contains one.following.tails tail
  pub looked : WasLookedAt trace tail

-- each entry of the scan that a glob of an input covers was passed over for its named reason
abbrev pub PassesOverAll : Run → Scan → Type 0
PassesOverAll run scan = (shown : Shown) (input : ℕ) (rule : InputRule) → ShowsEntry run.trace scan shown →
    slice_get run.settings.inputs input ≡ Some rule → IsCovered rule.paths shown.entry.path → IsPassedOver run rule scan shown input

pub record HasFirstLook (run : Run) (account : List SlotAccount) : Type 0 where
  pub scan : Scan
  pub first : slice_get run.scans 0 ≡ Some scan
  pub looked : PassesOverAll run scan ⊎ SomeWasLookedAt run.trace account
