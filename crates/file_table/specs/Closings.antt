-- Which tails are closed before a scan (Filebeat reference, `close_inactive`; this project's profile), by the first that
-- applies: one whose file changed; one at rest whose file was removed; one at rest that read less than a scan listed; one that
-- is at rest, gave no line for `close_inactive`, and read all that was listed.
use Rattle.std.specs.Prelude.{◌≡◌, ◌≢◌, ℕ, ◌-◌, nat_lt, Bool, true, false, Option, Some, None, if◌then◌else◌}
use Rattle.wire_base.specs.declared.numbers.Moment.{Moment}
use Rattle.file_table.specs.declared.closing.Closing.{Closing}
use Rattle.file_table.specs.declared.closing.Closing.TheVariants.{Changed, Ended, Unread, Idle}
use Rattle.file_table.specs.declared.closing.Inactive.{Inactive}
use Rattle.file_table.specs.declared.closing.TailLook.{TailLook}
use Rattle.file_table.specs.declared.stand.Stand.{Stand}
use Rattle.file_table.specs.declared.stand.Stand.TheVariants as stand

-- of a present file that is at rest since this moment
abbrev pub resting_closing : TailLook → Inactive → Moment → Option Closing
resting_closing look inactive since =
    if nat_lt look.read_to look.listed then Some Unread
    else (if nat_lt (inactive.now.0 - since.0) inactive.after_ms then None else Some Idle)

abbrev pub present_closing : TailLook → Inactive → Option Moment → Option Closing
present_closing look inactive None = None
present_closing look inactive (Some since) = resting_closing look inactive since

abbrev pub ending_closing : Option Moment → Option Closing
ending_closing None = None
ending_closing (Some since) = Some Ended

abbrev pub closing_of : Stand → TailLook → Inactive → Option Closing
closing_of stand.Waits look inactive = None
closing_of stand.Open look inactive = if look.changed then Some Changed else present_closing look inactive look.idle_since
closing_of (stand.Ending after) look inactive = if look.changed then Some Changed else ending_closing look.idle_since
closing_of stand.Closed look inactive = None
closing_of stand.Removed look inactive = None
closing_of stand.Lost look inactive = None
closing_of stand.Forgotten look inactive = None

-- ---- which closings fit which state

abbrev pub FitsClosing : Closing → Stand → Type 0
FitsClosing why stand.Waits = ⊥
FitsClosing why stand.Open = why ≢ Ended
FitsClosing Changed (stand.Ending after) = Unit {0}
FitsClosing Ended (stand.Ending after) = Unit {0}
FitsClosing Unread (stand.Ending after) = ⊥
FitsClosing Idle (stand.Ending after) = ⊥
FitsClosing why stand.Closed = ⊥
FitsClosing why stand.Removed = ⊥
FitsClosing why stand.Lost = ⊥
FitsClosing why stand.Forgotten = ⊥
