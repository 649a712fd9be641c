-- What is refused of a list that held, before the run, a closing with the number that an opening of the run gets only later:
-- the looks of the opening are those of its own closing, and by the older one no tail of the run was closed. That the
-- account of such a run stands is worked beside.
use Rattle.std.proofs.Common.{◌≡◌, ℕ, ◌<◌, List, [], ◌∷◌, length, Some, refl, ap, ◌∙◌, arith, codes}
use Rattle.std.specs.List.{slice_get}
use Rattle.glob_paths.specs.Root.{depth_of, root_of}
use Rattle.outside.specs.declared.history.Look.{Look}
use Rattle.outside.specs.Folders.{Closed, Listed, Opened}
use Rattle.told_events.proofs.Worked.{a_log}
use Rattle.kept_rows.specs.Account.{FollowedTail}
use Rattle.kept_rows.specs.Followed.{IsClosedBefore}
use Rattle.kept_rows.specs.Lost.{WasClosedBefore, WasClosedBehind}
use Rattle.kept_rows.specs.Run.{Run, Scan}
use Rattle.kept_rows.specs.Trace.{IsTail, Trace, closing_of, looks_of}
use Rattle.kept_rows.proofs.Worked.{looks, older_looks, run, scan, shown, sight, tail, trace}

-- ---- the looks of the opening

own_closing : closing_of trace 2 ≡ Some (record { looks = looks; faults = 0 })
own_closing = refl

own_looks : looks_of trace 2 ≡ Some looks
own_looks = refl

pub older_looks_are_refused : (path : List ℕ) (number : ℕ) → IsTail trace 2 path number older_looks → ⊥
older_looks_are_refused path number told =
    let q : Some looks ≡ Some older_looks = told.tells in
    let same : looks ≡ older_looks = cc in
    let four : 4 ≡ 1 = ap (λ (l : List Look). length l) same in
    absurd (omega (arith, four))

-- ---- while the tail is still open, the file was opened again and listed again

abbrev open_trace : Trace
open_trace = record trace {
  events =
      Closed 2 older_looks 1
      ∷ Listed (root_of (codes "/w/*")) (depth_of (codes "/w/*")) (shown ∷ [])
      ∷ Opened a_log 0 sight
      ∷ Opened a_log 0 sight
      ∷ Listed (root_of (codes "/w/*")) (depth_of (codes "/w/*")) (shown ∷ [])
      ∷ [];
  open_tails = record { opening = 2; looks = looks } ∷ record { opening = 3; looks = [] } ∷ [];
}

abbrev next_tail : FollowedTail
next_tail = record tail { opening = 3; looks = [] }

abbrev next_scan : Scan
next_scan = record scan { listings = 4 ∷ [] }

abbrev open_run : Run
open_run = record run { trace = open_trace; scans = scan ∷ next_scan ∷ [] }

open_looks : looks_of open_trace 2 ≡ Some looks
open_looks = refl

-- it was not closed before the next one was opened
pub older_closing_is_none : IsClosedBefore open_trace tail next_tail → ⊥
older_closing_is_none closed = absurd (omega (arith, closed.since, closed.before))

-- nor before the second scan
only_the_next_opening : (place faults : ℕ) (told : List Look) → 2 < place → place < 4 → slice_get open_trace.events place ≡ Some (Closed 2 told faults) → ⊥
only_the_next_opening place faults told since before closed =
    let three : 3 ≡ place = omega (arith, since, before) in
    let q : Some (Opened a_log 0 sight) ≡ Some (Closed 2 told faults) = ap (slice_get open_trace.events) three ∙ closed in
    absurd cc

pub older_closing_is_none_before_a_scan : WasClosedBefore open_run next_scan tail → ⊥
older_closing_is_none_before_a_scan closed = only_the_next_opening closed.place closed.faults closed.looks closed.since closed.before.0 closed.closed

pub older_closing_is_none_behind_a_scan : WasClosedBehind open_run 0 tail → ⊥
older_closing_is_none_behind_a_scan closed = only_the_next_opening closed.place closed.faults closed.looks closed.since closed.before.0.0 closed.closed
