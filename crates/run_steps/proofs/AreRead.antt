-- Tails that were read behind each look at their length are so as they are opened, and once they are closed.
use Rattle.std.proofs.Common.{◌≡◌, ℕ, suc, ◌<◌, false, drop, List, [], ◌++◌, length, Option, Some, None, IfSome, sym, ap, subst, ◌∙◌}
use Rattle.std.specs.List.{AllByRecursion}
use Rattle.std.specs.Option.{option_map_or}
use Rattle.harvester.specs.HasTold.{looks_so_far}
use Rattle.kept_rows.specs.Trace.{Closing, closing_in}
use Rattle.outside.specs.Folders.{Event, FolderHistory}
use Rattle.outside.specs.Tails.{TailHistory}
use Rattle.outside.specs.declared.history.Look.{Look}
use Rattle.told_scans.specs.OnlyAsked.{WasClosedWith}
use Rattle.run_steps.specs.ReadBehind.{ReadsBehind}
use Rattle.run_steps.specs.Shown.{IsStillOpen}
use Rattle.run_steps.specs.SoFar.{Left}
use Rattle.run_steps.specs.Stands.{HoldsWhereNoFault, IsLeftRead}
use Rattle.run_steps.proofs.Closing.{closed_again, closed_so}
use Rattle.run_steps.proofs.ReadPlaces.{OnlyRead, only_reads}

-- a tail that was only asked for its key
pub asked_alone : (told : Option TailHistory) (asked : List Look) (base : ℕ) → looks_so_far told ≡ asked → OnlyRead asked → IfSome told (λ tail. ReadsBehind false base tail.looks)
asked_alone None asked base are only = tt
asked_alone (Some tail) asked base are only = only_reads base tail.looks (subst OnlyRead (sym are) only)

-- none was closed
pub none_left_so : (Holds : Left → TailHistory → Type 0) (shown : Option FolderHistory) (left : List Left) → left ≡ [] → IfSome shown (λ now. AllByRecursion (HoldsWhereNoFault Holds now) left)
none_left_so Holds None left none = tt
none_left_so Holds (Some now) left none = subst (λ (l : List Left). AllByRecursion (HoldsWhereNoFault Holds now) l) (sym none) tt

pub none_left_read : (shown : Option FolderHistory) (left : List Left) → left ≡ [] → IfSome shown (λ now. AllByRecursion (IsLeftRead now) left)
none_left_read shown left none = none_left_so (λ one tail. ReadsBehind false one.turned.history.begin.base tail.looks) shown left none

abbrev closing_with : List Look → ℕ → Option Closing
closing_with looks faults = Some (record { looks = looks; faults = faults })

abbrev faults_of : Option Closing → ℕ
faults_of closing = option_map_or (λ (c : Closing). c.faults) closing 0

module _ (now : FolderHistory) (more : List Event) (Holds : Type 0) (tail : TailHistory) (within : tail.opening < length now.events) where
  abbrev after : FolderHistory
  after = record now { events = now.events ++ more }

  abbrev ReadIfNoFault : FolderHistory → Type 0
  ReadIfNoFault folder = closing_in tail.opening (drop (suc tail.opening) folder.events) ≡ closing_with tail.looks 0 → Holds

  -- its closing is the same, whatever is closed later
  pub read_still : WasClosedWith now tail.opening tail.looks → ReadIfNoFault now → ReadIfNoFault after
  read_still was reads closing =
      let same : closing_with tail.looks was.faults ≡ closing_with tail.looks 0 =
      sym (closed_again now more tail.opening (record { looks = tail.looks; faults = was.faults }) within was.closing) ∙ closing in
      let none : was.faults ≡ 0 = ap faults_of same in
      reads (was.closing ∙ ap (closing_with tail.looks) none)

  -- it is closed by the first of these that closes it
  pub read_now : (faults : ℕ) → IsStillOpen now tail.opening → closing_in tail.opening more ≡ closing_with tail.looks faults → (faults ≡ 0 → Holds) → ReadIfNoFault after
  read_now faults still first reads closing =
      let same : closing_with tail.looks faults ≡ closing_with tail.looks 0 =
      sym (closed_so now more tail.opening (record { looks = tail.looks; faults = faults }) within still first) ∙ closing in
      let none : faults ≡ 0 = ap faults_of same in
      reads none
