-- What held of tails that were closed, if they counted no fault, holds once the folder's list is longer: each closing is the same.
use Rattle.std.proofs.Common.{◌≡◌, suc, ◌<◌, drop, length, List, Contains, Option, Some, None, IfSome, refl, sym, subst, ℕ}
use Rattle.std.specs.List.{AllByRecursion}
use Rattle.accounts.proofs.Grounded.{each_member}
use Rattle.accounts.proofs.Orderly.{member_is}
use Rattle.accounts.specs.Opened.{IsTailOf}
use Rattle.accounts.specs.Watch.{Watch}
use Rattle.event_tree.specs.declared.settings.Settings.{Settings}
use Rattle.kept_rows.specs.Trace.{closing_in}
use Rattle.outside.specs.Folders.{Event, FolderHistory}
use Rattle.outside.specs.Tails.{TailHistory}
use Rattle.told_scans.specs.OnlyAsked.{WasClosedWith}
use Rattle.run_steps.specs.Shown.{HasDone}
use Rattle.run_steps.specs.SoFar.{Left, SoFar, files_of}
use Rattle.run_steps.specs.Stands.{HoldsWhereNoFault, IsLeftSo}
use Rattle.run_steps.proofs.AreRead.{read_still}
use Rattle.run_steps.proofs.Openings.{below_all, with_more}

module _ (settings : Settings) (before now : FolderHistory) (so_far : SoFar) (done : HasDone settings before now (files_of so_far)) (watch : Watch)
    (so : AllByRecursion (IsLeftSo watch so_far.opened so_far.moments) so_far.left) (more : List Event) (Holds : Left → TailHistory → Type 0) where
  by_told : (one : Left) → Contains so_far.left one → (o : Option TailHistory) → one.told ≡ o →
      IfSome o (λ tail. closing_in tail.opening (drop (suc tail.opening) now.events) ≡ Some (record { looks = tail.looks; faults = 0 }) → Holds one tail) →
      IfSome o (λ tail. closing_in tail.opening (drop (suc tail.opening) (with_more now more).events) ≡ Some (record { looks = tail.looks; faults = 0 }) → Holds one tail)
  by_told one there None is holds = tt
  by_told one there (Some tail) is holds =
      let of = member_is (IsLeftSo watch so_far.opened so_far.moments) so_far.left one so there in
      let tail_is : IsTailOf of.file tail = subst (λ (o : Option TailHistory). IfSome o (IsTailOf of.file)) is of.is_told.tail in
      let below : tail.opening < length now.events = subst (λ (n : ℕ). n < length now.events) (sym tail_is.opening) (below_all settings before now so_far done of.file of.among) in
      read_still now more (Holds one tail) tail below
      (subst (λ (o : Option TailHistory). IfSome o (λ tail. WasClosedWith now tail.opening tail.looks)) is
      (member_is (λ (l : Left). IfSome l.told (λ tail. WasClosedWith now tail.opening tail.looks)) so_far.left one done.closed there)) holds

  -- of some of them
  pub each_left_still : (left : List Left) → ((one : Left) → Contains left one → Contains so_far.left one) → AllByRecursion (HoldsWhereNoFault Holds now) so_far.left →
      AllByRecursion (HoldsWhereNoFault Holds (with_more now more)) left
  each_left_still left among holds = each_member (HoldsWhereNoFault Holds (with_more now more)) left (λ (one : Left) there.
      by_told one (among one there) one.told refl (member_is (HoldsWhereNoFault Holds now) so_far.left one holds (among one there)))

  pub left_still : AllByRecursion (HoldsWhereNoFault Holds now) so_far.left → AllByRecursion (HoldsWhereNoFault Holds (with_more now more)) so_far.left
  left_still holds = each_left_still so_far.left (λ one there. there) holds
