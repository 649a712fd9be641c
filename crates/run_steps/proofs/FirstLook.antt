-- A tail that was asked for its length is one of the account.
use Rattle.std.proofs.Common.{◌≡◌, ⊎_elim, ℕ, All, List, [], Contains, Option, Some, sym, ap, subst, ◌∙◌}
use Rattle.std.specs.Prelude.{map, option_map}
use Rattle.std.specs.Option.{option_map_or}
use Rattle.accounts.proofs.Backing.{mapped_there}
use Rattle.accounts.proofs.Grounded.{of_map}
use Rattle.accounts.proofs.HiddenSlots.{account_there}
use Rattle.accounts.specs.Accounted.{followed_tail}
use Rattle.accounts.specs.Filed.{Filed, account_of, accounts_of, tail_by}
use Rattle.accounts.specs.Hidden.{with_hidden}
use Rattle.accounts.specs.Opened.{Opened}
use Rattle.kept_rows.specs.Account.{Place, SlotAccount}
use Rattle.kept_rows.specs.Run.{Run}
use Rattle.kept_rows.specs.Trace.{Closing, WireTold, first_of_two, looks_of, open_looks_in}
use Rattle.rounds.specs.Crewed.{lanings}
use Rattle.rounds.specs.Words.{Words}
use Rattle.ship_core.proofs.Members.{first_there}
use Rattle.slot_parts.specs.Tails.{tails_of}
use Rattle.told_scans.specs.OnlyAsked.{WasOnlyAsked}
use Rattle.wire_base.specs.declared.parcel.Parcel.{Parcel}
use Rattle.run_steps.specs.Began.{Began}
use Rattle.run_steps.specs.FirstLook.{SomeWasLookedAt}
use Rattle.run_steps.specs.Looking.{HasLookedSince}
use Rattle.run_steps.specs.Releasing.{HasNoHarvesters}
use Rattle.run_steps.specs.RunOf.{FolderTold, run_of}
use Rattle.run_steps.specs.RunState.{RunState}
use Rattle.run_steps.specs.Scanned.{HasScanned}
use Rattle.run_steps.specs.Shown.{openings_of}
use Rattle.run_steps.specs.SoFar.{SoFar}
use Rattle.run_steps.specs.Stands.{Stands}
use Rattle.run_steps.proofs.EarlierOn.{opened_once}
use Rattle.run_steps.proofs.Looked.{none_asks}
use Rattle.run_steps.proofs.ReadPlaces.{OnlyRead}
use Rattle.run_steps.proofs.RunFiles.{done, files, joined}

module _ {T W L D : Type 0} (words : Words T W L D) (start : Began D) (state : RunState T W L D) (so_far : SoFar) (stands : Stands words start state (opened_once so_far))
    (released : All HasNoHarvesters (lanings state.crew.lanes.items)) (folder : FolderTold) (has : HasScanned start folder) (shown : state.shown ≡ Some folder.ended)
    (wires : List WireTold) (placed : Parcel → Option Place) (since : HasLookedSince folder.scanned folder.ended) where
  abbrev run : Run
  run = run_of start folder so_far.moments wires

  abbrev run_files : List Filed
  run_files = files words start state so_far stands released folder has shown wires

  abbrev file_accounts : List SlotAccount
  file_accounts = accounts_of placed run_files

  -- one that only asked for a key told reads alone
  not_only_asked : WasOnlyAsked folder.ended since.opening → ⊥
  not_only_asked was =
      let same : was.looks ≡ since.looks =
      ap (λ (o : Option Closing). option_map_or (λ (c : Closing). c.looks) o []) (sym was.closed.closing ∙ since.closed.closing) in
      none_asks since.looks (subst OnlyRead same was.reads) since.asked

  tells_so : looks_of run.trace since.opening ≡ Some since.looks
  tells_so = ap (λ (o : Option Closing). first_of_two (option_map (λ (c : Closing). c.looks) o) (open_looks_in since.opening [])) since.closed.closing

  of_file : (file : Filed) → Contains run_files file → file.opened.opening ≡ since.opening → SomeWasLookedAt run.trace (with_hidden file_accounts so_far.hidden)
  of_file file there opening_is = record {
    one = account_of placed file;
    of_account = account_there file_accounts so_far.hidden (account_of placed file) (mapped_there (account_of placed) run_files file there);
    tail = followed_tail file.opened file.looks file.turned.history;
    of_slot = first_there (followed_tail file.opened file.looks file.turned.history) (tails_of (map tail_by file.later));
    looked = record {
      looks = since.looks;
      tells = subst (λ (n : ℕ). looks_of run.trace n ≡ Some since.looks) (sym opening_is) tells_so;
      asked = since.asked;
    };
  }

  of_opened : Contains (openings_of so_far.opened) since.opening → SomeWasLookedAt run.trace (with_hidden file_accounts so_far.hidden)
  of_opened there =
      let opened = of_map (λ (one : Opened). one.opening) so_far.opened since.opening there in
      let joins = joined words start state so_far stands released folder has shown wires in
      let file = of_map (λ (f : Filed). f.opened) run_files opened.item (subst (λ (l : List Opened). Contains l opened.item) (sym joins.opened_are) opened.among) in
      of_file file.item file.among (ap (λ (one : Opened). one.opening) file.is ∙ opened.is)

  pub some_was_looked_at : SomeWasLookedAt run.trace (with_hidden file_accounts so_far.hidden)
  some_was_looked_at =
      ⊎_elim of_opened (λ was. absurd (not_only_asked was))
      ((done words start state so_far stands released folder has shown wires).serve since.opening since.path since.number since.begun since.since since.opened)
