-- The notes of a run are backed by the account of its files with the slots of hidden rows after it.
use Rattle.std.proofs.Common.{◌≡◌, ◌⊎◌, inl, inr, ◌==◌, List, [], Contains, map, Option, Some, None, IfSome, refl, sym, ap, subst, ◌∙◌, arith}
use Rattle.std.specs.List.{AllByRecursion}
use Rattle.std.proofs.lemmas.Bool.{cond-true, eq-eqb}
use Rattle.harvester.specs.History.{Telling}
use Rattle.kept_rows.specs.Account.{Place, SlotAccount, slot_at}
use Rattle.kept_rows.specs.Backed.{AreBacked, Backs}
use Rattle.kept_rows.specs.Run.{Run}
use Rattle.kept_rows.specs.Scans.{AreDistinct}
use Rattle.kept_rows.specs.Trace.{WireTold}
use Rattle.wire_base.specs.declared.note.Note.{Note}
use Rattle.wire_base.specs.declared.parcel.Parcel.{Parcel}
use Rattle.slot_parts.specs.Tellings.{tellings_in}
use Rattle.accounts.specs.Filed.{Filed, IsFiled, Removal, account_of, accounts_of, slot_in, turned_in, turned_of}
use Rattle.accounts.specs.FollowedFile.{IsFollowedFile, WasRemovedBy}
use Rattle.accounts.specs.Places.{IsPlacedWell}
use Rattle.accounts.specs.Ground.{HasGround, IsAcknowledgement, IsNoteBy, IsNoteOf}
use Rattle.accounts.specs.Hidden.{AreBeside, Hidden, hidden_account, hidden_begin, hidden_forget, hidden_slot, with_hidden}
use Rattle.accounts.specs.ToldNotes.{IsBeginOfOne, IsForgetOf, IsKnownNote, IsMomentOfOne, IsNamingOf, IsOfHidden}
use Rattle.accounts.specs.Turned.{Turned}
use Rattle.accounts.proofs.Backing.{acknowledged_is_backed, announcement_is_backed, begin_is_backed, dropped_is_backed, moment_is_backed, slot_found}
use Rattle.accounts.proofs.Grounded.{of_map}
use Rattle.accounts.proofs.HiddenSlots.{HasOtherSlot, backs_with_hidden, files_have_others, hidden_found}
use Rattle.accounts.proofs.Lists.{each_then}
use Rattle.accounts.proofs.Orderly.{member_is}
use Rattle.accounts.proofs.Removing.{earlier_epochs, ends_at, epochs_are, last_epoch, last_found}

-- the Forget of a file that was removed
forget_is_backed : (run : Run) (placed : Parcel → Option Place) (wires : List WireTold) (files : List Filed) → AreDistinct (map slot_in files) → (file : Filed) → Contains files file →
    IsFollowedFile run file → (note : Note) → IsForgetOf file note → Backs (accounts_of placed files) wires note
forget_is_backed run placed wires files apart file among is note forget =
    let by = subst (λ (o : Option Removal). IfSome o (WasRemovedBy run file)) forget.removed is.removed in
    subst (Backs (accounts_of placed files) wires) (sym forget.is) (record {
      one = account_of placed file;
      slot_is = slot_found placed files file among apart;
      earlier = earlier_epochs run placed file is by.rests;
      last = last_epoch run placed file is by.rests;
      epochs_are = epochs_are run placed file is by.rests;
      epoch_is = last_found run placed file is by.rests;
      end_is = sym (ends_at run placed file is by.rests);
    })

module _ (placed : Parcel → Option Place) (wires : List WireTold) (files : List Filed) (apart : AreDistinct (map slot_in files)) (filed : AllByRecursion IsFiled files) where
  begin_of_one_is_backed : (note : Note) → IsBeginOfOne files note → Backs (accounts_of placed files) wires note
  begin_of_one_is_backed note of =
      subst (Backs (accounts_of placed files) wires) (sym of.begins.is)
      (begin_is_backed placed wires files apart of.file of.of_files (member_is IsFiled files of.file filed of.of_files) of.file.opened.begin.key of.begins.path of.begins.changed refl of.begins.within)

  moment_of_one_is_backed : (note : Note) → IsMomentOfOne files note → Backs (accounts_of placed files) wires note
  moment_of_one_is_backed note seen =
      subst (Backs (accounts_of placed files) wires) (sym seen.is)
      (moment_is_backed placed wires files apart seen.file seen.of_files (member_is IsFiled files seen.file filed seen.of_files) seen.changed.0 seen.within)

  module _ (acknowledged : List Parcel) (well : (parcel : Parcel) → Contains acknowledged parcel → IsPlacedWell placed wires parcel) where
    note_is_backed : (note : Note) → IsNoteOf (turned_of files) note → Backs (accounts_of placed files) wires note
    note_is_backed note of =
        let file = of_map turned_in files of.turned of.epoch.of_files in
        let is_filed = member_is IsFiled files file.item filed file.among in
        by_turned file.item file.among is_filed of.turned file.is of.telling of.epoch.of_file of.is
      where
        by_kind : (file : Filed) → Contains files file → IsFiled file → (telling : Telling) → Contains (tellings_in (turned_in file).history) telling → IsNoteBy (turned_in file) telling note →
            Backs (accounts_of placed files) wires note
        by_kind file among is_filed telling there (inl announced) =
            subst (Backs (accounts_of placed files) wires) (sym announced) (announcement_is_backed placed wires files apart file among is_filed telling there)
        by_kind file among is_filed telling there (inr settled) = dropped_is_backed placed wires files apart file among is_filed telling there note settled

        by_turned : (file : Filed) → Contains files file → IsFiled file → (turned : Turned) → (turned_in file) ≡ turned → (telling : Telling) →
            Contains (tellings_in turned.history) telling → IsNoteBy turned telling note → Backs (accounts_of placed files) wires note
        by_turned file among is_filed turned same telling there is =
            by_kind file among is_filed telling (subst (λ (t : Turned). Contains (tellings_in t.history) telling) (sym same) there)
            (subst (λ (t : Turned). IsNoteBy t telling note) (sym same) is)

    acknowledgement_is_backed : (note : Note) → IsAcknowledgement (turned_of files) acknowledged note → Backs (accounts_of placed files) wires note
    acknowledgement_is_backed note of =
        let file = of_map turned_in files of.of.turned of.of.epoch.of_files in
        let is_filed = member_is IsFiled files file.item filed file.among in
        let there = subst (λ (t : Turned). Contains (tellings_in t.history) of.of.telling) (sym file.is) of.of.epoch.of_file in
        let at = well of.parcel of.among in
        subst (Backs (accounts_of placed files) wires) (sym of.is)
        (acknowledged_is_backed placed wires files apart file.item file.among is_filed of.of.telling there of.of.event of.parcel at.place of.of.told
        (of.of.slot_is ∙ ap (λ (t : Turned). t.slot) (sym file.is)) of.of.epoch_is of.of.span_is of.of.fate_is at.is at.stands)

    has_ground_is_backed : (note : Note) → HasGround (turned_of files) acknowledged note → Backs (accounts_of placed files) wires note
    has_ground_is_backed note (inl told) = note_is_backed note told
    has_ground_is_backed note (inr settled) = acknowledgement_is_backed note settled

    -- ---- with the slots of hidden rows

    module _ (run : Run) (followed : AllByRecursion (IsFollowedFile run) files) (hiddens : List Hidden) (beside : AreBeside files hiddens) where
      abbrev all : List SlotAccount
      all = with_hidden (accounts_of placed files) hiddens

      others : AllByRecursion (HasOtherSlot hiddens) (accounts_of placed files)
      others = files_have_others placed files hiddens beside

      hidden_is_backed : (note : Note) → IsOfHidden hiddens note → Backs all wires note
      hidden_is_backed note of = by_kind of.is
        where
          found : slot_at (hidden_slot of.hidden) all ≡ Some (hidden_account of.hidden)
          found = hidden_found (accounts_of placed files) 0 hiddens of.hidden others beside.slots of.of_hiddens

          by_kind : (note ≡ hidden_begin of.hidden) ⊎ (note ≡ hidden_forget of.hidden) → Backs all wires note
          by_kind (inl is) = subst (Backs all wires) (sym is) (
            record { one = hidden_account of.hidden; slot_is = found; key_is = refl; epoch_is = refl; base_is = refl },
            record { one = hidden_account of.hidden; slot_is = found; moment_within = omega arith },
          )
          by_kind (inr is) = subst (Backs all wires) (sym is) (record {
            one = hidden_account of.hidden;
            slot_is = found;
            earlier = [];
            last = record { epoch = of.hidden.start.epoch; start = of.hidden.start.base; life = 0; readings = []; licences = []; told = [] };
            epochs_are = refl;
            epoch_is = cond-true (of.hidden.start.epoch == of.hidden.start.epoch) (Some (record { epoch = of.hidden.start.epoch; start = of.hidden.start.base; life = 0; readings = []; licences = []; told = [] })) None
                (eq-eqb of.hidden.start.epoch of.hidden.start.epoch refl);
            end_is = refl;
          })

      known_is_backed : (note : Note) → IsKnownNote run files hiddens acknowledged note → Backs all wires note
      known_is_backed note (inl (inl begin)) = backs_with_hidden (accounts_of placed files) hiddens others wires note (begin_of_one_is_backed note begin)
      known_is_backed note (inl (inr (inl seen))) = backs_with_hidden (accounts_of placed files) hiddens others wires note (moment_of_one_is_backed note seen)
      known_is_backed note (inl (inr (inr (inl of)))) = hidden_is_backed note of
      known_is_backed note (inl (inr (inr (inr of)))) = by_kind of.is
        where
          by_kind : IsNamingOf run of.file note ⊎ IsForgetOf of.file note → Backs all wires note
          by_kind (inl named) = subst (Backs all wires) (sym named.is) tt
          by_kind (inr forget) =
              backs_with_hidden (accounts_of placed files) hiddens others wires note
              (forget_is_backed run placed wires files apart of.file of.of_files (member_is (IsFollowedFile run) files of.file followed of.of_files) note forget)
      known_is_backed note (inr ground) = backs_with_hidden (accounts_of placed files) hiddens others wires note (has_ground_is_backed note ground)

      pub are_backed : (notes : List Note) → AllByRecursion (IsKnownNote run files hiddens acknowledged) notes → AreBacked all wires notes
      are_backed notes each = each_then (IsKnownNote run files hiddens acknowledged) (Backs all wires) notes known_is_backed each
