-- A keeper that was told of hidden rows: the run stands as before, with their slots.
use Rattle.std.proofs.Common.{◌≡◌, inl, inr, ℕ, ◌<◌, ◌≤◌, List, [], ◌∷◌, ◌++◌, Contains, length, take, append_assoc, append-nil, Option, IfSome, refl, sym, ap, subst, ◌∙◌}
use Rattle.std.proofs.lemmas.List.Elements.{Contains-append_left, Contains-append_right}
use Rattle.std.proofs.lemmas.Option.{slice_get_within}
use Rattle.std.specs.List.{AllByRecursion}
use Rattle.accounts.proofs.Lists.{each_then}
use Rattle.accounts.proofs.Ordered.{HasSlotBelow}
use Rattle.accounts.proofs.Orderly.{member_is}
use Rattle.accounts.specs.Hidden.{Hidden, hidden_begin}
use Rattle.accounts.specs.Opened.{Opened}
use Rattle.accounts.specs.ToldNotes.{IsOfHidden}
use Rattle.keeper.specs.Keeping.{Keeping}
use Rattle.kept_rows.proofs.Showing.{both}
use Rattle.outside.specs.Folders.{FolderHistory}
use Rattle.rounds.specs.Words.{Words}
use Rattle.rounds.specs.declared.crew.Crew.{Crew}
use Rattle.ship_core.proofs.Members.{first_there, later_there, none_there}
use Rattle.ship_core.specs.Orderly.{AreOrderly}
use Rattle.wire_base.specs.declared.note.Note.{Note}
use Rattle.wire_base.specs.declared.row.Row.{Row}
use Rattle.run_steps.specs.Began.{Began}
use Rattle.run_steps.specs.Begun.{AreBeginNotes, IsOpenedAsListedFirst, MayBegin, noted_begin}
use Rattle.run_steps.specs.HiddenRows.{AreHiddenAmong, AreHiddenSoFar, TellsHidden, TellsSomeHidden, hidden_notes}
use Rattle.run_steps.specs.RunState.{Phase}
use Rattle.run_steps.specs.SoFar.{SoFar}
use Rattle.run_steps.specs.Stands.{Further, Stands}
use Rattle.run_steps.specs.Telling.{TellsNotes}
use Rattle.run_steps.proofs.EarlierOn.{opened_once}
use Rattle.run_steps.proofs.BeginningOne.{at_phase, may_still}
use Rattle.run_steps.proofs.BegunNotes.{front_orderly}
use Rattle.run_steps.proofs.HiddenAmong.{hidden_orderly}
use Rattle.run_steps.proofs.HiddenTold.{all_begun}
use Rattle.run_steps.proofs.ToldMoments.{StandsUncollected, each_begins, stands_told}
use Rattle.run_steps.proofs.Notes.{front_of_both}

take_all_rows : (rows : List Row) → take (length rows) rows ≡ rows
take_all_rows [] = refl
take_all_rows (row ∷ rows) = ap (λ (l : List Row). row ∷ l) (take_all_rows rows)

-- ---- each note that is told of them is of one of them

of_hidden : (hiddens some : List Hidden) → ((hidden : Hidden) → Contains some hidden → Contains hiddens hidden) → AllByRecursion (IsOfHidden hiddens) (hidden_notes some)
of_hidden hiddens [] within = tt
of_hidden hiddens (hidden ∷ some) within =
    let there = within hidden (first_there hidden some) in (
      record { hidden = hidden; of_hiddens = there; is = inl refl },
      (record { hidden = hidden; of_hiddens = there; is = inr refl }, of_hidden hiddens some (λ other among. within other (later_there hidden other some among))),
    )

module _ {T W L D : Type 0} (words : Words T W L D) (reads : (disk : D) → IfSome (words.disks.contents disk) (words.disks.images disk))
    (counts : (disk : D) (at : ℕ) (image : List ℕ) → at ≤ words.disks.moment disk → words.disks.images disk image → words.disks.images_since disk at image)
    (start : Began D) (moments : Option (List ℕ)) (a b : D) (shown : Option FolderHistory) (crew : Crew T W L) where
  module _ (phase : Phase) (opened : List Opened) (old : Keeping) (is : StandsUncollected words reads counts start moments a b shown crew phase opened old) where
    abbrev was : SoFar
    was = opened_once is.so_far

    -- all notes so far are of slots of listed files
    below : AllByRecursion (HasSlotBelow (length start.listed)) old.tracked.notes
    below = each_then (MayBegin was.scans start.opening start.listed was.opened []) (HasSlotBelow (length start.listed)) old.tracked.notes by_kind (each_begins words reads counts start moments a b shown crew phase opened old is)
      where
        within : (file : Opened) → Contains was.opened file → file.begin.slot.0 < length start.listed
        within file among =
            let listed = member_is (IsOpenedAsListedFirst start.settings start.opening start.listed) was.opened file is.as_first among in
            slice_get_within start.listed file.begin.slot.0 listed.one listed.listed_there

        by_kind : (note : Note) → MayBegin was.scans start.opening start.listed was.opened [] note → HasSlotBelow (length start.listed) note
        by_kind note (inl of) = subst (HasSlotBelow (length start.listed)) (sym of.is) (within of.file of.among)
        by_kind note (inr (inl of)) = subst (HasSlotBelow (length start.listed)) (sym of.is) (within of.file of.among)
        by_kind note (inr (inr (inl of))) = absurd (none_there of.hidden of.of_hiddens)
        by_kind note (inr (inr (inr of))) = subst (HasSlotBelow (length start.listed)) (sym of.is) (within of.file of.among)

    module _ (new : Keeping) (hiddens : List Hidden) (so_far : AreHiddenSoFar start.settings.inputs start.listed start.opening hiddens) (told left : List Note) (told_are : hidden_notes hiddens ≡ told ++ left)
        (begun : AllByRecursion (λ (hidden : Hidden). Contains told (hidden_begin hidden)) hiddens) (tells : TellsNotes told old new) where
      orderly : AreOrderly (old.tracked.notes ++ told)
      orderly = front_orderly (old.tracked.notes ++ told) left
          (subst AreOrderly (ap (λ (l : List Note). old.tracked.notes ++ l) told_are ∙ sym (append_assoc old.tracked.notes told left))
          (hidden_orderly start.settings.inputs start.listed old.tracked.notes (length start.listed) (take so_far.count start.opening) hiddens so_far.are is.stands.notes.noted.mixed.orderly below))

      begin_notes : AreBeginNotes was.scans start.opening start.listed was.opened hiddens (was.begun ++ told)
      begin_notes = record {
        each = both (MayBegin was.scans start.opening start.listed was.opened hiddens) was.begun told
            (each_then (MayBegin was.scans start.opening start.listed was.opened was.hidden) (MayBegin was.scans start.opening start.listed was.opened hiddens) was.begun still is.stands.notes.begun.each)
            (each_then (IsOfHidden hiddens) (MayBegin was.scans start.opening start.listed was.opened hiddens) told (λ note of. inr (inr (inl of)))
            (front_of_both (IsOfHidden hiddens) told left (subst (AllByRecursion (IsOfHidden hiddens)) told_are (of_hidden hiddens hiddens (λ h there. there)))));
        begun = each_then (λ (one : Opened). Contains was.begun (noted_begin one.begin)) (λ (one : Opened). Contains (was.begun ++ told) (noted_begin one.begin)) was.opened
            (λ one there. Contains-append_left was.begun told (noted_begin one.begin) there) is.stands.notes.begun.begun;
        hidden_begun = each_then (λ (hidden : Hidden). Contains told (hidden_begin hidden)) (λ (hidden : Hidden). Contains (was.begun ++ told) (hidden_begin hidden)) hiddens
            (λ hidden there. Contains-append_right was.begun told (hidden_begin hidden) there) begun;
      }
        where
          still : (note : Note) → MayBegin was.scans start.opening start.listed was.opened was.hidden note → MayBegin was.scans start.opening start.listed was.opened hiddens note
          still note may =
              subst (λ (l : List Opened). MayBegin was.scans start.opening start.listed l hiddens note) (append-nil was.opened)
              (may_still was.scans start.opening start.listed was.opened [] [] hiddens note (subst (λ (l : List Hidden). MayBegin was.scans start.opening start.listed was.opened l note) is.none_hidden may))

      pub hidden_stand : Stands words start (at_phase words start moments a b shown crew new phase) (record was { begun = was.begun ++ told; hidden = hiddens })
      hidden_stand = stands_told words reads counts start moments a b shown crew phase told old new was hiddens so_far orderly tells begin_notes is.stands

  -- ---- by what telling of them answered

  pub hides : (phase : Phase) (opened : List Opened) (old new : Keeping) → StandsUncollected words reads counts start moments a b shown crew phase opened old → old.store.rows ≡ start.opening →
      TellsHidden start.settings.inputs start.listed old.store.rows old new → Further words start (at_phase words start moments a b shown crew new phase)
  hides phase opened old new is rows tells =
      let all = subst (λ (l : List Row). TellsHidden start.settings.inputs start.listed l old new) rows tells in
      record {
        so_far = record (opened_once is.so_far) { begun = is.so_far.begun ++ hidden_notes all.hiddens; hidden = all.hiddens };
        stands = hidden_stand phase opened old is new all.hiddens
            (record { ordered = all.ordered; count = length start.opening; are = subst (λ (l : List Row). AreHiddenAmong start.settings.inputs start.listed (length start.listed) l all.hiddens) (sym (take_all_rows start.opening)) all.are })
            (hidden_notes all.hiddens) [] (sym (append-nil (hidden_notes all.hiddens))) (all_begun all.hiddens) all.tells;
      }

  pub hides_some : (phase : Phase) (opened : List Opened) (old new : Keeping) → StandsUncollected words reads counts start moments a b shown crew phase opened old → old.store.rows ≡ start.opening →
      TellsSomeHidden start.settings.inputs start.listed old.store.rows old new → Further words start (at_phase words start moments a b shown crew new phase)
  hides_some phase opened old new is rows tells =
      let some = subst (λ (l : List Row). TellsSomeHidden start.settings.inputs start.listed l old new) rows tells in
      record {
        so_far = record (opened_once is.so_far) { begun = is.so_far.begun ++ some.told; hidden = some.hiddens };
        stands = hidden_stand phase opened old is new some.hiddens some.so_far some.told some.left some.told_are some.begun some.tells;
      }
