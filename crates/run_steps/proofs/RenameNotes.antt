-- The note that tells another path of a file may follow what was noted before, and is one that the run may tell itself.
use Rattle.std.proofs.Common.{◌≡◌, ◌⊎◌, inl, inr, ⊎_elim, ◌==◌, List, [], ◌∷◌, ◌++◌, Contains, None, Some, sym, ap, ◌∙◌}
use Rattle.std.proofs.lemmas.Bool.{eqb-true}
use Rattle.std.proofs.lemmas.List.Elements.{All-from_recursion, Contains-append_cases, Contains-append_left}
use Rattle.std.specs.List.{AllByRecursion, filter_map}
use Rattle.accounts.proofs.Grounded.{each_member}
use Rattle.accounts.proofs.Lists.{each_last, each_then}
use Rattle.accounts.proofs.Often.{often_back, often_contains}
use Rattle.accounts.proofs.Ordered.{one_more_orderly}
use Rattle.accounts.proofs.Orderly.{member_is}
use Rattle.accounts.proofs.Same.{tells_notes}
use Rattle.accounts.specs.Ground.{HasGround, IsNoteBy}
use Rattle.accounts.specs.Hidden.{Hidden, hidden_begin, hidden_forget}
use Rattle.accounts.specs.Opened.{Opened}
use Rattle.accounts.specs.Same.{same_note}
use Rattle.accounts.specs.ToldNotes.{AreMixed}
use Rattle.accounts.specs.Turned.{Turned}
use Rattle.accounts.specs.Watch.{Name}
use Rattle.harvester.specs.History.{Telling}
use Rattle.prospect.specs.declared.listed.Listed.{Listed}
use Rattle.ship_core.proofs.Members.{there_given, there_passed}
use Rattle.ship_core.specs.Orderly.{AreOrderly, IsBegun}
use Rattle.ship_core.specs.RowOver.{Naming, naming_of, notes_of, slot_of}
use Rattle.wire_base.specs.declared.note.Note.{Note}
use Rattle.wire_base.specs.declared.note.Note.TheVariants.{Rename}
use Rattle.wire_base.specs.declared.numbers.Slot.{Slot}
use Rattle.wire_base.specs.declared.parcel.Parcel.{Parcel}
use Rattle.wire_base.specs.declared.row.Row.{Row}
use Rattle.run_steps.specs.Begun.{AreBeginNotes, MayBegin, noted_begin}
use Rattle.run_steps.specs.LaterScans.{LaterScan}
use Rattle.run_steps.specs.Renamed.{IsNewestName, IsRenameOf}
use Rattle.run_steps.specs.SoFar.{Earlier, Forgotten, noted_since}
use Rattle.run_steps.proofs.ChangedTurns.{no_later}
use Rattle.run_steps.proofs.Ordering.{since_names_none}

-- what has its ground in what files told names none
names_none : (files : List Turned) (acknowledged : List Parcel) (note : Note) → HasGround files acknowledged note → naming_of note ≡ None
names_none files acknowledged note (inl of) = by_kind of.turned of.telling of.is
  where
    by_kind : (turned : Turned) (telling : Telling) → IsNoteBy turned telling note → naming_of note ≡ None
    by_kind turned telling (inl announced) = ap naming_of announced
    by_kind turned telling (inr settled) = ap naming_of settled.is
names_none files acknowledged note (inr of) = ap naming_of of.is

module _ (scans : List LaterScan) (rows : List Row) (listed : List Listed) (opened : List Opened) (hiddens : List Hidden) (begun : List Note) (slot : Slot) (name : Name)
    (first : Opened) (among : Contains opened first) (slot_is : first.begin.slot ≡ slot)
    (newest : (one : Opened) → Contains opened one → one.begin.slot ≡ slot → IsNewestName scans one name) (are : AreBeginNotes scans rows listed opened hiddens begun) where
  abbrev note_told : Note
  note_told = Rename slot name.scan name.path

  is_rename : IsRenameOf scans opened note_told
  is_rename = record { file = first; among = among; name = name; named = (newest first among slot_is).named; is = ap (λ (s : Slot). Rename s name.scan name.path) (sym slot_is) }

  pub begun_too : AreBeginNotes scans rows listed opened hiddens (begun ++ note_told ∷ [])
  begun_too = record {
    each = each_last (MayBegin scans rows listed opened hiddens) begun note_told are.each (inr (inr (inr is_rename)));
    begun = each_then (λ (one : Opened). Contains begun (noted_begin one.begin)) (λ (one : Opened). Contains (begun ++ note_told ∷ []) (noted_begin one.begin)) opened
        (λ one among. Contains-append_left begun (note_told ∷ []) (noted_begin one.begin) among) are.begun;
    hidden_begun = each_then (λ (h : Hidden). Contains begun (hidden_begin h)) (λ (h : Hidden). Contains (begun ++ note_told ∷ []) (hidden_begin h)) hiddens
        (λ h among. Contains-append_left begun (note_told ∷ []) (hidden_begin h) among) are.hidden_begun;
  }

  -- what the run told itself names it so, if it names it by the same scan
  same_name : (note : Note) (naming : Naming) → slot_of note ≡ slot.0 → naming_of note ≡ Some naming → MayBegin scans rows listed opened hiddens note → naming.scan ≡ name.scan → naming.path ≡ name.path
  same_name note naming of_slot names (inl of) = absurd (let no : None ≡ Some naming = sym (ap naming_of of.is) ∙ names in cc)
  same_name note naming of_slot names (inr (inl of)) = absurd (let no : None ≡ Some naming = sym (ap naming_of of.is) ∙ names in cc)
  same_name note naming of_slot names (inr (inr (inl of))) = by_kind of.is
    where
      by_kind : (note ≡ hidden_begin of.hidden) ⊎ (note ≡ hidden_forget of.hidden) → naming.scan ≡ name.scan → naming.path ≡ name.path
      by_kind (inl is) = absurd (let no : None ≡ Some naming = sym (ap naming_of is) ∙ names in cc)
      by_kind (inr is) = absurd (let no : None ≡ Some naming = sym (ap naming_of is) ∙ names in cc)
  same_name note naming of_slot names (inr (inr (inr of))) =
      λ same. let is : Some (record { scan = of.name.scan; path = of.name.path }) ≡ Some naming = sym (ap naming_of of.is) ∙ names in
      let naming_is : record { scan = of.name.scan; path = of.name.path } ≡ naming = cc in
      let number : of.file.begin.slot.0 ≡ slot.0 = ap slot_of (sym of.is) ∙ of_slot in
      let its_slot : of.file.begin.slot ≡ slot = λ k. record { 0 = number k } in
      sym (ap (λ (n : Naming). n.path) naming_is) ∙ (no_later scans of.file name (newest of.file of.among its_slot) of.name of.named).1 (ap (λ (n : Naming). n.scan) naming_is ∙ same)

  -- over these notes, of which some were collected
  module _ (notes collected : List Note) (earlier : List Earlier) (forgotten : List Forgotten) (mixed : AreMixed (noted_since earlier forgotten ++ begun) collected notes) (files : List Turned) (acknowledged : List Parcel) (ground : AllByRecursion (HasGround files acknowledged) collected) where
    abbrev IsSame : Naming → Type 0
    IsSame naming = naming.scan ≡ name.scan → naming.path ≡ name.path

    each_same : (naming : Naming) → Contains (filter_map naming_of (notes_of slot.0 notes)) naming → IsSame naming
    each_same naming there =
        let given = there_given naming_of (notes_of slot.0 notes) naming there in
        let passed = there_passed (λ (note : Note). slot_of note == slot.0) notes given.0 given.1 in
        by_where given.0 (eqb-true (slot_of given.0) slot.0 passed.1) given.2
        (Contains-append_cases (noted_since earlier forgotten ++ begun) collected given.0
        (often_contains same_note tells_notes ((noted_since earlier forgotten ++ begun) ++ collected) notes given.0 (often_back notes ((noted_since earlier forgotten ++ begun) ++ collected) mixed.often) passed.0))
      where
        by_where : (note : Note) → slot_of note ≡ slot.0 → naming_of note ≡ Some naming → Contains (noted_since earlier forgotten ++ begun) note ⊎ Contains collected note → IsSame naming
        by_where note of_slot names (inl told) =
            ⊎_elim (λ announced. absurd (let no : None ≡ Some naming = sym (since_names_none earlier forgotten note announced) ∙ names in cc))
            (λ here. same_name note naming of_slot names (member_is (MayBegin scans rows listed opened hiddens) begun note are.each here)) (Contains-append_cases (noted_since earlier forgotten) begun note told)
        by_where note of_slot names (inr got) =
            absurd (let no : None ≡ Some naming = sym (names_none files acknowledged note (member_is (HasGround files acknowledged) collected note ground got)) ∙ names in cc)

    pub rename_follows : IsBegun slot.0 notes → AreOrderly (notes ++ note_told ∷ [])
    rename_follows is_begun = one_more_orderly notes note_told mixed.orderly (
      is_begun,
      All-from_recursion IsSame (filter_map naming_of (notes_of slot.0 notes)) (each_member IsSame (filter_map naming_of (notes_of slot.0 notes)) each_same),
    )
