-- What is known of a run's files as it ends, by how they were opened and what was reported of them: joined, they have their notes and fit the
-- books.
use Rattle.std.proofs.Common.{◌≡◌, inl, inr, ℕ, ◌≤◌, List, [], ◌∷◌, Contains, map, Option, None, sym, ap, subst, ◌∙◌}
use Rattle.std.specs.List.{AllByRecursion, flat_map}
use Rattle.kept_rows.specs.Followed.{Start}
use Rattle.kept_rows.specs.Run.{Run}
use Rattle.outside.specs.declared.history.Look.{Look}
use Rattle.wire_base.specs.declared.note.Note.{Note}
use Rattle.wire_base.specs.declared.note.Note.TheVariants.{Begin, Seen}
use Rattle.wire_base.specs.declared.numbers.Moment.{Moment}
use Rattle.accounts.specs.Filed.{Filed, IsNoted, begun_by, turned_of}
use Rattle.accounts.specs.Hidden.{Hidden}
use Rattle.accounts.specs.Opened.{Opened}
use Rattle.accounts.specs.Taken.{FitBooks, Taken}
use Rattle.accounts.specs.ToldNotes.{AreToldNotes, AreToldNotesAs, IsBeginAsOne, IsBeginOfOne, IsMomentAs, IsMomentOfOne, IsNotedAs, MayTell, MayTellAs}
use Rattle.accounts.specs.Turned.{Turned, notes_told, parcels_told}
use Rattle.accounts.proofs.Grounded.{of_map}
use Rattle.accounts.proofs.Joining.{AreJoined, IsJoined, told_as_often}
use Rattle.accounts.proofs.Lists.{each_then}
use Rattle.accounts.proofs.Often.{often_back, often_then}
use Rattle.accounts.proofs.Orderly.{member_is}

-- the Begin of a file that was opened so, by where it shrank from
abbrev begin_with : Opened → Option Start → List ℕ → Moment → Note
begin_with opened from path moment = Begin opened.begin.slot opened.begin.key path (record { 0 = (begun_by opened from).epoch }) (begun_by opened from).base moment

module _ (looks : Opened → List Look) (changed : Opened → ℕ) (told : List Turned) where
  file_of : (files : List Filed) (opened : Opened) → AllByRecursion (IsJoined looks changed told) files → Contains (map (λ (file : Filed). file.opened) files) opened →
      (file : Filed) × Contains files file × (file.opened ≡ opened) × (changed opened ≡ file.changed) × (file.shrank_from ≡ None)
  file_of files opened each there =
      let of = of_map (λ (file : Filed). file.opened) files opened there in
      let its = member_is (IsJoined looks changed told) files of.item each of.among in
      (of.item, of.among, of.is, ap changed (sym of.is) ∙ sym its.changed_is, its.as_begun)

  begin_of_file : (files : List Filed) → AllByRecursion (IsJoined looks changed told) files → (note : Note) →
      IsBeginAsOne changed (map (λ (file : Filed). file.opened) files) note → IsBeginOfOne files note
  begin_of_file files each note is =
      let of = file_of files is.opened each is.of_files in
      record {
        file = of.0;
        of_files = of.1;
        begins = record {
          path = is.begins.path;
          changed = is.begins.moment;
          is = subst (λ (from : Option Start). note ≡ begin_with of.0.opened from is.begins.path is.begins.moment) (sym of.4)
              (subst (λ (o : Opened). note ≡ begin_with o None is.begins.path is.begins.moment) (sym of.2) is.begins.is);
          within = subst (λ (n : ℕ). is.begins.moment.0 ≤ n) of.3 is.begins.within;
        };
      }

  moment_of_file : (files : List Filed) → AllByRecursion (IsJoined looks changed told) files → (note : Note) →
      IsMomentAs changed (map (λ (file : Filed). file.opened) files) note → IsMomentOfOne files note
  moment_of_file files each note is =
      let of = file_of files is.opened each is.of_files in
      record {
        file = of.0;
        of_files = of.1;
        changed = is.moment;
        is = subst (λ (o : Opened). note ≡ Seen o.begin.slot is.moment) (sym of.2) is.is;
        within = subst (λ (n : ℕ). is.moment.0 ≤ n) of.3 is.within;
      }

  module _ (opened : List Opened) (joined : AreJoined looks changed opened told) where
    told_of_files : (run : Run) (hiddens : List Hidden) (note : Note) → MayTellAs changed opened hiddens note → MayTell run joined.files hiddens note
    told_of_files run hiddens note (inl begin) = inl (begin_of_file joined.files joined.each note (subst (λ (l : List Opened). IsBeginAsOne changed l note) (sym joined.opened_are) begin))
    told_of_files run hiddens note (inr (inl seen)) = inr (inl (moment_of_file joined.files joined.each note (subst (λ (l : List Opened). IsMomentAs changed l note) (sym joined.opened_are) seen)))
    told_of_files run hiddens note (inr (inr of)) = inr (inr (inl of))

    noted_files : (first : List Note) (files : List Filed) → AllByRecursion (IsJoined looks changed told) files → AllByRecursion (IsNotedAs first) (map (λ (file : Filed). file.opened) files) →
        AllByRecursion (IsNoted first) files
    noted_files first [] joined_so each = tt
    noted_files first (file ∷ files) joined_so each = (
      record {
        path = each.0.path;
        changed = each.0.moment;
        there = subst (λ (from : Option Start). Contains first (begin_with file.opened from each.0.path each.0.moment)) (sym joined_so.0.as_begun) each.0.there;
      },
      noted_files first files joined_so.1 each.1,
    )

    pub joined_told_notes : (run : Run) (hiddens : List Hidden) (first : List Note) → AreToldNotesAs changed opened hiddens first → AreToldNotes run joined.files hiddens first
    joined_told_notes run hiddens first are = record {
      each = each_then (MayTellAs changed opened hiddens) (MayTell run joined.files hiddens) first (told_of_files run hiddens) are.each;
      begun = noted_files first joined.files joined.each (subst (AllByRecursion (IsNotedAs first)) (sym joined.opened_are) are.begun);
      hidden_begun = are.hidden_begun;
    }

    pub joined_fit : (workers : List Taken) (collected : List Note) → FitBooks told workers collected → FitBooks (turned_of joined.files) workers collected
    joined_fit workers collected fits = record {
      issued = fits.issued;
      noted = fits.noted;
      issued_are = often_then fits.issued (flat_map parcels_told told) (flat_map parcels_told (turned_of joined.files)) fits.issued_are
          (often_back (flat_map parcels_told (turned_of joined.files)) (flat_map parcels_told told) (told_as_often parcels_told (turned_of joined.files) told joined.turned_are));
      noted_are = often_then fits.noted (flat_map notes_told told) (flat_map notes_told (turned_of joined.files)) fits.noted_are
          (often_back (flat_map notes_told (turned_of joined.files)) (flat_map notes_told told) (told_as_often notes_told (turned_of joined.files) told joined.turned_are));
      parcels = fits.parcels;
      parcels_are = fits.parcels_are;
      notes = fits.notes;
      notes_are = fits.notes_are;
    }
