-- A scan in its parts, and the files with which a run begins.
use Rattle.std.proofs.Common.{◌≡◌, ℕ, ◌==◌, Bool, true, false, ◌||◌, not, List, [], ◌∷◌, ◌++◌, map, filter, flat_map, refl, sym, ap, ◌∙◌, subst, if◌then◌else◌}
use Rattle.std.proofs.Math.Bool.{Bool-set}
use Rattle.std.proofs.Math.Logic.{∥∥₁_elim, ∥∥₁_map}
use Rattle.std.proofs.lemmas.List.{append-nil}
use Rattle.prospector_core.specs.declared.change.Change.{Change}
use Rattle.prospector_core.specs.declared.known.Known.{Known}
use Rattle.prospector_core.specs.declared.seen.Seen.{Seen}
use Rattle.prospector_core.specs.Changes.{changes_between, known_after}
use Rattle.prospector_core.specs.KnownFiles.{AreKnown, KnownFiles, known_of}
use Rattle.wire_base.specs.declared.note.Begin.{Begin}
use Rattle.wire_base.specs.declared.row.Row.{Row}
use Rattle.file_table.specs.declared.table.FileTable.{FileTable}
use Rattle.file_table.specs.Events.{Gone, SlotEvent, events_of}
use Rattle.file_table.specs.Standing.{is_known}
use Rattle.file_table.specs.Tables.{Adds, StandsFor}
use Rattle.watched_files.specs.declared.slot_deed.SlotDeed.{SlotDeed}
use Rattle.watched_files.specs.Parts.{Asks, MissesAll, Tells}
use Rattle.watched_files.specs.Telling.{began_event, began_events, before_missed, change_events, deeds_by, shown_events, tell, told_changes, told_created, told_missed, told_shown}
use Rattle.watched_files.specs.Watching.{AreWatched, TakesScan, has_slot}
use Rattle.std.proofs.lemmas.Bool.Decides.{Decides-eqb}
use Rattle.watched_files.proofs.Slots.{equal_is, has_without, known_is, unequal_is}

-- ---- a scan

module _ (number : ℕ) (clean : List Bool) (whole : Bool) (seen : List Seen) (known later : KnownFiles) (start made told_all shown_all new : FileTable) (changes : List Change) (deeds more : List SlotDeed) where
  takes_at : (files : List Known) (es fs : List SlotEvent) → files ≡ (known_after clean whole known seen).files → es ≡ told_changes number clean whole known seen → fs ≡ told_shown number clean whole known seen →
      later ≡ known_after clean whole known seen → ((told : List SlotEvent) → StandsFor told start → StandsFor (told_created known seen told) made) →
      Asks es [] [] deeds made told_all → Tells fs [] told_all shown_all → MissesAll number whole files deeds more shown_all new → TakesScan number clean whole seen known start more later new
  takes_at files es fs files_are es_are fs_are remembered created asked shown missed = record {
    known = remembered;
    tells = λ told stands.
        let a = asked (told_created known seen told) (created told stands) in
        let b = shown a.now a.stands in
        let now : b.now ≡ before_missed number clean whole known seen told = before told stands in
        let m = subst (λ (l : List Known). MissesAll number whole l deeds more shown_all new) files_are missed in
        m.tells (before_missed number clean whole known seen told) (subst (λ (l : List SlotEvent). StandsFor l shown_all) now b.stands);
    asks = λ told stands.
        let a = asked (told_created known seen told) (created told stands) in
        let b = shown a.now a.stands in
        let now : b.now ≡ before_missed number clean whole known seen told = before told stands in
        let m = subst (λ (l : List Known). MissesAll number whole l deeds more shown_all new) files_are missed in
        m.asks (before_missed number clean whole known seen told) (subst (λ (l : List SlotEvent). StandsFor l shown_all) now b.stands)
        ∙ ap (λ (l : List SlotDeed). l ++ deeds_by (before_missed number clean whole known seen told) (rest told))
        (sym (append-nil deeds) ∙ a.all_asked ∙ ap (deeds_by (told_created known seen told)) es_are);
  }
    where
      rest : List SlotEvent → List SlotEvent
      rest told = told_missed number clean whole known seen (before_missed number clean whole known seen told)

      before : (told : List SlotEvent) → (stands : StandsFor told start) →
          (shown (asked (told_created known seen told) (created told stands)).now (asked (told_created known seen told) (created told stands)).stands).now ≡ before_missed number clean whole known seen told
      before told stands =
          let a = asked (told_created known seen told) (created told stands) in
          (shown a.now a.stands).all_told
          ∙ ap (λ (l : List SlotEvent). tell l fs) (a.all_told ∙ ap (tell (told_created known seen told)) es_are)
          ∙ ap (tell (tell (told_created known seen told) (told_changes number clean whole known seen))) fs_are

  pub takes_scan : later ≡ known_after clean whole known seen → changes ≡ changes_between clean whole known seen →
      ((told : List SlotEvent) → StandsFor told start → StandsFor (told_created known seen told) made) →
      Asks (flat_map (change_events number clean later.files) changes) [] [] deeds made told_all → Tells (flat_map (shown_events number later.files) seen) [] told_all shown_all →
      MissesAll number whole later.files deeds more shown_all new → TakesScan number clean whole seen known start more later new
  takes_scan remembered told_is created asked shown missed =
      takes_at later.files (flat_map (change_events number clean later.files) changes) (flat_map (shown_events number later.files) seen)
      (ap (λ (k : KnownFiles). k.files) remembered)
      (ap (λ (k : KnownFiles). flat_map (change_events number clean k.files) changes) remembered ∙ ap (flat_map (change_events number clean (known_after clean whole known seen).files)) told_is)
      (ap (λ (k : KnownFiles). flat_map (shown_events number k.files) seen) remembered)
      remembered created asked shown missed

  -- in terms of what the calls give
  pub takes_scan_by : (first again : List Seen) (none : List SlotDeed) → first ≡ seen → again ≡ seen → none ≡ [] → later ≡ known_after clean whole known first → changes ≡ changes_between clean whole known first →
      ((told : List SlotEvent) → StandsFor told start → StandsFor (told_created known first told) made) →
      Asks (flat_map (change_events number clean later.files) changes) [] none deeds made told_all → Tells (flat_map (shown_events number later.files) again) [] told_all shown_all →
      MissesAll number whole later.files deeds more shown_all new → TakesScan number clean whole seen known start more later new
  takes_scan_by first again none is same empty remembered told_is created asked shown missed =
      takes_scan (remembered ∙ ap (known_after clean whole known) is) (told_is ∙ ap (changes_between clean whole known) is)
      (subst (λ (s : List Seen). (told : List SlotEvent) → StandsFor told start → StandsFor (told_created known s told) made) is created)
      (subst (λ (d : List SlotDeed). Asks (flat_map (change_events number clean later.files) changes) [] d deeds made told_all) empty asked)
      (subst (λ (s : List Seen). Tells (flat_map (shown_events number later.files) s) [] told_all shown_all) same shown)
      missed

-- ---- the files with which a run begins

module _ (rows : List Row) where
  began_known : (begins : List Begin) (told : List SlotEvent) (slot : ℕ) → is_known (events_of slot (tell told (began_events rows begins))) ≡ has_slot slot (map known_of begins) || is_known (events_of slot told)
  began_known [] told slot = refl
  began_known (begin ∷ begins) told slot = began_known begins (began_event rows begin ∷ told) slot ∙ by_case (slot == begin.slot.0) (begin.slot.0 == slot) (has_slot slot (map known_of begins)) (same_test slot begin.slot.0)
    where
      same_test : (n m : ℕ) → (n == m) ≡ (m == n)
      same_test n m = by_test (n == m) refl
        where
          by_test : (b : Bool) → (n == m) ≡ b → b ≡ (m == n)
          by_test true e = sym (equal_is m n (sym ((Decides-eqb n m).0 e)))
          by_test false e = sym (unequal_is m n (λ same. let q : true ≡ false = sym (equal_is n m (sym same)) ∙ e in cc))

      by_case : (b c d : Bool) → b ≡ c →
          d || is_known (if b then (began_event rows begin).event ∷ events_of slot told else events_of slot told) ≡ (c || d) || is_known (events_of slot told)
      by_case true true true e = refl
      by_case true true false e = refl
      by_case true false d e = absurd (let q : true ≡ false = e in cc)
      by_case false true d e = absurd (let q : false ≡ true = e in cc)
      by_case false false d e = refl

  pub watched_begun : (begins : List Begin) (known : KnownFiles) (table : FileTable) → AreKnown known → known.files ≡ map known_of begins → StandsFor (tell [] (began_events rows begins)) table → AreWatched known table
  watched_begun begins known table are files stands = record {
    known = are;
    history = ∣ record { told = tell [] (began_events rows begins); stands = stands } ∣₁;
    same_slots = λ slot.
        known_is (tell [] (began_events rows begins)) table stands slot
        ∙ began_known begins [] slot
        ∙ or_false (has_slot slot (map known_of begins))
        ∙ ap (has_slot slot) (sym files);
  }
    where
      or_false : (b : Bool) → b || false ≡ b
      or_false true = refl
      or_false false = refl

pub begun_stands : (rows : List Row) (begins : List Begin) (old new : FileTable) → StandsFor [] old → Tells (began_events rows begins) [] old new → StandsFor (tell [] (began_events rows begins)) new
begun_stands rows begins old new empty tells = let a = tells [] empty in subst (λ (l : List SlotEvent). StandsFor l new) a.all_told a.stands

-- ---- a file that is gone

pub watched_gone : (slot : ℕ) (known later : KnownFiles) (old new : FileTable) → AreWatched known old → AreKnown later → later.files ≡ filter (λ file. not (file.slot.0 == slot)) known.files →
    Adds (record { slot = slot; event = Gone }) old new → AreWatched later new
watched_gone slot known later old new are after files adds = record {
  known = after;
  history = ∥∥₁_map are.history (λ h. record { told = record { slot = slot; event = Gone } ∷ h.told; stands = adds h.told h.stands });
  same_slots = λ other.
      ∥∥₁_elim are.history (Bool-set _ _) (λ h.
      known_is (record { slot = slot; event = Gone } ∷ h.told) new (adds h.told h.stands) other
      ∙ by_case h.told other (other == slot)
      ∙ ap (λ (b : Bool). if other == slot then false else b) (sym (known_is h.told old h.stands other)))
      ∙ ap (λ (b : Bool). if other == slot then false else b) (are.same_slots other)
      ∙ sym (has_without slot other known.files)
      ∙ ap (has_slot other) (sym files);
}
  where
    by_case : (told : List SlotEvent) (other : ℕ) (b : Bool) → is_known (if b then Gone ∷ events_of other told else events_of other told) ≡ (if b then false else is_known (events_of other told))
    by_case told other true = refl
    by_case told other false = refl
