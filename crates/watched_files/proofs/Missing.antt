-- The known files that a whole scan did not show, one after another in the order of their slots.
use Rattle.std.proofs.Common.{◌≡◌, ⊎_elim, ℕ, suc, ◌+◌, ◌<◌, ◌≤◌, Bool, true, false, not, ◌||◌, List, [], ◌∷◌, ◌++◌, All, AllPairs, Option, Some, None, is_some, refl, sym, ap, ◌∙◌, subst, arith, append_assoc, if◌then◌else◌}
use Rattle.std.proofs.lemmas.Bool.{cases_lt}
use Rattle.std.proofs.lemmas.List.{append-nil}
use Rattle.std.proofs.lemmas.List.Elements.{All-head, All-tail}
use Rattle.prospector_core.specs.declared.known.Known.{Known}
use Rattle.prospector_core.specs.KnownFiles.{KnownFiles, StandsBefore}
use Rattle.wire_base.specs.declared.numbers.Slot.{Slot}
use Rattle.file_table.specs.declared.deed.Deed.{Deed}
use Rattle.file_table.specs.declared.file_entry.FileEntry.{FileEntry}
use Rattle.file_table.specs.declared.news.FileNews.TheVariants.{Missed}
use Rattle.file_table.specs.declared.table.FileTable.{FileTable}
use Rattle.file_table.specs.Entries.{is_scan}
use Rattle.file_table.specs.Events.{News, SlotEvent, events_of, life}
use Rattle.file_table.specs.Standing.{IsFile, IsFileOf, shown_in}
use Rattle.file_table.proofs.Puts.{same_files}
use Rattle.file_table.specs.Tables.{EndsScan, StandsFor, deed_at, file_of, was_missed}
use Rattle.watched_files.specs.declared.slot_deed.SlotDeed.{SlotDeed}
use Rattle.watched_files.specs.Parts.{Misses, MissesAll, MissesOn}
use Rattle.watched_files.specs.Telling.{asked, deeds_by, missed_events, missed_one, tell}
use Rattle.watched_files.specs.Watching.{AreWatched, KeepsSlots, has_slot}
use Rattle.watched_files.proofs.Slots.{equal_is, keeps_news, keeps_same, later_history, slots_same, unequal_is}

-- a whole scan's end leaves the slots as they are
pub keeps_ends : (missed : Bool) (slot : Slot) (old : FileTable) (d : Deed) (new : FileTable) → EndsScan missed slot old d new → KeepsSlots old new
keeps_ends true slot old d new ends = keeps_news slot.0 Missed old new ends.adds
keeps_ends false slot old d new ends = keeps_same old new (same_files old new ends.same)

-- ---- one file

module _ (number : ℕ) (file : Known) (rest : List Known) (entry : FileEntry) (old new : FileTable) (d : Deed) where
  -- the file was shown or missed, as the events so far say
  one_ends : (told : List SlotEvent) (earlier deeds more : List SlotDeed) (all : List SlotEvent) (asked_all : List SlotDeed) (now : List SlotEvent) → StandsFor now old → file_of old file.slot.0 ≡ Some entry →
      more ≡ deeds ++ asked file.slot.0 d → (b : Bool) → is_scan number (shown_in (life (events_of file.slot.0 now))) ≡ b → EndsScan (not b) file.slot old d new →
      all ≡ tell now (missed_events number now (file ∷ rest)) → deeds ++ deeds_by now (missed_events number now (file ∷ rest)) ≡ asked_all →
      (later : List SlotEvent) × StandsFor later new × (tell later (missed_events number later rest) ≡ all) × (more ++ deeds_by later (missed_events number later rest) ≡ asked_all)
  one_ends told earlier deeds more all asked_all now stands there is true e ends told_is asked_is =
      let none : missed_one number now file ≡ [] = ap (λ (b : Bool). if b then [] else record { slot = file.slot.0; event = News Missed } ∷ []) e in
      let list : missed_events number now (file ∷ rest) ≡ missed_events number now rest =
      ap (λ (l : List SlotEvent). l ++ missed_events number (tell now l) rest) none in
      let same : more ≡ deeds = is ∙ ap (λ (x : Deed). deeds ++ asked file.slot.0 x) ends.none ∙ append-nil deeds in (
        now,
        (λ slot. subst (IsFile (events_of slot now)) (sym (same_files old new ends.same slot)) (stands slot)),
        ap (tell now) (sym list) ∙ sym told_is,
        ap (λ (l : List SlotDeed). l ++ deeds_by now (missed_events number now rest)) same ∙ ap (λ (l : List SlotEvent). deeds ++ deeds_by now l) (sym list) ∙ asked_is,
      )
  one_ends told earlier deeds more all asked_all now stands there is false e ends told_is asked_is =
      let event : SlotEvent = record { slot = file.slot.0; event = News Missed } in
      let one : missed_one number now file ≡ record { slot = file.slot.0; event = News Missed } ∷ [] =
      ap (λ (b : Bool). if b then [] else record { slot = file.slot.0; event = News Missed } ∷ []) e in
      let list : missed_events number now (file ∷ rest) ≡ record { slot = file.slot.0; event = News Missed } ∷ missed_events number (record { slot = file.slot.0; event = News Missed } ∷ now) rest =
      ap (λ (l : List SlotEvent). l ++ missed_events number (tell now l) rest) one in (
        record { slot = file.slot.0; event = News Missed } ∷ now,
        ends.adds now stands,
        ap (tell now) (sym list) ∙ sym told_is,
        ap (λ (l : List SlotDeed). l ++ deeds_by (record { slot = file.slot.0; event = News Missed } ∷ now) (missed_events number (record { slot = file.slot.0; event = News Missed } ∷ now) rest))
            (is ∙ ap (λ (x : Deed). deeds ++ asked file.slot.0 x) (ends.asks now stands))
            ∙ append_assoc deeds (asked file.slot.0 (deed_at (News Missed) (events_of file.slot.0 now))) (deeds_by (record { slot = file.slot.0; event = News Missed } ∷ now) (missed_events number (record { slot = file.slot.0; event = News Missed } ∷ now) rest))
            ∙ ap (λ (l : List SlotEvent). deeds ++ deeds_by now l) (sym list) ∙ asked_is,
      )

  shown_is : (now : List SlotEvent) → StandsFor now old → file_of old file.slot.0 ≡ Some entry → entry.shown ≡ shown_in (life (events_of file.slot.0 now))
  shown_is now stands there = (let is : IsFileOf (events_of file.slot.0 now) entry = subst (IsFile (events_of file.slot.0 now)) there (stands file.slot.0) in is).shown_is

  ends_so : (now : List SlotEvent) → StandsFor now old → file_of old file.slot.0 ≡ Some entry → EndsScan (was_missed number true (file_of old file.slot.0)) file.slot old d new →
      EndsScan (not (is_scan number (shown_in (life (events_of file.slot.0 now))))) file.slot old d new
  ends_so now stands there ends =
      subst (λ (o : Option ℕ). EndsScan (not (is_scan number o)) file.slot old d new) (shown_is now stands there)
      (subst (λ (o : Option FileEntry). EndsScan (was_missed number true o) file.slot old d new) there ends)

-- ---- the first file that is left

first_is : (from slot next : ℕ) (file : Known) (rest : List Known) (entry : FileEntry) (table : FileTable) → AllPairs StandsBefore (file ∷ rest) → All (λ f. from ≤ f.slot.0) (file ∷ rest) → All (λ f. f.slot.0 < next) (file ∷ rest) →
    ((other : ℕ) → from ≤ other → other < next → is_some (file_of table other) ≡ has_slot other (file ∷ rest)) →
    from ≤ slot → slot < next → file_of table slot ≡ Some entry → ((other : ℕ) → from ≤ other → other < slot → file_of table other ≡ None) → file.slot.0 ≡ slot
first_is from slot next file rest entry table apart above below same low high there none = ⊎_elim
    (λ less. absurd (let q : false ≡ true = sym (ap is_some (none file.slot.0 (All-head (λ (f : Known). from ≤ f.slot.0) file rest above) less))
    ∙ same file.slot.0 (All-head (λ (f : Known). from ≤ f.slot.0) file rest above) (All-head (λ (f : Known). f.slot.0 < next) file rest below)
    ∙ ap (λ (b : Bool). b || has_slot file.slot.0 rest) (equal_is file.slot.0 file.slot.0 refl) in cc))
    (λ no. ⊎_elim
    (λ beyond. absurd (let q : true ≡ false = sym (ap is_some there) ∙ same slot low high
    ∙ ap (λ (b : Bool). b || has_slot slot rest) (unequal_is file.slot.0 slot (λ is. omega (arith, is, beyond)))
    ∙ rest_none rest (λ k d inside. omega (arith, beyond, (apart 0 (suc k) d (omega arith) (omega (arith, inside))).slot)) in cc))
    (λ at. omega (arith, no, at))
    (cases_lt slot file.slot.0))
    (cases_lt file.slot.0 slot)
  where
    rest_none : (files : List Known) → All (λ f. slot < f.slot.0) files → has_slot slot files ≡ false
    rest_none [] all = refl
    rest_none (one ∷ files) all =
        let higher : slot < one.slot.0 = All-head (λ (f : Known). slot < f.slot.0) one files all in
        ap (λ (b : Bool). b || has_slot slot files) (unequal_is one.slot.0 slot (λ is. omega (arith, is, higher)))
        ∙ rest_none files (All-tail (λ (f : Known). slot < f.slot.0) one files all)

module _ (number : ℕ) (files : List Known) (next : ℕ) (earlier deeds more : List SlotDeed) (from : ℕ) (start old : FileTable) where
  pub miss_step : (slot : Slot) (entry : FileEntry) (d : Deed) (new : FileTable) → from ≤ slot.0 → slot.0 < next → file_of old slot.0 ≡ Some entry →
      ((other : ℕ) → from ≤ other → other < slot.0 → file_of old other ≡ None) → EndsScan (was_missed number true (file_of old slot.0)) slot old d new → more ≡ deeds ++ asked slot.0 d →
      Misses number files next earlier deeds from start old → Misses number files next earlier more (slot.0 + 1) start new
  miss_step slot entry d new low high there none ends is so = by_left so.left so.apart so.above so.below so.same_slots so.so
    where
      by_left : (left : List Known) → AllPairs StandsBefore left → All (λ f. from ≤ f.slot.0) left → All (λ f. f.slot.0 < next) left →
          ((other : ℕ) → from ≤ other → other < next → is_some (file_of old other) ≡ has_slot other left) →
          ((told : List SlotEvent) → StandsFor told start → MissesOn number told files left earlier deeds old) → Misses number files next earlier more (slot.0 + 1) start new
      by_left [] apart above below same goes = absurd (let q : true ≡ false = sym (ap is_some there) ∙ same slot.0 low high in cc)
      by_left (file ∷ rest) apart above below same goes =
          let at : file.slot.0 ≡ slot.0 = first_is from slot.0 next file rest entry old apart above below same low high there none in
          let here : file_of old file.slot.0 ≡ Some entry = ap (file_of old) at ∙ there in
          let the_slot : slot ≡ file.slot = ap (λ (n : ℕ). (let s : Slot = record { 0 = n } in s)) (sym at) in
          let ended : EndsScan (was_missed number true (file_of old file.slot.0)) file.slot old d new = subst (λ (s : Slot). EndsScan (was_missed number true (file_of old s.0)) s old d new) the_slot ends in
          let asked_is : more ≡ deeds ++ asked file.slot.0 d = is ∙ ap (λ (n : ℕ). deeds ++ asked n d) (sym at) in
          let keeps = keeps_ends (was_missed number true (file_of old slot.0)) slot old d new ends in
          record {
            history = later_history old new keeps so.history;
            left = rest;
            apart = λ i j e before inside. apart (suc i) (suc j) e (omega (arith, before)) (omega (arith, inside));
            above = λ k e inside. omega (arith, at, (apart 0 (suc k) e (omega arith) (omega (arith, inside))).slot);
            below = All-tail (λ (f : Known). f.slot.0 < next) file rest below;
            same_slots = λ other reached under.
                slots_same old new so.history keeps other
                ∙ same other (omega (arith, reached, low)) under
                ∙ ap (λ (b : Bool). b || has_slot other rest) (unequal_is file.slot.0 other (λ same_one. omega (arith, same_one, at, reached)));
            so = λ told stands.
                let a = goes told stands in
                let r = one_ends number file rest entry old new d told earlier deeds more (tell told (missed_events number told files)) (earlier ++ deeds_by told (missed_events number told files)) a.now a.stands here asked_is
                (is_scan number (shown_in (life (events_of file.slot.0 a.now)))) refl (ends_so number file rest entry old new d a.now a.stands here ended) (sym a.all_told) a.all_asked in
                record { now = r.0; stands = r.1; all_told = r.2; all_asked = r.3 };
          }

  -- no further file is left
  pub miss_end : ((other : ℕ) → from ≤ other → other < next → file_of old other ≡ None) → Misses number files next earlier deeds from start old → Misses number files next earlier deeds next start old
  miss_end none so = by_left so.left so.above so.below so.same_slots so.so
    where
      by_left : (left : List Known) → All (λ f. from ≤ f.slot.0) left → All (λ f. f.slot.0 < next) left →
          ((other : ℕ) → from ≤ other → other < next → is_some (file_of old other) ≡ has_slot other left) →
          ((told : List SlotEvent) → StandsFor told start → MissesOn number told files left earlier deeds old) → Misses number files next earlier deeds next start old
      by_left [] above below same goes = record {
        history = so.history;
        left = [];
        apart = λ i j e before inside. absurd (omega (arith, inside));
        above = λ k e inside. absurd (omega (arith, inside));
        below = λ k e inside. absurd (omega (arith, inside));
        same_slots = λ other reached under. absurd (omega (arith, reached, under));
        so = goes;
      }
      by_left (file ∷ rest) above below same goes =
          let low : from ≤ file.slot.0 = All-head (λ (f : Known). from ≤ f.slot.0) file rest above in
          let high : file.slot.0 < next = All-head (λ (f : Known). f.slot.0 < next) file rest below in
          absurd (let q : false ≡ true = sym (ap is_some (none file.slot.0 low high)) ∙ same file.slot.0 low high
          ∙ ap (λ (b : Bool). b || has_slot file.slot.0 rest) (equal_is file.slot.0 file.slot.0 refl) in cc)

-- ---- from the first to the last

pub miss_start : (number : ℕ) (known : KnownFiles) (deeds : List SlotDeed) (table : FileTable) → AreWatched known table → Misses number known.files known.next deeds deeds 0 table table
miss_start number known deeds table are = record {
  history = are.history;
  left = known.files;
  apart = are.known.apart;
  above = λ k e inside. omega arith;
  below = are.known.slots;
  same_slots = λ other reached under. are.same_slots other;
  so = λ told stands. record { now = told; stands = stands; all_told = refl; all_asked = refl };
}

pub miss_all : (number : ℕ) (whole : Bool) (files : List Known) (next : ℕ) (earlier deeds : List SlotDeed) (from : ℕ) (old new : FileTable) → whole ≡ true → next ≤ from → Misses number files next earlier deeds from old new →
    MissesAll number whole files earlier deeds old new
miss_all number whole files next earlier deeds from old new is over so =
    subst (λ (b : Bool). MissesAll number b files earlier deeds old new) (sym is)
    (by_left so.left so.above so.below so.so)
  where
    by_left : (left : List Known) → All (λ f. from ≤ f.slot.0) left → All (λ f. f.slot.0 < next) left →
        ((told : List SlotEvent) → StandsFor told old → MissesOn number told files left earlier deeds new) → MissesAll number true files earlier deeds old new
    by_left [] above below goes = record {
      tells = λ told stands. let a = goes told stands in subst (λ (l : List SlotEvent). StandsFor l new) a.all_told a.stands;
      asks = λ told stands. let a = goes told stands in sym (append-nil deeds) ∙ a.all_asked;
    }
    by_left (file ∷ rest) above below goes =
        absurd (omega (arith, over, All-head (λ (f : Known). from ≤ f.slot.0) file rest above, All-head (λ (f : Known). f.slot.0 < next) file rest below))

pub miss_none : (number : ℕ) (whole : Bool) (files : List Known) (deeds : List SlotDeed) (table : FileTable) → whole ≡ false → MissesAll number whole files deeds deeds table table
miss_none number whole files deeds table is = subst (λ (b : Bool). MissesAll number b files deeds deeds table table) (sym is)
    (record { tells = λ told stands. stands; asks = λ told stands. sym (append-nil deeds) })
