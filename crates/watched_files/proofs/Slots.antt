-- Which slots a table and the known files have.
use Rattle.std.proofs.Common.{◌≡◌, ◌≢◌, ⊎_elim, ℕ, zero, suc, ◌+◌, ◌<◌, ◌≤◌, ◌==◌, Bool, true, false, ◌||◌, not, List, [], ◌∷◌, ◌++◌, length, map, filter, get_or, All, AllPairs, Contains, Option, Some, None, is_some, refl, sym, ap, ◌∙◌, subst, arith, if◌then◌else◌}
use Rattle.std.proofs.Math.Bool.{Bool-set}
use Rattle.std.proofs.Math.Logic.{∥∥₁_elim, ∥∥₁_map}
use Rattle.std.proofs.lemmas.Bool.{cases_lt}
use Rattle.std.proofs.lemmas.Bool.Decides.{Decides-eqb}
use Rattle.std.proofs.lemmas.List.Elements.{All-head, All-tail}
use Rattle.prospector_core.specs.declared.change.Change.{Change}
use Rattle.prospector_core.specs.declared.change.Change.TheVariants as change
use Rattle.prospector_core.specs.declared.known.Known.{Known}
use Rattle.prospector_core.specs.declared.seen.Seen.{Seen}
use Rattle.prospector_core.specs.Changes.{cleans, created_files, file_after, file_shown, is_held}
use Rattle.prospector_core.specs.KnownFiles.{KnownFiles, StandsBefore, first_with}
use Rattle.wire_base.specs.declared.numbers.Slot.{Slot}
use Rattle.file_table.specs.declared.deed.Deed.{Deed}
use Rattle.file_table.specs.declared.file_entry.FileEntry.{FileEntry}
use Rattle.file_table.specs.declared.news.FileNews.{FileNews}
use Rattle.file_table.specs.declared.table.FileTable.{FileTable}
use Rattle.file_table.specs.Events.{News, SlotEvent, events_of, news_of}
use Rattle.file_table.specs.Standing.{IsFile, is_known}
use Rattle.file_table.specs.Tables.{Adds, StandsFor, Takes, file_of}
use Rattle.watched_files.specs.Kinds.{news_slot}
use Rattle.watched_files.specs.Telling.{cleans_at}
use Rattle.watched_files.specs.Watching.{AreWatched, HasHistory, KeepsSlots, has_slot}

pub known_is : (told : List SlotEvent) (table : FileTable) → StandsFor told table → (slot : ℕ) → is_some (file_of table slot) ≡ is_known (events_of slot told)
known_is told table stands slot = by_case (file_of table slot) (stands slot)
  where
    by_case : (o : Option FileEntry) → IsFile (events_of slot told) o → is_some o ≡ is_known (events_of slot told)
    by_case None is = sym is
    by_case (Some entry) is = sym is.known_is

pub later_history : (old new : FileTable) → KeepsSlots old new → ∥ HasHistory old ∥₁ → ∥ HasHistory new ∥₁
later_history old new keeps history = ∥∥₁_map history (λ h. let later = keeps h.told h.stands in record { told = later.more; stands = later.stands })

pub slots_same : (old new : FileTable) → ∥ HasHistory old ∥₁ → KeepsSlots old new → (slot : ℕ) → is_some (file_of new slot) ≡ is_some (file_of old slot)
slots_same old new history keeps slot = ∥∥₁_elim history (Bool-set _ _)
    (λ h. let later = keeps h.told h.stands in
    known_is later.more new later.stands slot ∙ later.same slot ∙ sym (known_is h.told old h.stands slot))

pub watched_later : (known : KnownFiles) (old new : FileTable) → AreWatched known old → KeepsSlots old new → AreWatched known new
watched_later known old new are keeps =
    record {
      known = are.known;
      history = later_history old new keeps are.history;
      same_slots = λ slot. slots_same old new are.history keeps slot ∙ are.same_slots slot;
    }

-- ---- news leaves the slots as they are

pub keeps_refl : (table : FileTable) → KeepsSlots table table
keeps_refl table = λ told stands. record { more = told; stands = stands; same = λ slot. refl }

pub keeps_trans : (old mid new : FileTable) → KeepsSlots old mid → KeepsSlots mid new → KeepsSlots old new
keeps_trans old mid new one two = λ told stands.
    let a = one told stands in
    let b = two a.more a.stands in
    record { more = b.more; stands = b.stands; same = λ slot. b.same slot ∙ a.same slot }

pub keeps_news : (at : ℕ) (news : FileNews) (old new : FileTable) → Adds (record { slot = at; event = News news }) old new → KeepsSlots old new
keeps_news at news old new adds = λ told stands. record {
  more = record { slot = at; event = News news } ∷ told;
  stands = adds told stands;
  same = λ slot. by_case told slot (slot == at);
}
  where
    by_case : (told : List SlotEvent) (slot : ℕ) (b : Bool) → is_known (if b then News news ∷ events_of slot told else events_of slot told) ≡ is_known (events_of slot told)
    by_case told slot true = refl
    by_case told slot false = refl

pub keeps_same : (old new : FileTable) → ((slot : ℕ) → file_of new slot ≡ file_of old slot) → KeepsSlots old new
keeps_same old new same = λ told stands. record {
  more = told;
  stands = λ slot. subst (IsFile (events_of slot told)) (sym (same slot)) (stands slot);
  same = λ slot. refl;
}

pub keeps_takes : (number : ℕ) (clean : Bool) (one : Change) (slot : Slot) (old : FileTable) (d : Deed) (new : FileTable) → news_slot one ≡ Some slot → Takes (news_of number clean one) old d new → KeepsSlots old new
keeps_takes number clean (change.Created at input key path size) slot old d new same takes = absurd (let q : None ≡ Some slot = same in cc)
keeps_takes number clean (change.Returned at path size) slot old d new same takes = keeps_news _ _ old new takes.adds
keeps_takes number clean (change.Renamed at from to) slot old d new same takes = keeps_news _ _ old new takes.adds
keeps_takes number clean (change.Written at size) slot old d new same takes = keeps_news _ _ old new takes.adds
keeps_takes number clean (change.Truncated at size) slot old d new same takes = keeps_news _ _ old new takes.adds
keeps_takes number clean (change.Removed at) slot old d new same takes = keeps_news _ _ old new takes.adds
keeps_takes number clean (change.Doubled path) slot old d new same takes = absurd (let q : None ≡ Some slot = same in cc)

-- ---- slots of lists of files

pub equal_is : (n m : ℕ) → n ≡ m → (n == m) ≡ true
equal_is n m same = (Decides-eqb n m).1 same

pub unequal_is : (n m : ℕ) → n ≢ m → (n == m) ≡ false
unequal_is n m differs = by_case (n == m) refl
  where
    by_case : (b : Bool) → (n == m) ≡ b → b ≡ false
    by_case true e = absurd (differs ((Decides-eqb n m).0 e))
    by_case false e = refl

pub has-append : (slot : ℕ) (xs ys : List Known) → has_slot slot (xs ++ ys) ≡ has_slot slot xs || has_slot slot ys
has-append slot [] ys = refl
has-append slot (x ∷ xs) ys = by_case (x.slot.0 == slot) (has-append slot xs ys)
  where
    by_case : (b : Bool) → has_slot slot (xs ++ ys) ≡ has_slot slot xs || has_slot slot ys → b || has_slot slot (xs ++ ys) ≡ (b || has_slot slot xs) || has_slot slot ys
    by_case true h = refl
    by_case false h = h

slot_kept : (clean : List Bool) (whole : Bool) (file : Known) (first : Option Seen) → (file_shown clean whole file first).slot ≡ file.slot
slot_kept clean whole file None = by_case whole
  where
    by_case : (b : Bool) → (if b then record file { present = false } else file).slot ≡ file.slot
    by_case true = refl
    by_case false = refl
slot_kept clean whole file (Some member) = by_case (is_held clean file)
  where
    by_case : (b : Bool) → (if b then file else record file { path = member.path; size = member.size; present = true }).slot ≡ file.slot
    by_case true = refl
    by_case false = refl

pub has_after : (clean : List Bool) (whole : Bool) (seen : List Seen) (slot : ℕ) (files : List Known) → has_slot slot (map (file_after clean whole seen) files) ≡ has_slot slot files
has_after clean whole seen slot [] = refl
has_after clean whole seen slot (file ∷ files) =
    ap (λ (s : Slot). (s.0 == slot) || has_slot slot (map (file_after clean whole seen) files)) (slot_kept clean whole file (first_with file.key seen))
    ∙ ap (λ (b : Bool). (file.slot.0 == slot) || b) (has_after clean whole seen slot files)

pub has_none : (next slot : ℕ) (files : List Known) → All (λ file. file.slot.0 < next) files → next ≤ slot → has_slot slot files ≡ false
has_none next slot [] below above = refl
has_none next slot (file ∷ files) below above =
    let lower : file.slot.0 < next = All-head (λ (f : Known). f.slot.0 < next) file files below in
    ap (λ (b : Bool). b || has_slot slot files) (unequal_is file.slot.0 slot (λ same. omega (arith, same, lower, above)))
    ∙ has_none next slot files (All-tail (λ (f : Known). f.slot.0 < next) file files below) above

pub created_below : (first slot : ℕ) (members : List Seen) → slot < first → has_slot slot (created_files first members) ≡ false
created_below first slot [] below = refl
created_below first slot (member ∷ members) below =
    ap (λ (b : Bool). b || has_slot slot (created_files (first + 1) members)) (unequal_is first slot (λ same. omega (arith, same, below)))
    ∙ created_below (first + 1) slot members (omega (arith, below))

pub created_above : (first slot : ℕ) (members : List Seen) → first + length members ≤ slot → has_slot slot (created_files first members) ≡ false
created_above first slot [] above = refl
created_above first slot (member ∷ members) above =
    ap (λ (b : Bool). b || has_slot slot (created_files (first + 1) members)) (unequal_is first slot (λ same. omega (arith, same, above)))
    ∙ created_above (first + 1) slot members (omega (arith, above))

pub created_within : (first slot : ℕ) (members : List Seen) → first ≤ slot → slot < first + length members → has_slot slot (created_files first members) ≡ true
created_within first slot [] above below = absurd (omega (arith, above, below))
created_within first slot (member ∷ members) above below =
    by_case (first == slot) refl
    (λ differs. created_within (first + 1) slot members (⊎_elim (λ less. omega (arith, less)) (λ no. absurd (differs (omega (arith, no, above)))) (cases_lt first slot)) (omega (arith, below)))
  where
    by_case : (b : Bool) → (first == slot) ≡ b → (first ≢ slot → has_slot slot (created_files (first + 1) members) ≡ true) → b || has_slot slot (created_files (first + 1) members) ≡ true
    by_case true e rest = refl
    by_case false e rest = rest (λ same. let q : true ≡ false = sym (equal_is first slot same) ∙ e in cc)

-- one file less
pub has_without : (gone slot : ℕ) (files : List Known) → has_slot slot (filter (λ file. not (file.slot.0 == gone)) files) ≡ (if slot == gone then false else has_slot slot files)
has_without gone slot [] = by_case (slot == gone)
  where
    by_case : (b : Bool) → false ≡ (if b then false else false)
    by_case true = refl
    by_case false = refl
has_without gone slot (file ∷ files) = by_file (file.slot.0 == gone) refl (has_without gone slot files)
  where
    kept : (b : Bool) → (slot == gone) ≡ b → file.slot.0 ≢ gone → (file.slot.0 == slot) || (if b then false else has_slot slot files) ≡ (if b then false else (file.slot.0 == slot) || has_slot slot files)
    kept true e differs =
        ap (λ (c : Bool). c || false) (unequal_is file.slot.0 slot (λ same. differs (same ∙ (Decides-eqb slot gone).0 e)))
    kept false e differs = refl

    dropped : (b : Bool) → (slot == gone) ≡ b → file.slot.0 ≡ gone → (if b then false else has_slot slot files) ≡ (if b then false else (file.slot.0 == slot) || has_slot slot files)
    dropped true e same = refl
    dropped false e same =
        ap (λ (c : Bool). c || has_slot slot files)
        (sym (unequal_is file.slot.0 slot (λ is. let q : true ≡ false = sym (equal_is slot gone (sym is ∙ same)) ∙ e in cc)))

    by_file : (b : Bool) → (file.slot.0 == gone) ≡ b → has_slot slot (filter (λ one. not (one.slot.0 == gone)) files) ≡ (if slot == gone then false else has_slot slot files) →
        has_slot slot (if not b then file ∷ filter (λ one. not (one.slot.0 == gone)) files else filter (λ one. not (one.slot.0 == gone)) files)
        ≡ (if slot == gone then false else (file.slot.0 == slot) || has_slot slot files)
    by_file true e rest = rest ∙ dropped (slot == gone) refl ((Decides-eqb file.slot.0 gone).0 e)
    by_file false e rest =
        ap (λ (c : Bool). (file.slot.0 == slot) || c) rest
        ∙ kept (slot == gone) refl (λ same. let q : true ≡ false = sym (equal_is file.slot.0 gone same) ∙ e in cc)

-- ---- whether a file's input forgets removed files

pub cleans_found : (clean : List Bool) (files : List Known) (k : ℕ) (file : Known) → AllPairs StandsBefore files → k < length files → get_or files k file ≡ file →
    cleans_at clean files file.slot.0 ≡ cleans clean file.input
cleans_found clean [] k file apart inside is = absurd (omega (arith, inside))
cleans_found clean (one ∷ files) zero file apart inside is =
    subst (λ (f : Known). cleans_at clean (one ∷ files) f.slot.0 ≡ cleans clean f.input) is
    (ap (λ (b : Bool). if b then cleans clean one.input else cleans_at clean files one.slot.0) (equal_is one.slot.0 one.slot.0 refl))
cleans_found clean (one ∷ files) (suc k) file apart inside is =
    let before : StandsBefore one (get_or files k file) = apart 0 (suc k) file (omega arith) inside in
    let lower : one.slot.0 < file.slot.0 = subst (λ (f : Known). one.slot.0 < f.slot.0) is before.slot in
    ap (λ (b : Bool). if b then cleans clean one.input else cleans_at clean files file.slot.0) (unequal_is one.slot.0 file.slot.0 (λ same. omega (arith, same, lower)))
    ∙ cleans_found clean files k file (λ i j d lt within. apart (suc i) (suc j) d (omega (arith, lt)) (omega (arith, within))) (omega (arith, inside)) is

pub cleans_contained : (clean : List Bool) (files : List Known) (file : Known) (slot : Slot) → AllPairs StandsBefore files → Contains files file → file.slot ≡ slot →
    cleans clean file.input ≡ cleans_at clean files slot.0
cleans_contained clean files file slot apart inside same =
    sym (cleans_found clean files inside.0 file apart inside.1 inside.2) ∙ ap (λ (s : Slot). cleans_at clean files s.0) same

pub cleans_none : (clean : List Bool) (files : List Known) (slot : Slot) → All (λ file. file.slot ≢ slot) files → false ≡ cleans_at clean files slot.0
cleans_none clean [] slot none = refl
cleans_none clean (file ∷ files) slot none =
    cleans_none clean files slot (All-tail (λ (f : Known). f.slot ≢ slot) file files none)
    ∙ ap (λ (b : Bool). if b then cleans clean file.input else cleans_at clean files slot.0)
    (sym (unequal_is file.slot.0 slot.0 (λ same. All-head (λ (f : Known). f.slot ≢ slot) file files none (let q : file.slot.0 ≡ slot.0 = same in ap (λ (n : ℕ). (let s : Slot = record { 0 = n } in s)) q))))
