-- Events told one after another, and the deeds that they ask for.
use Rattle.std.proofs.Common.{◌≡◌, ℕ, zero, suc, ◌+◌, ◌<◌, ◌≤◌, arith, map, Bool, List, [], ◌∷◌, ◌++◌, length, drop, get_or, Some, None, refl, sym, ap, ◌∙◌, subst, append_assoc, drop-cons, add-one, flat_map}
use Rattle.std.proofs.lemmas.List.{append-nil}
use Rattle.prospector_core.specs.declared.change.Change.{Change}
use Rattle.prospector_core.specs.declared.change.Change.TheVariants as change
use Rattle.prospector_core.specs.declared.known.Known.{Known}
use Rattle.wire_base.specs.declared.numbers.Slot.{Slot}
use Rattle.file_table.specs.declared.deed.Deed.{Deed}
use Rattle.file_table.specs.declared.table.FileTable.{FileTable}
use Rattle.file_table.specs.Events.{SlotEvent, events_of, news_of}
use Rattle.file_table.specs.Tables.{Adds, Hears, Takes, deed_at}
use Rattle.watched_files.specs.declared.slot_deed.SlotDeed.{SlotDeed}
use Rattle.watched_files.specs.Kinds.{cleans_by, news_slot}
use Rattle.watched_files.specs.Parts.{Asks, Tells}
use Rattle.watched_files.specs.Telling.{asked, change_events, deeds_by, tell}

pub tell-append : (told es fs : List SlotEvent) → tell told (es ++ fs) ≡ tell (tell told es) fs
tell-append told [] fs = refl
tell-append told (e ∷ es) fs = tell-append (e ∷ told) es fs

pub deeds-append : (told es fs : List SlotEvent) → deeds_by told (es ++ fs) ≡ deeds_by told es ++ deeds_by (tell told es) fs
deeds-append told [] fs = refl
deeds-append told (e ∷ es) fs =
    ap (λ (l : List SlotDeed). asked e.slot (deed_at e.event (events_of e.slot told)) ++ l) (deeds-append (e ∷ told) es fs)
    ∙ sym (append_assoc (asked e.slot (deed_at e.event (events_of e.slot told))) (deeds_by (e ∷ told) es) (deeds_by (tell (e ∷ told) es) fs))

-- the list that the elements from this place on make
pub drop_flat : {A B : Type 0} (f : A → List B) (xs : List A) (i : ℕ) (x : A) → i < length xs → x ≡ get_or xs i x →
    flat_map f (drop i xs) ≡ f x ++ flat_map f (drop (i + 1) xs)
drop_flat f xs i x inside is =
    ap (flat_map f) (drop-cons xs i x inside)
    ∙ ap (λ y. f y ++ flat_map f (drop (suc i) xs)) (sym is)
    ∙ ap (λ (n : ℕ). f x ++ flat_map f (drop n xs)) (sym (add-one i))

pub drop_map : {A B : Type 0} (f : A → B) (xs : List A) (i : ℕ) (x : A) → i < length xs → x ≡ get_or xs i x → map f (drop i xs) ≡ f x ∷ map f (drop (i + 1) xs)
drop_map f xs i x inside is =
    ap (map f) (drop-cons xs i x inside)
    ∙ ap (λ y. f y ∷ map f (drop (suc i) xs)) (sym is)
    ∙ ap (λ (n : ℕ). f x ∷ map f (drop n xs)) (sym (add-one i))

pub drop_all : {A : Type 0} (xs : List A) (i : ℕ) → length xs ≤ i → drop i xs ≡ []
drop_all [] zero over = refl
drop_all [] (suc i) over = refl
drop_all (x ∷ xs) zero over = absurd (omega (arith, over))
drop_all (x ∷ xs) (suc i) over = drop_all xs i (omega (arith, over))

-- ---- events alone

pub tells_one : (e : SlotEvent) (old new : FileTable) → Adds e old new → Tells (e ∷ []) [] old new
tells_one e old new adds = λ told stands. record { now = e ∷ told; stands = adds told stands; all_told = refl }

pub tells_none : (table : FileTable) → Tells [] [] table table
tells_none table = λ told stands. record { now = told; stands = stands; all_told = refl }

pub tells_start : (all : List SlotEvent) (table : FileTable) → Tells all all table table
tells_start all table = λ told stands. record { now = told; stands = stands; all_told = refl }

pub tells_step : (all es rest left : List SlotEvent) (start old new : FileTable) → left ≡ es ++ rest → Tells all left start old → Tells es [] old new → Tells all rest start new
tells_step all es rest left start old new is so more = λ told stands.
    let a = so told stands in
    let b = more a.now a.stands in
    record {
      now = b.now;
      stands = b.stands;
      all_told = ap (λ (l : List SlotEvent). tell l rest) b.all_told ∙ sym (tell-append a.now es rest) ∙ ap (tell a.now) (sym is) ∙ a.all_told;
    }

pub tells_end : (all left : List SlotEvent) (old new : FileTable) → left ≡ [] → Tells all left old new → Tells all [] old new
tells_end all left old new none so = subst (λ (l : List SlotEvent). Tells all l old new) none so

-- ---- with deeds

pub asks_start : (all : List SlotEvent) (deeds : List SlotDeed) (table : FileTable) → Asks all all deeds deeds table table
asks_start all deeds table = λ told stands. record { now = told; stands = stands; all_told = refl; all_asked = refl }

pub asks_step : (all es rest left : List SlotEvent) (earlier deeds more : List SlotDeed) (start old new : FileTable) → left ≡ es ++ rest →
    Asks all left earlier deeds start old → Asks es [] deeds more old new → Asks all rest earlier more start new
asks_step all es rest left earlier deeds more start old new is so one = λ told stands.
    let a = so told stands in
    let b = one a.now a.stands in
    let asked_now : more ≡ deeds ++ deeds_by a.now es = sym (append-nil more) ∙ b.all_asked in
    record {
      now = b.now;
      stands = b.stands;
      all_told = ap (λ (l : List SlotEvent). tell l rest) b.all_told ∙ sym (tell-append a.now es rest) ∙ ap (tell a.now) (sym is) ∙ a.all_told;
      all_asked =
          ap (λ (l : List SlotEvent). more ++ deeds_by l rest) b.all_told
          ∙ ap (λ (l : List SlotDeed). l ++ deeds_by (tell a.now es) rest) asked_now
          ∙ append_assoc deeds (deeds_by a.now es) (deeds_by (tell a.now es) rest)
          ∙ ap (λ (l : List SlotDeed). deeds ++ l) (sym (deeds-append a.now es rest))
          ∙ ap (λ (l : List SlotEvent). deeds ++ deeds_by a.now l) (sym is)
          ∙ a.all_asked;
    }

pub asks_one : (e : SlotEvent) (old : FileTable) (d : Deed) (new : FileTable) (deeds more : List SlotDeed) → Hears e old d new → more ≡ deeds ++ asked e.slot d → Asks (e ∷ []) [] deeds more old new
asks_one e old d new deeds more hears is = λ told stands. record {
  now = e ∷ told;
  stands = hears.adds told stands;
  all_told = refl;
  all_asked =
      append-nil more ∙ is
      ∙ ap (λ (x : Deed). deeds ++ asked e.slot x) (hears.asks told stands)
      ∙ ap (λ (l : List SlotDeed). deeds ++ l) (sym (append-nil (asked e.slot (deed_at e.event (events_of e.slot told)))));
}

pub asks_none : (all : List SlotEvent) (deeds : List SlotDeed) (table : FileTable) → all ≡ [] → Asks all [] deeds deeds table table
asks_none all deeds table none = subst (λ (l : List SlotEvent). Asks l [] deeds deeds table table) (sym none) (asks_start [] deeds table)

pub asks_end : (all left : List SlotEvent) (earlier deeds : List SlotDeed) (old new : FileTable) → left ≡ [] → Asks all left earlier deeds old new → Asks all [] earlier deeds old new
asks_end all left earlier deeds old new none so = subst (λ (l : List SlotEvent). Asks all l earlier deeds old new) none so

-- ---- a change

module _ (number : ℕ) (clean : List Bool) (files : List Known) where
  pub takes_asks : (one : Change) (slot : Slot) (old : FileTable) (d : Deed) (new : FileTable) (deeds more : List SlotDeed) → news_slot one ≡ Some slot →
      Takes (news_of number (cleans_by clean files one) one) old d new → more ≡ deeds ++ asked slot.0 d → Asks (change_events number clean files one) [] deeds more old new
  takes_asks (change.Created at input key path size) slot old d new deeds more same takes is = absurd (let q : None ≡ Some slot = same in cc)
  takes_asks (change.Returned at path size) slot old d new deeds more same takes is =
      asks_one _ old d new deeds more takes (is ∙ ap (λ (o : Slot). deeds ++ asked o.0 d) (let q : slot ≡ at = cc in q))
  takes_asks (change.Renamed at from to) slot old d new deeds more same takes is =
      asks_one _ old d new deeds more takes (is ∙ ap (λ (o : Slot). deeds ++ asked o.0 d) (let q : slot ≡ at = cc in q))
  takes_asks (change.Written at size) slot old d new deeds more same takes is =
      asks_one _ old d new deeds more takes (is ∙ ap (λ (o : Slot). deeds ++ asked o.0 d) (let q : slot ≡ at = cc in q))
  takes_asks (change.Truncated at size) slot old d new deeds more same takes is =
      asks_one _ old d new deeds more takes (is ∙ ap (λ (o : Slot). deeds ++ asked o.0 d) (let q : slot ≡ at = cc in q))
  takes_asks (change.Removed at) slot old d new deeds more same takes is =
      asks_one _ old d new deeds more takes (is ∙ ap (λ (o : Slot). deeds ++ asked o.0 d) (let q : slot ≡ at = cc in q))
  takes_asks (change.Doubled path) slot old d new deeds more same takes is = absurd (let q : None ≡ Some slot = same in cc)

  pub no_news : (one : Change) → news_slot one ≡ None → change_events number clean files one ≡ []
  no_news (change.Created at input key path size) same = refl
  no_news (change.Returned at path size) same = absurd (let q : Some at ≡ None = same in cc)
  no_news (change.Renamed at from to) same = absurd (let q : Some at ≡ None = same in cc)
  no_news (change.Written at size) same = absurd (let q : Some at ≡ None = same in cc)
  no_news (change.Truncated at size) same = absurd (let q : Some at ≡ None = same in cc)
  no_news (change.Removed at) same = absurd (let q : Some at ≡ None = same in cc)
  no_news (change.Doubled path) same = refl
