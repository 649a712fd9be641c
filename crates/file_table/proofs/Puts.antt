-- A table of which one slot's entry changes, and what that adds to its events.
use Rattle.std.proofs.Common.{◌≡◌, ◌≢◌, ℕ, Bool, true, false, List, [], ◌∷◌, Option, Some, None, refl, sym, ap, ◌∙◌, subst, if◌then◌else◌}
use Rattle.std.specs.BTreeMap.{BTreeMap, Updates, WritesThrough, is_at}
use Rattle.std.specs.Map.{lookup}
use Rattle.std.specs.Option.{IsSome}
use Rattle.std.specs.Ordering.{is_eq, nat_cmp}
use Rattle.std.specs.Prelude.{◌==◌}
use Rattle.std.specs.declared.cmp.Ordering.{Ordering}
use Rattle.std.specs.declared.cmp.Ordering.TheVariants.{Less, Equal, Greater}
use Rattle.std.proofs.lemmas.Bool.Decides.{Decides-eqb}
use Rattle.std.proofs.lemmas.Map.Lookups.{exact_unsigned}
use Rattle.file_table.specs.declared.at.At.{At}
use Rattle.file_table.specs.declared.deed.Deed.{Deed}
use Rattle.file_table.specs.declared.deed.Deed.TheVariants.{Nothing}
use Rattle.file_table.specs.declared.file_entry.FileEntry.{FileEntry}
use Rattle.file_table.specs.declared.news.FileNews.{FileNews}
use Rattle.file_table.specs.declared.table.FileTable.{FileTable}
use Rattle.file_table.specs.Entries.{FitsNews, begun_entry, deed_of, next_entry}
use Rattle.file_table.specs.Events.{Began, Created, FileEvent, Gone, News, SlotEvent, events_of, life}
use Rattle.file_table.specs.Standing.{IsFile, IsFileOf, deed_for, deed_in, is_known}
use Rattle.file_table.specs.Tables.{Adds, AreSame, Hears, Puts, StandsFor, file_of}
use Rattle.file_table.proofs.Deeds.{deed_is}
use Rattle.file_table.proofs.Steps.{next_so}

pub puts_updated : (old new : FileTable) (slot : ℕ) (entry : Option FileEntry) → Updates nat_cmp old.files new.files slot entry → Puts old new slot entry
puts_updated old new slot entry updates = record {
  here = updates.1;
  others = λ other differs. updates.2 other (not_at other (is_at (nat_cmp slot) other) refl differs);
}
  where
    equal : (o : Ordering) → is_eq o ≡ true → o ≡ Equal
    equal Less e = absurd (let q : false ≡ true = e in cc)
    equal Equal e = refl
    equal Greater e = absurd (let q : false ≡ true = e in cc)

    not_at : (other : ℕ) (t : Bool) → is_at (nat_cmp slot) other ≡ t → other ≢ slot → t ≡ false
    not_at other true e differs = absurd (differs (sym (exact_unsigned slot other (equal (nat_cmp slot other) e))))
    not_at other false e differs = refl

pub puts_written : (old new : FileTable) (slot : ℕ) (entry after : FileEntry) → file_of old slot ≡ Some entry → WritesThrough nat_cmp (nat_cmp slot) old.files after new.files → Puts old new slot (Some after)
puts_written old new slot entry after there written = puts_updated old new slot (Some after) (written.3 (subst IsSome (sym there) refl))

pub same_files : (old new : FileTable) → AreSame old new → (slot : ℕ) → file_of new slot ≡ file_of old slot
same_files old new same slot = ap (lookup (is_at (nat_cmp slot))) same

-- ---- one event more

pub adds_put : (old new : FileTable) (slot : ℕ) (event : FileEvent) (after : Option FileEntry) → Puts old new slot after →
    ((events : List FileEvent) → IsFile events (file_of old slot) → IsFile (event ∷ events) after) → Adds (record { slot = slot; event = event }) old new
adds_put old new slot event after puts step = λ told stands other. by_case told stands other (other == slot) refl
  where
    by_case : (told : List SlotEvent) → StandsFor told old → (other : ℕ) (b : Bool) → (other == slot) ≡ b →
        IsFile (if b then event ∷ events_of other told else events_of other told) (file_of new other)
    by_case told stands other true e =
        let same : other ≡ slot = (Decides-eqb other slot).0 e in
        subst (λ (n : ℕ). IsFile (event ∷ events_of n told) (file_of new n)) (sym same)
        (subst (IsFile (event ∷ events_of slot told)) (sym puts.here) (step (events_of slot told) (stands slot)))
    by_case told stands other false e =
        subst (IsFile (events_of other told))
        (sym (puts.others other (λ same. let q : true ≡ false = sym ((Decides-eqb other slot).1 same) ∙ e in cc))) (stands other)

-- a file begins, whatever was there
pub begun_so : (at : At) (row : Bool) (events : List FileEvent) → IsFileOf (Began at row ∷ events) (begun_entry at row)
begun_so at true events = record {
  known_is = refl;
  registered_is = (refl, refl, refl);
  goes_on = refl;
  shown_is = refl;
  stands = ((refl, refl), refl);
}
begun_so at false events = record {
  known_is = refl;
  registered_is = (refl, refl);
  goes_on = refl;
  shown_is = refl;
  stands = ((refl, refl), refl);
}

pub created_so : (events : List FileEvent) → IsFileOf (Created ∷ events) (begun_entry (record { epoch = record { 0 = 0 }; place = 0 }) false)
created_so events = record {
  known_is = refl;
  registered_is = (refl, refl);
  goes_on = refl;
  shown_is = refl;
  stands = ((refl, refl), refl);
}

-- a file is gone
pub adds_gone : (old new : FileTable) (slot : ℕ) → Updates nat_cmp old.files new.files slot None → Adds (record { slot = slot; event = Gone }) old new
adds_gone old new slot updates = adds_put old new slot Gone None (puts_updated old new slot None updates) (λ events is. refl)

-- ---- news

module _ (old new : FileTable) (slot : ℕ) (news : FileNews) (asked : Deed) where
  pub hears_some : (entry : FileEntry) → file_of old slot ≡ Some entry → Puts old new slot (Some (next_entry news entry)) → FitsNews news entry.stand → asked ≡ deed_of news entry →
      Hears (record { slot = slot; event = News news }) old asked new
  hears_some entry there puts fits is = record {
    adds = adds_put old new slot (News news) (Some (next_entry news entry)) puts
        (λ events file. next_so events entry (subst (IsFile events) there file) news fits);
    asks = λ told stands.
        let file : IsFileOf (events_of slot told) entry = subst (IsFile (events_of slot told)) there (stands slot) in
        is ∙ deed_is (life (events_of slot told)) entry file.registered_is file.goes_on file.stands news fits
        ∙ ap (λ (b : Bool). if b then deed_for (life (events_of slot told)) news else Nothing) (sym file.known_is);
  }

  pub hears_none : file_of old slot ≡ None → AreSame old new → asked ≡ Nothing → Hears (record { slot = slot; event = News news }) old asked new
  hears_none there same is = record {
    adds = adds_put old new slot (News news) None (record { here = same_files old new same slot ∙ there; others = λ other differs. same_files old new same other })
        (λ events file. let f : is_known events ≡ false = subst (IsFile events) there file in f);
    asks = λ told stands.
        let f : is_known (events_of slot told) ≡ false = subst (IsFile (events_of slot told)) there (stands slot) in
        is ∙ ap (λ (b : Bool). if b then deed_for (life (events_of slot told)) news else Nothing) (sym f);
  }

-- an empty table
pub stands_empty : (table : FileTable) → table.files.entries ≡ [] → StandsFor [] table
stands_empty table empty = λ slot. subst (IsFile []) (sym (ap (lookup (is_at (nat_cmp slot))) empty)) refl
