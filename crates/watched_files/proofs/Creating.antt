-- The entries of the files that a scan shows for the first time: made before it is known that the scan is not refused.
use Rattle.std.proofs.Common.{◌≡◌, ◌≢◌, ⊎_elim, ℕ, ◌+◌, ◌<◌, ◌≤◌, ◌==◌, Bool, true, false, ◌||◌, List, [], ◌∷◌, length, map, Option, Some, None, is_some, refl, sym, ap, ◌∙◌, subst, arith, if◌then◌else◌}
use Rattle.std.proofs.Math.Logic.{∥∥₁_map}
use Rattle.std.proofs.lemmas.Bool.{cases_lt}
use Rattle.std.proofs.lemmas.Bool.Decides.{Decides-eqb}
use Rattle.prospector_core.specs.declared.seen.Seen.{Seen}
use Rattle.prospector_core.specs.Changes.{created_files, file_after, known_after, new_members}
use Rattle.prospector_core.specs.KnownFiles.{AreKnown, KnownFiles}
use Rattle.file_table.specs.declared.file_entry.FileEntry.{FileEntry}
use Rattle.file_table.specs.declared.table.FileTable.{FileTable}
use Rattle.file_table.specs.Entries.{created_entry}
use Rattle.file_table.specs.Events.{Created, FileEvent, SlotEvent, events_of}
use Rattle.file_table.specs.Standing.{IsFile, IsFileOf}
use Rattle.file_table.specs.Tables.{Puts, StandsFor, file_of}
use Rattle.watched_files.specs.Telling.{created_event, tell, told_created}
use Rattle.watched_files.specs.Watching.{AreWatched, HasPut, HaveSameFiles, IsFreeFrom, has_slot}
use Rattle.watched_files.proofs.Slots.{created_above, created_below, created_within, equal_is, has-append, has_after, has_none}

-- ---- slots one after another

pub put_none : (entry : Option FileEntry) (first : ℕ) (table : FileTable) → HasPut entry first first table table
put_none entry first table = record {
  within = λ slot above below. absurd (omega (arith, above, below));
  below = λ slot below. refl;
  above = λ slot above. refl;
}

pub put_next : (entry : Option FileEntry) (first at : ℕ) (start old new : FileTable) → first ≤ at → HasPut entry first at start old → Puts old new at entry → HasPut entry first (at + 1) start new
put_next entry first at start old new order so puts = record {
  within = λ slot above below. ⊎_elim
      (λ less. puts.others slot (λ same. omega (arith, same, less)) ∙ so.within slot above less)
      (λ no. let same : slot ≡ at = omega (arith, no, below) in ap (file_of new) same ∙ puts.here)
      (cases_lt slot at);
  below = λ slot below. puts.others slot (λ same. omega (arith, same, below, order)) ∙ so.below slot below;
  above = λ slot above. puts.others slot (λ same. omega (arith, same, above)) ∙ so.above slot (omega (arith, above));
}

-- those that no file was created of are taken out
pub put_withdrawn : (entry : Option FileEntry) (first next last : ℕ) (start made new : FileTable) → IsFreeFrom first start → first ≤ next → next ≤ last →
    HasPut entry first last start made → HasPut None next last made new → HasPut entry first next start new
put_withdrawn entry first next last start made new free low high so out = record {
  within = λ slot above below. out.below slot below ∙ so.within slot above (omega (arith, below, high));
  below = λ slot below. out.below slot (omega (arith, below, low)) ∙ so.below slot below;
  above = λ slot above. ⊎_elim
      (λ less. out.within slot above less ∙ sym (free slot (omega (arith, above, low))))
      (λ no. out.above slot no ∙ so.above slot no)
      (cases_lt slot last);
}

-- all are taken out
pub put_undone : (first last : ℕ) (start made new : FileTable) → IsFreeFrom first start →
    ((slot : ℕ) → slot < first → file_of made slot ≡ file_of start slot) → ((slot : ℕ) → last ≤ slot → file_of made slot ≡ file_of start slot) →
    HasPut None first last made new → HaveSameFiles start new
put_undone first last start made new free below above out = λ slot. ⊎_elim
    (λ less. out.below slot less ∙ below slot less)
    (λ no. ⊎_elim (λ inside. out.within slot no inside ∙ sym (free slot no)) (λ beyond. out.above slot beyond ∙ above slot beyond) (cases_lt slot last))
    (cases_lt slot first)

-- ---- the table stands for the events

created_so : (events : List FileEvent) → IsFileOf (Created ∷ events) created_entry
created_so events = record {
  known_is = refl;
  registered_is = (refl, refl);
  goes_on = refl;
  shown_is = refl;
  stands = ((refl, refl), refl);
}

pub created_stands : (first : ℕ) (members : List Seen) (told : List SlotEvent) (table : FileTable) →
    ((slot : ℕ) → first ≤ slot → slot < first + length members → file_of table slot ≡ Some created_entry) →
    ((slot : ℕ) → slot < first → IsFile (events_of slot told) (file_of table slot)) →
    ((slot : ℕ) → first + length members ≤ slot → IsFile (events_of slot told) (file_of table slot)) →
    StandsFor (tell told (map created_event (created_files first members))) table
created_stands first [] told table within below above = λ slot. ⊎_elim (λ less. below slot less) (λ no. above slot (omega (arith, no))) (cases_lt slot first)
created_stands first (member ∷ members) told table within below above =
    created_stands (first + 1) members (record { slot = first; event = Created } ∷ told) table
    (λ slot low high. within slot (omega (arith, low)) (omega (arith, high)))
    (λ slot low. by_case slot (slot == first) refl (λ differs. below slot (⊎_elim (λ less. less) (λ no. absurd (differs (omega (arith, no, low)))) (cases_lt slot first))))
    (λ slot high. by_case slot (slot == first) refl (λ differs. above slot (omega (arith, high))))
  where
    by_case : (slot : ℕ) (b : Bool) → (slot == first) ≡ b → (slot ≢ first → IsFile (events_of slot told) (file_of table slot)) →
        IsFile (if b then Created ∷ events_of slot told else events_of slot told) (file_of table slot)
    by_case slot true e other =
        let same : slot ≡ first = (Decides-eqb slot first).0 e in
        subst (IsFile (Created ∷ events_of slot told)) (sym (within slot (omega (arith, same)) (omega (arith, same)))) (created_so (events_of slot told))
    by_case slot false e other = other (λ same. let q : true ≡ false = sym (equal_is slot first same) ∙ e in cc)

pub created_tells : (known : KnownFiles) (seen : List Seen) (old new : FileTable) → HasPut (Some created_entry) known.next (known.next + length (new_members known.files seen)) old new →
    (told : List SlotEvent) → StandsFor told old → StandsFor (told_created known seen told) new
created_tells known seen old new so told stands =
    created_stands known.next (new_members known.files seen) told new so.within
    (λ slot low. subst (IsFile (events_of slot told)) (sym (so.below slot low)) (stands slot))
    (λ slot high. subst (IsFile (events_of slot told)) (sym (so.above slot high)) (stands slot))

-- ---- what is known afterwards

pub free_from : (known : KnownFiles) (table : FileTable) → AreWatched known table → IsFreeFrom known.next table
free_from known table are = λ slot above. none (file_of table slot) (are.same_slots slot ∙ has_none known.next slot known.files are.known.slots above)
  where
    none : (o : Option FileEntry) → is_some o ≡ false → o ≡ None
    none None e = refl
    none (Some entry) e = absurd (let q : true ≡ false = e in cc)

pub watched_same : (known : KnownFiles) (old new : FileTable) → AreWatched known old → HaveSameFiles old new → AreWatched known new
watched_same known old new are same = record {
  known = are.known;
  history = ∥∥₁_map are.history (λ h. record { told = h.told; stands = λ slot. subst (IsFile (events_of slot h.told)) (sym (same slot)) (h.stands slot) });
  same_slots = λ slot. ap is_some (same slot) ∙ are.same_slots slot;
}

pub watched_created : (clean : List Bool) (whole : Bool) (known : KnownFiles) (seen : List Seen) (old new : FileTable) → AreWatched known old → AreKnown (known_after clean whole known seen) →
    HasPut (Some created_entry) known.next (known.next + length (new_members known.files seen)) old new → AreWatched (known_after clean whole known seen) new
watched_created clean whole known seen old new are after so = record {
  known = after;
  history = ∥∥₁_map are.history (λ h. record { told = told_created known seen h.told; stands = created_tells known seen old new so h.told h.stands });
  same_slots = λ slot. at slot ∙ sym (split slot);
}
  where
    members : List Seen
    members = new_members known.files seen

    split : (slot : ℕ) → has_slot slot (known_after clean whole known seen).files ≡ has_slot slot known.files || has_slot slot (created_files known.next (new_members known.files seen))
    split slot =
        has-append slot (map (file_after clean whole seen) known.files) (created_files known.next (new_members known.files seen))
        ∙ ap (λ (b : Bool). b || has_slot slot (created_files known.next (new_members known.files seen))) (has_after clean whole seen slot known.files)

    or_false : (a b : Bool) → b ≡ false → a ≡ a || b
    or_false true b e = refl
    or_false false b e = sym e

    or_true : (a b : Bool) → b ≡ true → true ≡ a || b
    or_true true b e = refl
    or_true false b e = sym e

    at : (slot : ℕ) → is_some (file_of new slot) ≡ has_slot slot known.files || has_slot slot (created_files known.next (new_members known.files seen))
    at slot = ⊎_elim
        (λ low. ap is_some (so.below slot low) ∙ are.same_slots slot
        ∙ or_false (has_slot slot known.files) (has_slot slot (created_files known.next (new_members known.files seen))) (created_below known.next slot (new_members known.files seen) low))
        (λ no. ⊎_elim
        (λ inside. ap is_some (so.within slot no inside)
        ∙ or_true (has_slot slot known.files) (has_slot slot (created_files known.next (new_members known.files seen))) (created_within known.next slot (new_members known.files seen) no inside))
        (λ high. ap is_some (so.above slot high) ∙ are.same_slots slot
        ∙ or_false (has_slot slot known.files) (has_slot slot (created_files known.next (new_members known.files seen))) (created_above known.next slot (new_members known.files seen) high))
        (cases_lt slot (known.next + length (new_members known.files seen))))
        (cases_lt slot known.next)

-- ---- in terms of what the calls give

pub free_at : (known : KnownFiles) (table : FileTable) (first : ℕ) → first ≡ known.next → AreWatched known table → IsFreeFrom first table
free_at known table first is are = subst (λ (n : ℕ). IsFreeFrom n table) (sym is) (free_from known table are)

-- the next slot after the scan is no more than was made room for
pub next_below : (clean : List Bool) (whole : Bool) (known later : KnownFiles) (seen : List Seen) (first next count last : ℕ) → later ≡ known_after clean whole known seen → first ≡ known.next → next ≡ later.next →
    length (new_members known.files seen) ≤ count → ((slot : ℕ) → slot ≤ first + count → slot ≤ 4_294_967_295 → slot ≤ last) → next ≤ 4_294_967_295 → next ≤ last
next_below clean whole known later seen first next count last remembered first_is next_is few reached fits =
    reached next (let at : later.next ≡ known.next + length (new_members known.files seen) = ap (λ (k : KnownFiles). k.next) remembered in omega (arith, at, first_is, next_is, few)) fits

pub compared_put : (clean : List Bool) (whole : Bool) (known later : KnownFiles) (seen : List Seen) (first next last : ℕ) (start made new : FileTable) → later ≡ known_after clean whole known seen → first ≡ known.next → next ≡ later.next →
    AreWatched known start → next ≤ last → HasPut (Some created_entry) first last start made → HasPut None next last made new →
    HasPut (Some created_entry) known.next (known.next + length (new_members known.files seen)) start new
compared_put clean whole known later seen first next last start made new remembered first_is next_is are high so out =
    let at : next ≡ known.next + length (new_members known.files seen) = next_is ∙ ap (λ (k : KnownFiles). k.next) remembered in
    subst (λ (n : ℕ). HasPut (Some created_entry) n (known.next + length (new_members known.files seen)) start new) first_is
    (subst (λ (n : ℕ). HasPut (Some created_entry) first n start new) at
    (put_withdrawn (Some created_entry) first next last start made new (free_at known start first first_is are) (omega (arith, at, first_is)) high so out))

pub watched_at : (clean : List Bool) (whole : Bool) (known later : KnownFiles) (seen : List Seen) (old new : FileTable) → later ≡ known_after clean whole known seen → AreWatched known old → AreKnown later →
    HasPut (Some created_entry) known.next (known.next + length (new_members known.files seen)) old new → AreWatched later new
watched_at clean whole known later seen old new remembered are after so =
    subst (λ (k : KnownFiles). AreWatched k new) (sym remembered)
    (watched_created clean whole known seen old new are (subst AreKnown remembered after) so)

pub compared_kept : (known : KnownFiles) (first last : ℕ) (start made new : FileTable) → first ≡ known.next → AreWatched known start → HasPut (Some created_entry) first last start made → HasPut None first last made new → HaveSameFiles start new
compared_kept known first last start made new first_is are so out =
    put_undone first last start made new (free_at known start first first_is are) so.below so.above out

pub watched_kept : (known later : KnownFiles) (old new : FileTable) → later ≡ known → AreWatched known old → HaveSameFiles old new → AreWatched later new
watched_kept known later old new is are same = subst (λ (k : KnownFiles). AreWatched k new) (sym is) (watched_same known old new are same)
