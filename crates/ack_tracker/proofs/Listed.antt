-- Files by their slots, with one note more.
use Rattle.std.proofs.Common.{◌≡◌, ◌≢◌, ◌⊎◌, inl, inr, ℕ, Bool, true, false, List, [], ◌∷◌, ◌++◌, All, Contains, Option, Some, None, if◌then◌else◌, refl, sym, ap, ◌∙◌, subst}
use Rattle.std.specs.Option.{option_map, option_and_then, IsSome, IfNone, OnSome}
use Rattle.std.proofs.lemmas.Bool.{cases_eq}
use Rattle.std.proofs.lemmas.List.Elements.{All-contains_itself, All-weaker}
use Rattle.wire_base.specs.declared.numbers.Slot.{Slot}
use Rattle.wire_base.specs.declared.numbers.Epoch.{Epoch}
use Rattle.wire_base.specs.declared.numbers.Moment.{Moment}
use Rattle.wire_base.specs.declared.row.Row.{Row}
use Rattle.wire_base.specs.declared.note.Note.{Note}
use Rattle.wire_base.specs.declared.note.Note.TheVariants.{Begin, Announce, Settle, Rename, Seen, Forget}
use Rattle.ship_core.specs.Orderly.{AreOrderly, IsBegun, MayFollow}
use Rattle.ship_core.specs.RowOver.{Start, slot_of, start_of, notes_of, start_over, row_of, row_over, place_over}
use Rattle.ack_tracker.specs.FileState.{FileState, is_gone, row_in, place_in, MayAdd, Stands}
use Rattle.ack_tracker.specs.Files.{file_of, went, gone_slot, gone_among, AreOf, Puts, Begins}
use Rattle.ack_tracker.proofs.ByNumber.{found_there}
use Rattle.ack_tracker.proofs.Contained.{given_there, there_given}
use Rattle.ack_tracker.proofs.Leads.{Stays, GoesOn}
use Rattle.ack_tracker.proofs.OneMore.{start_stays, start_comes, own_more, own_same, front_orderly, may_follow}
use Rattle.ack_tracker.proofs.Standing.{stands_begin, stands_row, place_is}

none_some : {X G : Type 0} (o : Option X) (a : X) → o ≡ None → o ≡ Some a → G
none_some o a none some = absurd (let q : None ≡ Some a = sym none ∙ some in cc)

-- ---- what stays of other slots

module _ (files : List (ℕ × FileState)) (notes : List Note) (note : Note) (are : AreOf files notes) (slot : ℕ) (other : slot_of note ≢ slot) where
  begun_still : (file : FileState) → file_of files slot ≡ Some file → (start : Start) × (start_over (notes_of slot (notes ++ note ∷ [])) ≡ Some start) × (start.key ≡ file.key)
  begun_still file is = let begun = are.begun slot file is in (begun.0, ap start_over (own_same slot notes note other) ∙ begun.1, begun.2)

  none_still : file_of files slot ≡ None → start_over (notes_of slot (notes ++ note ∷ [])) ≡ None
  none_still is = ap start_over (own_same slot notes note other) ∙ are.none slot is

  stands_still : AreOrderly (notes ++ note ∷ []) → (file : FileState) → file_of files slot ≡ Some file → Stands (notes_of slot (notes ++ note ∷ [])) file
  stands_still orderly file is = subst (λ (l : List Note). Stands l file) (sym (own_same slot notes note other)) (are.stand (front_orderly notes note orderly) slot file is)

-- ---- a slot without a file

pub are_ignored : (files : List (ℕ × FileState)) (notes : List Note) (note : Note) → start_of note ≡ None → file_of files (slot_of note) ≡ None → AreOf files notes → AreOf files (notes ++ note ∷ [])
are_ignored files notes note no_start none are = record {
  begun = λ slot file is. begun_still files notes note are slot (elsewhere slot file is) file is;
  none = λ slot is. by_slot slot is (cases_eq (slot_of note) slot);
  stand = λ orderly slot file is. stands_still files notes note are slot (elsewhere slot file is) orderly file is;
}
  where
    elsewhere : (slot : ℕ) (file : FileState) → file_of files slot ≡ Some file → slot_of note ≢ slot
    elsewhere slot file is same = none_some (file_of files slot) file (ap (file_of files) (sym same) ∙ none) is

    by_slot : (slot : ℕ) → file_of files slot ≡ None → (slot_of note ≡ slot) ⊎ (slot_of note ≡ slot → ⊥) → start_over (notes_of slot (notes ++ note ∷ [])) ≡ None
    by_slot slot is (inl same) = ap start_over (own_more slot notes note same) ∙ start_comes (notes_of slot notes) note (are.none slot is) ∙ no_start
    by_slot slot is (inr other) = none_still files notes note are slot other is

-- ---- a slot with a file

begun_not : (notes : List Note) (start : Start) → start_over notes ≡ Some start → notes ≡ [] → ⊥
begun_not notes start begun none = let q : None ≡ Some start = ap start_over (sym none) ∙ begun in cc

may_add : (notes : List Note) (note : Note) (start : Start) → start_over (notes_of (slot_of note) notes) ≡ Some start → MayFollow notes note → MayAdd (notes_of (slot_of note) notes) note
may_add notes (Begin slot key path epoch base changed) start begun may = begun_not (notes_of slot.0 notes) start begun may
may_add notes (Announce slot epoch) start begun may = tt
may_add notes (Settle slot epoch span cause) start begun may = may.1
may_add notes (Rename slot scan path) start begun may = tt
may_add notes (Seen slot changed) start begun may = tt
may_add notes (Forget slot epoch end) start begun may = tt

pub are_noted : (old new : List (ℕ × FileState)) (notes : List Note) (note : Note) (file after : FileState) → file_of old (slot_of note) ≡ Some file → Puts old new (slot_of note) after → after.key ≡ file.key →
    ((own : List Note) → MayAdd own note → Stands own file → Stands (own ++ note ∷ []) after) → AreOf old notes → AreOf new (notes ++ note ∷ [])
are_noted old new notes note file after there puts key noted are = record {
  begun = λ slot is_file is. begun slot is_file is (cases_eq (slot_of note) slot);
  none = λ slot is. none slot is (cases_eq (slot_of note) slot);
  stand = λ orderly slot is_file is. stand orderly slot is_file is (cases_eq (slot_of note) slot);
}
  where
    other_file : (slot : ℕ) → (slot_of note ≡ slot → ⊥) → file_of new slot ≡ file_of old slot
    other_file slot other = puts.others slot (λ same. other (sym same))

    here_file : (slot : ℕ) (is_file : FileState) → file_of new slot ≡ Some is_file → slot_of note ≡ slot → after ≡ is_file
    here_file slot is_file is same = let q : Some after ≡ Some is_file = sym puts.here ∙ ap (file_of new) same ∙ is in cc

    begun : (slot : ℕ) (is_file : FileState) → file_of new slot ≡ Some is_file → (slot_of note ≡ slot) ⊎ (slot_of note ≡ slot → ⊥) → (start : Start) × (start_over (notes_of slot (notes ++ note ∷ [])) ≡ Some start) × (start.key ≡ is_file.key)
    begun slot is_file is (inl same) =
        let was = are.begun slot file (ap (file_of old) (sym same) ∙ there) in
        (was.0, ap start_over (own_more slot notes note same) ∙ start_stays (notes_of slot notes) note was.0 was.1, was.2 ∙ sym key ∙ ap (λ (f : FileState). f.key) (here_file slot is_file is same))
    begun slot is_file is (inr other) = begun_still old notes note are slot other is_file (sym (other_file slot other) ∙ is)

    none : (slot : ℕ) → file_of new slot ≡ None → (slot_of note ≡ slot) ⊎ (slot_of note ≡ slot → ⊥) → start_over (notes_of slot (notes ++ note ∷ [])) ≡ None
    none slot is (inl same) = none_some (file_of new slot) after is (ap (file_of new) (sym same) ∙ puts.here)
    none slot is (inr other) = none_still old notes note are slot other (sym (other_file slot other) ∙ is)

    stand : AreOrderly (notes ++ note ∷ []) → (slot : ℕ) (is_file : FileState) → file_of new slot ≡ Some is_file → (slot_of note ≡ slot) ⊎ (slot_of note ≡ slot → ⊥) → Stands (notes_of slot (notes ++ note ∷ [])) is_file
    stand orderly slot is_file is (inl same) =
        let was = are.begun (slot_of note) file there in
        let now = noted (notes_of (slot_of note) notes) (may_add notes note was.0 was.1 (may_follow notes note orderly)) (are.stand (front_orderly notes note orderly) (slot_of note) file there) in
        subst (Stands (notes_of slot (notes ++ note ∷ []))) (here_file slot is_file is same)
        (subst (λ (l : List Note). Stands l after) (sym (own_more slot notes note same)) (subst (λ (s : ℕ). Stands (notes_of s notes ++ note ∷ []) after) same now))
    stand orderly slot is_file is (inr other) = stands_still old notes note are slot other orderly is_file (sym (other_file slot other) ∙ is)

-- ---- a slot that begins

module _ (old : List (ℕ × FileState)) (notes : List Note) (slot : Slot) (key path : List ℕ) (epoch : Epoch) (base : ℕ) (changed : Moment) (are : AreOf old notes) where
  abbrev note : Note
  note = Begin slot key path epoch base changed

  abbrev first : FileState
  first = record { key = key; path = path; scan = None; epoch = epoch.0; covered = record { end = base; ahead = [] }; least = None; changed = changed.0 }

  abbrev longer : List Note
  longer = notes ++ note ∷ []

  -- one that began already goes on as it is
  pub are_begun : (file : FileState) → file_of old slot.0 ≡ Some file → AreOf old longer
  are_begun file there = record {
    begun = λ s is_file is. begun s is_file is (cases_eq slot.0 s);
    none = λ s is. none s is (cases_eq slot.0 s);
    stand = λ orderly s is_file is. stand orderly s is_file is (cases_eq slot.0 s);
  }
    where
      begun : (s : ℕ) (is_file : FileState) → file_of old s ≡ Some is_file → (slot.0 ≡ s) ⊎ (slot.0 ≡ s → ⊥) → (start : Start) × (start_over (notes_of s longer) ≡ Some start) × (start.key ≡ is_file.key)
      begun s is_file is (inl same) =
          let was = are.begun s is_file is in
          (was.0, ap start_over (own_more s notes note same) ∙ start_stays (notes_of s notes) note was.0 was.1, was.2)
      begun s is_file is (inr other) = begun_still old notes note are s other is_file is

      none : (s : ℕ) → file_of old s ≡ None → (slot.0 ≡ s) ⊎ (slot.0 ≡ s → ⊥) → start_over (notes_of s longer) ≡ None
      none s is (inl same) = none_some (file_of old s) file is (ap (file_of old) (sym same) ∙ there)
      none s is (inr other) = none_still old notes note are s other is

      stand : AreOrderly longer → (s : ℕ) (is_file : FileState) → file_of old s ≡ Some is_file → (slot.0 ≡ s) ⊎ (slot.0 ≡ s → ⊥) → Stands (notes_of s longer) is_file
      stand orderly s is_file is (inl same) =
          let was = are.begun slot.0 file there in
          absurd (begun_not (notes_of slot.0 notes) was.0 was.1 (may_follow notes note orderly))
      stand orderly s is_file is (inr other) = stands_still old notes note are s other orderly is_file is

  pub are_first : (new : List (ℕ × FileState)) → file_of old slot.0 ≡ None → Puts old new slot.0 first → AreOf new longer
  are_first new absent puts = record {
    begun = λ s is_file is. begun s is_file is (cases_eq slot.0 s);
    none = λ s is. none s is (cases_eq slot.0 s);
    stand = λ orderly s is_file is. stand orderly s is_file is (cases_eq slot.0 s);
  }
    where
      other_file : (s : ℕ) → (slot.0 ≡ s → ⊥) → file_of new s ≡ file_of old s
      other_file s other = puts.others s (λ same. other (sym same))

      here_file : (s : ℕ) (is_file : FileState) → file_of new s ≡ Some is_file → slot.0 ≡ s → first ≡ is_file
      here_file s is_file is same = let q : Some first ≡ Some is_file = sym puts.here ∙ ap (file_of new) same ∙ is in cc

      begun : (s : ℕ) (is_file : FileState) → file_of new s ≡ Some is_file → (slot.0 ≡ s) ⊎ (slot.0 ≡ s → ⊥) → (start : Start) × (start_over (notes_of s longer) ≡ Some start) × (start.key ≡ is_file.key)
      begun s is_file is (inl same) = (
        record { key = key; path = path; epoch = epoch.0; base = base },
        ap start_over (own_more s notes note same) ∙ start_comes (notes_of s notes) note (are.none s (ap (file_of old) (sym same) ∙ absent)),
        ap (λ (f : FileState). f.key) (here_file s is_file is same),
      )
      begun s is_file is (inr other) = begun_still old notes note are s other is_file (sym (other_file s other) ∙ is)

      none : (s : ℕ) → file_of new s ≡ None → (slot.0 ≡ s) ⊎ (slot.0 ≡ s → ⊥) → start_over (notes_of s longer) ≡ None
      none s is (inl same) = none_some (file_of new s) first is (ap (file_of new) (sym same) ∙ puts.here)
      none s is (inr other) = none_still old notes note are s other (sym (other_file s other) ∙ is)

      stand : AreOrderly longer → (s : ℕ) (is_file : FileState) → file_of new s ≡ Some is_file → (slot.0 ≡ s) ⊎ (slot.0 ≡ s → ⊥) → Stands (notes_of s longer) is_file
      stand orderly s is_file is (inl same) =
          let alone : notes_of s longer ≡ note ∷ [] = own_more s notes note same ∙ ap (λ (l : List Note). l ++ note ∷ []) (ap (λ (z : ℕ). notes_of z notes) (sym same) ∙ may_follow notes note orderly) in
          subst (Stands (notes_of s longer)) (here_file s is_file is same) (subst (λ (l : List Note). Stands l first) (sym alone) (stands_begin slot key path epoch base changed))
      stand orderly s is_file is (inr other) = stands_still old notes note are s other orderly is_file (sym (other_file s other) ∙ is)

pub are_none : AreOf [] []
are_none = record {
  begun = λ slot file is. absurd (let q : None ≡ Some file = is in cc);
  none = λ slot is. refl;
  stand = λ orderly slot file is. absurd (let q : None ≡ Some file = is in cc);
}

-- ---- slots whose rows went

pub gone_listed : (files : List (ℕ × FileState)) (slot : ℕ) (file : FileState) → file_of files slot ≡ Some file → is_gone file ≡ true → Contains (gone_among files) slot
gone_listed files slot file is gone = given_there (gone_slot files) files (slot, file) slot (found_there files slot file is) (ap (λ (b : Bool). if b then Some slot else None) (ap went is ∙ gone))

pub listed_gone : (files : List (ℕ × FileState)) (slot : ℕ) → Contains (gone_among files) slot → (file : FileState) × (file_of files slot ≡ Some file) × (is_gone file ≡ true)
listed_gone files slot there =
    let given = there_given (gone_slot files) files slot there in
    by_case given.0 (went (file_of files given.0.0)) refl given.2
  where
    by_file : (o : Option FileState) → file_of files slot ≡ o → went o ≡ true → (file : FileState) × (file_of files slot ≡ Some file) × (is_gone file ≡ true)
    by_file None is gone = absurd (let q : false ≡ true = gone in cc)
    by_file (Some file) is gone = (file, is, gone)

    by_case : (entry : ℕ × FileState) (b : Bool) → went (file_of files entry.0) ≡ b → (if b then Some entry.0 else None) ≡ Some slot → (file : FileState) × (file_of files slot ≡ Some file) × (is_gone file ≡ true)
    by_case entry true gone e = let same : entry.0 ≡ slot = let q : Some entry.0 ≡ Some slot = e in cc in by_file (file_of files slot) refl (ap (λ (s : ℕ). went (file_of files s)) (sym same) ∙ gone)
    by_case entry false gone e = absurd (let q : None ≡ Some slot = e in cc)

-- what went stays gone
gone_after : (old new : List (ℕ × FileState)) → ((slot : ℕ) (file : FileState) → file_of old slot ≡ Some file → is_gone file ≡ true → (after : FileState) × (file_of new slot ≡ Some after) × (is_gone after ≡ true)) → All (Contains (gone_among new)) (gone_among old)
gone_after old new still = All-weaker (Contains (gone_among old)) (Contains (gone_among new)) each (gone_among old) (All-contains_itself (gone_among old))
  where
    each : (slot : ℕ) → Contains (gone_among old) slot → Contains (gone_among new) slot
    each slot there =
        let was = listed_gone old slot there in
        let now = still slot was.0 was.1 was.2 in
        gone_listed new slot now.0 now.1 now.2

pub gone_put : (old new : List (ℕ × FileState)) (slot : ℕ) (file after : FileState) → file_of old slot ≡ Some file → Puts old new slot after → (is_gone file ≡ true → is_gone after ≡ true) → All (Contains (gone_among new)) (gone_among old)
gone_put old new slot file after there puts stays = gone_after old new (λ s was is gone. by_slot s was is gone (cases_eq s slot))
  where
    by_slot : (s : ℕ) (was : FileState) → file_of old s ≡ Some was → is_gone was ≡ true → (s ≡ slot) ⊎ (s ≡ slot → ⊥) → (now : FileState) × (file_of new s ≡ Some now) × (is_gone now ≡ true)
    by_slot s was is gone (inl same) =
        let was_file : was ≡ file = let q : Some was ≡ Some file = sym is ∙ ap (file_of old) same ∙ there in cc in
        (after, ap (file_of new) same ∙ puts.here, stays (ap is_gone (sym was_file) ∙ gone))
    by_slot s was is gone (inr other) = (was, puts.others s other ∙ is, gone)

pub gone_first : (old new : List (ℕ × FileState)) (slot : ℕ) (after : FileState) → file_of old slot ≡ None → Puts old new slot after → All (Contains (gone_among new)) (gone_among old)
gone_first old new slot after absent puts = gone_after old new (λ s was is gone. by_slot s was is gone (cases_eq s slot))
  where
    by_slot : (s : ℕ) (was : FileState) → file_of old s ≡ Some was → is_gone was ≡ true → (s ≡ slot) ⊎ (s ≡ slot → ⊥) → (now : FileState) × (file_of new s ≡ Some now) × (is_gone now ≡ true)
    by_slot s was is gone (inl same) = none_some (file_of old s) was (ap (file_of old) same ∙ absent) is
    by_slot s was is gone (inr other) = (was, puts.others s other ∙ is, gone)

pub gone_same : (old new : List (ℕ × FileState)) → new ≡ old → All (Contains (gone_among new)) (gone_among old)
gone_same old new same = subst (λ (files : List (ℕ × FileState)). All (Contains (gone_among files)) (gone_among old)) (sym same) (All-contains_itself (gone_among old))

-- ---- what the file of a slot says

module _ (files : List (ℕ × FileState)) (notes : List Note) (are : AreOf files notes) (slot : ℕ) where
  begun_some : (file : FileState) → file_of files slot ≡ Some file → IsBegun slot notes
  begun_some file is = let begun = are.begun slot file is in subst IsSome (sym begun.1) refl

  pub none_begun : file_of files slot ≡ None → IsBegun slot notes → ⊥
  none_begun is begun = let q : false ≡ true = subst IsSome (are.none slot is) begun in cc

  pub row_none : file_of files slot ≡ None → row_over slot notes ≡ None
  row_none is = ap (option_and_then (row_of (notes_of slot notes))) (are.none slot is)

  pub row_some : Stays → GoesOn → AreOrderly notes → (file : FileState) → file_of files slot ≡ Some file → row_over slot notes ≡ row_in file
  row_some stays goes orderly file is = stands_row stays goes (notes_of slot notes) file (are.stand orderly slot file is)

  abbrev place_shown : Option Row → Option (Epoch × ℕ)
  place_shown = option_map (λ (row : Row). let p : Epoch × ℕ = (row.epoch, row.offset) in p)

  pub place_none : file_of files slot ≡ None → place_over slot notes ≡ None
  place_none is = ap place_shown (row_none is)

  pub place_some : Stays → GoesOn → AreOrderly notes → (file : FileState) → file_of files slot ≡ Some file → place_over slot notes ≡ place_in file
  place_some stays goes orderly file is = ap place_shown (row_some stays goes orderly file is) ∙ place_is file

  -- none if it is gone, and some where it is not
  module _ (file : FileState) (is : file_of files slot ≡ Some file) where
    pub kept_not : is_gone file ≡ false → Contains (gone_among files) slot → ⊥
    kept_not kept there =
        let gone = listed_gone files slot there in
        let same : file ≡ gone.0 = let q : Some file ≡ Some gone.0 = sym is ∙ gone.1 in cc in
        let q : false ≡ true = sym kept ∙ ap is_gone same ∙ gone.2 in cc

    pub says_none : {X : Type 0} (x : X) (answer : Option X) → answer ≡ (if is_gone file then None else Some x) → IfNone answer (IsBegun slot notes → Contains (gone_among files) slot)
    says_none {X} x answer e = subst (λ (o : Option X). IfNone o (IsBegun slot notes → Contains (gone_among files) slot)) (sym e) (by_case (is_gone file) refl)
      where
        by_case : (b : Bool) → is_gone file ≡ b → IfNone (if b then None else Some x) (IsBegun slot notes → Contains (gone_among files) slot)
        by_case true gone = λ begun. gone_listed files slot file is gone
        by_case false gone = tt

    pub says_some : {X : Type 0} (x : X) (answer : Option X) → answer ≡ (if is_gone file then None else Some x) → OnSome answer (IsBegun slot notes × ¬ (Contains (gone_among files) slot))
    says_some {X} x answer e = subst (λ (o : Option X). OnSome o (IsBegun slot notes × ¬ (Contains (gone_among files) slot))) (sym e) (by_case (is_gone file) refl)
      where
        by_case : (b : Bool) → is_gone file ≡ b → OnSome (if b then None else Some x) (IsBegun slot notes × ¬ (Contains (gone_among files) slot))
        by_case true gone = tt
        by_case false gone = (begun_some file is, kept_not gone)

-- with a Begin
pub are_with_begin : (old new : List (ℕ × FileState)) (notes : List Note) (slot : Slot) (key path : List ℕ) (epoch : Epoch) (base : ℕ) (changed : Moment) → Begins old new slot.0 (record { key = key; path = path; scan = None; epoch = epoch.0; covered = record { end = base; ahead = [] }; least = None; changed = changed.0 }) → AreOf old notes → AreOf new (notes ++ Begin slot key path epoch base changed ∷ [])
are_with_begin old new notes slot key path epoch base changed (inl again) are =
    subst (λ (f : List (ℕ × FileState)). AreOf f (notes ++ Begin slot key path epoch base changed ∷ [])) (sym again.2) (are_begun old notes slot key path epoch base changed are again.0 again.1)
are_with_begin old new notes slot key path epoch base changed (inr first) are = are_first old notes slot key path epoch base changed are new first.0 first.1
