-- Where the keeper was told of all moments, it was told when each file was changed that was begun.
use Rattle.std.proofs.Common.{◌≡◌, ◌⊎◌, inl, inr, ℕ, zero, suc, ◌+◌, ◌≤◌, ◌<◌, List, [], ◌∷◌, Contains, Option, Some, None, IsSome, IfSome, refl, sym, ap, subst, ◌∙◌, arith}
use Rattle.std.proofs.lemmas.List.Elements.{Contains-append_left, Contains-append_right}
use Rattle.std.specs.Prelude.{slice_get}
use Rattle.std.specs.List.{AllByRecursion}
use Rattle.std.specs.Option.{option_map}
use Rattle.accounts.proofs.Begins.{begin_begins}
use Rattle.accounts.specs.Opened.{Opened}
use Rattle.keeper.specs.Keeping.{Keeping}
use Rattle.kept_rows.proofs.Begun.{ForgetNone, IsNoForget, slot_stands}
use Rattle.outside.specs.Folders.{FolderHistory}
use Rattle.prospect.specs.declared.listed.Listed.{Listed}
use Rattle.rounds.specs.Words.{Words}
use Rattle.rounds.specs.declared.crew.Crew.{Crew}
use Rattle.ship_core.proofs.Members.{first_there, none_there}
use Rattle.ship_core.specs.Orderly.{IsBegun}
use Rattle.ship_core.specs.RowOver.{Start, notes_of, place_over, row_over, slot_of, standing_row, start_over}
use Rattle.wire_base.specs.declared.note.Begin.{Begin as Beginning}
use Rattle.wire_base.specs.declared.note.Note.{Note}
use Rattle.wire_base.specs.declared.numbers.Epoch.{Epoch}
use Rattle.wire_base.specs.declared.note.Note.TheVariants.{Rename, Seen}
use Rattle.wire_base.specs.declared.row.Row.{Row}
use Rattle.run_steps.specs.Began.{Began}
use Rattle.run_steps.specs.Begun.{AreAllSeen, MayBegin, noted_begin}
use Rattle.run_steps.specs.LaterScans.{LaterScan}
use Rattle.run_steps.specs.RunState.{Phase}
use Rattle.run_steps.specs.Telling.{IsNotFollowed, TellMoments, TellsMoment, seen_note, moment_noted}
use Rattle.run_steps.proofs.Notes.{moments_are_told}
use Rattle.run_steps.proofs.ToldMoments.{AreListedFrom, FileOfSlot, StandsUncollected, each_begins, one_seen}
use Rattle.accounts.proofs.Orderly.{member_is}

-- ---- a file that was begun has a place

no_forget : (scans : List LaterScan) (rows : List Row) (listed : List Listed) (opened : List Opened) (notes : List Note) → AllByRecursion (MayBegin scans rows listed opened []) notes → ForgetNone notes
no_forget scans rows listed opened [] are = tt
no_forget scans rows listed opened (note ∷ notes) are = (by_kind are.0, no_forget scans rows listed opened notes are.1)
  where
    by_kind : MayBegin scans rows listed opened [] note → IsNoForget note
    by_kind (inl of) = subst IsNoForget (sym of.is) tt
    by_kind (inr (inl of)) = subst IsNoForget (sym of.is) tt
    by_kind (inr (inr (inl of))) = absurd (none_there of.hidden of.of_hiddens)
    by_kind (inr (inr (inr of))) = subst IsNoForget (sym of.is) tt

none_of : (slot : ℕ) (notes : List Note) → place_over slot notes ≡ None → option_map (λ (row : Row). row.epoch) (row_over slot notes) ≡ None
none_of slot notes is = by_row (row_over slot notes) is
  where
    by_row : (o : Option Row) → option_map (λ (row : Row). let place : Epoch × ℕ = (row.epoch, row.offset) in place) o ≡ None → option_map (λ (row : Row). row.epoch) o ≡ None
    by_row None e = refl
    by_row (Some row) e = absurd cc

has_place : (scans : List LaterScan) (rows : List Row) (listed : List Listed) (opened : List Opened) (notes : List Note) (slot : ℕ) → AllByRecursion (MayBegin scans rows listed opened []) notes → IsBegun slot notes → place_over slot notes ≡ None → ⊥
has_place scans rows listed opened notes slot are begun none = by_start (start_over (notes_of slot notes)) refl begun
  where
    by_start : (o : Option Start) → start_over (notes_of slot notes) ≡ o → IsSome o → ⊥
    by_start None e some = absurd cc
    by_start (Some start) e some =
        let stands = slot_stands slot notes start (no_forget scans rows listed opened notes are) e in
        let q : Some (standing_row (notes_of slot notes) start).epoch ≡ None =
        ap (λ (o : Option Row). option_map (λ (row : Row). row.epoch) o) (sym stands) ∙ none_of slot notes none in
        cc

-- ---- Begins among the notes

file_of_note : (scans : List LaterScan) (rows : List Row) (listed : List Listed) (opened : List Opened) (notes : List Note) (begin : Beginning) → AllByRecursion (MayBegin scans rows listed opened []) notes → Contains notes (noted_begin begin) →
    FileOfSlot opened begin.slot.0
file_of_note scans rows listed opened notes begin are there = by_kind (member_is (MayBegin scans rows listed opened []) notes (noted_begin begin) are there)
  where
    by_kind : MayBegin scans rows listed opened [] (noted_begin begin) → FileOfSlot opened begin.slot.0
    by_kind (inl of) = record { one = of.file; among = of.among; slot_is = ap slot_of (sym of.is) }
    by_kind (inr (inl of)) = absurd (let q : noted_begin begin ≡ Seen of.file.begin.slot (moment_noted rows of.one) = of.is in cc)
    by_kind (inr (inr (inl of))) = absurd (none_there of.hidden of.of_hiddens)
    by_kind (inr (inr (inr of))) = absurd (let q : noted_begin begin ≡ Rename of.file.begin.slot of.name.scan of.name.path = of.is in cc)

file_begins : (opened : List Opened) (notes : List Note) (slot : ℕ) → AllByRecursion (λ (one : Opened). Contains notes (noted_begin one.begin)) opened → FileOfSlot opened slot → IsBegun slot notes
file_begins opened notes slot begun of =
    subst (λ (n : ℕ). IsBegun n notes) of.slot_is
    (begin_begins notes of.one.begin.slot (record {
      key = of.one.begin.key;
      path = of.one.begin.path;
      epoch = of.one.begin.epoch;
      base = of.one.begin.base;
      changed = record { 0 = 0 };
      there = member_is (λ (one : Opened). Contains notes (noted_begin one.begin)) opened of.one begun of.among;
    }))

-- ---- the moments of files

module _ {T W L D : Type 0} (words : Words T W L D) (reads : (disk : D) → IfSome (words.disks.contents disk) (words.disks.images disk))
    (counts : (disk : D) (at : ℕ) (image : List ℕ) → at ≤ words.disks.moment disk → words.disks.images disk image → words.disks.images_since disk at image)
    (start : Began D) (moments : Option (List ℕ)) (a b : D) (shown : Option FolderHistory) (crew : Crew T W L) (phase : Phase) where
  abbrev Stand : List Opened → Keeping → Type 0
  Stand = StandsUncollected words reads counts start moments a b shown crew phase

  one_told : (opened : List Opened) (slot : ℕ) (entry : Listed) (old new : Keeping) → TellsMoment (record { 0 = slot }) (moment_noted start.opening entry) old new → Stand opened old → FileOfSlot opened slot →
      0 < (moment_noted start.opening entry).0 → Contains new.tracked.notes (Seen (record { 0 = slot }) (moment_noted start.opening entry))
  one_told opened slot entry old new (inl seen) is of later =
      subst (λ (l : List Note). Contains l (Seen (record { 0 = slot }) (moment_noted start.opening entry))) (sym seen.tells.told)
      (Contains-append_right old.tracked.notes (seen_note (record { 0 = slot }) (moment_noted start.opening entry) ∷ []) (seen_note (record { 0 = slot }) (moment_noted start.opening entry)) (first_there (seen_note (record { 0 = slot }) (moment_noted start.opening entry)) []))
  one_told opened slot entry old new (inr nothing) is of later = absurd (why nothing.why)
    where
      why : ((moment_noted start.opening entry).0 ≡ 0) ⊎ IsNotFollowed slot old.tracked → ⊥
      why (inl never) = omega (arith, never, later)
      why (inr not) =
          let begun = file_begins is.so_far.opened old.tracked.notes slot
          (subst (λ (l : List Note). AllByRecursion (λ (one : Opened). Contains l (noted_begin one.begin)) is.so_far.opened) (sym is.notes_are) is.stands.notes.begun.begun)
          (subst (λ (l : List Opened). FileOfSlot l slot) (sym is.opened_are) of) in
          has_place is.so_far.scans start.opening start.listed is.so_far.opened old.tracked.notes slot (each_begins words reads counts start moments a b shown crew phase opened old is) begun (not.no_place is.stands.notes.noted.mixed.orderly)

  pub seen_from : (opened : List Opened) (slot : ℕ) (listed : List Listed) (old new : Keeping) → AreListedFrom start.listed slot listed → TellMoments start.opening slot listed old new → Stand opened old →
      (place : ℕ) (entry : Listed) → slice_get listed place ≡ Some entry → FileOfSlot opened (place + slot) → 0 < (moment_noted start.opening entry).0 →
      Contains new.tracked.notes (Seen (record { 0 = place + slot }) (moment_noted start.opening entry))
  seen_from opened slot [] old new there tell is place entry at of later = absurd (let q : None ≡ Some entry = at in cc)
  seen_from opened slot (one ∷ listed) old new there tell is zero entry at of later =
      let same : one ≡ entry = cc in
      let none : 0 + slot ≡ slot = omega arith in
      let more = moments_are_told start.opening (suc slot) listed tell.mid new tell.rest in
      let here = one_told opened slot entry old tell.mid (subst (λ (l : Listed). TellsMoment (record { 0 = slot }) (moment_noted start.opening l) old tell.mid) same tell.first) is
      (subst (FileOfSlot opened) none of) later in
      subst (λ (n : ℕ). Contains new.tracked.notes (Seen (record { 0 = n }) (moment_noted start.opening entry))) (sym none)
      (subst (λ (l : List Note). Contains l (Seen (record { 0 = slot }) (moment_noted start.opening entry))) (sym more.tells.told)
      (Contains-append_left tell.mid.tracked.notes more.more (Seen (record { 0 = slot }) (moment_noted start.opening entry)) here))
  seen_from opened slot (one ∷ listed) old new there tell is (suc place) entry at of later =
      let next : suc place + slot ≡ place + suc slot = omega arith in
      let rest = seen_from opened (suc slot) listed tell.mid new there.1 tell.rest
      (one_seen words reads counts start moments a b shown crew phase opened slot one old tell.mid there.0 tell.first is) place entry at (subst (FileOfSlot opened) next of) later in
      subst (λ (n : ℕ). Contains new.tracked.notes (Seen (record { 0 = n }) (moment_noted start.opening entry))) (sym next) rest

  pub are_all_seen : (opened : List Opened) (old new : Keeping) → AreListedFrom start.listed 0 start.listed → TellMoments start.opening 0 start.listed old new → Stand opened old → Stand opened new →
      AreAllSeen start.opening start.listed new.tracked.notes
  are_all_seen opened old new there tell is after begin among = go (slice_get start.listed begin.slot.0) refl
    where
      of : FileOfSlot opened begin.slot.0
      of = subst (λ (l : List Opened). FileOfSlot l begin.slot.0) after.opened_are
          (file_of_note after.so_far.scans start.opening start.listed after.so_far.opened new.tracked.notes begin (each_begins words reads counts start moments a b shown crew phase opened new after) among)

      go : (o : Option Listed) → slice_get start.listed begin.slot.0 ≡ o → IfSome o (λ one. 0 < (moment_noted start.opening one).0 → Contains new.tracked.notes (Seen begin.slot (moment_noted start.opening one)))
      go None e = tt
      go (Some one) e = λ later.
          let none : begin.slot.0 + 0 ≡ begin.slot.0 = omega arith in
          subst (λ (n : ℕ). Contains new.tracked.notes (Seen (record { 0 = n }) (moment_noted start.opening one))) none
          (seen_from opened 0 start.listed old new there tell is begin.slot.0 one e (subst (FileOfSlot opened) (sym none) of) later)
