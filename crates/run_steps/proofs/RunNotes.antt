-- Which of a run's notes tell how files begin and when they were changed: just those that the run told its keeper itself.
use Rattle.std.proofs.Common.{◌≡◌, ◌⊎◌, inl, inr, ⊎_elim, ◌<◌, List, ◌++◌, Contains, length, sym, ap, subst, arith}
use Rattle.std.proofs.lemmas.List.Elements.{Contains-append_cases, Contains-append_left}
use Rattle.std.specs.List.{AllByRecursion}
use Rattle.accounts.proofs.HiddenSlots.{hidden_from}
use Rattle.accounts.proofs.Often.{often_back}
use Rattle.accounts.specs.Ground.{HasGround, IsNoteBy}
use Rattle.accounts.specs.Hidden.{AreHiddenFrom, Hidden, hidden_begin, hidden_forget, hidden_slot}
use Rattle.accounts.specs.Opened.{Opened}
use Rattle.accounts.proofs.Often.{often_contains}
use Rattle.accounts.proofs.Same.{tells_notes}
use Rattle.accounts.specs.Same.{same_note}
use Rattle.accounts.specs.ToldNotes.{AreMixed}
use Rattle.accounts.specs.Turned.{Turned}
use Rattle.harvester.specs.History.{Telling}
use Rattle.prospect.specs.declared.listed.Listed.{Listed}
use Rattle.wire_base.specs.declared.note.Begin.{Begin as Beginning}
use Rattle.wire_base.specs.declared.note.Note.{Note}
use Rattle.wire_base.specs.declared.note.Note.TheVariants.{Announce, Begin, Forget, Rename, Seen, Settle}
use Rattle.wire_base.specs.declared.numbers.Slot.{Slot}
use Rattle.wire_base.specs.declared.parcel.Parcel.{Parcel}
use Rattle.wire_base.specs.declared.row.Row.{Row}
use Rattle.run_steps.specs.Begun.{AreBeginNotes, MayBegin, noted_begin}
use Rattle.run_steps.specs.LaterScans.{LaterScan}
use Rattle.accounts.proofs.Orderly.{member_is}

-- neither how a file begins nor when it was changed
abbrev IsOfEvents : Note → Type 0
IsOfEvents (Begin slot key path epoch base changed) = ⊥
IsOfEvents (Announce slot epoch) = Unit {0}
IsOfEvents (Settle slot epoch span cause) = Unit {0}
IsOfEvents (Rename slot scan path) = Unit {0}
IsOfEvents (Seen slot changed) = ⊥
IsOfEvents (Forget slot epoch end) = Unit {0}

abbrev pub IsNoBegin : Note → Type 0
IsNoBegin (Begin slot key path epoch base changed) = ⊥
IsNoBegin (Announce slot epoch) = Unit {0}
IsNoBegin (Settle slot epoch span cause) = Unit {0}
IsNoBegin (Rename slot scan path) = Unit {0}
IsNoBegin (Seen slot changed) = Unit {0}
IsNoBegin (Forget slot epoch end) = Unit {0}

grounded_is_of_events : (files : List Turned) (acknowledged : List Parcel) (note : Note) → HasGround files acknowledged note → IsOfEvents note
grounded_is_of_events files acknowledged note (inl of) = by_note of.turned of.telling of.is
  where
    by_note : (turned : Turned) (telling : Telling) → IsNoteBy turned telling note → IsOfEvents note
    by_note turned telling (inl announced) = subst IsOfEvents (sym announced) tt
    by_note turned telling (inr settled) = subst IsOfEvents (sym settled.is) tt
grounded_is_of_events files acknowledged note (inr of) = subst IsOfEvents (sym of.is) tt

module _ (files : List Turned) (acknowledged : List Parcel) (begun collected notes : List Note) (mixed : AreMixed begun collected notes)
    (ground : AllByRecursion (HasGround files acknowledged) collected) where
  -- what tells of no event is the run's own
  own : (note : Note) → (IsOfEvents note → ⊥) → Contains notes note → Contains begun note
  own note none there =
      ⊎_elim (λ here. here)
      (λ later. absurd (none (grounded_is_of_events files acknowledged note (member_is (HasGround files acknowledged) collected note ground later))))
      (Contains-append_cases begun collected note (often_contains same_note tells_notes (begun ++ collected) notes note (often_back notes (begun ++ collected) mixed.often) there))

  module _ (scans : List LaterScan) (rows : List Row) (listed : List Listed) (opened : List Opened) (hiddens : List Hidden) (begins : AreBeginNotes scans rows listed opened hiddens begun) where
    -- one that was opened begins so
    pub record WasOpenedAs (slot : Slot) : Type 0 where
      pub one : Opened
      pub among : Contains opened one
      pub slot_is : one.begin.slot ≡ slot

    same_slot : (one other : Beginning) → noted_begin one ≡ noted_begin other → one.slot ≡ other.slot
    same_slot one other is = cc

    hidden_slot_is : (begin : Beginning) (hidden : Hidden) → noted_begin begin ≡ hidden_begin hidden → begin.slot.0 ≡ hidden_slot hidden
    hidden_slot_is begin hidden is = let same : begin.slot ≡ hidden.slot = cc in ap (λ (s : Slot). s.0) same

    pub begin_opened : AreHiddenFrom (length listed) hiddens → (begin : Beginning) → begin.slot.0 < length listed → Contains notes (noted_begin begin) → WasOpenedAs begin.slot
    begin_opened rise begin less there = by_kind (member_is (MayBegin scans rows listed opened hiddens) begun (noted_begin begin) begins.each (own (noted_begin begin) (λ is. is) there))
      where
        of_hidden : (hidden : Hidden) → Contains hiddens hidden → (noted_begin begin ≡ hidden_begin hidden) ⊎ (noted_begin begin ≡ hidden_forget hidden) → ⊥
        of_hidden hidden among (inl is) =
            let same = hidden_slot_is begin hidden is in let most = hidden_from (length listed) hiddens hidden rise among in omega (arith, same, most, less)
        of_hidden hidden among (inr is) = subst IsNoBegin (sym is) tt

        by_kind : MayBegin scans rows listed opened hiddens (noted_begin begin) → WasOpenedAs begin.slot
        by_kind (inl of) = record { one = of.file; among = of.among; slot_is = same_slot of.file.begin begin (sym of.is) }
        by_kind (inr (inl of)) = absurd (subst IsNoBegin (sym of.is) tt)
        by_kind (inr (inr (inl of))) = absurd (of_hidden of.hidden of.of_hiddens of.is)
        by_kind (inr (inr (inr of))) = absurd (subst IsNoBegin (sym of.is) tt)

    pub opened_is_in_notes : (one : Opened) → Contains opened one → Contains notes (noted_begin one.begin)
    opened_is_in_notes one there =
        often_contains same_note tells_notes notes (begun ++ collected) (noted_begin one.begin) mixed.often
        (Contains-append_left begun collected (noted_begin one.begin) (member_is (λ (o : Opened). Contains begun (noted_begin o.begin)) opened one begins.begun there))
