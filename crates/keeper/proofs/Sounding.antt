-- What holds of any keeper: as it begins, as notes come, and as changes are committed.
use Rattle.std.proofs.Common.{◌≡◌, ◌≤◌, Bool, true, false, All, Contains, List, [], ◌∷◌, ◌++◌, length, append-nil, Option, None, refl, sym, ap, ◌∙◌, subst, arith}
use Rattle.std.proofs.lemmas.List.{append_assoc, length-append}
use Rattle.std.proofs.lemmas.List.Elements.{All-nil}
use Rattle.wire_base.specs.Ranges.{IsNote}
use Rattle.wire_base.specs.declared.note.Note.{Note}
use Rattle.wire_base.specs.declared.row.Op.{Op}
use Rattle.wire_base.specs.declared.row.Row.{Row}
use Rattle.ack_tracker.specs.Keys.{SetsBegun}
use Rattle.ack_tracker.specs.Tracked.{Tracked}
use Rattle.registry_store.specs.Committing.{AreAfterSome}
use Rattle.registry_store.specs.Standing.{Standing}
use Rattle.settle_box.specs.Notes.{IsPostable}
use Rattle.ship_core.specs.Changes.{LeadTo}
use Rattle.ship_core.specs.Orderly.{AreOrderly}
use Rattle.ship_core.specs.Replay.{replay_on}
use Rattle.ship_core.specs.Rows.{IsInOrder, find}
use Rattle.ship_core.specs.RowsOver.{AreRowsOver}
use Rattle.keeper.specs.FewKeys.{AreFewKeys}
use Rattle.keeper.specs.Sound.{IsSound, are_some}
use Rattle.keeper.proofs.Few.{few_after, few_after_some, few_keys_by_length, few_while_more_go, in_order_after, in_order_after_some}

-- a keeper begins
pub sound_at_first : (store : Standing) (rows : List Row) → rows ≡ store.rows → IsInOrder store.rows → length store.rows ≤ 65_536 → IsSound (record { opening = rows; notes = []; committed = []; gone = [] }) store None false
sound_at_first store rows is ordered few = record {
  opening = subst IsInOrder (sym is) ordered;
  in_order = ordered;
  stored = λ orderly stays. record { in_order = ordered; each = λ key. ap (find key) (sym is) };
  few = few_keys_by_length store.rows [] [] (omega (arith, few));
  rest = [];
  notes_are = refl;
  pending_is = refl;
  held_kind = All-nil IsPostable;
  held_range = All-nil IsNote;
}

some_more : (rest : List Note) (note : Note) → true ≡ are_some (rest ++ note ∷ [])
some_more [] note = refl
some_more (first ∷ rest) note = refl

-- if nothing is pending, all notes are committed; and else some are not
all_are : (rest : List Note) (notes committed : List Note) → notes ≡ committed ++ rest → false ≡ are_some rest → committed ≡ notes
all_are [] notes committed is none = sym (append-nil committed) ∙ sym is
all_are (note ∷ rest) notes committed is none = absurd (let q : false ≡ true = none in cc)

not_all_are : (rest : List Note) (notes committed : List Note) → notes ≡ committed ++ rest → true ≡ are_some rest → committed ≡ notes → ⊥
not_all_are [] notes committed is some same = absurd (let q : true ≡ false = some in cc)
not_all_are (note ∷ rest) notes committed is some same =
    let lengths = ap (λ (l : List Note). length l) (same ∙ is) in omega (arith, lengths, length-append committed (note ∷ rest))

module _ (old : Tracked) (store : Standing) (held : Option Note) (pending : Bool) (sound : IsSound old store held pending) where
  pub nothing_pending : pending ≡ false → old.committed ≡ old.notes
  nothing_pending is = all_are sound.rest old.notes old.committed sound.notes_are (sym is ∙ sound.pending_is)

  pub something_pending : pending ≡ true → old.committed ≡ old.notes → ⊥
  something_pending is same = not_all_are sound.rest old.notes old.committed sound.notes_are (sym is ∙ sound.pending_is) same

  -- a note is noted
  pub sound_noted : (new : Tracked) (note : Note) → ((front rest : List Note) → AreOrderly (front ++ rest) → AreOrderly front)
      → new.opening ≡ old.opening → new.committed ≡ old.committed → All (Contains new.gone) old.gone → new.notes ≡ old.notes ++ note ∷ []
      → AreFewKeys store.rows (old.notes ++ note ∷ []) old.gone → IsSound new store held true
  sound_noted new note front opening committed gone noted few = record {
    opening = subst IsInOrder (sym opening) sound.opening;
    in_order = sound.in_order;
    stored = λ orderly stays.
        subst (λ (l : List Row). AreRowsOver l new.committed store.rows) (sym opening)
        (subst (λ (l : List Note). AreRowsOver old.opening l store.rows) (sym committed)
        (sound.stored (front old.notes (note ∷ []) (subst AreOrderly noted orderly)) stays));
    few = few_while_more_go store.rows new.notes old.gone new.gone gone (subst (λ (l : List Note). AreFewKeys store.rows l old.gone) (sym noted) few);
    rest = sound.rest ++ note ∷ [];
    notes_are = noted ∙ ap (λ (l : List Note). l ++ note ∷ []) sound.notes_are ∙ append_assoc old.committed sound.rest (note ∷ []) ∙ ap (λ (l : List Note). l ++ (sound.rest ++ note ∷ [])) (sym committed);
    pending_is = some_more sound.rest note;
    held_kind = sound.held_kind;
    held_range = sound.held_range;
  }

  module _ (after : Standing) (ops : List Op) (begun : All (SetsBegun old.notes old.gone) ops) where
    -- a commit failed
    pub sound_failed : AreAfterSome store.rows ops after.rows → after.closed ≡ true → IsSound old after held pending
    sound_failed some closed = record {
      opening = sound.opening;
      in_order = in_order_after_some ops store.rows after.rows sound.in_order some;
      stored = λ orderly stays. absurd (let q : true ≡ false = sym closed ∙ stays in cc);
      few = few_after_some store.rows old.notes old.gone sound.few ops after.rows begun some;
      rest = sound.rest;
      notes_are = sound.notes_are;
      pending_is = sound.pending_is;
      held_kind = sound.held_kind;
      held_range = sound.held_range;
    }

    -- all is committed
    pub sound_committed : (new : Tracked) → new.opening ≡ old.opening → new.notes ≡ old.notes → new.committed ≡ old.notes → new.gone ≡ old.gone → after.rows ≡ replay_on store.rows ops
        → (AreOrderly old.notes → (to : List Row) × AreRowsOver old.opening old.notes to × LeadTo store.rows to ops) → IsSound new after held false
    sound_committed new opening notes committed gone rows lead = record {
      opening = subst IsInOrder (sym opening) sound.opening;
      in_order = subst IsInOrder (sym rows) (in_order_after ops store.rows sound.in_order);
      stored = λ orderly stays.
          let leads = lead (subst AreOrderly notes orderly) in
          let same : leads.0 ≡ after.rows = sym leads.2.replayed ∙ sym rows in
          subst (λ (l : List Row). AreRowsOver l new.committed after.rows) (sym opening)
          (subst (λ (l : List Note). AreRowsOver old.opening l after.rows) (sym committed)
          (subst (AreRowsOver old.opening old.notes) same leads.1));
      few = subst (λ (l : List Row). AreFewKeys l new.notes new.gone) (sym rows)
          (subst (λ (l : List Note). AreFewKeys (replay_on store.rows ops) l new.gone) (sym notes)
          (subst (AreFewKeys (replay_on store.rows ops) old.notes) (sym gone) (few_after store.rows old.notes old.gone sound.few ops begun)));
      rest = [];
      notes_are = notes ∙ sym committed ∙ sym (append-nil new.committed);
      pending_is = refl;
      held_kind = sound.held_kind;
      held_range = sound.held_range;
    }
