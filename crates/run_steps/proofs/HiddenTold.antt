-- Rows of removed files that the keeper is told of, one behind the other.
use Rattle.std.proofs.Common.{◌≡◌, inl, inr, ℕ, zero, suc, ◌+◌, ◌≤◌, Bool, true, false, Contains, List, [], ◌∷◌, ◌++◌, length, take, append_assoc, append-nil, Some, OnOk, Result, Ok, Err, refl, sym, ap, subst, ◌∙◌, arith}
use Rattle.std.proofs.lemmas.List.{length-append}
use Rattle.std.proofs.lemmas.List.Elements.{Contains-append_left, Contains-append_right}
use Rattle.std.specs.Prelude.{slice_get}
use Rattle.std.specs.BTreeSet.{BTreeSet, contains}
use Rattle.std.specs.List.{AllByRecursion}
use Rattle.accounts.proofs.Lists.{each_then, flat_map_last}
use Rattle.accounts.specs.Hidden.{Hidden, hidden_begin, hidden_forget}
use Rattle.event_tree.specs.declared.input_rule.InputRule.{InputRule}
use Rattle.file_rows.specs.Removed.{HasListedKeys, IsCleanedBeside, IsListedKey, IsRemoved, SomeMayGo}
use Rattle.keeper.specs.Keeping.{Keeping}
use Rattle.kept_rows.proofs.Showing.{both}
use Rattle.prospect.specs.declared.listed.Listed.{Listed}
use Rattle.ship_core.proofs.Members.{first_there, later_there}
use Rattle.ship_core.specs.Rows.{IsInOrder}
use Rattle.wire_base.specs.KeyOrder.{compare}
use Rattle.wire_base.specs.declared.note.Note.{Note}
use Rattle.wire_base.specs.declared.row.Row.{Row}
use Rattle.run_steps.specs.HiddenRows.{AreHiddenAmong, BeginsOrNothing, RowAt, TellsHidden, TellsOrLeaves, TellsSomeHidden, hidden_as, hidden_notes}
use Rattle.run_steps.specs.KnownKeys.{KnowsAmong}
use Rattle.run_steps.specs.Telling.{TellsNotes}
use Rattle.run_steps.proofs.KnownKeys.{more_known, row_known}
use Rattle.run_steps.proofs.Notes.{none_told, told_behind}

-- ---- one row more

module _ (inputs : List InputRule) (listed : List Listed) where
  among_stays : (slot : ℕ) (rows : List Row) (row : Row) (hiddens : List Hidden) → AreHiddenAmong inputs listed slot rows hiddens → ¬ (IsRemoved inputs listed row.key) →
      AreHiddenAmong inputs listed slot (rows ++ row ∷ []) hiddens
  among_stays slot [] row hiddens are stays = inl (stays, are)
  among_stays slot (first ∷ rows) row hiddens (inl stands) stays = inl (stands.0, among_stays slot rows row hiddens stands.1 stays)
  among_stays slot (first ∷ rows) row hiddens (inr goes) stays =
      inr (record { removed = goes.removed; later = goes.later; are = goes.are; rest = among_stays (suc slot) rows row goes.later goes.rest stays })

  among_goes : (slot : ℕ) (rows : List Row) (row : Row) (hiddens : List Hidden) → AreHiddenAmong inputs listed slot rows hiddens → (removed : IsRemoved inputs listed row.key) →
      AreHiddenAmong inputs listed slot (rows ++ row ∷ []) (hiddens ++ hidden_as inputs (slot + length hiddens) row removed.cleaned ∷ [])
  among_goes slot [] row hiddens are removed = inr (record {
    removed = removed;
    later = [];
    are = ap (λ (l : List Hidden). l ++ hidden_as inputs (slot + length hiddens) row removed.cleaned ∷ []) are
        ∙ ap (λ (n : ℕ). hidden_as inputs n row removed.cleaned ∷ []) (ap (λ (l : List Hidden). slot + length l) are ∙ none_longer slot);
    rest = refl;
  })
    where
      none_longer : (n : ℕ) → n + 0 ≡ n
      none_longer n = omega arith
  among_goes slot (first ∷ rows) row hiddens (inl stands) removed = inl (stands.0, among_goes slot rows row hiddens stands.1 removed)
  among_goes slot (first ∷ rows) row hiddens (inr goes) removed = inr (record {
    removed = goes.removed;
    later = goes.later ++ hidden_as inputs (suc slot + length goes.later) row removed.cleaned ∷ [];
    are = ap (λ (l : List Hidden). l ++ hidden_as inputs (slot + length hiddens) row removed.cleaned ∷ []) goes.are
        ∙ ap (λ (n : ℕ). hidden_as inputs slot first goes.removed.cleaned ∷ (goes.later ++ hidden_as inputs n row removed.cleaned ∷ [])) one_longer;
    rest = among_goes (suc slot) rows row goes.later goes.rest removed;
  })
    where
      one_longer : slot + length hiddens ≡ suc slot + length goes.later
      one_longer = let long = ap (λ (l : List Hidden). length l) goes.are in omega (arith, long)

  module _ (keys : BTreeSet (List ℕ)) (may : SomeMayGo inputs listed) (has : HasListedKeys listed keys) (row : Row) where
    unlisted_beside : IsCleanedBeside inputs keys row.key → ¬ (IsListedKey listed row.key)
    unlisted_beside beside found = let q : true ≡ false = sym ((has row.key).1 found) ∙ beside.absent in cc

    abbrev removed_beside : IsCleanedBeside inputs keys row.key → IsRemoved inputs listed row.key
    removed_beside beside = record { all_known = may.known; cleaned = beside.cleaned; unlisted = unlisted_beside beside }

    stays_beside : ¬ (IsCleanedBeside inputs keys row.key) → ¬ (IsRemoved inputs listed row.key)
    stays_beside stays removed = by_set (contains compare keys row.key) refl
      where
        by_set : (b : Bool) → contains compare keys row.key ≡ b → ⊥
        by_set true is = removed.unlisted ((has row.key).0 is)
        by_set false is = stays (record { cleaned = removed.cleaned; absent = is })

-- ---- the Begin of each is told

later_begun : (front : List Note) (hiddens some : List Hidden) → AllByRecursion (λ (hidden : Hidden). Contains (hidden_notes hiddens) (hidden_begin hidden)) some →
    AllByRecursion (λ (hidden : Hidden). Contains (front ++ hidden_notes hiddens) (hidden_begin hidden)) some
later_begun front hiddens [] each = tt
later_begun front hiddens (one ∷ some) each = (Contains-append_right front (hidden_notes hiddens) (hidden_begin one) each.0, later_begun front hiddens some each.1)

pub all_begun : (hiddens : List Hidden) → AllByRecursion (λ (hidden : Hidden). Contains (hidden_notes hiddens) (hidden_begin hidden)) hiddens
all_begun [] = tt
all_begun (hidden ∷ hiddens) = (
  first_there (hidden_begin hidden) (hidden_forget hidden ∷ hidden_notes hiddens),
  later_begun (hidden_begin hidden ∷ hidden_forget hidden ∷ []) hiddens hiddens (all_begun hiddens),
)

-- ---- up to a place

-- those of the rows up to the place were told of, by slots up to this one
pub record HidesSoFar (inputs : List InputRule) (listed : List Listed) (rows : List Row) (place slot : ℕ) (old now : Keeping) : Type 0 where
  pub hiddens : List Hidden
  pub are : AreHiddenAmong inputs listed (length listed) (take place rows) hiddens
  pub slot_is : slot ≡ length listed + length hiddens
  pub few : length hiddens ≤ place
  pub tells : TellsNotes (hidden_notes hiddens) old now
  pub knows : (keys : List (List ℕ)) → KnowsAmong keys old → KnowsAmong keys now

take_one : (rows : List Row) (place : ℕ) (row : Row) → slice_get rows place ≡ Some row → take (suc place) rows ≡ take place rows ++ row ∷ []
take_one [] place row is = absurd cc
take_one (first ∷ rows) zero row is = let same : first ≡ row = cc in ap (λ (r : Row). r ∷ []) same
take_one (first ∷ rows) (suc place) row is = ap (λ (l : List Row). first ∷ l) (take_one rows place row is)

take_next : (rows : List Row) (place : ℕ) (row : Row) → slice_get rows place ≡ Some row → take (place + 1) rows ≡ take place rows ++ row ∷ []
take_next rows place row is = ap (λ (n : ℕ). take n rows) one_more ∙ take_one rows place row is
  where
    one_more : place + 1 ≡ suc place
    one_more = omega arith

pub there_at : (rows : List Row) (place : ℕ) (row : Row) → slice_get rows place ≡ Some row → Contains rows row
there_at [] place row is = absurd cc
there_at (first ∷ rows) zero row is = let same : first ≡ row = cc in subst (λ (r : Row). Contains (first ∷ rows) r) same (first_there first rows)
there_at (first ∷ rows) (suc place) row is = later_there first row rows (there_at rows place row is)

pub none_hidden : (inputs : List InputRule) (listed : List Listed) (rows : List Row) (keeper : Keeping) → HidesSoFar inputs listed rows 0 (length listed) keeper keeper
none_hidden inputs listed rows keeper = record { hiddens = []; are = refl; slot_is = omega arith; few = omega arith; tells = none_told keeper; knows = λ keys knows. knows }

module _ (inputs : List InputRule) (listed : List Listed) (keys : BTreeSet (List ℕ)) (may : SomeMayGo inputs listed) (has : HasListedKeys listed keys) (rows : List Row) (place slot : ℕ) (old now : Keeping)
    (so_far : HidesSoFar inputs listed rows place slot old now) (rows_are : now.store.rows ≡ rows) where
  its_row : (row : Row) → slice_get rows place ≡ Some row → Contains now.store.rows row
  its_row row at = subst (λ (l : List Row). Contains l row) (sym rows_are) (there_at rows place row at)

  -- the row at the place was told of, or stays
  pub hides_next : (next : ℕ) (new : Keeping) → RowAt rows place (λ row. TellsOrLeaves inputs keys slot row now new next) → HidesSoFar inputs listed rows (place + 1) next old new
  hides_next next new at = by_case at.holds
    where
      by_case : TellsOrLeaves inputs keys slot at.row now new next → HidesSoFar inputs listed rows (place + 1) next old new
      by_case (inr leaves) = subst (HidesSoFar inputs listed rows (place + 1) next old) (sym leaves.same) (record {
        hiddens = so_far.hiddens;
        are = subst (λ (l : List Row). AreHiddenAmong inputs listed (length listed) l so_far.hiddens) (sym (take_next rows place at.row at.at))
            (among_stays inputs listed (length listed) (take place rows) at.row so_far.hiddens so_far.are (stays_beside inputs listed keys may has at.row leaves.stays));
        slot_is = leaves.next_is ∙ so_far.slot_is;
        few = let few = so_far.few in omega (arith, few);
        tells = so_far.tells;
        knows = so_far.knows;
      })
      by_case (inl tells) =
          let removed = removed_beside inputs listed keys may has at.row tells.beside in
          let one = hidden_as inputs slot at.row removed.cleaned in
          record {
            hiddens = so_far.hiddens ++ one ∷ [];
            are = subst (λ (l : List Row). AreHiddenAmong inputs listed (length listed) l (so_far.hiddens ++ one ∷ [])) (sym (take_next rows place at.row at.at))
                (subst (λ (n : ℕ). AreHiddenAmong inputs listed (length listed) (take place rows ++ at.row ∷ []) (so_far.hiddens ++ hidden_as inputs n at.row removed.cleaned ∷ [])) (sym so_far.slot_is)
                (among_goes inputs listed (length listed) (take place rows) at.row so_far.hiddens so_far.are removed));
            slot_is = let next = tells.next_is in let before = so_far.slot_is in let long = length-append so_far.hiddens (one ∷ []) in omega (arith, next, before, long);
            few = let few = so_far.few in let long = length-append so_far.hiddens (one ∷ []) in omega (arith, few, long);
            tells = subst (λ (l : List Note). TellsNotes l old new) (sym (flat_map_last (λ (hidden : Hidden). hidden_begin hidden ∷ hidden_forget hidden ∷ []) so_far.hiddens one))
                (told_behind (hidden_notes so_far.hiddens) (hidden_begin one ∷ hidden_forget one ∷ []) old now new so_far.tells tells.tells);
            knows = λ known knows.
                let of = so_far.knows known knows in
                more_known known (hidden_begin one ∷ hidden_forget one ∷ []) now new tells.tells (row_known known now at.row of (its_row at.row at.at), (tt, tt)) of;
          }

  -- memory was out in it
  pub hides_some : (new : Keeping) → IsInOrder rows → RowAt rows place (λ row. BeginsOrNothing inputs keys slot row now new) → TellsSomeHidden inputs listed rows old new
  hides_some new ordered at = by_case at.holds
    where
      by_case : BeginsOrNothing inputs keys slot at.row now new → TellsSomeHidden inputs listed rows old new
      by_case (inr same) = subst (TellsSomeHidden inputs listed rows old) (sym same) (record {
        hiddens = so_far.hiddens;
        so_far = record { ordered = ordered; count = place; are = so_far.are };
        told = hidden_notes so_far.hiddens;
        left = [];
        told_are = sym (append-nil (hidden_notes so_far.hiddens));
        begun = all_begun so_far.hiddens;
        tells = so_far.tells;
      })
      by_case (inl begins) =
          let removed = removed_beside inputs listed keys may has at.row begins.beside in
          let one = hidden_as inputs slot at.row removed.cleaned in
          record {
            hiddens = so_far.hiddens ++ one ∷ [];
            so_far = record {
              ordered = ordered;
              count = place + 1;
              are = subst (λ (l : List Row). AreHiddenAmong inputs listed (length listed) l (so_far.hiddens ++ one ∷ [])) (sym (take_next rows place at.row at.at))
                  (subst (λ (n : ℕ). AreHiddenAmong inputs listed (length listed) (take place rows ++ at.row ∷ []) (so_far.hiddens ++ hidden_as inputs n at.row removed.cleaned ∷ [])) (sym so_far.slot_is)
                  (among_goes inputs listed (length listed) (take place rows) at.row so_far.hiddens so_far.are removed));
            };
            told = hidden_notes so_far.hiddens ++ hidden_begin one ∷ [];
            left = hidden_forget one ∷ [];
            told_are = flat_map_last (λ (hidden : Hidden). hidden_begin hidden ∷ hidden_forget hidden ∷ []) so_far.hiddens one
                ∙ sym (append_assoc (hidden_notes so_far.hiddens) (hidden_begin one ∷ []) (hidden_forget one ∷ []));
            begun = both (λ (hidden : Hidden). Contains (hidden_notes so_far.hiddens ++ hidden_begin one ∷ []) (hidden_begin hidden)) so_far.hiddens (one ∷ [])
                (each_then (λ (hidden : Hidden). Contains (hidden_notes so_far.hiddens) (hidden_begin hidden)) (λ (hidden : Hidden). Contains (hidden_notes so_far.hiddens ++ hidden_begin one ∷ []) (hidden_begin hidden))
                so_far.hiddens (λ hidden there. Contains-append_left (hidden_notes so_far.hiddens) (hidden_begin one ∷ []) (hidden_begin hidden) there) (all_begun so_far.hiddens))
                (Contains-append_right (hidden_notes so_far.hiddens) (hidden_begin one ∷ []) (hidden_begin one) (first_there (hidden_begin one) []), tt);
            tells = told_behind (hidden_notes so_far.hiddens) (hidden_begin one ∷ []) old now new so_far.tells begins.tells;
          }

-- ---- a body's steps

pub on_ok : {A E : Type 0} (r : Result A E) (P Q : Type 0) → (P → Q) → OnOk r P → OnOk r Q
on_ok (Ok value) P Q then is = then is
on_ok (Err error) P Q then is = tt

pub rows_still : (inputs : List InputRule) (keys : BTreeSet (List ℕ)) (rows : List Row) (place slot next : ℕ) (now new : Keeping) → RowAt rows place (λ row. TellsOrLeaves inputs keys slot row now new next) →
    new.store.rows ≡ now.store.rows
rows_still inputs keys rows place slot next now new at = by_case at.holds
  where
    by_case : TellsOrLeaves inputs keys slot at.row now new next → new.store.rows ≡ now.store.rows
    by_case (inl tells) = ap (λ (k : Keeping). k.store.rows) tells.tells.others_stay
    by_case (inr leaves) = ap (λ (k : Keeping). k.store.rows) leaves.same

-- ---- all of them

take_whole : (rows : List Row) (place : ℕ) → length rows ≤ place → take place rows ≡ rows
take_whole [] zero less = refl
take_whole [] (suc place) less = refl
take_whole (row ∷ rows) zero less = absurd (omega (arith, less))
take_whole (row ∷ rows) (suc place) less = ap (λ (l : List Row). row ∷ l) (take_whole rows place (omega (arith, less)))

pub hides_all : (inputs : List InputRule) (listed : List Listed) (rows : List Row) (place slot : ℕ) (old now : Keeping) → IsInOrder rows → length rows ≤ place → HidesSoFar inputs listed rows place slot old now →
    TellsHidden inputs listed rows old now
hides_all inputs listed rows place slot old now ordered less so_far = record {
  hiddens = so_far.hiddens;
  ordered = ordered;
  are = subst (λ (l : List Row). AreHiddenAmong inputs listed (length listed) l so_far.hiddens) (take_whole rows place less) so_far.are;
  tells = so_far.tells;
}

-- where no row may go none is removed
none_among : (inputs : List InputRule) (listed : List Listed) (slot : ℕ) (rows : List Row) → ¬ (SomeMayGo inputs listed) → AreHiddenAmong inputs listed slot rows []
none_among inputs listed slot [] none = refl
none_among inputs listed slot (row ∷ rows) none = inl (
  λ removed. none (record { cleans = (removed.cleaned.0, removed.cleaned.1, removed.cleaned.2, removed.cleaned.3, removed.cleaned.4.0); known = removed.all_known }),
  none_among inputs listed slot rows none,
)

pub hides_none : (inputs : List InputRule) (listed : List Listed) (rows : List Row) (keeper : Keeping) → IsInOrder rows → ¬ (SomeMayGo inputs listed) → TellsHidden inputs listed rows keeper keeper
hides_none inputs listed rows keeper ordered none = record { hiddens = []; ordered = ordered; are = none_among inputs listed (length listed) rows none; tells = none_told keeper }

pub hides_nothing_yet : (inputs : List InputRule) (listed : List Listed) (rows : List Row) (keeper : Keeping) → IsInOrder rows → TellsSomeHidden inputs listed rows keeper keeper
hides_nothing_yet inputs listed rows keeper ordered = record {
  hiddens = [];
  so_far = record { ordered = ordered; count = 0; are = refl };
  told = [];
  left = [];
  told_are = refl;
  begun = tt;
  tells = none_told keeper;
}
