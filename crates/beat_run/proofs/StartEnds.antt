-- Files that could not all be started: their keys are different, so there is a slot for each that comes before the first that is too many.
use Rattle.std.proofs.Common.{◌≡◌, ℕ, zero, suc, ◌+◌, ◌<◌, ◌≤◌, Bool, true, false, List, [], ◌∷◌, length, take, Option, None, Some, is_none, if◌then◌else◌, nat_le, refl, sym, ap, subst, arith}
use Rattle.std.proofs.lemmas.Bool.{leb-false, leb-true}
use Rattle.std.proofs.lemmas.List.{length-take-le}
use Rattle.std.proofs.lemmas.Option.{slice_get_within}
use Rattle.std.specs.List.{filter}
use Rattle.std.specs.Prelude.{slice_get}
use Rattle.prospect.specs.Doubled.{AreKeysApart}
use Rattle.prospect.specs.declared.listed.Listed.{Listed}
use Rattle.report.specs.declared.status.Status.{Status}
use Rattle.restart_join.specs.Joining.{full_for}
use Rattle.restart_join.specs.declared.join_error.JoinError.{JoinError}
use Rattle.restart_join.specs.declared.join_error.JoinError.TheVariants.{NoMemory, TooMany}
use Rattle.run_steps.proofs.FewListed.{apart_in_front, no_more_listed}
use Rattle.run_steps.specs.BeginFor.{row_of}
use Rattle.run_steps.specs.Starting.{HaveRoomBefore, IsFirstTooMany, RefusesStarts, new_files}
use Rattle.wire_base.specs.declared.limits.Full.{Full}
use Rattle.wire_base.specs.declared.limits.Full.TheVariants.{Epochs, Files, Slots}
use Rattle.wire_base.specs.declared.row.Row.{Row}
use Rattle.beat_run.specs.Ended.{StandsForJoin}
use Rattle.beat_run.specs.Ends.{IsStartEnd}

-- ---- slots are too many only at their limit

full_slots : (files slots size : ℕ) (row : Option Row) → full_for files slots size row ≡ Some Slots → 4_294_967_295 ≤ slots
full_slots files slots size row full = by_row row full
  where
    by_slots : (b : Bool) → nat_le 4_294_967_295 slots ≡ b → (if b then Some Slots else None) ≡ Some Slots → 4_294_967_295 ≤ slots
    by_slots true at_limit is = leb-true 4_294_967_295 slots at_limit
    by_slots false below is = absurd (let no : ◌≡◌ {A = Option Full} None (Some Slots) = is in cc)

    by_files : (b : Bool) → (if b then Some Files else (if nat_le 4_294_967_295 slots then Some Slots else None)) ≡ Some Slots → 4_294_967_295 ≤ slots
    by_files true is = absurd (let no : Some Files ≡ Some Slots = is in cc)
    by_files false is = by_slots (nat_le 4_294_967_295 slots) refl is

    by_epoch : (b : Bool) → (if b then Some Epochs else (if nat_le 4_294_967_295 slots then Some Slots else None)) ≡ Some Slots → 4_294_967_295 ≤ slots
    by_epoch true is = absurd (let no : Some Epochs ≡ Some Slots = is in cc)
    by_epoch false is = by_slots (nat_le 4_294_967_295 slots) refl is

    by_offset : (epoch : ℕ) (b : Bool) →
        (if b then (if nat_le 4_294_967_295 slots then Some Slots else None) else (if nat_le 4_294_967_295 epoch then Some Epochs else (if nat_le 4_294_967_295 slots then Some Slots else None))) ≡ Some Slots →
        4_294_967_295 ≤ slots
    by_offset epoch true is = by_slots (nat_le 4_294_967_295 slots) refl is
    by_offset epoch false is = by_epoch (nat_le 4_294_967_295 epoch) is

    by_row : (o : Option Row) → full_for files slots size o ≡ Some Slots → 4_294_967_295 ≤ slots
    by_row None is = by_files (nat_le 65_536 files) is
    by_row (Some r) is = by_offset r.epoch.0 (nat_le r.offset size) is

module _ (rows : List Row) where
  -- ---- as many as may be are counted before the first that is too many

  -- each of these files without a row came while fewer were counted than there may be
  abbrev CountsFew : ℕ → List Listed → ℕ → Type 0
  CountsFew count listed place = (earlier : ℕ) (one : Listed) → earlier < place → slice_get listed earlier ≡ Some one → is_none (row_of rows one.key) ≡ true →
      count + new_files rows (take earlier listed) < 65_536

  few_in_front : (listed : List Listed) (count place : ℕ) → count ≤ 65_536 → CountsFew count listed place → count + new_files rows (take place listed) ≤ 65_536
  few_in_front listed count zero few counts = omega (arith, few)
  few_in_front [] count (suc place) few counts = omega (arith, few)
  few_in_front (one ∷ listed) count (suc place) few counts = by_row (few_in_front listed (suc count) place) (few_in_front listed count place) (is_none (row_of rows one.key)) refl
    where
      kept : List Listed → List Listed
      kept files = filter (λ (o : Listed). is_none (row_of rows o.key)) files

      by_row : (suc count ≤ 65_536 → CountsFew (suc count) listed place → suc count + new_files rows (take place listed) ≤ 65_536) →
          (count ≤ 65_536 → CountsFew count listed place → count + new_files rows (take place listed) ≤ 65_536) →
          (b : Bool) → is_none (row_of rows one.key) ≡ b → count + length (if b then one ∷ kept (take place listed) else kept (take place listed)) ≤ 65_536
      by_row more same true is =
          let first = counts 0 one (omega arith) refl is in
          let all = more (omega (arith, first)) (λ earlier other less there none.
          let before = counts (suc earlier) other (omega (arith, less)) there none in
          let with_one : new_files rows (one ∷ take earlier listed) ≡ suc (new_files rows (take earlier listed)) = ap (λ (b : Bool). length (if b then one ∷ kept (take earlier listed) else kept (take earlier listed))) is in
          omega (arith, before, with_one)) in
          omega (arith, all)
      by_row more same false is =
          same few (λ earlier other less there none.
          let before = counts (suc earlier) other (omega (arith, less)) there none in
          let without : new_files rows (one ∷ take earlier listed) ≡ new_files rows (take earlier listed) = ap (λ (b : Bool). length (if b then one ∷ kept (take earlier listed) else kept (take earlier listed))) is in
          omega (arith, before, without))

  counts_few : (listed : List Listed) (place : ℕ) → HaveRoomBefore rows listed place → CountsFew (length rows) listed place
  counts_few listed place room earlier one less there none = by_row (row_of rows one.key) none (room earlier one less there)
    where
      counted : ℕ
      counted = length rows + new_files rows (take earlier listed)

      by_test : (b : Bool) → nat_le 65_536 counted ≡ b → (if b then Some Files else (if nat_le 4_294_967_295 earlier then Some Slots else None)) ≡ None → counted < 65_536
      by_test true at_limit is = absurd (let no : ◌≡◌ {A = Option Full} (Some Files) None = is in cc)
      by_test false below is = leb-false 65_536 counted below

      by_row : (o : Option Row) → is_none o ≡ true → full_for counted earlier one.size o ≡ None → counted < 65_536
      by_row None is full = by_test (nat_le 65_536 counted) refl full
      by_row (Some row) is full = absurd (let no : false ≡ true = is in cc)

  no_slots : (listed : List Listed) (path : List ℕ) → length rows ≤ 65_536 → AreKeysApart listed → IsFirstTooMany rows listed Slots path → ⊥
  no_slots listed path few apart first =
      let front = take first.place listed in
      let counted = few_in_front listed (length rows) first.place few (counts_few listed first.place first.room_before) in
      let fewer = no_more_listed rows front (apart_in_front first.place listed apart) in
      let within = slice_get_within listed first.place first.one first.listed_there in
      let full = full_slots (length rows + new_files rows front) first.place first.one.size (row_of rows first.one.key) first.full in
      omega (arith, counted, fewer, length-take-le first.place listed (omega (arith, within)), full)

  pub start_ends : (listed : List Listed) → length rows ≤ 65_536 → AreKeysApart listed → (error : JoinError) (status : Status) → RefusesStarts rows listed error → StandsForJoin error status →
      IsStartEnd rows listed status
  start_ends listed few apart NoMemory status refused is = subst (IsStartEnd rows listed) (sym is) tt
  start_ends listed few apart (TooMany Files path) status refused is = subst (IsStartEnd rows listed) (sym is) refused
  start_ends listed few apart (TooMany Epochs path) status refused is = subst (IsStartEnd rows listed) (sym is) refused
  start_ends listed few apart (TooMany Slots path) status refused is = absurd (no_slots listed path few apart refused)
