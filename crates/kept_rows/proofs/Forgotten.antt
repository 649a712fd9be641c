-- A slot that was begun and has no row over backed notes was forgotten: some Forget names its last epoch and where what was reported of it ends,
-- and all of that is settled.
use Rattle.std.proofs.Common.{◌≡◌, ◌⊎◌, inl, inr, ℕ, ◌+◌, ◌<◌, ◌≤◌, Bool, true, false, cond, eqb, nat_le, nat_lt, ◌&&◌, List, [], ◌∷◌, ◌++◌, max, Option, Some, None, refl, sym, ap, subst, ◌∙◌, append-nil, arith}
use Rattle.std.specs.List.{AllByRecursion, Contains, filter, fold}
use Rattle.std.specs.Option.{is_some, option_and_then}
use Rattle.std.proofs.lemmas.Bool.{and_parts, eq-eqb, eqb-true, leb-true, ltb-true, ne_eqb, or_cases}
use Rattle.std.proofs.lemmas.List.Elements.{All-contains, All-from_recursion}
use Rattle.ship_core.proofs.Members.{any_there, first_there, later_there, none_there, passed_there, there_passed}
use Rattle.ship_core.specs.CoveredEnd.{Adjoin, last_end}
use Rattle.ship_core.specs.RowOver.{Start, base_in, forgets, greatest_epoch, is_gone, notes_of, offset_over, row_of, row_over, slot_of as slot_named, standing_row, start_over}
use Rattle.ship_core.specs.RowsOver.{row_among, row_for, row_of_greatest, slots_for}
use Rattle.wire_base.specs.declared.note.Note.{Note}
use Rattle.wire_base.specs.declared.note.Note.TheVariants.{Begin, Announce, Settle, Rename, Seen, Forget}
use Rattle.wire_base.specs.declared.row.Row.{Row}
use Rattle.kept_rows.proofs.Backing.{ClosesBy, backed, closes_settled, epoch_found, greatest_among, note_of, slot_in, standing_of}
use Rattle.kept_rows.proofs.Begun.{IsNoForget}
use Rattle.kept_rows.specs.Account.{AccountedEvent, EpochAccount, SlotAccount, epoch_at, slot_at, spans_of}
use Rattle.kept_rows.specs.Backed.{AreBacked, AreInRows, Backs, BacksForget, IsInOneRow}
use Rattle.kept_rows.specs.Epochs.{AreNumbered, AreNumberedFrom, next_place}
use Rattle.kept_rows.specs.Kept.{ClosesSettled, IsSettled}
use Rattle.kept_rows.specs.Trace.{WireTold}

-- ---- the last epoch is the greatest

pub to_last : (before : ℕ) (earlier : List EpochAccount) (last : EpochAccount) → AreNumberedFrom before (earlier ++ last ∷ []) → before < last.epoch
to_last before [] last are = let next = are.0 in omega (arith, next)
to_last before (one ∷ earlier) last are = let later = to_last (before + 1) earlier last are.2 in omega (arith, later)

abbrev IsLastOrBefore : ℕ → EpochAccount → EpochAccount → Type 0
IsLastOrBefore epoch found last = (epoch < last.epoch) ⊎ ((epoch ≡ last.epoch) × (found ≡ last))

only_found : (epoch : ℕ) (last found : EpochAccount) → epoch_at epoch (last ∷ []) ≡ Some found → IsLastOrBefore epoch found last
only_found epoch last found is = by_case (eqb last.epoch epoch) refl is
  where
    by_case : (b : Bool) → eqb last.epoch epoch ≡ b → cond b (Some last) None ≡ Some found → IsLastOrBefore epoch found last
    by_case true test e =
        let q : Some last ≡ Some found = e in
        let same : last ≡ found = cc in
        inr (sym (eqb-true last.epoch epoch test), sym same)
    by_case false test e = absurd (let q : None ≡ Some found = e in cc)

found_from : (before epoch : ℕ) (earlier : List EpochAccount) (last found : EpochAccount) → AreNumberedFrom before (earlier ++ last ∷ []) →
    epoch_at epoch (earlier ++ last ∷ []) ≡ Some found → IsLastOrBefore epoch found last
found_from before epoch [] last found are is = only_found epoch last found is
found_from before epoch (one ∷ earlier) last found are is =
    by_case (eqb one.epoch epoch) refl is (found_from (before + 1) epoch earlier last found are.2)
  where
    by_case : (b : Bool) → eqb one.epoch epoch ≡ b → cond b (Some one) (epoch_at epoch (earlier ++ last ∷ [])) ≡ Some found →
        (epoch_at epoch (earlier ++ last ∷ []) ≡ Some found → IsLastOrBefore epoch found last) → IsLastOrBefore epoch found last
    by_case true test e later =
        let number = eqb-true one.epoch epoch test in
        let next = are.0 in
        let more = to_last (before + 1) earlier last are.2 in
        inl (omega (arith, number, next, more))
    by_case false test e later = later e

-- an epoch of the slot that is found is the last one, or before it
pub last_is_greatest : (one : SlotAccount) (earlier : List EpochAccount) (last : EpochAccount) (epoch : ℕ) (found : EpochAccount) → AreNumbered one →
    one.epochs ≡ earlier ++ last ∷ [] → epoch_at epoch one.epochs ≡ Some found → IsLastOrBefore epoch found last
last_is_greatest one earlier last epoch found numbered are is =
    by_parts earlier (sym numbered.epochs_are ∙ are) (sym (ap (epoch_at epoch) numbered.epochs_are) ∙ is)
  where
    by_parts : (earlier : List EpochAccount) → numbered.first ∷ numbered.later ≡ earlier ++ last ∷ [] → epoch_at epoch (numbered.first ∷ numbered.later) ≡ Some found →
        IsLastOrBefore epoch found last
    by_parts [] parts at = only_found epoch last found (sym (ap (epoch_at epoch) parts) ∙ at)
    by_parts (first ∷ others) parts at =
        let later : numbered.later ≡ others ++ last ∷ [] = cc in
        let from = subst (AreNumberedFrom one.following.epoch) later numbered.numbered in
        by_case (eqb numbered.first.epoch epoch) refl at later from
      where
        by_case : (b : Bool) → eqb numbered.first.epoch epoch ≡ b → cond b (Some numbered.first) (epoch_at epoch numbered.later) ≡ Some found →
            numbered.later ≡ others ++ last ∷ [] → AreNumberedFrom one.following.epoch (others ++ last ∷ []) → IsLastOrBefore epoch found last
        by_case true test e later from =
            let number = eqb-true numbered.first.epoch epoch test in
            let first_is = numbered.first_epoch in
            let more = to_last one.following.epoch others last from in
            inl (omega (arith, number, first_is, more))
        by_case false test e later from = found_from one.following.epoch epoch others last found from (sym (ap (epoch_at epoch) later) ∙ e)

at_last : (last : EpochAccount) → epoch_at last.epoch (last ∷ []) ≡ Some last
at_last last = ap (λ (b : Bool). cond b (Some last) None) (eq-eqb last.epoch last.epoch refl)

at_last_from : (before : ℕ) (earlier : List EpochAccount) (last : EpochAccount) → AreNumberedFrom before (earlier ++ last ∷ []) → epoch_at last.epoch (earlier ++ last ∷ []) ≡ Some last
at_last_from before [] last are = at_last last
at_last_from before (one ∷ earlier) last are =
    ap (λ (b : Bool). cond b (Some one) (epoch_at last.epoch (earlier ++ last ∷ [])))
    (ne_eqb one.epoch last.epoch (λ same. let next = are.0 in let more = to_last (before + 1) earlier last are.2 in omega (arith, same, next, more)))
    ∙ at_last_from (before + 1) earlier last are.2

-- the last one is found by its number
pub last_is_found : (one : SlotAccount) (earlier : List EpochAccount) (last : EpochAccount) → AreNumbered one → one.epochs ≡ earlier ++ last ∷ [] → epoch_at last.epoch one.epochs ≡ Some last
last_is_found one earlier last numbered are = ap (epoch_at last.epoch) are ∙ by_parts earlier (sym numbered.epochs_are ∙ are)
  where
    by_parts : (earlier : List EpochAccount) → numbered.first ∷ numbered.later ≡ earlier ++ last ∷ [] → epoch_at last.epoch (earlier ++ last ∷ []) ≡ Some last
    by_parts [] parts = at_last last
    by_parts (first ∷ others) parts =
        let same : numbered.first ≡ first = cc in
        let later : numbered.later ≡ others ++ last ∷ [] = cc in
        let from = subst (AreNumberedFrom one.following.epoch) later numbered.numbered in
        let number : first.epoch ≡ one.following.epoch = ap (λ (e : EpochAccount). e.epoch) (sym same) ∙ numbered.first_epoch in
        let more = to_last one.following.epoch others last from in
        ap (λ (b : Bool). cond b (Some first) (epoch_at last.epoch (others ++ last ∷ []))) (ne_eqb first.epoch last.epoch (λ equal. omega (arith, equal, number, more)))
        ∙ at_last_from one.following.epoch others last from

-- ---- an offset that is not below the end closes all that was reported

ends_from : (place : ℕ) (told : List AccountedEvent) → Adjoin place (spans_of told) → place ≤ last_end place (spans_of told)
ends_from place [] adjoin = omega arith
ends_from place (one ∷ told) adjoin =
    let some = adjoin.1 in let later = ends_from one.event.span.end told adjoin.2 in omega (arith, some, later)

none_behind : (start : ℕ) (front rest : List AccountedEvent) → Adjoin start (spans_of (front ++ rest)) → last_end start (spans_of (front ++ rest)) ≤ last_end start (spans_of front) → rest ≡ []
none_behind start [] [] adjoin within = refl
none_behind start [] (one ∷ rest) adjoin within =
    let some = adjoin.1 in let later = ends_from one.event.span.end rest adjoin.2 in absurd (omega (arith, some, later, within))
none_behind start (one ∷ front) rest adjoin within = none_behind one.event.span.end front rest adjoin.2 within

pub closes_all : (wires : List WireTold) (epoch : EpochAccount) (offset : ℕ) → Adjoin epoch.start (spans_of epoch.told) → ClosesSettled wires epoch offset → next_place epoch ≤ offset →
    AllByRecursion (IsSettled wires) epoch.told
closes_all wires epoch offset adjoin closes within =
    let told = closes.told_is in
    let ends = closes.ends in
    let whole : next_place epoch ≡ last_end epoch.start (spans_of (closes.front ++ closes.rest)) = ap (λ (l : List AccountedEvent). last_end epoch.start (spans_of l)) told in
    let none = none_behind epoch.start closes.front closes.rest (subst (λ (l : List AccountedEvent). Adjoin epoch.start (spans_of l)) told adjoin) (omega (arith, ends, within, whole)) in
    subst (AllByRecursion (IsSettled wires)) (sym (told ∙ ap (λ (l : List AccountedEvent). closes.front ++ l) none ∙ append-nil closes.front)) closes.each

-- ---- the Forget

-- a note of the slot that is a Forget of what is settled
pub record IsForgotten (account : List SlotAccount) (wires : List WireTold) (notes : List Note) (slot : ℕ) : Type 0 where
  pub note : Note
  pub there : Contains notes note
  pub of_slot : slot_named note ≡ slot
  pub is_forget : ¬ (IsNoForget note)
  pub one : SlotAccount
  pub slot_is : slot_at slot account ≡ Some one
  pub earlier : List EpochAccount
  pub last : EpochAccount
  pub epochs_are : one.epochs ≡ earlier ++ last ∷ []
  pub settled : AllByRecursion (IsSettled wires) last.told

module _ (closes : ClosesBy) (account : List SlotAccount) (wires : List WireTold) (notes : List Note) (rows : AreInRows account) (all : AreBacked account wires notes) (slot : ℕ) where
  abbrev own : List Note
  own = notes_of slot notes

  abbrev named : ℕ
  named = greatest_epoch own

  in_one_row : (one : SlotAccount) → slot_at slot account ≡ Some one → IsInOneRow one
  in_one_row one is = All-contains IsInOneRow account one (All-from_recursion IsInOneRow account rows) (slot_in account slot one is).0

  same_slot : (first second : SlotAccount) → Some first ≡ Some second → first ≡ second
  same_slot first second same = cc

  module _ (start : Start) (begun : start_over own ≡ Some start) where
    by_forget : (epoch end : ℕ) (backs : BacksForget account slot epoch end) → (epoch < named) ⊎ ((epoch ≡ named) × (end ≤ offset_over start own)) →
        AllByRecursion (IsSettled wires) backs.last.told
    by_forget epoch end backs not_above =
        let stands = standing_of account wires notes slot start rows all begun in
        let same : stands.one ≡ backs.one = same_slot stands.one backs.one (sym stands.slot_is ∙ backs.slot_is) in
        let row = in_one_row backs.one backs.slot_is in
        let found : epoch_at named backs.one.epochs ≡ Some stands.epoch = subst (λ (one : SlotAccount). epoch_at named one.epochs ≡ Some stands.epoch) same stands.epoch_is in
        let number : backs.last.epoch ≡ epoch = epoch_found epoch backs.one.epochs backs.last backs.epoch_is in
        by_case stands.epoch number (last_is_greatest backs.one backs.earlier backs.last named stands.epoch row.numbered backs.epochs_are found) not_above stands.adjoin
        (closes_settled closes account wires notes slot named (base_in start named) stands.epoch all stands.found stands.adjoin stands.starts)
      where
        by_case : (found : EpochAccount) → backs.last.epoch ≡ epoch → IsLastOrBefore named found backs.last → (epoch < named) ⊎ ((epoch ≡ named) × (end ≤ offset_over start own)) →
            Adjoin found.start (spans_of found.told) → ClosesSettled wires found (offset_over start own) → AllByRecursion (IsSettled wires) backs.last.told
        by_case found number (inl below) (inl less) adjoin closed = absurd (omega (arith, number, below, less))
        by_case found number (inl below) (inr at) adjoin closed = absurd (let same = at.0 in omega (arith, number, below, same))
        by_case found number (inr last) (inl less) adjoin closed = absurd (let same = last.0 in omega (arith, number, same, less))
        by_case found number (inr last) (inr at) adjoin closed =
            let end_is = backs.end_is in
            let within = at.1 in
            closes_all wires backs.last (offset_over start own) (subst (λ (e : EpochAccount). Adjoin e.start (spans_of e.told)) last.1 adjoin)
            (subst (λ (e : EpochAccount). ClosesSettled wires e (offset_over start own)) last.1 closed) (omega (arith, within, end_is))

  -- a note of the slot by which a row goes that is there
  by_note : (start : Start) → start_over own ≡ Some start → (note : Note) → Contains notes note → slot_named note ≡ slot → forgets named (offset_over start own) note ≡ true → Backs account wires note →
      IsForgotten account wires notes slot
  by_note start begun (Begin s key path e base changed) there same is backs = absurd (let q : false ≡ true = is in cc)
  by_note start begun (Announce s e) there same is backs = absurd (let q : false ≡ true = is in cc)
  by_note start begun (Settle s e span cause) there same is backs = absurd (let q : false ≡ true = is in cc)
  by_note start begun (Rename s scan path) there same is backs = absurd (let q : false ≡ true = is in cc)
  by_note start begun (Seen s changed) there same is backs = absurd (let q : false ≡ true = is in cc)
  by_note start begun (Forget s e end) there same is backs =
      let of = subst (λ (n : ℕ). BacksForget account n e.0 end) same backs in
      record {
        note = Forget s e end;
        there = there;
        of_slot = same;
        is_forget = λ none. none;
        one = of.one;
        slot_is = of.slot_is;
        earlier = of.earlier;
        last = of.last;
        epochs_are = of.epochs_are;
        settled = by_forget start begun e.0 end of (not_above (or_cases (nat_lt e.0 named) (eqb e.0 named && nat_le end (offset_over start own)) is));
      }
    where
      not_above : (nat_lt e.0 named ≡ true) ⊎ ((eqb e.0 named && nat_le end (offset_over start own)) ≡ true) → (e.0 < named) ⊎ ((e.0 ≡ named) × (end ≤ offset_over start own))
      not_above (inl less) = inl (ltb-true e.0 named less)
      not_above (inr both) =
          let parts = and_parts (eqb e.0 named) (nat_le end (offset_over start own)) both in
          inr (eqb-true e.0 named parts.0, leb-true end (offset_over start own) parts.1)

  pub forgotten : (start : Start) → start_over own ≡ Some start → row_over slot notes ≡ None → IsForgotten account wires notes slot
  forgotten start begun none =
      let found = any_there (forgets named (offset_over start own)) own
      (by_gone (is_gone start own) refl (sym (ap (λ (o : Option Start). option_and_then (row_of own) o) begun) ∙ none)) in
      let of = note_of slot notes found.0 found.1 in
      by_note start begun found.0 of.0 of.1 found.2 (backed account wires notes found.0 all of.0)
    where
      by_gone : (b : Bool) → is_gone start own ≡ b → cond b None (Some (standing_row own start)) ≡ None → is_gone start own ≡ true
      by_gone true is e = is
      by_gone false is e = absurd (let q : Some (standing_row own start) ≡ None = e in cc)

-- ---- where a key has no row

greatest_there : (first : ℕ) (others : List ℕ) → Contains (first ∷ others) (fold max first others)
greatest_there first others = by_case (greatest_among first others)
  where
    by_case : (fold max first others ≡ first) ⊎ Contains others (fold max first others) → Contains (first ∷ others) (fold max first others)
    by_case (inl same) = subst (Contains (first ∷ others)) (sym same) (first_there first others)
    by_case (inr later) = later_there first (fold max first others) others later

-- none of the slots that a Begin gives to it has one
pub none_has_row : (opening : List Row) (notes : List Note) (key : List ℕ) → row_for opening notes key ≡ None → (slot : ℕ) → Contains (slots_for key notes) slot → row_over slot notes ≡ None
none_has_row opening notes key is slot there = by_slots (slots_for key notes) is there
  where
    by_greatest : (slots : List ℕ) → row_of_greatest notes slots ≡ None → ((given : ℕ) → Contains slots given → is_some (row_over given notes) ≡ true) → Contains slots slot → ⊥
    by_greatest [] none have among = none_there slot among
    by_greatest (first ∷ others) none have among =
        let some = have (fold max first others) (greatest_there first others) in
        absurd (let q : false ≡ true = sym (ap (λ (o : Option Row). is_some o) none) ∙ some in cc)

    by_slots : (slots : List ℕ) → row_among opening notes key slots ≡ None → Contains slots slot → row_over slot notes ≡ None
    by_slots [] none among = absurd (none_there slot among)
    by_slots (first ∷ others) none among = by_row (row_over slot notes) refl
      where
        by_row : (o : Option Row) → row_over slot notes ≡ o → row_over slot notes ≡ None
        by_row None has = has
        by_row (Some row) has =
            absurd (by_greatest (filter (λ (given : ℕ). is_some (row_over given notes)) (first ∷ others)) none (λ given passes. (there_passed (λ (given : ℕ). is_some (row_over given notes)) (first ∷ others) given passes).1)
            (passed_there (λ (given : ℕ). is_some (row_over given notes)) (first ∷ others) slot among (ap (λ (o : Option Row). is_some o) has)))
