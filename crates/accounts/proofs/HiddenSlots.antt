-- What holds of each slot of an account, and of its notes, holds with the slots of hidden rows among them, if it holds of those.
use Rattle.std.proofs.Common.{◌≡◌, ◌≢◌, ◌⊎◌, inl, inr, ℕ, ◌+◌, ◌≤◌, Bool, true, false, cond, eqb, nat_lt, List, [], ◌∷◌, Option, Some, None, IsSome, if◌then◌else◌, refl, sym, ap, subst, ◌∙◌, arith}
use Rattle.std.specs.List.{AllByRecursion, Contains}
use Rattle.std.specs.Option.{option_and_then}
use Rattle.std.proofs.lemmas.Bool.{eq-eqb, ne_eqb}
use Rattle.kept_rows.proofs.Backing.{slot_in as found_in}
use Rattle.kept_rows.specs.Account.{EpochAccount, Place, SlotAccount, epoch_at, epoch_of, slot_at, slot_of}
use Rattle.kept_rows.specs.Backed.{Backs}
use Rattle.kept_rows.specs.Trace.{WireTold}
use Rattle.ship_core.proofs.Members.{first_there, later_there, none_there, there_cases}
use Rattle.wire_base.specs.declared.note.Note.{Note}
use Rattle.wire_base.specs.declared.note.Note.TheVariants.{Begin, Announce, Settle, Rename, Seen, Forget}
use Rattle.wire_base.specs.declared.parcel.Parcel.{Parcel}
use Rattle.accounts.specs.Filed.{Filed, accounts_of}
use Rattle.accounts.specs.Hidden.{AreBeside, AreHiddenFrom, Hidden, hidden_account, hidden_slot, put_slot, with_hidden}

-- ---- one slot more

module _ (one : SlotAccount) where
  each_put : (P : SlotAccount → Type 0) (account : List SlotAccount) → P one → AllByRecursion P account → AllByRecursion P (put_slot one account)
  each_put P [] here each = (here, tt)
  each_put P (first ∷ account) here each = by_case (nat_lt (slot_of one) (slot_of first)) (each_put P account here each.1)
    where
      by_case : (b : Bool) → AllByRecursion P (put_slot one account) → AllByRecursion P (if b then one ∷ first ∷ account else first ∷ put_slot one account)
      by_case true later = (here, each)
      by_case false later = (each.0, later)

  put_there : (account : List SlotAccount) → Contains (put_slot one account) one
  put_there [] = first_there one []
  put_there (first ∷ account) = by_case (nat_lt (slot_of one) (slot_of first)) (put_there account)
    where
      by_case : (b : Bool) → Contains (put_slot one account) one → Contains (if b then one ∷ first ∷ account else first ∷ put_slot one account) one
      by_case true later = first_there one (first ∷ account)
      by_case false later = later_there first one (put_slot one account) later

  still_there : (account : List SlotAccount) (other : SlotAccount) → Contains account other → Contains (put_slot one account) other
  still_there [] other there = absurd (none_there other there)
  still_there (first ∷ account) other there = by_case (nat_lt (slot_of one) (slot_of first)) (there_cases first other account there) (still_there account other)
    where
      by_case : (b : Bool) → (first ≡ other) ⊎ Contains account other → (Contains account other → Contains (put_slot one account) other) →
          Contains (if b then one ∷ first ∷ account else first ∷ put_slot one account) other
      by_case true place later = later_there one other (first ∷ account) there
      by_case false (inl same) later = subst (λ (s : SlotAccount). Contains (first ∷ put_slot one account) s) same (first_there first (put_slot one account))
      by_case false (inr behind) later = later_there first other (put_slot one account) (later behind)

  -- other slots are found as before
  found_beside : (account : List SlotAccount) (slot : ℕ) → slot_of one ≢ slot → slot_at slot (put_slot one account) ≡ slot_at slot account
  found_beside [] slot differs = ap (λ (b : Bool). cond b (Some one) None) (ne_eqb (slot_of one) slot differs)
  found_beside (first ∷ account) slot differs = by_case (nat_lt (slot_of one) (slot_of first)) (found_beside account slot differs)
    where
      by_case : (b : Bool) → slot_at slot (put_slot one account) ≡ slot_at slot account → slot_at slot (if b then one ∷ first ∷ account else first ∷ put_slot one account) ≡ slot_at slot (first ∷ account)
      by_case true later = ap (λ (b : Bool). cond b (Some one) (slot_at slot (first ∷ account))) (ne_eqb (slot_of one) slot differs)
      by_case false later = ap (λ (o : Option SlotAccount). cond (eqb (slot_of first) slot) (Some first) o) later

  found_put : (account : List SlotAccount) → AllByRecursion (λ (other : SlotAccount). slot_of other ≢ slot_of one) account → slot_at (slot_of one) (put_slot one account) ≡ Some one
  found_put [] apart = ap (λ (b : Bool). cond b (Some one) None) (eq-eqb (slot_of one) (slot_of one) refl)
  found_put (first ∷ account) apart = by_case (nat_lt (slot_of one) (slot_of first)) (found_put account apart.1)
    where
      by_case : (b : Bool) → slot_at (slot_of one) (put_slot one account) ≡ Some one → slot_at (slot_of one) (if b then one ∷ first ∷ account else first ∷ put_slot one account) ≡ Some one
      by_case true later = ap (λ (b : Bool). cond b (Some one) (slot_at (slot_of one) (first ∷ account))) (eq-eqb (slot_of one) (slot_of one) refl)
      by_case false later = ap (λ (b : Bool). cond b (Some first) (slot_at (slot_of one) (put_slot one account))) (ne_eqb (slot_of first) (slot_of one) apart.0) ∙ later

-- ---- each of them

pub has_with_hidden : (P : SlotAccount → Type 0) (account : List SlotAccount) (hiddens : List Hidden) → AllByRecursion P account →
    ((hidden : Hidden) → Contains hiddens hidden → P (hidden_account hidden)) → AllByRecursion P (with_hidden account hiddens)
has_with_hidden P account [] each of_hidden = each
has_with_hidden P account (hidden ∷ hiddens) each of_hidden =
    each_put (hidden_account hidden) P (with_hidden account hiddens) (of_hidden hidden (first_there hidden hiddens))
    (has_with_hidden P account hiddens each (λ other there. of_hidden other (later_there hidden other hiddens there)))

pub account_there : (account : List SlotAccount) (hiddens : List Hidden) (one : SlotAccount) → Contains account one → Contains (with_hidden account hiddens) one
account_there account [] one there = there
account_there account (hidden ∷ hiddens) one there = still_there (hidden_account hidden) (with_hidden account hiddens) one (account_there account hiddens one there)

pub hidden_there : (account : List SlotAccount) (hiddens : List Hidden) (hidden : Hidden) → Contains hiddens hidden → Contains (with_hidden account hiddens) (hidden_account hidden)
hidden_there account [] hidden there = absurd (none_there hidden there)
hidden_there account (first ∷ hiddens) hidden there = by_case (there_cases first hidden hiddens there) (hidden_there account hiddens hidden)
  where
    by_case : (first ≡ hidden) ⊎ Contains hiddens hidden → (Contains hiddens hidden → Contains (with_hidden account hiddens) (hidden_account hidden)) →
        Contains (put_slot (hidden_account first) (with_hidden account hiddens)) (hidden_account hidden)
    by_case (inl same) later =
        subst (λ (h : Hidden). Contains (put_slot (hidden_account first) (with_hidden account hiddens)) (hidden_account h)) same (put_there (hidden_account first) (with_hidden account hiddens))
    by_case (inr behind) later = still_there (hidden_account first) (with_hidden account hiddens) (hidden_account hidden) (later behind)

-- ---- found by their slots

-- no slot of the account is that of a hidden row
abbrev pub HasOtherSlot : List Hidden → SlotAccount → Type 0
HasOtherSlot hiddens one = (hidden : Hidden) → Contains hiddens hidden → slot_of one ≢ hidden_slot hidden

pub files_have_others : (placed : Parcel → Option Place) (files : List Filed) (hiddens : List Hidden) → AreBeside files hiddens → AllByRecursion (HasOtherSlot hiddens) (accounts_of placed files)
files_have_others placed files hiddens beside = each files (λ file there. there)
  where
    each : (some : List Filed) → ((file : Filed) → Contains some file → Contains files file) → AllByRecursion (HasOtherSlot hiddens) (accounts_of placed some)
    each [] among = tt
    each (file ∷ some) among = (
      λ hidden there. beside.other_slots file (among file (first_there file some)) hidden there,
      each some (λ other there. among other (later_there file other some there)),
    )

found_among : (account : List SlotAccount) (hiddens : List Hidden) (slot : ℕ) → ((hidden : Hidden) → Contains hiddens hidden → hidden_slot hidden ≢ slot) →
    slot_at slot (with_hidden account hiddens) ≡ slot_at slot account
found_among account [] slot differ = refl
found_among account (hidden ∷ hiddens) slot differ =
    found_beside (hidden_account hidden) (with_hidden account hiddens) slot (differ hidden (first_there hidden hiddens))
    ∙ found_among account hiddens slot (λ other there. differ other (later_there hidden other hiddens there))

-- a slot that was there is found as before
pub found_with_hidden : (account : List SlotAccount) (hiddens : List Hidden) → AllByRecursion (HasOtherSlot hiddens) account → (slot : ℕ) (one : SlotAccount) → slot_at slot account ≡ Some one →
    slot_at slot (with_hidden account hiddens) ≡ Some one
found_with_hidden account hiddens apart slot one is =
    let of = found_in account slot one is in
    found_among account hiddens slot (λ hidden there same. member account apart one of.0 hidden there (of.1 ∙ sym same)) ∙ is
  where
    member : (some : List SlotAccount) → AllByRecursion (HasOtherSlot hiddens) some → (one : SlotAccount) → Contains some one → HasOtherSlot hiddens one
    member [] all one there = absurd (none_there one there)
    member (first ∷ some) all one there = by_case (there_cases first one some there) (member some all.1 one)
      where
        by_case : (first ≡ one) ⊎ Contains some one → (Contains some one → HasOtherSlot hiddens one) → HasOtherSlot hiddens one
        by_case (inl same) later = subst (HasOtherSlot hiddens) same all.0
        by_case (inr behind) later = later behind

pub hidden_from : (least : ℕ) (hiddens : List Hidden) (hidden : Hidden) → AreHiddenFrom least hiddens → Contains hiddens hidden → least ≤ hidden_slot hidden
hidden_from least [] hidden rise there = absurd (none_there hidden there)
hidden_from least (first ∷ hiddens) hidden rise there = by_case (there_cases first hidden hiddens there) (hidden_from (hidden_slot first + 1) hiddens hidden rise.1)
  where
    by_case : (first ≡ hidden) ⊎ Contains hiddens hidden → (Contains hiddens hidden → hidden_slot first + 1 ≤ hidden_slot hidden) → least ≤ hidden_slot hidden
    by_case (inl same) later = subst (λ (h : Hidden). least ≤ hidden_slot h) same rise.0
    by_case (inr behind) later = let from = rise.0 in let more = later behind in omega (arith, from, more)

pub hidden_found : (account : List SlotAccount) (least : ℕ) (hiddens : List Hidden) (hidden : Hidden) → AllByRecursion (HasOtherSlot hiddens) account → AreHiddenFrom least hiddens →
    Contains hiddens hidden → slot_at (hidden_slot hidden) (with_hidden account hiddens) ≡ Some (hidden_account hidden)
hidden_found account least [] hidden apart rise there = absurd (none_there hidden there)
hidden_found account least (first ∷ hiddens) hidden apart rise there =
    by_case (there_cases first hidden hiddens there) (hidden_found account (hidden_slot first + 1) hiddens hidden (fewer account apart) rise.1)
  where
    fewer : (some : List SlotAccount) → AllByRecursion (HasOtherSlot (first ∷ hiddens)) some → AllByRecursion (HasOtherSlot hiddens) some
    fewer [] all = tt
    fewer (one ∷ some) all = ((λ other there. all.0 other (later_there first other hiddens there)), fewer some all.1)

    each_differs : (some : List SlotAccount) → AllByRecursion (HasOtherSlot (first ∷ hiddens)) some → AllByRecursion (λ (other : SlotAccount). slot_of other ≢ hidden_slot first) some
    each_differs [] all = tt
    each_differs (one ∷ some) all = ((λ same. all.0 first (first_there first hiddens) same), each_differs some all.1)

    by_case : (first ≡ hidden) ⊎ Contains hiddens hidden → (Contains hiddens hidden → slot_at (hidden_slot hidden) (with_hidden account hiddens) ≡ Some (hidden_account hidden)) →
        slot_at (hidden_slot hidden) (put_slot (hidden_account first) (with_hidden account hiddens)) ≡ Some (hidden_account hidden)
    by_case (inl same) later =
        subst (λ (h : Hidden). slot_at (hidden_slot h) (put_slot (hidden_account first) (with_hidden account hiddens)) ≡ Some (hidden_account h)) same
        (found_put (hidden_account first) (with_hidden account hiddens)
        (has_with_hidden (λ (other : SlotAccount). slot_of other ≢ hidden_slot first) account hiddens (each_differs account apart)
        (λ other behind equal. let from = hidden_from (hidden_slot first + 1) hiddens other rise.1 behind in omega (arith, from, equal))))
    by_case (inr behind) later =
        let from = hidden_from (hidden_slot first + 1) hiddens hidden rise.1 behind in
        found_beside (hidden_account first) (with_hidden account hiddens) (hidden_slot hidden) (λ equal. omega (arith, from, equal)) ∙ later behind

-- ---- notes that the account backs

module _ (account : List SlotAccount) (hiddens : List Hidden) (apart : AllByRecursion (HasOtherSlot hiddens) account) where
  epoch_in_front : (slot epoch : ℕ) (found : EpochAccount) → epoch_of account slot epoch ≡ Some found → epoch_of (with_hidden account hiddens) slot epoch ≡ Some found
  epoch_in_front slot epoch found is = by_case (slot_at slot account) refl is
    where
      by_case : (o : Option SlotAccount) → slot_at slot account ≡ o → option_and_then (λ (s : SlotAccount). epoch_at epoch s.epochs) o ≡ Some found →
          epoch_of (with_hidden account hiddens) slot epoch ≡ Some found
      by_case None none e = absurd (let q : None ≡ Some found = e in cc)
      by_case (Some one) some e = ap (λ (o : Option SlotAccount). option_and_then (λ (s : SlotAccount). epoch_at epoch s.epochs) o) (found_with_hidden account hiddens apart slot one some) ∙ e

  names_in_front : (slot epoch : ℕ) → IsSome (epoch_of account slot epoch) → IsSome (epoch_of (with_hidden account hiddens) slot epoch)
  names_in_front slot epoch some = by_case (epoch_of account slot epoch) refl some
    where
      by_case : (o : Option EpochAccount) → epoch_of account slot epoch ≡ o → IsSome o → IsSome (epoch_of (with_hidden account hiddens) slot epoch)
      by_case None is none = absurd cc
      by_case (Some found) is there = subst (λ (o : Option EpochAccount). IsSome o) (sym (epoch_in_front slot epoch found is)) refl

  pub backs_with_hidden : (wires : List WireTold) (note : Note) → Backs account wires note → Backs (with_hidden account hiddens) wires note
  backs_with_hidden wires (Begin slot key path epoch base changed) backs = (
    record {
      one = backs.0.one;
      slot_is = found_with_hidden account hiddens apart slot.0 backs.0.one backs.0.slot_is;
      key_is = backs.0.key_is;
      epoch_is = backs.0.epoch_is;
      base_is = backs.0.base_is;
    },
    record { one = backs.1.one; slot_is = found_with_hidden account hiddens apart slot.0 backs.1.one backs.1.slot_is; moment_within = backs.1.moment_within },
  )
  backs_with_hidden wires (Announce slot epoch) backs = names_in_front slot.0 epoch.0 backs
  backs_with_hidden wires (Settle slot epoch span cause) backs = record {
    told_in = backs.told_in;
    epoch_is = epoch_in_front slot.0 epoch.0 backs.told_in backs.epoch_is;
    one = backs.one;
    told = backs.told;
    span_is = backs.span_is;
    cause_is = backs.cause_is;
    settled = backs.settled;
  }
  backs_with_hidden wires (Rename slot scan path) backs = tt
  backs_with_hidden wires (Seen slot changed) backs =
      record { one = backs.one; slot_is = found_with_hidden account hiddens apart slot.0 backs.one backs.slot_is; moment_within = backs.moment_within }
  backs_with_hidden wires (Forget slot epoch end) backs = record {
    one = backs.one;
    slot_is = found_with_hidden account hiddens apart slot.0 backs.one backs.slot_is;
    earlier = backs.earlier;
    last = backs.last;
    epochs_are = backs.epochs_are;
    epoch_is = backs.epoch_is;
    end_is = backs.end_is;
  }
