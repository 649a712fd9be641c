-- Kept rows stay kept, and what was reported stays reported, as the account reports more and talks grow.
use Rattle.std.proofs.Common.{◌≡◌, inl, inr, ℕ, Bool, true, false, cond, eqb, List, [], ◌∷◌, ◌++◌, length, Option, Some, None, refl, sym, ap, ◌∙◌, subst, arith}
use Rattle.std.specs.List.{AllByRecursion, Contains}
use Rattle.std.specs.Option.{option_and_then}
use Rattle.wire_base.specs.Extent.{Extent}
use Rattle.wire_base.specs.declared.row.Row.{Row}
use Rattle.ship_core.specs.CoveredEnd.{last_end}
use Rattle.ship_core.proofs.Members.{first_there, later_there, none_there, there_cases}
use Rattle.told_events.specs.Fate.{DroppedBy, Fate, ShippedAs}
use Rattle.told_events.specs.Told.{ToldEvent}
use Rattle.wire_base.specs.declared.talk.Piece.{Piece}
use Rattle.kept_rows.specs.Account.{AccountedEvent, EpochAccount, Place, SlotAccount, epoch_at, epoch_of, slot_at, spans_of}
use Rattle.kept_rows.specs.Acknowledged.{WiresGoOn}
use Rattle.kept_rows.specs.Going.{AccountGoesOn, EpochGoesOn, EpochsGoOn, PlaceGoesOn, ToldGoesOn}
use Rattle.kept_rows.specs.Kept.{ClosesSettled, IsSettled, IsToldRow, SettlesAs}
use Rattle.kept_rows.specs.Sent.{IsShipped, SendsOnlyTold, Sending}
use Rattle.kept_rows.specs.Trace.{WireTold}
use Rattle.kept_rows.proofs.Acknowledging.{stays_acknowledged}

-- ---- slots and epochs

pub record GrownEpoch (On : EpochAccount → EpochAccount → Type 0) (before : EpochAccount) (epochs : List EpochAccount) (epoch : ℕ) : Type 0 where
  pub now : EpochAccount
  pub is : epoch_at epoch epochs ≡ Some now
  pub on : On before now

pub epoch_on : (On : EpochAccount → EpochAccount → Type 0) → ((a b : EpochAccount) → On a b → b.epoch ≡ a.epoch) → (before now : List EpochAccount) (epoch : ℕ) (one : EpochAccount) →
    EpochsGoOn On before now → epoch_at epoch before ≡ Some one → GrownEpoch On one now epoch
epoch_on On same_epoch [] now epoch one on is = absurd (let q : None ≡ Some one = is in cc)
epoch_on On same_epoch (first ∷ before) [] epoch one on is = absurd on
epoch_on On same_epoch (first ∷ before) (grown ∷ now) epoch one on is = go (eqb first.epoch epoch) refl is (λ e. epoch_on On same_epoch before now epoch one on.1 e)
  where
    same_test : eqb grown.epoch epoch ≡ eqb first.epoch epoch
    same_test = ap (λ (n : ℕ). eqb n epoch) (same_epoch first grown on.0)

    go : (b : Bool) → eqb first.epoch epoch ≡ b → cond b (Some first) (epoch_at epoch before) ≡ Some one →
        (epoch_at epoch before ≡ Some one → GrownEpoch On one now epoch) → GrownEpoch On one (grown ∷ now) epoch
    go true test e again =
        let q : Some first ≡ Some one = e in
        let same : first ≡ one = cc in
        record {
          now = grown;
          is = ap (λ (b : Bool). cond b (Some grown) (epoch_at epoch now)) (same_test ∙ test);
          on = subst (λ (x : EpochAccount). On x grown) same on.0;
        }
    go false test e again =
        let later = again e in
        record { now = later.now; is = ap (λ (b : Bool). cond b (Some grown) (epoch_at epoch now)) (same_test ∙ test) ∙ later.is; on = later.on }

keeps_epoch : (a b : EpochAccount) → EpochGoesOn a b → b.epoch ≡ a.epoch
keeps_epoch a b on = on.same_epoch

-- ---- reported events

settles_on : (wires now : List WireTold) (fate : Fate) (place later : Option Place) → WiresGoOn wires now → PlaceGoesOn place later → SettlesAs wires fate place → SettlesAs now fate later
settles_on wires now (DroppedBy rule) place later grow on settled = tt
settles_on wires now (ShippedAs payload) None later grow on settled = absurd settled
settles_on wires now (ShippedAs payload) (Some place) later grow on settled =
    subst (λ (p : Option Place). SettlesAs now (ShippedAs payload) p) (sym on) (stays_acknowledged wires now payload place grow settled)

settled_on : (wires now : List WireTold) (one same : AccountedEvent) → WiresGoOn wires now → same.event ≡ one.event → PlaceGoesOn one.place same.place → IsSettled wires one → IsSettled now same
settled_on wires now one same grow event place settled =
    subst (λ (e : ToldEvent). SettlesAs now e.fate same.place) (sym event) (settles_on wires now one.event.fate one.place same.place grow place settled)

record GrownFront (wires : List WireTold) (front now : List AccountedEvent) : Type 0 where
  grown : List AccountedEvent
  rest : List AccountedEvent
  now_is : now ≡ grown ++ rest
  each : AllByRecursion (IsSettled wires) grown
  same_spans : spans_of grown ≡ spans_of front

front_on : (wires later : List WireTold) (front rest now : List AccountedEvent) → WiresGoOn wires later → ToldGoesOn (front ++ rest) now → AllByRecursion (IsSettled wires) front → GrownFront later front now
front_on wires later [] rest now grow on settled = record { grown = []; rest = now; now_is = refl; each = tt; same_spans = refl }
front_on wires later (one ∷ front) rest [] grow on settled = absurd on
front_on wires later (one ∷ front) rest (same ∷ now) grow on settled =
    let others = front_on wires later front rest now grow on.2 settled.1 in
    record {
      grown = same ∷ others.grown;
      rest = others.rest;
      now_is = ap (λ (l : List AccountedEvent). same ∷ l) others.now_is;
      each = (settled_on wires later one same grow on.0 on.1 settled.0, others.each);
      same_spans = ap (λ (e : ToldEvent). e.span ∷ spans_of others.grown) on.0 ∙ ap (λ (l : List Extent). one.event.span ∷ l) others.same_spans;
    }

pub closes_on : (wires later : List WireTold) (before now : EpochAccount) (offset : ℕ) → WiresGoOn wires later → EpochGoesOn before now → ClosesSettled wires before offset → ClosesSettled later now offset
closes_on wires later before now offset grow on closes =
    let front = front_on wires later closes.front closes.rest now.told grow (subst (λ (l : List AccountedEvent). ToldGoesOn l now.told) closes.told_is on.told) closes.each in
    record {
      front = front.grown;
      rest = front.rest;
      told_is = front.now_is;
      each = front.each;
      ends = ap (last_end now.start) front.same_spans ∙ ap (λ (n : ℕ). last_end n (spans_of closes.front)) on.same_start ∙ closes.ends;
    }

-- if nothing more is reported, all of it
pub record AllGrown (wires : List WireTold) (before now : List AccountedEvent) : Type 0 where
  pub each : AllByRecursion (IsSettled wires) now
  pub same_spans : spans_of now ≡ spans_of before

pub all_on : (wires later : List WireTold) (before now : List AccountedEvent) → WiresGoOn wires later → ToldGoesOn before now → length now ≡ length before →
    AllByRecursion (IsSettled wires) before → AllGrown later before now
all_on wires later [] [] grow on same settled = record { each = tt; same_spans = refl }
all_on wires later [] (more ∷ now) grow on same settled = absurd (omega (arith, same))
all_on wires later (one ∷ before) [] grow on same settled = absurd on
all_on wires later (one ∷ before) (grown ∷ now) grow on same settled =
    let others = all_on wires later before now grow on.2 (omega (arith, same)) settled.1 in
    record {
      each = (settled_on wires later one grown grow on.0 on.1 settled.0, others.each);
      same_spans = λ k. (on.0 k).span ∷ others.same_spans k;
    }

pub stays_kept : (before now : List SlotAccount) (wires later : List WireTold) (row : Row) → AccountGoesOn before now → WiresGoOn wires later → IsToldRow before wires row → IsToldRow now later row
stays_kept before now wires later row on grow kept =
    let slot = on kept.slot kept.one kept.slot_is in
    let epoch = epoch_on EpochGoesOn keeps_epoch kept.one.epochs slot.now.epochs row.epoch.0 kept.epoch slot.on.epochs kept.epoch_is in
    record {
      slot = kept.slot;
      one = slot.now;
      slot_is = slot.is;
      key_is = slot.on.same_key ∙ kept.key_is;
      epoch = epoch.now;
      epoch_is = epoch.is;
      closes = closes_on wires later kept.epoch epoch.now row.offset grow epoch.on kept.closes;
    }

-- ---- only reported events are sent

record Parts (account : List SlotAccount) (slot epoch : ℕ) (found : EpochAccount) : Type 0 where
  one : SlotAccount
  slot_is : slot_at slot account ≡ Some one
  epoch_is : epoch_at epoch one.epochs ≡ Some found

parts_of : (account : List SlotAccount) (slot epoch : ℕ) (found : EpochAccount) → epoch_of account slot epoch ≡ Some found → Parts account slot epoch found
parts_of account slot epoch found is = go (slot_at slot account) refl is
  where
    go : (o : Option SlotAccount) → slot_at slot account ≡ o → option_and_then (λ (s : SlotAccount). epoch_at epoch s.epochs) o ≡ Some found → Parts account slot epoch found
    go None none e = absurd (let q : None ≡ Some found = e in cc)
    go (Some one) some e = record { one = one; slot_is = some; epoch_is = e }

record Grown (one : AccountedEvent) (now : List AccountedEvent) : Type 0 where
  same : AccountedEvent
  there : Contains now same
  event : same.event ≡ one.event

member_on : (before now : List AccountedEvent) (one : AccountedEvent) → ToldGoesOn before now → Contains before one → Grown one now
member_on [] now one on there = absurd (none_there one there)
member_on (first ∷ before) [] one on there = absurd on
member_on (first ∷ before) (grown ∷ now) one on there = elim (there_cases first one before there) [
  | inl same ↦ record { same = grown; there = first_there grown now; event = on.0 ∙ ap (λ (e : AccountedEvent). e.event) same }
  | inr later ↦
      let found = member_on before now one on.2 later in
      record { same = found.same; there = later_there grown found.same now found.there; event = found.event }
]

shipped_on : (before now : List SlotAccount) (sending : Sending) → AccountGoesOn before now → IsShipped before sending → IsShipped now sending
shipped_on before now sending on shipped =
    let parts = parts_of before sending.of.slot sending.of.epoch shipped.epoch shipped.epoch_is in
    let slot = on sending.of.slot parts.one parts.slot_is in
    let epoch = epoch_on EpochGoesOn keeps_epoch parts.one.epochs slot.now.epochs sending.of.epoch shipped.epoch slot.on.epochs parts.epoch_is in
    let one = member_on shipped.epoch.told epoch.now.told shipped.one epoch.on.told shipped.told in
    record {
      epoch = epoch.now;
      epoch_is = ap (λ (o : Option SlotAccount). option_and_then (λ (s : SlotAccount). epoch_at sending.of.epoch s.epochs) o) slot.is ∙ epoch.is;
      one = one.same;
      told = one.there;
      starts = ap (λ (e : ToldEvent). e.span.start) one.event ∙ shipped.starts;
      shipped = ap (λ (e : ToldEvent). e.fate) one.event ∙ shipped.shipped;
    }

pub each_on : {A : Type 0} (P Q : A → Type 0) → ((x : A) → P x → Q x) → (xs : List A) → AllByRecursion P xs → AllByRecursion Q xs
each_on P Q on [] all = tt
each_on P Q on (x ∷ xs) all = (on x all.0, each_on P Q on xs all.1)

pub stays_told : (before now : List SlotAccount) (talk : List Piece) → AccountGoesOn before now → SendsOnlyTold before talk → SendsOnlyTold now talk
stays_told before now talk on sends = record {
  windows = sends.windows;
  are = sends.are;
  shipped = each_on (λ (w : List Sending). AllByRecursion (IsShipped before) w) (λ (w : List Sending). AllByRecursion (IsShipped now) w)
      (λ w all. each_on (IsShipped before) (IsShipped now) (λ s is. shipped_on before now s on is) w all) sends.windows sends.shipped;
  different = sends.different;
  left = sends.left;
  front = sends.front;
}
