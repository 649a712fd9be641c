-- If no note is elsewhere than collected, as many events of the account are acknowledged as collected notes say so, and as many
-- are dropped.
use Rattle.std.proofs.Common.{◌≡◌, ◌⊎◌, inl, inr, ℕ, suc, ◌+◌, ◌-◌, ◌^◌, min, Bool, true, false, cond, List, [], ◌∷◌, ◌++◌, Contains, length, map, Option, Some, None, refl, sym, ap, subst, ◌∙◌, append-nil, arith}
use Rattle.std.specs.Prelude.{IsTrue, count_by, is_some}
use Rattle.std.specs.List.{AllByRecursion, flat_map}
use Rattle.std.proofs.lemmas.List.Sums.{sum_by-cons}
use Rattle.batch_worker.specs.Held.{notes_of}
use Rattle.harvester.specs.History.{Telling}
use Rattle.kept_rows.specs.Account.{AccountedEvent, Place, SlotAccount}
use Rattle.kept_rows.specs.Trace.{WireTold}
use Rattle.pass_sums.proofs.Weights.{weigh-append}
use Rattle.pass_sums.specs.Weight.{AsOften, weigh}
use Rattle.ship_core.proofs.Members.{first_there, later_there}
use Rattle.told_events.specs.Fate.{DroppedBy, Fate, ShippedAs}
use Rattle.told_events.specs.Told.{ToldEvent}
use Rattle.wire_base.specs.Extent.{Extent}
use Rattle.wire_base.specs.declared.note.Cause.{Cause}
use Rattle.wire_base.specs.declared.note.Cause.TheVariants.{Acked, Dropped}
use Rattle.wire_base.specs.declared.note.Note.{Note}
use Rattle.wire_base.specs.declared.note.Note.TheVariants.{Announce, Begin, Forget, Rename, Seen, Settle}
use Rattle.wire_base.specs.declared.numbers.Epoch.{Epoch}
use Rattle.wire_base.specs.declared.numbers.Slot.{Slot}
use Rattle.wire_base.specs.declared.parcel.Parcel.{Parcel}
use Rattle.slot_parts.specs.Account.{epoch_account, events_from}
use Rattle.slot_parts.specs.Parts.{EpochParts, Part, epochs_of, told_in}
use Rattle.slot_parts.specs.Tellings.{tellings_in}
use Rattle.accounts.specs.Accounted.{place_by, place_in}
use Rattle.accounts.specs.Filed.{Filed, IsFiled, TellEpochs, account_of, accounts_of, begun_in, parts_told, turned_in, turned_of}
use Rattle.accounts.specs.Numbers.{AreAllCounted, AreNumbersOf, IsAcknowledgedOrDropped, acknowledged_count, all_events, dropped_count, is_acknowledged, is_by_rule, is_dropped, told_in_epoch, told_in_slot}
use Rattle.accounts.specs.Once.{AreOnce, one_where}
use Rattle.accounts.specs.Places.{ArePlaces}
use Rattle.accounts.specs.Same.{same_parcel}
use Rattle.accounts.specs.Taken.{FitBooks, Taken, acknowledged_in, settles}
use Rattle.accounts.specs.Turned.{Turned, announced_in, notes_in, notes_told, parcels_by, parcels_in, parcels_of, parcels_told, settlements_by, settlements_in, settlements_of}
use Rattle.accounts.proofs.Acknowledged.{elsewhere_in, often_told}
use Rattle.accounts.proofs.Lists.{flat_map_both}
use Rattle.accounts.proofs.Often.{once_often, often_both, often_same, often_then, there_counts}
use Rattle.accounts.proofs.Same.{tells_parcels}
use Rattle.accounts.proofs.Settling.{acknowledged_weigh}

-- ---- weights

abbrev one_for : {A : Type 0} → A → ℕ
one_for item = 1

abbrev none_for : {A : Type 0} → A → ℕ
none_for item = 0

-- the note says that a peer acknowledged an event
abbrev pub acknowledges_by : Cause → ℕ
acknowledges_by Acked = 1
acknowledges_by (Dropped rule) = 0

abbrev pub acknowledges : Note → ℕ
acknowledges (Begin slot key path epoch base changed) = 0
acknowledges (Announce slot epoch) = 0
acknowledges (Settle slot epoch span cause) = acknowledges_by cause
acknowledges (Rename slot scan path) = 0
acknowledges (Seen slot changed) = 0
acknowledges (Forget slot epoch end) = 0

-- the note says that a rule dropped an event
abbrev pub drops_by : Cause → ℕ
drops_by Acked = 0
drops_by (Dropped rule) = 1

abbrev pub drops : Note → ℕ
drops (Begin slot key path epoch base changed) = 0
drops (Announce slot epoch) = 0
drops (Settle slot epoch span cause) = drops_by cause
drops (Rename slot scan path) = 0
drops (Seen slot changed) = 0
drops (Forget slot epoch end) = 0

weightless_all : {A : Type 0} (xs : List A) → weigh none_for xs ≡ 0
weightless_all [] = refl
weightless_all (x ∷ xs) = omega (arith, weightless_all xs)

weigh_same : {A : Type 0} (h g : A → ℕ) (xs : List A) → ((x : A) → Contains xs x → h x ≡ g x) → weigh h xs ≡ weigh g xs
weigh_same h g [] same = refl
weigh_same h g (x ∷ xs) same =
    omega (arith, same x (first_there x xs), weigh_same h g xs (λ y there. same y (later_there x y xs there)))

weigh_length : {A : Type 0} (xs : List A) → weigh one_for xs ≡ length xs
weigh_length [] = refl
weigh_length (x ∷ xs) = omega (arith, weigh_length xs)

one_is : (b : Bool) → cond b 1 0 ≡ one_where b
one_is true = refl
one_is false = refl

-- items that pass a test, counted or weighed
pub count_weighs : {A : Type 0} (p : A → Bool) (h : A → ℕ) → ((x : A) → one_where (p x) ≡ h x) → (xs : List A) → count_by p xs ≡ weigh h xs
count_weighs p h same [] = refl
count_weighs {A} p h same (x ∷ xs) =
    let later = count_weighs p h same xs in
    let own = same x in
    let first : count_by p (x ∷ xs) ≡ one_where (p x) + count_by p xs = sum_by-cons (λ (y : A). cond (p y) 1 0) x xs ∙ ap (λ (n : ℕ). n + count_by p xs) (one_is (p x)) in
    omega (arith, later, own, first)

-- ---- the events of an account weigh what its files gave

module _ (placed : Parcel → Option Place) (h : AccountedEvent → ℕ) (g : Parcel → ℕ) (k : Note → ℕ)
    (each : (slot : Slot) (epoch reading : ℕ) (one : ToldEvent) → h (record { event = one; reading = reading; place = place_in placed slot epoch one }) ≡ weigh g (parcels_by slot epoch one.span one.fate) + weigh k (settlements_by slot epoch one.span one.fate))
    (announced : (slot : Slot) (epoch : Epoch) → k (Announce slot epoch) ≡ 0) where
  events_weigh : (slot : Slot) (epoch reading : ℕ) (told : List ToldEvent) →
      weigh h (map (λ (event : ToldEvent). record { event = event; reading = reading; place = place_in placed slot epoch event }) told)
      ≡ weigh g (parcels_of slot epoch told) + weigh k (settlements_of slot epoch told)
  events_weigh slot epoch reading [] = refl
  events_weigh slot epoch reading (one ∷ told) =
      let first = each slot epoch reading one in
      let later = events_weigh slot epoch reading told in
      let parcels = weigh-append g (parcels_by slot epoch one.span one.fate) (parcels_of slot epoch told) in
      let notes = weigh-append k (settlements_by slot epoch one.span one.fate) (settlements_of slot epoch told) in
      omega (arith, first, later, parcels, notes)

  parts_weigh : (slot : Slot) (epoch reading : ℕ) (parts : List Part) →
      weigh h (events_from (place_in placed slot epoch) reading parts) ≡ weigh g (parcels_of slot epoch (told_in parts)) + weigh k (settlements_of slot epoch (told_in parts))
  parts_weigh slot epoch reading [] = refl
  parts_weigh slot epoch reading (part ∷ parts) =
      let own = events_weigh slot epoch reading part.told in
      let later = parts_weigh slot epoch (suc reading) parts in
      let all = weigh-append h (map (λ (event : ToldEvent). record { event = event; reading = reading; place = place_in placed slot epoch event }) part.told)
      (events_from (place_in placed slot epoch) (suc reading) parts) in
      let parcels : weigh g (parcels_of slot epoch (part.told ++ told_in parts)) ≡ weigh g (parcels_of slot epoch part.told) + weigh g (parcels_of slot epoch (told_in parts)) =
      ap (weigh g) (flat_map_both (λ (one : ToldEvent). parcels_by slot epoch one.span one.fate) part.told (told_in parts))
      ∙ weigh-append g (parcels_of slot epoch part.told) (parcels_of slot epoch (told_in parts)) in
      let notes : weigh k (settlements_of slot epoch (part.told ++ told_in parts)) ≡ weigh k (settlements_of slot epoch part.told) + weigh k (settlements_of slot epoch (told_in parts)) =
      ap (weigh k) (flat_map_both (λ (one : ToldEvent). settlements_by slot epoch one.span one.fate) part.told (told_in parts))
      ∙ weigh-append k (settlements_of slot epoch part.told) (settlements_of slot epoch (told_in parts)) in
      omega (arith, own, later, all, parcels, notes)

  epoch_weighs : (slot : Slot) (one : EpochParts) (epoch : ℕ) (told : List ToldEvent) → one.epoch ≡ epoch → told_in one.parts ≡ told →
      weigh h (events_from (place_in placed slot one.epoch) 0 one.parts) ≡ weigh g (parcels_of slot epoch told) + weigh k (settlements_of slot epoch told)
  epoch_weighs slot one epoch told number is =
      parts_weigh slot one.epoch 0 one.parts ∙ (λ i. weigh g (parcels_of slot (number i) (is i)) + weigh k (settlements_of slot (number i) (is i)))

  epochs_weigh : (slot : Slot) (epochs : List EpochParts) (tellings : List Telling) → TellEpochs epochs tellings →
      weigh h (flat_map told_in_epoch (map (epoch_account (place_in placed slot)) epochs))
      ≡ weigh g (flat_map (parcels_in slot) tellings) + weigh k (flat_map (announced_in slot) tellings)
  epochs_weigh slot [] [] tell = refl
  epochs_weigh slot [] (telling ∷ tellings) tell = absurd tell
  epochs_weigh slot (one ∷ epochs) [] tell =
      let own = epoch_weighs slot one one.epoch [] refl tell.0 in
      let later = epochs_weigh slot epochs [] tell.1 in
      let all = weigh-append h (events_from (place_in placed slot one.epoch) 0 one.parts) (flat_map told_in_epoch (map (epoch_account (place_in placed slot)) epochs)) in
      omega (arith, own, later, all)
  epochs_weigh slot (one ∷ epochs) (telling ∷ tellings) tell =
      let own = epoch_weighs slot one telling.epoch telling.told tell.0.epoch tell.0.told in
      let later = epochs_weigh slot epochs tellings tell.1 in
      let none = announced slot (record { 0 = telling.epoch }) in
      let events = weigh-append h (events_from (place_in placed slot one.epoch) 0 one.parts) (flat_map told_in_epoch (map (epoch_account (place_in placed slot)) epochs)) in
      let parcels = weigh-append g (parcels_in slot telling) (flat_map (parcels_in slot) tellings) in
      let notes = weigh-append k (announced_in slot telling) (flat_map (announced_in slot) tellings) in
      omega (arith, own, later, none, events, parcels, notes)

  -- the first epoch is not announced
  first_weighs : (slot : Slot) (tellings : List Telling) → weigh k (notes_in slot tellings) ≡ weigh k (flat_map (announced_in slot) tellings)
  first_weighs slot [] = refl
  first_weighs slot (first ∷ later) =
      let none = announced slot (record { 0 = first.epoch }) in
      let own = weigh-append k (settlements_in slot first) (flat_map (announced_in slot) later) in
      let all = weigh-append k (announced_in slot first) (flat_map (announced_in slot) later) in
      omega (arith, none, own, all)

  file_weighs : (file : Filed) → IsFiled file → weigh h (told_in_slot (account_of placed file)) ≡ weigh g (parcels_told (turned_in file)) + weigh k (notes_told (turned_in file))
  file_weighs file filed =
      let slot = file.opened.begin.slot in
      let tellings = tellings_in (turned_in file).history in
      let all = epochs_weigh slot (epochs_of (begun_in file).epoch (begun_in file).base (parts_told file)) tellings filed.tell in
      let first = first_weighs slot tellings in
      let parcels : weigh g (parcels_told (turned_in file)) ≡ weigh g (flat_map (parcels_in slot) tellings) = ap (λ (s : Slot). weigh g (flat_map (parcels_in s) tellings)) filed.slot in
      let notes : weigh k (notes_told (turned_in file)) ≡ weigh k (notes_in slot tellings) = ap (λ (s : Slot). weigh k (notes_in s tellings)) filed.slot in
      omega (arith, all, first, parcels, notes)

  account_weighs : (files : List Filed) → AllByRecursion IsFiled files →
      weigh h (all_events (accounts_of placed files)) ≡ weigh g (flat_map parcels_told (turned_of files)) + weigh k (flat_map notes_told (turned_of files))
  account_weighs [] filed = refl
  account_weighs (file ∷ files) filed =
      let own = file_weighs file filed.0 in
      let others = account_weighs files filed.1 in
      let events = weigh-append h (told_in_slot (account_of placed file)) (all_events (accounts_of placed files)) in
      let parcels = weigh-append g (parcels_told (turned_in file)) (flat_map parcels_told (turned_of files)) in
      let notes = weigh-append k (notes_told (turned_in file)) (flat_map notes_told (turned_of files)) in
      omega (arith, own, others, events, parcels, notes)

-- ---- what was acknowledged, among all that was reported

acknowledgements_weigh : (parcels : List Parcel) → weigh acknowledges (notes_of parcels) ≡ weigh one_for parcels
acknowledgements_weigh [] = refl
acknowledgements_weigh (parcel ∷ parcels) = omega (arith, acknowledgements_weigh parcels)

no_drops : (parcels : List Parcel) → weigh drops (notes_of parcels) ≡ 0
no_drops [] = refl
no_drops (parcel ∷ parcels) = omega (arith, no_drops parcels)

-- what files reported is acknowledged or elsewhere, and each note of it is collected
pub record AreAllNoted (files : List Turned) (workers : List Taken) (collected : List Note) : Type 0 where
  pub elsewhere : List Parcel
  pub parcels_are : AsOften (flat_map parcels_told files) (elsewhere ++ acknowledged_in workers)
  pub notes_are : AsOften (flat_map notes_told files ++ notes_of (acknowledged_in workers)) collected

-- where no note is elsewhere
pub all_noted : (files : List Turned) (workers : List Taken) (collected : List Note) (fits : FitBooks files workers collected) → fits.notes ≡ [] → AreAllNoted files workers collected
all_noted files workers collected fits every = record {
  elsewhere = elsewhere_in files workers collected fits;
  parcels_are = often_told files workers collected fits;
  notes_are = λ h.
      let noted = fits.noted_are h in
      let sums = fits.notes_are h in
      let told = weigh-append h fits.noted (notes_of (acknowledged_in workers)) in
      let all = weigh-append h (flat_map notes_told files) (notes_of (acknowledged_in workers)) in
      let both = weigh-append h collected fits.notes in
      let none : weigh h fits.notes ≡ 0 = ap (weigh h) every in
      omega (arith, noted, sums, told, all, both, none);
}

-- the same holds of the same files in another order
pub noted_over : (files others : List Turned) (workers : List Taken) (collected : List Note) → AsOften (flat_map parcels_told others) (flat_map parcels_told files) →
    AsOften (flat_map notes_told others) (flat_map notes_told files) → AreAllNoted files workers collected → AreAllNoted others workers collected
noted_over files others workers collected parcels notes noted = record {
  elsewhere = noted.elsewhere;
  parcels_are = often_then _ _ _ parcels noted.parcels_are;
  notes_are = often_then _ _ _ (often_both _ _ _ _ notes (often_same _ _ refl)) noted.notes_are;
}

module _ (placed : Parcel → Option Place) (workers : List Taken) (wires : List WireTold) (places : ArePlaces placed workers wires) where
  abbrev is_placed : Parcel → ℕ
  is_placed parcel = one_where (is_some (placed parcel))

  each_is_placed : (parcel : Parcel) → Contains (acknowledged_in workers) parcel → is_placed parcel ≡ one_for parcel
  each_is_placed parcel there = ap (λ (o : Option Place). one_where (is_some o)) (places.well parcel there).is

  none_is_placed : (parcel : Parcel) → (Contains (acknowledged_in workers) parcel → ⊥) → is_placed parcel ≡ none_for parcel
  none_is_placed parcel not = by_case (placed parcel) refl
    where
      by_case : (o : Option Place) → placed parcel ≡ o → one_where (is_some o) ≡ 0
      by_case None is = refl
      by_case (Some place) is = absurd (not (places.no_other parcel place is))

  -- no parcel is reported twice, so those that are placed are those that were acknowledged
  module _ (told elsewhere : List Parcel) (often : AsOften told (elsewhere ++ acknowledged_in workers)) (once : AreOnce same_parcel told) where
    apart : (parcel : Parcel) → Contains elsewhere parcel → Contains (acknowledged_in workers) parcel → ⊥
    apart parcel there here =
        let all = once_often same_parcel tells_parcels told (elsewhere ++ acknowledged_in workers) often once parcel in
        let both = weigh-append (λ (other : Parcel). one_where (same_parcel other parcel)) elsewhere (acknowledged_in workers) in
        let one = there_counts same_parcel tells_parcels elsewhere parcel there in
        let two = there_counts same_parcel tells_parcels (acknowledged_in workers) parcel here in
        omega (arith, all, both, one, two)

    placed_weigh : weigh is_placed told ≡ weigh one_for (acknowledged_in workers)
    placed_weigh =
        let all = often is_placed in
        let both = weigh-append is_placed elsewhere (acknowledged_in workers) in
        let here = weigh_same is_placed one_for (acknowledged_in workers) each_is_placed in
        let there = weigh_same is_placed none_for elsewhere (λ parcel among. none_is_placed parcel (apart parcel among)) in
        let none = weightless_all elsewhere in
        omega (arith, all, both, here, there, none)

-- ---- the numbers of the account

-- of what is counted by neither test
abbrev uncounted : Bool → Bool → ℕ
uncounted true other = 0
uncounted false true = 0
uncounted false false = 1

counted_by_one : (one other : Bool) → uncounted one other ≡ 0 → IsTrue one ⊎ IsTrue other
counted_by_one true other none = inl refl
counted_by_one false true none = inr refl
counted_by_one false false none = absurd (omega (arith, none))

abbrev left_over : AccountedEvent → ℕ
left_over one = uncounted (is_acknowledged one) (is_dropped one)

each_is_counted : (events : List AccountedEvent) → weigh left_over events ≡ 0 → AllByRecursion IsAcknowledgedOrDropped events
each_is_counted [] none = tt
each_is_counted (one ∷ events) none =
    (counted_by_one (is_acknowledged one) (is_dropped one) (omega (arith, none)), each_is_counted events (omega (arith, none)))

by_cause : (cause : Cause) → 1 ≡ acknowledges_by cause + drops_by cause
by_cause Acked = refl
by_cause (Dropped rule) = refl

settled_by_one : (note : Note) → settles note ≡ acknowledges note + drops note
settled_by_one (Begin slot key path epoch base changed) = refl
settled_by_one (Announce slot epoch) = refl
settled_by_one (Settle slot epoch span cause) = by_cause cause
settled_by_one (Rename slot scan path) = refl
settled_by_one (Seen slot changed) = refl
settled_by_one (Forget slot epoch end) = refl

settled_by_both : (notes : List Note) → weigh settles notes ≡ weigh acknowledges notes + weigh drops notes
settled_by_both [] = refl
settled_by_both (note ∷ notes) = omega (arith, settled_by_one note, settled_by_both notes)

module _ (placed : Parcel → Option Place) (slot : Slot) (epoch : ℕ) (span : Extent) where
  acknowledged_by : (fate : Fate) → one_where (is_some (place_by placed slot epoch span fate))
      ≡ weigh (λ (parcel : Parcel). one_where (is_some (placed parcel))) (parcels_by slot epoch span fate) + weigh acknowledges (settlements_by slot epoch span fate)
  acknowledged_by (DroppedBy rule) = refl
  acknowledged_by (ShippedAs payload) = omega arith

  dropped_by : (fate : Fate) → one_where (is_by_rule fate) ≡ weigh none_for (parcels_by slot epoch span fate) + weigh drops (settlements_by slot epoch span fate)
  dropped_by (DroppedBy rule) = refl
  dropped_by (ShippedAs payload) = refl

  told_by : (fate : Fate) → 1 ≡ weigh one_for (parcels_by slot epoch span fate) + weigh settles (settlements_by slot epoch span fate)
  told_by (DroppedBy rule) = refl
  told_by (ShippedAs payload) = refl

  left_by : (fate : Fate) → uncounted (is_some (place_by placed slot epoch span fate)) (is_by_rule fate)
      ≡ weigh (λ (parcel : Parcel). uncounted (is_some (placed parcel)) false) (parcels_by slot epoch span fate) + weigh none_for (settlements_by slot epoch span fate)
  left_by (DroppedBy rule) = refl
  left_by (ShippedAs payload) = omega arith

module _ (placed : Parcel → Option Place) (workers : List Taken) (wires : List WireTold) (places : ArePlaces placed workers wires) (files : List Filed) (filed : AllByRecursion IsFiled files)
    (once : AreOnce same_parcel (flat_map parcels_told (turned_of files))) (collected : List Note) (noted : AreAllNoted (turned_of files) workers collected) where
  abbrev account : List SlotAccount
  account = accounts_of placed files

  abbrev told : List Parcel
  told = flat_map parcels_told (turned_of files)

  abbrev notes : List Note
  notes = flat_map notes_told (turned_of files)

  collected_weigh : (k : Note → ℕ) → weigh k collected ≡ weigh k notes + weigh k (notes_of (acknowledged_in workers))
  collected_weigh k = sym (noted.notes_are k) ∙ weigh-append k notes (notes_of (acknowledged_in workers))

  pub acknowledged_are : acknowledged_count account ≡ weigh acknowledges collected
  acknowledged_are =
      let h = λ (one : AccountedEvent). one_where (is_acknowledged one) in
      let g = λ (parcel : Parcel). one_where (is_some (placed parcel)) in
      let counted = count_weighs is_acknowledged h (λ one. refl) (all_events account) in
      let all = account_weighs placed h g acknowledges (λ slot epoch reading one. acknowledged_by placed slot epoch one.span one.fate) (λ slot epoch. refl) files filed in
      let here = placed_weigh placed workers wires places told noted.elsewhere noted.parcels_are once in
      let sums = collected_weigh acknowledges in
      let own = acknowledgements_weigh (acknowledged_in workers) in
      omega (arith, counted, all, here, sums, own)

  pub dropped_are : dropped_count account ≡ weigh drops collected
  dropped_are =
      let h = λ (one : AccountedEvent). one_where (is_dropped one) in
      let counted = count_weighs is_dropped h (λ one. refl) (all_events account) in
      let all = account_weighs placed h none_for drops (λ slot epoch reading one. dropped_by placed slot epoch one.span one.fate) (λ slot epoch. refl) files filed in
      let none = weightless_all told in
      let sums = collected_weigh drops in
      let own = no_drops (acknowledged_in workers) in
      omega (arith, counted, all, none, sums, own)

  -- where all that was reported is acknowledged
  module _ (all : AsOften told (acknowledged_in workers)) where
    none_left : weigh left_over (all_events account) ≡ 0
    none_left =
        let g = λ (parcel : Parcel). uncounted (is_some (placed parcel)) false in
        let weighs = account_weighs placed left_over g none_for (λ slot epoch reading one. left_by placed slot epoch one.span one.fate) (λ slot epoch. refl) files filed in
        let notes_none = weightless_all notes in
        let parcels = all g in
        let each = weigh_same g none_for (acknowledged_in workers) (λ parcel there. ap (λ (o : Option Place). uncounted (is_some o) false) (places.well parcel there).is) in
        let none = weightless_all (acknowledged_in workers) in
        omega (arith, weighs, notes_none, parcels, each, none)

    together : acknowledged_count account + dropped_count account ≡ length (all_events account)
    together =
        let many = weigh_length (all_events account) in
        let weighs = account_weighs placed one_for one_for settles (λ slot epoch reading one. told_by placed slot epoch one.span one.fate) (λ slot epoch. refl) files filed in
        let parcels = all one_for in
        let sums = collected_weigh settles in
        let own = acknowledged_weigh (acknowledged_in workers) in
        let both = settled_by_both collected in
        omega (arith, many, weighs, parcels, sums, own, both, acknowledged_are, dropped_are)

    pub all_counted : AreAllCounted account
    all_counted = record { each = each_is_counted (all_events account) none_left; together = together }

-- ---- with slots of which nothing was reported

events_with : (account others : List SlotAccount) → all_events others ≡ [] → all_events (account ++ others) ≡ all_events account
events_with account others none =
    flat_map_both told_in_slot account others ∙ ap (λ (l : List AccountedEvent). all_events account ++ l) none ∙ append-nil (all_events account)

pub numbers_with : (account all : List SlotAccount) (shipped dropped : ℕ) → all_events all ≡ all_events account → AreNumbersOf account shipped dropped → AreNumbersOf all shipped dropped
numbers_with account all shipped dropped same are = record {
  shipped_are = subst (λ (l : List AccountedEvent). shipped ≡ min (count_by is_acknowledged l) (2 ^ 64 - 1)) (sym same) are.shipped_are;
  dropped_are = subst (λ (l : List AccountedEvent). dropped ≡ min (count_by is_dropped l) (2 ^ 64 - 1)) (sym same) are.dropped_are;
}

pub counted_with : (account all : List SlotAccount) → all_events all ≡ all_events account → AreAllCounted account → AreAllCounted all
counted_with account all same are = record {
  each = subst (AllByRecursion IsAcknowledgedOrDropped) (sym same) are.each;
  together = subst (λ (l : List AccountedEvent). count_by is_acknowledged l + count_by is_dropped l ≡ length l) (sym same) are.together;
}
