-- Rows over backed notes are kept.
use Rattle.std.proofs.Common.{◌≡◌, ◌⊎◌, inl, inr, ℕ, zero, suc, ◌+◌, ◌<◌, ◌≤◌, Bool, true, false, cond, eqb, List, [], ◌∷◌, ◌++◌, get_or, max, Option, Some, None, refl, sym, ap, ◌∙◌, subst, arith, map}
use Rattle.std.specs.List.{All, AllByRecursion, Contains, filter_map, fold}
use Rattle.std.specs.Option.{IsSome, option_and_then}
use Rattle.std.proofs.lemmas.Bool.{eqb-true, eq-eqb}
use Rattle.std.proofs.lemmas.Bool.Decides.{eqb_tells}
use Rattle.std.proofs.lemmas.List.Elements.{All-contains, All-from_recursion, recursion_from_All, Contains-append_left, Contains-get_or}
use Rattle.wire_base.specs.Extent.{Extent}
use Rattle.wire_base.specs.declared.note.Cause.{Cause}
use Rattle.wire_base.specs.declared.note.Note.{Note}
use Rattle.wire_base.specs.declared.note.Note.TheVariants.{Begin, Announce, Settle, Rename, Seen, Forget}
use Rattle.wire_base.specs.declared.row.Row.{Row}
use Rattle.ship_core.specs.CoveredEnd.{Adjoin, ClosesPrefix, covered_end, last_end}
use Rattle.ship_core.specs.RowOver.{Start, base_in, epoch_of as epoch_named, first_start, greatest_epoch, is_gone, notes_of, row_of, row_over, slot_of as slot_named, span_in, spans_in, standing_row, start_of, start_over}
use Rattle.ship_core.proofs.Prefixes.{adjoining_behind}
use Rattle.ship_core.proofs.Members.{first_there, given_there, later_there, none_there, there_cases, there_given, there_passed}
use Rattle.kept_rows.specs.Account.{AccountedEvent, EpochAccount, SlotAccount, epoch_at, epoch_of, slot_at, slot_of, spans_of}
use Rattle.kept_rows.specs.Backed.{AreBacked, AreInRows, Backs, BacksBegin, BacksForget, BacksSettle, IsInOneRow}
use Rattle.kept_rows.specs.Epochs.{AreNumbered, AreNumberedFrom}
use Rattle.kept_rows.specs.Kept.{ClosesSettled, IsSettled, IsToldRow}
use Rattle.kept_rows.specs.Trace.{WireTold}

-- ---- what some notes say of a slot

-- a note of the slot is among the notes, and is of it
pub note_of : (slot : ℕ) (notes : List Note) (note : Note) → Contains (notes_of slot notes) note → Contains notes note × (slot_named note ≡ slot)
note_of slot notes note there =
    let passed = there_passed (λ (n : Note). eqb (slot_named n) slot) notes note there in
    (passed.0, eqb-true (slot_named note) slot passed.1)

pub backed : (account : List SlotAccount) (wires : List WireTold) (notes : List Note) (note : Note) → AreBacked account wires notes → Contains notes note → Backs account wires note
backed account wires notes note all there = All-contains (Backs account wires) notes note (All-from_recursion (Backs account wires) notes all) there

first_member : (starts : List Start) (start : Start) → first_start starts ≡ Some start → Contains starts start
first_member [] start e = absurd (let q : None ≡ Some start = e in cc)
first_member (first ∷ starts) start e = let q : Some first ≡ Some start = e in let same : first ≡ start = cc in subst (Contains (first ∷ starts)) same (first_there first starts)

-- the slot's start is that of a Begin among the notes
begun_so : (account : List SlotAccount) (wires : List WireTold) (slot : ℕ) (note : Note) (start : Start) → slot_named note ≡ slot → start_of note ≡ Some start → Backs account wires note →
    BacksBegin account slot start.key start.epoch start.base
begun_so account wires slot (Begin s key path epoch base changed) start is begins backs =
    let q : Some (record { key = key; path = path; epoch = epoch.0; base = base }) ≡ Some start = begins in
    let same : record { key = key; path = path; epoch = epoch.0; base = base } ≡ start = cc in
    subst (λ (one : Start). BacksBegin account slot one.key one.epoch one.base) same (subst (λ (n : ℕ). BacksBegin account n key epoch.0 base) is backs.0)
begun_so account wires slot (Announce s epoch) start is begins backs = absurd (let q : None ≡ Some start = begins in cc)
begun_so account wires slot (Settle s epoch span cause) start is begins backs = absurd (let q : None ≡ Some start = begins in cc)
begun_so account wires slot (Rename s scan path) start is begins backs = absurd (let q : None ≡ Some start = begins in cc)
begun_so account wires slot (Seen s changed) start is begins backs = absurd (let q : None ≡ Some start = begins in cc)
begun_so account wires slot (Forget s epoch end) start is begins backs = absurd (let q : None ≡ Some start = begins in cc)

begun : (account : List SlotAccount) (wires : List WireTold) (notes : List Note) (slot : ℕ) (start : Start) → AreBacked account wires notes → start_over (notes_of slot notes) ≡ Some start →
    BacksBegin account slot start.key start.epoch start.base
begun account wires notes slot start all is =
    let told = there_given start_of (notes_of slot notes) start (first_member (filter_map start_of (notes_of slot notes)) start is) in
    let of = note_of slot notes told.0 told.1 in
    begun_so account wires slot told.0 start of.1 told.2 (backed account wires notes told.0 all of.0)

-- ---- the epochs that notes name

-- the slot's first epoch is there
first_epoch_at : (epoch : ℕ) (first : EpochAccount) (later : List EpochAccount) → first.epoch ≡ epoch → epoch_at epoch (first ∷ later) ≡ Some first
first_epoch_at epoch first later is = rw (eq-eqb first.epoch epoch is) refl

epoch_in_slot : (account : List SlotAccount) (slot epoch : ℕ) (one : SlotAccount) → slot_at slot account ≡ Some one → epoch_of account slot epoch ≡ epoch_at epoch one.epochs
epoch_in_slot account slot epoch one is = ap (λ (o : Option SlotAccount). option_and_then (λ (s : SlotAccount). epoch_at epoch s.epochs) o) is

some_is : {A : Type 0} (o : Option A) (a : A) → o ≡ Some a → IsSome o
some_is {A = A} o a is = subst (λ (p : Option A). IsSome p) (sym is) refl

pub slot_in : (account : List SlotAccount) (slot : ℕ) (one : SlotAccount) → slot_at slot account ≡ Some one → Contains account one × (slot_of one ≡ slot)
slot_in [] slot one is = absurd (let q : None ≡ Some one = is in cc)
slot_in (first ∷ others) slot one is = go (eqb (slot_of first) slot) refl is (λ e. slot_in others slot one e)
  where
    go : (b : Bool) → eqb (slot_of first) slot ≡ b → cond b (Some first) (slot_at slot others) ≡ Some one →
        (slot_at slot others ≡ Some one → Contains others one × (slot_of one ≡ slot)) → Contains (first ∷ others) one × (slot_of one ≡ slot)
    go true test e again =
        let q : Some first ≡ Some one = e in
        let same : first ≡ one = cc in
        (subst (Contains (first ∷ others)) same (first_there first others), ap slot_of (sym same) ∙ eqb-true (slot_of first) slot test)
    go false test e again = let later = again e in (later_there first one others later.0, later.1)

in_one_row : (account : List SlotAccount) (slot : ℕ) (one : SlotAccount) → AreInRows account → slot_at slot account ≡ Some one → IsInOneRow one
in_one_row account slot one rows is = All-contains IsInOneRow account one (All-from_recursion IsInOneRow account rows) (slot_in account slot one is).0

begun_epoch : (account : List SlotAccount) (slot : ℕ) (key : List ℕ) (epoch base : ℕ) → AreInRows account → BacksBegin account slot key epoch base → IsSome (epoch_of account slot epoch)
begun_epoch account slot key epoch base rows begin =
    let numbered = (in_one_row account slot begin.one rows begin.slot_is).numbered in
    some_is (epoch_of account slot epoch) numbered.first
    (epoch_in_slot account slot epoch begin.one begin.slot_is ∙ ap (epoch_at epoch) numbered.epochs_are
    ∙ first_epoch_at epoch numbered.first numbered.later (numbered.first_epoch ∙ begin.epoch_is))

named_so : (account : List SlotAccount) (wires : List WireTold) (slot : ℕ) (note : Note) (epoch : ℕ) → AreInRows account → slot_named note ≡ slot → epoch_named note ≡ Some epoch → Backs account wires note →
    IsSome (epoch_of account slot epoch)
named_so account wires slot (Begin s key path e base changed) epoch rows is names backs =
    let q : Some e.0 ≡ Some epoch = names in
    let same : e.0 ≡ epoch = cc in
    subst (λ (n : ℕ). IsSome (epoch_of account slot n)) same (begun_epoch account slot key e.0 base rows (subst (λ (n : ℕ). BacksBegin account n key e.0 base) is backs.0))
named_so account wires slot (Announce s e) epoch rows is names backs =
    let q : Some e.0 ≡ Some epoch = names in
    let same : e.0 ≡ epoch = cc in
    subst (λ (n : ℕ). IsSome (epoch_of account slot n)) same (subst (λ (n : ℕ). IsSome (epoch_of account n e.0)) is backs)
named_so account wires slot (Settle s e span cause) epoch rows is names backs =
    let q : Some e.0 ≡ Some epoch = names in
    let same : e.0 ≡ epoch = cc in
    let settle = subst (λ (n : ℕ). BacksSettle account wires n e.0 span cause) is backs in
    subst (λ (n : ℕ). IsSome (epoch_of account slot n)) same (some_is (epoch_of account slot e.0) settle.told_in settle.epoch_is)
named_so account wires slot (Rename s scan path) epoch rows is names backs = absurd (let q : None ≡ Some epoch = names in cc)
named_so account wires slot (Seen s changed) epoch rows is names backs = absurd (let q : None ≡ Some epoch = names in cc)
named_so account wires slot (Forget s e end) epoch rows is names backs =
    let q : Some e.0 ≡ Some epoch = names in
    let same : e.0 ≡ epoch = cc in
    let forget = subst (λ (n : ℕ). BacksForget account n e.0 end) is backs in
    subst (λ (n : ℕ). IsSome (epoch_of account slot n)) same
    (some_is (epoch_of account slot e.0) forget.last (epoch_in_slot account slot e.0 forget.one forget.slot_is ∙ forget.epoch_is))

named : (account : List SlotAccount) (wires : List WireTold) (notes : List Note) (slot epoch : ℕ) → AreInRows account → AreBacked account wires notes →
    Contains (filter_map epoch_named (notes_of slot notes)) epoch → IsSome (epoch_of account slot epoch)
named account wires notes slot epoch rows all there =
    let told = there_given epoch_named (notes_of slot notes) epoch there in
    let of = note_of slot notes told.0 told.1 in
    named_so account wires slot told.0 epoch rows of.1 told.2 (backed account wires notes told.0 all of.0)

-- the greatest of numbers is one of them
greater_of : (a b : ℕ) → (max a b ≡ a) ⊎ (max a b ≡ b)
greater_of zero b = inr (omega arith)
greater_of (suc a) zero = inl (omega arith)
greater_of (suc a) (suc b) = elim (greater_of a b) [
  | inl first ↦ inl (omega (arith, first))
  | inr second ↦ inr (omega (arith, second))
]

pub greatest_among : (least : ℕ) (numbers : List ℕ) → (fold max least numbers ≡ least) ⊎ Contains numbers (fold max least numbers)
greatest_among least [] = inl refl
greatest_among least (number ∷ numbers) = go (greatest_among (max least number) numbers)
  where
    here : fold max (max least number) numbers ≡ number → Contains (number ∷ numbers) (fold max (max least number) numbers)
    here is = subst (Contains (number ∷ numbers)) (sym is) (first_there number numbers)

    go : (fold max (max least number) numbers ≡ max least number) ⊎ Contains numbers (fold max (max least number) numbers) →
        (fold max (max least number) numbers ≡ least) ⊎ Contains (number ∷ numbers) (fold max (max least number) numbers)
    go (inr there) = inr (later_there number (fold max (max least number) numbers) numbers there)
    go (inl is) = elim (greater_of least number) [
      | inl first ↦ inl (omega (arith, is, first))
      | inr second ↦ inr (here (omega (arith, is, second)))
    ]

no_less : (least : ℕ) (numbers : List ℕ) → least ≤ fold max least numbers
no_less least [] = omega arith
no_less least (number ∷ numbers) = let h = no_less (max least number) numbers in omega (arith, h)

none_greater : (least : ℕ) (numbers : List ℕ) (number : ℕ) → Contains numbers number → number ≤ fold max least numbers
none_greater least [] number there = absurd (none_there number there)
none_greater least (first ∷ numbers) number there = elim (there_cases first number numbers there) [
  | inl same ↦ let h = no_less (max least first) numbers in omega (arith, h, same)
  | inr later ↦ none_greater (max least first) numbers number later
]

-- a slot that was begun names some epoch
begin_names : (note : Note) (start : Start) → start_of note ≡ Some start → epoch_named note ≡ Some start.epoch
begin_names (Begin s key path epoch base changed) start begins =
    let q : Some (record { key = key; path = path; epoch = epoch.0; base = base }) ≡ Some start = begins in
    let same : record { key = key; path = path; epoch = epoch.0; base = base } ≡ start = cc in
    ap (λ (one : Start). Some one.epoch) same
begin_names (Announce s epoch) start begins = absurd (let q : None ≡ Some start = begins in cc)
begin_names (Settle s epoch span cause) start begins = absurd (let q : None ≡ Some start = begins in cc)
begin_names (Rename s scan path) start begins = absurd (let q : None ≡ Some start = begins in cc)
begin_names (Seen s changed) start begins = absurd (let q : None ≡ Some start = begins in cc)
begin_names (Forget s epoch end) start begins = absurd (let q : None ≡ Some start = begins in cc)

greatest_had : (account : List SlotAccount) (wires : List WireTold) (notes : List Note) (slot : ℕ) (start : Start) → AreInRows account → AreBacked account wires notes →
    start_over (notes_of slot notes) ≡ Some start → IsSome (epoch_of account slot (greatest_epoch (notes_of slot notes)))
greatest_had account wires notes slot start rows all is = go (greatest_among 0 (filter_map epoch_named (notes_of slot notes)))
  where
    go : (fold max 0 (filter_map epoch_named (notes_of slot notes)) ≡ 0) ⊎ Contains (filter_map epoch_named (notes_of slot notes)) (fold max 0 (filter_map epoch_named (notes_of slot notes))) →
        IsSome (epoch_of account slot (greatest_epoch (notes_of slot notes)))
    go (inr there) = named account wires notes slot (greatest_epoch (notes_of slot notes)) rows all there
    go (inl zero_is) =
        let told = there_given start_of (notes_of slot notes) start (first_member (filter_map start_of (notes_of slot notes)) start is) in
        let among = given_there epoch_named (notes_of slot notes) told.0 start.epoch told.1 (begin_names told.0 start told.2) in
        let most = none_greater 0 (filter_map epoch_named (notes_of slot notes)) start.epoch among in
        let same : start.epoch ≡ greatest_epoch (notes_of slot notes) = omega (arith, most, zero_is) in
        let begin = begun account wires notes slot start all is in
        subst (λ (n : ℕ). IsSome (epoch_of account slot n)) same (begun_epoch account slot start.key start.epoch start.base rows begin)

-- ---- the spans that notes settle

-- a note that settles the span backs it
record SettlesBacked (account : List SlotAccount) (wires : List WireTold) (slot epoch : ℕ) (span : Extent) : Type 0 where
  cause : Cause
  backs : BacksSettle account wires slot epoch span cause

settles_so : (account : List SlotAccount) (wires : List WireTold) (slot epoch : ℕ) (note : Note) (span : Extent) → slot_named note ≡ slot → span_in epoch note ≡ Some span → Backs account wires note →
    SettlesBacked account wires slot epoch span
settles_so account wires slot epoch (Begin s key path e base changed) span is settles backs = absurd (let q : None ≡ Some span = settles in cc)
settles_so account wires slot epoch (Announce s e) span is settles backs = absurd (let q : None ≡ Some span = settles in cc)
settles_so account wires slot epoch (Settle s e settled cause) span is settles backs = go (eqb e.0 epoch) refl settles
  where
    go : (b : Bool) → eqb e.0 epoch ≡ b → cond b (Some settled) None ≡ Some span → SettlesBacked account wires slot epoch span
    go true test q =
        let some : Some settled ≡ Some span = q in
        let same : settled ≡ span = cc in
        let here = subst (λ (n : ℕ). BacksSettle account wires n e.0 settled cause) is backs in
        let there = subst (λ (n : ℕ). BacksSettle account wires slot n settled cause) (eqb-true e.0 epoch test) here in
        record { cause = cause; backs = subst (λ (x : Extent). BacksSettle account wires slot epoch x cause) same there }
    go false test q = absurd (let none : None ≡ Some span = q in cc)
settles_so account wires slot epoch (Rename s scan path) span is settles backs = absurd (let q : None ≡ Some span = settles in cc)
settles_so account wires slot epoch (Seen s changed) span is settles backs = absurd (let q : None ≡ Some span = settles in cc)
settles_so account wires slot epoch (Forget s e end) span is settles backs = absurd (let q : None ≡ Some span = settles in cc)

settled_span : (account : List SlotAccount) (wires : List WireTold) (notes : List Note) (slot epoch : ℕ) (span : Extent) → AreBacked account wires notes →
    Contains (spans_in epoch (notes_of slot notes)) span → SettlesBacked account wires slot epoch span
settled_span account wires notes slot epoch span all there =
    let told = there_given (span_in epoch) (notes_of slot notes) span there in
    let of = note_of slot notes told.0 told.1 in
    settles_so account wires slot epoch told.0 span of.1 told.2 (backed account wires notes told.0 all of.0)

-- ---- reported events by their spans

map_there : {A B : Type 0} (f : A → B) (xs : List A) (x : A) → Contains xs x → Contains (map f xs) (f x)
map_there f [] x there = absurd (none_there x there)
map_there {A = A} f (first ∷ xs) x there = elim (there_cases first x xs there) [
  | inl same ↦ subst (λ (y : A). Contains (f first ∷ map f xs) (f y)) same (first_there (f first) (map f xs))
  | inr later ↦ later_there (f first) (f x) (map f xs) (map_there f xs x later)
]

-- reported events that have the same span are the same
one_event : (start : ℕ) (told : List AccountedEvent) (a b : AccountedEvent) → Adjoin start (spans_of told) → Contains told a → Contains told b → a.event.span ≡ b.event.span → a ≡ b
one_event start [] a b adjoin in_a in_b same = absurd (none_there a in_a)
one_event start (first ∷ told) a b adjoin in_a in_b same = go (there_cases first a told in_a) (there_cases first b told in_b) (λ later_a later_b. one_event first.event.span.end told a b adjoin.2 later_a later_b same)
  where
    -- what is reported later begins after the first span
    later_start : (one : AccountedEvent) → Contains told one → first.event.span.end ≤ one.event.span.start
    later_start one there = adjoining_behind first.event.span.end (spans_of told) one.event.span adjoin.2 (map_there (λ (x : AccountedEvent). x.event.span) told one there)

    clash : (one other : AccountedEvent) → first ≡ one → Contains told other → one.event.span ≡ other.event.span → ⊥
    clash one other here there spans =
        let begins : first.event.span.start ≡ other.event.span.start = ap (λ (x : AccountedEvent). x.event.span.start) here ∙ ap (λ (x : Extent). x.start) spans in
        omega (arith, begins, later_start other there, adjoin.0, adjoin.1)

    go : (first ≡ a) ⊎ Contains told a → (first ≡ b) ⊎ Contains told b → (Contains told a → Contains told b → a ≡ b) → a ≡ b
    go (inl first_a) (inl first_b) again = sym first_a ∙ first_b
    go (inl first_a) (inr later_b) again = absurd (clash a b first_a later_b same)
    go (inr later_a) (inl first_b) again = absurd (clash b a first_b later_a (sym same))
    go (inr later_a) (inr later_b) again = again later_a later_b

-- the events of the first spans
record Split (told : List AccountedEvent) (front_spans : List Extent) : Type 0 where
  front : List AccountedEvent
  rest : List AccountedEvent
  told_is : told ≡ front ++ rest
  spans_are : spans_of front ≡ front_spans

split_at : (told : List AccountedEvent) (front rest : List Extent) → spans_of told ≡ front ++ rest → Split told front
split_at told [] rest same = record { front = []; rest = told; told_is = refl; spans_are = refl }
split_at [] (span ∷ front) rest same = absurd cc
split_at (one ∷ told) (span ∷ front) rest same =
    let here : one.event.span ≡ span = cc in
    let there : spans_of told ≡ front ++ rest = cc in
    let later = split_at told front rest there in
    record {
      front = one ∷ later.front;
      rest = later.rest;
      told_is = ap (λ (l : List AccountedEvent). one ∷ l) later.told_is;
      spans_are = ap (λ (l : List Extent). one.event.span ∷ l) later.spans_are ∙ ap (λ (x : Extent). x ∷ front) here;
    }

-- ---- the row

All-by_member : {A : Type 0} (P : List A) (xs : List A) → ((x : A) → Contains xs x → Contains P x) → All (Contains P) xs
All-by_member P xs within = λ k d inside. within (get_or xs k d) (Contains-get_or xs k d inside)

pub epoch_in : (epoch : ℕ) (epochs : List EpochAccount) (found : EpochAccount) → epoch_at epoch epochs ≡ Some found → Contains epochs found
epoch_in epoch [] found is = absurd (let q : None ≡ Some found = is in cc)
epoch_in epoch (first ∷ epochs) found is = go (eqb first.epoch epoch) is (λ e. epoch_in epoch epochs found e)
  where
    go : (b : Bool) → cond b (Some first) (epoch_at epoch epochs) ≡ Some found → (epoch_at epoch epochs ≡ Some found → Contains epochs found) → Contains (first ∷ epochs) found
    go true e again =
        let q : Some first ≡ Some found = e in
        let same : first ≡ found = cc in
        subst (Contains (first ∷ epochs)) same (first_there first epochs)
    go false e again = later_there first found epochs (again e)

-- an epoch that is found has the number
pub epoch_found : (epoch : ℕ) (epochs : List EpochAccount) (found : EpochAccount) → epoch_at epoch epochs ≡ Some found → found.epoch ≡ epoch
epoch_found epoch [] found is = absurd (let q : None ≡ Some found = is in cc)
epoch_found epoch (first ∷ epochs) found is = by_case (eqb first.epoch epoch) refl is (epoch_found epoch epochs found)
  where
    by_case : (b : Bool) → eqb first.epoch epoch ≡ b → cond b (Some first) (epoch_at epoch epochs) ≡ Some found → (epoch_at epoch epochs ≡ Some found → found.epoch ≡ epoch) → found.epoch ≡ epoch
    by_case true test e later =
        let q : Some first ≡ Some found = e in
        let same : first ≡ found = cc in
        ap (λ (x : EpochAccount). x.epoch) (sym same) ∙ eqb-true first.epoch epoch test
    by_case false test e later = later e

some_of : {A : Type 0} (o : Option A) → IsSome o → (a : A) × (o ≡ Some a)
some_of None is = absurd cc
some_of (Some a) is = (a, refl)

same_some : {A : Type 0} (o : Option A) (a b : A) → o ≡ Some a → o ≡ Some b → a ≡ b
same_some o a b first second =
    let q : Some a ≡ Some b = sym first ∙ second in
    cc

-- the start of an epoch is the base that the row takes
later_starts : (before epoch : ℕ) (epochs : List EpochAccount) (found : EpochAccount) → AreNumberedFrom before epochs → epoch_at epoch epochs ≡ Some found → (found.start ≡ 0) × (before < epoch)
later_starts before epoch [] found numbered is = absurd (let q : None ≡ Some found = is in cc)
later_starts before epoch (first ∷ epochs) found numbered is = go (eqb first.epoch epoch) refl is (λ e. later_starts (before + 1) epoch epochs found numbered.2 e)
  where
    go : (b : Bool) → eqb first.epoch epoch ≡ b → cond b (Some first) (epoch_at epoch epochs) ≡ Some found →
        (epoch_at epoch epochs ≡ Some found → (found.start ≡ 0) × (before + 1 < epoch)) → (found.start ≡ 0) × (before < epoch)
    go true test e again =
        let q : Some first ≡ Some found = e in
        let same : first ≡ found = cc in
        let number = eqb-true first.epoch epoch test in
        (ap (λ (x : EpochAccount). x.start) (sym same) ∙ numbered.1, omega (arith, numbered.0, number))
    go false test e again = let later = again e in (later.0, omega (arith, later.1))

start_is_base : (one : SlotAccount) (start : Start) (epoch : ℕ) (found : EpochAccount) → AreNumbered one → one.following.epoch ≡ start.epoch → one.following.base ≡ start.base →
    epoch_at epoch one.epochs ≡ Some found → found.start ≡ base_in start epoch
start_is_base one start epoch found numbered epoch_is base_is is =
    go (eqb numbered.first.epoch epoch) refl (sym (ap (epoch_at epoch) numbered.epochs_are) ∙ is)
  where
    go : (b : Bool) → eqb numbered.first.epoch epoch ≡ b → cond b (Some numbered.first) (epoch_at epoch numbered.later) ≡ Some found → found.start ≡ base_in start epoch
    go true test e =
        let q : Some numbered.first ≡ Some found = e in
        let same : numbered.first ≡ found = cc in
        let number : epoch ≡ start.epoch = sym (eqb-true numbered.first.epoch epoch test) ∙ numbered.first_epoch ∙ epoch_is in
        ap (λ (x : EpochAccount). x.start) (sym same) ∙ numbered.first_start ∙ base_is ∙ sym (rw (eq-eqb epoch start.epoch number) refl)
    go false test e =
        let later = later_starts one.following.epoch epoch numbered.later found numbered.numbered e in
        elim (eqb_tells epoch start.epoch) [
          | inl same ↦ absurd (omega (arith, later.1, same.1, epoch_is))
          | inr other ↦ later.0 ∙ sym (rw (other.0) refl)
        ]

-- each event of the front is settled
all_settled : (account : List SlotAccount) (wires : List WireTold) (notes : List Note) (slot epoch : ℕ) (told_in : EpochAccount) → AreBacked account wires notes →
    epoch_of account slot epoch ≡ Some told_in → Adjoin told_in.start (spans_of told_in.told) → (front : List AccountedEvent) → ((one : AccountedEvent) → Contains front one → Contains told_in.told one) →
    All (Contains (spans_in epoch (notes_of slot notes))) (spans_of front) → AllByRecursion (IsSettled wires) front
all_settled account wires notes slot epoch told_in all is adjoin [] within settled = tt
all_settled account wires notes slot epoch told_in all is adjoin (one ∷ front) within settled =
    let spans = spans_in epoch (notes_of slot notes) in
    let each = recursion_from_All (Contains spans) (spans_of (one ∷ front)) settled in
    let settle = settled_span account wires notes slot epoch one.event.span all each.0 in
    let same_epoch : settle.backs.told_in ≡ told_in = same_some (epoch_of account slot epoch) settle.backs.told_in told_in settle.backs.epoch_is is in
    let there = subst (λ (x : EpochAccount). Contains x.told settle.backs.one) same_epoch settle.backs.told in
    let same = one_event told_in.start told_in.told settle.backs.one one adjoin there (within one (first_there one front)) settle.backs.span_is in (
      subst (IsSettled wires) same settle.backs.settled,
      all_settled account wires notes slot epoch told_in all is adjoin front (λ x later. within x (later_there one x front later))
          (All-from_recursion (Contains spans) (spans_of front) each.1),
    )

-- by what ship_core says of covered ends
abbrev pub ClosesBy : Type 0
ClosesBy = (told spans : List Extent) (base : ℕ) → Adjoin base told → All (Contains told) spans → ClosesPrefix told spans base

-- what notes settle of the epoch was reported
pub settled_is_told : (account : List SlotAccount) (wires : List WireTold) (notes : List Note) (slot epoch : ℕ) (told_in : EpochAccount) →
    AreBacked account wires notes → epoch_of account slot epoch ≡ Some told_in → (span : Extent) → Contains (spans_in epoch (notes_of slot notes)) span → Contains (spans_of told_in.told) span
settled_is_told account wires notes slot epoch told_in all is span there =
    let settle = settled_span account wires notes slot epoch span all there in
    let same_epoch = same_some (epoch_of account slot epoch) settle.backs.told_in told_in settle.backs.epoch_is is in
    let among = subst (λ (x : EpochAccount). Contains x.told settle.backs.one) same_epoch settle.backs.told in
    subst (Contains (spans_of told_in.told)) settle.backs.span_is (map_there (λ (x : AccountedEvent). x.event.span) told_in.told settle.backs.one among)

pub closes_settled : ClosesBy → (account : List SlotAccount) (wires : List WireTold) (notes : List Note) (slot epoch base : ℕ) (told_in : EpochAccount) → AreBacked account wires notes →
    epoch_of account slot epoch ≡ Some told_in → Adjoin told_in.start (spans_of told_in.told) → told_in.start ≡ base →
    ClosesSettled wires told_in (covered_end (spans_in epoch (notes_of slot notes)) base)
closes_settled closes account wires notes slot epoch base told_in all is adjoin starts =
    let spans = spans_in epoch (notes_of slot notes) in
    let from_base = subst (λ (n : ℕ). Adjoin n (spans_of told_in.told)) starts adjoin in
    let prefix = closes (spans_of told_in.told) spans base from_base (All-by_member (spans_of told_in.told) spans (settled_is_told account wires notes slot epoch told_in all is)) in
    let split = split_at told_in.told prefix.front prefix.rest prefix.parts in
    let within : (one : AccountedEvent) → Contains split.front one → Contains told_in.told one =
    λ one there. subst (λ (l : List AccountedEvent). Contains l one) (sym split.told_is) (Contains-append_left split.front split.rest one there) in
    record {
      front = split.front;
      rest = split.rest;
      told_is = split.told_is;
      each = all_settled account wires notes slot epoch told_in all is adjoin split.front within (subst (All (Contains spans)) (sym split.spans_are) prefix.settled);
      ends = ap (λ (n : ℕ). last_end n (spans_of split.front)) starts ∙ ap (last_end base) split.spans_are ∙ sym prefix.end_is;
    }

adjoin_in : (one : SlotAccount) (epoch : ℕ) (found : EpochAccount) → IsInOneRow one → epoch_at epoch one.epochs ≡ Some found → Adjoin found.start (spans_of found.told)
adjoin_in one epoch found row is = All-contains (λ (x : EpochAccount). Adjoin x.start (spans_of x.told)) one.epochs found
    (All-from_recursion (λ (x : EpochAccount). Adjoin x.start (spans_of x.told)) one.epochs row.adjoin) (epoch_in epoch one.epochs found is)

-- the slot, and the epoch that its notes name last
pub record Standing (account : List SlotAccount) (notes : List Note) (slot : ℕ) (start : Start) : Type 0 where
  pub one : SlotAccount
  pub slot_is : slot_at slot account ≡ Some one
  pub key_is : one.following.key ≡ start.key
  pub epoch : EpochAccount
  pub found : epoch_of account slot (greatest_epoch (notes_of slot notes)) ≡ Some epoch
  pub epoch_is : epoch_at (greatest_epoch (notes_of slot notes)) one.epochs ≡ Some epoch
  pub starts : epoch.start ≡ base_in start (greatest_epoch (notes_of slot notes))
  pub adjoin : Adjoin epoch.start (spans_of epoch.told)

pub standing_of : (account : List SlotAccount) (wires : List WireTold) (notes : List Note) (slot : ℕ) (start : Start) →
    AreInRows account → AreBacked account wires notes → start_over (notes_of slot notes) ≡ Some start → Standing account notes slot start
standing_of account wires notes slot start rows all is =
    let begin = begun account wires notes slot start all is in
    let had = greatest_had account wires notes slot start rows all is in
    let found = some_of (epoch_of account slot (greatest_epoch (notes_of slot notes))) had in
    let in_slot : epoch_at (greatest_epoch (notes_of slot notes)) begin.one.epochs ≡ Some found.0 =
    sym (epoch_in_slot account slot (greatest_epoch (notes_of slot notes)) begin.one begin.slot_is) ∙ found.1 in
    let row_of_slot = in_one_row account slot begin.one rows begin.slot_is in
    record {
      one = begin.one;
      slot_is = begin.slot_is;
      key_is = begin.key_is;
      epoch = found.0;
      found = found.1;
      epoch_is = in_slot;
      starts = start_is_base begin.one start (greatest_epoch (notes_of slot notes)) found.0 row_of_slot.numbered begin.epoch_is begin.base_is in_slot;
      adjoin = adjoin_in begin.one (greatest_epoch (notes_of slot notes)) found.0 row_of_slot in_slot;
    }

-- the row that is over the notes
abbrev pub standing_told : ClosesBy → (account : List SlotAccount) (wires : List WireTold) (notes : List Note) (slot : ℕ) (start : Start) → AreBacked account wires notes →
    Standing account notes slot start → IsToldRow account wires (standing_row (notes_of slot notes) start)
standing_told closes account wires notes slot start all stands = record {
  slot = slot;
  one = stands.one;
  slot_is = stands.slot_is;
  key_is = stands.key_is;
  epoch = stands.epoch;
  epoch_is = stands.epoch_is;
  closes = closes_settled closes account wires notes slot (greatest_epoch (notes_of slot notes)) (base_in start (greatest_epoch (notes_of slot notes))) stands.epoch all stands.found
      stands.adjoin stands.starts;
}

-- a row over the notes of a slot is that which is over them
pub record IsStandingRow (notes : List Note) (slot : ℕ) (row : Row) : Type 0 where
  pub start : Start
  pub begins : start_over (notes_of slot notes) ≡ Some start
  pub is : standing_row (notes_of slot notes) start ≡ row

pub row_stands : (notes : List Note) (slot : ℕ) (row : Row) → row_over slot notes ≡ Some row → IsStandingRow notes slot row
row_stands notes slot row is = by_start (start_over (notes_of slot notes)) refl is
  where
    by_gone : (start : Start) → start_over (notes_of slot notes) ≡ Some start → (b : Bool) → is_gone start (notes_of slot notes) ≡ b →
        cond b None (Some (standing_row (notes_of slot notes) start)) ≡ Some row → IsStandingRow notes slot row
    by_gone start begins true gone e = absurd (let q : None ≡ Some row = e in cc)
    by_gone start begins false there e =
        let q : Some (standing_row (notes_of slot notes) start) ≡ Some row = e in
        let same : standing_row (notes_of slot notes) start ≡ row = cc in
        record { start = start; begins = begins; is = same }

    by_start : (o : Option Start) → start_over (notes_of slot notes) ≡ o → option_and_then (row_of (notes_of slot notes)) o ≡ Some row → IsStandingRow notes slot row
    by_start None none e = absurd (let q : None ≡ Some row = e in cc)
    by_start (Some start) begins e = by_gone start begins (is_gone start (notes_of slot notes)) refl e

-- by the account of this slot
pub row_is_told_at : (slot : ℕ) (row : Row) → ClosesBy → (account : List SlotAccount) (wires : List WireTold) (notes : List Note) → AreInRows account → AreBacked account wires notes →
    row_over slot notes ≡ Some row → (told : IsToldRow account wires row) × (told.slot ≡ slot)
row_is_told_at slot row closes account wires notes rows all is =
    let row_is = row_stands notes slot row is in
    subst (λ (r : Row). (told : IsToldRow account wires r) × (told.slot ≡ slot)) row_is.is
    (standing_told closes account wires notes slot row_is.start all (standing_of account wires notes slot row_is.start rows all row_is.begins), refl)

pub row_is_kept : ClosesBy → (account : List SlotAccount) (wires : List WireTold) (notes : List Note) (slot : ℕ) (row : Row) → AreInRows account → AreBacked account wires notes →
    row_over slot notes ≡ Some row → IsToldRow account wires row
row_is_kept closes account wires notes slot row rows all is = (row_is_told_at slot row closes account wires notes rows all is).0
