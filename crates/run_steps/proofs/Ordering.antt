-- The notes of a run stay orderly as more are collected, in whichever order they were told and collected: each was told by the run itself, or
-- has its ground in what was told of the files.
use Rattle.std.proofs.Common.{◌≡◌, ◌⊎◌, inl, inr, ⊎_elim, ℕ, ◌+◌, ◌≤◌, ◌==◌, Bool, true, false, List, [], ◌∷◌, ◌++◌, Contains, map, None, Option, if◌then◌else◌, refl, sym, ap, subst, ◌∙◌, arith}
use Rattle.std.proofs.lemmas.Bool.{eqb-true}
use Rattle.std.proofs.lemmas.List.Elements.{Contains-append_cases, Contains-append_left, Contains-append_right}
use Rattle.std.specs.List.{AllByRecursion, flat_map}
use Rattle.accounts.specs.Ground.{HasGround}
use Rattle.accounts.specs.Hidden.{Hidden, hidden_begin, hidden_forget}
use Rattle.accounts.specs.Opened.{Opened}
use Rattle.accounts.specs.Same.{same_note}
use Rattle.accounts.specs.ToldFile.{IsToldFile}
use Rattle.accounts.specs.ToldNotes.{AreMixed}
use Rattle.accounts.specs.Turned.{Turned}
use Rattle.accounts.specs.Turning.{IsTurnedSo, Pairs}
use Rattle.accounts.specs.Watch.{Watch}
use Rattle.accounts.proofs.Backing.{mapped_there}
use Rattle.accounts.proofs.Begins.{HasItsBegin}
use Rattle.accounts.proofs.Ends.{is_in_epochs}
use Rattle.accounts.proofs.Ground.{item_of}
use Rattle.accounts.proofs.Grounded.{each_member, of_map}
use Rattle.accounts.proofs.Lists.{each_then}
use Rattle.accounts.proofs.Often.{often_back, often_contains}
use Rattle.accounts.proofs.Ordered.{SettlesNothing, SettlesSo, orderly_more}
use Rattle.accounts.proofs.Same.{tells_notes}
use Rattle.harvester.specs.declared.harvester.Harvester.{Harvester}
use Rattle.kept_rows.specs.Scans.{AreDistinct}
use Rattle.lanes.specs.Laning.{Laning}
use Rattle.pass_sums.specs.Weight.{AsOften}
use Rattle.pass_sums.proofs.Weights.{weigh-append}
use Rattle.rounds.specs.Words.{TailWords}
use Rattle.ship_core.proofs.Members.{none_there, there_cases}
use Rattle.ship_core.specs.Orderly.{AreOrderly}
use Rattle.ship_core.specs.RowOver.{naming_of, span_in, start_of}
use Rattle.wire_base.specs.declared.numbers.Epoch.{Epoch}
use Rattle.wire_base.specs.declared.numbers.Slot.{Slot}
use Rattle.wire_base.specs.declared.note.Note.{Note}
use Rattle.wire_base.specs.declared.note.Note.TheVariants.{Announce}
use Rattle.wire_base.specs.declared.parcel.Parcel.{Parcel}
use Rattle.event_tree.specs.declared.input_rule.InputRule.{InputRule}
use Rattle.event_tree.specs.declared.settings.Settings.{Settings}
use Rattle.multiline_core.specs.Rule.{IsGroupRule}
use Rattle.outside.specs.Tails.{TailHistory}
use Rattle.prospect.specs.declared.listed.Listed.{Listed}
use Rattle.wire_base.specs.declared.row.Row.{Row}
use Rattle.run_steps.specs.Begun.{AreBeginNotes, AreSlotsFrom, IsRuled, MayBegin, noted_begin}
use Rattle.run_steps.specs.Earlier.{AreInTurn, IsEarlierSo}
use Rattle.run_steps.specs.LaterScans.{LaterScan}
use Rattle.run_steps.specs.SoFar.{Earlier, Forgotten, Left, announced_by, announced_in, as_opened, first_opened, forget_of, forgets_in, told_before, noted_since, with_opening}
use Rattle.run_steps.specs.Stands.{AreEachOnce, AreTurnedIn, IsLeftSo}
use Rattle.run_steps.proofs.EarlierApart.{IsToldBefore, IsToldSince, settle_apart}
use Rattle.run_steps.proofs.Filing.{Arranged, arranged}
use Rattle.run_steps.proofs.Notes.{front_of_both}
use Rattle.accounts.proofs.Orderly.{member_is}

abbrev slots_in : List Opened → List Slot
slots_in opened = map (λ (one : Opened). one.begin.slot) opened

abbrev slots_of : List Turned → List Slot
slots_of files = map (λ (turned : Turned). turned.slot) files

-- ---- epochs

module _ {T : Type 0} (tails : TailWords T) (settings : Settings) (watch : Watch) (opened : List Opened) (moments : List ℕ) (ruled : AllByRecursion (IsRuled settings) opened) where
  abbrev Since : Turned → Type 0
  Since = IsToldSince opened

  told_since : (of : Opened) → Contains opened of → (t : Turned) (told : Option TailHistory) → IsToldFile watch of moments t told → Since t
  told_since of among t told is = record {
    file = of;
    among = among;
    slot = is.slot;
    epochs = is.history.epochs;
    adjoin = (is_in_epochs watch of moments t (member_is (IsRuled settings) opened of ruled among).in_range told is).adjoin;
  }

  in_epochs_one : (ts : List Turned) (hs : List (Harvester T)) → Pairs (IsTurnedSo tails.numbers tails.told watch opened moments) ts hs → AllByRecursion Since ts
  in_epochs_one [] hs stand = tt
  in_epochs_one (t ∷ ts) [] stand = absurd stand
  in_epochs_one (t ∷ ts) (h ∷ hs) stand = (told_since stand.0.opened stand.0.of_files t (tails.told h.tail) stand.0.is_told, in_epochs_one ts hs stand.1)

  both_in : (first second : List Turned) → AllByRecursion Since first → AllByRecursion Since second → AllByRecursion Since (first ++ second)
  both_in [] second one other = other
  both_in (t ∷ first) second one other = (one.0, both_in first second one.1 other)

  in_epochs_lanes : (files : List (List Turned)) (lanes : List (Laning T)) → Pairs (AreTurnedIn tails watch opened moments) files lanes →
      AllByRecursion Since (flat_map (λ (ts : List Turned). ts) files)
  in_epochs_lanes [] lanes stand = tt
  in_epochs_lanes (ts ∷ files) [] stand = absurd stand
  in_epochs_lanes (ts ∷ files) (lane ∷ lanes) stand =
      both_in ts (flat_map (λ (l : List Turned). l) files) (in_epochs_one ts lane.harvesters stand.0) (in_epochs_lanes files lanes stand.1)

  in_epochs_left : (left : List Left) → AllByRecursion (IsLeftSo watch opened moments) left → AllByRecursion Since (map (λ (one : Left). one.turned) left)
  in_epochs_left [] each = tt
  in_epochs_left (one ∷ left) each = (told_since each.0.file each.0.among one.turned one.told each.0.is_told, in_epochs_left left each.1)

  pub all_before : (earlier : List Earlier) → AllByRecursion (IsEarlierSo watch opened moments) earlier → AllByRecursion (IsToldBefore opened) earlier
  all_before earlier each = each_then (IsEarlierSo watch opened moments) (IsToldBefore opened) earlier
      (λ one so. record {
        last = so.last;
        among = so.among;
        same_slot = so.of_one.slot;
        ends = so.ends;
        slot = so.is_told.slot;
        epochs = so.is_told.history.epochs;
        adjoin = (is_in_epochs watch one.opened moments one.left.turned
            (subst (λ (r : InputRule). IsGroupRule r.multiline) (sym so.of_one.rule) (member_is (IsRuled settings) opened so.last ruled so.among).in_range) one.left.told so.is_told).adjoin;
      }) each

  pub all_in_epochs : (files : List (List Turned)) (lanes : List (Laning T)) (left : List Left) → Pairs (AreTurnedIn tails watch opened moments) files lanes →
      AllByRecursion (IsLeftSo watch opened moments) left → AllByRecursion Since (flat_map (λ (ts : List Turned). ts) files ++ map (λ (one : Left). one.turned) left)
  all_in_epochs files lanes left stand each =
      both_in (flat_map (λ (ts : List Turned). ts) files) (map (λ (one : Left). one.turned) left) (in_epochs_lanes files lanes stand) (in_epochs_left left each)

-- ---- together

-- a note that the run told itself settles nothing
told_settles_none : (scans : List LaterScan) (rows : List Row) (listed : List Listed) (opened : List Opened) (hiddens : List Hidden) (note : Note) → MayBegin scans rows listed opened hiddens note → SettlesNothing note
told_settles_none scans rows listed opened hiddens note (inl of) = λ epoch. ap (span_in epoch) of.is
told_settles_none scans rows listed opened hiddens note (inr (inl of)) = λ epoch. ap (span_in epoch) of.is
told_settles_none scans rows listed opened hiddens note (inr (inr (inr of))) = λ epoch. ap (span_in epoch) of.is
told_settles_none scans rows listed opened hiddens note (inr (inr (inl of))) = by_kind of.is
  where
    by_kind : (note ≡ hidden_begin of.hidden) ⊎ (note ≡ hidden_forget of.hidden) → SettlesNothing note
    by_kind (inl is) = λ epoch. ap (span_in epoch) is
    by_kind (inr is) = λ epoch. ap (span_in epoch) is

-- what it told as it opened a file again is an epoch
record IsAnnounce (note : Note) : Type 0 where
  slot : Slot
  epoch : Epoch
  is : note ≡ Announce slot epoch

is_announce : (earlier : List Earlier) (note : Note) → Contains (announced_in earlier) note → IsAnnounce note
is_announce earlier note there =
    let of = item_of announced_by earlier note there in
    by_case of.item (of.item.next.begin.epoch.0 == of.item.left.turned.history.present.epoch) of.there
  where
    by_case : (one : Earlier) (b : Bool) → Contains (if b then [] else Announce one.opened.begin.slot one.next.begin.epoch ∷ []) note → IsAnnounce note
    by_case one true is = absurd (none_there note is)
    by_case one false is = ⊎_elim (λ (same : Announce one.opened.begin.slot one.next.begin.epoch ≡ note). record { slot = one.opened.begin.slot; epoch = one.next.begin.epoch; is = sym same })
        (λ none. absurd (none_there note none)) (there_cases (Announce one.opened.begin.slot one.next.begin.epoch) note [] is)

-- which settles nothing
announced_settles_none : (earlier : List Earlier) (note : Note) → Contains (announced_in earlier) note → SettlesNothing note
announced_settles_none earlier note there = let of = is_announce earlier note there in λ epoch. ap (span_in epoch) of.is

-- and names none
announced_names_none : (earlier : List Earlier) (note : Note) → Contains (announced_in earlier) note → naming_of note ≡ None
announced_names_none earlier note there = let of = is_announce earlier note there in ap naming_of of.is

-- and begins none
announced_begins_none : (earlier : List Earlier) (note : Note) → Contains (announced_in earlier) note → start_of note ≡ None
announced_begins_none earlier note there = let of = is_announce earlier note there in ap start_of of.is

-- and so does a Forget
since_settles_none : (earlier : List Earlier) (forgotten : List Forgotten) (note : Note) → Contains (noted_since earlier forgotten) note → SettlesNothing note
since_settles_none earlier forgotten note there = ⊎_elim (announced_settles_none earlier note)
    (λ forgets. let of = of_map forget_of forgotten note forgets in λ epoch. ap (span_in epoch) (sym of.is)) (Contains-append_cases (announced_in earlier) (forgets_in forgotten) note there)

pub since_begins_none : (earlier : List Earlier) (forgotten : List Forgotten) (note : Note) → Contains (noted_since earlier forgotten) note → start_of note ≡ None
since_begins_none earlier forgotten note there = ⊎_elim (announced_begins_none earlier note)
    (λ forgets. let of = of_map forget_of forgotten note forgets in ap start_of (sym of.is)) (Contains-append_cases (announced_in earlier) (forgets_in forgotten) note there)

pub since_names_none : (earlier : List Earlier) (forgotten : List Forgotten) (note : Note) → Contains (noted_since earlier forgotten) note → naming_of note ≡ None
since_names_none earlier forgotten note there = ⊎_elim (announced_names_none earlier note)
    (λ forgets. let of = of_map forget_of forgotten note forgets in ap naming_of (sym of.is)) (Contains-append_cases (announced_in earlier) (forgets_in forgotten) note there)

pub distinct_slots : (least : ℕ) (opened : List Opened) → AreSlotsFrom least opened → AreDistinct (map (λ (one : Opened). one.begin.slot.0) opened)
distinct_slots least [] rise = tt
distinct_slots least (one ∷ opened) rise = (
  λ there. let later = slot_from (one.begin.slot.0 + 1) opened one.begin.slot.0 rise.1 there in omega (arith, later),
  distinct_slots (one.begin.slot.0 + 1) opened rise.1,
)
  where
    slot_from : (from : ℕ) (some : List Opened) (slot : ℕ) → AreSlotsFrom from some → Contains (map (λ (o : Opened). o.begin.slot.0) some) slot → from ≤ slot
    slot_from from [] slot rise there = absurd (none_there slot there)
    slot_from from (first ∷ some) slot rise there = by_case (there_cases first.begin.slot.0 slot (map (λ (o : Opened). o.begin.slot.0) some) there) (slot_from (first.begin.slot.0 + 1) some slot rise.1)
      where
        by_case : (first.begin.slot.0 ≡ slot) ⊎ Contains (map (λ (o : Opened). o.begin.slot.0) some) slot → (Contains (map (λ (o : Opened). o.begin.slot.0) some) slot → first.begin.slot.0 + 1 ≤ slot) → from ≤ slot
        by_case (inl same) later = let le = rise.0 in omega (arith, le, same)
        by_case (inr behind) later = let le = rise.0 in let more = later behind in omega (arith, le, more)

number_of_slots : (slots : List Slot) (opened : List Opened) → slots ≡ slots_in opened → map (λ (s : Slot). s.0) slots ≡ map (λ (one : Opened). one.begin.slot.0) opened
number_of_slots slots opened same = ap (map (λ (s : Slot). s.0)) same ∙ numbers opened
  where
    numbers : (some : List Opened) → map (λ (s : Slot). s.0) (slots_in some) ≡ map (λ (one : Opened). one.begin.slot.0) some
    numbers [] = refl
    numbers (one ∷ some) = ap (λ (l : List ℕ). one.begin.slot.0 ∷ l) (numbers some)

numbers_turned : (turned : List Turned) → map (λ (s : Slot). s.0) (slots_of turned) ≡ map (λ (t : Turned). t.slot.0) turned
numbers_turned [] = refl
numbers_turned (t ∷ turned) = ap (λ (l : List ℕ). t.slot.0 ∷ l) (numbers_turned turned)

-- an opening instead of another one of its slot has the same slot
pub slot_stays : (one other : Opened) → (as_opened one other).begin.slot ≡ other.begin.slot
slot_stays one other = by_case (other.begin.slot.0 == one.begin.slot.0) refl
  where
    by_case : (b : Bool) → (other.begin.slot.0 == one.begin.slot.0) ≡ b → (if b then one else other).begin.slot ≡ other.begin.slot
    by_case true is = λ k. record { 0 = sym (eqb-true other.begin.slot.0 one.begin.slot.0 is) k }
    by_case false is = refl

pub same_slots : (earlier : List Earlier) (opened : List Opened) → slots_in (first_opened earlier opened) ≡ slots_in opened
same_slots [] opened = refl
same_slots (one ∷ earlier) opened = each (first_opened earlier opened) ∙ same_slots earlier opened
  where
    each : (some : List Opened) → slots_in (with_opening one.opened some) ≡ slots_in some
    each [] = refl
    each (other ∷ some) = (λ k. slot_stays one.opened other k ∷ each some k)

module _ (scans : List LaterScan) (rows : List Row) (listed : List Listed) (opened : List Opened) (hiddens : List Hidden) (earlier : List Earlier) (forgotten : List Forgotten) (notes begun collected : List Note)
    (mixed : AreMixed (noted_since earlier forgotten ++ begun) collected notes) (are : AreBeginNotes scans rows listed (first_opened earlier opened) hiddens begun) where
  told_there : (note : Note) → Contains begun note → Contains notes note
  told_there note there = often_contains same_note tells_notes notes ((noted_since earlier forgotten ++ begun) ++ collected) note mixed.often
      (Contains-append_left (noted_since earlier forgotten ++ begun) collected note (Contains-append_right (noted_since earlier forgotten) begun note there))

  -- the Begin of each slot was told
  pub slot_begun : (slot : Slot) → Contains (slots_in opened) slot → HasItsBegin notes slot
  slot_begun slot there =
      let of = of_map (λ (one : Opened). one.begin.slot) (first_opened earlier opened) slot (subst (λ (l : List Slot). Contains l slot) (sym (same_slots earlier opened)) there) in
      subst (HasItsBegin notes) of.is (record {
        key = of.item.begin.key;
        path = of.item.begin.path;
        epoch = of.item.begin.epoch;
        base = of.item.begin.base;
        changed = record { 0 = 0 };
        there = told_there (noted_begin of.item.begin) (member_is (λ (one : Opened). Contains begun (noted_begin one.begin)) (first_opened earlier opened) of.item are.begun of.among);
      })

module _ (scans : List LaterScan) (rows : List Row) (listed : List Listed) (opened : List Opened) (hiddens : List Hidden) (earlier : List Earlier) (files : List Turned) (once : AreEachOnce opened files)
    (since : AllByRecursion (IsToldSince opened) files) (before : AllByRecursion (IsToldBefore opened) earlier) (turn : AreInTurn opened earlier)
    (forgotten : List Forgotten) (notes begun collected : List Note) (mixed : AreMixed (noted_since earlier forgotten ++ begun) collected notes) (are : AreBeginNotes scans rows listed (first_opened earlier opened) hiddens begun) where
  in_order : Arranged (IsToldSince opened) files (slots_in opened)
  in_order = arranged (IsToldSince opened) (slots_in opened) files once.are since

  abbrev turned : List Turned
  turned = in_order.turned

  distinct : AreDistinct (map (λ (one : Opened). one.begin.slot.0) opened)
  distinct = distinct_slots 0 opened once.rise

  apart : AreDistinct (map (λ (t : Turned). t.slot.0) turned)
  apart = subst AreDistinct (sym (number_of_slots (slots_of turned) opened in_order.slots_are) ∙ numbers_turned turned) distinct

  -- all that was told: of openings that came before, and of the last ones in the order of their slots
  abbrev all_turned : List Turned
  all_turned = told_before earlier ++ turned

  same_all : AsOften (told_before earlier ++ files) all_turned
  same_all h = omega (arith, weigh-append h (told_before earlier) files, weigh-append h (told_before earlier) turned, in_order.same h)

  begun_last : (t : Turned) → Contains turned t → HasItsBegin notes t.slot
  begun_last t there = slot_begun scans rows listed opened hiddens earlier forgotten notes begun collected mixed are t.slot (subst (λ (l : List Slot). Contains l t.slot) in_order.slots_are (mapped_there (λ (x : Turned). x.slot) turned t there))

  begun_before : (t : Turned) → Contains (told_before earlier) t → HasItsBegin notes t.slot
  begun_before t there =
      let of = of_map (λ (e : Earlier). e.left.turned) earlier t there in
      let is = member_is (IsToldBefore opened) earlier of.item before of.among in
      subst (λ (u : Turned). HasItsBegin notes u.slot) of.is
      (subst (HasItsBegin notes) (sym (is.slot ∙ is.same_slot)) (slot_begun scans rows listed opened hiddens earlier forgotten notes begun collected mixed are is.last.begin.slot (mapped_there (λ (one : Opened). one.begin.slot) opened is.last is.among)))

  begun_in : AllByRecursion (λ (t : Turned). HasItsBegin notes t.slot) all_turned
  begun_in = each_member (λ (t : Turned). HasItsBegin notes t.slot) all_turned
      (λ t there. ⊎_elim (begun_before t) (begun_last t) (Contains-append_cases (told_before earlier) turned t there))

  -- where each collected note has its ground in the files as they are, more of them may follow
  pub notes_are_orderly : (more : List Note) (acknowledged : List Parcel) →
      ((some : List Turned) → AsOften (told_before earlier ++ files) some → AllByRecursion (HasGround some acknowledged) (collected ++ more)) → AreOrderly (notes ++ more)
  notes_are_orderly more acknowledged ground =
      let all = ground all_turned same_all in
      orderly_more all_turned acknowledged (settle_apart opened distinct earlier before turn turned apart in_order.each) notes more mixed.orderly
      (each_member (SettlesSo all_turned acknowledged) notes (each_settles (front_of_both (HasGround all_turned acknowledged) collected more all)))
      begun_in (all_behind collected more all)
    where
      all_behind : (front rest : List Note) → AllByRecursion (HasGround all_turned acknowledged) (front ++ rest) → AllByRecursion (HasGround all_turned acknowledged) rest
      all_behind [] rest each = each
      all_behind (note ∷ front) rest each = all_behind front rest each.1

      each_settles : AllByRecursion (HasGround all_turned acknowledged) collected → (note : Note) → Contains notes note → SettlesNothing note ⊎ HasGround all_turned acknowledged note
      each_settles grounded note there =
          ⊎_elim (λ told. ⊎_elim (λ announced. inl (since_settles_none earlier forgotten note announced)) (λ here. inl (told_settles_none scans rows listed (first_opened earlier opened) hiddens note (member_is (MayBegin scans rows listed (first_opened earlier opened) hiddens) begun note are.each here))) (Contains-append_cases (noted_since earlier forgotten) begun note told))
          (λ later. inr (member_is (HasGround all_turned acknowledged) collected note grounded later))
          (Contains-append_cases (noted_since earlier forgotten ++ begun) collected note
          (often_contains same_note tells_notes ((noted_since earlier forgotten ++ begun) ++ collected) notes note (often_back notes ((noted_since earlier forgotten ++ begun) ++ collected) mixed.often) there))
