-- If the premises hold of all slots, what is said slot by slot is said of the run as a whole.
use Rattle.std.proofs.Common.{inl, inr, ℕ, List, [], ◌∷◌, Contains, map, subst}
use Rattle.std.specs.List.{AllByRecursion}
use Rattle.event_tree.specs.declared.input_rule.InputRule.{InputRule}
use Rattle.outside.specs.declared.history.Shown.{Shown}
use Rattle.ship_core.proofs.Members.{none_there, there_cases}
use Rattle.wire_base.specs.declared.row.Row.{Row}
use Rattle.kept_rows.specs.Account.{Following, SlotAccount}
use Rattle.kept_rows.specs.Drained.{HasRow, IsDoneWith, IsDrained, IsDrainedBySlots, IsDrainedWhere, IsReadToItsEnd, NothingSupposed, SlotsGiveTheWhole}
use Rattle.kept_rows.specs.Followed.{AreFollowed}
use Rattle.kept_rows.specs.Premises.{KeepsIdentity, Premises, SeesTruncationsOf, SlotPremises}
use Rattle.kept_rows.specs.Run.{Run, Scan}
use Rattle.kept_rows.specs.Telling.{AreSlotAccounts, IsAccount, IsSlotAccount}
use Rattle.kept_rows.proofs.Backing.{slot_in}

-- what is supposed of all slots is supposed of each
of_each : (P : Following → Type 0) (account : List SlotAccount) (one : SlotAccount) → AllByRecursion P (map (λ (s : SlotAccount). s.following) account) → Contains account one → P one.following
of_each P [] one all there = absurd (none_there one there)
of_each P (first ∷ account) one all there = elim (there_cases first one account there) [
  | inl same ↦ subst (λ (s : SlotAccount). P s.following) same all.0
  | inr later ↦ of_each P account one all.1 later
]

-- ---- the account

-- the account of a slot takes the premises of that slot only
pub slot_told : (run : Run) (account : List SlotAccount) (one : SlotAccount) → AreSlotAccounts run account → Contains account one → SlotPremises run one.following → IsSlotAccount run one
slot_told run account one are = among account are.each
  where
    among : (some : List SlotAccount) → AllByRecursion (λ (s : SlotAccount). SlotPremises run s.following → IsSlotAccount run s) some → Contains some one →
        SlotPremises run one.following → IsSlotAccount run one
    among [] each there = absurd (none_there one there)
    among (first ∷ some) each there = elim (there_cases first one some there) [
      | inl same ↦ subst (λ (s : SlotAccount). SlotPremises run s.following → IsSlotAccount run s) same each.0
      | inr later ↦ among some each.1 later
    ]

each_told : (run : Run) (account : List SlotAccount) → AllByRecursion (KeepsIdentity run) (map (λ (s : SlotAccount). s.following) account) →
    AllByRecursion SeesTruncationsOf (map (λ (s : SlotAccount). s.following) account) →
    AllByRecursion (λ (s : SlotAccount). SlotPremises run s.following → IsSlotAccount run s) account → AllByRecursion (IsSlotAccount run) account
each_told run [] keeps sees each = tt
each_told run (one ∷ account) keeps sees each = (each.0 (record { identity = keeps.0; truncations = sees.0 }), each_told run account keeps.1 sees.1 each.1)

whole_account : (run : Run) (account : List SlotAccount) → AreFollowed run (map (λ (s : SlotAccount). s.following) account) → AreSlotAccounts run account →
    Premises run (map (λ (s : SlotAccount). s.following) account) → IsAccount run account
whole_account run account followed are premises = record {
  followed = followed;
  each = each_told run account premises.identities premises.truncations are.each;
  places_apart = are.places_apart;
}

-- ---- a drained folder

module _ (Before Now : Following → Type 0) (run : Run) (account : List SlotAccount) (fewer : (one : SlotAccount) → Contains account one → Now one.following → Before one.following)
    (rule : InputRule) where
  still_read : (row : Row) → IsReadToItsEnd Before run rule account row → IsReadToItsEnd Now run rule account row
  still_read row read = record {
    slot = read.slot;
    one = read.one;
    slot_is = read.slot_is;
    key_is = read.key_is;
    epoch = read.epoch;
    epoch_is = read.epoch_is;
    reading = read.reading;
    of_epoch = read.of_epoch;
    place = read.place;
    found = read.found;
    file = read.file;
    file_is = read.file_is;
    offset_is = λ supposed. read.offset_is (fewer read.one (slot_in account read.slot read.one read.slot_is).0 supposed);
  }

  still_has_row : (rows : List Row) (scan : Scan) (shown : Shown) (input : ℕ) → HasRow Before run rule account rows scan shown input → HasRow Now run rule account rows scan shown input
  still_has_row rows scan shown input has = record {
    key = has.key;
    number = has.number;
    shows = has.shows;
    row = has.row;
    of_rows = has.of_rows;
    key_is = has.key_is;
    listed = has.listed;
    lists = has.lists;
    same_path = has.same_path;
    moment_is = has.moment_is;
    read = still_read has.row has.read;
  }

  -- an entry is done with as well where as much is supposed of the slots
  pub still_done_with : (rows : List Row) (scan : Scan) (shown : Shown) (input : ℕ) → IsDoneWith Before run account rows rule scan shown input → IsDoneWith Now run account rows rule scan shown input
  still_done_with rows scan shown input (inl passed) = inl passed
  still_done_with rows scan shown input (inr (inl changed)) = inr (inl changed)
  still_done_with rows scan shown input (inr (inr has)) = inr (inr (still_has_row rows scan shown input has))

pub still_drained : (Before Now : Following → Type 0) (run : Run) (account : List SlotAccount) (rows : List Row) →
    ((one : SlotAccount) → Contains account one → Now one.following → Before one.following) → IsDrainedWhere Before run account rows → IsDrainedWhere Now run account rows
still_drained Before Now run account rows fewer drained = record {
  scan = drained.scan;
  first = drained.first;
  whole = drained.whole;
  each = λ shown input rule entry rule_is covered. still_done_with Before Now run account fewer rule rows drained.scan shown input (drained.each shown input rule entry rule_is covered);
}

whole_drained : (run : Run) (account : List SlotAccount) (rows : List Row) → IsDrainedBySlots run account rows → Premises run (map (λ (s : SlotAccount). s.following) account) →
    IsDrained run account rows
whole_drained run account rows drained premises =
    still_drained SeesTruncationsOf NothingSupposed run account rows (λ one there none. of_each SeesTruncationsOf account one premises.truncations there) drained

pub give_the_whole : (run : Run) (account : List SlotAccount) (rows : List Row) → SlotsGiveTheWhole run account rows
give_the_whole run account rows = record {
  is_account = λ premises followed are. whole_account run account followed are premises;
  is_drained = λ premises drained. whole_drained run account rows drained premises;
}
