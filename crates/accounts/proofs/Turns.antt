-- Slots that take no turns: if no two of them have one key, nothing is asked of the order in which they came and went; and hidden rows whose slots
-- are all greater than those of files are beside them.
use Rattle.std.proofs.Common.{◌≡◌, ◌≢◌, ◌⊎◌, inl, inr, ℕ, ◌<◌, ◌≤◌, List, [], ◌∷◌, map, Option, sym, ap, ◌∙◌, arith}
use Rattle.std.specs.List.{AllByRecursion, Contains}
use Rattle.std.proofs.lemmas.List.Elements.{Contains-append_cases}
use Rattle.kept_rows.specs.Account.{Following, Place, SlotAccount, key_of, slot_of}
use Rattle.kept_rows.specs.Followed.{IsNewlyKnown}
use Rattle.kept_rows.specs.Run.{Run}
use Rattle.kept_rows.specs.Scans.{AreDistinct}
use Rattle.ship_core.proofs.Members.{first_there, later_there, none_there}
use Rattle.wire_base.specs.declared.note.Note.{Note}
use Rattle.wire_base.specs.declared.parcel.Parcel.{Parcel}
use Rattle.accounts.specs.Filed.{Filed, accounts_of, following_of, slot_in}
use Rattle.accounts.specs.FollowedFile.{key_in}
use Rattle.accounts.specs.Hidden.{AreBeside, AreHiddenFrom, Hidden, hidden_following, hidden_key, hidden_slot, with_hidden}
use Rattle.accounts.specs.RunTold.{TakeTurns, all_slots}
use Rattle.accounts.proofs.Following.{newly_among}
use Rattle.accounts.proofs.Grounded.{of_map}
use Rattle.accounts.proofs.HiddenSlots.{has_with_hidden, hidden_from}
use Rattle.accounts.proofs.Orderly.{member_is, same_item}

-- ---- after all files

from_none : (least : ℕ) (hiddens : List Hidden) → AreHiddenFrom least hiddens → AreHiddenFrom 0 hiddens
from_none least [] rise = tt
from_none least (hidden ∷ hiddens) rise = (omega arith, rise.1)

pub behind_is_beside : (files : List Filed) (hiddens : List Hidden) (least : ℕ) → AllByRecursion (λ (file : Filed). slot_in file < least) files → AreHiddenFrom least hiddens →
    AreBeside files hiddens
behind_is_beside files hiddens least below rise = record {
  slots = from_none least hiddens rise;
  other_slots = λ file among hidden there same.
      let less = member_is (λ (f : Filed). slot_in f < least) files file below among in
      let from = hidden_from least hiddens hidden rise there in
      omega (arith, less, from, same);
}

-- ---- of other keys

module _ (run : Run) (files : List Filed) (hiddens : List Hidden) (notes : List Note) (keys : AreDistinct (map key_in files)) (hidden_keys : AreDistinct (map hidden_key hiddens))
    (others : (file : Filed) → Contains files file → (hidden : Hidden) → Contains hiddens hidden → key_in file ≢ hidden_key hidden) where
  same_slot : (one other : Following) → Contains (all_slots files hiddens) one → Contains (all_slots files hiddens) other → one.key ≡ other.key → one.slot ≡ other.slot
  same_slot one other there behind same =
      by_part (Contains-append_cases (map following_of files) (map hidden_following hiddens) one there)
      (Contains-append_cases (map following_of files) (map hidden_following hiddens) other behind)
    where
      by_part : Contains (map following_of files) one ⊎ Contains (map hidden_following hiddens) one →
          Contains (map following_of files) other ⊎ Contains (map hidden_following hiddens) other → one.slot ≡ other.slot
      by_part (inl first) (inl second) =
          let a = of_map following_of files one first in
          let b = of_map following_of files other second in
          let file = same_item key_in files a.item b.item keys a.among b.among (ap (λ (f : Following). f.key) a.is ∙ same ∙ ap (λ (f : Following). f.key) (sym b.is)) in
          ap (λ (f : Following). f.slot) (sym a.is) ∙ ap slot_in file ∙ ap (λ (f : Following). f.slot) b.is
      by_part (inl first) (inr second) =
          let a = of_map following_of files one first in
          let b = of_map hidden_following hiddens other second in
          absurd (others a.item a.among b.item b.among (ap (λ (f : Following). f.key) a.is ∙ same ∙ ap (λ (f : Following). f.key) (sym b.is)))
      by_part (inr first) (inl second) =
          let a = of_map hidden_following hiddens one first in
          let b = of_map following_of files other second in
          absurd (others b.item b.among a.item a.among (ap (λ (f : Following). f.key) b.is ∙ sym same ∙ ap (λ (f : Following). f.key) (sym a.is)))
      by_part (inr first) (inr second) =
          let a = of_map hidden_following hiddens one first in
          let b = of_map hidden_following hiddens other second in
          let hidden = same_item hidden_key hiddens a.item b.item hidden_keys a.among b.among (ap (λ (f : Following). f.key) a.is ∙ same ∙ ap (λ (f : Following). f.key) (sym b.is)) in
          ap (λ (f : Following). f.slot) (sym a.is) ∙ ap hidden_slot hidden ∙ ap (λ (f : Following). f.slot) b.is

  none_later : (one later : Following) → Contains (all_slots files hiddens) one → Contains (all_slots files hiddens) later → one.slot < later.slot → one.key ≡ later.key → ⊥
  none_later one later there behind less same = let equal = same_slot one later there behind same in omega (arith, less, equal)

  newly : (some : List Filed) → AllByRecursion (λ (file : Filed). IsNewlyKnown run [] (following_of file)) some → AllByRecursion (IsNewlyKnown run (all_slots files hiddens)) (map following_of some)
  newly [] new = tt
  newly (file ∷ some) new = (newly_among run [] (all_slots files hiddens) (following_of file) (λ other none. absurd (none_there other none)) new.0, newly some new.1)

  pub apart_take_turns : AllByRecursion (λ (file : Filed). IsNewlyKnown run [] (following_of file)) files → TakeTurns run files hiddens notes
  apart_take_turns new = record {
    gone = λ one later there behind less same. absurd (none_later one later there behind less same);
    no_row = λ one later there behind less same. absurd (none_later one later there behind less same);
    newly_known = newly files new;
  }

abbrev IsNoNewer : Hidden → SlotAccount → Type 0
IsNoNewer hidden other = key_of other ≡ hidden_key hidden → slot_of other ≤ hidden_slot hidden

-- the slot of a hidden row is the newest one of its key, if no file has it
pub hidden_is_newest : (files : List Filed) (hiddens : List Hidden) → AreDistinct (map hidden_key hiddens) →
    ((file : Filed) → Contains files file → (hidden : Hidden) → Contains hiddens hidden → key_in file ≢ hidden_key hidden) → (placed : Parcel → Option Place) (hidden : Hidden) → Contains hiddens hidden →
    AllByRecursion (λ (other : SlotAccount). key_of other ≡ hidden_key hidden → slot_of other ≤ hidden_slot hidden) (with_hidden (accounts_of placed files) hiddens)
hidden_is_newest files hiddens keys others placed hidden there =
    has_with_hidden (IsNoNewer hidden) (accounts_of placed files) hiddens (each files (λ file among. among))
    (λ other among same. let equal = ap hidden_slot (same_item hidden_key hiddens other hidden keys among there same) in omega (arith, equal))
  where
    each : (some : List Filed) → ((file : Filed) → Contains some file → Contains files file) → AllByRecursion (IsNoNewer hidden) (accounts_of placed some)
    each [] among = tt
    each (file ∷ some) among = (
      λ same. absurd (others file (among file (first_there file some)) hidden there same),
      each some (λ other behind. among other (later_there file other some behind)),
    )
