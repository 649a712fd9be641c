-- What came of the files that were to be followed (this project's profile): each of them, in the order of the list, is followed, or its path is
-- reported with the reason for which it was skipped; and no other path is reported. Each that was skipped has an opening of its own, in sequence.
use Rattle.std.specs.Prelude.{◌≡◌, ◌⊎◌, ℕ, suc, ◌≤◌, Any, Contains, List, [], ◌∷◌, slice_get, Some}
use Rattle.kept_rows.specs.Account.{FollowedTail, SlotAccount, key_of, slot_of}
use Rattle.kept_rows.specs.Run.{Run}
use Rattle.outside.specs.Folders.{Opened}
use Rattle.outside.specs.declared.history.Sight.{Sight}
use Rattle.prospect.specs.declared.listed.Listed.{Listed}
use Rattle.report.specs.declared.passing.Passing.{Passing}
use Rattle.report.specs.declared.passing.Why.{Why}
use Rattle.run_steps.specs.SkippedFor.{IsSkippedFor}

-- ---- file by file

module _ (Follows : ℕ → Listed → Type 0) (Skips : ℕ → Listed → ℕ → Why → Type 0) where
  -- the first path reported is that of this file, which was skipped by an opening at this place of the folder's list or after it; the rest are
  -- of files that were opened after that
  pub record SkipsFirst (slot place : ℕ) (one : Listed) (Rest : ℕ → List Passing → Type 0) (passed : List Passing) : Type 0 where
    pub opening : ℕ
    pub since : place ≤ opening
    pub why : Why
    pub skips : Skips slot one opening why
    pub later : List Passing
    pub passed_are : passed ≡ record { path = one.path; why = why } ∷ later
    pub rest : Rest (suc opening) later

  -- these files, the first of which has this slot; the openings by which some were skipped are from this place on
  abbrev pub FollowsOrSkips : ℕ → ℕ → List Listed → List Passing → Type 0
  FollowsOrSkips slot place [] passed = passed ≡ []
  FollowsOrSkips slot place (one ∷ listed) passed =
      (Follows slot one × FollowsOrSkips (suc slot) place listed passed)
      ⊎ SkipsFirst slot place one (λ next later. FollowsOrSkips (suc slot) next listed later) passed

-- ---- by an account

-- a slot of it has the key of the file
abbrev pub IsInAccount : List SlotAccount → Listed → Type 0
IsInAccount account one = Any (λ slot. one.key ≡ Some (key_of slot)) account

-- of a run whose scan ended at this place of the folder's list
module _ (run : Run) (account : List SlotAccount) (scanned : ℕ) where
  -- the slot of this number has the file's key and input, and a tail that was opened by its path after the scan
  pub record IsFollowedInSlot (number : ℕ) (one : Listed) : Type 0 where
    pub slot : SlotAccount
    pub of_account : Contains account slot
    pub number_is : slot_of slot ≡ number
    pub key_is : one.key ≡ Some (key_of slot)
    pub input_is : slot.following.input ≡ one.input
    pub tail : FollowedTail
    pub of_slot : Contains slot.following.tails tail
    pub behind : scanned ≤ tail.opening
    pub begun : Sight
    pub opened : slice_get run.trace.events tail.opening ≡ Some (Opened one.path slot.number begun)

  -- no slot has its key, and its opening showed the reason
  pub record IsSkippedBy (number : ℕ) (one : Listed) (opening : ℕ) (why : Why) : Type 0 where
    pub not_followed : ¬ (IsInAccount account one)
    pub reason : IsSkippedFor run.settings.inputs run.trace one opening why

  -- the files of the list, by their slots
  abbrev pub AreFollowedOrSkipped : List Listed → List Passing → Type 0
  AreFollowedOrSkipped listed passed = FollowsOrSkips IsFollowedInSlot IsSkippedBy 0 scanned listed passed
