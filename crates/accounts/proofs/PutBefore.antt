-- An opening that came before those of a file is put before them: if the file was reopened as it was closed, then so are those after it, for what both
-- told. So the openings of a file may be joined one by one, from the last one on.
use Rattle.std.proofs.Common.{◌≡◌, ℕ, List, [], ◌∷◌, Some, refl, sym, subst, ◌∙◌}
use Rattle.accounts.proofs.Reopened.{EndsAs, ends_as, goes_on_from}
use Rattle.accounts.specs.Filed.{Filed, Opening, first_opening, tail_by, told_both}
use Rattle.accounts.specs.FollowedFile.{AreReopened, IsOpeningOf, MayReopenAt, WasShownLast, start_in, tail_with}
use Rattle.accounts.specs.Opened.{Opened}
use Rattle.accounts.specs.ToldFile.{IsToldFile}
use Rattle.accounts.specs.Watched.{watch_in}
use Rattle.harvester.specs.History.{History, told_to}
use Rattle.kept_rows.specs.Followed.{IsClosedBefore}
use Rattle.kept_rows.specs.Run.{Run}
use Rattle.slot_parts.specs.Account.{goes_on}
use Rattle.wire_base.specs.declared.numbers.Slot.{Slot}

-- both were opened for one file, by one rule
pub record AreOfOneSlot (one other : Opened) : Type 0 where
  pub slot : one.begin.slot ≡ other.begin.slot
  pub input : one.begin.input ≡ other.begin.input
  pub key : one.begin.key ≡ other.begin.key
  pub rule : one.rule ≡ other.rule

module _ (run : Run) where
  -- ---- an opening of a file is one of it, whichever of its openings is the first

  pub opening_of_other : (first other : Opened) → AreOfOneSlot first other → (one : Opening) → IsOpeningOf run first one → IsOpeningOf run other one
  opening_of_other first other same one is = record {
    same_slot = is.same_slot ∙ same.slot;
    same_input = is.same_input ∙ same.input;
    same_key = is.same_key ∙ same.key;
    same_rule = is.same_rule ∙ same.rule;
    gave = is.gave;
    file_is = is.file_is;
    tail = is.tail;
    told = subst (λ (s : Slot). IsToldFile (watch_in run) one.opened run.trace.moments (record { slot = s; history = one.history }) (Some (tail_with one.opened one.looks))) same.slot is.told;
  }

  -- ---- where it ends does not depend on what was told before

  goes_as : (first : Opened) (next : Opening) (so_far : History) (size : ℕ) → IsOpeningOf run first next → start_in next.opened ≡ goes_on so_far.present.epoch (told_to so_far.present) size →
      EndsAs (told_both so_far next.history) next.history
  goes_as first next so_far size is starts =
      ends_as so_far.past so_far.present next.history next.history.past next.opened.begin.epoch.0 next.opened.begin.base
      (goes_on_from so_far.present.epoch (told_to so_far.present) size next.opened.begin.epoch.0 next.opened.begin.base starts) is.told.history.epochs

  same_ends : (one two last : History) → EndsAs one last → EndsAs two last → EndsAs one two
  same_ends one two last first second = record { epoch_is = first.epoch_is ∙ sym second.epoch_is; place_is = first.place_is ∙ sym second.place_is }

  module _ (first other : Opened) (same : AreOfOneSlot first other) where
    reopened_for : (last : Opening) (so_far longer : History) → EndsAs longer so_far → (later : List Opening) → AreReopened run first last so_far later → AreReopened run other last longer later
    reopened_for last so_far longer ends [] are = tt
    reopened_for last so_far longer ends (next ∷ later) are =
        let is = are.0 in
        let starts : start_in next.opened ≡ goes_on longer.present.epoch (told_to longer.present) is.shown.shown.entry.size =
        is.starts ∙ (λ k. goes_on (sym ends.epoch_is k) (sym ends.place_is k) is.shown.shown.entry.size) in (
          record { is = opening_of_other first other same next is.is; shown = is.shown; starts = starts; may = is.may; closed = is.closed },
          reopened_for next (told_both so_far next.history) (told_both longer next.history)
              (same_ends (told_both longer next.history) (told_both so_far next.history) next.history (goes_as first next longer is.shown.shown.entry.size is.is starts)
              (goes_as first next so_far is.shown.shown.entry.size is.is is.starts)) later are.1,
        )

  -- ---- put before the others

  -- it was closed before the file was opened as it is known, which goes on from there
  pub record ComesBefore (one : Opening) (file : Filed) : Type 0 where
    pub same : AreOfOneSlot file.opened one.opened
    pub is : IsOpeningOf run file.opened (first_opening file)
    pub shown : WasShownLast run file.opened
    pub starts : start_in file.opened ≡ goes_on one.history.present.epoch (told_to one.history.present) shown.shown.entry.size
    pub may : MayReopenAt one.history.stage
    pub closed : IsClosedBefore run.trace (tail_by one).tail (tail_by (first_opening file)).tail

  pub reopened_behind : (one : Opening) (file : Filed) → ComesBefore one file → AreReopened run file.opened (first_opening file) file.turned.history file.later →
      AreReopened run one.opened one one.history (first_opening file ∷ file.later)
  reopened_behind one file comes are =
      let is : IsOpeningOf run one.opened (first_opening file) = opening_of_other file.opened one.opened comes.same (first_opening file) comes.is in (
        record { is = is; shown = comes.shown; starts = comes.starts; may = comes.may; closed = comes.closed },
        reopened_for file.opened one.opened comes.same (first_opening file) file.turned.history (told_both one.history file.turned.history)
            (goes_as one.opened (first_opening file) one.history comes.shown.shown.entry.size is comes.starts) file.later are,
      )
