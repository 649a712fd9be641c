-- A worked file that is opened again: its tail told up to byte 7 of epoch 2 and was closed at its file's end. Listed with 9 bytes it goes on there, and nothing is
-- announced; listed with 3 it goes on from its first byte in epoch 3, which is announced. A tail that is open, one that was closed as it was asked for
-- its key, another key, a place among the bytes that were told, and an opening that goes on by another size than it was listed with are refused.
use Rattle.std.proofs.Common.{◌≡◌, ◌==◌, ℕ, List, [], ◌∷◌, ◌++◌, Contains, None, if◌then◌else◌, codes, refl, sym, ap, subst, ◌∙◌, arith}
use Rattle.accounts.specs.FollowedFile.{MayReopenAt, start_in}
use Rattle.accounts.specs.Opened.{Opened}
use Rattle.accounts.specs.OpenedAgain.{announced_after}
use Rattle.event_tree.specs.declared.input_rule.InputRule.{InputRule}
use Rattle.event_tree.specs.declared.processor_rule.ProcessorRule.{ProcessorRule}
use Rattle.harvester.specs.History.{Asks, Ended, History, told_to}
use Rattle.kept_rows.specs.Followed.{Start}
use Rattle.outside.specs.Files.{File}
use Rattle.rounds.specs.Books.{Told}
use Rattle.ship_core.proofs.Members.{first_there, none_there}
use Rattle.slot_parts.specs.Account.{goes_on}
use Rattle.slot_parts.specs.Tellings.{tellings_in}
use Rattle.wire_base.specs.declared.note.Note.{Note}
use Rattle.wire_base.specs.declared.note.Note.TheVariants.{Announce}
use Rattle.run_steps.specs.Earlier.{AreInTurn, AreOfOneFile, GoesOnFrom}
use Rattle.run_steps.specs.OpenedAgain.{IsClosedLast, IsOpenedAgain, goes_on_behind, just_opened}
use Rattle.run_steps.specs.Reopening.{goes_on_at}
use Rattle.run_steps.specs.SoFar.{Earlier, Left, SoFar, announced_by, files_of, first_opened}

-- what is announced is what accounts tell of a file with several tails
announced_as_told : (processors : List ProcessorRule) (now : ℕ) (one : Earlier) →
    announced_by one ≡ announced_after one.opened.begin.slot one.left.turned.history.present (tellings_in (just_opened processors one.next now).history)
announced_as_told processors now one = refl

module _ (rule : InputRule) (file : File) (processors : List ProcessorRule) (history : History) (in_epoch : history.present.epoch ≡ 2) (told_so_far : told_to history.present ≡ 7) (at_end : history.stage ≡ Ended) (told : Told) where
  -- opened at this place of the folder's list and listed with this size, to be read from this place of this epoch
  abbrev opened_with : List ℕ → ℕ → ℕ → ℕ → ℕ → Opened
  opened_with key opening size epoch base = record {
    begin = record { slot = record { 0 = 4 }; input = 0; key = key; path = codes "/a"; size = size; epoch = record { 0 = epoch }; base = base };
    rule = rule;
    opening = opening;
    number = 0;
    begun = record { life = 0; length = size };
    file = file;
    asked = [];
  }

  abbrev opened_at : List ℕ → ℕ → ℕ → ℕ → Opened
  opened_at key opening epoch base = opened_with key opening 9 epoch base

  abbrev first : Opened
  first = opened_at (1 ∷ []) 3 2 5

  abbrev closed : Left
  closed = record { turned = record { slot = record { 0 = 4 }; history = history }; told = None }

  abbrev before : SoFar
  before = record {
    moments = 1 ∷ [];
    scans = [];
    opened = first ∷ [];
    hidden = [];
    lanes = [] ∷ [];
    left = closed ∷ [];
    earlier = [];
    forgotten = [];
    told = told;
    begun = [];
    collected = [];
    queued = [];
    boxed = [];
  }

  is_closed : IsClosedLast (files_of before) first
  is_closed = record {
    among = first_there first [];
    before = [];
    left = closed;
    behind = [];
    left_are = refl;
    slot_is = refl;
    may = subst MayReopenAt (sym at_end) tt;
    not_forgotten = tt;
  }

  goes_on_where : (size : ℕ) → goes_on_behind closed size ≡ goes_on 2 7 size
  goes_on_where size = (λ k. goes_on (in_epoch k) (told_so_far k) size)

  -- ---- the file is as long as it was told, or longer

  abbrev longer : Opened
  longer = opened_at (1 ∷ []) 8 2 7

  longer_starts : start_in longer ≡ goes_on_behind closed 9
  longer_starts = sym (goes_on_where 9)

  longer_goes_on : GoesOnFrom history longer
  longer_goes_on = record { starts = longer_starts }

  nothing_announced : announced_by (record { opened = first; left = closed; next = longer }) ≡ []
  nothing_announced = (λ k. if 2 == in_epoch k then [] else Announce (record { 0 = 4 }) (record { 0 = 2 }) ∷ [])

  abbrev behind : SoFar
  behind = record before {
    opened = longer ∷ [];
    lanes = (just_opened processors longer 1 ∷ []) ∷ [];
    left = [];
    earlier = record { opened = first; left = closed; next = longer } ∷ [];
  }

  opened_again : IsOpenedAgain processors 1 first longer before behind closed
  opened_again = record {
    of_one = record { slot = refl; input = refl; key = refl; rule = refl };
    starts = longer_starts;
    front = [];
    behind = [];
    left_were = refl;
    left_are = refl;
    earlier = refl;
    opened = refl;
    lanes = λ h. refl;
    others = refl;
  }

  -- it is still known as it was opened first
  first_stays : first_opened behind.earlier behind.opened ≡ first ∷ []
  first_stays = refl

  in_turn : AreInTurn behind.opened behind.earlier
  in_turn = (refl, tt, tt)

  -- ---- the file is shorter

  abbrev shorter : Opened
  shorter = opened_with (1 ∷ []) 8 3 3 0

  shorter_starts : start_in shorter ≡ goes_on_behind closed 3
  shorter_starts = sym (goes_on_where 3)

  shorter_goes_on : GoesOnFrom history shorter
  shorter_goes_on = record { starts = shorter_starts }

  epoch_announced : announced_by (record { opened = first; left = closed; next = shorter }) ≡ Announce (record { 0 = 4 }) (record { 0 = 3 }) ∷ []
  epoch_announced = (λ k. if 3 == in_epoch k then [] else Announce (record { 0 = 4 }) (record { 0 = 3 }) ∷ [])

  -- ---- refused

  -- before it was closed
  open_is_refused : IsClosedLast (files_of (record before { left = [] })) first → ⊥
  open_is_refused is = none_in is.before is.left_are
    where
      none_in : (front : List Left) → [] ≡ front ++ is.left ∷ is.behind → ⊥
      none_in [] are = cc
      none_in (one ∷ front) are = cc

  asking_is_refused : MayReopenAt Asks → ⊥
  asking_is_refused may = may

  -- another file
  other_key_is_refused : AreOfOneFile first (opened_at (2 ∷ []) 8 2 7) → ⊥
  other_key_is_refused is = let other : 1 ∷ [] ≡ 2 ∷ [] = is.key in cc

  -- from a byte that was told
  told_byte_is_refused : start_in (opened_at (1 ∷ []) 8 2 6) ≡ goes_on_behind closed 9 → ⊥
  told_byte_is_refused is = let same = ap (λ (s : Start). s.base) (is ∙ goes_on_where 9) in omega (arith, same)

  -- listed with 3 bytes, and read on from byte 7 as if it had that many
  greater_size_is_refused : GoesOnFrom history (opened_with (1 ∷ []) 8 3 2 7) → ⊥
  greater_size_is_refused is = let same = ap (λ (s : Start). s.epoch) (is.starts ∙ goes_on_where 3) in omega (arith, same)

  -- listed with 9 bytes, and read from its first byte in the next epoch as if it were shorter than was told
  smaller_size_is_refused : GoesOnFrom history (opened_with (1 ∷ []) 8 9 3 0) → ⊥
  smaller_size_is_refused is = let same = ap (λ (s : Start). s.epoch) (is.starts ∙ goes_on_where 9) in omega (arith, same)

  -- an epoch that did not rise is not announced
  same_epoch_is_not_announced : (note : Note) → Contains (announced_by (record { opened = first; left = closed; next = longer })) note → ⊥
  same_epoch_is_not_announced note there = none_there note (subst (λ (l : List Note). Contains l note) nothing_announced there)

-- where the next tail goes on
stays : goes_on_at (record { epoch = 2; base = 7 }) 9 ≡ record { epoch = 2; base = 7 }
stays = refl

rises : goes_on_at (record { epoch = 2; base = 7 }) 3 ≡ record { epoch = 3; base = 0 }
rises = refl
