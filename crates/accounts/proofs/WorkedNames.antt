-- A worked history of a file that is not read once: a turn reports its first line, a scan shows it by another path, and a turn reports its second
-- line by that. And what is refused: an event that was reported by the path before the file had it, or by one that no scan showed; a file
-- that might be ended, though it was not removed; a harvester that rests while its file's key is asked.
use Rattle.std.proofs.Common.{◌≡◌, inl, inr, ℕ, ◌+◌, Bool, true, false, List, [], ◌∷◌, ◌++◌, codes, get_or, refl, sym, ap, subst, ◌∙◌, arith}
use Rattle.std.specs.List.{AllByRecursion}
use Rattle.harvester.specs.History.{Asks, Ended, History, Reads, opened, with_path}
use Rattle.harvester.specs.Turned.{with_turn}
use Rattle.harvester.specs.Turns.{AsksNothing, Did, after_did}
use Rattle.harvester.specs.declared.turn.Turn.TheVariants.{Passed}
use Rattle.told_events.proofs.Worked.{a_log}
use Rattle.told_events.specs.Fate.{DroppedBy}
use Rattle.told_events.specs.Told.{ToldEvent}
use Rattle.accounts.specs.Opened.{Opened}
use Rattle.accounts.specs.ToldFile.{AreToldInTurn, IsHistoryOf, IsToldBy, events_in}
use Rattle.accounts.specs.Turning.{IsAtItsEnd}
use Rattle.accounts.specs.Watch.{MayFindEnd, Name, Watch}
use Rattle.accounts.proofs.Worked as worked

abbrev b_log : List ℕ
b_log = codes "/w/b.log"

-- the second scan shows the file by it
abbrev second_name : Name
second_name = record { scan = 1; path = b_log }

-- of a run that reads on: this is all that its scans tell
abbrev watch : Watch
watch = record { processors = []; once = false; removed = λ (one : Opened). ⊥; renamed = λ (one : Opened) (name : Name). name ≡ second_name }

-- ---- two turns, and the name between them

abbrev read_two : List ℕ → Did
read_two bytes = record { bytes = bytes; licences = []; stage = Reads }

abbrev as_opened : History
as_opened = opened worked.opened.rule [] worked.opened.begin [] 4

-- a rule drops each line
abbrev first_told : History
first_told = after_did 4 (Passed (record { start = 0; end = 2 }) (record { 0 = 1 })) (read_two (codes "a\n")) (with_turn 4 false as_opened)

abbrev second_told : History
second_told = after_did 7 (Passed (record { start = 2; end = 4 }) (record { 0 = 1 })) (read_two (codes "b\n")) (with_turn 7 false (with_path b_log first_told))

abbrev told_at : ℕ → ℕ → List ℕ → ToldEvent
told_at now start path = record { span = record { start = start; end = start + 2 }; path = path; now = now; fate = DroppedBy 1 }

pub each_by_its_path : events_in second_told ≡ told_at 4 0 a_log ∷ told_at 7 2 b_log ∷ []
each_by_its_path = refl

pub is_its_history : IsHistoryOf watch worked.opened (4 ∷ 7 ∷ []) second_told
is_its_history = record {
  rule = refl;
  processors_are = refl;
  begin = refl;
  asked_before = refl;
  names = second_name ∷ [];
  rise = (omega arith, tt);
  renamed = (refl, tt);
  path = refl;
  ends = λ ends. absurd (let no : false ≡ true = ends in cc);
  may_end = λ may. absurd (let no : false ≡ true = may in cc);
  not_forgotten = refl;
  epochs = (refl, refl, tt);
  at = ([], 7 ∷ [], refl, ([], 7 ∷ [], refl, (4 ∷ [], [], refl, tt)));
  told = (
    told_at 4 0 a_log ∷ [],
    told_at 7 2 b_log ∷ [],
    refl,
    (record { path_is = refl; given = (0, omega arith, refl) }, tt),
    (record { path_is = refl; given = (1, omega arith, refl) }, tt),
  );
}

-- ---- what is refused

other_path : a_log ≡ b_log → ⊥
other_path same = let n : 97 ≡ 98 = ap (λ (l : List ℕ). get_or l 3 0) same in omega (arith, n)

module _ (moments : List ℕ) where
  -- by the path that the file had only later
  told_before_it_was_renamed : AreToldInTurn moments a_log (second_name ∷ []) (told_at 4 0 b_log ∷ told_at 7 2 a_log ∷ []) → ⊥
  told_before_it_was_renamed told = by_part told.0 told.1 told.2 told.3 told.4
    where
      by_part : (before since : List ToldEvent) → told_at 4 0 b_log ∷ told_at 7 2 a_log ∷ [] ≡ before ++ since → AllByRecursion (IsToldBy a_log moments) before →
          AllByRecursion (IsToldBy b_log moments) since → ⊥
      by_part [] since are first later = other_path (subst (AllByRecursion (IsToldBy b_log moments)) (sym are) later).1.0.path_is
      by_part (one ∷ before) since are first later =
          let same : told_at 4 0 b_log ≡ one = cc in
          other_path (sym (ap (λ (event : ToldEvent). event.path) same ∙ first.0.path_is))

  -- or that no scan showed
  told_by_another_path : AreToldInTurn moments a_log [] (told_at 4 0 b_log ∷ []) → ⊥
  told_by_another_path told = other_path (sym told.0.path_is)

  -- its end might be found
  ended_while_it_is_listed : (history : History) → history.may_end ≡ true → IsHistoryOf watch worked.opened moments history → ⊥
  ended_while_it_is_listed history might is = by_case (is.may_end might)
    where
      by_case : MayFindEnd watch worked.opened → ⊥
      by_case (inl once) = let no : false ≡ true = once in cc
      by_case (inr removed) = removed

rests_while_its_key_is_asked : (once : Bool) (history : History) → history.stage ≡ Asks → IsAtItsEnd once history → ⊥
rests_while_its_key_is_asked once history asks is = subst AsksNothing asks is.asks_nothing

-- if files are read once, one that reads on is not at rest
rests_while_it_reads_on : (history : History) → history.stage ≡ Reads → IsAtItsEnd true history → ⊥
rests_while_it_reads_on history reads is = let no : Reads ≡ Ended = sym reads ∙ (is.told refl).ended in cc

-- but at its file's end it is, if that is read on
pub rests_and_reads_on : (history : History) → history.stage ≡ Reads → history.ends ≡ false → IsAtItsEnd false history
rests_and_reads_on history reads none = record {
  asks_nothing = subst AsksNothing (sym reads) tt;
  told = λ ends. absurd (let no : false ≡ true = sym none ∙ ends in cc);
}
