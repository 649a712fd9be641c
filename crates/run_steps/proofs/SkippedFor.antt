-- The reason for which a file was skipped as it was opened stands however the folder's list goes on.
use Rattle.std.proofs.Common.{◌≡◌, ℕ, suc, ◌≤◌, drop, List, [], ◌++◌, Option, Some, None, refl, sym, ap, subst, ◌∙◌, arith}
use Rattle.std.proofs.lemmas.List.{drop-append-le}
use Rattle.std.proofs.lemmas.Option.{slice_get_within}
use Rattle.std.specs.Prelude.{option_map, slice_get}
use Rattle.event_tree.specs.declared.input_rule.InputRule.{InputRule}
use Rattle.kept_rows.specs.Trace.{Closing, Trace, closing_in, closing_of, first_of_two, looks_of, open_looks_in}
use Rattle.outside.specs.Files.{File}
use Rattle.outside.specs.Folders.{Event, NotThere, Opened}
use Rattle.outside.specs.declared.history.Look.{Look}
use Rattle.prospect.specs.declared.listed.Listed.{Listed}
use Rattle.report.specs.declared.passing.Why.{Why}
use Rattle.report.specs.declared.passing.Why.TheVariants.{Doubled, Gone, Moved, Old, Small}
use Rattle.run_steps.specs.SkippedFor.{GaveAsOpened, IsSkippedFor}
use Rattle.run_steps.proofs.Openings.{closing_stays}
use Rattle.kept_rows.proofs.Acknowledging.{got_in_front}

found_first : (o : Option Closing) (rest later : Option Closing) (closing : Closing) → first_of_two o rest ≡ Some closing → (rest ≡ Some closing → later ≡ Some closing) → first_of_two o later ≡ Some closing
found_first None rest later closing is on = on is
found_first (Some found) rest later closing is on = is

-- a closing that stands in a list stands there however it goes on
closed_still : (xs more : List Event) (opening : ℕ) (x : Event) (closing : Closing) → slice_get xs opening ≡ Some x → closing_in opening (drop (suc opening) xs) ≡ Some closing →
    closing_in opening (drop (suc opening) (xs ++ more)) ≡ Some closing
closed_still xs more opening x closing at is =
    let within = slice_get_within xs opening x at in
    ap (closing_in opening) (drop-append-le (suc opening) xs more (omega (arith, within))) ∙ closing_stays opening (drop (suc opening) xs) more closing is

module _ (old new : Trace) (more : List Event) (files : new.files ≡ old.files) (events : new.events ≡ old.events ++ more) (began : new.began ≤ old.began) (none_open : old.open_tails ≡ []) where
  stands_still : (place : ℕ) (event : Event) → slice_get old.events place ≡ Some event → slice_get new.events place ≡ Some event
  stands_still place event is = subst (λ (l : List Event). slice_get l place ≡ Some event) (sym events) (got_in_front old.events more place event is)

  tells_still : (opening : ℕ) (event : Event) (looks : List Look) → slice_get old.events opening ≡ Some event → looks_of old opening ≡ Some looks → looks_of new opening ≡ Some looks
  tells_still opening event looks is tells = by_closing (closing_of old opening) (closed_still old.events more opening event) closed
    where
      closed : first_of_two (option_map (λ (c : Closing). c.looks) (closing_of old opening)) None ≡ Some looks
      closed = subst (λ (tails : List _). first_of_two (option_map (λ (c : Closing). c.looks) (closing_of old opening)) (open_looks_in opening tails) ≡ Some looks) none_open tells

      by_closing : (o : Option Closing) → ((closing : Closing) → slice_get old.events opening ≡ Some event → o ≡ Some closing → closing_in opening (drop (suc opening) (old.events ++ more)) ≡ Some closing) →
          first_of_two (option_map (λ (c : Closing). c.looks) o) None ≡ Some looks → looks_of new opening ≡ Some looks
      by_closing None still none = absurd (let q : None ≡ Some looks = none in cc)
      by_closing (Some closing) still some =
          let found : closing_of new opening ≡ Some closing = ap (λ (l : List Event). closing_in opening (drop (suc opening) l)) events ∙ still closing is refl in
          ap (λ (o : Option Closing). first_of_two (option_map (λ (c : Closing). c.looks) o) (open_looks_in opening new.open_tails)) found ∙ some

  module _ (inputs : List InputRule) (one : Listed) (opening : ℕ) where
    gave_still : (key : Option (List ℕ)) → GaveAsOpened inputs old one opening key → GaveAsOpened inputs new one opening key
    gave_still key was = record {
      rule = was.rule;
      rule_is = was.rule_is;
      number = was.number;
      gave = record {
        looks = was.gave.looks;
        file = was.gave.file;
        tail = record {
          in_this_run = let within = was.gave.tail.in_this_run in omega (arith, within, began);
          begun = was.gave.tail.begun;
          opened = stands_still opening (Opened one.path was.number was.gave.tail.begun) was.gave.tail.opened;
          tells = tells_still opening (Opened one.path was.number was.gave.tail.begun) was.gave.looks was.gave.tail.opened was.gave.tail.tells;
        };
        closed = ap (λ (l : List Event). closing_in opening (drop (suc opening) l)) events
            ∙ closed_still old.events more opening (Opened one.path was.number was.gave.tail.begun) (record { looks = was.gave.looks; faults = 0 }) was.gave.tail.opened was.gave.closed;
        file_is = ap (λ (l : List File). slice_get l was.number) files ∙ was.gave.file_is;
        asking = was.gave.asking;
        gave = was.gave.gave;
      };
    }

    pub skipped_still : (why : Why) → IsSkippedFor inputs old one opening why → IsSkippedFor inputs new one opening why
    unfolding gave_still
    skipped_still Gone was = record { in_this_run = let within = was.in_this_run in omega (arith, within, began); not_there = stands_still opening (NotThere one.path) was.not_there }
    skipped_still Moved was = record { other = was.other; opened = gave_still (Some was.other) was.opened; other_key = was.other_key }
    skipped_still Small was = record { opened = gave_still None was.opened; by_bytes = was.by_bytes }
    skipped_still Doubled was = absurd was
    skipped_still Old was = absurd was
