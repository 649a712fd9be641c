-- A run that ends since a file has no numbers opened one that told none.
use Rattle.std.proofs.Common.{◌≡◌, ◌⊎◌, inl, inr, ℕ, List, [], ◌∷◌, ◌++◌, length, take, Option, None, Some, IfSome, IfErr, IsErrAnd, Result, Ok, Err, Bool, true, false, refl, sym, ap, subst, ◌∙◌, arith}
use Rattle.std.proofs.lemmas.List.{length-append}
use Rattle.std.specs.Prelude.{slice_get}
use Rattle.event_tree.specs.declared.settings.Settings.{Settings}
use Rattle.file_identity.specs.declared.identity_error.IdentityError.TheVariants.{NoNative as WithoutNumbers}
use Rattle.outside.specs.Files.{sight_of}
use Rattle.outside.specs.Folders.{Closed, Event, FolderHistory, Opened}
use Rattle.prospect.specs.declared.listed.Listed.{Listed}
use Rattle.report.specs.declared.passing.Passing.{Passing}
use Rattle.rounds.specs.Words.{TailWords}
use Rattle.rounds.specs.declared.crew.Crew.{Crew}
use Rattle.wire_base.specs.declared.numbers.Moment.{Moment}
use Rattle.wire_base.specs.declared.numbers.Slot.{Slot}
use Rattle.wire_base.specs.declared.row.Row.{Row}
use Rattle.run_steps.specs.BeginErrors.{ended_behind, met_of}
use Rattle.run_steps.specs.Beginning.{Beginning, BeginsOne, ClosesFile, FailsToTell, ListedFile}
use Rattle.run_steps.specs.BeginsAll.{EndsInFiles, file_at}
use Rattle.run_steps.specs.Releasing.{with_events}
use Rattle.run_steps.specs.Unnumbered.{IsMetUnnumbered, WasOpenedUnnumbered}
use Rattle.run_steps.specs.Worked.{IsBegunWith, IsWorkedBy, Tolls}
use Rattle.run_steps.specs.declared.begin_error.BeginError.{BeginError}
use Rattle.run_steps.specs.declared.begin_error.BeginError.TheVariants as begin
use Rattle.run_steps.specs.declared.beginning.BegunFiles.{BegunFiles}
use Rattle.run_steps.specs.declared.met.Met.{Met}
use Rattle.run_steps.specs.declared.met.Met.TheVariants.{DiskFault, Done, Epochs, FolderFault, NoMemory, NoNative, Stopped, Unreachable}
use Rattle.run_steps.proofs.Serving.{ServesFrom, closed_told, got_at_end, serves_from, with_more}
use Rattle.kept_rows.proofs.Acknowledging.{got_in_front}

-- ---- as files are begun

module _ {T W L : Type 0} (tails : TailWords T) (settings : Settings) (rows : List Row) (now : Moment) (listed : List Listed) (old new : Beginning T W L) where
  abbrev WithoutAny : ListedFile → T → T → Type 0
  WithoutAny file fresh asked = FailsToTell tails settings file fresh asked WithoutNumbers

  was_opened : (place : ℕ) (one : Listed) (mid : Beginning T W L) (passed : List Passing) (before : FolderHistory) → old.folder.told ≡ Some before → ServesFrom tails settings rows now 0 0 0 (take place listed) passed before old mid →
      (closed : ClosesFile tails settings (file_at rows place one now) (WithoutAny (file_at rows place one now)) mid new) → tails.numbers closed.fresh ≡ None →
      IfSome new.folder.told (λ later. WasOpenedUnnumbered one.path before later)
  was_opened place one mid passed before is serves closed none =
      let between = with_more before serves.events in
      let its = closed_told tails settings rows now (file_at rows place one now) (WithoutAny (file_at rows place one now)) between mid new closed (Err WithoutNumbers) closed.closed.why.asks serves.told in
      let opens = its.opens in
      subst (λ (o : Option FolderHistory). IfSome o (λ later. WasOpenedUnnumbered one.path before later)) (sym its.told) (record {
        opening = length between.events;
        since = let long = length-append before.events serves.events in omega (arith, long);
        number = opens.one.file;
        begun = sight_of opens.one;
        is = got_at_end between.events (Opened one.path opens.one.file (sight_of opens.one)) (Closed (length between.events) its.looks (tails.faults closed.closed.asked) ∷ []) (length between.events) refl;
        file = opens.file;
        file_is = opens.file_is;
        none = sym opens.numbers ∙ none;
      })

  where_told : (P : FolderHistory → Type 0) (o : Option FolderHistory) → ((before : FolderHistory) → o ≡ Some before → P before) → IfSome o P
  where_told P None each = tt
  where_told P (Some before) each = each before refl

  files_unnumbered : (error : BeginError) → EndsInFiles tails settings rows now listed error old new → IsMetUnnumbered settings listed old.folder.told new.folder.told (met_of error)
  files_unnumbered error (inl is) = subst (λ (e : BeginError). IsMetUnnumbered settings listed old.folder.told new.folder.told (met_of e)) (sym is.ended.error_is) (by_case is.came.faulty refl is.ended.what is.ended.begins)
    where
      by_case : (faulty : Bool) → is.came.faulty ≡ faulty → (what : BeginError) → BeginsOne tails settings (file_at rows is.count is.one now) (Err what) is.mid new →
          IsMetUnnumbered settings listed old.folder.told new.folder.told (met_of (ended_behind faulty what))
      by_case false none (begin.NoNative slot) begins =
          let closed = begins.1 in
          let asks = closed.closed.why.asks in
          record {
            one = is.one;
            listed_there = ap (λ (s : Slot). slice_get listed s.0) begins.0 ∙ is.is;
            rule = asks.rule;
            rule_is = asks.rule_is;
            by_numbers = asks.refused.0;
            opened = where_told (λ before. IfSome new.folder.told (λ later. WasOpenedUnnumbered is.one.path before later)) old.folder.told
                (λ before told.
                was_opened is.count is.one is.mid is.came.passed before told
                (serves_from tails settings rows now 0 0 0 (take is.count listed) is.came before old is.mid told (omega arith) (omega arith) none is.begins) closed asks.refused.1);
          }
      by_case false none begin.NoMemory begins = tt
      by_case false none begin.FolderFault begins = tt
      by_case true some (begin.NoNative slot) begins = tt
      by_case true some begin.NoMemory begins = tt
      by_case true some begin.FolderFault begins = tt
  files_unnumbered (begin.NoNative slot) (inr is) = absurd (let q : begin.NoNative slot ≡ begin.NoMemory = is.0 in cc)
  files_unnumbered begin.NoMemory (inr is) = tt
  files_unnumbered begin.FolderFault (inr is) = tt

  pub begun_unnumbered : {A : Type 0} (result : Result A BeginError) (what : BeginError) → IsErrAnd result (λ other. other ≡ what) → EndsInFiles tails settings rows now listed what old new →
      IfErr result (λ error. IsMetUnnumbered settings listed old.folder.told new.folder.told (met_of error))
  begun_unnumbered (Ok value) what is ended = tt
  begun_unnumbered (Err other) what is ended = subst (λ (e : BeginError). IsMetUnnumbered settings listed old.folder.told new.folder.told (met_of e)) (sym is) (files_unnumbered what ended)

-- out of memory is not that
pub memory_unnumbered : {A : Type 0} (settings : Settings) (listed : List Listed) (before after : Option FolderHistory) (result : Result A BeginError) → IsErrAnd result (λ other. other ≡ begin.NoMemory) →
    IfErr result (λ error. IsMetUnnumbered settings listed before after (met_of error))
memory_unnumbered settings listed before after (Ok value) is = tt
memory_unnumbered settings listed before after (Err other) is = subst (λ (e : BeginError). IsMetUnnumbered settings listed before after (met_of e)) (sym is) tt

-- ---- at the end of the run

module _ (settings : Settings) (listed : List Listed) (before mid after : Option FolderHistory) where
  still_opened : (path : List ℕ) (earlier later : FolderHistory) (events : List Event) → WasOpenedUnnumbered path earlier later → WasOpenedUnnumbered path earlier (record later { events = later.events ++ events })
  still_opened path earlier later events was = record {
    opening = was.opening;
    since = was.since;
    number = was.number;
    begun = was.begun;
    is = got_in_front later.events events was.opening (Opened path was.number was.begun) was.is;
    file = was.file;
    file_is = was.file_is;
    none = was.none;
  }

  on : (path : List ℕ) (earlier : FolderHistory) (o : Option FolderHistory) (events : List Event) → IfSome o (λ later. WasOpenedUnnumbered path earlier later) → IfSome (with_events events o) (λ later. WasOpenedUnnumbered path earlier later)
  on path earlier None events was = tt
  on path earlier (Some later) events was = still_opened path earlier later events was

  both_on : (path : List ℕ) (o : Option FolderHistory) (events : List Event) → after ≡ with_events events mid → IfSome o (λ earlier. IfSome mid (λ later. WasOpenedUnnumbered path earlier later)) →
      IfSome o (λ earlier. IfSome after (λ later. WasOpenedUnnumbered path earlier later))
  both_on path None events is was = tt
  both_on path (Some earlier) events is was = subst (λ (o : Option FolderHistory). IfSome o (λ later. WasOpenedUnnumbered path earlier later)) (sym is) (on path earlier mid events was)

  unnumbered_on : (met : Met) (events : List Event) → after ≡ with_events events mid → IsMetUnnumbered settings listed before mid met → IsMetUnnumbered settings listed before after met
  unnumbered_on (NoNative slot) events is was = record {
    one = was.one;
    listed_there = was.listed_there;
    rule = was.rule;
    rule_is = was.rule_is;
    by_numbers = was.by_numbers;
    opened = both_on was.one.path before events is was.opened;
  }
  unnumbered_on Done events is was = tt
  unnumbered_on Stopped events is was = tt
  unnumbered_on NoMemory events is was = tt
  unnumbered_on DiskFault events is was = tt
  unnumbered_on FolderFault events is was = tt
  unnumbered_on (Unreachable worker) events is was = tt
  unnumbered_on (Epochs slot) events is was = tt

  none_worked : {T W L : Type 0} (crew : Crew T W L) (was now : Tolls) (met : Met) → IsWorkedBy crew was now met → IsMetUnnumbered settings listed before after met
  none_worked crew was now (NoNative slot) by = absurd by
  none_worked crew was now Done by = tt
  none_worked crew was now Stopped by = tt
  none_worked crew was now NoMemory by = tt
  none_worked crew was now DiskFault by = tt
  none_worked crew was now FolderFault by = tt
  none_worked crew was now (Unreachable worker) by = tt
  none_worked crew was now (Epochs slot) by = tt

  pub met_unnumbered : {T W L : Type 0} (begun : Result BegunFiles BeginError) (met : Met) → IfErr begun (λ error. IsMetUnnumbered settings listed before mid (met_of error)) → (events : List Event) → after ≡ with_events events mid →
      (crew : Crew T W L) (was now : Tolls) → IsBegunWith begun met ⊎ IsWorkedBy crew was now met → IsMetUnnumbered settings listed before after met
  met_unnumbered (Ok files) met unnumbered events is crew was now (inl of) = subst (IsMetUnnumbered settings listed before after) (sym of.1) tt
  met_unnumbered (Err error) met unnumbered events is crew was now (inl of) = subst (IsMetUnnumbered settings listed before after) (sym of) (unnumbered_on (met_of error) events is unnumbered)
  met_unnumbered begun met unnumbered events is crew was now (inr by) = none_worked crew was now met by
