-- What a keeper is told of hidden rows once files were begun changes nothing else, and ends no run but for want of memory.
use Rattle.std.proofs.Common.{◌≡◌, ◌⊎◌, inl, inr, ℕ, List, [], ◌∷◌, Result, Ok, Err, IfOk, IfErr, sym, ap, subst, ◌∙◌}
use Rattle.std.proofs.lemmas.List.Elements.{recursion_from_All}
use Rattle.std.specs.List.{AllByRecursion}
use Rattle.event_tree.specs.declared.input_rule.InputRule.{InputRule}
use Rattle.event_tree.specs.declared.settings.Settings.{Settings}
use Rattle.keeper.specs.Keeping.{Keeping}
use Rattle.prospect.specs.declared.listed.Listed.{Listed}
use Rattle.report.specs.declared.passing.Passing.{Passing}
use Rattle.rounds.specs.Words.{TailWords}
use Rattle.wire_base.specs.declared.note.Note.{Note}
use Rattle.wire_base.specs.declared.note.Note.TheVariants.{Announce, Begin, Forget, Rename, Seen, Settle}
use Rattle.wire_base.specs.declared.numbers.Moment.{Moment}
use Rattle.run_steps.specs.Beginning.{Beginning}
use Rattle.run_steps.specs.BeginsAll.{BeginsAll, came_of}
use Rattle.run_steps.specs.HiddenRows.{HidesBegun, KnowsItsKeys, hidden_notes}
use Rattle.run_steps.specs.KnownKeys.{BeginsAmong}
use Rattle.run_steps.specs.Starting.{AreFewFiles}
use Rattle.run_steps.specs.Telling.{TellsNotes}
use Rattle.run_steps.specs.Worked.{HasPassed}
use Rattle.run_steps.specs.declared.begin_error.BeginError.{BeginError}
use Rattle.run_steps.specs.declared.begin_error.BeginError.TheVariants as begin
use Rattle.run_steps.specs.declared.beginning.BegunFiles.{BegunFiles}
use Rattle.run_steps.proofs.BeginningLists.{from_knows}
use Rattle.run_steps.proofs.KnownKeys.{are_of_keys, first_knows, keys_in, more_known}
use Rattle.run_steps.proofs.Notes.{IsSeen, moments_are_told, none_told}

abbrev Answered : Type 0
Answered = Result BegunFiles BeginError

-- it was told of them, and nothing else of it changed
pub record TellsMore (old new : Keeping) : Type 0 where
  pub more : List Note
  pub tells : TellsNotes more old new

pub hides_tell : (inputs : List InputRule) (listed : List Listed) (begun result : Answered) (old new : Keeping) → HidesBegun inputs listed begun result old new → TellsMore old new
hides_tell inputs listed (Ok files) (Ok same) old new hides = record { more = hidden_notes hides.1.hiddens; tells = hides.1.tells }
hides_tell inputs listed (Ok files) (Err what) old new hides = record { more = hides.1.told; tells = hides.1.tells }
hides_tell inputs listed (Err what) (Ok files) old new hides = absurd hides
hides_tell inputs listed (Err what) (Err other) old new hides = record { more = []; tells = subst (TellsNotes [] old) (sym hides.1) (none_told old) }

-- what is known of each error but want of memory is known still
pub errors_still : (P : BeginError → Type 0) (inputs : List InputRule) (listed : List Listed) (begun result : Answered) (old new : Keeping) → P begin.NoMemory → HidesBegun inputs listed begun result old new → IfErr begun P → IfErr result P
errors_still P inputs listed (Ok files) (Ok same) old new memory hides holds = tt
errors_still P inputs listed (Ok files) (Err what) old new memory hides holds = subst P (sym hides.0) memory
errors_still P inputs listed (Err what) (Ok files) old new memory hides holds = tt
errors_still P inputs listed (Err what) (Err other) old new memory hides holds = subst P (sym hides.0) holds

-- and what is known of what came of files
pub files_still : (P : BegunFiles → Type 0) (inputs : List InputRule) (listed : List Listed) (begun result : Answered) (old new : Keeping) → HidesBegun inputs listed begun result old new → IfOk begun P → IfOk result P
files_still P inputs listed (Ok files) (Ok same) old new hides holds = subst P (sym hides.0) holds
files_still P inputs listed (Ok files) (Err what) old new hides holds = tt
files_still P inputs listed (Err what) (Ok files) old new hides holds = absurd hides
files_still P inputs listed (Err what) (Err other) old new hides holds = tt

-- what was skipped is as it was, or was not said
pub passed_or_none : (inputs : List InputRule) (listed : List Listed) (begun result : Answered) (old new : Keeping) (after : List Passing) → HidesBegun inputs listed begun result old new → HasPassed result after → HasPassed begun after ⊎ (after ≡ [])
passed_or_none inputs listed (Ok files) (Ok same) old new after hides has = inl (has ∙ ap (λ (b : BegunFiles). b.passed.items) hides.0)
passed_or_none inputs listed (Ok files) (Err what) old new after hides has = inr has
passed_or_none inputs listed (Err what) (Ok files) old new after hides has = absurd hides
passed_or_none inputs listed (Err what) (Err other) old new after hides has = inr has

-- ---- keys

seen_begins_none : (keys : List (List ℕ)) (note : Note) → IsSeen note → BeginsAmong keys note
seen_begins_none keys (Begin slot key path epoch base changed) is = absurd is
seen_begins_none keys (Announce slot epoch) is = tt
seen_begins_none keys (Settle slot epoch span cause) is = tt
seen_begins_none keys (Rename slot scan path) is = tt
seen_begins_none keys (Seen slot changed) is = tt
seen_begins_none keys (Forget slot epoch end) is = tt

among_none : (keys : List (List ℕ)) (more : List Note) → AllByRecursion IsSeen more → AllByRecursion (BeginsAmong keys) more
among_none keys [] are = tt
among_none keys (note ∷ more) are = (seen_begins_none keys note are.0, among_none keys more are.1)

pub begun_knows : {T W L : Type 0} (tails : TailWords T) (settings : Settings) (now : Moment) (listed : List Listed) (begun : Answered) (old new : Beginning T W L) → AreFewFiles old.keeper.store.rows listed →
    old.keeper.tracked.notes ≡ [] → IfOk begun (λ files. BeginsAll tails settings old.keeper.store.rows now listed (came_of files) old new) → IfOk begun (λ _. KnowsItsKeys new.keeper)
begun_knows tails settings now listed (Err what) old new few none begins = tt
begun_knows {T} {W} {L} tails settings now listed (Ok files) old new few none begins =
    let keys = keys_in old.keeper.store.rows listed in
    let told = moments_are_told old.keeper.store.rows 0 listed begins.mid.keeper new.keeper begins.tell in
    record {
      keys = keys;
      knows = more_known keys told.more begins.mid.keeper new.keeper told.tells (among_none keys told.more (recursion_from_All IsSeen told.more told.seen))
          (from_knows tails settings old.keeper.store.rows now keys 0 listed (came_of files) old begins.mid (are_of_keys old.keeper.store.rows listed) begins.begins (first_knows listed old.keeper few none));
    }
