-- Which paths were skipped as files were begun.
use Rattle.std.proofs.Common.{◌≡◌, ◌⊎◌, inl, inr, ℕ, suc, List, [], ◌∷◌, ◌++◌, IfOk, Result, Ok, Err, sym, ap, subst, ◌∙◌}
use Rattle.event_tree.specs.declared.settings.Settings.{Settings}
use Rattle.prospect.specs.declared.listed.Listed.{Listed}
use Rattle.report.specs.declared.passing.Passing.{Passing}
use Rattle.rounds.specs.Words.{TailWords}
use Rattle.wire_base.specs.declared.numbers.Moment.{Moment}
use Rattle.wire_base.specs.declared.row.Row.{Row}
use Rattle.run_steps.specs.Beginning.{Beginning}
use Rattle.run_steps.specs.BeginsAll.{BeginsAll, BeginsFrom, Came, came_of, passed_by}
use Rattle.run_steps.specs.PassedOver.{ArePassedOver}
use Rattle.run_steps.specs.Worked.{HasPassed}
use Rattle.run_steps.specs.declared.begin_error.BeginError.{BeginError}
use Rattle.run_steps.specs.declared.beginning.BegunFiles.{BegunFiles}

module _ {T W L : Type 0} (tails : TailWords T) (settings : Settings) (rows : List Row) (now : Moment) where
  passed_from : (slot : ℕ) (listed : List Listed) (came : Came) (old new : Beginning T W L) → BeginsFrom tails settings rows now slot listed came old new → ArePassedOver listed came.passed
  passed_from slot [] came old new begins = record { begun = []; are = ap (λ (c : Came). c.passed) begins.0 }
  passed_from slot (one ∷ listed) came old new begins =
      let rest = passed_from (suc slot) listed begins.later begins.mid new begins.rest in
      record {
        begun = begins.begun ∷ rest.begun;
        are = ap (λ (c : Came). c.passed) begins.came_is ∙ ap (λ (l : List Passing). passed_by begins.begun one ++ l) rest.are;
      }

  pub passed_over : (listed : List Listed) (old new : Beginning T W L) (result : Result BegunFiles BeginError) (after : List Passing) → IfOk result (λ files. BeginsAll tails settings rows now listed (came_of files) old new) → HasPassed result after ⊎ (after ≡ []) → ArePassedOver listed after
  passed_over listed old new (Ok files) after begins (inl is) = subst (ArePassedOver listed) (sym is) (passed_from 0 listed (came_of files) old begins.mid begins.begins)
  passed_over listed old new (Err met) after begins (inl is) = record { begun = []; are = is }
  passed_over listed old new result after begins (inr none) = record { begun = []; are = none }
