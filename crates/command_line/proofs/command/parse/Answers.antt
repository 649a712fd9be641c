use Rattle.std.proofs.Common.{◌∙◌, ap, subst, map}
use Rattle.std.proofs.lemmas.Result.{IfOk-weaker}
use Rattle.clap.specs.Faults.{fault_of, is_simple_and_free}
use Rattle.clap.specs.Kinds.{FailsBy}
use Rattle.clap.specs.Simple.{App, is_simple, matches_of}
use Rattle.command_line.specs.Command.{beat_command}
use Rattle.command_line.proofs.Taken.{err_refused, folder_there, ok_taken, settings_there}
use Rattle.command_line.proofs.command.parse.Goals as goal

pub returns-clause-taken : goal.returns-clause-taken
returns-clause-taken c =
    let fails = c.try_get_matches_from.ensures.kinds (ap is_simple_and_free c.in_ok-command.ensures) in
    let words = map (λ word. word.now) c.args.words.now in
    ok_taken (fault_of beat_command words) c.try_get_matches_from.result
    (subst (λ (a : App). FailsBy (fault_of a words) c.try_get_matches_from.result) c.in_ok-command.ensures fails)

pub returns-clause-refused : goal.returns-clause-refused
returns-clause-refused c =
    let fails = c.try_get_matches_from.ensures.kinds (ap is_simple_and_free c.in_ok-command.ensures) in
    let words = map (λ word. word.now) c.args.words.now in
    err_refused (fault_of beat_command words) c.try_get_matches_from.result
    (subst (λ (a : App). FailsBy (fault_of a words) c.try_get_matches_from.result) c.in_ok-command.ensures fails)

pub returns-clause-found : goal.returns-clause-found
returns-clause-found c =
    let words = map (λ word. word.now) c.args.words.now in
    IfOk-weaker c.try_get_matches_from.result _ _
    (λ m has. (has (ap is_simple c.in_ok-command.ensures)).0 ∙ ap (λ (a : App). matches_of a words) c.in_ok-command.ensures)
    c.try_get_matches_from.ensures.matches

pub returns-clause-has_settings : goal.returns-clause-has_settings
returns-clause-has_settings c =
    IfOk-weaker c.try_get_matches_from.result _ _ (λ m parsed. settings_there c.in_ok-command.field-0 m c.in_ok-command.ensures parsed)
    c.try_get_matches_from.ensures.parsed

pub returns-clause-has_folder : goal.returns-clause-has_folder
returns-clause-has_folder c =
    IfOk-weaker c.try_get_matches_from.result _ _ (λ m parsed. folder_there c.in_ok-command.field-0 m c.in_ok-command.ensures parsed)
    c.try_get_matches_from.ensures.parsed
