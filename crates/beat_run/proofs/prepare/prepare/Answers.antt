use Rattle.std.proofs.Common.{◌≡◌, ◌∙◌, ap, take, Err}
use Rattle.beat_config.specs.Document.{IsFirstFault}
use Rattle.report.specs.declared.status.Status.{Status}
use Rattle.report.specs.declared.status.Status.TheVariants.{Usage}
use Rattle.beat_run.specs.declared.settings.TheConstants.{LIMIT}
use Rattle.beat_run.proofs.Endings.{told_never}
use Rattle.beat_run.proofs.FirstLacks.{fault_refuses_key, lack_refuses_key, no_lack}
use Rattle.beat_run.proofs.prepare.prepare.Goals as goal

pub returns-in-Err-clause-usage_only : goal.returns-in-Err-clause-usage_only
returns-in-Err-clause-usage_only g c = λ is.
    let same : c.in-Err.status ≡ Usage = cc in
    c.check_words.ensures.usage_only (c.in-Err.is ∙ ap (λ (s : Status). Err s) same)

-- the arguments ask for nothing that is not built

pub returns-in-Err-read_source-clause-unbuilt_refused : goal.returns-in-Err-read_source-clause-unbuilt_refused
returns-in-Err-read_source-clause-unbuilt_refused g c = λ lack asks. absurd (c.in-Ok.ensures.lack_refused lack asks)

pub returns-in-Err-check_keys-clause-unbuilt_refused : goal.returns-in-Err-check_keys-clause-unbuilt_refused
returns-in-Err-check_keys-clause-unbuilt_refused g c = λ lack asks. absurd (c.in-Ok.ensures.lack_refused lack asks)

pub returns-in-Ok-check_keys-clause-unbuilt_refused : goal.returns-in-Ok-check_keys-clause-unbuilt_refused
returns-in-Ok-check_keys-clause-unbuilt_refused g c = λ lack asks. c.in-Ok.ensures.lack_refused lack asks

-- the settings have no fault

pub returns-in-Err-check_keys-clause-fault_refused : goal.returns-in-Err-check_keys-clause-fault_refused
returns-in-Err-check_keys-clause-fault_refused g c = λ fault.
    told_never (g.R.Source.left c.args.source.now) (λ bytes. IsFirstFault (take LIMIT bytes) fault) _ (c.in-Ok-read_source.ensures.fault_refused fault)

-- and no key that is not told

pub returns-in-Err-read_source-clause-key_refused : goal.returns-in-Err-read_source-clause-key_refused
returns-in-Err-read_source-clause-key_refused g c = λ settings key.
    fault_refuses_key _ _ _ c.in-Err-read_source.status settings key c.settings_or_one_first_fault.ensures.no_fault c.in-Err-read_source.ensures.ends
    (λ fault is. c.read_source.ensures.fault_only fault (c.in-Err-read_source.is ∙ ap (λ (s : Status). Err s) is))

pub returns-in-Err-check_keys-clause-key_refused : goal.returns-in-Err-check_keys-clause-key_refused
returns-in-Err-check_keys-clause-key_refused g c = λ settings key.
    lack_refuses_key _ c.in-Err-check_keys.status c.in-Ok-read_source.settings settings key c.in-Ok-read_source.ensures.settings c.in-Err-check_keys.ensures.ends
    (λ k is. c.check_keys.ensures.only k (c.in-Err-check_keys.is ∙ ap (λ (s : Status). Err s) is))

pub returns-in-Ok-check_keys-clause-key_refused : goal.returns-in-Ok-check_keys-clause-key_refused
returns-in-Ok-check_keys-clause-key_refused g c = λ settings key.
    no_lack _ c.in-Ok-read_source.settings settings key _ c.in-Ok-read_source.ensures.settings c.in-Ok-check_keys.ensures.none
