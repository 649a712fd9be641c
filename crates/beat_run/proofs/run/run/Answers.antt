use Rattle.std.proofs.Common.{◌≡◌, ◌∙◌, inl, inr, map, ap, refl, take, Err}
use Rattle.beat_config.specs.Document.{AreSettingsOf, IsFirstFault}
use Rattle.prospect.specs.Lacks.{IsFirstLack}
use Rattle.report.specs.declared.status.Status.{Status}
use Rattle.report.specs.declared.status.Status.TheVariants.{Usage}
use Rattle.rounds.specs.WordsOf.{disks_of}
use Rattle.run_steps.proofs.Clocks.{clock_stays}
use Rattle.run_steps.proofs.Questions.{asks_nothing}
use Rattle.run_steps.specs.Questions.{questions_of}
use Rattle.run_steps.proofs.HeldRows.{rows_held_as_read}
use Rattle.beat_run.specs.Ended.{ended}
use Rattle.beat_run.specs.declared.settings.TheConstants.{LIMIT}
use Rattle.beat_run.proofs.Accounts.{full_for_prepared, no_settings, rows_given, still}
use Rattle.beat_run.proofs.Causes.{caused_by_named, prepare_caused, prepare_ended, prepare_not_followed, prepare_not_named}
use Rattle.beat_run.proofs.Endings.{told_never, two_never}
use Rattle.beat_run.proofs.Refusals.{refused_by_areas}
use Rattle.beat_run.proofs.run.run.Goals as goal

-- ---- arguments or settings were refused

pub returns-in-Err-clause-usage_only : goal.returns-in-Err-clause-usage_only
returns-in-Err-clause-usage_only g c = λ is.
    let same : c.in-Err.status ≡ Usage = cc in
    c.prepare.ensures.usage_only (c.in-Err.is ∙ ap (λ (s : Status). Err s) same)

pub returns-in-Err-clause-cause : goal.returns-in-Err-clause-cause
returns-in-Err-clause-cause g c = prepare_caused _ _ _ _ c.in-Err.status c.in-Err.ensures.ends

pub returns-in-Err-clause-accounted : goal.returns-in-Err-clause-accounted
returns-in-Err-clause-accounted g c = λ all.
    let disks = disks_of g.D.Disk in
    let a = c.args.outside.now.a.now in
    let b = c.args.outside.now.b.now in
    record {
      settings = no_settings;
      named = λ behind. absurd (prepare_not_named _ _ c.in-Err.status c.in-Err.ensures.ends behind);
      named_or_unused = inr refl;
      supported = refl;
      in_range = inr refl;
      is = still disks c.one_choice.ensures no_settings all.areas.rows a b a b (rows_given disks a b all.areas)
          (λ rest. rows_held_as_read disks a b rest all.areas.first all.areas.second all.areas.rows all.areas.a_is all.areas.b_is all.areas.gives a b
          (c.unasked_disk_is_only_read.ensures a) (c.unasked_disk_is_only_read.ensures b)) (map g.W.Wire.outcomes c.args.outside.now.wires.now.items)
          (g.F.Folder.told c.args.outside.now.folder.now) (g.K.Clock.moments c.args.outside.now.clock.now) (questions_of g.K.Clock g.B.Bell c.args.outside.now.clock.now c.args.outside.now.bell.now) c.in-Err.status all.tell.folder all.tell.moments (prepare_ended _ _ c.in-Err.status c.in-Err.ensures.ends)
          (full_for_prepared disks no_settings _ _ _ c.in-Err.status c.in-Err.ensures.ends);
    }

pub returns-in-Err-clause-at_rest : goal.returns-in-Err-clause-at_rest
returns-in-Err-clause-at_rest g c = λ some rest followed. absurd (prepare_not_followed _ _ c.in-Err.status c.in-Err.ensures.ends followed)

pub returns-in-Err-clause-goes_on : goal.returns-in-Err-clause-goes_on
returns-in-Err-clause-goes_on g c = record {
  clock = clock_stays (g.K.Clock.moments c.args.outside.now.clock.now);
  asks = asks_nothing 0 (questions_of g.K.Clock g.B.Bell c.args.outside.now.clock.now c.args.outside.now.bell.now);
  wires = refl;
  tails = λ few. refl;
  links = λ few. refl;
  a_told = λ told. told;
  b_told = λ told. told;
}

-- ---- arguments and settings are good

pub returns-clause-unbuilt_refused : goal.returns-clause-unbuilt_refused
returns-clause-unbuilt_refused g c = λ lack asks. absurd (c.in-Ok.ensures.unbuilt_refused lack asks)

pub returns-clause-fault_refused : goal.returns-clause-fault_refused
returns-clause-fault_refused g c = λ fault. told_never (g.R.Source.left c.args.source.now) (λ bytes. IsFirstFault (take LIMIT bytes) fault) _ (c.in-Ok.ensures.fault_refused fault)

pub returns-clause-key_refused : goal.returns-clause-key_refused
returns-clause-key_refused g c = λ settings key.
    two_never (g.R.Source.left c.args.source.now) (λ bytes. AreSettingsOf (take LIMIT bytes) settings) (λ bytes. IsFirstLack settings key) _ (c.in-Ok.ensures.key_refused settings key)

pub returns-clause-accounted : goal.returns-clause-accounted
returns-clause-accounted g c = λ all. record { settings = c.in-Ok.settings; named = λ behind. c.in-Ok.ensures.settings; named_or_unused = inl c.in-Ok.ensures.settings; supported = c.in-Ok.ensures.nothing_lacks; in_range = inl c.in-Ok.ensures.in_range; is = c.run_settings.ensures.accounted all }

pub returns-clause-cause : goal.returns-clause-cause
returns-clause-cause g c = caused_by_named _ c.in-Ok.settings _ _ _ _ (ended c.run_settings.result) c.in-Ok.ensures.settings c.run_settings.ensures.cause

-- so only the areas refuse the run

pub returns-clause-untouched_where_refused : goal.returns-clause-untouched_where_refused
returns-clause-untouched_where_refused g c =
    refused_by_areas _ (g.R.Source.left c.args.source.now) _ _ _ c.in-Ok.ensures.other_words_refused c.in-Ok.ensures.unbuilt_refused c.in-Ok.ensures.fault_refused c.in-Ok.ensures.key_refused
    c.run_settings.ensures.untouched_where_areas_are_refused
