use Rattle.std.proofs.Common.{◌≡◌, ◌∙◌, ℕ, List, map, Err, ap, refl, subst, sym}
use Rattle.report.specs.declared.status.Status.{Status}
use Rattle.report.specs.declared.status.Status.TheVariants.{DiskFault, NoMemory, RegistryBad}
use Rattle.rounds.specs.WordsOf.{disks_of}
use Rattle.run_steps.specs.declared.registry_error.RegistryError.{RegistryError}
use Rattle.run_steps.proofs.Clocks.{clock_stays}
use Rattle.run_steps.proofs.Questions.{asks_nothing}
use Rattle.run_steps.specs.Questions.{questions_of}
use Rattle.run_steps.proofs.HeldRows.{some_of}
use Rattle.wire_base.specs.declared.limits.Which.{Which}
use Rattle.run_steps.specs.Together.{Areas}
use Rattle.beat_run.specs.Accounted.{IsOpenedFrom}
use Rattle.beat_run.specs.Ended.{StandsForRegistry, ended}
use Rattle.run_steps.specs.Registry.{AreRefusedAt, RefusesAreas}
use Rattle.beat_run.proofs.Accounts.{full_for_registry, opened_from, rows_given, still}
use Rattle.beat_run.proofs.Causes.{caused_earlier, registry_caused, registry_ended, registry_not_followed}
use Rattle.run_steps.specs.declared.registry_error.RegistryError.TheVariants as registry
use Rattle.beat_run.proofs.run.run_settings.Goals as goal

-- ---- the registry was not opened

-- the error that stands behind a bad registry
bad_of : (error : RegistryError) (status : Status) (area : Which) (at : ℕ) → StandsForRegistry error status → status ≡ RegistryBad area at → error ≡ registry.Bad area at
bad_of (registry.Bad named place) status area at stands is = let same : RegistryBad named place ≡ RegistryBad area at = sym stands ∙ is in cc
bad_of registry.DiskFault status area at stands is = let same : DiskFault ≡ RegistryBad area at = sym stands ∙ is in absurd cc
bad_of registry.NoMemory status area at stands is = let same : NoMemory ≡ RegistryBad area at = sym stands ∙ is in absurd cc

bad_refused : (error : RegistryError) (first second : List ℕ) (area : Which) (at : ℕ) → error ≡ registry.Bad area at → RefusesAreas first second error → AreRefusedAt first second area at
bad_refused error first second area at is refused = subst (RefusesAreas first second) is refused

pub returns-in-Err-clause-registry_bad : goal.returns-in-Err-clause-registry_bad
returns-in-Err-clause-registry_bad g c = λ first second area at of_a of_b is.
    let met : c.status_of_registry.result ≡ RegistryBad area at = cc in
    bad_refused c.in-Err.error first second area at (bad_of c.in-Err.error c.status_of_registry.result area at c.status_of_registry.ensures met) (rw c.in-Err.is at c.open_registry.ensures.refused first second of_a of_b)

pub returns-in-Err-clause-a_only_read_where_bad : goal.returns-in-Err-clause-a_only_read_where_bad
returns-in-Err-clause-a_only_read_where_bad g c = λ area at some_a some_b is.
    let met : c.status_of_registry.result ≡ RegistryBad area at = cc in
    let first = some_of (g.D.Disk.contents c.args.outside.now.a.now) some_a in
    let second = some_of (g.D.Disk.contents c.args.outside.now.b.now) some_b in
    c.open_registry.ensures.a_only_read first.0 second.0 area at first.1 second.1
    (bad_refused c.in-Err.error first.0 second.0 area at (bad_of c.in-Err.error c.status_of_registry.result area at c.status_of_registry.ensures met) (rw c.in-Err.is at c.open_registry.ensures.refused first.0 second.0 first.1 second.1))

pub returns-in-Err-clause-untouched_where_areas_are_refused : goal.returns-in-Err-clause-untouched_where_areas_are_refused
returns-in-Err-clause-untouched_where_areas_are_refused g c = λ first second area at of_a of_b refused. record {
  a = c.open_registry.ensures.a_only_read first second area at of_a of_b refused;
  b = c.open_registry.ensures.b_only_read;
  folder = refl;
  wires = refl;
}

pub returns-in-Err-clause-cause : goal.returns-in-Err-clause-cause
returns-in-Err-clause-cause g c = registry_caused c.args.settings.now _ _ c.in-Err.error c.status_of_registry.result c.status_of_registry.ensures
    (λ is. c.open_registry.ensures.disk_fault_only_where_faults_rose (c.in-Err.is ∙ ap (λ (e : RegistryError). Err e) is))

pub returns-in-Err-clause-accounted : goal.returns-in-Err-clause-accounted
returns-in-Err-clause-accounted g c = λ all.
    let disks = disks_of g.D.Disk in
    let a = c.args.outside.now.a.now in
    let b = c.args.outside.now.b.now in
    still disks c.one_choice.ensures c.args.settings.now all.areas.rows a b c.open_registry.new.a c.open_registry.new.b (rows_given disks a b all.areas)
    (λ rest. c.open_registry.ensures.held all.areas.first all.areas.second all.areas.rows rest all.areas.a_is all.areas.b_is all.areas.gives) (map g.W.Wire.outcomes c.args.outside.now.wires.now.items)
    (g.F.Folder.told c.args.outside.now.folder.now) (g.K.Clock.moments c.args.outside.now.clock.now) (questions_of g.K.Clock g.B.Bell c.args.outside.now.clock.now c.args.outside.now.bell.now) c.status_of_registry.result all.tell.folder all.tell.moments (registry_ended c.in-Err.error c.status_of_registry.result c.status_of_registry.ensures)
    (full_for_registry disks c.args.settings.now _ c.in-Err.error c.status_of_registry.result c.status_of_registry.ensures)

pub returns-in-Err-clause-at_rest : goal.returns-in-Err-clause-at_rest
returns-in-Err-clause-at_rest g c = λ some rest followed. absurd (registry_not_followed c.in-Err.error c.status_of_registry.result c.status_of_registry.ensures followed)

-- ---- it was opened

-- so it was not refused

pub returns-in-Ok-clause-areas_refused : goal.returns-in-Ok-clause-areas_refused
returns-in-Ok-clause-areas_refused g c = λ first second area at of_a of_b refused.
    absurd (rw c.in-Ok.is at c.open_registry.ensures.refused_so first second area at of_a of_b refused)

pub returns-in-Ok-clause-untouched_where_areas_are_refused : goal.returns-in-Ok-clause-untouched_where_areas_are_refused
returns-in-Ok-clause-untouched_where_areas_are_refused g c = λ first second area at of_a of_b refused.
    absurd (rw c.in-Ok.is at c.open_registry.ensures.refused_so first second area at of_a of_b refused)

pub returns-in-Ok-clause-cause : goal.returns-in-Ok-clause-cause
returns-in-Ok-clause-cause g c =
    let from : Areas g.row.D.Denot = record { a = c.args.outside.now.a.now; b = c.args.outside.now.b.now } in
    let opened : IsOpenedFrom (disks_of g.D.Disk) from c.in-Ok.store c.open_registry.new.a c.open_registry.new.b = opened_from (disks_of g.D.Disk)
    c.args.outside.now.a.now c.args.outside.now.b.now c.open_registry.new.a c.open_registry.new.b c.in-Ok.store (rw c.in-Ok.is at c.open_registry.ensures.gives)
    (λ first second rows rest a_is b_is gives. c.open_registry.ensures.held first second rows rest a_is b_is gives) (λ rest. rw c.in-Ok.is at c.open_registry.ensures.settled rest) in
    caused_earlier c.args.settings.now _ _ _ _ c.open_registry.ensures.a_faults_never_fall c.open_registry.ensures.b_only_read.faults_kept (ended c.run_store.result)
    (c.run_store.ensures.cause from opened)

pub returns-in-Ok-clause-accounted : goal.returns-in-Ok-clause-accounted
returns-in-Ok-clause-accounted g c = λ all.
    let from : Areas g.row.D.Denot = record { a = c.args.outside.now.a.now; b = c.args.outside.now.b.now } in
    let opened : IsOpenedFrom (disks_of g.D.Disk) from c.in-Ok.store c.open_registry.new.a c.open_registry.new.b = opened_from (disks_of g.D.Disk)
    c.args.outside.now.a.now c.args.outside.now.b.now c.open_registry.new.a c.open_registry.new.b c.in-Ok.store (rw c.in-Ok.is at c.open_registry.ensures.gives)
    (λ first second rows rest a_is b_is gives. c.open_registry.ensures.held first second rows rest a_is b_is gives) (λ rest. rw c.in-Ok.is at c.open_registry.ensures.settled rest) in
    c.run_store.ensures.accounted from opened (record { folder = all.tell.folder; moments = all.tell.moments; wires = all.tell.wires })

pub returns-in-Ok-clause-at_rest : goal.returns-in-Ok-clause-at_rest
returns-in-Ok-clause-at_rest g c = λ some rest followed.
    let from : Areas g.row.D.Denot = record { a = c.args.outside.now.a.now; b = c.args.outside.now.b.now } in
    let opened : IsOpenedFrom (disks_of g.D.Disk) from c.in-Ok.store c.open_registry.new.a c.open_registry.new.b = opened_from (disks_of g.D.Disk)
    c.args.outside.now.a.now c.args.outside.now.b.now c.open_registry.new.a c.open_registry.new.b c.in-Ok.store (rw c.in-Ok.is at c.open_registry.ensures.gives)
    (λ first second rows rest a_is b_is gives. c.open_registry.ensures.held first second rows rest a_is b_is gives) (λ rest. rw c.in-Ok.is at c.open_registry.ensures.settled rest) in
    c.run_store.ensures.at_rest from opened some rest followed

pub returns-in-Ok-clause-reported : goal.returns-in-Ok-clause-reported
returns-in-Ok-clause-reported g c = λ some rest.
    let from : Areas g.row.D.Denot = record { a = c.args.outside.now.a.now; b = c.args.outside.now.b.now } in
    let opened : IsOpenedFrom (disks_of g.D.Disk) from c.in-Ok.store c.open_registry.new.a c.open_registry.new.b = opened_from (disks_of g.D.Disk)
    c.args.outside.now.a.now c.args.outside.now.b.now c.open_registry.new.a c.open_registry.new.b c.in-Ok.store (rw c.in-Ok.is at c.open_registry.ensures.gives)
    (λ first second rows rest a_is b_is gives. c.open_registry.ensures.held first second rows rest a_is b_is gives) (λ rest. rw c.in-Ok.is at c.open_registry.ensures.settled rest) in
    c.run_store.ensures.reported from opened some rest

-- ---- what goes on

pub returns-in-Err-clause-goes_on : goal.returns-in-Err-clause-goes_on
returns-in-Err-clause-goes_on g c = record {
  clock = clock_stays (g.K.Clock.moments c.args.outside.now.clock.now);
  asks = asks_nothing 0 (questions_of g.K.Clock g.B.Bell c.args.outside.now.clock.now c.args.outside.now.bell.now);
  wires = refl;
  tails = λ few. refl;
  links = λ few. refl;
  a_told = c.open_registry.ensures.a_told;
  b_told = λ told. rw c.open_registry.ensures.b_only_read.contents_kept told;
}

pub returns-in-Ok-clause-goes_on : goal.returns-in-Ok-clause-goes_on
returns-in-Ok-clause-goes_on g c = record {
  clock = c.run_store.ensures.goes_on.clock;
  asks = c.run_store.ensures.goes_on.asks;
  wires = c.run_store.ensures.goes_on.wires;
  tails = c.run_store.ensures.goes_on.tails;
  links = c.run_store.ensures.goes_on.links;
  a_told = λ told. c.run_store.ensures.goes_on.a_told (c.open_registry.ensures.a_told told);
  b_told = λ told. c.run_store.ensures.goes_on.b_told (rw c.open_registry.ensures.b_only_read.contents_kept told);
}
