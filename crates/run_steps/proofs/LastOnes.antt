-- The steps that store: none of them, one, and several in a row; and as the last of a run.
use Rattle.std.proofs.Common.{◌≡◌, ◌⊎◌, inl, inr, ⊎_elim, ℕ, ◌≤◌, true, false, IfSome, List, None, Some, Option, refl, ◌∙◌, arith}
use Rattle.keeper.proofs.InARow.{collects_more, collects_none}
use Rattle.rounds.specs.Crewed.{lanings}
use Rattle.outside.specs.Counts.{Rose}
use Rattle.rounds.specs.Crewing.{Crewing, crewing}
use Rattle.rounds.specs.Settling.{Settles, SettlingKeeps}
use Rattle.rounds.specs.Words.{DiskWords, Words}
use Rattle.rounds.specs.declared.answer.Round.{Round}
use Rattle.rounds.specs.declared.crew.Crew.{Crew}
use Rattle.rounds.specs.declared.storing.Storing.{Storing}
use Rattle.run_steps.specs.CarriersFail.{sending}
use Rattle.run_steps.specs.LastSteps.{HandsOn, LastSteps, StoresAll, state_in, written_by}
use Rattle.run_steps.specs.Met.{AreLeft}
use Rattle.run_steps.specs.MetBy.{GoesOn, HasFaults}
use Rattle.run_steps.specs.Onward.{rules_of}
use Rattle.run_steps.specs.Settling.{IsMetByStoring, IsStoredAs, Written}
use Rattle.run_steps.specs.Readiness.{IsAbleIn, IsReadyIn}
use Rattle.run_steps.specs.declared.context.Context.{Context}
use Rattle.run_steps.specs.declared.met.Met.{Met}
use Rattle.run_steps.specs.declared.met.Met.TheVariants.{DiskFault, Done, Epochs, FolderFault, NoMemory, NoNative, Stopped, Unreachable}
use Rattle.run_steps.proofs.FailingRounds.{fail_by_nothing, fail_by_two}
use Rattle.run_steps.proofs.FailingStores.{fail_by_settling, none_failed_by_settling}
use Rattle.run_steps.proofs.HoldingNothing.{nothing_by_settling}
use Rattle.run_steps.proofs.LinksStay.{links_by_settling, links_on, links_same}
use Rattle.run_steps.proofs.MetBy.{rose_since}
use Rattle.run_steps.proofs.Onward.{onward_by_nothing, onward_by_two, settle_onward}
use Rattle.run_steps.proofs.Settling.{some_still, none_still, settled_still}

module _ {T W L D : Type 0} {words : Words T W L D} {context : Context} where
  pub hands_on_nothing : (met : Option Met) (now : Crewing T W L D) → IsAbleIn words.tails context now → (GoesOn met → IsReadyIn words.tails context now) → HandsOn words context met now now
  hands_on_nothing met now able ready = record {
    onward = λ shown moments phase. onward_by_nothing words (rules_of context) (state_in shown moments phase now);
    at_rest = λ goes rest. rest;
    ready = ready;
    able = able;
    no_harvesters = λ none. none;
    all_settled = λ settled. settled;
    slots = refl;
    faults_stay = λ some. some;
    hold_nothing = λ nothing. nothing;
    links_stay = links_same now.carriers.items;
    failing = λ moments. fail_by_nothing words.links words.wires context.settings.now.output.attempts (sending moments now.carriers.items);
    none_failed = λ none. none;
    as_many = record { lanes = refl; carriers = refl };
    a_faults_never_fall = omega arith;
    b_faults_never_fall = omega arith;
    collects = collects_none now.storing.keeper.now;
    same_objects = record { keeper = refl; a = refl; b = refl };
    still_tell = record { a = λ told. told; b = λ told. told };
  }

  -- if the first met nothing
  pub hands_on_by_two : {met : Option Met} {first mid last : Crewing T W L D} → HandsOn words context None first mid → HandsOn words context met mid last → HandsOn words context met first last
  hands_on_by_two {met = met} {first = first} {mid = mid} {last = last} one then = record {
    onward = λ shown moments phase. onward_by_two words (rules_of context) (state_in shown moments phase first) (state_in shown moments phase mid) (state_in shown moments phase last)
        (one.at_rest tt) (one.onward shown moments phase) (then.onward shown moments phase);
    at_rest = λ goes rest. then.at_rest goes (one.at_rest tt rest);
    ready = then.ready;
    able = then.able;
    no_harvesters = λ none. then.no_harvesters (one.no_harvesters none);
    all_settled = λ settled. then.all_settled (one.all_settled settled);
    slots = then.slots ∙ one.slots;
    faults_stay = λ some. then.faults_stay (one.faults_stay some);
    hold_nothing = λ nothing. then.hold_nothing (one.hold_nothing nothing);
    links_stay = links_on first.carriers.items mid.carriers.items last.carriers.items one.links_stay then.links_stay;
    failing = λ moments. fail_by_two words.links words.wires context.settings.now.output.attempts (sending moments first.carriers.items) (sending moments mid.carriers.items)
        (sending moments last.carriers.items) (one.failing moments) one.none_failed (then.failing moments);
    none_failed = λ none. then.none_failed (one.none_failed none);
    as_many = record { lanes = then.as_many.lanes ∙ one.as_many.lanes; carriers = then.as_many.carriers ∙ one.as_many.carriers };
    a_faults_never_fall = omega arith;
    b_faults_never_fall = omega arith;
    collects = collects_more first.storing.keeper.now mid.storing.keeper.now last.storing.keeper.now one.collects then.collects;
    same_objects = record { keeper = then.same_objects.keeper ∙ one.same_objects.keeper; a = then.same_objects.a ∙ one.same_objects.a; b = then.same_objects.b ∙ one.same_objects.b };
    still_tell = record { a = λ told. then.still_tell.a (one.still_tell.a told); b = λ told. then.still_tell.b (one.still_tell.b told) };
  }

  -- they handed it on, whatever the run meets then
  pub hands_on_as : (met : Option Met) {first last : Crewing T W L D} → HandsOn words context None first last → HandsOn words context met first last
  hands_on_as met on = record {
    onward = on.onward;
    at_rest = λ goes rest. on.at_rest tt rest;
    ready = λ goes. on.ready tt;
    able = on.able;
    no_harvesters = on.no_harvesters;
    all_settled = on.all_settled;
    slots = on.slots;
    faults_stay = on.faults_stay;
    hold_nothing = on.hold_nothing;
    links_stay = on.links_stay;
    failing = on.failing;
    none_failed = on.none_failed;
    as_many = on.as_many;
    a_faults_never_fall = on.a_faults_never_fall;
    b_faults_never_fall = on.b_faults_never_fall;
    collects = on.collects;
    same_objects = on.same_objects;
    still_tell = on.still_tell;
  }

-- ---- one of them

-- there was memory, and no disk failed
well_stored : (round : Round) (met : Option Met) → IsStoredAs round met → GoesOn met → (round.memory ≡ false) × (round.disk ≡ false)
well_stored round None is goes = is
well_stored round (Some NoMemory) is goes = absurd goes
well_stored round (Some DiskFault) is goes = absurd goes
well_stored round (Some Done) is goes = absurd is
well_stored round (Some Stopped) is goes = absurd is
well_stored round (Some FolderFault) is goes = absurd is
well_stored round (Some (Unreachable worker)) is goes = absurd is
well_stored round (Some (Epochs slot)) is goes = absurd is
well_stored round (Some (NoNative slot)) is goes = absurd is

not_left : {D : Type 0} (disks : DiskWords D) (written : Written D) (met : Met) → IsMetByStoring disks written met → ¬ (AreLeft met)
not_left disks written NoMemory is = λ left. left
not_left disks written DiskFault is = λ left. left
not_left disks written Done is = absurd is
not_left disks written Stopped is = absurd is
not_left disks written FolderFault is = absurd is
not_left disks written (Unreachable worker) is = absurd is
not_left disks written (Epochs slot) is = absurd is
not_left disks written (NoNative slot) is = absurd is

met_by_storing : {D : Type 0} (disks : DiskWords D) (written : Written D) (round : Round) (met : Met) →
    (round.disk ≡ true → Rose (disks.faults written.a) (disks.faults written.new_a) ⊎ Rose (disks.faults written.b) (disks.faults written.new_b)) → IsStoredAs round (Some met) → IsMetByStoring disks written met
met_by_storing disks written round NoMemory rose is = tt
met_by_storing disks written round DiskFault rose is = rose is.1
met_by_storing disks written round Done rose is = absurd is
met_by_storing disks written round Stopped rose is = absurd is
met_by_storing disks written round FolderFault rose is = absurd is
met_by_storing disks written round (Unreachable worker) rose is = absurd is
met_by_storing disks written round (Epochs slot) rose is = absurd is
met_by_storing disks written round (NoNative slot) rose is = absurd is

module _ {T W L D : Type 0} (words : Words T W L D) (context : Context) (reads : (disk : D) → IfSome (words.disks.contents disk) (words.disks.images disk))
    (counts : (disk : D) (since : ℕ) (image : List ℕ) → since ≤ words.disks.moment disk → words.disks.images disk image → words.disks.images_since disk since image)
    (old new : Crew T W L) (before after : Storing D) (round : Round)
    (settles : Settles words context.outlets.queue.now context.outlets.desk.now (crewing old before) (crewing new after) round)
    (keeps : SettlingKeeps words context.outlets.queue.now context.outlets.desk.now (crewing old before) (crewing new after) round) where
  pub hands_on_by_round : (met : Option Met) → IsStoredAs round met → HandsOn words context met (crewing old before) (crewing new after)
  hands_on_by_round met is = record {
    onward = λ shown moments phase. settle_onward words reads counts context.outlets.queue.now context.outlets.desk.now old new before after round shown (rules_of context) moments phase keeps;
    at_rest = λ goes rest. let well = well_stored round met is goes in
        let after = keeps.at_rest well.0 well.1 (record { settled = rest.settled; committed = rest.committed }) in
        record { settled = after.settled; committed = after.committed };
    ready = λ goes. let well = well_stored round met is goes in keeps.ready well.0 well.1;
    able = keeps.able;
    no_harvesters = λ none. none_still (lanings old.lanes.items) (lanings new.lanes.items) keeps.lanes none;
    all_settled = λ settled. settled_still (lanings old.lanes.items) (lanings new.lanes.items) before.keeper.now after.keeper.now keeps.lanes keeps.collects settled;
    slots = keeps.slots;
    faults_stay = some_still (HasFaults words.tails) (lanings old.lanes.items) (lanings new.lanes.items) keeps.lanes;
    hold_nothing = nothing_by_settling words context.outlets.queue.now context.outlets.desk.now (crewing old before) (crewing new after) round settles;
    links_stay = links_by_settling words context.outlets.queue.now context.outlets.desk.now (crewing old before) (crewing new after) round settles;
    failing = λ moments. fail_by_settling words context.outlets.queue.now context.outlets.desk.now (crewing old before) (crewing new after) round settles
        context.settings.now.output.attempts moments;
    none_failed = none_failed_by_settling words context.outlets.queue.now context.outlets.desk.now (crewing old before) (crewing new after) round settles
        context.settings.now.output.attempts;
    as_many = keeps.as_many;
    a_faults_never_fall = keeps.causes.a_faults;
    b_faults_never_fall = keeps.causes.b_faults;
    collects = keeps.collects;
    same_objects = keeps.same_objects;
    still_tell = keeps.still_tell;
  }

  -- one that ends them, after others
  pub stores_by_round : (now : Met) (first : Crewing T W L D) → HandsOn words context None first (crewing old before) → IsStoredAs round (Some now) →
      StoresAll words context (Some now) first (crewing new after)
  stores_by_round now first on is = record {
    hands_on = hands_on_by_two on (hands_on_by_round (Some now) is);
    by = met_by_storing words.disks (record { a = first.storing.a.now; b = first.storing.b.now; new_a = after.a.now; new_b = after.b.now }) round now
        (λ failed. ⊎_elim
        (λ one. inl (rose_since (words.disks.faults first.storing.a.now) (words.disks.faults before.a.now) (words.disks.faults after.a.now) on.a_faults_never_fall one))
        (λ other. inr (rose_since (words.disks.faults first.storing.b.now) (words.disks.faults before.b.now) (words.disks.faults after.b.now) on.b_faults_never_fall other))
        (keeps.causes.disk failed)) is;
    settled = tt;
    counted = tt;
  }

-- ---- as the last of a run

module _ {T W L D : Type 0} {words : Words T W L D} {context : Context} {before after : Crewing T W L D} where
  -- what the run met stays
  pub last_where_stored : (met : Met) → StoresAll words context None before after → LastSteps words context met met before after
  last_where_stored met stores = record {
    hands_on = hands_on_as (Some met) stores.hands_on;
    by = inl refl;
    settled = λ left. stores.settled;
    counted = λ left. stores.counted;
  }

  -- what they met takes its place
  pub last_where_met : (met now : Met) → StoresAll words context (Some now) before after → LastSteps words context met now before after
  last_where_met met now stores = record {
    hands_on = stores.hands_on;
    by = inr stores.by;
    settled = λ left. absurd (not_left words.disks (written_by before after) now stores.by left);
    counted = λ left. absurd (not_left words.disks (written_by before after) now stores.by left);
  }
