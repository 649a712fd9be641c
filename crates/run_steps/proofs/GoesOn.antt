-- No step at all, a question of the bell, two steps in a row, one behind which tails are closed, and one that is taken for another.
use Rattle.std.proofs.Common.{◌≡◌, ◌≤◌, ℕ, List, IfNone, None, Some, Option, Vec, refl, sym, ◌∙◌, arith}
use Rattle.std.proofs.lemmas.List.{length-map}
use Rattle.std.specs.Borrow.{MutBor}
use Rattle.std.specs.declared.alloc.Global.{Global}
use Rattle.harvester.specs.declared.harvester.Harvester.{Harvester}
use Rattle.lanes.specs.Laning.{laning}
use Rattle.lanes.specs.declared.lane.Lane.{Lane}
use Rattle.keeper.proofs.InARow.{collects_more, collects_none}
use Rattle.keeper.specs.Collecting.{Collects}
use Rattle.keeper.specs.Keeping.{Keeping}
use Rattle.rounds.specs.Crewed.{lanings}
use Rattle.rounds.specs.Crewing.{crewing}
use Rattle.rounds.specs.declared.carrier.Carrier.{Carrier}
use Rattle.run_steps.specs.CarriersFail.{sending}
use Rattle.run_steps.specs.ClosesTail.{ClosesTails, Readers}
use Rattle.run_steps.specs.Goes.{Goes, Keeps, StepWords, Stop, moments_at, readers_at, state_at}
use Rattle.run_steps.specs.MetBy.{GoesOn}
use Rattle.run_steps.specs.MetIn.{NoneFailed}
use Rattle.run_steps.specs.Onward.{rules_of}
use Rattle.run_steps.specs.Readiness.{IsAbleIn, IsReadyIn}
use Rattle.run_steps.specs.RunState.{Leaving, Phase, phase_left}
use Rattle.run_steps.specs.declared.context.Context.{Context}
use Rattle.run_steps.specs.declared.met.Met.{Met}
use Rattle.run_steps.proofs.CarriersGoOn.{carriers_by_nothing, carriers_by_two}
use Rattle.run_steps.proofs.Clocks.{clock_by_two, clock_stays}
use Rattle.run_steps.proofs.FailingRounds.{fail_by_nothing, fail_by_two}
use Rattle.run_steps.proofs.Letting.{able_closed, many_by_some}
use Rattle.run_steps.proofs.Onward.{onward_by_nothing, onward_by_two}
use Rattle.run_steps.proofs.ReadersGo.{readers_go_by_nothing, readers_go_by_some, readers_go_by_two}
use Rattle.run_steps.proofs.TailsLeft.{closing_onward, leaving_onward, onward_then, same_onward}

-- whatever was before
pub none_failed_on : {W L : Type 0} (attempts : ℕ) (before after : List (Carrier W L)) (met : Option Met) → IfNone met (NoneFailed attempts after) →
    IfNone met (NoneFailed attempts before → NoneFailed attempts after)
none_failed_on attempts before after None none = λ had. none
none_failed_on attempts before after (Some met) none = tt

abbrev NoneFailedAt : {T W L D F K B : Type 0} → Context → Stop T W L D F K B → Type 0
NoneFailedAt context stop = NoneFailed context.settings.now.output.attempts stop.crew.carriers.items

module _ {T W L D F K B : Type 0} {words : StepWords T W L D F K B} {context : Context} where
  -- only the bell was asked, and rang no less often
  pub goes_by_asking : (met : Option Met) (now : Stop T W L D F K B) (bell : MutBor B) → IsReadyIn words.all.tails context (crewing now.crew now.storing) →
      words.rings now.system.bell.now ≤ words.rings bell.now → bell.ghost_name ≡ now.system.bell.ghost_name →
      Goes words context met now (record now { system = record now.system { bell = bell } })
  goes_by_asking met now bell ready rings same = record {
    keeps = record {
      at_rest = λ goes rest. rest;
      ready = λ goes. ready;
      able = ready.able;
      failing = fail_by_nothing words.all.links words.all.wires context.settings.now.output.attempts (sending (moments_at words now) now.crew.carriers.items);
      none_failed = still_none met;
      carriers_go_on = carriers_by_nothing words.all.wires now.crew.carriers.items;
      as_many = record { lanes = refl; carriers = refl };
      a_faults_never_fall = omega arith;
      b_faults_never_fall = omega arith;
      rings_never_fall = rings;
      clock_goes_on = clock_stays (moments_at words now);
      keeper = collects_none now.storing.keeper.now;
      same_objects = record { keeper = refl; a = refl; b = refl };
      still_tell = record { a = λ told. told; b = λ told. told };
      readers = readers_go_by_nothing words.all.tails (readers_at words now);
      same_folder = refl;
      same_clock = refl;
      same_bell = same;
    };
    onward = onward_by_nothing words.all (rules_of context) (state_at words now);
  } where
    still_none : (ended : Option Met) → IfNone ended (NoneFailedAt context now → NoneFailedAt context now)
    still_none None = λ none. none
    still_none (Some met) = tt

  pub goes_by_nothing : (met : Option Met) (now : Stop T W L D F K B) → IsReadyIn words.all.tails context (crewing now.crew now.storing) → Goes words context met now now
  goes_by_nothing met now ready = goes_by_asking met now now.system.bell ready (omega arith) refl

  -- if the first met nothing
  pub keeps_by_two : {met : Option Met} {First Second Both : Keeping → Keeping → Type 0} {first mid last : Stop T W L D F K B} →
      ((a b c : Keeping) → First a b → Second b c → Both a c) → Keeps words context First None first mid → Keeps words context Second met mid last →
      Keeps words context Both met first last
  keeps_by_two {met = met} {first = first} {mid = mid} {last = last} both one then = record {
    at_rest = λ goes rest. then.at_rest goes (one.at_rest tt rest);
    ready = then.ready;
    able = then.able;
    failing = fail_by_two words.all.links words.all.wires context.settings.now.output.attempts (sending (moments_at words first) first.crew.carriers.items)
        (sending (moments_at words mid) mid.crew.carriers.items) (sending (moments_at words last) last.crew.carriers.items) one.failing one.none_failed then.failing;
    none_failed = none_failed_by met then.none_failed;
    carriers_go_on = carriers_by_two words.all.wires first.crew.carriers.items mid.crew.carriers.items last.crew.carriers.items one.carriers_go_on then.carriers_go_on;
    as_many = record { lanes = then.as_many.lanes ∙ one.as_many.lanes; carriers = then.as_many.carriers ∙ one.as_many.carriers };
    a_faults_never_fall = omega arith;
    b_faults_never_fall = omega arith;
    rings_never_fall = omega arith;
    clock_goes_on = clock_by_two (moments_at words first) (moments_at words mid) (moments_at words last) one.clock_goes_on then.clock_goes_on;
    keeper = both first.storing.keeper.now mid.storing.keeper.now last.storing.keeper.now one.keeper then.keeper;
    same_objects = record {
      keeper = then.same_objects.keeper ∙ one.same_objects.keeper;
      a = then.same_objects.a ∙ one.same_objects.a;
      b = then.same_objects.b ∙ one.same_objects.b;
    };
    still_tell = record { a = λ told. then.still_tell.a (one.still_tell.a told); b = λ told. then.still_tell.b (one.still_tell.b told) };
    readers = readers_go_by_two words.all.tails (readers_at words first) (readers_at words mid) (readers_at words last) one.readers then.readers;
    same_folder = then.same_folder ∙ one.same_folder;
    same_clock = then.same_clock ∙ one.same_clock;
    same_bell = then.same_bell ∙ one.same_bell;
  } where
    none_failed_by : (ended : Option Met) → IfNone ended (NoneFailedAt context mid → NoneFailedAt context last) → IfNone ended (NoneFailedAt context first → NoneFailedAt context last)
    none_failed_by None more = λ none. more (one.none_failed none)
    none_failed_by (Some met) more = tt

  pub goes_by_two : {met : Option Met} {first mid last : Stop T W L D F K B} → Goes words context None first mid → Goes words context met mid last →
      Goes words context met first last
  goes_by_two {met = met} {first = first} {mid = mid} {last = last} one then = record {
    keeps = keeps_by_two collects_more one.keeps then.keeps;
    onward = onward_by_two words.all (rules_of context) (state_at words first) (state_at words mid) (state_at words last) (one.keeps.at_rest tt) one.onward then.onward;
  }

  pub keeps_closing : {met : Option Met} {first mid : Stop T W L D F K B} (phase : Phase) (closed : List (Harvester T)) (folder : MutBor F) (lanes : Vec (Lane T) Global) → Keeps words context Collects met first mid →
      ClosesTails words.all.tails closed (readers_at words mid) (record { folder = words.seen folder.now; lanes = lanings lanes.items }) → folder.ghost_name ≡ mid.system.folder.ghost_name →
      Keeps words context Collects met first (record mid { phase = phase; crew = record mid.crew { lanes = lanes }; system = record mid.system { folder = folder } })
  keeps_closing {met = met} {first = first} {mid = mid} phase closed folder lanes keeps closes same =
      let after : Readers T = record { folder = words.seen folder.now; lanes = lanings lanes.items } in
      let many = many_by_some words.all.tails closed (readers_at words mid) after closes in
      let able : IsAbleIn words.all.tails context (crewing mid.crew mid.storing) → IsAbleIn words.all.tails context (crewing (record mid.crew { lanes = lanes }) mid.storing) = λ was.
      able_closed words.all.tails context.outlets.queue.now.id context.outlets.desk.now.id closed (words.seen mid.system.folder.now) (words.seen folder.now)
      (crewing mid.crew mid.storing) (crewing (record mid.crew { lanes = lanes }) mid.storing) was closes refl refl in
      record {
        at_rest = keeps.at_rest;
        ready = λ on. let was = keeps.ready on in record { able = able was.able; is_open = was.is_open };
        able = able keeps.able;
        failing = keeps.failing;
        none_failed = keeps.none_failed;
        carriers_go_on = keeps.carriers_go_on;
        as_many = record {
          lanes = sym (length-map lanes.items laning) ∙ many ∙ length-map mid.crew.lanes.items laning ∙ keeps.as_many.lanes;
          carriers = keeps.as_many.carriers;
        };
        a_faults_never_fall = keeps.a_faults_never_fall;
        b_faults_never_fall = keeps.b_faults_never_fall;
        rings_never_fall = keeps.rings_never_fall;
        clock_goes_on = keeps.clock_goes_on;
        keeper = keeps.keeper;
        same_objects = keeps.same_objects;
        still_tell = keeps.still_tell;
        readers = readers_go_by_two words.all.tails (readers_at words first) (readers_at words mid) after keeps.readers
            (readers_go_by_some words.all.tails closed (readers_at words mid) after closes);
        same_folder = same ∙ keeps.same_folder;
        same_clock = keeps.same_clock;
        same_bell = keeps.same_bell;
      }

  -- behind which these tails were closed
  pub goes_then_closes : {met : Option Met} {first mid : Stop T W L D F K B} (closed : List (Harvester T)) (folder : MutBor F) (lanes : Vec (Lane T) Global) → Goes words context met first mid →
      ClosesTails words.all.tails closed (readers_at words mid) (record { folder = words.seen folder.now; lanes = lanings lanes.items }) → folder.ghost_name ≡ mid.system.folder.ghost_name →
      Goes words context met first (record mid { phase = phase_left mid.phase; crew = record mid.crew { lanes = lanes }; system = record mid.system { folder = folder } })
  goes_then_closes {met = met} {first = first} {mid = mid} closed folder lanes goes closes same = record {
    keeps = keeps_closing (phase_left mid.phase) closed folder lanes goes.keeps closes same;
    onward = onward_then words.all (rules_of context) (state_at words first) (state_at words mid)
        (state_at words (record mid { phase = phase_left mid.phase; crew = record mid.crew { lanes = lanes }; system = record mid.system { folder = folder } })) goes.onward
        (closing_onward words.all closed (words.seen mid.system.folder.now) (words.seen folder.now) (moments_at words mid) mid.crew lanes mid.storing mid.phase closes);
  }

  -- behind which none was
  pub goes_then_stays : {met : Option Met} {first mid : Stop T W L D F K B} (closed : List (Harvester T)) (folder : MutBor F) (lanes : Vec (Lane T) Global) → Goes words context met first mid →
      ClosesTails words.all.tails closed (readers_at words mid) (record { folder = words.seen folder.now; lanes = lanings lanes.items }) → folder.ghost_name ≡ mid.system.folder.ghost_name →
      ◌≡◌ {A = Readers T} (record { folder = words.seen folder.now; lanes = lanings lanes.items }) (readers_at words mid) →
      Goes words context met first (record mid { crew = record mid.crew { lanes = lanes }; system = record mid.system { folder = folder } })
  goes_then_stays {met = met} {first = first} {mid = mid} closed folder lanes goes closes same none = record {
    keeps = keeps_closing mid.phase closed folder lanes goes.keeps closes same;
    onward = onward_then words.all (rules_of context) (state_at words first) (state_at words mid)
        (state_at words (record mid { crew = record mid.crew { lanes = lanes }; system = record mid.system { folder = folder } })) goes.onward
        (same_onward words.all (words.seen mid.system.folder.now) (words.seen folder.now) (moments_at words mid) mid.crew lanes mid.storing mid.phase none);
  }

  keeps_as : {met : Option Met} {first last : Stop T W L D F K B} (now : Option Met) (phase : Phase) → (GoesOn now → GoesOn met) → IfNone now (NoneFailedAt context first → NoneFailedAt context last) →
      Keeps words context Collects met first last → Keeps words context Collects now first (record last { phase = phase })
  keeps_as now phase goes_on none keeps = record {
    at_rest = λ on. keeps.at_rest (goes_on on);
    ready = λ on. keeps.ready (goes_on on);
    able = keeps.able;
    failing = keeps.failing;
    none_failed = none;
    carriers_go_on = keeps.carriers_go_on;
    as_many = keeps.as_many;
    a_faults_never_fall = keeps.a_faults_never_fall;
    b_faults_never_fall = keeps.b_faults_never_fall;
    rings_never_fall = keeps.rings_never_fall;
    clock_goes_on = keeps.clock_goes_on;
    keeper = keeps.keeper;
    same_objects = keeps.same_objects;
    still_tell = keeps.still_tell;
    readers = keeps.readers;
    same_folder = keeps.same_folder;
    same_clock = keeps.same_clock;
    same_bell = keeps.same_bell;
  }

  -- whatever the phases are
  pub keeps_at : {met : Option Met} {first last : Stop T W L D F K B} (from phase : Phase) → Keeps words context Collects met first last →
      Keeps words context Collects met (record first { phase = from }) (record last { phase = phase })
  keeps_at from phase keeps = record {
    at_rest = keeps.at_rest;
    ready = keeps.ready;
    able = keeps.able;
    failing = keeps.failing;
    none_failed = keeps.none_failed;
    carriers_go_on = keeps.carriers_go_on;
    as_many = keeps.as_many;
    a_faults_never_fall = keeps.a_faults_never_fall;
    b_faults_never_fall = keeps.b_faults_never_fall;
    rings_never_fall = keeps.rings_never_fall;
    clock_goes_on = keeps.clock_goes_on;
    keeper = keeps.keeper;
    same_objects = keeps.same_objects;
    still_tell = keeps.still_tell;
    readers = keeps.readers;
    same_folder = keeps.same_folder;
    same_clock = keeps.same_clock;
    same_bell = keeps.same_bell;
  }

  -- what ends it may be called another, behind which no more is done, and it may leave
  pub goes_as : {met : Option Met} {first last : Stop T W L D F K B} (now : Met) → (GoesOn (Some now) → GoesOn met) → Goes words context met first last →
      Goes words context (Some now) first (record last { phase = Leaving })
  goes_as {met = met} {first = first} {last = last} now goes_on goes = record {
    keeps = keeps_as (Some now) Leaving goes_on tt goes.keeps;
    onward = onward_then words.all (rules_of context) (state_at words first) (state_at words last) (state_at words (record last { phase = Leaving })) goes.onward
        (leaving_onward words.all (words.seen last.system.folder.now).told (moments_at words last) last.crew last.storing last.phase);
  }

  -- a run that goes on may leave
  pub goes_leaving : {first last : Stop T W L D F K B} → Goes words context None first last → Goes words context None first (record last { phase = Leaving })
  goes_leaving {first = first} {last = last} goes = record {
    keeps = keeps_as None Leaving (λ on. on) goes.keeps.none_failed goes.keeps;
    onward = onward_then words.all (rules_of context) (state_at words first) (state_at words last) (state_at words (record last { phase = Leaving })) goes.onward
        (leaving_onward words.all (words.seen last.system.folder.now).told (moments_at words last) last.crew last.storing last.phase);
  }
