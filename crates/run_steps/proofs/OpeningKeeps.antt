-- What a step keeps in which a file may be opened: each other step keeps it, and two steps in a row do.
use Rattle.std.proofs.Common.{IfNone, None, Some, Option, ap, ◌∙◌, ◌++◌, arith}
use Rattle.keeper.specs.Keeping.{Keeping}
use Rattle.rounds.specs.Words.{TailWords}
use Rattle.run_steps.specs.CarriersFail.{sending}
use Rattle.run_steps.specs.ClosesTail.{Readers, ReadersGo}
use Rattle.run_steps.specs.Goes.{Keeps, StepWords, Stop, moments_at, readers_at}
use Rattle.run_steps.specs.MetIn.{NoneFailed}
use Rattle.run_steps.specs.OpeningKeeps.{OpeningKeeps, ReadersGoOn}
use Rattle.run_steps.specs.Releasing.{with_events}
use Rattle.run_steps.specs.declared.context.Context.{Context}
use Rattle.run_steps.specs.declared.met.Met.{Met}
use Rattle.run_steps.proofs.CarriersGoOn.{carriers_by_two}
use Rattle.run_steps.proofs.Clocks.{clock_by_two}
use Rattle.run_steps.proofs.FailingRounds.{fail_by_two}
use Rattle.run_steps.proofs.ReadersGo.{added_behind}

module _ {T : Type 0} (tails : TailWords T) where
  readers_as : (old new : Readers T) → ReadersGo tails old new → ReadersGoOn tails old new
  readers_as old new go = record { more = go.more; told = go.told; faults_never_fall = go.faults_never_fall; fault_stays = go.fault_stays }

  readers_by_two : (first mid last : Readers T) → ReadersGoOn tails first mid → ReadersGoOn tails mid last → ReadersGoOn tails first last
  readers_by_two first mid last one then = record {
    more = one.more ++ then.more;
    told = then.told ∙ ap (with_events then.more) one.told ∙ added_behind one.more then.more first.folder.told;
    faults_never_fall = omega (arith, one.faults_never_fall, then.faults_never_fall);
    fault_stays = λ since le met. then.fault_stays since (omega (arith, le, one.faults_never_fall)) (one.fault_stays since le met);
  }

abbrev NoneFailedAt : {T W L D F K B : Type 0} → Context → Stop T W L D F K B → Type 0
NoneFailedAt context stop = NoneFailed context.settings.now.output.attempts stop.crew.carriers.items

module _ {T W L D F K B : Type 0} {words : StepWords T W L D F K B} {context : Context} where
  -- in which none comes
  pub opening_keeps_as : {Keepers : Keeping → Keeping → Type 0} {met : Option Met} {before after : Stop T W L D F K B} → Keeps words context Keepers met before after →
      OpeningKeeps words context Keepers met before after
  opening_keeps_as {before = before} {after = after} keeps = record {
    at_rest = keeps.at_rest;
    ready = keeps.ready;
    able = keeps.able;
    failing = keeps.failing;
    none_failed = keeps.none_failed;
    carriers_go_on = keeps.carriers_go_on;
    as_many = keeps.as_many;
    a_faults_never_fall = keeps.a_faults_never_fall;
    b_faults_never_fall = keeps.b_faults_never_fall;
    rings_never_fall = keeps.rings_never_fall;
    clock_goes_on = keeps.clock_goes_on;
    keeper = keeps.keeper;
    same_objects = keeps.same_objects;
    still_tell = keeps.still_tell;
    readers = readers_as words.all.tails (readers_at words before) (readers_at words after) keeps.readers;
    same_folder = keeps.same_folder;
    same_clock = keeps.same_clock;
    same_bell = keeps.same_bell;
  }

  -- if the first met nothing
  pub opening_keeps_by_two : {met : Option Met} {First Second Both : Keeping → Keeping → Type 0} {first mid last : Stop T W L D F K B} →
      ((a b c : Keeping) → First a b → Second b c → Both a c) → OpeningKeeps words context First None first mid → OpeningKeeps words context Second met mid last →
      OpeningKeeps words context Both met first last
  opening_keeps_by_two {met = met} {first = first} {mid = mid} {last = last} both one then = record {
    at_rest = λ goes rest. then.at_rest goes (one.at_rest tt rest);
    ready = then.ready;
    able = then.able;
    failing = fail_by_two words.all.links words.all.wires context.settings.now.output.attempts (sending (moments_at words first) first.crew.carriers.items)
        (sending (moments_at words mid) mid.crew.carriers.items) (sending (moments_at words last) last.crew.carriers.items) one.failing one.none_failed then.failing;
    none_failed = none_failed_by met then.none_failed;
    carriers_go_on = carriers_by_two words.all.wires first.crew.carriers.items mid.crew.carriers.items last.crew.carriers.items one.carriers_go_on then.carriers_go_on;
    as_many = record { lanes = then.as_many.lanes ∙ one.as_many.lanes; carriers = then.as_many.carriers ∙ one.as_many.carriers };
    a_faults_never_fall = omega arith;
    b_faults_never_fall = omega arith;
    rings_never_fall = omega arith;
    clock_goes_on = clock_by_two (moments_at words first) (moments_at words mid) (moments_at words last) one.clock_goes_on then.clock_goes_on;
    keeper = both first.storing.keeper.now mid.storing.keeper.now last.storing.keeper.now one.keeper then.keeper;
    same_objects = record {
      keeper = then.same_objects.keeper ∙ one.same_objects.keeper;
      a = then.same_objects.a ∙ one.same_objects.a;
      b = then.same_objects.b ∙ one.same_objects.b;
    };
    still_tell = record { a = λ told. then.still_tell.a (one.still_tell.a told); b = λ told. then.still_tell.b (one.still_tell.b told) };
    readers = readers_by_two words.all.tails (readers_at words first) (readers_at words mid) (readers_at words last) one.readers then.readers;
    same_folder = then.same_folder ∙ one.same_folder;
    same_clock = then.same_clock ∙ one.same_clock;
    same_bell = then.same_bell ∙ one.same_bell;
  } where
    none_failed_by : (ended : Option Met) → IfNone ended (NoneFailedAt context mid → NoneFailedAt context last) → IfNone ended (NoneFailedAt context first → NoneFailedAt context last)
    none_failed_by None more = λ none. more (one.none_failed none)
    none_failed_by (Some met) more = tt
