use Rattle.std.proofs.Common.{refl}
use Rattle.rounds.specs.Words.{disk_words}
use Rattle.rounds.proofs.KeeperSteps.{keeps_one}
use Rattle.rounds.proofs.storing.Storing.turn.Goals as goal

pub returns : goal.returns
returns g c =
    let old = c.args.self.now in
    let told = c.turn-turn.ensures in
    keeps_one (disk_words g.D.Disk.contents g.D.Disk.images g.D.Disk.moment g.D.Disk.images_since g.D.Disk.faults) c.turn-turn.result c.count.result old
    (record old { keeper = record old.keeper { now = c.turn-turn.new.self }; a = record old.a { now = c.turn-turn.new.a }; b = record old.b { now = c.turn-turn.new.b } }) c.count.new.self
    (record {
      collected = told.collected;
      at_most = told.at_most;
      count = told.count;
      stored = told.stored;
      stored_in_full = told.stored_in_full;
      committed_stays = told.committed_stays;
      kept_only_for_something = told.kept_only_for_something;
      open_where_kept = told.open_where_kept;
      store_kept_where_held = told.store_kept_where_held;
      a_kept_where_held = told.a_kept_where_held;
      b_kept_where_held = told.b_kept_where_held;
      empty = told.empty;
      nothing_to_store = told.nothing_to_store;
      kept_where_empty = told.kept_where_empty;
      a_kept_where_empty = told.a_kept_where_empty;
      b_kept_where_empty = told.b_kept_where_empty;
      commits = told.commits;
      settled = told.settled;
      disk_fault_only_where_faults_rose = told.disk_fault_only_where_faults_rose;
      a_told = told.a_told;
      b_told = told.b_told;
      a_faults_never_fall = told.a_faults_never_fall;
      b_faults_never_fall = told.b_faults_never_fall;
    })
    (record { keeper = refl; a = refl; b = refl }) refl c.count.ensures
