use Rattle.std.proofs.Common.{◌≡◌, inl, inr, ◌<◌, ℕ, zero, suc, Bool, true, false, None, IsSome, length, ◌∙◌, ap, refl, subst, arith}
use Rattle.std.specs.Bool.{OnFalse}
use Rattle.ack_tracker.specs.Tracked.{Tracked}
use Rattle.registry_store.specs.Settled.{AreSettled}
use Rattle.registry_store.specs.Standing.{Standing, chosen_by}
use Rattle.keeper.specs.Keeping.{Keeping}
use Rattle.keeper.proofs.Committing.{collected_commits, commits_behind}
use Rattle.keeper.proofs.Gathering.{collects_then}
use Rattle.keeper.proofs.keeper.Keeper.turn.Goals as goal

pub returns-in_default-clause-commits : goal.returns-in_default-clause-commits
returns-in_default-clause-commits g c =
    collected_commits g.D.Disk.contents g.D.Disk.images g.D.Disk.moment g.D.Disk.images_since g.met.D.Disk.only_now c.args.self.now c.collect-collected.new.self c.collect-collected.ensures.gathers c.args.a.now c.args.b.now c.tell_stored.ensures c.requires.open

pub returns-then-nothing_before-clause-commits : goal.returns-then-nothing_before-clause-commits
returns-then-nothing_before-clause-commits g c =
    collected_commits g.D.Disk.contents g.D.Disk.images g.D.Disk.moment g.D.Disk.images_since g.met.D.Disk.only_now c.args.self.now c.collect-collected.new.self c.collect-collected.ensures.gathers c.args.a.now c.args.b.now c.tell_stored.ensures c.requires.open

pub returns-in-Ok-commit-clause-collected : goal.returns-in-Ok-commit-clause-collected
returns-in-Ok-commit-clause-collected g c =
    let mid = c.collect-collected.new.self in
    collects_then c.args.self.now mid c.commit.new.self mid.tracked.notes c.collect-collected.ensures.gathers.collects c.commit.ensures.others_stay c.in-Ok-commit.ensures.committed

pub returns-in-Ok-commit-clause-commits : goal.returns-in-Ok-commit-clause-commits
returns-in-Ok-commit-clause-commits g c =
    commits_behind g.D.Disk.contents g.D.Disk.images g.D.Disk.moment g.D.Disk.images_since g.met.D.Disk.only_now c.args.self.now c.collect-collected.new.self c.collect-collected.ensures.gathers c.args.a.now c.args.b.now c.commit.new.self.store c.commit.new.self.tracked.notes c.commit.new.a c.commit.new.b c.commit.ensures.commits

pub returns-in-Ok-commit-clause-settled : goal.returns-in-Ok-commit-clause-settled
returns-in-Ok-commit-clause-settled g c =
    let Kept : Standing → Type 0 = λ s. AreSettled g.D.Disk.contents g.D.Disk.images c.args.a.now c.args.b.now (chosen_by s) → c.commit.new.self.store.closed ≡ false → AreSettled g.D.Disk.contents g.D.Disk.images c.commit.new.a c.commit.new.b (chosen_by c.commit.new.self.store) in
    subst Kept c.collect-collected.ensures.gathers.store c.commit.ensures.settled

pub returns-in-Err-DiskFault-clause-collected : goal.returns-in-Err-DiskFault-clause-collected
returns-in-Err-DiskFault-clause-collected g c =
    let mid = c.collect-collected.new.self in
    collects_then c.args.self.now mid c.commit.new.self mid.tracked.committed c.collect-collected.ensures.gathers.collects c.commit.ensures.others_stay c.in-Err-DiskFault.ensures.nothing_committed

pub returns-in-Err-DiskFault-clause-commits : goal.returns-in-Err-DiskFault-clause-commits
returns-in-Err-DiskFault-clause-commits g c =
    commits_behind g.D.Disk.contents g.D.Disk.images g.D.Disk.moment g.D.Disk.images_since g.met.D.Disk.only_now c.args.self.now c.collect-collected.new.self c.collect-collected.ensures.gathers c.args.a.now c.args.b.now c.commit.new.self.store c.commit.new.self.tracked.notes c.commit.new.a c.commit.new.b c.commit.ensures.commits

pub returns-in-Err-DiskFault-clause-settled : goal.returns-in-Err-DiskFault-clause-settled
returns-in-Err-DiskFault-clause-settled g c =
    let Kept : Standing → Type 0 = λ s. AreSettled g.D.Disk.contents g.D.Disk.images c.args.a.now c.args.b.now (chosen_by s) → c.commit.new.self.store.closed ≡ false → AreSettled g.D.Disk.contents g.D.Disk.images c.commit.new.a c.commit.new.b (chosen_by c.commit.new.self.store) in
    subst Kept c.collect-collected.ensures.gathers.store c.commit.ensures.settled

on_false : {P : Type 0} (b : Bool) → b ≡ false → OnFalse b P → P
on_false true is p = absurd (let q : true ≡ false = is in cc)
on_false false is p = p

some_counted : (n : ℕ) → (n ≡ 0 → ⊥) → 0 < n
some_counted zero none = absurd (none refl)
some_counted (suc n) none = omega arith

pub returns-in-Ok-commit-clause-kept_only_for_something : goal.returns-in-Ok-commit-clause-kept_only_for_something
returns-in-Ok-commit-clause-kept_only_for_something g c = elim c.else-count-eq0.either [
  | inl nothing ↦ inr (on_false c.is_stored_in_full-nothing_before.result nothing.1 c.is_stored_in_full-nothing_before.ensures.not_all)
  | inr some ↦ inl (some_counted c.in-Ok.count some)
]

pub returns-in-Err : goal.returns-in-Err
returns-in-Err g c =
    let mid = c.collect-collected.new.self in
    let new = c.commit.new.self in
    let gathers = c.collect-collected.ensures.gathers in
    let e = c.commit.ensures in
    let none : new.held ≡ None = ap (λ (k : Keeping). k.held) e.others_stay ∙ c.in-Ok.ensures.none_held in
    let lengths : length new.pass.got ≡ length mid.pass.got = ap (λ (k : Keeping). length k.pass.got) e.others_stay in
    let Kept : Standing → Type 0 = λ s. AreSettled g.D.Disk.contents g.D.Disk.images c.args.a.now c.args.b.now (chosen_by s) → new.store.closed ≡ false → AreSettled g.D.Disk.contents g.D.Disk.images c.commit.new.a c.commit.new.b (chosen_by new.store) in
    record {
      collected = collects_then c.args.self.now mid new mid.tracked.committed gathers.collects e.others_stay c.in-Err.ensures.nothing_committed;
      at_most = omega (arith, lengths, c.collect-collected.ensures.at_most);
      count = tt;
      stored = e.stored;
      stored_in_full = tt;
      committed_stays = ap (λ (t : Tracked). t.committed) c.in-Err.ensures.nothing_committed ∙ gathers.committed;
      kept_only_for_something = tt;
      open_where_kept = tt;
      store_kept_where_held = λ some. absurd (let q : false ≡ true = subst IsSome none some in cc);
      a_kept_where_held = λ some. absurd (let q : false ≡ true = subst IsSome none some in cc);
      b_kept_where_held = λ some. absurd (let q : false ≡ true = subst IsSome none some in cc);
      empty = tt;
      nothing_to_store = tt;
      kept_where_empty = tt;
      a_kept_where_empty = tt;
      b_kept_where_empty = tt;
      commits = commits_behind g.D.Disk.contents g.D.Disk.images g.D.Disk.moment g.D.Disk.images_since g.met.D.Disk.only_now c.args.self.now mid gathers c.args.a.now c.args.b.now new.store new.tracked.notes c.commit.new.a c.commit.new.b e.commits;
      settled = subst Kept gathers.store e.settled;
      disk_fault_only_where_faults_rose = tt;
      a_told = e.a_told;
      b_told = e.b_told;
      a_faults_never_fall = e.a_faults_never_fall;
      b_faults_never_fall = e.b_faults_never_fall;
    }
