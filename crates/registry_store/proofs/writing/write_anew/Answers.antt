use Rattle.std.proofs.Common.{ap, is_some}
use Rattle.registry_store.proofs.Anew.{appended_some, holds_started, started_some}
use Rattle.registry_store.proofs.writing.write_anew.Goals as goal

pub returns-in_err-start-clause-each_moment : goal.returns-in_err-start-clause-each_moment
returns-in_err-start-clause-each_moment g c = λ before holds settled.
    started_some g.D.Disk.contents g.D.Disk.images g.D.Disk.moment g.D.Disk.images_since c.checkpoint.result c.args.into.now c.checkpoint.new.into c.args.generation c.args.rows.now c.args.ops.now before
    (g.met.D.Disk.only_now c.args.into.now) c.checkpoint.ensures.untouched_without_memory c.checkpoint.ensures.opened settled holds (c.checkpoint.ensures.each_moment settled)

pub returns-in_err-end-clause-each_moment : goal.returns-in_err-end-clause-each_moment
returns-in_err-end-clause-each_moment g c = λ before holds settled.
    let begun = started_some g.D.Disk.contents g.D.Disk.images g.D.Disk.moment g.D.Disk.images_since c.checkpoint.result c.args.into.now c.checkpoint.new.into c.args.generation c.args.rows.now c.args.ops.now before
    (g.met.D.Disk.only_now c.args.into.now) c.checkpoint.ensures.untouched_without_memory c.checkpoint.ensures.opened settled holds (c.checkpoint.ensures.each_moment settled) in
    let there = holds_started g.D.Disk.contents g.D.Disk.images g.D.Disk.moment g.D.Disk.images_since c.args.into.now c.checkpoint.new.into c.args.generation c.in_ok-start.start c.args.rows.now (ap is_some holds)
    c.in_ok-start.ensures.started c.in_ok-start.ensures.durable (c.checkpoint.ensures.opened (λ none. cc (none, c.in_ok-start.was))) c.in_ok-start.ensures.last_gate in
    appended_some g.D.Disk.contents g.D.Disk.images g.D.Disk.moment g.D.Disk.images_since c.args.into.now c.checkpoint.new.into c.append_all.new.disk c.args.generation c.args.rows.now c.args.ops.now before begun
    (c.append_all.ensures.each_moment c.args.generation c.args.rows.now there c.requires.few)

pub returns-clause-written : goal.returns-clause-written
returns-clause-written g c = λ told.
    let there = holds_started g.D.Disk.contents g.D.Disk.images g.D.Disk.moment g.D.Disk.images_since c.args.into.now c.checkpoint.new.into c.args.generation c.in_ok-start.start c.args.rows.now told
    c.in_ok-start.ensures.started c.in_ok-start.ensures.durable (c.checkpoint.ensures.opened (λ none. cc (none, c.in_ok-start.was))) c.in_ok-start.ensures.last_gate in
    c.in_ok-end.ensures.appended c.args.generation c.args.rows.now there c.requires.few

pub returns-clause-each_moment : goal.returns-clause-each_moment
returns-clause-each_moment g c = λ before holds settled.
    let begun = started_some g.D.Disk.contents g.D.Disk.images g.D.Disk.moment g.D.Disk.images_since c.checkpoint.result c.args.into.now c.checkpoint.new.into c.args.generation c.args.rows.now c.args.ops.now before
    (g.met.D.Disk.only_now c.args.into.now) c.checkpoint.ensures.untouched_without_memory c.checkpoint.ensures.opened settled holds (c.checkpoint.ensures.each_moment settled) in
    let there = holds_started g.D.Disk.contents g.D.Disk.images g.D.Disk.moment g.D.Disk.images_since c.args.into.now c.checkpoint.new.into c.args.generation c.in_ok-start.start c.args.rows.now (ap is_some holds)
    c.in_ok-start.ensures.started c.in_ok-start.ensures.durable (c.checkpoint.ensures.opened (λ none. cc (none, c.in_ok-start.was))) c.in_ok-start.ensures.last_gate in
    appended_some g.D.Disk.contents g.D.Disk.images g.D.Disk.moment g.D.Disk.images_since c.args.into.now c.checkpoint.new.into c.append_all.new.disk c.args.generation c.args.rows.now c.args.ops.now before begun
    (c.append_all.ensures.each_moment c.args.generation c.args.rows.now there c.requires.few)
