use Rattle.std.proofs.Common.{ap, is_some}
use Rattle.ship_core.specs.Replay.{replay_on}
use Rattle.registry_store.proofs.Beside.{apart, far_safe, far_started, near_appended, near_holds, near_safe}
use Rattle.registry_store.proofs.writing.write.Goals as goal

pub returns-in_err-start-clause-far_each_moment : goal.returns-in_err-start-clause-far_each_moment
returns-in_err-start-clause-far_each_moment g c = λ worn settled.
    let beside = apart g.D.Disk.contents g.D.Disk.images g.D.Disk.moment g.D.Disk.images_since c.args.used.area c.args.near.now c.args.far.now c.args.used.generation c.args.rows.now c.args.used.end settled in
    far_safe g.D.Disk.contents g.D.Disk.images g.D.Disk.moment g.D.Disk.images_since c.args.used.area c.args.near.now c.args.far.now c.write_anew.new.into c.args.used.generation c.args.rows.now c.args.used.end c.args.ops.now beside c.write_anew.ensures.each_moment

pub returns-then-is_worn-clause-settled : goal.returns-then-is_worn-clause-settled
returns-then-is_worn-clause-settled g c = λ settled.
    let beside = apart g.D.Disk.contents g.D.Disk.images g.D.Disk.moment g.D.Disk.images_since c.args.used.area c.args.near.now c.args.far.now c.args.used.generation c.args.rows.now c.args.used.end settled in
    far_started g.D.Disk.contents g.D.Disk.images g.D.Disk.moment g.D.Disk.images_since c.args.used.area c.other_area.result c.args.near.now c.args.far.now c.write_anew.new.into c.args.used.generation c.args.rows.now (replay_on c.args.rows.now c.args.ops.now) c.args.used.end c.in_ok-start.end
    c.other_area.ensures beside (c.in_ok-start.ensures.written (ap is_some beside.far_holds))

pub returns-then-is_worn-clause-far_each_moment : goal.returns-then-is_worn-clause-far_each_moment
returns-then-is_worn-clause-far_each_moment g c = λ worn settled.
    let beside = apart g.D.Disk.contents g.D.Disk.images g.D.Disk.moment g.D.Disk.images_since c.args.used.area c.args.near.now c.args.far.now c.args.used.generation c.args.rows.now c.args.used.end settled in
    far_safe g.D.Disk.contents g.D.Disk.images g.D.Disk.moment g.D.Disk.images_since c.args.used.area c.args.near.now c.args.far.now c.write_anew.new.into c.args.used.generation c.args.rows.now c.args.used.end c.args.ops.now beside c.write_anew.ensures.each_moment

pub returns-in_err-end-clause-near_each_moment : goal.returns-in_err-end-clause-near_each_moment
returns-in_err-end-clause-near_each_moment g c = λ worn settled.
    let beside = apart g.D.Disk.contents g.D.Disk.images g.D.Disk.moment g.D.Disk.images_since c.args.used.area c.args.near.now c.args.far.now c.args.used.generation c.args.rows.now c.args.used.end settled in
    let there = near_holds g.D.Disk.contents g.D.Disk.images g.D.Disk.moment g.D.Disk.images_since c.args.used.area c.args.near.now c.args.far.now c.args.used.generation c.args.rows.now c.args.used.end beside in
    near_safe g.D.Disk.contents g.D.Disk.images g.D.Disk.moment g.D.Disk.images_since c.args.used.area c.args.near.now c.append_all.new.disk c.args.far.now c.args.used.generation c.args.rows.now c.args.used.end c.args.ops.now beside
    (c.append_all.ensures.each_moment c.args.used.generation c.args.rows.now there c.requires.few)

pub returns-clause-settled : goal.returns-clause-settled
returns-clause-settled g c = λ settled.
    let beside = apart g.D.Disk.contents g.D.Disk.images g.D.Disk.moment g.D.Disk.images_since c.args.used.area c.args.near.now c.args.far.now c.args.used.generation c.args.rows.now c.args.used.end settled in
    let there = near_holds g.D.Disk.contents g.D.Disk.images g.D.Disk.moment g.D.Disk.images_since c.args.used.area c.args.near.now c.args.far.now c.args.used.generation c.args.rows.now c.args.used.end beside in
    near_appended g.D.Disk.contents g.D.Disk.images g.D.Disk.moment g.D.Disk.images_since c.args.used.area c.args.near.now c.append_all.new.disk c.args.far.now c.args.used.generation c.args.rows.now (replay_on c.args.rows.now c.args.ops.now) c.args.used.end c.in_ok-end.end beside
    (c.in_ok-end.ensures.appended c.args.used.generation c.args.rows.now there c.requires.few)

pub returns-clause-near_each_moment : goal.returns-clause-near_each_moment
returns-clause-near_each_moment g c = λ worn settled.
    let beside = apart g.D.Disk.contents g.D.Disk.images g.D.Disk.moment g.D.Disk.images_since c.args.used.area c.args.near.now c.args.far.now c.args.used.generation c.args.rows.now c.args.used.end settled in
    let there = near_holds g.D.Disk.contents g.D.Disk.images g.D.Disk.moment g.D.Disk.images_since c.args.used.area c.args.near.now c.args.far.now c.args.used.generation c.args.rows.now c.args.used.end beside in
    near_safe g.D.Disk.contents g.D.Disk.images g.D.Disk.moment g.D.Disk.images_since c.args.used.area c.args.near.now c.append_all.new.disk c.args.far.now c.args.used.generation c.args.rows.now c.args.used.end c.args.ops.now beside
    (c.append_all.ensures.each_moment c.args.used.generation c.args.rows.now there c.requires.few)
