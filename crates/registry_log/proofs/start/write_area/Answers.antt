use Rattle.registry_log.proofs.Crashes.{left_alone, once_cut, once_opened, once_shut, once_written}
use Rattle.registry_log.proofs.start.write_area.Goals as goal

pub returns-in_err-close_gate-clause-each_moment : goal.returns-in_err-close_gate-clause-each_moment
returns-in_err-close_gate-clause-each_moment g c = λ only.
    once_shut g.D.Disk.moment g.D.Disk.images_since _ _ _ _ (c.close_gate.ensures.each_moment only)

pub returns-in_err-cut_to_gate-clause-each_moment : goal.returns-in_err-cut_to_gate-clause-each_moment
returns-in_err-cut_to_gate-clause-each_moment g c = λ only.
    let shut = once_shut g.D.Disk.moment g.D.Disk.images_since _ _ _ c.args.bytes.now (c.close_gate.ensures.each_moment only) in
    once_cut g.D.Disk.moment g.D.Disk.images_since _ _ _ _ _ _ shut c.in_ok-close_gate.ensures.closed (c.cut_to_gate.ensures.each_moment (c.in_ok-close_gate.ensures.settled only))

pub returns-in_err-write_synced-clause-each_moment : goal.returns-in_err-write_synced-clause-each_moment
returns-in_err-write_synced-clause-each_moment g c = λ only.
    let only_closed = c.in_ok-close_gate.ensures.settled only in
    let shut = once_shut g.D.Disk.moment g.D.Disk.images_since _ _ _ c.args.bytes.now (c.close_gate.ensures.each_moment only) in
    let cut = once_cut g.D.Disk.moment g.D.Disk.images_since _ _ _ _ _ _ shut c.in_ok-close_gate.ensures.closed (c.cut_to_gate.ensures.each_moment only_closed) in
    let alone = left_alone _ _ _ c.in_ok-close_gate.ensures.closed c.in_ok-cut_to_gate.ensures.cut in
    once_written g.D.Disk.moment g.D.Disk.images_since _ _ _ _ _ _ cut alone (c.write_synced.ensures.each_moment (c.in_ok-cut_to_gate.ensures.settled only_closed))

pub returns-clause-each_moment : goal.returns-clause-each_moment
returns-clause-each_moment g c = λ only.
    let only_closed = c.in_ok-close_gate.ensures.settled only in
    let shut = once_shut g.D.Disk.moment g.D.Disk.images_since _ _ _ c.args.bytes.now (c.close_gate.ensures.each_moment only) in
    let cut = once_cut g.D.Disk.moment g.D.Disk.images_since _ _ _ _ _ _ shut c.in_ok-close_gate.ensures.closed (c.cut_to_gate.ensures.each_moment only_closed) in
    let alone = left_alone _ _ _ c.in_ok-close_gate.ensures.closed c.in_ok-cut_to_gate.ensures.cut in
    let written = once_written g.D.Disk.moment g.D.Disk.images_since _ _ _ _ _ _ cut alone (c.write_synced.ensures.each_moment (c.in_ok-cut_to_gate.ensures.settled only_closed)) in
    once_opened g.D.Disk.moment g.D.Disk.images_since _ _ _ _ _ _ _ written alone c.in_ok-write_synced.ensures.written (c.write_synced-2.ensures.each_moment c.in_ok-write_synced.ensures.durable)
