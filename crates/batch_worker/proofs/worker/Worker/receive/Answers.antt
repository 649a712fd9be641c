use Rattle.std.proofs.Common.{◌<◌, ◌≤◌, Some, length, take, refl, arith}
use Rattle.std.proofs.lemmas.List.{length-take-le}
use Rattle.batch_worker.proofs.Linking.{gets_told, head_of, some_bytes, tail_of}
use Rattle.batch_worker.proofs.worker.Worker.receive.Goals as goal

pub returns-in-None : goal.returns-in-None
returns-in-None g c =
    let w = c.self.inside in
    let count = c.in-Got.count in
    let into = c.recv.new.into in
    let bytes = take count into in
    let within = c.in-Got.ensures.within_the_buffer in
    let fits : count ≤ length into = omega (arith, within.1, c.recv.auto.into) in
    let some : 0 < length bytes = omega (arith, within.0, length-take-le count into fits) in
    rw (← c.self.view_is) (record {
      bytes = bytes;
      mid = record {
        host = w.host;
        timeout = w.timeout;
        take = w.take;
        post = w.post;
        link = Some c.recv.new.self;
        window = w.window;
        refused = w.refused;
        failures = w.failures;
        failed = w.failed;
        outs = w.outs.items;
        heard = w.heard;
      };
      received = record {
        link = c.in-Some.link;
        was = c.in-Some.is;
        later = c.recv.new.self;
        is = refl;
        cause = record {
          first = head_of bytes;
          others = tail_of bytes;
          some = some_bytes bytes some;
          told_is = gets_told (g.L.Link.told c.in-Some.link) (g.L.Link.told c.recv.new.self) into count c.in-Got.ensures.told;
        };
      };
      hears = c.in-None.ensures;
    })

pub returns-in-Some-hear : goal.returns-in-Some-hear
returns-in-Some-hear g c =
    let w = c.self.inside in
    let count = c.in-Got.count in
    let into = c.recv.new.into in
    let bytes = take count into in
    let within = c.in-Got.ensures.within_the_buffer in
    let fits : count ≤ length into = omega (arith, within.1, c.recv.auto.into) in
    let some : 0 < length bytes = omega (arith, within.0, length-take-le count into fits) in
    rw (← c.self.view_is) (record {
      bytes = bytes;
      mid = record {
        host = w.host;
        timeout = w.timeout;
        take = w.take;
        post = w.post;
        link = Some c.recv.new.self;
        window = w.window;
        refused = w.refused;
        failures = w.failures;
        failed = w.failed;
        outs = w.outs.items;
        heard = w.heard;
      };
      received = record {
        link = c.in-Some.link;
        was = c.in-Some.is;
        later = c.recv.new.self;
        is = refl;
        cause = record {
          first = head_of bytes;
          others = tail_of bytes;
          some = some_bytes bytes some;
          told_is = gets_told (g.L.Link.told c.in-Some.link) (g.L.Link.told c.recv.new.self) into count c.in-Got.ensures.told;
        };
      };
      hears = c.in-Some-hear.ensures;
    })
