use Rattle.std.proofs.Common.{Option, Some, refl, sym, subst, ◌∙◌, inr}
use Rattle.batch_worker.specs.Keeping.{WorkerGoes}
use Rattle.batch_worker.specs.Links.{KeepsOrMakesLink}
use Rattle.batch_worker.specs.Seen.{seen}
use Rattle.batch_worker.specs.Working.{Working}
use Rattle.batch_worker.proofs.Keeping.{goes_nowhere}
use Rattle.batch_worker.proofs.Linking.{connecting_tells_none, connecting_tells_refusal, connecting_tells_unused, linked_goes, none_there, refused_goes}
use Rattle.batch_worker.proofs.worker.Worker.connect.Goals as goal

pub returns-then-is_some-clause-goes : goal.returns-then-is_some-clause-goes
returns-then-is_some-clause-goes g c =
    let old = c.args.wire.now in
    goes_nowhere _ (seen (g.W.Wire.outcomes old) (g.W.Wire.open_links old) (g.W.Wire.faults old) (g.W.Wire.idles old)) c.args.self.now

pub returns-in_default-clause-goes : goal.returns-in_default-clause-goes
returns-in_default-clause-goes g c =
    let old = c.args.wire.now in
    let new = c.connect.new.self in
    let before = seen (g.W.Wire.outcomes old) (g.W.Wire.open_links old) (g.W.Wire.faults old) (g.W.Wire.idles old) in
    let after = seen (g.W.Wire.outcomes new) (g.W.Wire.open_links new) (g.W.Wire.faults new) (g.W.Wire.idles new) in
    let none = none_there c.self.inside.link (sym c.is_some.ensures ∙ c.if-is_some.false) in
    rw (← c.self.view_is) (refused_goes g.L.Link.told before after _ c.in_default.field-0 none (rw c.in_default.is at c.connect.ensures.told) (rw c.in_default.is at c.connect.ensures.counts_open_links) c.connect.ensures.faults_never_fall)

pub returns-in_default-clause-kept : goal.returns-in_default-clause-kept
returns-in_default-clause-kept g c =
    let old = c.args.wire.now in
    let new = c.connect.new.self in
    connecting_tells_refusal g.L.Link.told c.in_default.field-0 (g.W.Wire.outcomes old) (g.W.Wire.outcomes new) (g.W.Wire.faults new) (rw c.in_default.is at c.connect.ensures.told)

pub returns-clause-same_outcomes : goal.returns-clause-same_outcomes
returns-clause-same_outcomes g c =
    let old = c.args.wire.now in
    let new = c.connect.new.self in
    connecting_tells_none g.L.Link.told c.in-Ok.link (g.W.Wire.outcomes old) (g.W.Wire.outcomes new) (g.W.Wire.faults new) (rw c.in-Ok.is at c.connect.ensures.told)

pub returns-clause-goes : goal.returns-clause-goes
returns-clause-goes g c =
    let old = c.args.wire.now in
    let new = c.connect.new.self in
    let before = seen (g.W.Wire.outcomes old) (g.W.Wire.open_links old) (g.W.Wire.faults old) (g.W.Wire.idles old) in
    let after = seen (g.W.Wire.outcomes new) (g.W.Wire.open_links new) (g.W.Wire.faults new) (g.W.Wire.idles new) in
    let none = none_there c.self.inside.link (sym c.is_some.ensures ∙ c.if-is_some.false) in
    let w = c.self.inside in
    let base : Option g.row.L.Denot → Working g.row.L.Denot = λ l. record {
      host = w.host;
      timeout = w.timeout;
      take = w.take;
      post = w.post;
      link = l;
      window = w.window;
      refused = w.refused;
      failures = w.failures;
      failed = w.failed;
      outs = w.outs.items;
      heard = w.heard;
    } in
    let goes = linked_goes g.L.Link.told before after (base w.link) c.in-Ok.link none (rw c.in-Ok.is at c.connect.ensures.told) (rw c.in-Ok.is at c.connect.ensures.counts_open_links) c.connect.ensures.faults_never_fall in
    rw (← c.self.view_is) (subst (λ (l : Option g.row.L.Denot). WorkerGoes g.L.Link.told before after (base w.link) (base l)) (sym c.replace.ensures.after) goes)

pub returns-clause-link : goal.returns-clause-link
returns-clause-link g c =
    let old = c.args.wire.now in
    let new = c.connect.new.self in
    let w = c.self.inside in
    let base : Option g.row.L.Denot → Working g.row.L.Denot = λ l. record {
      host = w.host;
      timeout = w.timeout;
      take = w.take;
      post = w.post;
      link = l;
      window = w.window;
      refused = w.refused;
      failures = w.failures;
      failed = w.failed;
      outs = w.outs.items;
      heard = w.heard;
    } in
    let made : KeepsOrMakesLink g.L.Link.told (base w.link) (base (Some c.in-Ok.link)) = inr (record {
      none = none_there c.self.inside.link (sym c.is_some.ensures ∙ c.if-is_some.false);
      link = c.in-Ok.link;
      is = refl;
      unused = connecting_tells_unused g.L.Link.told c.in-Ok.link (g.W.Wire.outcomes old) (g.W.Wire.outcomes new) (g.W.Wire.faults new) (rw c.in-Ok.is at c.connect.ensures.told);
    }) in
    rw (← c.self.view_is) (subst (λ (l : Option g.row.L.Denot). KeepsOrMakesLink g.L.Link.told (base w.link) (base l)) (sym c.replace.ensures.after) made)
