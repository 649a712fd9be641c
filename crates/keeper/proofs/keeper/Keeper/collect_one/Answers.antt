use Rattle.std.proofs.Common.{◌≡◌, ◌∙◌, ◌∷◌, [], None, ap, sym, subst}
use Rattle.std.specs.List.{count_by}
use Rattle.outside.specs.Counts.{added_counts}
use Rattle.settle_box.specs.Collector.{Collector}
use Rattle.keeper.specs.Collecting.{is_dropped, is_shipped}
use Rattle.keeper.specs.Keeping.{Keeping}
use Rattle.keeper.proofs.Gathering.{gathers_none, gathers_noted, gathers_refused, with_one}
use Rattle.keeper.proofs.keeper.Keeper.collect_one.Goals as goal

pub returns-in_default-clause-gathers : goal.returns-in_default-clause-gathers
returns-in_default-clause-gathers g c =
    let i = c.self.inside in
    let was : Keeping = record { tracked = i.tracker; store = i.store; pass = i.pass; held = i.held; shipped = i.shipped; dropped = i.dropped; collected = i.collected } in
    rw (← c.self.view_is) (rw c.in_default.ensures.nothing_collected (gathers_none was))

pub returns-clause-gathers : goal.returns-clause-gathers
returns-clause-gathers g c =
    let i = c.self.inside in
    let was : Keeping = record { tracked = i.tracker; store = i.store; pass = i.pass; held = i.held; shipped = i.shipped; dropped = i.dropped; collected = i.collected } in
    let note = c.in-Some.note in
    let first = c.in-Some.ensures.collected_first in
    let is : c.count.new.self ≡ with_one was first.0 note = c.count.ensures ∙ ap (λ (p : Collector). record was { pass = p; shipped = added_counts i.shipped (count_by is_shipped (note ∷ [])); dropped = added_counts i.dropped (count_by is_dropped (note ∷ [])); collected = added_counts i.collected 1 }) first.1 in
    let none = subst (λ (k : Keeping). k.held ≡ None) (sym c.self.view_is) c.requires.none_held in
    let e = c.note.ensures in
    rw (← c.self.view_is) (gathers_noted was c.count.new.self c.note.new.self first.0 note none c.in-Some.ensures.kind c.in-Some.ensures.range is c.in_ok-note.ensures.noted e.opening_stays e.committed_stays e.gone_stays c.in_ok-note.ensures.others_stay)

pub returns-in_err-note-clause-gathers : goal.returns-in_err-note-clause-gathers
returns-in_err-note-clause-gathers g c =
    let i = c.self.inside in
    let was : Keeping = record { tracked = i.tracker; store = i.store; pass = i.pass; held = i.held; shipped = i.shipped; dropped = i.dropped; collected = i.collected } in
    let note = c.in-Some.note in
    let first = c.in-Some.ensures.collected_first in
    let is : c.count.new.self ≡ with_one was first.0 note = c.count.ensures ∙ ap (λ (p : Collector). record was { pass = p; shipped = added_counts i.shipped (count_by is_shipped (note ∷ [])); dropped = added_counts i.dropped (count_by is_dropped (note ∷ [])); collected = added_counts i.collected 1 }) first.1 in
    let none = subst (λ (k : Keeping). k.held ≡ None) (sym c.self.view_is) c.requires.none_held in
    rw (← c.self.view_is) (gathers_refused was c.count.new.self c.note.new.self first.0 note none c.in-Some.ensures.kind c.in-Some.ensures.range is c.in_err-note.ensures.held)
