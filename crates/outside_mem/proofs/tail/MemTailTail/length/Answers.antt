use Rattle.std.proofs.Common.{◌≤◌, List, arith, refl, sym, subst}
use Rattle.outside.specs.declared.history.Look.{Look}
use Rattle.outside.specs.declared.history.Sight.{Sight}
use Rattle.outside.specs.Files.{IsNoEarlier, latest}
use Rattle.outside_mem.specs.Steps.{sight_at}
use Rattle.wire_base.specs.Ranges.{IsPlace}
use Rattle.std.specs.Arc.{arc_value}
use Rattle.outside_mem.proofs.Looking.{still_looked, looked_again, of_file, looks_at_length}
use Rattle.outside_mem.proofs.tail.MemTailTail.length.Goals as goal

pub invariant_of-self : goal.invariant_of-self
invariant_of-self c =
    let s = c.args.self.now in
    let later : s.calls ≤ c.saturating_add-self.result = omega arith in
    record { looked = still_looked (arc_value s.script) s.listings s.calls s.begun s.looks.items c.saturating_add-self.result later s.looked }

pub invariant_of-self-in-Ok : goal.invariant_of-self-in-Ok
invariant_of-self-in-Ok c =
    let s = c.args.self.now in
    let later : s.calls ≤ c.saturating_add-self.result = omega arith in
    let sight = rw c.deref.ensures at c.sight-sight.ensures in
    record { looked = looked_again (arc_value s.script) s.listings s.calls s.begun s.looks.items c.push.new.self.items _ c.saturating_add-self.result later sight c.in-Ok.ensures.items }

pub invariant_of-self-in-Err : goal.invariant_of-self-in-Err
invariant_of-self-in-Err c =
    let s = c.args.self.now in
    let later : s.calls ≤ c.saturating_add-self.result = omega arith in
    let looked = still_looked (arc_value s.script) s.listings s.calls s.begun s.looks.items c.saturating_add-self.result later s.looked in
    record { looked = subst (λ (l : List Look). IsNoEarlier (latest s.begun l) (sight_at s.listings c.saturating_add-self.result (arc_value s.script).file.steps.items)) (sym c.in-Err.ensures.items) looked }

pub returns-in-Ok-clause-in_range : goal.returns-in-Ok-clause-in_range
returns-in-Ok-clause-in_range c =
    let s = c.args.self.now in
    let sight = rw c.deref.ensures at c.sight-sight.ensures in
    subst (λ (x : Sight). IsPlace x.length) (sym sight) (of_file (arc_value s.script) s.listings s.calls s.begun).in_range

pub returns-in-Ok-clause-told : goal.returns-in-Ok-clause-told
returns-in-Ok-clause-told c =
    let s = c.args.self.now in
    let sight = rw c.deref.ensures at c.sight-sight.ensures in
    looks_at_length (arc_value s.script) s.listings s.calls s.begun _ s.number s.looks.items _ c.push.new.self.items refl sight s.looked c.in-Ok.ensures.items
