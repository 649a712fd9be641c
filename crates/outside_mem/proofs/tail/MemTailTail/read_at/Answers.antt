use Rattle.std.proofs.Common.{ℕ, ◌+◌, ◌<◌, ◌≤◌, List, length, arith, refl, sym, subst, ap, ◌∙◌, length-take, length-drop}
use Rattle.std.proofs.lemmas.Bool.Decides.{nat_tests}
use Rattle.outside_mem.specs.Windows.{window}
use Rattle.std.specs.Prelude.{drop}
use Rattle.std.specs.Arc.{arc_value}
use Rattle.outside.specs.declared.history.Look.{Look}
use Rattle.outside.specs.Files.{IsNoEarlier, latest}
use Rattle.outside_mem.specs.Scripts.{file_of}
use Rattle.outside_mem.specs.Steps.{sight_at, standing_at}
use Rattle.outside_mem.proofs.Opening.{told_by}
use Rattle.outside_mem.proofs.Looking.{still_looked, looked_again, of_file, looks_at_bytes, no_look}
use Rattle.outside_mem.proofs.tail.MemTailTail.read_at.Goals as goal

pub invariant_of-self : goal.invariant_of-self
invariant_of-self c =
    let s = c.args.self.now in
    let later : s.calls ≤ c.saturating_add-self.result = omega arith in
    record { looked = still_looked (arc_value s.script) s.listings s.calls s.begun s.looks.items c.saturating_add-self.result later s.looked }

pub invariant_of-self-then-is_empty : goal.invariant_of-self-then-is_empty
invariant_of-self-then-is_empty c =
    let s = c.args.self.now in
    let later : s.calls ≤ c.saturating_add-self.result = omega arith in
    record { looked = still_looked (arc_value s.script) s.listings s.calls s.begun s.looks.items c.saturating_add-self.result later s.looked }

pub invariant_of-self-in-Ok : goal.invariant_of-self-in-Ok
invariant_of-self-in-Ok c =
    let s = c.args.self.now in
    let later : s.calls ≤ c.saturating_add-self.result = omega arith in
    let sight = rw c.deref.ensures at c.read-count.ensures.sight in
    record { looked = looked_again (arc_value s.script) s.listings s.calls s.begun s.looks.items c.push.new.self.items _ c.saturating_add-self.result later sight c.in-Ok.ensures.items }

pub invariant_of-self-in-Err : goal.invariant_of-self-in-Err
invariant_of-self-in-Err c =
    let s = c.args.self.now in
    let later : s.calls ≤ c.saturating_add-self.result = omega arith in
    let looked = still_looked (arc_value s.script) s.listings s.calls s.begun s.looks.items c.saturating_add-self.result later s.looked in
    record { looked = subst (λ (l : List Look). IsNoEarlier (latest s.begun l) (sight_at s.listings c.saturating_add-self.result (arc_value s.script).file.steps.items)) (sym c.in-Err.ensures.items) looked }

pub returns-in-Ok-clause-in_range : goal.returns-in-Ok-clause-in_range
returns-in-Ok-clause-in_range c =
    let s = c.args.self.now in
    let bytes = (standing_at s.listings s.calls (arc_value s.script).file.steps.items).bytes in
    let count = rw c.deref.ensures at c.read-count.ensures.count in
    λ read. omega (arith, count, length-take (length c.args.into.now) (drop c.args.at bytes), length-drop c.args.at bytes, (of_file (arc_value s.script) s.listings s.calls s.begun).in_range)

pub returns-in-Ok-clause-told : goal.returns-in-Ok-clause-told
returns-in-Ok-clause-told c =
    let s = c.args.self.now in
    let sight = rw c.deref.ensures at c.read-count.ensures.sight in
    let count = rw c.deref.ensures at c.read-count.ensures.count in
    let shows = rw c.deref.ensures at c.read-count.ensures.shows in
    let same_length = c.read-count.auto.into in
    let some_old : 0 < length c.args.into.now = grind (arith, nat_tests) in
    let some : 0 < length c.read-count.new.into = omega (arith, same_length, some_old) in
    let bytes = (standing_at s.listings s.calls (arc_value s.script).file.steps.items).bytes in
    looks_at_bytes (arc_value s.script) s.listings s.calls s.begun _ s.number s.looks.items _ c.push.new.self.items c.args.at _ c.read-count.new.into some refl sight s.looked
    (count ∙ ap (λ (n : ℕ). length (window n c.args.at bytes)) (sym same_length)) shows c.in-Ok.ensures.items

pub returns-in-Ok-clause-within_the_buffer : goal.returns-in-Ok-clause-within_the_buffer
returns-in-Ok-clause-within_the_buffer c =
    let s = c.args.self.now in
    let bytes = (standing_at s.listings s.calls (arc_value s.script).file.steps.items).bytes in
    let count = rw c.deref.ensures at c.read-count.ensures.count in
    omega (arith, count, length-take (length c.args.into.now) (drop c.args.at bytes))

pub returns-then-is_empty-clause-told : goal.returns-then-is_empty-clause-told
returns-then-is_empty-clause-told c = no_look _ c.args.at c.args.into.now (grind (arith, nat_tests))

pub returns-in-Err-clause-told : goal.returns-in-Err-clause-told
returns-in-Err-clause-told c =
    let s = c.args.self.now in
    ap (λ (l : List Look). told_by (s.opening.noted + s.opening.failed) s.number (file_of (arc_value s.script)) s.begun l) c.in-Err.ensures.items
