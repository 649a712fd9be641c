use Rattle.std.proofs.Common.{◌≤◌, ℕ, ◌+◌, List, drop, length, inl, refl, sym, ap, ◌∙◌, subst, arith}
use Rattle.registry_log.specs.RecordReading.{IsFront}
use Rattle.registry_log.specs.Stretch.{unread}
use Rattle.registry_log.proofs.AtGate.{at_gate}
use Rattle.registry_log.proofs.Fronts.{no_bytes, passed_front}
use Rattle.registry_log.proofs.area.read_area.Goals as goal

pub returns-in-Closed-clause-state : goal.returns-in-Closed-clause-state
returns-in-Closed-clause-state g c = λ area told.
    let none = no_bytes (unread c.new-stretch.result) (drop c.new-stretch.result.place area) c.new-stretch.ensures.empty in
    let stretch = c.in_ok-fill.ensures.of_the_area area told none in
    let at = at_gate c.unread.result.now (unread c.fill.new.self) area c.fill.new.self.place 0 29 c.unread.ensures (c.in_ok-fill.ensures.place ∙ c.new-stretch.ensures.place) stretch (c.in_ok-fill.ensures.enough area told) in
    c.in-Closed.ensures.front area at.front at.enough

pub returns-in-Broken-clause-state : goal.returns-in-Broken-clause-state
returns-in-Broken-clause-state g c = λ area told.
    let none = no_bytes (unread c.new-stretch.result) (drop c.new-stretch.result.place area) c.new-stretch.ensures.empty in
    let stretch = c.in_ok-fill.ensures.of_the_area area told none in
    let at = at_gate c.unread.result.now (unread c.fill.new.self) area c.fill.new.self.place 0 29 c.unread.ensures (c.in_ok-fill.ensures.place ∙ c.new-stretch.ensures.place) stretch (c.in_ok-fill.ensures.enough area told) in
    inl (c.in-Broken.ensures.front area at.front at.enough)

pub returns-clause-state : goal.returns-clause-state
returns-clause-state g c = λ area told.
    let none = no_bytes (unread c.new-stretch.result) (drop c.new-stretch.result.place area) c.new-stretch.ensures.empty in
    let stretch = c.in_ok-fill.ensures.of_the_area area told none in
    let at = at_gate c.unread.result.now (unread c.fill.new.self) area c.fill.new.self.place 0 29 c.unread.ensures (c.in_ok-fill.ensures.place ∙ c.new-stretch.ensures.place) stretch (c.in_ok-fill.ensures.enough area told) in
    let front = c.in-Right.ensures.front area at.front at.enough in
    let fits : 29 ≤ length (unread c.fill.new.self) = omega (arith, c.in-Right.ensures.long c.in-Right.generation refl, ap length c.unread.ensures) in
    let Bytes : List ℕ → Type 0 = λ l. IsFront l (drop (c.fill.new.self.place + 29) area) in
    let At : ℕ → Type 0 = λ p. IsFront (unread c.pass.new.self) (drop p area) in
    let behind = subst At (sym c.pass.ensures.place) (subst Bytes (sym c.pass.ensures.passed) (passed_front (unread c.fill.new.self) area c.fill.new.self.place 29 stretch fits)) in
    c.read_opened.ensures.state area (c.in_ok-fill.ensures.only_read.contents_kept ∙ told) behind (omega (arith, c.pass.ensures.place, c.in_ok-fill.ensures.place, c.new-stretch.ensures.place)) front.0 front.1
