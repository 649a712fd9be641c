use Rattle.std.proofs.Common.{◌≡◌, ℕ, ◌+◌, ◌≤◌, ◌++◌, List, drop, length, sym, ◌∙◌, ap, subst, arith}
use Rattle.registry_log.specs.RecordReading.{IsFront, IsReadUpTo, IsRecord}
use Rattle.wire_base.specs.declared.row.Row.{Row}
use Rattle.registry_log.specs.Stretch.{unread}
use Rattle.registry_log.proofs.AtGate.{absent_at, at_gate, gate_at, grown_head, long_enough, no_head_at, no_record_at, opened_by_head, record_at, sized_by_head}
use Rattle.registry_log.proofs.Fronts.{passed_front}
use Rattle.registry_log.proofs.ReadOn.{absent_end, broken_end, closed_end, full_end, one_more}
use Rattle.registry_log.proofs.records.read_record.Goals as goal

pub returns-in-Absent-clause-record : goal.returns-in-Absent-clause-record
returns-in-Absent-clause-record g c = λ area generation told of so_far.
    let gate = c.args.stretch.now.place in
    let at = at_gate c.unread.result.now (unread c.fill.new.self) area c.fill.new.self.place gate 9 c.unread.ensures c.in_ok-fill.ensures.place (c.in_ok-fill.ensures.of_the_area area told of) (c.in_ok-fill.ensures.enough area told) in
    absent_end area generation gate c.args.rows.now so_far (absent_at c.unread.result.now (drop gate area) at.enough c.in-Absent.ensures)

pub returns-in-Broken-clause-record : goal.returns-in-Broken-clause-record
returns-in-Broken-clause-record g c = λ area generation told of so_far.
    let gate = c.args.stretch.now.place in
    let at = at_gate c.unread.result.now (unread c.fill.new.self) area c.fill.new.self.place gate 9 c.unread.ensures c.in_ok-fill.ensures.place (c.in_ok-fill.ensures.of_the_area area told of) (c.in_ok-fill.ensures.enough area told) in
    let head = c.in-Broken.ensures in
    let whole = gate_at c.unread.result.now (drop gate area) 0x7B head.0 at.front head.1 in
    broken_end area generation gate c.args.rows.now whole.0 so_far whole.1 (no_head_at c.unread.result.now (drop gate area) at.front at.enough head.2)

pub returns-in-Closed-clause-record : goal.returns-in-Closed-clause-record
returns-in-Closed-clause-record g c = λ area generation told of so_far.
    let gate = c.args.stretch.now.place in
    let at = at_gate c.unread.result.now (unread c.fill.new.self) area c.fill.new.self.place gate 9 c.unread.ensures c.in_ok-fill.ensures.place (c.in_ok-fill.ensures.of_the_area area told of) (c.in_ok-fill.ensures.enough area told) in
    let head = c.in-Closed.ensures in
    let whole = gate_at c.unread.result.now (drop gate area) head.0 head.1 at.front head.2 in
    closed_end area generation gate c.args.rows.now head.0 whole.0 so_far whole.1 head.3

pub read_operations-requires-clause-head : goal.read_operations-requires-clause-head
read_operations-requires-clause-head g c =
    let more = c.in_ok-fill-2.ensures.goes_on in
    grown_head c.unread.result.now c.unread-2.result.now more.0 c.in-Length.size c.in-Length.ensures.0 c.in-Length.ensures.1
    (c.unread-2.ensures ∙ more.1 ∙ ap (λ (l : List ℕ). l ++ more.0) (sym c.unread.ensures))

pub returns-in-None-clause-record : goal.returns-in-None-clause-record
returns-in-None-clause-record g c = λ area generation told of so_far.
    let gate = c.args.stretch.now.place in
    let size = c.in-Length.size in
    let read = c.unread-2.result.now in
    let low = c.in-Length.ensures.0 in
    let more = c.in_ok-fill-2.ensures.goes_on in
    let head = grown_head c.unread.result.now read more.0 size low c.in-Length.ensures.1 (c.unread-2.ensures ∙ more.1 ∙ ap (λ (l : List ℕ). l ++ more.0) (sym c.unread.ensures)) in
    let still = c.in_ok-fill.ensures.only_read.contents_kept ∙ told in
    let stretch = c.in_ok-fill-2.ensures.of_the_area area still (c.in_ok-fill.ensures.of_the_area area told of) in
    let at = at_gate read (unread c.fill-2.new.self) area c.fill-2.new.self.place gate (size + 10) c.unread-2.ensures (c.in_ok-fill-2.ensures.place ∙ c.in_ok-fill.ensures.place) stretch (c.in_ok-fill-2.ensures.enough area still) in
    let whole = opened_by_head read (drop gate area) size at.front head in
    broken_end area generation gate c.args.rows.now whole.0 so_far whole.1 (no_record_at read (drop gate area) size at.front at.enough low head (rw c.in-None.is at c.in_ok-found.ensures.record))

pub returns-then-len-gt-MAX_ROWS-clause-record : goal.returns-then-len-gt-MAX_ROWS-clause-record
returns-then-len-gt-MAX_ROWS-clause-record g c = λ area generation told of so_far.
    let gate = c.args.stretch.now.place in
    let size = c.in-Length.size in
    let read = c.unread-2.result.now in
    let low = c.in-Length.ensures.0 in
    let more = c.in_ok-fill-2.ensures.goes_on in
    let head = grown_head c.unread.result.now read more.0 size low c.in-Length.ensures.1 (c.unread-2.ensures ∙ more.1 ∙ ap (λ (l : List ℕ). l ++ more.0) (sym c.unread.ensures)) in
    let still = c.in_ok-fill.ensures.only_read.contents_kept ∙ told in
    let stretch = c.in_ok-fill-2.ensures.of_the_area area still (c.in_ok-fill.ensures.of_the_area area told of) in
    let at = at_gate read (unread c.fill-2.new.self) area c.fill-2.new.self.place gate (size + 10) c.unread-2.ensures (c.in_ok-fill-2.ensures.place ∙ c.in_ok-fill.ensures.place) stretch (c.in_ok-fill-2.ensures.enough area still) in
    let stands = rw c.in-Some.is at c.in_ok-found.ensures.record in
    let sized = sized_by_head c.in-Some.ops.items read (drop 9 read) (drop (size + 10) read) size low head stands in
    full_end area generation gate c.args.rows.now c.in-Some.ops.items (drop (gate + (size + 10)) area) so_far (record_at read area gate size c.in-Some.ops.items (drop (size + 10) read) at.front sized stands)
    (omega (arith, c.len.ensures, ap length c.in_ok-apply_all.ensures))

pub pass-requires : goal.pass-requires
pass-requires g c =
    let gate = c.args.stretch.now.place in
    let size = c.in-Length.size in
    let read = c.unread-2.result.now in
    let low = c.in-Length.ensures.0 in
    let more = c.in_ok-fill-2.ensures.goes_on in
    let head = grown_head c.unread.result.now read more.0 size low c.in-Length.ensures.1 (c.unread-2.ensures ∙ more.1 ∙ ap (λ (l : List ℕ). l ++ more.0) (sym c.unread.ensures)) in
    let stands = rw c.in-Some.is at c.in_ok-found.ensures.record in
    omega (arith, long_enough c.in-Some.ops.items read (drop (size + 10) read) size low head stands, ap length c.unread-2.ensures)

pub returns-clause-record : goal.returns-clause-record
returns-clause-record g c = λ area generation told of so_far.
    let gate = c.args.stretch.now.place in
    let size = c.in-Length.size in
    let read = c.unread-2.result.now in
    let low = c.in-Length.ensures.0 in
    let more = c.in_ok-fill-2.ensures.goes_on in
    let head = grown_head c.unread.result.now read more.0 size low c.in-Length.ensures.1 (c.unread-2.ensures ∙ more.1 ∙ ap (λ (l : List ℕ). l ++ more.0) (sym c.unread.ensures)) in
    let still = c.in_ok-fill.ensures.only_read.contents_kept ∙ told in
    let stretch = c.in_ok-fill-2.ensures.of_the_area area still (c.in_ok-fill.ensures.of_the_area area told of) in
    let at = at_gate read (unread c.fill-2.new.self) area c.fill-2.new.self.place gate (size + 10) c.unread-2.ensures (c.in_ok-fill-2.ensures.place ∙ c.in_ok-fill.ensures.place) stretch (c.in_ok-fill-2.ensures.enough area still) in
    let stands = rw c.in-Some.is at c.in_ok-found.ensures.record in
    let sized = sized_by_head c.in-Some.ops.items read (drop 9 read) (drop (size + 10) read) size low head stands in
    let next : c.pass.new.self.place ≡ gate + (size + 10) =
    c.pass.ensures.place ∙ ap (λ (p : ℕ). p + (size + 10)) (c.in_ok-fill-2.ensures.place ∙ c.in_ok-fill.ensures.place) in
    let fits : size + 10 ≤ length (unread c.fill-2.new.self) =
    omega (arith, long_enough c.in-Some.ops.items read (drop (size + 10) read) size low head stands, ap length c.unread-2.ensures) in
    let Bytes : List ℕ → Type 0 = λ l. IsFront l (drop (c.fill-2.new.self.place + (size + 10)) area) in
    let At : ℕ → Type 0 = λ p. IsFront (unread c.pass.new.self) (drop p area) in
    let Behind : ℕ → Type 0 = λ p. IsRecord c.in-Some.ops.items (drop gate area) (drop p area) in
    let Of : List Row → Type 0 = λ rows. IsReadUpTo area generation c.pass.new.self.place rows in
    let here = subst Behind (sym next) (record_at read area gate size c.in-Some.ops.items (drop (size + 10) read) at.front sized stands) in (
      subst At (sym c.pass.ensures.place) (subst Bytes (sym c.pass.ensures.passed) (passed_front (unread c.fill-2.new.self) area c.fill-2.new.self.place (size + 10) stretch fits)),
      subst Of (sym c.in_ok-apply_all.ensures)
          (one_more area generation gate c.pass.new.self.place c.args.rows.now c.in-Some.ops.items so_far here (omega (arith, next, sized)) (omega (arith, c.len.ensures, ap length c.in_ok-apply_all.ensures))),
    )
