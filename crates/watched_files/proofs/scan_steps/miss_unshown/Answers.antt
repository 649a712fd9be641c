use Rattle.std.proofs.Common.{ℕ, arith, subst, sym}
use Rattle.watched_files.specs.Parts.{Misses}
use Rattle.watched_files.proofs.Missing.{miss_all, miss_start}
use Rattle.watched_files.proofs.Slots.{keeps_refl, keeps_trans}
use Rattle.watched_files.proofs.scan_steps.miss_unshown.Goals as goal

pub slots-init : goal.slots-init
slots-init c = (
  subst (λ (next : ℕ). Misses c.args.number c.args.prospector.now.files next c.args.deeds.now.items c.args.deeds.now.items 0 c.args.table.now c.args.table.now) (sym c.next_slot-next.ensures)
      (miss_start c.args.number c.args.prospector.now c.args.deeds.now.items c.args.table.now c.requires),
  keeps_refl c.args.table.now,
)

pub returns-in_err-from-clause-same_slots : goal.returns-in_err-from-clause-same_slots
returns-in_err-from-clause-same_slots c = keeps_trans c.args.table.now c.slots.table c.miss_first.new.table c.slots.invariant.1 c.miss_first.ensures.same_slots

pub slots-preserved : goal.slots-preserved
slots-preserved c = (
  c.in_ok-from.ensures.missed c.args.prospector.now.files c.args.deeds.now.items c.args.table.now c.slots.invariant.0,
  keeps_trans c.args.table.now c.slots.table c.miss_first.new.table c.slots.invariant.1 c.miss_first.ensures.same_slots,
)

pub returns-clause-missed : goal.returns-clause-missed
returns-clause-missed c =
    miss_all c.args.number c.args.whole c.args.prospector.now.files c.next_slot-next.result.0 c.args.deeds.now.items c.slots.deeds.items c.slots.from c.args.table.now c.slots.table
    c.if-not-whole.false (omega (arith, c.slots-test.false)) c.slots.invariant.0
