use Rattle.std.proofs.Common.{◌≡◌, ◌∙◌, ℕ, List, ◌+◌, ◌++◌, ap, sym, codes, drop, arith}
use Rattle.std.proofs.lemmas.List.Elements.{All-nil}
use Rattle.registry_frame.specs.Body.{operation_bytes}
use Rattle.registry_frame.specs.BodyOf.{IsStoredRow}
use Rattle.registry_log.specs.Area.{sets}
use Rattle.registry_log.specs.Records.{records_behind}
use Rattle.wire_base.specs.declared.row.Op.{Op}
use Rattle.wire_base.specs.declared.row.Op.TheVariants.{Set}
use Rattle.registry_log.proofs.Groups.{all_stored, first_written, more_stored, next_row, rows_fit}
use Rattle.registry_log.proofs.area_text.with_records.Goals as goal

pub loop-i-init : goal.loop-i-init
loop-i-init c =
    let body : c.into_bytes.result.items ≡ codes "[" ++ operation_bytes (Set c.at.result.now) =
    rw c.into_bytes.ensures.value (c.in_ok-format.ensures.ok ∙ ap (λ (l : List ℕ). codes "[" ++ l) c.in_ok-first.ensures.spelled) in
    record {
      in_range = omega arith;
      written = ap (λ (l : List ℕ). c.args.header.items ++ l) (first_written c.args.rows.now c.at.result.now _ c.at.ensures.at body);
      stored = more_stored c.args.rows.now 0 c.at.result.now c.at.ensures.at (All-nil IsStoredRow) c.in_ok-first.ensures.stored;
    }

pub loop-i-preserved : goal.loop-i-preserved
loop-i-preserved c =
    let row = c.at-in-loop-i.result.now in
    let at = c.at-in-loop-i.ensures.at in
    record {
      in_range = omega arith;
      written = c.in_ok-add.ensures (Set row) (sets (drop (c.loop-i.i + 1) c.args.rows.now)) (c.as_str.ensures.value ∙ c.in_ok-operation.ensures.spelled)
          ∙ ap (λ (l : List Op). c.loop-i.area.text.items ++ records_behind c.loop-i.area.body.items l) (sym (next_row c.args.rows.now c.loop-i.i row at)) ∙ c.loop-i.invariant.written;
      stored = more_stored c.args.rows.now c.loop-i.i row at c.loop-i.invariant.stored c.in_ok-operation.ensures.stored;
    }

pub returns-clause-bodies_fit : goal.returns-clause-bodies_fit
returns-clause-bodies_fit c = rows_fit c.args.rows.now (all_stored c.args.rows.now c.loop-i.i (omega arith) c.loop-i.invariant.stored)

pub returns-clause-stored : goal.returns-clause-stored
returns-clause-stored c = all_stored c.args.rows.now c.loop-i.i (omega arith) c.loop-i.invariant.stored

pub returns-clause-in_order : goal.returns-clause-in_order
returns-clause-in_order c = c.at.ensures.rows.in_order
