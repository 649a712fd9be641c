use Rattle.std.proofs.Common.{List, [], ◌∷◌, ◌++◌, sym, ap, ◌∙◌, subst, append-nil, append_assoc}
use Rattle.std.specs.Prelude.{All}
use Rattle.std.proofs.lemmas.List.Elements.{All-append, All-cons, All-head, All-nil, All-tail}
use Rattle.std.proofs.lemmas.Result.{err_from_is_err_and}
use Rattle.json.specs.Json.{after_end_array}
use Rattle.wire_base.specs.Ranges.{IsOp}
use Rattle.wire_base.specs.declared.row.Op.{Op}
use Rattle.registry_frame.specs.BodyOf.{IsStoredOp}
use Rattle.registry_frame.specs.Tokens.{list_tokens}
use Rattle.registry_frame.proofs.Fields.{list_closed, next_operation}
use Rattle.registry_frame.proofs.reading.read_operations.Goals as goal

pub returns-in_err-read_operation-clause-reads : goal.returns-in_err-read_operation-clause-reads
returns-in_err-read_operation-clause-reads c = λ all stored begins.
    let so_far = c.operations.invariant.reads all stored begins in
    let next = next_operation c.operations.reader c.take_end_array.new.self so_far.0 c.operations-test.ensures.0 c.operations-test.ensures.1 so_far.3 in
    let ops : All IsStoredOp (next.0 ∷ next.1) = subst (All IsStoredOp) next.2 so_far.1 in
    let p = err_from_is_err_and c.from_residual.result c.from_residual.ensures.1 in
    rw (p.1, p.2) (c.in_err-read_operation.ensures.reads next.0 (list_tokens next.1) (All-head IsStoredOp next.0 next.1 ops) next.3)

pub operations-preserved : goal.operations-preserved
operations-preserved c = record {
  reads = λ all stored begins.
      let so_far = c.operations.invariant.reads all stored begins in
      let next = next_operation c.operations.reader c.take_end_array.new.self so_far.0 c.operations-test.ensures.0 c.operations-test.ensures.1 so_far.3 in
      let ops : All IsStoredOp (next.0 ∷ next.1) = subst (All IsStoredOp) next.2 so_far.1 in
      let read = c.in_ok-read_operation.ensures.reads next.0 (list_tokens next.1) (All-head IsStoredOp next.0 next.1 ops) next.3 in
      let op : Op = c.in_ok-read_operation.field-0 in (
        next.1,
        All-tail IsStoredOp next.0 next.1 ops,
        ap (λ (l : List Op). l ++ next.1) c.in_ok-push.ensures.items ∙ append_assoc c.operations.ops.items (op ∷ []) next.1
            ∙ ap (λ (l : List Op). c.operations.ops.items ++ l) (ap (λ (o : Op). o ∷ next.1) read.0 ∙ sym next.2) ∙ so_far.2,
        read.1,
      );
  in_range = subst (All IsOp) (sym c.in_ok-push.ensures.items)
      (All-append IsOp c.operations.ops.items (c.in_ok-read_operation.field-0 ∷ []) c.operations.invariant.in_range (All-cons IsOp c.in_ok-read_operation.field-0 [] c.in_ok-read_operation.ensures.in_range (All-nil IsOp)));
}

pub returns-clause-reads : goal.returns-clause-reads
returns-clause-reads c = λ all stored begins.
    let so_far = c.operations.invariant.reads all stored begins in
    let none = list_closed so_far.0 c.take_end_array.new.self (ap after_end_array (sym so_far.3) ∙ c.operations-test.ensures) in
    sym (append-nil c.operations.ops.items) ∙ ap (λ (l : List Op). c.operations.ops.items ++ l) (sym none) ∙ so_far.2
