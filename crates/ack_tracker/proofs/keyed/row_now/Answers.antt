use Rattle.std.proofs.Common.{◌≡◌, ℕ, Bool, List, Option, Some, None, sym, ap, ◌∙◌, if◌then◌else◌}
use Rattle.std.specs.Option.{option_and_then}
use Rattle.std.proofs.lemmas.Result.{IfOk-weaker}
use Rattle.ack_tracker.specs.FileState.{FileState}
use Rattle.ack_tracker.specs.Keys.{latest_of, row_at, row_now}
use Rattle.ack_tracker.proofs.Latest.{latest_begun}
use Rattle.ack_tracker.proofs.keyed.row_now.Goals as goal

-- the row of the slot that is the latest
of_latest : (files : List (ℕ × FileState)) (own : List ℕ) (key : List ℕ) (slot : ℕ) → latest_of files key None own ≡ Some slot → Some (row_at files slot) ≡ row_now files own key
of_latest files own key slot is =
    sym (ap (λ (b : Bool). if b then Some (option_and_then (row_at files) (latest_of files key None own)) else None) (latest_begun files key own slot is)
    ∙ ap (λ (o : Option ℕ). Some (option_and_then (row_at files) o)) is)

pub returns-in-Some-clause-row : goal.returns-in-Some-clause-row
returns-in-Some-clause-row c =
    let files = c.args.files.now.entries in
    let same = of_latest files c.args.own.now c.args.key.now c.in-Some.latest (sym c.latest.ensures ∙ c.in-Some.is) in
    IfOk-weaker c.row_at.result (λ row. row ≡ Some (row_at files c.in-Some.latest)) (λ row. row ≡ row_now files c.args.own.now c.args.key.now) (λ row is. is ∙ same) c.row_at.ensures.row
