use Rattle.run_steps.proofs.NamedInputs.{inputs_have_own_ids}
use Rattle.beat_run.proofs.laws.next_run_opens_kept_rows.Goals as goal

pub returns-clause-opening : goal.returns-clause-opening
returns-clause-opening g c = λ earlier later as_left.
    let gives = later.accounted.opened as_left.first as_left.second as_left.a_found as_left.b_found in
    (earlier.accounted.rows as_left.were_at_rest as_left.first as_left.second later.accounted.run.opening as_left.a_left as_left.b_left gives).in_image.kept

pub returns-clause-opening_behind_last_steps : goal.returns-clause-opening_behind_last_steps
returns-clause-opening_behind_last_steps g c = λ earlier later as_left are_left.
    let gives = later.accounted.opened as_left.first as_left.second as_left.a_found as_left.b_found in
    (earlier.accounted.rows as_left.were_at_rest as_left.first as_left.second later.accounted.run.opening as_left.a_left as_left.b_left gives).kept are_left

pub returns-clause-own_ids : goal.returns-clause-own_ids
returns-clause-own_ids g c = λ settings in_range. inputs_have_own_ids settings in_range

pub returns-clause-keys : goal.returns-clause-keys
returns-clause-keys g c = λ earlier later as_left.
    let gives = later.accounted.opened as_left.first as_left.second as_left.a_found as_left.b_found in
    (earlier.accounted.rows as_left.were_at_rest as_left.first as_left.second later.accounted.run.opening as_left.a_left as_left.b_left gives).in_image.stay
