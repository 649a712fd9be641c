use Rattle.std.proofs.Common.{◌≡◌, ◌∙◌, List, length, subst, drop, ◌+◌, ◌∷◌, ◌++◌, arith}
use Rattle.std.proofs.lemmas.Iterator.Adapters.{YieldsList-from_vec}
use Rattle.std.proofs.lemmas.Iterator.Consumers.{YieldsList-end, YieldsList-so_far, YieldsList-turn}
use Rattle.prospect.specs.declared.listed.Listed.{Listed}
use Rattle.prospect.specs.AskedFiles.{KeepsFiles}
use Rattle.prospect.proofs.AskedFiles.{all_yielded, asks_more, asks_some, at_others, keeps_all, keeps_few, keeps_in_range, keeps_inputs, keeps_keyed, keeps_next, yields_next}
use Rattle.prospect.proofs.Unfinished.{on_err}
use Rattle.prospect.proofs.asking.ask_files.Goals as goal

pub loop-one-preserved : goal.loop-one-preserved
loop-one-preserved g c = record {
  asks = asks_more c.args.inputs.now c.loop-one.yielded c.in-Some.one _ _ _ _ _ c.loop-one.invariant.asks c.in_ok-ask_next.ensures.asked;
  keeps = keeps_next c.args.inputs.now c.loop-one.yielded c.in-Some.one _ _ c.loop-one.invariant.keeps c.in_ok-ask_next.ensures.keeps;
  open_tails = λ few. c.ask_next.ensures.open_tails_kept (omega (arith, few, c.loop-one.invariant.open_tails few)) ∙ c.loop-one.invariant.open_tails few;
  faults = omega (arith, c.loop-one.invariant.faults, c.ask_next.ensures.faults_never_fall);
}

pub returns-in_err-ask_next-clause-ended : goal.returns-in_err-ask_next-clause-ended
returns-in_err-ask_next-clause-ended g c =
    let gives = c.into_iter-one-iterator.ensures.into_iter_gives in
    let all = c.args.listed.items in
    let yielded = c.loop-one.yielded in
    let many : c.into_iter-one-iterator.result.rest.len ≡ length all = omega (arith, gives.1, c.args.listed.ok) in
    let road = YieldsList-from_vec all gives.0 many in
    let is : all ≡ yielded ++ c.in-Some.one ∷ drop (length yielded + 1) all = yields_next yielded all c.in-Some.one
    (YieldsList-so_far road yielded c.loop-one.one-iterator c.loop-one.yielded_by)
    (YieldsList-turn road yielded c.loop-one.one-iterator c.loop-one.yielded_by c.next.result c.next.new.self c.in-Some.one c.in-Some.is c.next.ensures.steps) in
    on_err _ _ (asks_some c.args.inputs.now all yielded (c.in-Some.one ∷ drop (length yielded + 1) all) _ _ _ _ is c.loop-one.invariant.asks
    (at_others c.args.inputs.now c.in-Some.one (drop (length yielded + 1) all) _ _ c.in_err-ask_next.ensures.ended))

pub returns-clause-few : goal.returns-clause-few
returns-clause-few g c =
    let gives = c.into_iter-one-iterator.ensures.into_iter_gives in
    let all = c.args.listed.items in
    let many : c.into_iter-one-iterator.result.rest.len ≡ length all = omega (arith, gives.1, c.args.listed.ok) in
    let end = YieldsList-end (YieldsList-from_vec all gives.0 many) c.loop-one.yielded c.loop-one.one-iterator c.loop-one.yielded_by c.next.result c.next.new.self c.in-None.is c.next.ensures.steps in
    let keeps : KeepsFiles c.args.inputs.now all c.loop-one.keyed.files.items =
    subst (λ (l : List Listed). KeepsFiles c.args.inputs.now l c.loop-one.keyed.files.items) (all_yielded c.loop-one.yielded all end.0) c.loop-one.invariant.keeps in
    keeps_few c.args.inputs.now all c.loop-one.keyed.files.items keeps

pub returns-clause-all_where_no_file_is_read : goal.returns-clause-all_where_no_file_is_read
returns-clause-all_where_no_file_is_read g c =
    let gives = c.into_iter-one-iterator.ensures.into_iter_gives in
    let all = c.args.listed.items in
    let many : c.into_iter-one-iterator.result.rest.len ≡ length all = omega (arith, gives.1, c.args.listed.ok) in
    let end = YieldsList-end (YieldsList-from_vec all gives.0 many) c.loop-one.yielded c.loop-one.one-iterator c.loop-one.yielded_by c.next.result c.next.new.self c.in-None.is c.next.ensures.steps in
    let keeps : KeepsFiles c.args.inputs.now all c.loop-one.keyed.files.items =
    subst (λ (l : List Listed). KeepsFiles c.args.inputs.now l c.loop-one.keyed.files.items) (all_yielded c.loop-one.yielded all end.0) c.loop-one.invariant.keeps in
    keeps_all c.args.inputs.now all c.loop-one.keyed.files.items keeps

pub returns-clause-keyed : goal.returns-clause-keyed
returns-clause-keyed g c =
    let gives = c.into_iter-one-iterator.ensures.into_iter_gives in
    let all = c.args.listed.items in
    let many : c.into_iter-one-iterator.result.rest.len ≡ length all = omega (arith, gives.1, c.args.listed.ok) in
    let end = YieldsList-end (YieldsList-from_vec all gives.0 many) c.loop-one.yielded c.loop-one.one-iterator c.loop-one.yielded_by c.next.result c.next.new.self c.in-None.is c.next.ensures.steps in
    let keeps : KeepsFiles c.args.inputs.now all c.loop-one.keyed.files.items =
    subst (λ (l : List Listed). KeepsFiles c.args.inputs.now l c.loop-one.keyed.files.items) (all_yielded c.loop-one.yielded all end.0) c.loop-one.invariant.keeps in
    keeps_keyed c.args.inputs.now all c.loop-one.keyed.files.items keeps

pub returns-clause-kept_of_inputs : goal.returns-clause-kept_of_inputs
returns-clause-kept_of_inputs g c =
    let gives = c.into_iter-one-iterator.ensures.into_iter_gives in
    let all = c.args.listed.items in
    let many : c.into_iter-one-iterator.result.rest.len ≡ length all = omega (arith, gives.1, c.args.listed.ok) in
    let end = YieldsList-end (YieldsList-from_vec all gives.0 many) c.loop-one.yielded c.loop-one.one-iterator c.loop-one.yielded_by c.next.result c.next.new.self c.in-None.is c.next.ensures.steps in
    let keeps : KeepsFiles c.args.inputs.now all c.loop-one.keyed.files.items =
    subst (λ (l : List Listed). KeepsFiles c.args.inputs.now l c.loop-one.keyed.files.items) (all_yielded c.loop-one.yielded all end.0) c.loop-one.invariant.keeps in
    keeps_inputs c.args.inputs.now all c.loop-one.keyed.files.items keeps c.requires.of_inputs

pub returns-clause-in_range : goal.returns-clause-in_range
returns-clause-in_range g c =
    let gives = c.into_iter-one-iterator.ensures.into_iter_gives in
    let all = c.args.listed.items in
    let many : c.into_iter-one-iterator.result.rest.len ≡ length all = omega (arith, gives.1, c.args.listed.ok) in
    let end = YieldsList-end (YieldsList-from_vec all gives.0 many) c.loop-one.yielded c.loop-one.one-iterator c.loop-one.yielded_by c.next.result c.next.new.self c.in-None.is c.next.ensures.steps in
    let keeps : KeepsFiles c.args.inputs.now all c.loop-one.keyed.files.items =
    subst (λ (l : List Listed). KeepsFiles c.args.inputs.now l c.loop-one.keyed.files.items) (all_yielded c.loop-one.yielded all end.0) c.loop-one.invariant.keeps in
    keeps_in_range c.args.inputs.now all c.loop-one.keyed.files.items keeps
