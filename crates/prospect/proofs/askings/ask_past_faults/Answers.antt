use Rattle.std.proofs.Common.{◌≡◌, ◌∙◌, IfSome, inl, refl, List, length, subst, drop, ◌+◌, ◌∷◌, ◌++◌, arith}
use Rattle.std.proofs.lemmas.Iterator.Adapters.{YieldsList-from_vec}
use Rattle.std.proofs.lemmas.Iterator.Consumers.{YieldsList-end, YieldsList-so_far, YieldsList-turn}
use Rattle.prospect.specs.declared.listed.Listed.{Listed}
use Rattle.prospect.specs.AskedFiles.{KeepsFiles}
use Rattle.prospect.specs.PastFaults.{TriesFiles}
use Rattle.prospect.proofs.AskedFiles.{all_yielded, keeps_all, keeps_few, keeps_in_range, keeps_inputs, keeps_keyed, keeps_next, yields_next}
use Rattle.prospect.proofs.Trying.{fail_more_later}
use Rattle.prospect.proofs.TryingFiles.{at_others, tries_more, tries_none, tries_some, whole_asked}
use Rattle.prospect.proofs.Unfinished.{on_err}
use Rattle.prospect.proofs.askings.ask_past_faults.Goals as goal

pub loop-one-init : goal.loop-one-init
loop-one-init g c = record {
  tries = tries_none c.args.inputs.now _ _ c.new.ensures.items c.new-2.ensures.items c.new-3.ensures.items c.new-4.ensures.items;
  keeps = c.new.ensures.items;
  failed = inl c.new-4.ensures.items;
  untold = λ none. none;
  open_tails = λ few. refl;
  faults = omega arith;
}

pub loop-one-preserved : goal.loop-one-preserved
loop-one-preserved g c = record {
  tries = tries_more c.args.inputs.now c.loop-one.yielded c.in-Some.one _ _ _ _ _ c.loop-one.invariant.tries c.in_ok-try_next.ensures.tried;
  keeps = keeps_next c.args.inputs.now c.loop-one.yielded c.in-Some.one _ _ c.loop-one.invariant.keeps c.in_ok-try_next.ensures.keeps;
  failed = fail_more_later _ _ _ _ _ _ c.try_next.ensures.faults_never_fall c.loop-one.invariant.failed c.loop-one.invariant.faults c.try_next.ensures.failed_only_where_faults_rose;
  untold = λ none. c.try_next.ensures.untold (c.loop-one.invariant.untold none);
  open_tails = λ few. c.try_next.ensures.open_tails_kept (omega (arith, few, c.loop-one.invariant.open_tails few)) ∙ c.loop-one.invariant.open_tails few;
  faults = omega (arith, c.loop-one.invariant.faults, c.try_next.ensures.faults_never_fall);
}

pub returns-in_err-try_next-clause-ended : goal.returns-in_err-try_next-clause-ended
returns-in_err-try_next-clause-ended g c =
    let gives = c.into_iter-one-iterator.ensures.into_iter_gives in
    let all = c.args.listed.items in
    let yielded = c.loop-one.yielded in
    let many : c.into_iter-one-iterator.result.rest.len ≡ length all = omega (arith, gives.1, c.args.listed.ok) in
    let road = YieldsList-from_vec all gives.0 many in
    let is : all ≡ yielded ++ c.in-Some.one ∷ drop (length yielded + 1) all = yields_next yielded all c.in-Some.one
    (YieldsList-so_far road yielded c.loop-one.one-iterator c.loop-one.yielded_by)
    (YieldsList-turn road yielded c.loop-one.one-iterator c.loop-one.yielded_by c.next.result c.next.new.self c.in-Some.one c.in-Some.is c.next.ensures.steps) in
    on_err _ _ (tries_some c.args.inputs.now all yielded (c.in-Some.one ∷ drop (length yielded + 1) all) _ _ _ _ is c.loop-one.invariant.tries
    (at_others c.args.inputs.now c.in-Some.one (drop (length yielded + 1) all) _ _ c.in_err-try_next.ensures.ended))

pub returns-clause-tried : goal.returns-clause-tried
returns-clause-tried g c =
    let gives = c.into_iter-one-iterator.ensures.into_iter_gives in
    let all = c.args.listed.items in
    let many : c.into_iter-one-iterator.result.rest.len ≡ length all = omega (arith, gives.1, c.args.listed.ok) in
    let end = YieldsList-end (YieldsList-from_vec all gives.0 many) c.loop-one.yielded c.loop-one.one-iterator c.loop-one.yielded_by c.next.result c.next.new.self c.in-None.is c.next.ensures.steps in
    subst (λ (l : List Listed). IfSome (g.F.Folder.told c.args.folder.now) (λ told. TriesFiles c.args.inputs.now told l c.loop-one.askings (g.F.Folder.told c.loop-one.folder)))
    (all_yielded c.loop-one.yielded all end.0) c.loop-one.invariant.tries

pub returns-clause-whole : goal.returns-clause-whole
returns-clause-whole g c none =
    whole_asked c.args.inputs.now (g.F.Folder.told c.args.folder.now) (g.F.Folder.told c.loop-one.folder) c.args.listed.items c.loop-one.askings (returns-clause-tried g c) none

pub returns-clause-keeps : goal.returns-clause-keeps
returns-clause-keeps g c =
    let gives = c.into_iter-one-iterator.ensures.into_iter_gives in
    let all = c.args.listed.items in
    let many : c.into_iter-one-iterator.result.rest.len ≡ length all = omega (arith, gives.1, c.args.listed.ok) in
    let end = YieldsList-end (YieldsList-from_vec all gives.0 many) c.loop-one.yielded c.loop-one.one-iterator c.loop-one.yielded_by c.next.result c.next.new.self c.in-None.is c.next.ensures.steps in
    subst (λ (l : List Listed). KeepsFiles c.args.inputs.now l c.loop-one.askings.keyed.files.items) (all_yielded c.loop-one.yielded all end.0) c.loop-one.invariant.keeps

pub returns-clause-few : goal.returns-clause-few
returns-clause-few g c =
    let gives = c.into_iter-one-iterator.ensures.into_iter_gives in
    let all = c.args.listed.items in
    let many : c.into_iter-one-iterator.result.rest.len ≡ length all = omega (arith, gives.1, c.args.listed.ok) in
    let end = YieldsList-end (YieldsList-from_vec all gives.0 many) c.loop-one.yielded c.loop-one.one-iterator c.loop-one.yielded_by c.next.result c.next.new.self c.in-None.is c.next.ensures.steps in
    let keeps : KeepsFiles c.args.inputs.now all c.loop-one.askings.keyed.files.items =
    subst (λ (l : List Listed). KeepsFiles c.args.inputs.now l c.loop-one.askings.keyed.files.items) (all_yielded c.loop-one.yielded all end.0) c.loop-one.invariant.keeps in
    keeps_few c.args.inputs.now all c.loop-one.askings.keyed.files.items keeps

pub returns-clause-all_where_no_file_is_read : goal.returns-clause-all_where_no_file_is_read
returns-clause-all_where_no_file_is_read g c =
    let gives = c.into_iter-one-iterator.ensures.into_iter_gives in
    let all = c.args.listed.items in
    let many : c.into_iter-one-iterator.result.rest.len ≡ length all = omega (arith, gives.1, c.args.listed.ok) in
    let end = YieldsList-end (YieldsList-from_vec all gives.0 many) c.loop-one.yielded c.loop-one.one-iterator c.loop-one.yielded_by c.next.result c.next.new.self c.in-None.is c.next.ensures.steps in
    let keeps : KeepsFiles c.args.inputs.now all c.loop-one.askings.keyed.files.items =
    subst (λ (l : List Listed). KeepsFiles c.args.inputs.now l c.loop-one.askings.keyed.files.items) (all_yielded c.loop-one.yielded all end.0) c.loop-one.invariant.keeps in
    keeps_all c.args.inputs.now all c.loop-one.askings.keyed.files.items keeps

pub returns-clause-keyed : goal.returns-clause-keyed
returns-clause-keyed g c =
    let gives = c.into_iter-one-iterator.ensures.into_iter_gives in
    let all = c.args.listed.items in
    let many : c.into_iter-one-iterator.result.rest.len ≡ length all = omega (arith, gives.1, c.args.listed.ok) in
    let end = YieldsList-end (YieldsList-from_vec all gives.0 many) c.loop-one.yielded c.loop-one.one-iterator c.loop-one.yielded_by c.next.result c.next.new.self c.in-None.is c.next.ensures.steps in
    let keeps : KeepsFiles c.args.inputs.now all c.loop-one.askings.keyed.files.items =
    subst (λ (l : List Listed). KeepsFiles c.args.inputs.now l c.loop-one.askings.keyed.files.items) (all_yielded c.loop-one.yielded all end.0) c.loop-one.invariant.keeps in
    keeps_keyed c.args.inputs.now all c.loop-one.askings.keyed.files.items keeps

pub returns-clause-kept_of_inputs : goal.returns-clause-kept_of_inputs
returns-clause-kept_of_inputs g c =
    let gives = c.into_iter-one-iterator.ensures.into_iter_gives in
    let all = c.args.listed.items in
    let many : c.into_iter-one-iterator.result.rest.len ≡ length all = omega (arith, gives.1, c.args.listed.ok) in
    let end = YieldsList-end (YieldsList-from_vec all gives.0 many) c.loop-one.yielded c.loop-one.one-iterator c.loop-one.yielded_by c.next.result c.next.new.self c.in-None.is c.next.ensures.steps in
    let keeps : KeepsFiles c.args.inputs.now all c.loop-one.askings.keyed.files.items =
    subst (λ (l : List Listed). KeepsFiles c.args.inputs.now l c.loop-one.askings.keyed.files.items) (all_yielded c.loop-one.yielded all end.0) c.loop-one.invariant.keeps in
    keeps_inputs c.args.inputs.now all c.loop-one.askings.keyed.files.items keeps c.requires.of_inputs

pub returns-clause-in_range : goal.returns-clause-in_range
returns-clause-in_range g c =
    let gives = c.into_iter-one-iterator.ensures.into_iter_gives in
    let all = c.args.listed.items in
    let many : c.into_iter-one-iterator.result.rest.len ≡ length all = omega (arith, gives.1, c.args.listed.ok) in
    let end = YieldsList-end (YieldsList-from_vec all gives.0 many) c.loop-one.yielded c.loop-one.one-iterator c.loop-one.yielded_by c.next.result c.next.new.self c.in-None.is c.next.ensures.steps in
    let keeps : KeepsFiles c.args.inputs.now all c.loop-one.askings.keyed.files.items =
    subst (λ (l : List Listed). KeepsFiles c.args.inputs.now l c.loop-one.askings.keyed.files.items) (all_yielded c.loop-one.yielded all end.0) c.loop-one.invariant.keeps in
    keeps_in_range c.args.inputs.now all c.loop-one.askings.keyed.files.items keeps

pub returns-in_err-try_next-clause-open_tails_kept : goal.returns-in_err-try_next-clause-open_tails_kept
returns-in_err-try_next-clause-open_tails_kept g c few =
    c.try_next.ensures.open_tails_kept (omega (arith, few, c.loop-one.invariant.open_tails few)) ∙ c.loop-one.invariant.open_tails few

pub returns-in_err-try_next-clause-faults_never_fall : goal.returns-in_err-try_next-clause-faults_never_fall
returns-in_err-try_next-clause-faults_never_fall g c = omega (arith, c.loop-one.invariant.faults, c.try_next.ensures.faults_never_fall)
