use Rattle.std.proofs.Common.{◌∙◌}
use Rattle.prospector_core.proofs.Comparing.{begun_known, begun_view}
use Rattle.prospector_core.proofs.Gone.{known_of_all, view_of_all}
use Rattle.prospector_core.proofs.prospector.Prospector.begin.Goals as goal

pub invariant_of-result : goal.invariant_of-result
invariant_of-result c = record {
  apart = begun_known c.args.begins.now c.args.others c.loop-begin.watched.items _ _ c.loop-begin.invariant.files c.loop-begin-test.false (c.len-next.ensures ∙ c.loop-begin.watched.ok.0) c.requires.begun c.requires.few;
  index = λ indexed. rw c.deref.ensures.value at c.in_ok-index_keys.ensures;
  none_gone = λ same. c.loop-begin.invariant.stay;
}

pub returns-clause-remembers : goal.returns-clause-remembers
returns-clause-remembers c =
    view_of_all c.loop-begin.watched.items _ _ c.loop-begin.invariant.stay
    ∙ begun_view c.args.begins.now c.args.others c.loop-begin.watched.items _ _ c.loop-begin.invariant.files c.loop-begin-test.false (c.len-next.ensures ∙ c.loop-begin.watched.ok.0)

pub returns-clause-known : goal.returns-clause-known
returns-clause-known c =
    known_of_all c.loop-begin.watched.items _ _ c.loop-begin.invariant.stay
    (begun_known c.args.begins.now c.args.others c.loop-begin.watched.items _ _ c.loop-begin.invariant.files c.loop-begin-test.false (c.len-next.ensures ∙ c.loop-begin.watched.ok.0) c.requires.begun c.requires.few)
