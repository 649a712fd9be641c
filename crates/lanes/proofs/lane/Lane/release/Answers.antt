use Rattle.std.proofs.Common.{sym, subst, ◌∙◌}
use Rattle.std.proofs.lemmas.Option.{same_Some}
use Rattle.harvester.specs.declared.harvester.Harvester.{Harvester}
use Rattle.lanes.specs.Laning.{IsOfSlot}
use Rattle.lanes.proofs.lane.Lane.release.Goals as goal

pub returns-clause-released : goal.returns-clause-released
returns-clause-released g c =
    let stands = c.in_ok-index.ensures.stands in
    let released = c.release_at.ensures in
    record {
      of_slot = subst (λ (h : Harvester g.row.T.Denot). IsOfSlot c.args.slot h) (same_Some stands.one c.release_at.result (sym stands.is ∙ released.was)) stands.of_slot;
      seat = c.in_ok-index.index;
      released = released;
    }
