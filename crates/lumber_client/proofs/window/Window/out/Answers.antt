use Rattle.std.proofs.Common.{◌+◌, ap, sym, ◌∙◌}
use Rattle.lumber_client.specs.Exchange.{payloads_of}
use Rattle.lumber_client.specs.Held.{Held}
use Rattle.lumber_client.proofs.Goings.{rest_none}
use Rattle.lumber_client.proofs.window.Window.out.Goals as goal

pub returns-clause-empty_only_where_all_is_out : goal.returns-clause-empty_only_where_all_is_out
returns-clause-empty_only_where_all_is_out c = λ none.
    let w = c.self.inside in
    sym (ap (λ (v : Held). v.behind) c.self.view_is)
    ∙ rest_none w.outgoing (payloads_of w.parcels.items) (w.acknowledged + w.in_flight) c.self.invariant.idle (sym c.piece.ensures ∙ none)
