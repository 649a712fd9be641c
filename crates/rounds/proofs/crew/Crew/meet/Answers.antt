use Rattle.std.proofs.Common.{◌≡◌, ◌≢◌, ℕ, ◌-◌, ◌^◌, min, List, [], ◌++◌, ap, refl, subst, sym, ◌∙◌}
use Rattle.keeper.specs.Keeping.{Keeping}
use Rattle.lanes.specs.declared.lane.Lane.{Lane}
use Rattle.settle_box.specs.Senders.{posts_of}
use Rattle.rounds.specs.Crewing.{crewing}
use Rattle.rounds.specs.Crewed.{carriers_passes, lanes_passes, lanings}
use Rattle.rounds.specs.Meeting.{HaveAllPasses, HaveMet}
use Rattle.rounds.specs.Passes.{senders}
use Rattle.rounds.specs.declared.carrier.Carrier.{Carrier}
use Rattle.rounds.proofs.Slices.{met_in}
use Rattle.rounds.proofs.crew.Crew.meet.Goals as goal

pub meet-posted-requires-clause-some_lanes : goal.meet-posted-requires-clause-some_lanes
meet-posted-requires-clause-some_lanes g c = subst (λ (lanes : List (Lane g.row.T.Denot)). lanes ≢ []) (sym c.as_mut_slice.ensures.value) c.requires.have.some_lanes

pub meet-posted-requires-clause-some_carriers : goal.meet-posted-requires-clause-some_carriers
meet-posted-requires-clause-some_carriers g c =
    subst (λ (carriers : List (Carrier g.row.W.Denot g.row.L.Denot)). carriers ≢ []) (sym c.as_mut_slice-2.ensures.value) c.requires.have.some_carriers

pub meet-posted-requires-clause-have : goal.meet-posted-requires-clause-have
meet-posted-requires-clause-have g c =
    let queue = c.args.outlets.queue.now.id in
    let desk = c.args.outlets.desk.now.id in
    subst (λ (lanes : List (Lane g.row.T.Denot)). HaveAllPasses queue desk (lanings lanes) c.as_mut_slice-2.result.now) (sym c.as_mut_slice.ensures.value)
    (subst (λ (carriers : List (Carrier g.row.W.Denot g.row.L.Denot)). HaveAllPasses queue desk (lanings c.args.self.now.lanes.items) carriers) (sym c.as_mut_slice-2.ensures.value) c.requires.have.have)

pub returns : goal.returns
returns g c =
    let old = crewing c.args.self.now c.args.storing.now in
    let queue = c.args.outlets.queue.now.id in
    let desk = c.args.outlets.desk.now.id in
    let got = old.storing.keeper.now.pass.got in
    let new = c.meet-posted.new in
    let posted_in : List (Lane g.row.T.Denot) → List (Carrier g.row.W.Denot g.row.L.Denot) → ℕ = λ lanes carriers. min (posts_of (senders (lanes_passes (lanings lanes)) ++ senders (carriers_passes carriers))) (2 ^ 64 - 1) in
    let count : c.meet-posted.result ≡ posted_in old.lanes.items old.carriers.items =
    subst (λ (lanes : List (Lane g.row.T.Denot)). c.meet-posted.result ≡ posted_in lanes old.carriers.items) c.as_mut_slice.ensures.value
    (subst (λ (carriers : List (Carrier g.row.W.Denot g.row.L.Denot)). c.meet-posted.result ≡ posted_in c.as_mut_slice.result.now carriers) c.as_mut_slice-2.ensures.value c.meet-posted.ensures.count) in
    let collected : c.collected.result ≡ old.storing.keeper.now.collected = c.collected.ensures ∙ ap (λ (k : Keeping). k.collected) c.meet-posted.ensures.keeper in
    record {
      met = met_in queue desk got old.lanes new.lanes old.carriers new.carriers
          (subst (λ (lanes : List (Lane g.row.T.Denot)). HaveMet queue desk got (lanings lanes) (lanings new.lanes) old.carriers.items new.carriers) c.as_mut_slice.ensures.value
          (subst (λ (carriers : List (Carrier g.row.W.Denot g.row.L.Denot)). HaveMet queue desk got (lanings c.as_mut_slice.result.now) (lanings new.lanes) carriers new.carriers) c.as_mut_slice-2.ensures.value c.meet-posted.ensures.met));
      storing = ap (λ (k : Keeping). record old.storing { keeper = record old.storing.keeper { now = k } }) c.meet-posted.ensures.keeper;
      room = refl;
      boxed = c.saturating_sub-self.ensures ∙ ap (λ (n : ℕ). n - c.collected.result) count ∙ ap (λ (n : ℕ). posted_in old.lanes.items old.carriers.items - n) collected;
      posted = count;
      without = refl;
    }
