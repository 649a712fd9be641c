use Rattle.std.proofs.Common.{◌≡◌, ◌+◌, ◌++◌, ◌∷◌, [], ℕ, List, take, sym, ◌∙◌, ap, subst, arith}
use Rattle.std.proofs.lemmas.List.{take_more}
use Rattle.outside_mem.specs.declared.change.Change.{Change}
use Rattle.outside_mem.specs.Images.{Reading, after, fresh}
use Rattle.outside_mem.specs.Replays.{StandsFor}
use Rattle.outside_mem.proofs.Changing.{after-push}
use Rattle.outside_mem.proofs.disk.MemDisk.torn.Goals as goal

pub loop-change-preserved : goal.loop-change-preserved
loop-change-preserved c =
    let first = c.args.self.now.first.items in
    let changes = c.args.self.now.changes.items in
    let i = c.loop-change.change-index in
    let change = c.change-item.result in
    let item_is = rw c.deref-change-items.ensures.value at c.change-item.is in
    let one_more : take (i + 1) changes ≡ take i changes ++ change ∷ [] =
    take_more changes i change (omega arith) ∙ ap (λ (x : Change). take i changes ++ x ∷ []) (sym item_is) in
    let reading = ap (λ (cs : List Change). after (fresh first) cs) one_more ∙ after-push (take i changes) (fresh first) change in
    subst (λ (r : Reading). StandsFor c.args.filler r c.step.new.self) (sym reading) (c.in_ok-step.ensures.each _ c.loop-change.invariant)

pub loop-change-init : goal.loop-change-init
loop-change-init c =
    subst (λ (bytes : List ℕ). StandsFor c.args.filler (fresh bytes) c.in_ok-replay.replay) c.deref.ensures.value (c.in_ok-replay.ensures c.args.filler)
