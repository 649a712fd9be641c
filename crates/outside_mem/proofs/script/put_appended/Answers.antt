use Rattle.std.proofs.Common.{◌≡◌, ℕ, List, ◌+◌, ◌-◌, ◌++◌, length, take, drop, min, refl, ap, subst, ◌∙◌, arith, length-drop}
use Rattle.std.proofs.lemmas.List.{take_all, drop_min}
use Rattle.outside_mem.proofs.Showing.{Shows-append}
use Rattle.outside_mem.proofs.script.put_appended.Goals as goal

pub returns : goal.returns
returns c = λ bytes is shows.
    let blob = c.args.blob.now in
    let into = c.args.into.now in
    let new = c.put.new.into in
    let start = c.min-start.result in
    let to_is : c.saturating_sub-2.result ≡ length bytes - c.args.at = omega arith in
    let from_is : start ≡ min (c.args.at - length bytes) (length blob) = omega arith in
    let rest : take (length blob - start) (drop start blob) ≡ drop (c.args.at - length bytes) blob =
    take_all (length blob - start) (drop start blob) (omega (arith, length-drop start blob)) ∙ ap (λ (n : ℕ). drop n blob) from_is ∙ drop_min (c.args.at - length bytes) blob in
    let part = take (length into - (length bytes - c.args.at)) (drop (c.args.at - length bytes) blob) in
    let put = subst (λ (l : List ℕ). take (c.saturating_sub-2.result + length (take (length into - c.saturating_sub-2.result) l)) new ≡ take c.saturating_sub-2.result into ++ take (length into - c.saturating_sub-2.result) l) rest c.put.ensures in
    let put_there = subst (λ (n : ℕ). take (n + length (take (length into - n) (drop (c.args.at - length bytes) blob))) new ≡ take n into ++ take (length into - n) (drop (c.args.at - length bytes) blob)) to_is put in
    Shows-append c.args.at bytes blob into new part c.put.auto.into refl put_there shows
