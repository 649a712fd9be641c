use Rattle.std.proofs.Common.{◌≡◌, ◌∷◌, ◌<◌, ◌^◌, ℕ, List, length, take, drop, refl, ap, ◌∙◌, subst, arith}
use Rattle.spool_queue.specs.Log.{payloads}
use Rattle.spool_queue.specs.Walking.{IsNoHead}
use Rattle.spool_queue.proofs.Steps.{broken}
use Rattle.spool_queue.proofs.walk.Walk.step.Goals as goal

pub returns-in-Broken-clause-told : goal.returns-in-Broken-clause-told
returns-in-Broken-clause-told g c = λ bytes log told is.
    let rest : List ℕ = drop c.args.self.now.place bytes in
    let thirteen : length c.read_full.new.into ≡ 13 = omega arith in
    let front : take c.in_ok-count.count c.read_full.new.into ≡ take 13 rest = c.in_ok-count.ensures.told bytes told ∙ ap (λ (n : ℕ). take n rest) thirteen in
    let Says : List ℕ → Type 0 = λ l. (more : List ℕ) × (l ≡ 0x7B ∷ more) × IsNoHead l in
    let says = subst Says front c.in-Broken.ensures in
    let few : length (payloads log) < 2 ^ 64 = omega (arith, is.events) in
    (broken bytes log c.args.self.now.place says.0 is.reaches few says.1 says.2, refl)
