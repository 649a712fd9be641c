use Rattle.std.proofs.Common.{◌≡◌, ℕ, ◌+◌, ◌<◌, List, [], ◌∷◌, length, arith, sym, subst}
use Rattle.lumber_client.specs.Held.{Held, IsPart, total}
use Rattle.lumber_client.proofs.window.Window.windows_in_flight.Goals as goal

some_in_flight : (done in_flight : ℕ) (flights : List ℕ) → done + in_flight ≡ total flights → IsPart done flights → 0 < length flights → 0 < in_flight
some_in_flight done in_flight [] sum part some = absurd (omega arith)
some_in_flight done in_flight (count ∷ counts) sum part some = omega (arith, sum, part)

pub returns-clause-no_window_without_a_parcel : goal.returns-clause-no_window_without_a_parcel
returns-clause-no_window_without_a_parcel c = λ some.
    let w = c.self.inside in
    let flies = subst (λ (v : Held). 0 < length v.flights) (sym c.self.view_is) some in
    subst (λ (v : Held). 0 < v.in_flight) c.self.view_is (some_in_flight w.done w.in_flight w.flights.items c.self.invariant.counted c.self.invariant.part flies)
