-- What a window holds and has handed out as acknowledged is what the talk acknowledges.
use Rattle.std.proofs.Common.{◌≡◌, ℕ, suc, ◌+◌, ◌≤◌, List, [], ◌∷◌, ◌++◌, length, take, refl, sym, ap, subst, ◌∙◌, arith}
use Rattle.std.specs.List.{flat_map}
use Rattle.std.proofs.lemmas.List.{append-nil}
use Rattle.wire_base.specs.declared.talk.Piece.{Piece}
use Rattle.wire_base.specs.declared.talk.Piece.TheVariants.{Out}
use Rattle.lumber_frame.specs.Talk.{in_bytes, out_bytes}
use Rattle.lumber_frame.specs.Window.{AreWindows, window_bytes}
use Rattle.lumber_frame.specs.Acknowledged.{Acknowledges, Answer, acknowledgements, answers, greatest, payloads_by}
use Rattle.lumber_frame.proofs.GoingOn.{goes_on}
use Rattle.lumber_frame.proofs.Settling.{none_in_nothing}
use Rattle.lumber_frame.proofs.Staying.{answers_stay, numbers_fit, out_append}
use Rattle.lumber_frame.proofs.WindowBytes.{are_once}
use Rattle.lumber_frame.proofs.WindowsThere.{windows_there}
use Rattle.lumber_client.specs.Exchange.{Exchange, acknowledged_in, payloads_of, windows_of}
use Rattle.lumber_client.specs.Held.{Held}
use Rattle.lumber_client.specs.Standing.{StandsFor}
use Rattle.lumber_client.proofs.Given.{none_given}
use Rattle.lumber_client.proofs.Parcels.{payloads_are}

-- windows for which nothing was given add no payloads
pub none_more : (given : List Answer) (number : ℕ) (windows others : List (List (List ℕ))) → ((window : ℕ) → number + length windows ≤ window → greatest window given ≡ 0) → payloads_by given number (windows ++ others) ≡ payloads_by given number windows
none_more given number [] [] none = refl
none_more given number [] (window ∷ others) none =
    let here : number + 0 ≡ number = omega arith in
    ap (λ (n : ℕ). take n window ++ payloads_by given (suc number) others) (none number (omega arith)) ∙ none_more given (suc number) [] others (λ k more. none k (omega (arith, more)))
none_more given number (window ∷ windows) others none =
    ap (λ (tail : List (List ℕ)). take (greatest number given) window ++ tail) (none_more given (suc number) windows others (λ k more. none k (omega (arith, more))))

-- the talk acknowledges the payloads of these parcels
pub acknowledges : (w : Held) (e : Exchange) → StandsFor w e → Acknowledges e.talk (payloads_of (acknowledged_in e))
acknowledges w e s =
    let windows = windows_of e.begun in
    let talk = e.talk in
    let rest = w.out ++ w.behind in
    let whole = talk ++ Out rest ∷ [] in
    let numbers = acknowledgements (in_bytes talk) in
    let spelled : out_bytes whole ≡ flat_map window_bytes windows = out_append talk (Out rest ∷ []) ∙ ap (λ (tail : List ℕ). out_bytes talk ++ tail) (append-nil rest) ∙ s.sent in
    let all : AreWindows (out_bytes whole) windows = record { each = s.each; rest = []; whole = spelled ∙ sym (append-nil (flat_map window_bytes windows)); cut = none_in_nothing } in
    let there = windows_there (out_bytes talk) in
    let first = there.0 in
    let on = goes_on talk (Out rest ∷ []) first there.1 in
    let same : windows ≡ first ++ on.others = are_once (out_bytes whole) windows (first ++ on.others) all on.sent in
    let stay : answers (first ++ on.others) talk [] 0 numbers ≡ answers first talk [] 0 numbers = subst (λ (pieces : List Piece). answers (first ++ on.others) pieces [] 0 numbers ≡ answers first talk [] 0 numbers) (append-nil talk) (answers_stay first on.others talk [] [] 0 numbers on.within (omega (arith, numbers_fit (in_bytes talk)))) in
    let given = answers first talk [] 0 numbers in
    let none : (window : ℕ) → 1 + length first ≤ window → greatest window given ≡ 0 = λ window past. none_given first talk [] 0 numbers window (omega (arith, past)) refl in
    record {
      windows = first;
      sent = there.1;
      are = payloads_are (answers windows talk [] 0 numbers) 1 e.begun
          ∙ ap (λ (ws : List (List (List ℕ))). payloads_by (answers ws talk [] 0 numbers) 1 ws) same
          ∙ ap (λ (all_given : List Answer). payloads_by all_given 1 (first ++ on.others)) stay
          ∙ none_more given 1 first on.others none;
    }
