-- What is told of a whole acknowledgement, where it was taken before.
use Rattle.std.proofs.Common.{◌≡◌, ℕ, false, [], ◌∷◌, ◌++◌, refl, subst}
use Rattle.lumber_client.specs.declared.heard.Heard.{Heard}
use Rattle.lumber_client.specs.declared.incoming.Taken.TheVariants.{Number}
use Rattle.lumber_client.specs.Answer.{IsAnswerTo}
use Rattle.lumber_client.specs.Exchange.{Exchange, with_heard}
use Rattle.lumber_client.specs.Hearing.{IsTakenAs, heard_as}
use Rattle.lumber_client.specs.Held.{Held, has_some, with_hearing}
use Rattle.lumber_client.specs.Standing.{StandsFor}
use Rattle.lumber_client.specs.Step.{Answers}
use Rattle.lumber_client.proofs.Stepping.{answer_stands}

pub stands_then : (w v : Held) (e : Exchange) (byte number place : ℕ) → v ≡ with_hearing w (heard_as w.hearing byte (has_some w.flights) (Number number)) → place ≡ w.hearing.given → StandsFor w e → w.out ≡ [] → w.hearing.failed ≡ false → IsTakenAs (w.hearing.frame ++ byte ∷ []) (Number number)
    → (heard : Heard) (new : Held) → Answers v number place heard new → StandsFor new (with_heard e byte) × IsAnswerTo e byte heard
stands_then w v e byte number place is_then is_place s none fine taken heard new answers =
    let taken_as = with_hearing w (heard_as w.hearing byte (has_some w.flights) (Number number)) in
    let here = subst (λ (u : Held). Answers u number place heard new) is_then answers in
    answer_stands w e byte number (has_some w.flights) s none fine refl taken heard new (subst (λ (n : ℕ). Answers taken_as number n heard new) is_place here)
