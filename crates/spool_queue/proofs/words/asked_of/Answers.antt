use Rattle.std.proofs.Common.{◌≡◌, ℕ, ◌<◌, ◌≤◌, List, [], ◌∷◌, length, get_or, refl, sym, ap, ◌∙◌, subst, arith, codes}
use Rattle.std.proofs.lemmas.Slice.Eq.{bytes_eq-Decides}
use Rattle.spool_queue.specs.Words.{IsHost}
use Rattle.spool_queue.proofs.words.asked_of.Goals as goal

one_of : (xs : List (List ℕ)) (x : List ℕ) → 1 ≤ length xs → length xs < 2 → x ≡ get_or xs 0 x → xs ≡ x ∷ []
one_of [] x some few is = absurd (omega arith)
one_of (y ∷ []) x some few is = ap (λ (z : List ℕ). z ∷ []) (sym is)
one_of (y ∷ z ∷ xs) x some few is = absurd (omega arith)

two_of : (xs : List (List ℕ)) (x y : List ℕ) → 2 ≤ length xs → length xs < 3 → x ≡ get_or xs 0 x → y ≡ get_or xs 1 y → xs ≡ x ∷ y ∷ []
two_of [] x y some few first second = absurd (omega arith)
two_of (a ∷ []) x y some few first second = absurd (omega arith)
two_of (a ∷ b ∷ []) x y some few first second = ap (λ (z : List ℕ). z ∷ b ∷ []) (sym first) ∙ ap (λ (z : List ℕ). x ∷ z ∷ []) (sym second)
two_of (a ∷ b ∷ c ∷ xs) x y some few first second = absurd (omega arith)

pub returns-in-len1 : goal.returns-in-len1
returns-in-len1 c =
    one_of c.args.words.now c.word-item.result (omega arith) (omega arith) c.word-item.is
    ∙ ap (λ (z : List ℕ). z ∷ []) (sym c.as_str.ensures ∙ (bytes_eq-Decides c.as_str.result.now (codes "put")).0 (sym c.eq.ensures ∙ c.if-eq.true))

pub returns-in-Some : goal.returns-in-Some
returns-in-Some c =
    let host = c.host-item.result in
    let H : List ℕ → Type 0 = λ l. IsHost l in (
      host,
      two_of c.args.words.now c.word-item-then-words-lt3.result host (omega arith) (omega arith) c.word-item-then-words-lt3.is c.host-item.is
          ∙ ap (λ (z : List ℕ). z ∷ host ∷ []) (sym c.as_str-then-words-lt3.ensures ∙ (bytes_eq-Decides c.as_str-then-words-lt3.result.now (codes "send")).0 (sym c.eq-then-words-lt3.ensures ∙ c.if-eq-2.true)),
      subst H c.bytes.ensures.same (c.target_of.ensures.0 (rw c.in-Some.is refl)),
    )
