-- Texts that are written one after another.
use Rattle.std.proofs.Common.{◌≡◌, ℕ, zero, suc, ◌+◌, List, [], ◌∷◌, ◌++◌, length, take, Option, Some, None, Result, Ok, Err, IsErr, refl, sym, ◌∙◌, ap, subst, append_assoc, arith}
use Rattle.std.proofs.lemmas.Bool.{false≢true}
use Rattle.outside.specs.declared.failed.Failed.{Failed}
use Rattle.report.specs.Writing.{WritesAll}

take-behind : (a b : List ℕ) (count : ℕ) → a ++ take count b ≡ take (length a + count) (a ++ b)
take-behind [] b count =
    let same : count ≡ 0 + count = omega arith in
    ap (λ (n : ℕ). take n b) same
take-behind (x ∷ a) b count =
    let same : suc (length a + count) ≡ suc (length a) + count = omega arith in
    ap (λ (l : List ℕ). x ∷ l) (take-behind a b count) ∙ ap (λ (n : ℕ). take n (x ∷ a ++ b)) same

-- a front of a text is one of it with more after
front_of : (a b : List ℕ) (count : ℕ) → (more : ℕ) × (take count a ≡ take more (a ++ b))
front_of a b zero = (0, refl)
front_of [] b (suc count) = (0, refl)
front_of (x ∷ a) b (suc count) = (suc (front_of a b count).0, ap (λ (l : List ℕ). x ∷ l) (front_of a b count).1)

pub writes_then : (old between after : Option (List ℕ)) (a b : List ℕ) (result : Result (Unit {0}) Failed) →
    WritesAll old a (Ok tt) between → WritesAll between b result after → WritesAll old (a ++ b) result after
writes_then None between after a b result first second =
    let P : Option (List ℕ) → Type 0 = λ o. WritesAll o b result after in
    subst P first second
writes_then (Some written) between after a b (Ok done) first second =
    let P : Option (List ℕ) → Type 0 = λ o. WritesAll o b (Ok done) after in
    subst P first second ∙ ap (λ (l : List ℕ). Some l) (append_assoc written a b)
writes_then (Some written) between after a b (Err failed) first second =
    let P : Option (List ℕ) → Type 0 = λ o. WritesAll o b (Err failed) after in
    let front = subst P first second in
    (length a + front.0, front.1 ∙ ap (λ (l : List ℕ). Some l) (append_assoc written a (take front.0 b) ∙ ap (λ (l : List ℕ). written ++ l) (take-behind a b front.0)))

pub writes_failed : (old after : Option (List ℕ)) (a b : List ℕ) (failed : Failed) (result : Result (Unit {0}) Failed) → IsErr result →
    WritesAll old a (Err failed) after → WritesAll old (a ++ b) result after
writes_failed old after a b failed (Ok done) none writes = absurd (false≢true none)
writes_failed None after a b failed (Err other) is writes = writes
writes_failed (Some written) after a b failed (Err other) is writes =
    let more = front_of a b writes.0 in
    (more.0, writes.1 ∙ ap (λ (l : List ℕ). Some (written ++ l)) more.1)

-- whatever is then written of what is left completes the writing of the whole text
pub record Continues (old : Option (List ℕ)) (text : List ℕ) (now : Option (List ℕ)) (left : List ℕ) : Type 0 where
  pub whole : (result : Result (Unit {0}) Failed) (after : Option (List ℕ)) → WritesAll now left result after → WritesAll old text result after

pub continues_at_first : (old : Option (List ℕ)) (text : List ℕ) → Continues old text old text
continues_at_first old text = record { whole = λ result after writes. writes }

pub continues_then : (old : Option (List ℕ)) (text : List ℕ) (now between : Option (List ℕ)) (left a b : List ℕ) →
    Continues old text now left → left ≡ a ++ b → WritesAll now a (Ok tt) between → Continues old text between b
continues_then old text now between left a b was parts first =
    record {
      whole = λ result after second.
          let P : List ℕ → Type 0 = λ l. WritesAll now l result after in
          was.whole result after (subst P (sym parts) (writes_then now between after a b result first second));
    }

pub continues_failed : (old : Option (List ℕ)) (text : List ℕ) (now after : Option (List ℕ)) (left a b : List ℕ) (failed : Failed)
    (result : Result (Unit {0}) Failed) → IsErr result → Continues old text now left → left ≡ a ++ b → WritesAll now a (Err failed) after →
    WritesAll old text result after
continues_failed old text now after left a b failed result is was parts first =
    let P : List ℕ → Type 0 = λ l. WritesAll now l result after in
    was.whole result after (subst P (sym parts) (writes_failed now after a b failed result is first))

pub continues_last : (old : Option (List ℕ)) (text : List ℕ) (now after : Option (List ℕ)) (left a : List ℕ)
    (result : Result (Unit {0}) Failed) → Continues old text now left → left ≡ a → WritesAll now a result after → WritesAll old text result after
continues_last old text now after left a result was same last =
    let P : List ℕ → Type 0 = λ l. WritesAll now l result after in
    was.whole result after (subst P (sym same) last)
