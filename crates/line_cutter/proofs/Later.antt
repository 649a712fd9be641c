-- Lines adjoin, and the lines after one are those of the bytes after it.
use Rattle.std.proofs.Common.{◌≡◌, ℕ, suc, ◌+◌, ◌-◌, ◌<◌, List, [], ◌∷◌, ◌++◌, length, take, drop, refl, sym, ap, subst, ◌∙◌, inl, inr, arith, zero-add}
use Rattle.std.proofs.lemmas.Bool.{cases_Bool, cond-true, cond-false}
use Rattle.std.proofs.lemmas.List.{drop-drop}
use Rattle.std.specs.Str.{bytes_eq}
use Rattle.event_tree.specs.declared.line_rule.LineRule.{LineRule}
use Rattle.line_cutter.specs.declared.line.Line.{Line}
use Rattle.line_cutter.specs.Cut.{Cut, rest, line, cut, in_front, cut_behind}
use Rattle.line_cutter.specs.Lines.{complete_lines, lines_in, line_at, end_of}
use Rattle.line_cutter.specs.Row.{AreAdjoining}
use Rattle.line_cutter.specs.Terminator.{terminator_of}
use Rattle.line_cutter.proofs.Cuts.{cut_behind-drop}
use Rattle.line_cutter.proofs.Lining.{some_byte}

-- a cut begins with this line
abbrev BeginsWith : Cut → List ℕ → Cut → Type 0
BeginsWith (rest bytes) body behind = ⊥
BeginsWith (line first later) body behind = (first ≡ body) × (later ≡ behind)

begins : (c : Cut) (body : List ℕ) (behind : Cut) → c ≡ line body behind → BeginsWith c body behind
begins c body behind e = subst (λ d. BeginsWith d body behind) (sym e) (refl, refl)

module _ (t : List ℕ) (some : 0 < length t) where
  behind_first : (xs body : List ℕ) (behind : Cut) → BeginsWith (cut t xs) body behind → behind ≡ cut t (drop (length body + length t) xs)
  behind_first [] body behind e = absurd e
  behind_first (x ∷ xs) body behind e = elim (cases_Bool (bytes_eq (take (length t) (x ∷ xs)) t)) [
    | inl holds ↦
        let here = subst (λ c. BeginsWith c body behind) (cond-true _ (line [] (cut_behind t (length t - 1) xs)) (in_front x (cut t xs)) holds) e in
        let n : length t ≡ suc (length t - 1) = omega arith in
        sym here.1 ∙ cut_behind-drop t (length t - 1) xs
        ∙ ap (λ m. cut t (drop m (x ∷ xs))) (sym n ∙ sym (zero-add (length t)) ∙ ap (λ ys. length ys + length t) here.0)
    | inr fails ↦
        past (λ first there. behind_first xs first behind there) body (cut t xs) refl (subst (λ c. BeginsWith c body behind) (cond-false _ (line [] (cut_behind t (length t - 1) xs)) (in_front x (cut t xs)) fails) e)
  ]
    where
      past : ((first : List ℕ) → BeginsWith (cut t xs) first behind → behind ≡ cut t (drop (length first + length t) xs)) →
          (body : List ℕ) (c : Cut) → cut t xs ≡ c → BeginsWith (in_front x c) body behind → behind ≡ cut t (drop (length body + length t) (x ∷ xs))
      past before body (rest bytes) is there = absurd there
      past before body (line first later) is there =
          let n : suc (length first) + length t ≡ suc (length first + length t) = omega arith in
          before first (subst (λ d. BeginsWith d first behind) (sym is) (refl, there.1))
          ∙ ap (λ m. cut t (drop m (x ∷ xs))) (sym n ∙ ap (λ ys. length ys + length t) there.0)

module _ (rule : LineRule) where
  pub adjoining_in : (start : ℕ) (c : Cut) → AreAdjoining start (lines_in rule start c)
  adjoining_in start (rest bytes) = tt
  adjoining_in start (line body behind) = (refl, omega (arith, some_byte rule.terminator), adjoining_in (end_of rule start body) behind)

  -- each line ends after the place of the first byte
  ends_later : (start : ℕ) (c : Cut) (given : List Line) (one : Line) (more : List Line) → lines_in rule start c ≡ given ++ one ∷ more →
      start < one.span.end
  ends_later start (rest bytes) [] one more e = absurd (cc)
  ends_later start (rest bytes) (first ∷ given) one more e = absurd (cc)
  ends_later start (line body behind) [] one more e =
      let same : line_at rule start body ≡ one = cc in
      let place : end_of rule start body ≡ one.span.end = ap (λ (l : Line). l.span.end) same in
      omega (arith, place, some_byte rule.terminator)
  ends_later start (line body behind) (first ∷ given) one more e =
      let later : lines_in rule (end_of rule start body) behind ≡ given ++ one ∷ more = cc in
      omega (arith, ends_later (end_of rule start body) behind given one more later)

  module _ (xs : List ℕ) (start : ℕ) (one : Line) (more : List Line) where
    -- the first line is the one
    behind_one : (c : Cut) → cut (terminator_of rule.terminator) xs ≡ c → lines_in rule start c ≡ one ∷ more →
        complete_lines rule one.span.end (drop (one.span.end - start) xs) ≡ more
    behind_one (rest bytes) is e = absurd (cc)
    behind_one (line body behind) is e =
        let t = terminator_of rule.terminator in
        let same : line_at rule start body ≡ one = cc in
        let place : end_of rule start body ≡ one.span.end = ap (λ (l : Line). l.span.end) same in
        let n : one.span.end - start ≡ length body + length (terminator_of rule.terminator) = omega (arith, place) in
        let there : behind ≡ cut t (drop (length body + length t) xs) =
        behind_first t (some_byte rule.terminator) xs body behind (begins (cut t xs) body behind is) in
        let later : lines_in rule (end_of rule start body) behind ≡ more = cc in
        ap (λ m. complete_lines rule one.span.end (drop m xs)) n ∙ ap (lines_in rule one.span.end) (sym there)
        ∙ ap (λ m. lines_in rule m behind) (sym place) ∙ later

    -- or it is one of those after it
    behind_later : (first : Line) (given : List Line) →
        ((from : ℕ) (ys : List ℕ) → complete_lines rule from ys ≡ given ++ one ∷ more → complete_lines rule one.span.end (drop (one.span.end - from) ys) ≡ more) →
        (c : Cut) → cut (terminator_of rule.terminator) xs ≡ c → lines_in rule start c ≡ first ∷ (given ++ one ∷ more) →
        complete_lines rule one.span.end (drop (one.span.end - start) xs) ≡ more
    behind_later first given before (rest bytes) is e = absurd (cc)
    behind_later first given before (line body behind) is e =
        let t = terminator_of rule.terminator in
        let there : behind ≡ cut t (drop (length body + length t) xs) =
        behind_first t (some_byte rule.terminator) xs body behind (begins (cut t xs) body behind is) in
        let later : lines_in rule (end_of rule start body) behind ≡ given ++ one ∷ more = cc in
        let beyond = ends_later (end_of rule start body) behind given one more later in
        let n : length body + length (terminator_of rule.terminator) + (one.span.end - end_of rule start body) ≡ one.span.end - start = omega (arith, beyond) in
        ap (complete_lines rule one.span.end) (sym (drop-drop (one.span.end - end_of rule start body) (length body + length t) xs ∙ ap (λ m. drop m xs) n))
        ∙ before (end_of rule start body) (drop (length body + length t) xs) (ap (lines_in rule (end_of rule start body)) (sym there) ∙ later)

  pub lines_behind : (given : List Line) (start : ℕ) (xs : List ℕ) (one : Line) (more : List Line) →
      complete_lines rule start xs ≡ given ++ one ∷ more → complete_lines rule one.span.end (drop (one.span.end - start) xs) ≡ more
  lines_behind [] start xs one more e = behind_one xs start one more (cut (terminator_of rule.terminator) xs) refl e
  lines_behind (first ∷ given) start xs one more e =
      behind_later xs start one more first given (λ from ys before. lines_behind given from ys one more before)
      (cut (terminator_of rule.terminator) xs) refl e
