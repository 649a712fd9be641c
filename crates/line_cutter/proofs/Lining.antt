-- The complete lines of bytes that go on.
use Rattle.std.proofs.Common.{◌≡◌, ℕ, ◌+◌, ◌<◌, List, [], ◌∷◌, ◌++◌, length, refl, sym, ap, ◌∙◌, arith, add-zero, length-append, lit<}
use Rattle.event_tree.specs.declared.line_rule.LineRule.{LineRule}
use Rattle.event_tree.specs.declared.line_rule.Terminator.{Terminator}
use Rattle.event_tree.specs.declared.line_rule.Terminator.TheVariants.{Auto, LineFeed, CarriageReturnLineFeed, NullTerminator}
use Rattle.line_cutter.specs.Cut.{Cut, rest, line, cut, rest_in}
use Rattle.line_cutter.specs.Lines.{complete_lines, unended, lines_in, line_at, end_of}
use Rattle.line_cutter.specs.Terminator.{terminator_of}
use Rattle.line_cutter.proofs.Cuts.{graft, bytes_in, bytes_in-cut, cut-append}

pub some_byte : (terminator : Terminator) → 0 < length (terminator_of terminator)
some_byte Auto = lit< tt
some_byte LineFeed = lit< tt
some_byte CarriageReturnLineFeed = lit< tt
some_byte NullTerminator = lit< tt

module _ (rule : LineRule) where
  -- the place of the rest
  abbrev pub place_in : ℕ → Cut → ℕ
  place_in start (rest bytes) = start
  place_in start (line body behind) = place_in (end_of rule start body) behind

  lines_in-graft : (start : ℕ) (c : Cut) (more : List ℕ) → lines_in rule start (graft (terminator_of rule.terminator) c more)
      ≡ lines_in rule start c ++ lines_in rule (place_in start c) (cut (terminator_of rule.terminator) (rest_in c ++ more))
  lines_in-graft start (rest bytes) more = refl
  lines_in-graft start (line body behind) more = ap (λ lines. line_at rule start body ∷ lines) (lines_in-graft (end_of rule start body) behind more)

  rest_in-graft : (c : Cut) (more : List ℕ) → rest_in (graft (terminator_of rule.terminator) c more)
      ≡ rest_in (cut (terminator_of rule.terminator) (rest_in c ++ more))
  rest_in-graft (rest bytes) more = refl
  rest_in-graft (line body behind) more = rest_in-graft behind more

  place_in-length : (start : ℕ) (c : Cut) →
      place_in start c + length (rest_in c) ≡ start + length (bytes_in (terminator_of rule.terminator) c)
  place_in-length start (rest bytes) = refl
  place_in-length start (line body behind) =
      let t = terminator_of rule.terminator in
      omega (arith, place_in-length (end_of rule start body) behind, length-append body (t ++ bytes_in t behind), length-append t (bytes_in t behind))

  -- the lines of bytes that go on: those of the bytes, and then those of the rest as it goes on
  pub complete_lines-append : (start : ℕ) (bytes more : List ℕ) → complete_lines rule start (bytes ++ more)
      ≡ complete_lines rule start bytes ++ complete_lines rule (place_in start (cut (terminator_of rule.terminator) bytes)) (unended rule bytes ++ more)
  complete_lines-append start bytes more =
      let t = terminator_of rule.terminator in
      ap (lines_in rule start) (cut-append t (some_byte rule.terminator) bytes more) ∙ lines_in-graft start (cut t bytes) more

  pub unended-append : (bytes more : List ℕ) → unended rule (bytes ++ more) ≡ unended rule (unended rule bytes ++ more)
  unended-append bytes more =
      let t = terminator_of rule.terminator in
      ap rest_in (cut-append t (some_byte rule.terminator) bytes more) ∙ rest_in-graft (cut t bytes) more

  pub place_of_rest : (start : ℕ) (bytes : List ℕ) →
      place_in start (cut (terminator_of rule.terminator) bytes) + length (unended rule bytes) ≡ start + length bytes
  place_of_rest start bytes =
      let t = terminator_of rule.terminator in
      place_in-length start (cut t bytes) ∙ ap (λ xs. start + length xs) (bytes_in-cut t (some_byte rule.terminator) bytes)

  -- the same after bytes of whole lines
  pub complete_lines-whole : (start : ℕ) (bytes more : List ℕ) → unended rule bytes ≡ [] →
      complete_lines rule start (bytes ++ more) ≡ complete_lines rule start bytes ++ complete_lines rule (start + length bytes) more
  complete_lines-whole start bytes more whole =
      let t = terminator_of rule.terminator in
      let place : place_in start (cut t bytes) ≡ start + length bytes =
      sym (add-zero _) ∙ ap (λ xs. place_in start (cut t bytes) + length xs) (sym whole) ∙ place_of_rest start bytes in
      complete_lines-append start bytes more
      ∙ ap (λ xs. complete_lines rule start bytes ++ complete_lines rule (place_in start (cut t bytes)) (xs ++ more)) whole
      ∙ ap (λ n. complete_lines rule start bytes ++ complete_lines rule n more) place

  pub unended-whole : (bytes more : List ℕ) → unended rule bytes ≡ [] → unended rule (bytes ++ more) ≡ unended rule more
  unended-whole bytes more whole = unended-append bytes more ∙ ap (λ xs. unended rule (xs ++ more)) whole
