-- What a cutter has cut once it has handed out one more line, or passed all that it was fed.
use Rattle.std.proofs.Common.{◌≡◌, ℕ, ◌+◌, ◌<◌, true, List, [], ◌∷◌, ◌++◌, length, drop, refl, sym, ap, subst, ◌∙◌, arith, append-nil, append_assoc, length-append, length-drop}
use Rattle.std.proofs.lemmas.List.{take_all}
use Rattle.memchr.specs.Find.{Nowhere}
use Rattle.event_tree.specs.declared.line_rule.LineRule.{LineRule}
use Rattle.line_cutter.specs.declared.line.Line.{Line}
use Rattle.line_cutter.specs.Cut.{cut, rest_in}
use Rattle.line_cutter.specs.Lines.{complete_lines, lines_in, end_of}
use Rattle.line_cutter.specs.Terminator.{terminator_of}
use Rattle.line_cutter.specs.Cutting.{Cutting, HasCut}
use Rattle.line_cutter.specs.Ends.{is_end, line_to, behind_line, behind_all}
use Rattle.line_cutter.proofs.Standing.{fits}
use Rattle.line_cutter.proofs.Lining.{some_byte, complete_lines-whole, unended-whole}
use Rattle.line_cutter.proofs.Handing.{passes_all, nothing_ends, cut_there, cut_alone, spelled_there, line_there, body}

abbrev pub EndsAt : Cutting → ℕ → Type 0
EndsAt cutter place = is_end cutter.rule.terminator cutter.after_return cutter.unread place ≡ true

module _ (cutter : Cutting) (start : ℕ) (fed : List ℕ) (given : List Line) (h : HasCut cutter.rule start fed given cutter) where
  lines_are : complete_lines cutter.rule start fed ≡ given ++ complete_lines cutter.rule cutter.start (h.passed ++ cutter.unread)
  lines_are =
      ap (complete_lines cutter.rule start) h.spelled
      ∙ complete_lines-whole cutter.rule start h.lined (h.passed ++ cutter.unread) h.whole
      ∙ ap (λ lines. lines ++ complete_lines cutter.rule (start + length h.lined) (h.passed ++ cutter.unread)) h.lines
      ∙ ap (λ n. given ++ complete_lines cutter.rule n (h.passed ++ cutter.unread)) (sym h.place)

  -- no line ends in what it holds
  module _ (none : Nowhere (EndsAt cutter) 0 (length cutter.unread)) where
    all_given_same : complete_lines cutter.rule start fed ≡ given
    all_given_same =
        lines_are ∙ ap (λ c. given ++ lines_in cutter.rule cutter.start c) (nothing_ends cutter h.passed h.passing none) ∙ append-nil given

    passed_same : HasCut cutter.rule start fed given (behind_all cutter)
    passed_same = record {
      lined = h.lined;
      passed = h.passed ++ cutter.unread;
      same_rule = refl;
      spelled = h.spelled ∙ ap (λ xs. h.lined ++ xs) (sym (append-nil (h.passed ++ cutter.unread)));
      lines = h.lines;
      whole = h.whole;
      place = h.place;
      passing = passes_all cutter h.passed h.passing none;
    }

  -- the first line ends there
  module _ (at : ℕ) (within : at < length cutter.unread) (ends : EndsAt cutter at) (first : Nowhere (EndsAt cutter) 0 at) where
    abbrev pub content : List ℕ
    content = body cutter h.passed h.passing at within ends first

    in_order_same : (more : List Line) × (complete_lines cutter.rule start fed ≡ given ++ line_to cutter at ∷ more)
    in_order_same = (
      lines_in cutter.rule (end_of cutter.rule cutter.start content) (cut (terminator_of cutter.rule.terminator) (drop (at + 1) cutter.unread)),
      lines_are ∙ ap (λ c. given ++ lines_in cutter.rule cutter.start c) (cut_there cutter h.passed h.passing at within ends first)
          ∙ ap (λ l. given ++ l ∷ lines_in cutter.rule (end_of cutter.rule cutter.start content) (cut (terminator_of cutter.rule.terminator) (drop (at + 1) cutter.unread))) (line_there cutter h.passed h.passing at within ends first),
    )

    handed_same : HasCut cutter.rule start fed (given ++ line_to cutter at ∷ []) (behind_line cutter at)
    handed_same =
        let t = terminator_of cutter.rule.terminator in
        let alone = cut_alone cutter h.passed h.passing at within ends first in
        let bytes = content ++ terminator_of cutter.rule.terminator in
        record {
          lined = h.lined ++ (content ++ terminator_of cutter.rule.terminator);
          passed = [];
          same_rule = refl;
          spelled =
              h.spelled ∙ ap (λ xs. h.lined ++ xs) (spelled_there cutter h.passed h.passing at within ends first)
              ∙ sym (append_assoc h.lined (content ++ terminator_of cutter.rule.terminator) (drop (at + 1) cutter.unread));
          lines =
              complete_lines-whole cutter.rule start h.lined (content ++ terminator_of cutter.rule.terminator) h.whole
              ∙ ap (λ lines. lines ++ complete_lines cutter.rule (start + length h.lined) (content ++ terminator_of cutter.rule.terminator)) h.lines
              ∙ ap (λ n. given ++ complete_lines cutter.rule n (content ++ terminator_of cutter.rule.terminator)) (sym h.place)
              ∙ ap (λ c. given ++ lines_in cutter.rule cutter.start c) alone
              ∙ ap (λ l. given ++ l ∷ []) (line_there cutter h.passed h.passing at within ends first);
          whole = unended-whole cutter.rule h.lined (content ++ terminator_of cutter.rule.terminator) h.whole ∙ ap rest_in alone;
          place =
              let e = ap length (spelled_there cutter h.passed h.passing at within ends first) in
              omega (
                arith,
                e,
                h.place,
                h.passing.number,
                within,
                length-append h.passed cutter.unread,
                length-append (content ++ terminator_of cutter.rule.terminator) (drop (at + 1) cutter.unread),
                length-append h.lined (content ++ terminator_of cutter.rule.terminator),
                length-drop (at + 1) cutter.unread,
              );
          passing = record {
            none = λ place stands. omega (arith, fits t (some_byte cutter.rule.terminator) [] place stands, some_byte cutter.rule.terminator);
            head = sym (take_all cutter.rule.message_max_bytes [] (omega arith));
            number = refl;
            after_return = refl;
          };
        }

module _ (rule : LineRule) (start : ℕ) (fed : List ℕ) (given : List Line) (cutter : Cutting) (h : HasCut rule start fed given cutter) where
  same : HasCut cutter.rule start fed given cutter
  same = subst (λ r. HasCut r start fed given cutter) (sym h.same_rule) h

  pub all_given : Nowhere (EndsAt cutter) 0 (length cutter.unread) → complete_lines rule start fed ≡ given
  all_given none = subst (λ r. complete_lines r start fed ≡ given) h.same_rule (all_given_same cutter start fed given same none)

  pub still_cut : Nowhere (EndsAt cutter) 0 (length cutter.unread) → HasCut rule start fed given (behind_all cutter)
  still_cut none = subst (λ r. HasCut r start fed given (behind_all cutter)) h.same_rule (passed_same cutter start fed given same none)

  pub in_order : (at : ℕ) → at < length cutter.unread → EndsAt cutter at → Nowhere (EndsAt cutter) 0 at →
      (more : List Line) × (complete_lines rule start fed ≡ given ++ line_to cutter at ∷ more)
  in_order at within ends first =
      subst (λ r. (more : List Line) × (complete_lines r start fed ≡ given ++ line_to cutter at ∷ more)) h.same_rule
      (in_order_same cutter start fed given same at within ends first)

  pub handed_out : (at : ℕ) → at < length cutter.unread → EndsAt cutter at → Nowhere (EndsAt cutter) 0 at →
      HasCut rule start fed (given ++ line_to cutter at ∷ []) (behind_line cutter at)
  handed_out at within ends first =
      subst (λ r. HasCut r start fed (given ++ line_to cutter at ∷ []) (behind_line cutter at)) h.same_rule
      (handed_same cutter start fed given same at within ends first)
