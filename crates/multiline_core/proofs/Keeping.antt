-- What is kept of lines, with one more line.
use Rattle.std.proofs.Common.{◌≡◌, ℕ, ◌≤◌, Bool, cond, List, [], ◌∷◌, ◌++◌, length, take, map, Some, refl, sym, ap, ◌∙◌, inl, inr, arith, append_assoc, append-nil}
use Rattle.std.proofs.lemmas.Bool.{cases_lt, lt-ltb, le-ltb, cond-true, cond-false}
use Rattle.std.proofs.lemmas.List.{take_all, take-append-le, length_push, map-append}
use Rattle.std.specs.List.{flat_map}
use Rattle.std.specs.Prelude.{nat_lt}
use Rattle.wire_base.specs.declared.numbers.Moment.{Moment}
use Rattle.event_tree.specs.declared.group_rule.GroupRule.{GroupRule}
use Rattle.event_tree.specs.declared.group_rule.GroupRule.TheVariants.{Single, Count, Pattern}
use Rattle.line_cutter.specs.declared.line.Line.{Line}
use Rattle.multiline_core.specs.Gathering.{gathered_of}
use Rattle.multiline_core.specs.Message.{message_of, limit_of, max_lines_of, skips_newline, separator, joined, row_end}
use Rattle.multiline_core.specs.Rule.{IsGroupRule}
use Rattle.multiline_core.specs.Step.{gathered_by, waiting_of}
use Rattle.multiline_core.proofs.Joining.{cut_before}

pub some_lines : (rule : GroupRule) → IsGroupRule rule → 1 ≤ max_lines_of rule
some_lines (Single most) h = omega arith
some_lines (Count count_lines max_lines timeout skip_newline most) h = h.1.0
some_lines (Pattern pattern negate side flush max_lines timeout skip_newline most) h = h.1.0

pub waiting_is_length : (rule : GroupRule) (row : List Line) (at : Moment) → waiting_of (gathered_of rule row at) ≡ length row
waiting_is_length rule [] at = refl
waiting_is_length rule (first ∷ others) at = refl

row_end-push : (place : ℕ) (row : List Line) (line : Line) → row_end place (row ++ line ∷ []) ≡ line.span.end
row_end-push place [] line = refl
row_end-push place (first ∷ others) line = row_end-push first.span.end others line

flat_map-push : (f : List ℕ → List ℕ) (xs : List (List ℕ)) (x : List ℕ) → flat_map f (xs ++ x ∷ []) ≡ flat_map f xs ++ f x
flat_map-push f [] x = append-nil (f x)
flat_map-push f (y ∷ xs) x = ap (λ zs. f y ++ zs) (flat_map-push f xs x) ∙ sym (append_assoc (f y) (flat_map f xs) (f x))

-- one more text after at least one
joined-push : (skip : Bool) (first : List ℕ) (others : List (List ℕ)) (text : List ℕ) →
    joined skip (first ∷ (others ++ text ∷ [])) ≡ joined skip (first ∷ others) ++ (separator skip ++ text)
joined-push skip first others text =
    ap (λ zs. first ++ zs) (flat_map-push (λ other. separator skip ++ other) others text)
    ∙ sym (append_assoc first (flat_map (λ other. separator skip ++ other) others) (separator skip ++ text))

abbrev heads : List Line → List (List ℕ)
heads lines = map (λ line. line.head) lines

module _ (rule : GroupRule) (in_range : IsGroupRule rule) where
  first_message : (line : Line) → message_of rule (line ∷ []) ≡ take (limit_of rule) line.head
  first_message line =
      let all : take (max_lines_of rule) (line ∷ []) ≡ line ∷ [] = take_all (max_lines_of rule) (line ∷ []) (some_lines rule in_range) in
      ap (λ lines. take (limit_of rule) (joined (skips_newline rule) (heads lines))) all
      ∙ ap (take (limit_of rule)) (append-nil line.head)

  -- the line's head is one of those that are kept, or not
  longer : (first : Line) (others : List Line) (line : Line) → message_of rule ((first ∷ others) ++ line ∷ [])
      ≡ cond (nat_lt (length (first ∷ others)) (max_lines_of rule))
      (take (limit_of rule) (message_of rule (first ∷ others) ++ (separator (skips_newline rule) ++ line.head)))
      (message_of rule (first ∷ others))
  longer first others line =
      let most = limit_of rule in
      let skip = skips_newline rule in
      elim (cases_lt (length (first ∷ others)) (max_lines_of rule)) [
        | inl room ↦
            let all : take (max_lines_of rule) ((first ∷ others) ++ line ∷ []) ≡ (first ∷ others) ++ line ∷ [] =
            take_all (max_lines_of rule) ((first ∷ others) ++ line ∷ []) (omega (arith, room, length_push (first ∷ others) line)) in
            let before : take (max_lines_of rule) (first ∷ others) ≡ first ∷ others =
            take_all (max_lines_of rule) (first ∷ others) (omega (arith, room)) in
            ap (λ lines. take most (joined skip (heads lines))) all
            ∙ ap (λ hs. take most (joined skip (first.head ∷ hs))) (map-append (λ (l : Line). l.head) others (line ∷ []))
            ∙ ap (take most) (joined-push skip first.head (heads others) line.head)
            ∙ sym (cut_before most (joined skip (heads (first ∷ others))) (separator skip ++ line.head))
            ∙ ap (λ lines. take most (take most (joined skip (heads lines)) ++ (separator skip ++ line.head))) (sym before)
            ∙ sym (cond-true _ _ _ (lt-ltb _ _ room))
        | inr full ↦
            ap (λ lines. take most (joined skip (heads lines))) (take-append-le (max_lines_of rule) (first ∷ others) (line ∷ []) full)
            ∙ sym (cond-false _ _ _ (le-ltb _ _ full))
      ]

  pub gathered_of-push : (row : List Line) (line : Line) (at now : Moment) →
      gathered_of rule (row ++ line ∷ []) now ≡ Some (gathered_by rule (gathered_of rule row at) line now)
  gathered_of-push [] line at now =
      ap (λ message. Some (record { start = line.span.start; end = line.span.end; lines = 1; message = message; read_at = now })) (first_message line)
  gathered_of-push (first ∷ others) line at now =
      cc (longer first others line, row_end-push first.span.end others line, length_push (first ∷ others) line)
