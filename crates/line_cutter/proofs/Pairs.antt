-- The search for a line feed with a carriage return before it, one line feed after another.
use Rattle.std.proofs.Common.{◌≡◌, ℕ, ◌+◌, ◌-◌, ◌≤◌, Bool, true, false, List, length, take, drop, get_or, sym, ap, ◌∙◌, inl, inr, arith, ◌==◌, length-drop, get_or-drop}
use Rattle.std.proofs.lemmas.Bool.{false≢true, cases_lt, cases_eq, and_parts, and_from}
use Rattle.std.proofs.lemmas.List.{take_rest}
use Rattle.memchr.specs.Find.{Nowhere, NoneBefore, Passes, is_byte}
use Rattle.event_tree.specs.declared.line_rule.Terminator.TheVariants.{CarriageReturnLineFeed}
use Rattle.line_cutter.specs.Ends.{is_end, return_before}

abbrev pub EndsPair : Bool → List ℕ → ℕ → Type 0
EndsPair after bytes place = is_end CarriageReturnLineFeed after bytes place ≡ true

module _ (after : Bool) (bytes : List ℕ) (from : ℕ) (fit : from ≤ length bytes) (before : Nowhere (EndsPair after bytes) 0 from) where
  pub behind_byte : (i : ℕ) → get_or (take (length bytes - from) (drop from bytes)) i 0 ≡ get_or bytes (from + i) 0
  behind_byte i = ap (λ xs. get_or xs i 0) (take_rest bytes from) ∙ get_or-drop from bytes i 0

  pub behind_length : from + length (take (length bytes - from) (drop from bytes)) ≡ length bytes
  behind_length = omega (arith, ap length (take_rest bytes from), length-drop from bytes)

  -- no line feed is in this many bytes after
  pub none_up_to : (n : ℕ) → Nowhere (Passes (is_byte 10) (take (length bytes - from) (drop from bytes))) 0 n →
      Nowhere (EndsPair after bytes) 0 (from + n)
  none_up_to n none k low high ends = elim (cases_lt k from) [
    | inl early ↦ before k low early ends
    | inr late ↦
        let at : from + (k - from) ≡ k = omega arith in
        let parts = and_parts (get_or bytes k 0 == 10) (return_before after bytes k) ends in
        none (k - from) (omega arith) (omega arith)
        (ap (λ x. x == 10) (behind_byte (k - from) ∙ ap (λ j. get_or bytes j 0) at) ∙ parts.0)
  ]

  -- a line feed is there, with a carriage return before it
  pub first_pair : (n : ℕ) → NoneBefore (Passes (is_byte 10) (take (length bytes - from) (drop from bytes))) 0
      (length (take (length bytes - from) (drop from bytes))) n → Passes (is_byte 10) (take (length bytes - from) (drop from bytes)) n →
      return_before after bytes (from + n) ≡ true → NoneBefore (EndsPair after bytes) 0 (length bytes) (from + n) × EndsPair after bytes (from + n)
  first_pair n none there return = (
    record { low = omega arith; high = omega (arith, none.high, behind_length); before = none_up_to n none.before },
    and_from _ _ (ap (λ x. x == 10) (sym (behind_byte n)) ∙ there) return,
  )

  -- or without one
  pub no_pair : (n : ℕ) → NoneBefore (Passes (is_byte 10) (take (length bytes - from) (drop from bytes))) 0
      (length (take (length bytes - from) (drop from bytes))) n →
      return_before after bytes (from + n) ≡ false → (from + n + 1 ≤ length bytes) × Nowhere (EndsPair after bytes) 0 (from + n + 1)
  no_pair n none return = (
    omega (arith, none.high, behind_length),
    λ k low high ends. elim (cases_eq k (from + n)) [
      | inl same ↦
          let parts = and_parts (get_or bytes k 0 == 10) (return_before after bytes k) ends in
          false≢true (sym return ∙ ap (return_before after bytes) (sym same) ∙ parts.1)
      | inr other ↦ none_up_to n none.before k low (omega arith) ends
    ],
  )
