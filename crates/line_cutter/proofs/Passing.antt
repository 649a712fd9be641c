-- Where a terminator ends, seen from the unread bytes and from those that were passed before them.
use Rattle.std.proofs.Common.{◌≡◌, ℕ, zero, suc, ◌+◌, ◌-◌, ◌<◌, ◌≤◌, Bool, true, false, List, [], ◌∷◌, ◌++◌, length, take, get_or, refl, sym, ap, subst, ◌∙◌, inl, inr, arith, ◌==◌, ◌&&◌, length-append, length-take, get_or-take}
use Rattle.std.proofs.lemmas.Bool.{cond-false, ne_eqb, false≢true, eqb-true, eq-eqb, cases_eq, cases_lt, and_parts, and_from}
use Rattle.std.proofs.lemmas.List.{get_or_append_left, get_or-append-add, get_or-append_right, nil_from_length}
use Rattle.event_tree.specs.declared.line_rule.Terminator.{Terminator}
use Rattle.event_tree.specs.declared.line_rule.Terminator.TheVariants.{Auto, LineFeed, CarriageReturnLineFeed, NullTerminator}
use Rattle.line_cutter.specs.Lines.{ends_in_return}
use Rattle.line_cutter.specs.Ends.{is_end, return_before}
use Rattle.line_cutter.specs.Terminator.{terminator_of, StandsAt}
use Rattle.line_cutter.proofs.Standing.{stands_one, one_stands, stands_two, two_stand}

module _ (passed unread : List ℕ) (after : Bool) (is_after : after ≡ ends_in_return passed) where
  byte_there : (k : ℕ) → get_or (passed ++ unread) (length passed + k) 0 ≡ get_or unread k 0
  byte_there k = get_or-append-add passed unread k 0

  -- the byte before a place of the unread bytes, if there is one
  pub return_before-byte : (k : ℕ) → 0 < length passed + k →
      return_before after unread k ≡ (get_or (passed ++ unread) (length passed + k - 1) 0 == 13)
  return_before-byte zero some =
      let at : length passed + 0 - 1 ≡ length passed - 1 = omega arith in
      let within : length passed - 1 < length passed = omega arith in
      is_after ∙ ap (λ x. x == 13) (sym (ap (λ n. get_or (passed ++ unread) n 0) at ∙ get_or_append_left passed unread 0 (length passed - 1) within))
  return_before-byte (suc k) some =
      let at : length passed + suc k - 1 ≡ length passed + k = omega arith in
      let here : suc k - 1 ≡ k = omega arith in
      cond-false _ after (get_or unread (suc k - 1) 0 == 13) (ne_eqb (suc k) 0 (omega arith))
      ∙ ap (λ n. get_or unread n 0 == 13) here ∙ ap (λ x. x == 13) (sym (ap (λ n. get_or (passed ++ unread) n 0) at ∙ byte_there k))

  none_before : (k : ℕ) → length passed + k ≡ 0 → return_before after unread k ≡ false
  none_before k none =
      let k_is : k ≡ 0 = omega arith in
      let nothing : passed ≡ [] = nil_from_length passed (omega arith) in
      ap (return_before after unread) k_is ∙ is_after ∙ ap ends_in_return nothing

  -- whether the bytes up to a place of the unread ones end in a carriage return
  pub ends_in_return-up_to : (k : ℕ) → k ≤ length unread → ends_in_return (passed ++ take k unread) ≡ return_before after unread k
  ends_in_return-up_to k fit =
      let size : length (passed ++ take k unread) ≡ length passed + k =
      omega (arith, length-append passed (take k unread), length-take k unread) in
      elim (cases_eq (length passed + k) 0) [
        | inl none ↦
            let nothing : passed ++ take k unread ≡ [] = nil_from_length (passed ++ take k unread) (omega arith) in
            ap ends_in_return nothing ∙ sym (none_before k none)
        | inr there ↦
            let some : 0 < length passed + k = omega arith in
            ap (λ n. get_or (passed ++ take k unread) (n - 1) 0 == 13) size
            ∙ ap (λ x. x == 13) (byte_kept k fit some) ∙ sym (return_before-byte k some)
      ]
    where
      byte_kept : (k : ℕ) → k ≤ length unread → 0 < length passed + k →
          get_or (passed ++ take k unread) (length passed + k - 1) 0 ≡ get_or (passed ++ unread) (length passed + k - 1) 0
      byte_kept k fit some = elim (cases_lt (length passed + k - 1) (length passed)) [
        | inl left ↦ get_or_append_left passed (take k unread) 0 _ left ∙ sym (get_or_append_left passed unread 0 _ left)
        | inr right ↦
            let i : length passed + k - 1 - length passed < k = omega arith in
            get_or-append_right passed (take k unread) (length passed) _ 0 refl right ∙ get_or-take k unread _ 0 i
            ∙ sym (get_or-append_right passed unread (length passed) _ 0 refl right)
      ]

  -- a terminator that ends in the unread bytes is there
  pub stands_where_it_ends : (terminator : Terminator) (k : ℕ) → k < length unread → is_end terminator after unread k ≡ true →
      StandsAt (terminator_of terminator) (passed ++ unread) (length passed + k + 1 - length (terminator_of terminator))
  stands_where_it_ends terminator k within ends = ends_one terminator k within ends
    where
      one : (c k : ℕ) → k < length unread → (get_or unread k 0 == c) ≡ true → StandsAt (c ∷ []) (passed ++ unread) (length passed + k + 1 - 1)
      one c k within ends =
          let at : length passed + k + 1 - 1 ≡ length passed + k = omega arith in
          let fit : length passed + k < length (passed ++ unread) = omega (arith, length-append passed unread) in
          subst (StandsAt (c ∷ []) (passed ++ unread)) (sym at) (stands_one c (passed ++ unread) (length passed + k) fit (byte_there k ∙ eqb-true _ c ends))

      pair : (k : ℕ) → k < length unread → ((get_or unread k 0 == 10) && return_before after unread k) ≡ true →
          StandsAt (13 ∷ 10 ∷ []) (passed ++ unread) (length passed + k + 1 - 2)
      pair k within ends =
          let parts = and_parts (get_or unread k 0 == 10) (return_before after unread k) ends in
          let some : 0 < length passed + k = elim (cases_eq (length passed + k) 0)
          [ inl none ↦ absurd (false≢true (sym (none_before k none) ∙ parts.1)) | inr there ↦ omega arith ] in
          let at : length passed + k + 1 - 2 ≡ length passed + k - 1 = omega arith in
          let next : length passed + k - 1 + 1 ≡ length passed + k = omega arith in
          let fit : length passed + k - 1 + 1 < length (passed ++ unread) = omega (arith, length-append passed unread) in
          subst (StandsAt (13 ∷ 10 ∷ []) (passed ++ unread)) (sym at) (stands_two 13 10 (passed ++ unread) (length passed + k - 1) fit
          (eqb-true _ 13 (sym (return_before-byte k some) ∙ parts.1))
          (ap (λ n. get_or (passed ++ unread) n 0) next ∙ byte_there k ∙ eqb-true _ 10 parts.0))

      ends_one : (terminator : Terminator) (k : ℕ) → k < length unread → is_end terminator after unread k ≡ true →
          StandsAt (terminator_of terminator) (passed ++ unread) (length passed + k + 1 - length (terminator_of terminator))
      ends_one Auto k within ends = one 10 k within ends
      ends_one LineFeed k within ends = one 10 k within ends
      ends_one CarriageReturnLineFeed k within ends = pair k within ends
      ends_one NullTerminator k within ends = one 0 k within ends

  -- and a terminator that is there and reaches into the unread bytes ends in them
  pub ends_where_it_stands : (terminator : Terminator) (j : ℕ) → StandsAt (terminator_of terminator) (passed ++ unread) j →
      length passed < j + length (terminator_of terminator) →
      (j + length (terminator_of terminator) - 1 - length passed < length unread)
      × (is_end terminator after unread (j + length (terminator_of terminator) - 1 - length passed) ≡ true)
  ends_where_it_stands terminator j stands reaches = stands_one_of terminator j stands reaches
    where
      one : (c j : ℕ) → StandsAt (c ∷ []) (passed ++ unread) j → length passed < j + 1 →
          (j + 1 - 1 - length passed < length unread) × ((get_or unread (j + 1 - 1 - length passed) 0 == c) ≡ true)
      one c j stands reaches =
          let there = one_stands c (passed ++ unread) j stands in
          let at : length passed + (j + 1 - 1 - length passed) ≡ j = omega arith in
          let within : j + 1 - 1 - length passed < length unread = omega (arith, there.0, length-append passed unread) in (
            within,
            eq-eqb _ c (sym (byte_there (j + 1 - 1 - length passed)) ∙ ap (λ n. get_or (passed ++ unread) n 0) at ∙ there.1),
          )

      pair : (j : ℕ) → StandsAt (13 ∷ 10 ∷ []) (passed ++ unread) j → length passed < j + 2 →
          (j + 2 - 1 - length passed < length unread)
          × (((get_or unread (j + 2 - 1 - length passed) 0 == 10) && return_before after unread (j + 2 - 1 - length passed)) ≡ true)
      pair j stands reaches =
          let there = two_stand 13 10 (passed ++ unread) j stands in
          let k = j + 2 - 1 - length passed in
          let last : length passed + (j + 2 - 1 - length passed) ≡ j + 1 = omega arith in
          let first : length passed + (j + 2 - 1 - length passed) - 1 ≡ j = omega arith in
          let some : 0 < length passed + (j + 2 - 1 - length passed) = omega arith in
          let within : j + 2 - 1 - length passed < length unread = omega (arith, there.0, length-append passed unread) in (
            within,
            and_from _ _
                (eq-eqb _ 10 (sym (byte_there (j + 2 - 1 - length passed)) ∙ ap (λ n. get_or (passed ++ unread) n 0) last ∙ there.2))
                (return_before-byte (j + 2 - 1 - length passed) some ∙ eq-eqb _ 13 (ap (λ n. get_or (passed ++ unread) n 0) first ∙ there.1)),
          )

      stands_one_of : (terminator : Terminator) (j : ℕ) → StandsAt (terminator_of terminator) (passed ++ unread) j →
          length passed < j + length (terminator_of terminator) →
          (j + length (terminator_of terminator) - 1 - length passed < length unread)
          × (is_end terminator after unread (j + length (terminator_of terminator) - 1 - length passed) ≡ true)
      stands_one_of Auto j stands reaches = one 10 j stands reaches
      stands_one_of LineFeed j stands reaches = one 10 j stands reaches
      stands_one_of CarriageReturnLineFeed j stands reaches = pair j stands reaches
      stands_one_of NullTerminator j stands reaches = one 0 j stands reaches
