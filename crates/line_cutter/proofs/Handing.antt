-- What a cutter stands for once it has handed out a line, or passed all that it was fed.
use Rattle.std.proofs.Common.{◌≡◌, ℕ, zero, suc, ◌+◌, ◌-◌, ◌<◌, ◌≤◌, Bool, true, List, [], ◌∷◌, ◌++◌, length, take, drop, refl, sym, ap, subst, ◌∙◌, inl, inr, arith, zero-add, append_assoc, length-append, length-take, ◌&&◌, cond}
use Rattle.std.proofs.lemmas.Bool.{false≢true, cases_Bool, cases_lt, cond-true, cond-false, and_parts}
use Rattle.std.proofs.lemmas.List.{take_all, take-take, take_at, drop_at, drop_all, nil_from_length}
use Rattle.memchr.specs.Find.{Nowhere}
use Rattle.event_tree.specs.declared.line_rule.Terminator.{Terminator}
use Rattle.event_tree.specs.declared.line_rule.Terminator.TheVariants.{Auto, LineFeed, CarriageReturnLineFeed, NullTerminator}
use Rattle.line_cutter.specs.Cut.{rest, line, cut}
use Rattle.line_cutter.specs.Lines.{line_at, end_of, content_of, without_return, ends_in_return}
use Rattle.line_cutter.specs.Terminator.{terminator_of, StandsAt}
use Rattle.line_cutter.specs.Cutting.{Cutting, HasPassed}
use Rattle.line_cutter.specs.Ends.{is_end, return_before, leaves_return, full_to, head_with, line_to, behind_all}
use Rattle.line_cutter.proofs.Standing.{fits, stands_longer, stands_shorter}
use Rattle.line_cutter.proofs.Cuts.{bytes_in, bytes_in-cut, cut-first, cut-none}
use Rattle.line_cutter.proofs.Lining.{some_byte}
use Rattle.line_cutter.proofs.Passing.{ends_in_return-up_to, stands_where_it_ends, ends_where_it_stands}

-- ---- lists

take_nothing : (n : ℕ) → take {A = ℕ} n [] ≡ []
take_nothing n = take_all n [] (omega arith)

-- the head of bytes, and as much of others as it has room for
head_goes_on : (n : ℕ) (xs ys : List ℕ) → take n xs ++ take (n - length (take n xs)) ys ≡ take n (xs ++ ys)
head_goes_on zero xs ys = refl
head_goes_on (suc n) [] ys = let e : suc n - 0 ≡ suc n = omega arith in ap (λ m. take m ys) e
head_goes_on (suc n) (x ∷ xs) ys =
    let e : suc n - suc (length (take n xs)) ≡ n - length (take n xs) = omega arith in
    ap (λ m. x ∷ (take n xs ++ take m ys)) e ∙ ap (λ zs. x ∷ zs) (head_goes_on n xs ys)

take_twice : (m n : ℕ) (xs : List ℕ) → take m (take n xs) ≡ take n (take m xs)
take_twice zero n xs = sym (take_nothing n)
take_twice (suc m) zero xs = refl
take_twice (suc m) (suc n) [] = refl
take_twice (suc m) (suc n) (x ∷ xs) = ap (λ ys. x ∷ ys) (take_twice m n xs)

take_behind : (xs ys : List ℕ) (n : ℕ) → take (length xs + n) (xs ++ ys) ≡ xs ++ take n ys
take_behind [] ys n = ap (λ m. take m ys) (zero-add n)
take_behind (x ∷ xs) ys n =
    let e : suc (length xs) + n ≡ suc (length xs + n) = omega arith in
    ap (λ m. take m (x ∷ (xs ++ ys))) e ∙ ap (λ zs. x ∷ zs) (take_behind xs ys n)

drop_behind : (xs ys : List ℕ) (n : ℕ) → drop (length xs + n) (xs ++ ys) ≡ drop n ys
drop_behind [] ys n = ap (λ m. drop m ys) (zero-add n)
drop_behind (x ∷ xs) ys n =
    let e : suc (length xs) + n ≡ suc (length xs + n) = omega arith in
    ap (λ m. drop m (x ∷ (xs ++ ys))) e ∙ drop_behind xs ys n

-- ---- a line ends in the unread bytes

module _ (cutter : Cutting) (passed : List ℕ) (kept : HasPassed cutter passed) where
  -- no terminator is in the bytes that ends before this place of the unread ones
  none_stand : (n : ℕ) → Nowhere (λ place. is_end cutter.rule.terminator cutter.after_return cutter.unread place ≡ true) 0 n →
      (j : ℕ) → j + length (terminator_of cutter.rule.terminator) < length passed + n + 1 →
      ¬ (StandsAt (terminator_of cutter.rule.terminator) (passed ++ cutter.unread) j)
  none_stand n none j early stands =
      let terminator = cutter.rule.terminator in
      let t = terminator_of terminator in
      elim (cases_lt (length passed) (j + length (terminator_of cutter.rule.terminator))) [
        | inl reaches ↦
            let there = ends_where_it_stands passed cutter.unread cutter.after_return kept.after_return terminator j stands reaches in
            none _ (omega arith) (omega (arith, there.0, some_byte terminator)) there.1
        | inr before ↦ kept.none j (stands_shorter t (some_byte terminator) passed cutter.unread j before stands)
      ]

  -- all unread bytes are passed
  pub passes_all : Nowhere (λ place. is_end cutter.rule.terminator cutter.after_return cutter.unread place ≡ true) 0 (length cutter.unread) →
      HasPassed (behind_all cutter) (passed ++ cutter.unread)
  passes_all none =
      let t = terminator_of cutter.rule.terminator in
      record {
        none = λ j stands.
            let room = fits t (some_byte cutter.rule.terminator) (passed ++ cutter.unread) j stands in
            none_stand (length cutter.unread) none j (omega (arith, room, length-append passed cutter.unread)) stands;
        head = ap (λ xs. xs ++ take (cutter.rule.message_max_bytes - length xs) cutter.unread) kept.head
            ∙ head_goes_on cutter.rule.message_max_bytes passed cutter.unread;
        number = omega (arith, kept.number, length-append passed cutter.unread);
        after_return =
            sym (ends_in_return-up_to passed cutter.unread cutter.after_return kept.after_return (length cutter.unread) (omega arith))
            ∙ ap (λ xs. ends_in_return (passed ++ xs)) (take_all (length cutter.unread) cutter.unread (omega arith));
      }

  pub nothing_ends : Nowhere (λ place. is_end cutter.rule.terminator cutter.after_return cutter.unread place ≡ true) 0 (length cutter.unread) →
      cut (terminator_of cutter.rule.terminator) (passed ++ cutter.unread) ≡ rest (passed ++ cutter.unread)
  nothing_ends none = cut-none (terminator_of cutter.rule.terminator) (some_byte cutter.rule.terminator) (passed ++ cutter.unread) (passes_all none).none

  module _ (at : ℕ) (within : at < length cutter.unread)
      (ends : is_end cutter.rule.terminator cutter.after_return cutter.unread at ≡ true)
      (first : Nowhere (λ place. is_end cutter.rule.terminator cutter.after_return cutter.unread place ≡ true) 0 at) where
    -- how many bytes the line has before its terminator
    abbrev pub body_length : ℕ
    body_length = length passed + at + 1 - length (terminator_of cutter.rule.terminator)

    abbrev pub body : List ℕ
    body = take (length passed + at + 1 - length (terminator_of cutter.rule.terminator)) (passed ++ cutter.unread)

    stands : StandsAt (terminator_of cutter.rule.terminator) (passed ++ cutter.unread) body_length
    stands = stands_where_it_ends passed cutter.unread cutter.after_return kept.after_return cutter.rule.terminator at within ends

    room : length passed + at + 1 - length (terminator_of cutter.rule.terminator) + length (terminator_of cutter.rule.terminator) ≡ length passed + at + 1
    room = room_of cutter.rule.terminator cutter.after_return ends kept.after_return
      where
        room_of : (terminator : Terminator) (after : Bool) → is_end terminator after cutter.unread at ≡ true → after ≡ ends_in_return passed →
            length passed + at + 1 - length (terminator_of terminator) + length (terminator_of terminator) ≡ length passed + at + 1
        room_of Auto after e is_after = omega arith
        room_of LineFeed after e is_after = omega arith
        room_of CarriageReturnLineFeed after e is_after = elim (cases_lt 0 (length passed + at)) [
          | inl some ↦ omega arith
          | inr none ↦
              let nothing : passed ≡ [] = nil_from_length passed (omega arith) in
              let here : at ≡ 0 = omega arith in
              absurd (false≢true (sym (ap (λ k. return_before after cutter.unread k) here ∙ is_after ∙ ap ends_in_return nothing) ∙ (and_parts _ _ e).1))
        ]
        room_of NullTerminator after e is_after = omega arith

    body_size : length body ≡ body_length
    body_size =
        omega (arith, length-take body_length (passed ++ cutter.unread), length-append passed cutter.unread, room, some_byte cutter.rule.terminator)

    -- the bytes of the line are cut from those after it
    pub cut_there : cut (terminator_of cutter.rule.terminator) (passed ++ cutter.unread)
        ≡ line body (cut (terminator_of cutter.rule.terminator) (drop (at + 1) cutter.unread))
    cut_there =
        let t = terminator_of cutter.rule.terminator in
        let further : length passed + at + 1 ≡ length passed + (at + 1) = omega arith in
        cut-first t (some_byte cutter.rule.terminator) (passed ++ cutter.unread) body_length stands
        (λ j early. none_stand at first j (omega (arith, room)))
        ∙ ap (λ n. line body (cut t (drop n (passed ++ cutter.unread)))) (room ∙ further)
        ∙ ap (λ xs. line body (cut t xs)) (drop_behind passed cutter.unread (at + 1))

    pub spelled_there : passed ++ cutter.unread ≡ (body ++ terminator_of cutter.rule.terminator) ++ drop (at + 1) cutter.unread
    spelled_there =
        let t = terminator_of cutter.rule.terminator in
        sym (bytes_in-cut t (some_byte cutter.rule.terminator) (passed ++ cutter.unread)) ∙ ap (bytes_in t) cut_there
        ∙ ap (λ xs. body ++ (t ++ xs)) (bytes_in-cut t (some_byte cutter.rule.terminator) (drop (at + 1) cutter.unread))
        ∙ sym (append_assoc body t (drop (at + 1) cutter.unread))

    -- the line's bytes alone are one line
    pub cut_alone : cut (terminator_of cutter.rule.terminator) (body ++ terminator_of cutter.rule.terminator) ≡ line body (rest [])
    cut_alone =
        let t = terminator_of cutter.rule.terminator in
        let some = some_byte cutter.rule.terminator in
        let there : StandsAt t (body ++ t) (length body) =
        ap (take (length t)) (drop_at body t (length body) refl) ∙ take_all (length t) t (omega arith) in
        cut-first t some (body ++ t) (length body) there
        (λ j early stands_early. none_stand at first j (omega (arith, room, body_size))
        (subst (λ xs. StandsAt t xs j) (sym spelled_there) (stands_longer t some (body ++ t) (drop (at + 1) cutter.unread) j stands_early)))
        ∙ ap (λ xs. line xs (cut t (drop (length body + length t) (body ++ t)))) (take_at body t (length body) refl)
        ∙ ap (λ xs. line body (cut t xs)) (drop_all (length body + length t) (body ++ t) (omega (arith, length-append body t)))

    before_last_size : length (passed ++ take at cutter.unread) ≡ length passed + at
    before_last_size = omega (arith, length-append passed (take at cutter.unread), length-take at cutter.unread)

    front_of : (n : ℕ) → n ≤ length passed + at → take n (passed ++ cutter.unread) ≡ take n (passed ++ take at cutter.unread)
    front_of n short =
        sym (take-take n (length passed + at) (passed ++ cutter.unread) short) ∙ ap (take n) (take_behind passed cutter.unread at)

    all_before : take (length passed + at + 1 - 1) (passed ++ cutter.unread) ≡ passed ++ take at cutter.unread
    all_before =
        let e : length passed + at + 1 - 1 ≡ length passed + at = omega arith in
        ap (λ n. take n (passed ++ cutter.unread)) e ∙ take_behind passed cutter.unread at

    kept_whole : take (cutter.passed + at) (passed ++ take at cutter.unread) ≡ passed ++ take at cutter.unread
    kept_whole = take_all (cutter.passed + at) (passed ++ take at cutter.unread) (omega (arith, kept.number, before_last_size))

    -- the content, by what is before the terminator's last byte
    content_by : (terminator : Terminator) → is_end terminator cutter.after_return cutter.unread at ≡ true →
        content_of terminator (take (length passed + at + 1 - length (terminator_of terminator)) (passed ++ cutter.unread))
        ≡ take (cond (leaves_return terminator && return_before cutter.after_return cutter.unread at) (cutter.passed + at - 1) (cutter.passed + at))
        (passed ++ take at cutter.unread)
    content_by Auto e =
        let same = ends_in_return-up_to passed cutter.unread cutter.after_return kept.after_return at (omega arith) in
        let w = passed ++ take at cutter.unread in
        let n : length (passed ++ take at cutter.unread) - 1 ≡ cutter.passed + at - 1 = omega (arith, kept.number, before_last_size) in
        ap without_return all_before
        ∙ elim (cases_Bool (return_before cutter.after_return cutter.unread at)) [
          | inl is ↦
              cond-true _ _ _ (same ∙ is) ∙ ap (λ m. take m (passed ++ take at cutter.unread)) n
              ∙ ap (λ m. take m (passed ++ take at cutter.unread)) (sym (cond-true _ _ _ is))
          | inr none ↦
              cond-false _ _ _ (same ∙ none) ∙ sym kept_whole
              ∙ ap (λ m. take m (passed ++ take at cutter.unread)) (sym (cond-false _ _ _ none))
        ]
    content_by LineFeed e = all_before ∙ sym kept_whole
    content_by CarriageReturnLineFeed e =
        let is = (and_parts _ (return_before cutter.after_return cutter.unread at) e).1 in
        let n : length passed + at + 1 - 2 ≡ cutter.passed + at - 1 = omega (arith, kept.number) in
        front_of (length passed + at + 1 - 2) (omega arith)
        ∙ ap (λ m. take m (passed ++ take at cutter.unread)) (n ∙ sym (cond-true _ _ _ is))
    content_by NullTerminator e = all_before ∙ sym kept_whole

    content_there : content_of cutter.rule.terminator body ≡ take (full_to cutter at) (passed ++ take at cutter.unread)
    content_there = content_by cutter.rule.terminator ends

    full_fits : full_to cutter at ≤ length passed + at
    full_fits = elim (cases_Bool (leaves_return cutter.rule.terminator && return_before cutter.after_return cutter.unread at)) [
      | inl is ↦ let e : full_to cutter at ≡ cutter.passed + at - 1 = cond-true _ _ _ is in omega (arith, e, kept.number)
      | inr none ↦ let e : full_to cutter at ≡ cutter.passed + at = cond-false _ _ _ none in omega (arith, e, kept.number)
    ]

    size_there : length (content_of cutter.rule.terminator body) ≡ full_to cutter at
    size_there =
        ap length content_there
        ∙ omega (arith, full_fits, before_last_size, length-take (full_to cutter at) (passed ++ take at cutter.unread))

    head_there : take cutter.rule.message_max_bytes (content_of cutter.rule.terminator body)
        ≡ take (full_to cutter at) (head_with cutter (take at cutter.unread))
    head_there =
        let most = cutter.rule.message_max_bytes in
        ap (take most) content_there ∙ take_twice most (full_to cutter at) (passed ++ take at cutter.unread)
        ∙ ap (take (full_to cutter at)) (sym (head_goes_on most passed (take at cutter.unread)))
        ∙ ap (λ xs. take (full_to cutter at) (xs ++ take (most - length xs) (take at cutter.unread))) (sym kept.head)

    end_there : end_of cutter.rule cutter.start body ≡ cutter.start + (cutter.passed + at) + 1
    end_there = omega (arith, body_size, room, kept.number)

    -- the line that is handed out is the one that the bytes before the terminator make
    pub line_there : line_at cutter.rule cutter.start body ≡ line_to cutter at
    line_there = cc (end_there, head_there, size_there)
