-- The verdict by the first rule that drops a message.
use Rattle.std.proofs.Common.{◌≡◌, ◌≢◌, ℕ, Bool, true, false, not, cond, List, [], ◌∷◌, length, Option, Some, None, refl, sym, ap, ◌∙◌, arith}
use Rattle.line_filter.specs.Verdict.{is_matched, is_not_included, verdict_of}

-- the verdict of a message with a byte
abbrev pub verdict_by : Bool → Bool → Option ℕ
verdict_by left_out excluded = cond left_out (Some 1) (cond excluded (Some 2) None)

some_byte : (include exclude : List (List ℕ)) (message : List ℕ) → message ≢ [] →
    verdict_of include exclude message ≡ verdict_by (is_not_included include message) (is_matched exclude message)
unfolding verdict_of
some_byte include exclude [] some = absurd (some refl)
some_byte include exclude (byte ∷ bytes) some = refl

included : (include : List (List ℕ)) (message : List ℕ) → is_matched include message ≡ true → is_not_included include message ≡ false
included [] message matched = refl
included (pattern ∷ patterns) message matched = ap not matched

pub empty_message : (include exclude : List (List ℕ)) → verdict_of include exclude [] ≡ Some 0
unfolding verdict_of
empty_message include exclude = refl

pub not_included : (include exclude : List (List ℕ)) (message : List ℕ) → message ≢ [] → include ≢ [] → is_matched include message ≡ false →
    verdict_of include exclude message ≡ Some 1
not_included [] exclude message some there unmatched = absurd (there refl)
not_included (pattern ∷ patterns) exclude message some there unmatched =
    some_byte (pattern ∷ patterns) exclude message some ∙ ap (λ (b : Bool). verdict_by (not b) (is_matched exclude message)) unmatched

pub by_exclusion : (include exclude : List (List ℕ)) (message : List ℕ) (excluded : Bool) → message ≢ [] → is_not_included include message ≡ false →
    is_matched exclude message ≡ excluded → verdict_of include exclude message ≡ verdict_by false excluded
by_exclusion include exclude message excluded some within is =
    some_byte include exclude message some ∙ ap (λ (b : Bool). verdict_by b (is_matched exclude message)) within
    ∙ ap (λ (b : Bool). verdict_by false b) is

pub among : (include exclude : List (List ℕ)) (message : List ℕ) (excluded : Bool) → message ≢ [] → is_matched include message ≡ true →
    is_matched exclude message ≡ excluded → verdict_of include exclude message ≡ verdict_by false excluded
among include exclude message excluded some matched is = by_exclusion include exclude message excluded some (included include message matched) is

-- ---- lists of patterns

-- if there is no pattern, none is missed
pub none_left_out : (include : List (List ℕ)) (message : List ℕ) → length include ≡ 0 → is_not_included include message ≡ false
none_left_out [] message none = refl
none_left_out (pattern ∷ patterns) message none = absurd (omega arith)

pub left_out : (include : List (List ℕ)) (message : List ℕ) (matched : Bool) → length include ≢ 0 → matched ≡ is_matched include message →
    not matched ≡ is_not_included include message
left_out [] message matched some is = absurd (some refl)
left_out (pattern ∷ patterns) message matched some is = ap not is

-- ---- verdicts

pub is_empty_message : (include exclude : List (List ℕ)) (message : List ℕ) → length message ≡ 0 → Some 0 ≡ verdict_of include exclude message
is_empty_message include exclude [] none = sym (empty_message include exclude)
is_empty_message include exclude (byte ∷ bytes) none = absurd (omega arith)

filled : (message : List ℕ) → length message ≢ 0 → message ≢ []
filled message some none = some (ap length none)

pub is_left_out : (include exclude : List (List ℕ)) (message : List ℕ) → length message ≢ 0 → true ≡ is_not_included include message →
    Some 1 ≡ verdict_of include exclude message
is_left_out include exclude message some out =
    sym (some_byte include exclude message (filled message some) ∙ ap (λ (b : Bool). verdict_by b (is_matched exclude message)) (sym out))

pub is_ruled : (include exclude : List (List ℕ)) (message : List ℕ) (excluded : Bool) → length message ≢ 0 →
    false ≡ is_not_included include message → excluded ≡ is_matched exclude message →
    verdict_by false excluded ≡ verdict_of include exclude message
is_ruled include exclude message excluded some within is =
    sym (by_exclusion include exclude message excluded (filled message some) (sym within) (sym is))
