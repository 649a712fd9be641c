-- The timeout passes over two moments that lie 30 seconds apart, and over no others; a talk of one window of one payload is
-- unanswered once its link was idle, and not where it was not.
use Rattle.std.proofs.Common.{◌≡◌, ℕ, true, false, List, [], ◌∷◌, ◌++◌, length, Some, refl, sym, ap, ◌∙◌, arith, length-append}
use Rattle.outside.specs.Talks.{Talk}
use Rattle.spool_queue.specs.Silence.{IsUnanswered, PassesTimeout}

-- ---- moments

passed : PassesTimeout (Some (5 ∷ [])) (Some (5 ∷ 7 ∷ 30005 ∷ []))
passed = record { before = []; earlier = 5; between = 7 ∷ []; later = 30005; behind = []; are = refl; apart = omega arith }

-- of two members the first stands in front of the second
in_order : (x y : ℕ) (before between behind : List ℕ) (earlier later : ℕ) → x ∷ y ∷ [] ≡ before ++ earlier ∷ (between ++ later ∷ behind) → (earlier ≡ x) × (later ≡ y)
in_order x y [] [] behind earlier later is = (let same : x ≡ earlier = cc in sym same, let same : y ≡ later = cc in sym same)
in_order x y [] (b ∷ between) behind earlier later is = absurd (omega (arith, ap length is, length-append between (later ∷ behind)))
in_order x y (b ∷ before) between behind earlier later is =
    absurd (omega (arith, ap length is, length-append before (earlier ∷ (between ++ later ∷ behind)), length-append between (later ∷ behind)))

not_passed : ¬ (PassesTimeout (Some (5 ∷ [])) (Some (5 ∷ 30004 ∷ [])))
not_passed apart =
    let is = in_order 5 30004 apart.before apart.between apart.behind apart.earlier apart.later apart.are in
    omega (arith, apart.apart, is.0, is.1)

-- what the clock gave before the run but last does not count
not_before : ¬ (PassesTimeout (Some (5 ∷ 30004 ∷ [])) (Some (5 ∷ 30004 ∷ 30005 ∷ [])))
not_before apart =
    let is = in_order 30004 30005 apart.before apart.between apart.behind apart.earlier apart.later apart.are in
    omega (arith, apart.apart, is.0, is.1)

-- ---- a talk

not_idle : (talk : Talk) → talk.idled ≡ false → ¬ (IsUnanswered talk)
not_idle talk answered is = absurd (let no : true ≡ false = sym is.idled ∙ answered in cc)
