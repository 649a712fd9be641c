-- Spans that lead from one place to another.
use Rattle.std.proofs.Common.{◌≡◌, ◌⊎◌, inl, inr, ℕ, ◌<◌, ◌≤◌, List, [], ◌∷◌, ◌++◌, Contains, sym, ap, ◌∙◌, subst, arith}
use Rattle.std.proofs.lemmas.Bool.{cases_lt}
use Rattle.std.proofs.lemmas.List.Elements.{Contains-append_left}
use Rattle.wire_base.specs.Extent.{Extent}
use Rattle.ship_core.specs.CoveredEnd.{AreApart, covered_end}
use Rattle.ack_tracker.specs.Covered.{Lead}

pub lead_on : (spans : List Extent) (start : ℕ) (via : List Extent) (middle : ℕ) (more : List Extent) (end : ℕ) → Lead spans start via middle → Lead spans middle more end → Lead spans start (via ++ more) end
lead_on spans start [] middle more end one two = subst (λ (z : ℕ). Lead spans z more end) (sym one) two
lead_on spans start (span ∷ via) middle more end one two = (one.0, one.1, one.2, lead_on spans span.end via middle more end one.3 two)

pub lead_more : (spans : List Extent) (last : Extent) (start : ℕ) (via : List Extent) (end : ℕ) → Lead spans start via end → Lead (spans ++ last ∷ []) start via end
lead_more spans last start [] end led = led
lead_more spans last start (span ∷ via) end led = (Contains-append_left spans (last ∷ []) span led.0, led.1, led.2, lead_more spans last span.end via end led.3)

pub lead_rises : (spans : List Extent) (start : ℕ) (via : List Extent) (end : ℕ) → Lead spans start via end → start ≤ end
lead_rises spans start [] end led = omega (arith, led)
lead_rises spans start (span ∷ via) end led = let rest = lead_rises spans span.end via end led.3 in omega (arith, rest, led.2)

-- the span that holds a place on the way
pub record IsMet (spans : List Extent) (place end : ℕ) : Type 0 where
  pub span : Extent
  pub there : Contains spans span
  pub start : span.start ≤ place
  pub behind : place < span.end
  pub inside : span.end ≤ end

pub lead_at : (spans : List Extent) (start : ℕ) (via : List Extent) (end : ℕ) → Lead spans start via end → (place : ℕ) → start ≤ place → place < end → IsMet spans place end
lead_at spans start [] end led place le lt = absurd (omega (arith, led, le, lt))
lead_at spans start (span ∷ via) end led place le lt = by_case (cases_lt place span.end) (lead_at spans span.end via end led.3 place)
  where
    by_case : (place < span.end) ⊎ (span.end ≤ place) → (span.end ≤ place → place < end → IsMet spans place end) → IsMet spans place end
    by_case (inl inside) h = record { span = span; there = led.0; start = omega (arith, led.1, le); behind = inside; inside = lead_rises spans span.end via end led.3 }
    by_case (inr past) h = h past lt

-- the first of them
pub lead_first : (spans : List Extent) (start : ℕ) (via : List Extent) (end : ℕ) → Lead spans start via end → start < end → (span : Extent) × Contains spans span × (span.start ≡ start) × (start < span.end)
lead_first spans start [] end led lt = absurd (omega (arith, led, lt))
lead_first spans start (span ∷ via) end led lt = (span, led.0, led.1, led.2)

-- ---- covered ends along the way

-- what covered ends are by spans, as the law of the core says
abbrev pub Stays : Type 0
Stays = (spans : List Extent) (place : ℕ) → ((span : Extent) → Contains spans span → span.start ≡ place → span.end ≤ place) → covered_end spans place ≡ place

abbrev pub GoesOn : Type 0
GoesOn = (spans : List Extent) (span : Extent) → AreApart spans → Contains spans span → span.start < span.end → covered_end spans span.start ≡ covered_end spans span.end

pub led_end : GoesOn → (spans : List Extent) → AreApart spans → (start : ℕ) (via : List Extent) (end : ℕ) → Lead spans start via end → covered_end spans start ≡ covered_end spans end
led_end goes spans apart start [] end led = ap (covered_end spans) led
led_end goes spans apart start (span ∷ via) end led =
    ap (covered_end spans) (sym led.1) ∙ goes spans span apart led.0 (omega (arith, led.1, led.2)) ∙ led_end goes spans apart span.end via end led.3
