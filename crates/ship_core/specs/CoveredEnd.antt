-- The covered end of a place (this project's profile): the place itself if no span begins at it, else the covered end
-- of that span's end. So all bytes from the place up to there lie in spans that adjoin each other.
use Rattle.std.specs.Prelude.{◌≡◌, ◌⊎◌, ℕ, zero, suc, ◌≤◌, ◌<◌, All, Contains, List, [], ◌∷◌, ◌++◌, length, Option, Some, None, nat_lt, ◌==◌, ◌&&◌, if◌then◌else◌}
use Rattle.std.specs.Option.{option_map_or}
use Rattle.wire_base.specs.Extent.{Extent}

-- where a span that begins at the place ends
abbrev pub next_end : List Extent → ℕ → Option ℕ
next_end [] place = None
next_end (span ∷ spans) place = if (span.start == place) && nat_lt place span.end then Some span.end else next_end spans place

-- the end of at most this many spans, the first of which begins at the place and each next one where the one before ends
abbrev pub end_within : List Extent → ℕ → ℕ → ℕ
end_within spans zero place = place
end_within spans (suc more) place = option_map_or (end_within spans more) (next_end spans place) place

-- no more spans than there are can adjoin
abbrev pub covered_end : List Extent → ℕ → ℕ
covered_end spans place = end_within spans (length spans) place

-- two spans that are one, or of which one ends before the other begins
abbrev pub AreEqualOrApart : Extent → Extent → Type 0
AreEqualOrApart a b = (a ≡ b) ⊎ ((a.end ≤ b.start) ⊎ (b.end ≤ a.start))

-- any two of the spans are one or apart
abbrev pub AreApart : List Extent → Type 0
AreApart spans = (a b : Extent) → Contains spans a → Contains spans b → AreEqualOrApart a b

-- the spans begin at the place and follow each other without a gap
abbrev pub Adjoin : ℕ → List Extent → Type 0
Adjoin place [] = Unit {0}
Adjoin place (span ∷ spans) = (span.start ≡ place) × (place < span.end) × Adjoin span.end spans

-- where the last of them ends
abbrev pub last_end : ℕ → List Extent → ℕ
last_end place [] = place
last_end place (span ∷ spans) = last_end span.end spans

-- the reported spans are those up to the covered end, each of which is in the list, and the others
pub record ClosesPrefix (told spans : List Extent) (base : ℕ) : Type 0 where
  pub front : List Extent
  pub rest : List Extent
  pub parts : told ≡ front ++ rest
  pub settled : All (Contains spans) front
  pub end_is : covered_end spans base ≡ last_end base front
