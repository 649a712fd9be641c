-- The first byte of an area, over a write that was cut short and over one that was not.
use Rattle.std.proofs.Common.{◌≡◌, ◌≢◌, ◌⊎◌, inl, inr, ℕ, suc, ◌+◌, List, [], ◌∷◌, ◌++◌, length, get_or, drop, refl, sym, ◌∙◌, ap, subst, append-nil, arith}
use Rattle.std.proofs.lemmas.Bool.Decides.{eqb_tells}
use Rattle.std.proofs.lemmas.List.{take_min}
use Rattle.outside.specs.DiskImages.{MayBeCut, Torn}
use Rattle.outside.specs.DiskReads.{written}
use Rattle.registry_log.specs.Starting.{IsBlank, IsClosed, IsPartWritten, IsShut}

open_or_not : (gate : ℕ) → (gate ≡ 123) ⊎ (gate ≢ 123)
open_or_not gate = elim (eqb_tells gate 123) [
  | inl is ↦ inl is.1
  | inr other ↦ inr other.1
]

-- ---- an area whose gate is closed by a write

pub not_closed : (area : List ℕ) → (IsClosed area → ⊥) → (area ≡ []) ⊎ ((rest : List ℕ) × (area ≡ 123 ∷ rest))
not_closed [] unclosed = inl refl
not_closed (gate ∷ rest) unclosed = elim (open_or_not gate) [
  | inl is ↦ inr (rest, ap (λ (g : ℕ). g ∷ rest) is)
  | inr other ↦ absurd (unclosed other)
]

closing_empty : (area : List ℕ) → Torn 0 1 [] area → IsShut [] area
closing_empty area torn = inr (inl (omega (arith, torn.no_longer)))

closing_open : (rest area : List ℕ) → Torn 0 1 (123 ∷ rest) area → IsShut (123 ∷ rest) area
closing_open rest [] torn = inr (inl (omega arith))
closing_open rest (gate ∷ behind) torn = elim (open_or_not gate) [
  | inl is ↦ inl (ap (λ (g : ℕ). g ∷ behind) is ∙ ap (λ (l : List ℕ). 123 ∷ l) torn.back)
  | inr other ↦ inr (inr other)
]

pub closing : (before area : List ℕ) → (IsClosed before → ⊥) → Torn 0 1 before area → IsShut before area
closing before area unclosed torn = elim (not_closed before unclosed) [
  | inl empty ↦ let S : List ℕ → Type 0 = λ l. IsShut l area in let T : List ℕ → Type 0 = λ l. Torn 0 1 l area in subst S (sym empty) (closing_empty area (subst T empty torn))
  | inr opened ↦ let S : List ℕ → Type 0 = λ l. IsShut l area in let T : List ℕ → Type 0 = λ l. Torn 0 1 l area in subst S (sym opened.1) (closing_open opened.0 area (subst T opened.1 torn))
]

pub closed_by_a_write : (before : List ℕ) → IsClosed (written before 0 (46 ∷ []))
closed_by_a_write before = λ same. cc same

-- ---- an area with a closed gate alone

pub lone_gate : (area : List ℕ) → IsClosed area → IsBlank area → (gate : ℕ) × (gate ≢ 123) × (area ≡ gate ∷ [])
lone_gate [] closed blank = absurd closed
lone_gate (gate ∷ []) closed blank = (gate, closed, refl)
lone_gate (gate ∷ byte ∷ rest) closed blank = absurd (omega arith)

pub written_behind : (gate : ℕ) (bytes : List ℕ) → written (gate ∷ []) 1 bytes ≡ gate ∷ bytes
written_behind gate [] = refl
written_behind gate (byte ∷ bytes) =
    let past : 1 + suc (length bytes) ≡ suc (suc (length bytes)) = omega arith in
    ap (λ (n : ℕ). gate ∷ byte ∷ (bytes ++ drop n (gate ∷ []))) past ∙ ap (λ (l : List ℕ). gate ∷ byte ∷ l) (append-nil bytes)

pub torn_behind : (gate n : ℕ) (area : List ℕ) → (gate ≢ 123) → Torn 1 n (gate ∷ []) area → IsClosed area
torn_behind gate n [] closed torn = absurd (omega (arith, torn.no_shorter))
torn_behind gate n (first ∷ rest) closed torn = λ opened. closed (sym (ap (λ (l : List ℕ). get_or l 0 0) torn.front) ∙ opened)

-- ---- an area whose gate is opened

pub opening : (gate : ℕ) (bytes before area : List ℕ) → Torn 0 1 (gate ∷ bytes) area → IsPartWritten (123 ∷ bytes) before area
opening gate bytes before [] torn = inl (inr (inl (omega arith)))
opening gate bytes before (first ∷ rest) torn = elim (open_or_not first) [
  | inl is ↦ inr (ap (λ (g : ℕ). g ∷ rest) is ∙ ap (λ (l : List ℕ). 123 ∷ l) torn.back)
  | inr other ↦ inl (inr (inr other))
]

-- ---- a cut

pub cut_closed : (before area : List ℕ) → IsClosed before → MayBeCut 1 before area → IsClosed area
cut_closed before area closed (inl same) = subst IsClosed (sym same) closed
cut_closed [] area closed (inr cut) = absurd closed
cut_closed (gate ∷ rest) area closed (inr cut) = subst IsClosed (sym cut) closed

pub torn_by_nothing : (at n : ℕ) (area : List ℕ) → Torn at n area area
torn_by_nothing at n area = record {
  front = take_min at area;
  back = refl;
  no_shorter = omega arith;
  no_longer = omega arith;
}
