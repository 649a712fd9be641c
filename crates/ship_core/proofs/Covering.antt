-- The covered end of a place, by one span at a time.
use Rattle.std.proofs.Common.{◌≡◌, ℕ, zero, suc, ◌+◌, ◌≤◌, ◌<◌, Bool, true, false, List, [], ◌∷◌, length, Option, Some, None, if◌then◌else◌, ◌&&◌, ◌==◌, nat_lt, refl, sym, ◌∙◌, subst, arith}
use Rattle.std.proofs.lemmas.Bool.{and_parts, and_from, eqb-true, eq-eqb, ltb-true, lt-ltb, le-ltb}
use Rattle.wire_base.specs.Extent.{Extent}
use Rattle.ship_core.specs.CoveredEnd.{next_end, end_within, covered_end}

-- the test of one span
abbrev pub goes_on : Extent → ℕ → Bool
goes_on span place = (span.start == place) && nat_lt place span.end

pub begins_there : (span : Extent) (place : ℕ) → goes_on span place ≡ true → (span.start ≡ place) × (place < span.end)
begins_there span place e =
    let parts = and_parts (span.start == place) (nat_lt place span.end) e in
    (eqb-true span.start place parts.0, ltb-true place span.end parts.1)

pub passes : (span : Extent) (place : ℕ) → span.start ≡ place → place < span.end → goes_on span place ≡ true
passes span place at behind = and_from (span.start == place) (nat_lt place span.end) (eq-eqb span.start place at) (lt-ltb place span.end behind)

-- ---- how many spans begin at a place or after it

abbrev later_count : List Extent → ℕ → ℕ
later_count [] place = 0
later_count (span ∷ spans) place = (if nat_lt span.start place then 0 else 1) + later_count spans place

later_few : (spans : List Extent) (place : ℕ) → later_count spans place ≤ length spans
later_few [] place = omega arith
later_few (span ∷ spans) place = by_case (nat_lt span.start place) (later_few spans place)
  where
    by_case : (b : Bool) → later_count spans place ≤ length spans → (if b then 0 else 1) + later_count spans place ≤ suc (length spans)
    by_case true h = omega (arith, h)
    by_case false h = omega (arith, h)

-- fewer begin after a further place
later_falls : (spans : List Extent) (place further : ℕ) → place ≤ further → later_count spans further ≤ later_count spans place
later_falls [] place further le = omega arith
later_falls (span ∷ spans) place further le = by_case (nat_lt span.start further) refl (nat_lt span.start place) refl (later_falls spans place further le)
  where
    by_case : (b : Bool) → nat_lt span.start further ≡ b → (d : Bool) → nat_lt span.start place ≡ d → later_count spans further ≤ later_count spans place → (if b then 0 else 1) + later_count spans further ≤ (if d then 0 else 1) + later_count spans place
    by_case true e d f h = omega (arith, h)
    by_case false e true f h = absurd (let below : span.start < place = ltb-true span.start place f in let no : nat_lt span.start further ≡ true = lt-ltb span.start further (omega arith) in let q : true ≡ false = sym no ∙ e in cc)
    by_case false e false f h = omega (arith, h)

-- ---- one span further

-- what was found lies after the place
pub next_behind : (spans : List Extent) (place end : ℕ) → next_end spans place ≡ Some end → place < end
next_behind [] place end e = absurd (let q : None ≡ Some end = e in cc)
next_behind (span ∷ spans) place end e = by_case (goes_on span place) refl (next_behind spans place end) e
  where
    by_case : (b : Bool) → goes_on span place ≡ b → (next_end spans place ≡ Some end → place < end) → (if b then Some span.end else next_end spans place) ≡ Some end → place < end
    by_case true e h is = let same : span.end ≡ end = cc in subst (λ z. place < z) same (begins_there span place e).1
    by_case false e h is = h is

later_fewer : (spans : List Extent) (place end : ℕ) → next_end spans place ≡ Some end → later_count spans end < later_count spans place
later_fewer [] place end e = absurd (let q : None ≡ Some end = e in cc)
later_fewer (span ∷ spans) place end e = by_case (goes_on span place) refl (next_behind (span ∷ spans) place end e) (later_fewer spans place end) (later_falls spans place end) e
  where
    here : span.start ≡ place → place < end → later_count spans end ≤ later_count spans place → later_count (span ∷ spans) end < later_count (span ∷ spans) place
    here at lt others =
        let first : nat_lt span.start end ≡ true = lt-ltb span.start end (omega arith) in
        let second : nat_lt span.start place ≡ false = le-ltb span.start place (omega arith) in
        rw (first, second) (omega (arith, others))

    beyond : (b : Bool) → nat_lt span.start end ≡ b → (d : Bool) → nat_lt span.start place ≡ d → place < end → later_count spans end < later_count spans place → (if b then 0 else 1) + later_count spans end < (if d then 0 else 1) + later_count spans place
    beyond true e d f lt h = omega (arith, h)
    beyond false e true f lt h = absurd (let below : span.start < place = ltb-true span.start place f in let no : nat_lt span.start end ≡ true = lt-ltb span.start end (omega arith) in let q : true ≡ false = sym no ∙ e in cc)
    beyond false e false f lt h = omega (arith, h)

    by_case : (b : Bool) → goes_on span place ≡ b → place < end → (next_end spans place ≡ Some end → later_count spans end < later_count spans place) → (place ≤ end → later_count spans end ≤ later_count spans place) → (if b then Some span.end else next_end spans place) ≡ Some end → later_count (span ∷ spans) end < later_count (span ∷ spans) place
    by_case true e lt h falls is = here (begins_there span place e).0 lt (falls (omega arith))
    by_case false e lt h falls is = beyond (nat_lt span.start end) refl (nat_lt span.start place) refl lt (h is)

-- ---- what there is at a place: nothing, or a span's end

pub by_next : {G : Type 0} (spans : List Extent) (place : ℕ) → (next_end spans place ≡ None → G) → ((end : ℕ) → next_end spans place ≡ Some end → G) → G
by_next {G} spans place none some = by_case (next_end spans place) refl
  where
    by_case : (o : Option ℕ) → next_end spans place ≡ o → G
    by_case None e = none e
    by_case (Some end) e = some end e

stays_within : (spans : List Extent) (n place : ℕ) → next_end spans place ≡ None → end_within spans n place ≡ place
stays_within spans zero place e = refl
stays_within spans (suc n) place e = rw e refl

goes_within : (spans : List Extent) (n place end : ℕ) → next_end spans place ≡ Some end → end_within spans (suc n) place ≡ end_within spans n end
goes_within spans n place end e = rw e refl

-- enough spans are enough
stable : (spans : List Extent) (n place : ℕ) → later_count spans place ≤ n → end_within spans (suc n) place ≡ end_within spans n place
stable spans zero place few = by_next spans place (λ none. stays_within spans 1 place none) (λ end some. absurd (let less = later_fewer spans place end some in omega (arith, less)))
stable spans (suc n) place few = by_case (next_end spans place) refl (stable spans n)
  where
    by_case : (o : Option ℕ) → next_end spans place ≡ o → ((further : ℕ) → later_count spans further ≤ n → end_within spans (suc n) further ≡ end_within spans n further) → end_within spans (suc (suc n)) place ≡ end_within spans (suc n) place
    by_case None e h = stays_within spans (suc (suc n)) place e ∙ sym (stays_within spans (suc n) place e)
    by_case (Some end) e h =
        let less = later_fewer spans place end e in
        goes_within spans (suc n) place end e ∙ h end (omega (arith, less)) ∙ sym (goes_within spans n place end e)

-- if no span begins at the place, it is its own covered end
pub stays : (spans : List Extent) (place : ℕ) → next_end spans place ≡ None → covered_end spans place ≡ place
stays spans place e = stays_within spans (length spans) place e

-- else it is that of the span's end
pub goes : (spans : List Extent) (place end : ℕ) → next_end spans place ≡ Some end → covered_end spans place ≡ covered_end spans end
goes spans place end e = by_length (length spans) refl
  where
    by_length : (n : ℕ) → length spans ≡ n → end_within spans (length spans) place ≡ end_within spans (length spans) end
    by_length zero is = absurd (let less = later_fewer spans place end e in let few = later_few spans place in omega (arith, less, few, is))
    by_length (suc n) is =
        let less = later_fewer spans place end e in
        let few = later_few spans place in
        rw is (goes_within spans n place end e ∙ sym (stable spans n end (omega (arith, less, few, is))))

-- ---- induction along the spans

-- a property of all places follows where it holds of places at which no span begins, and of a place from that of the
-- end of the span that begins there
pub along : (P : ℕ → Type 0) (spans : List Extent) → ((place : ℕ) → next_end spans place ≡ None → P place) → ((place end : ℕ) → next_end spans place ≡ Some end → P end → P place) → (place : ℕ) → P place
along P spans none some place = bounded (length spans) place (later_few spans place)
  where
    bounded : (n place : ℕ) → later_count spans place ≤ n → P place
    bounded zero place few = by_next spans place (λ e. none place e) (λ end e. absurd (let less = later_fewer spans place end e in omega (arith, less)))
    bounded (suc n) place few = by_next spans place (λ e. none place e) (λ end e. let less = later_fewer spans place end e in some place end e (bounded n end (omega (arith, less))))

-- a covered end does not lie before its place
pub covers : (spans : List Extent) (place : ℕ) → place ≤ covered_end spans place
covers spans = along (λ place. place ≤ covered_end spans place) spans
    (λ place e. rw (stays spans place e) (omega arith))
    (λ place end e h. let behind = next_behind spans place end e in rw (goes spans place end e) (omega (arith, h, behind)))
