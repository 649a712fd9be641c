-- What the first lines of a log spell, and which of them are of no format, with more lines.
use Rattle.std.proofs.Common.{◌≡◌, ℕ, ◌+◌, Bool, true, false, List, [], ◌∷◌, ◌++◌, length, Option, Some, None, cond, refl, sym, ap, ◌∙◌, append_assoc, append-nil, arith, length-append}
use Rattle.std.specs.Prelude.{filter, not, is_some}
use Rattle.std.proofs.lemmas.Grind.{flat_map-append}
use Rattle.line_cutter.specs.declared.line.Line.{Line}
use Rattle.wire_base.specs.Extent.{Extent}
use Rattle.container_lines.specs.declared.format.Format.{Format}
use Rattle.container_lines.specs.declared.format.Keep.{Keep}
use Rattle.container_lines.specs.declared.status.BadLines.{BadLines}
use Rattle.container_lines.specs.declared.told.Joined.{Joined}
use Rattle.container_lines.specs.declared.told.Told.{Told}
use Rattle.container_lines.specs.declared.told.Told.TheVariants.{Whole, Waits, Other, Malformed}
use Rattle.container_lines.specs.Part.{Part, is_kept}
use Rattle.container_lines.specs.Parts.{part_of}
use Rattle.container_lines.specs.Joined.{told_part, told_of, joined_in, joined_behind, joined_lines, spelled}
use Rattle.container_lines.specs.Bad.{bad_lines, first_and_count, bad_found, noted}

pub joined_behind-append : (format : Format) (keep : Keep) (before a b : List Line) →
    joined_behind format keep before (a ++ b) ≡ joined_behind format keep before a ++ joined_behind format keep (before ++ a) b
joined_behind-append format keep before [] b = rw append-nil refl
joined_behind-append format keep before (line ∷ a) b =
    ap (λ (l : List Joined). joined_in (told_of format keep before line) ++ l)
    (joined_behind-append format keep (before ++ line ∷ []) a b
    ∙ ap (λ (l : List Line). joined_behind format keep (before ++ line ∷ []) a ++ joined_behind format keep l b) (append_assoc before (line ∷ []) a))
    ∙ sym (append_assoc (joined_in (told_of format keep before line)) (joined_behind format keep (before ++ line ∷ []) a) (joined_behind format keep (before ++ line ∷ a) b))

-- more lines spell more
pub spelled-append : (format : Format) (keep : Keep) (a b : List Line) →
    spelled (joined_lines format keep (a ++ b)) ≡ spelled (joined_lines format keep a) ++ spelled (joined_behind format keep a b)
spelled-append format keep a b =
    ap spelled (joined_behind-append format keep [] a b)
    ∙ flat_map-append (λ (joined : Joined). joined.message ++ 10 ∷ []) (joined_behind format keep [] a) (joined_behind format keep a b)

pub spelled-one : (format : Format) (keep : Keep) (lines : List Line) (line : Line) →
    spelled (joined_lines format keep (lines ++ line ∷ [])) ≡ spelled (joined_lines format keep lines) ++ spelled (joined_in (told_of format keep lines line))
spelled-one format keep lines line =
    spelled-append format keep lines (line ∷ [])
    ∙ ap (λ (l : List Joined). spelled (joined_lines format keep lines) ++ spelled l) (append-nil (joined_in (told_of format keep lines line)))

-- ---- lines of no format

filter-append : (p : Line → Bool) (a b : List Line) → filter p (a ++ b) ≡ filter p a ++ filter p b
filter-append p [] b = refl
filter-append p (line ∷ a) b = by (p line) _ _ _ (filter-append p a b)
  where
    by : (t : Bool) (x y z : List Line) → x ≡ y ++ z → cond t (line ∷ x) x ≡ cond t (line ∷ y) y ++ z
    by true x y z e = ap (λ (l : List Line). line ∷ l) e
    by false x y z e = e

-- the lines of no format so far, behind a line that was told as this
abbrev pub bad_behind : Told → Option BadLines → ℕ → Option BadLines
bad_behind (Whole joined) bad start = bad
bad_behind Waits bad start = bad
bad_behind Other bad start = bad
bad_behind Malformed bad start = Some (noted bad start)

one_more : (lines : List Line) (line : Line) → first_and_count (lines ++ line ∷ []) ≡ Some (noted (first_and_count lines) line.span.start)
one_more [] line = refl
one_more (first ∷ lines) line =
    let more : length (first ∷ (lines ++ line ∷ [])) ≡ length (first ∷ lines) + 1 = omega (arith, length-append lines (line ∷ [])) in
    ap (λ (n : ℕ). Some (bad_at first.span.start n)) more
  where
    bad_at : ℕ → ℕ → BadLines
    bad_at first count = record { first = first; count = count }

bad_by : (format : Format) (keep : Keep) (before : List Line) (found : List Line) (line : Line) (span : Extent) (said : Option Part) →
    first_and_count (found ++ cond (not (is_some said)) (line ∷ []) []) ≡ bad_behind (told_part format keep before span said) (first_and_count found) line.span.start
bad_by format keep before found line span None = one_more found line
bad_by format keep before found line span (Some part) =
    ap first_and_count (append-nil found) ∙ by (is_kept keep part.stream) part.partial _
  where
    by : (kept partial : Bool) (joined : Joined) → first_and_count found ≡ bad_behind (cond kept (cond partial Waits (Whole joined)) Other) (first_and_count found) line.span.start
    by true true joined = refl
    by true false joined = refl
    by false partial joined = refl

pub bad_found-one : (format : Format) (keep : Keep) (lines : List Line) (line : Line) →
    bad_found format (lines ++ line ∷ []) ≡ bad_behind (told_of format keep lines line) (bad_found format lines) line.span.start
bad_found-one format keep lines line =
    ap first_and_count (filter-append (λ (l : Line). not (is_some (part_of format l))) lines (line ∷ []))
    ∙ bad_by format keep lines (bad_lines format lines) line line.span (part_of format line)
