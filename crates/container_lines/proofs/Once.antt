-- Each line of a stream that is kept is a part of one joined line, or waits.
use Rattle.std.proofs.Common.{◌≡◌, ℕ, Bool, true, false, List, [], ◌∷◌, ◌++◌, Option, Some, None, cond, refl, sym, ap, ◌∙◌, append_assoc, append-nil}
use Rattle.std.proofs.lemmas.List.{map-append}
use Rattle.wire_base.specs.Extent.{Extent}
use Rattle.line_cutter.specs.declared.line.Line.{Line}
use Rattle.container_lines.specs.declared.format.Format.{Format}
use Rattle.container_lines.specs.declared.format.Keep.{Keep}
use Rattle.container_lines.specs.declared.format.Stream.{Stream}
use Rattle.container_lines.specs.declared.format.Stream.TheVariants.{Stdout, Stderr}
use Rattle.container_lines.specs.declared.told.Joined.{Joined}
use Rattle.container_lines.specs.declared.told.Told.TheVariants.{Whole, Waits, Other}
use Rattle.container_lines.specs.Part.{Part, part_with, is_kept, is_same}
use Rattle.container_lines.specs.Parts.{Placed, placed, part_of, of_stream, stream_lines, waiting}
use Rattle.container_lines.specs.Joined.{spans_of, joined_of, told_part, told_of, joined_in, joined_behind, joined_lines, parts_of}
use Rattle.container_lines.proofs.Joins.{one_more}
use Rattle.container_lines.proofs.Streams.{waiting-partial, waiting-whole}

parts_of-append : (stream : Stream) (a b : List Joined) → parts_of stream (a ++ b) ≡ parts_of stream a ++ parts_of stream b
parts_of-append stream [] b = refl
parts_of-append stream (joined ∷ a) b =
    ap (λ (l : List Extent). cond (is_same stream joined.stream) joined.parts [] ++ l) (parts_of-append stream a b)
    ∙ sym (append_assoc (cond (is_same stream joined.stream) joined.parts []) (parts_of stream a) (parts_of stream b))

spans_of-append : (a b : List Placed) → spans_of (a ++ b) ≡ spans_of a ++ spans_of b
spans_of-append a b = map-append (λ (line : Placed). line.span) a b

-- the parts of one joined line of the stream
parts_whole : (stream : Stream) (lines : List Placed) → parts_of stream (joined_of stream lines ∷ []) ≡ spans_of lines
parts_whole Stdout lines = append-nil (spans_of lines)
parts_whole Stderr lines = append-nil (spans_of lines)

-- with a line of the stream itself
itself : (format : Format) (keep : Keep) (before : List Line) (span : Extent) (stream : Stream) (partial : Bool) (text : List ℕ) → is_kept keep stream ≡ true →
    spans_of (waiting (stream_lines format stream before)) ++ span ∷ []
    ≡ parts_of stream (joined_in (told_part format keep before span (Some (part_with stream partial text))))
    ++ spans_of (waiting (stream_lines format stream before ++ placed span (part_with stream partial text) ∷ []))
itself format keep before span stream true text kept =
    let lines = stream_lines format stream before in
    let line = placed span (part_with stream true text) in
    rw kept (sym (ap spans_of (waiting-partial lines line refl) ∙ spans_of-append (waiting lines) (line ∷ [])))
itself format keep before span stream false text kept =
    let lines = stream_lines format stream before in
    let line = placed span (part_with stream false text) in
    rw kept (
    sym (spans_of-append (waiting lines) (line ∷ []))
    ∙ sym (parts_whole stream (waiting lines ++ line ∷ []))
    ∙ sym (append-nil (parts_of stream (joined_of stream (waiting lines ++ line ∷ []) ∷ [])))
    ∙ ap (λ (l : List Placed). parts_of stream (joined_of stream (waiting lines ++ line ∷ []) ∷ []) ++ spans_of l) (sym (waiting-whole lines line refl))
    )

-- a line of another stream adds no part
other : (kept partial : Bool) (stream of : Stream) (lines : List Placed) → is_same stream of ≡ false →
    parts_of stream (joined_in (cond kept (cond partial Waits (Whole (joined_of of lines))) Other)) ≡ []
other true true stream of lines differs = refl
other true false stream of lines differs = rw differs refl
other false partial stream of lines differs = refl

-- where no line is added
no_line_more : (lines : List Placed) (parts : List Extent) → parts ≡ [] → spans_of (waiting lines) ++ [] ≡ parts ++ spans_of (waiting (lines ++ []))
no_line_more lines parts none = rw none (append-nil (spans_of (waiting lines)) ∙ ap (λ (l : List Placed). spans_of (waiting l)) (sym (append-nil lines)))

one : (format : Format) (keep : Keep) (before : List Line) (span : Extent) (said : Option Part) (stream : Stream) → is_kept keep stream ≡ true →
    spans_of (waiting (stream_lines format stream before)) ++ spans_of (of_stream stream span said)
    ≡ parts_of stream (joined_in (told_part format keep before span said)) ++ spans_of (waiting (stream_lines format stream before ++ of_stream stream span said))
one format keep before span None stream kept = no_line_more (stream_lines format stream before) [] refl
one format keep before span (Some part) stream kept = of_one stream part.stream part.partial part.text kept
  where
    of_one : (stream of : Stream) (partial : Bool) (text : List ℕ) → is_kept keep stream ≡ true →
        spans_of (waiting (stream_lines format stream before)) ++ spans_of (of_stream stream span (Some (part_with of partial text)))
        ≡ parts_of stream (joined_in (told_part format keep before span (Some (part_with of partial text))))
        ++ spans_of (waiting (stream_lines format stream before ++ of_stream stream span (Some (part_with of partial text))))
    of_one Stdout Stdout partial text kept = itself format keep before span Stdout partial text kept
    of_one Stderr Stderr partial text kept = itself format keep before span Stderr partial text kept
    of_one Stdout Stderr partial text kept =
        no_line_more (stream_lines format Stdout before) _
        (other (is_kept keep Stderr) partial Stdout Stderr (waiting (stream_lines format Stderr before) ++ placed span (part_with Stderr partial text) ∷ []) refl)
    of_one Stderr Stdout partial text kept =
        no_line_more (stream_lines format Stderr before) _
        (other (is_kept keep Stdout) partial Stderr Stdout (waiting (stream_lines format Stdout before) ++ placed span (part_with Stdout partial text) ∷ []) refl)

from_on : (format : Format) (keep : Keep) (stream : Stream) → is_kept keep stream ≡ true → (before lines : List Line) →
    spans_of (waiting (stream_lines format stream before)) ++ spans_of (stream_lines format stream lines)
    ≡ parts_of stream (joined_behind format keep before lines) ++ spans_of (waiting (stream_lines format stream (before ++ lines)))
from_on format keep stream kept before [] =
    append-nil (spans_of (waiting (stream_lines format stream before)))
    ∙ ap (λ (l : List Line). spans_of (waiting (stream_lines format stream l))) (sym (append-nil before))
from_on format keep stream kept before (line ∷ lines) =
    let more = of_stream stream line.span (part_of format line) in
    let waits = spans_of (waiting (stream_lines format stream before)) in
    let rest = spans_of (stream_lines format stream lines) in
    let parts = parts_of stream (joined_in (told_of format keep before line)) in
    let later = parts_of stream (joined_behind format keep (before ++ line ∷ []) lines) in
    ap (λ (l : List Extent). waits ++ l) (spans_of-append more (stream_lines format stream lines))
    ∙ sym (append_assoc waits (spans_of more) rest)
    ∙ ap (λ (l : List Extent). l ++ rest) (one format keep before line.span (part_of format line) stream kept)
    ∙ ap (λ (l : List Placed). (parts ++ spans_of (waiting l)) ++ rest) (sym (one_more format stream before line))
    ∙ append_assoc parts (spans_of (waiting (stream_lines format stream (before ++ line ∷ [])))) rest
    ∙ ap (λ (l : List Extent). parts ++ l) (from_on format keep stream kept (before ++ line ∷ []) lines)
    ∙ sym (append_assoc parts later (spans_of (waiting (stream_lines format stream ((before ++ line ∷ []) ++ lines)))))
    ∙ ap (λ (l : List Extent). l ++ spans_of (waiting (stream_lines format stream ((before ++ line ∷ []) ++ lines)))) (sym (parts_of-append stream (joined_in (told_of format keep before line)) (joined_behind format keep (before ++ line ∷ []) lines)))
    ∙ ap (λ (l : List Line). parts_of stream (joined_behind format keep before (line ∷ lines)) ++ spans_of (waiting (stream_lines format stream l))) (append_assoc before (line ∷ []) lines)

pub once : (format : Format) (keep : Keep) (stream : Stream) (lines : List Line) → is_kept keep stream ≡ true →
    parts_of stream (joined_lines format keep lines) ++ spans_of (waiting (stream_lines format stream lines)) ≡ spans_of (stream_lines format stream lines)
once format keep stream lines kept = sym (from_on format keep stream kept [] lines)

-- ---- a stream that is not kept has no joined line

dropped_one : (format : Format) (keep : Keep) (before : List Line) (span : Extent) (said : Option Part) (stream : Stream) → is_kept keep stream ≡ false →
    parts_of stream (joined_in (told_part format keep before span said)) ≡ []
dropped_one format keep before span None stream dropped = refl
dropped_one format keep before span (Some part) stream dropped = of_one stream part.stream part.partial part.text dropped
  where
    of_one : (stream of : Stream) (partial : Bool) (text : List ℕ) → is_kept keep stream ≡ false →
        parts_of stream (joined_in (told_part format keep before span (Some (part_with of partial text)))) ≡ []
    of_one Stdout Stdout partial text dropped = rw dropped refl
    of_one Stderr Stderr partial text dropped = rw dropped refl
    of_one Stdout Stderr partial text dropped =
        other (is_kept keep Stderr) partial Stdout Stderr (waiting (stream_lines format Stderr before) ++ placed span (part_with Stderr partial text) ∷ []) refl
    of_one Stderr Stdout partial text dropped =
        other (is_kept keep Stdout) partial Stderr Stdout (waiting (stream_lines format Stdout before) ++ placed span (part_with Stdout partial text) ∷ []) refl

dropped_behind : (format : Format) (keep : Keep) (stream : Stream) → is_kept keep stream ≡ false → (before lines : List Line) → parts_of stream (joined_behind format keep before lines) ≡ []
dropped_behind format keep stream dropped before [] = refl
dropped_behind format keep stream dropped before (line ∷ lines) =
    parts_of-append stream (joined_in (told_of format keep before line)) (joined_behind format keep (before ++ line ∷ []) lines)
    ∙ ap (λ (l : List Extent). l ++ parts_of stream (joined_behind format keep (before ++ line ∷ []) lines)) (dropped_one format keep before line.span (part_of format line) stream dropped)
    ∙ dropped_behind format keep stream dropped (before ++ line ∷ []) lines

pub none_of_dropped : (format : Format) (keep : Keep) (stream : Stream) (lines : List Line) → is_kept keep stream ≡ false → parts_of stream (joined_lines format keep lines) ≡ []
none_of_dropped format keep stream lines dropped = dropped_behind format keep stream dropped [] lines
