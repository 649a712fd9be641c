-- What a joiner answers of a line, and what it stands for behind it.
use Rattle.std.proofs.Common.{◌≡◌, ℕ, Bool, true, false, List, [], ◌∷◌, ◌++◌, Option, Some, None, cond, refl, sym, ap, subst, ◌∙◌, append-nil, Result, Ok, Err, IfOk, OnOk}
use Rattle.wire_base.specs.declared.memory.NoMemory.{NoMemory}
use Rattle.wire_base.specs.Extent.{Extent}
use Rattle.line_cutter.specs.declared.line.Line.{Line}
use Rattle.container_lines.specs.declared.format.Format.{Format}
use Rattle.container_lines.specs.declared.format.Keep.{Keep}
use Rattle.container_lines.specs.declared.format.Stream.{Stream}
use Rattle.container_lines.specs.declared.format.Stream.TheVariants.{Stdout, Stderr}
use Rattle.container_lines.specs.declared.told.Told.{Told}
use Rattle.container_lines.specs.declared.told.Told.TheVariants.{Whole, Waits, Other}
use Rattle.container_lines.specs.Part.{Part, part_with, is_kept}
use Rattle.container_lines.specs.Parts.{Placed, placed, part_of, of_stream, stream_lines, waiting}
use Rattle.container_lines.specs.Joined.{joined_of, told_part, told_of}
use Rattle.container_lines.specs.Joining.{Waiting, Joining, no_line, waiting_of, waits_of, HasJoined, waiting_in, with_waiting, joined_waiting, answer_kept, behind_kept, answer_to, behind_part}
use Rattle.container_lines.proofs.Streams.{stream_lines-append, waiting_of-append, waits-kept}

waits_in : {format : Format} {keep : Keep} {before : List Line} {joiner : Joining} → HasJoined format keep before joiner → (stream : Stream) →
    waiting_in joiner stream ≡ waits_of format keep stream before
waits_in has Stdout = has.stdout
waits_in has Stderr = has.stderr

-- the answer to a part of a stream of which these lines wait
answer_as : (kept : Bool) (lines : List Placed) (span : Extent) (stream : Stream) (partial : Bool) (text : List ℕ) →
    cond kept (answer_kept (cond kept (waiting_of lines) no_line) span (part_with stream partial text)) Other
    ≡ cond kept (cond partial Waits (Whole (joined_of stream (lines ++ placed span (part_with stream partial text) ∷ [])))) Other
answer_as false lines span stream partial text = refl
answer_as true lines span stream true text = refl
answer_as true lines span stream false text =
    ap (λ (w : Waiting). Whole (joined_waiting stream w)) (sym (waiting_of-append lines (placed span (part_with stream false text))))

answer_by : (format : Format) (keep : Keep) (before : List Line) (joiner : Joining) (span : Extent) (said : Option Part) →
    HasJoined format keep before joiner → answer_to joiner span said ≡ told_part format keep before span said
answer_by format keep before joiner span None has = refl
answer_by format keep before joiner span (Some part) has =
    rw (has.same_keep, waits_in has part.stream)
    (answer_as (is_kept keep part.stream) (waiting (stream_lines format part.stream before)) span part.stream part.partial part.text)

answer_is : (format : Format) (keep : Keep) (before : List Line) (joiner : Joining) (line : Line) →
    HasJoined format keep before joiner → answer_to joiner line.span (part_of joiner.format line) ≡ told_of format keep before line
answer_is format keep before joiner line has =
    ap (λ (f : Format). answer_to joiner line.span (part_of f line)) has.same_format ∙ answer_by format keep before joiner line.span (part_of format line) has

format_stays : (joiner : Joining) (span : Extent) (said : Option Part) → (behind_part joiner span said).format ≡ joiner.format
format_stays joiner span None = refl
format_stays joiner span (Some part) = stays (is_kept joiner.keep part.stream) part.stream (behind_kept (waiting_in joiner part.stream) span part)
  where
    stays : (b : Bool) (stream : Stream) (waits : Waiting) → (cond b (with_waiting joiner stream waits) joiner).format ≡ joiner.format
    stays true Stdout waits = refl
    stays true Stderr waits = refl
    stays false stream waits = refl

keep_stays : (joiner : Joining) (span : Extent) (said : Option Part) → (behind_part joiner span said).keep ≡ joiner.keep
keep_stays joiner span None = refl
keep_stays joiner span (Some part) = stays (is_kept joiner.keep part.stream) part.stream (behind_kept (waiting_in joiner part.stream) span part)
  where
    stays : (b : Bool) (stream : Stream) (waits : Waiting) → (cond b (with_waiting joiner stream waits) joiner).keep ≡ joiner.keep
    stays true Stdout waits = refl
    stays true Stderr waits = refl
    stays false stream waits = refl

-- what waits of a stream behind a part of it
kept_as : (kept : Bool) (lines : List Placed) (waits : Waiting) (span : Extent) (stream : Stream) (partial : Bool) (text : List ℕ) →
    waits ≡ cond kept (waiting_of (waiting lines)) no_line →
    cond kept (behind_kept waits span (part_with stream partial text)) waits
    ≡ cond kept (waiting_of (waiting (lines ++ placed span (part_with stream partial text) ∷ []))) no_line
kept_as true lines waits span stream partial text is =
    ap (λ (w : Waiting). behind_kept w span (part_with stream partial text)) is ∙ sym (waits-kept lines span stream partial text)
kept_as false lines waits span stream partial text is = is

same_stream : (kept : Bool) (joiner : Joining) (stream : Stream) (waits : Waiting) →
    waiting_in (cond kept (with_waiting joiner stream waits) joiner) stream ≡ cond kept waits (waiting_in joiner stream)
same_stream true joiner Stdout waits = refl
same_stream true joiner Stderr waits = refl
same_stream false joiner stream waits = refl

-- of a part of the stream itself
stream_itself : (keep : Keep) (lines : List Placed) (joiner : Joining) (span : Extent) (part : Part) → joiner.keep ≡ keep →
    waiting_in joiner part.stream ≡ cond (is_kept keep part.stream) (waiting_of (waiting lines)) no_line →
    waiting_in (behind_part joiner span (Some part)) part.stream ≡ cond (is_kept keep part.stream) (waiting_of (waiting (lines ++ placed span part ∷ []))) no_line
stream_itself keep lines joiner span part same is =
    same_stream (is_kept joiner.keep part.stream) joiner part.stream (behind_kept (waiting_in joiner part.stream) span part)
    ∙ ap (λ (k : Keep). cond (is_kept k part.stream) (behind_kept (waiting_in joiner part.stream) span part) (waiting_in joiner part.stream)) same
    ∙ kept_as (is_kept keep part.stream) lines (waiting_in joiner part.stream) span part.stream part.partial part.text is

-- of a part of the other stream
stdout_stays : (kept : Bool) (joiner : Joining) (waits : Waiting) → (cond kept (with_waiting joiner Stderr waits) joiner).stdout ≡ joiner.stdout
stdout_stays true joiner waits = refl
stdout_stays false joiner waits = refl

stderr_stays : (kept : Bool) (joiner : Joining) (waits : Waiting) → (cond kept (with_waiting joiner Stdout waits) joiner).stderr ≡ joiner.stderr
stderr_stays true joiner waits = refl
stderr_stays false joiner waits = refl

stdout_goes : (keep : Keep) (lines : List Placed) (joiner : Joining) (span : Extent) (said : Option Part) → joiner.keep ≡ keep →
    joiner.stdout ≡ cond (is_kept keep Stdout) (waiting_of (waiting lines)) no_line →
    (behind_part joiner span said).stdout ≡ cond (is_kept keep Stdout) (waiting_of (waiting (lines ++ of_stream Stdout span said))) no_line
stdout_goes keep lines joiner span None same is = rw append-nil is
stdout_goes keep lines joiner span (Some part) same is = of_one part.stream part.partial part.text
  where
    of_one : (stream : Stream) (partial : Bool) (text : List ℕ) →
        (behind_part joiner span (Some (part_with stream partial text))).stdout
        ≡ cond (is_kept keep Stdout) (waiting_of (waiting (lines ++ of_stream Stdout span (Some (part_with stream partial text))))) no_line
    of_one Stdout partial text = stream_itself keep lines joiner span (part_with Stdout partial text) same is
    of_one Stderr partial text = stdout_stays (is_kept joiner.keep Stderr) joiner (behind_kept joiner.stderr span (part_with Stderr partial text)) ∙ rw append-nil is

stderr_goes : (keep : Keep) (lines : List Placed) (joiner : Joining) (span : Extent) (said : Option Part) → joiner.keep ≡ keep →
    joiner.stderr ≡ cond (is_kept keep Stderr) (waiting_of (waiting lines)) no_line →
    (behind_part joiner span said).stderr ≡ cond (is_kept keep Stderr) (waiting_of (waiting (lines ++ of_stream Stderr span said))) no_line
stderr_goes keep lines joiner span None same is = rw append-nil is
stderr_goes keep lines joiner span (Some part) same is = of_one part.stream part.partial part.text
  where
    of_one : (stream : Stream) (partial : Bool) (text : List ℕ) →
        (behind_part joiner span (Some (part_with stream partial text))).stderr
        ≡ cond (is_kept keep Stderr) (waiting_of (waiting (lines ++ of_stream Stderr span (Some (part_with stream partial text))))) no_line
    of_one Stderr partial text = stream_itself keep lines joiner span (part_with Stderr partial text) same is
    of_one Stdout partial text = stderr_stays (is_kept joiner.keep Stdout) joiner (behind_kept joiner.stdout span (part_with Stdout partial text)) ∙ rw append-nil is

-- the lines of a stream with one more
pub one_more : (format : Format) (stream : Stream) (before : List Line) (line : Line) →
    stream_lines format stream (before ++ line ∷ []) ≡ stream_lines format stream before ++ of_stream stream line.span (part_of format line)
one_more format stream before line =
    stream_lines-append format stream before (line ∷ []) ∙ ap (λ (l : List Placed). stream_lines format stream before ++ l) (append-nil (of_stream stream line.span (part_of format line)))

goes_by : (format : Format) (keep : Keep) (before : List Line) (joiner : Joining) (line : Line) → HasJoined format keep before joiner →
    HasJoined format keep (before ++ line ∷ []) (behind_part joiner line.span (part_of format line))
goes_by format keep before joiner line has = record {
  same_format = format_stays joiner line.span (part_of format line) ∙ has.same_format;
  same_keep = keep_stays joiner line.span (part_of format line) ∙ has.same_keep;
  stdout = rw (one_more format Stdout before line) (stdout_goes keep (stream_lines format Stdout before) joiner line.span (part_of format line) has.same_keep has.stdout);
  stderr = rw (one_more format Stderr before line) (stderr_goes keep (stream_lines format Stderr before) joiner line.span (part_of format line) has.same_keep has.stderr);
}

goes_behind : (format : Format) (keep : Keep) (before : List Line) (joiner : Joining) (line : Line) → HasJoined format keep before joiner →
    HasJoined format keep (before ++ line ∷ []) (behind_part joiner line.span (part_of joiner.format line))
goes_behind format keep before joiner line has =
    let P : Format → Type 0 = λ f. HasJoined format keep (before ++ line ∷ []) (behind_part joiner line.span (part_of f line)) in
    subst P (sym has.same_format) (goes_by format keep before joiner line has)

pub told_by_the_lines : (result : Result Told NoMemory) (joiner : Joining) (line : Line) →
    IfOk result (λ told. told ≡ answer_to joiner line.span (part_of joiner.format line)) →
    IfOk result (λ told. (format : Format) (keep : Keep) (before : List Line) → HasJoined format keep before joiner → told ≡ told_of format keep before line)
told_by_the_lines (Ok told) joiner line is = λ format keep before has. is ∙ answer_is format keep before joiner line has
told_by_the_lines (Err refused) joiner line is = tt

pub taken : (result : Result Told NoMemory) (joiner after : Joining) (line : Line) →
    OnOk result (after ≡ behind_part joiner line.span (part_of joiner.format line)) →
    OnOk result ((format : Format) (keep : Keep) (before : List Line) → HasJoined format keep before joiner → HasJoined format keep (before ++ line ∷ []) after)
taken (Ok told) joiner after line is = λ format keep before has.
    let P : Joining → Type 0 = HasJoined format keep (before ++ line ∷ []) in
    subst P (sym is) (goes_behind format keep before joiner line has)
taken (Err refused) joiner after line is = tt
