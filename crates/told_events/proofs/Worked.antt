-- Worked fates and reported events, computed by the definitions, and what is refused.
use Rattle.std.proofs.Common.{◌≡◌, ◌≢◌, inl, ℕ, ◌+◌, ◌≤◌, false, List, [], ◌∷◌, ◌++◌, length, None, codes, refl, sym, ap, ◌∙◌, arith, lit≤, length-append}
use Rattle.std.specs.Fmt.{digits}
use Rattle.event_json.specs.Json.{escape}
use Rattle.event_json.specs.Moment.{date_of, moment_text}
use Rattle.event_json.specs.Payload.{payload_of_value}
use Rattle.event_json.specs.Replaced.{text_of}
use Rattle.event_tree.specs.Value.{str}
use Rattle.event_tree.specs.declared.condition_rule.ConditionRule.{Equals, HasFields}
use Rattle.event_tree.specs.declared.group_rule.GroupRule.{GroupRule}
use Rattle.event_tree.specs.declared.group_rule.GroupRule.TheVariants.{Count, Single}
use Rattle.event_tree.specs.declared.line_rule.LineRule.{LineRule}
use Rattle.event_tree.specs.declared.line_rule.Terminator.TheVariants.{Auto}
use Rattle.event_tree.specs.declared.processor_rule.ProcessorRule.{ProcessorRule}
use Rattle.event_tree.specs.declared.processor_rule.ProcessorRule.TheVariants.{AddTags, DropEvent}
use Rattle.conditions.specs.Holds.{holds}
use Rattle.file_looks.specs.EndLook.{with_looks}
use Rattle.file_looks.specs.Segment.{Segment, read_to}
use Rattle.line_cutter.specs.declared.line.Line.{Line}
use Rattle.line_filter.specs.Verdict.{verdict_of}
use Rattle.multiline_core.specs.Event.{IsNatural}
use Rattle.multiline_core.specs.Message.{message_of}
use Rattle.multiline_core.specs.Partition.{IsFlushedEvent, IsNaturalEvent, lines_from}
use Rattle.outside.specs.declared.history.Look.{Look}
use Rattle.outside.specs.declared.history.Question.TheVariants.{Length, ReadAt}
use Rattle.processors_core.specs.Outcome.{after_one}
use Rattle.told_events.specs.Fate.{DroppedBy, ShippedAs, fate_of}
use Rattle.told_events.specs.Licence.{EndsWhatWasRead, LieApart, whole_lines_end}
use Rattle.told_events.specs.Rules.{Rules}
use Rattle.told_events.specs.Told.{AreTold, HasFate, ToldEvent}

abbrev pub lines : LineRule
lines = record { terminator = Auto; message_max_bytes = 10485760 }

abbrev pub rules_with : GroupRule → List ProcessorRule → Rules
rules_with events processors = record { lines = lines; events = events; include = []; exclude = []; processors = processors }

abbrev pub plain : Rules
plain = rules_with (Single 10485760) []

abbrev pub a_log : List ℕ
a_log = codes "/w/a.log"

-- ---- two plain lines

abbrev pub life : List ℕ
life = codes "a\nb\n"

abbrev pub payload : List ℕ → List ℕ → List ℕ
payload offset message =
    codes "{\"@timestamp\":\"1970-01-01T00:00:00.000Z\",\"input\":{\"type\":\"filestream\"},\"log\":{\"file\":{\"path\":\"/w/a.log\"},\"offset\":"
    ++ (offset ++ (codes "},\"message\":\"" ++ (message ++ codes "\"}")))

pub first_fate : fate_of plain a_log 0 (codes "a") 0 ≡ ShippedAs (payload (codes "0") (codes "a"))
unfolding fate_of verdict_of payload_of_value date_of moment_text text_of escape digits
first_fate = refl

pub second_fate : fate_of plain a_log 2 (codes "b") 0 ≡ ShippedAs (payload (codes "2") (codes "b"))
unfolding fate_of verdict_of payload_of_value date_of moment_text text_of escape digits
second_fate = refl

abbrev pub first_line : Line
first_line = record { span = record { start = 0; end = 2 }; head = codes "a"; full = 1 }

abbrev pub second_line : Line
second_line = record { span = record { start = 2; end = 4 }; head = codes "b"; full = 1 }

abbrev pub event_of : Line → List ℕ → ToldEvent
event_of line text = record { span = line.span; path = a_log; now = 0; fate = ShippedAs text }

abbrev pub both_events : List ToldEvent
both_events = event_of first_line (payload (codes "0") (codes "a")) ∷ event_of second_line (payload (codes "2") (codes "b")) ∷ []

one_is_shortest : (line : Line) (front left : List Line) → line ∷ [] ≡ front ++ left → left ≢ [] → length front ≡ 1 → ⊥
one_is_shortest line front [] same some size = some refl
one_is_shortest line front (next ∷ left) same some size =
    absurd (omega (arith, size, length-append front (next ∷ left), ap (λ (l : List Line). length l) same))

natural : (line : Line) (behind : List Line) → lines_from lines life line.span.start ≡ line ∷ behind →
    IsNaturalEvent lines (Single 10485760) life line.span.start line.span.end
natural line behind are =
    record { row = line ∷ []; natural = record { behind = behind; lines_are = are; event = refl; shortest = one_is_shortest line }; ends = refl }

has_fate : (line : Line) (behind : List Line) (text : List ℕ) → lines_from lines life line.span.start ≡ line ∷ behind →
    fate_of plain a_log line.span.start (message_of plain.events (line ∷ [])) 0 ≡ ShippedAs text → HasFate plain life (event_of line text)
has_fate line behind text are is = record { row = line ∷ []; behind = behind; lines = are; ends = refl; is = sym is }

-- neither is flushed, so no licence is wanted
pub two_plain_lines : AreTold plain [] life 0 both_events
two_plain_lines = record {
  partition = (refl, inl (natural first_line (second_line ∷ []) refl), (refl, inl (natural second_line [] refl), tt));
  fates = (
    has_fate first_line (second_line ∷ []) (payload (codes "0") (codes "a")) refl first_fate,
    (has_fate second_line [] (payload (codes "2") (codes "b")) refl second_fate, tt),
  );
}

-- ---- dropped by each kind of rule

abbrev excluding_all : Rules
excluding_all = record plain { exclude = codes "^" ∷ [] }

message_without_a_byte : fate_of excluding_all a_log 0 [] 0 ≡ DroppedBy 0
unfolding fate_of verdict_of
message_without_a_byte = refl

-- the tag comes from the processor before it, so the second one, whose number is 1, drops the event
abbrev tag_and_drop : List ProcessorRule
tag_and_drop = AddTags (codes "x" ∷ []) (codes "tags") None ∷ DropEvent (HasFields (codes "tags" ∷ [])) ∷ []

dropped_by_the_second_processor : fate_of (rules_with (Single 10485760) tag_and_drop) a_log 0 (codes "a") 0 ≡ DroppedBy 11
unfolding fate_of verdict_of holds after_one text_of moment_text date_of digits
dropped_by_the_second_processor = refl

other_message_is_left : fate_of (rules_with (Single 10485760) (DropEvent (Equals ((codes "message", str (codes "b")) ∷ [])) ∷ [])) a_log 0 (codes "a") 0
    ≡ ShippedAs (payload (codes "0") (codes "a"))
unfolding fate_of verdict_of holds after_one payload_of_value date_of moment_text text_of escape digits
other_message_is_left = refl

-- ---- a flushed event: three lines are one event, two are there, and the timeout of 5,000 ms has passed

abbrev three_lines : GroupRule
three_lines = Count 3 500 5000 false 10485760

abbrev read_looks : List Look
read_looks =
    record { question = Length; sight = record { life = 0; length = 4 } }
    ∷ record { question = ReadAt 0 4; sight = record { life = 0; length = 4 } }
    ∷ []

abbrev segment : Segment
segment = record { place = 0; fall = None; looks = read_looks }

abbrev both_lines : List Line
both_lines = first_line ∷ second_line ∷ []

two_are_not_three : (front left : List Line) → both_lines ≡ front ++ left → left ≢ [] → IsNatural three_lines (lines_from lines life 0) front → ⊥
two_are_not_three front left same some is =
    let three : length front ≡ 3 = is.event in
    absurd (omega (arith, three, length-append front left, ap (λ (l : List Line). length l) same))

waits : IsFlushedEvent lines three_lines life 0 4
waits = record { row = both_lines; open_row = record { behind = []; lines_are = refl; some = λ e. cc; none_earlier = two_are_not_three }; ends = refl }

licensed_at_four : EndsWhatWasRead lines life 0 segment 4
licensed_at_four = record { place = 4; had_read = record { front = read_looks; behind = []; looks_are = refl; stands_there = refl }; last = refl }

waited : LieApart (0 ∷ 4999 ∷ 5000 ∷ []) 5000
waited = record { before = []; earlier = 0; between = 4999 ∷ []; later = 5000; behind = []; are = refl; apart = lit≤ tt }

-- a millisecond less is too short
abbrev head_or : ℕ → List ℕ → ℕ
head_or fallback [] = fallback
head_or fallback (n ∷ ns) = n

abbrev tail_of : List ℕ → List ℕ
tail_of [] = []
tail_of (n ∷ ns) = ns

too_short : (before between behind : List ℕ) (earlier later : ℕ) → 0 ∷ 4999 ∷ [] ≡ before ++ earlier ∷ (between ++ later ∷ behind) → earlier + 5000 ≤ later → ⊥
too_short [] [] behind earlier later are apart =
    let second : 4999 ≡ later = ap (λ (l : List ℕ). head_or 0 (tail_of l)) are in
    absurd (omega (arith, second, apart))
too_short [] (n ∷ between) behind earlier later are apart =
    absurd (omega (arith, ap (λ (l : List ℕ). length l) are, length-append between (later ∷ behind)))
too_short (n ∷ before) between behind earlier later are apart =
    absurd (omega (arith, ap (λ (l : List ℕ). length l) are, length-append before (earlier ∷ (between ++ later ∷ behind)), length-append between (later ∷ behind)))

not_yet : LieApart (0 ∷ 4999 ∷ []) 5000 → ⊥
not_yet apart = too_short apart.before apart.between apart.behind apart.earlier apart.later apart.are apart.apart

-- nothing licenses a flush after the first of the two lines: after no look was the first line the last that was there
abbrev ends_at : ℕ → ℕ
ends_at place = whole_lines_end lines life 0 place

not_behind : (place : ℕ) (front behind : List Look) → read_looks ≡ front ++ behind → read_to (with_looks segment front) ≡ place → ends_at place ≡ 2 → ⊥
not_behind place [] behind are stands last =
    let nothing : 0 ≡ 2 = ap ends_at stands ∙ last in
    absurd (omega (arith, nothing))
not_behind place (one ∷ []) behind are stands last =
    let first : record { question = Length; sight = record { life = 0; length = 4 } } ≡ one = cc in
    let nothing : 0 ≡ 2 = ap (λ (l : Look). ends_at (read_to (with_looks segment (l ∷ [])))) first ∙ ap ends_at stands ∙ last in
    absurd (omega (arith, nothing))
not_behind place (one ∷ two ∷ []) behind are stands last =
    let first : record { question = Length; sight = record { life = 0; length = 4 } } ≡ one = cc in
    let second : record { question = ReadAt 0 4; sight = record { life = 0; length = 4 } } ≡ two = cc in
    let both : 4 ≡ 2 = ap (λ (l : Look). ends_at (read_to (with_looks segment (l ∷ record { question = ReadAt 0 4; sight = record { life = 0; length = 4 } } ∷ [])))) first
    ∙ ap (λ (l : Look). ends_at (read_to (with_looks segment (one ∷ l ∷ [])))) second ∙ ap ends_at stands ∙ last in
    absurd (omega (arith, both))
not_behind place (one ∷ two ∷ three ∷ front) behind are stands last =
    absurd (omega (arith, ap (λ (l : List Look). length l) are, length-append front behind))

no_licence_at_two : EndsWhatWasRead lines life 0 segment 2 → ⊥
no_licence_at_two ends = not_behind ends.place ends.had_read.front ends.had_read.behind ends.had_read.looks_are ends.had_read.stands_there ends.last

-- ---- the last complete line before a place

no_line_yet : whole_lines_end lines life 0 1 ≡ 0
no_line_yet = refl

first_line_alone : whole_lines_end lines life 0 3 ≡ 2
first_line_alone = refl

from_a_later_start : whole_lines_end lines life 2 4 ≡ 4
from_a_later_start = refl
