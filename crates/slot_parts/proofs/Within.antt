-- Reported events lie within the bytes of which they are reported, and where no complete line is left, they end at the last one.
use Rattle.std.proofs.Common.{◌≡◌, ◌≢◌, ◌⊎◌, inl, inr, ℕ, zero, suc, ◌+◌, ◌-◌, ◌≤◌, List, [], ◌∷◌, ◌++◌, Contains, length, take, drop, replicate, refl, sym, ap, subst, ◌∙◌, append-nil, arith, length-append}
use Rattle.std.specs.List.{AllByRecursion}
use Rattle.std.proofs.Math.Seq.{take-append_seam}
use Rattle.std.proofs.lemmas.List.{drop-drop, drop-take, length-drop, length-replicate}
use Rattle.event_tree.specs.declared.group_rule.GroupRule.{GroupRule}
use Rattle.event_tree.specs.declared.line_rule.LineRule.{LineRule}
use Rattle.harvester.specs.History.{HasBytes, History, IsTelling, Telling, left_to_tell, read_to, rules_in, told_to}
use Rattle.line_cutter.specs.Lines.{complete_lines}
use Rattle.line_cutter.specs.declared.line.Line.{Line}
use Rattle.multiline_core.specs.Event.{IsEvent}
use Rattle.multiline_core.specs.Message.{row_end}
use Rattle.multiline_core.specs.Partition.{IsFlushedEvent, IsNaturalEvent, IsPartition, lines_from}
use Rattle.multiline_core.specs.Rule.{IsGroupRule}
use Rattle.ship_core.specs.CoveredEnd.{last_end}
use Rattle.told_events.specs.Licence.{whole_lines_end}
use Rattle.told_events.specs.Rules.{Rules}
use Rattle.told_events.specs.Told.{AreTold, ToldEvent, spans_of}
use Rattle.wire_base.specs.Extent.{Extent}
use Rattle.slot_parts.proofs.Cuts.{behind_row, row_end_both, row_ends_behind, row_ends_within}
use Rattle.slot_parts.proofs.Singles.{no_event_of_none}

-- ---- an event's lines

pub record HasRow (lines : LineRule) (life : List ℕ) (start end : ℕ) : Type 0 where
  pub row : List Line
  pub behind : List Line
  pub are : lines_from lines life start ≡ row ++ behind
  pub ends : row_end start row ≡ end

module _ (lines : LineRule) (life : List ℕ) where
  pub row_from : (start end : ℕ) → HasRow lines life start end → start ≤ end
  row_from start end r = let from = row_ends_behind lines start (drop start life) r.row r.behind r.are in omega (arith, from, r.ends)

  row_within : (start end : ℕ) → HasRow lines life start end → start ≤ length life → end ≤ length life
  row_within start end r within =
      let to = row_ends_within lines start (drop start life) r.row r.behind r.are in omega (arith, to, r.ends, length-drop start life, within)

  pub lines_behind : (start end : ℕ) (r : HasRow lines life start end) → lines_from lines life end ≡ r.behind
  lines_behind start end r =
      let to = row_end start r.row in
      let n : start + (row_end start r.row - start) ≡ row_end start r.row = let from = row_ends_behind lines start (drop start life) r.row r.behind r.are in omega (arith, from) in
      ap (λ (place : ℕ). lines_from lines life place) (sym r.ends)
      ∙ ap (complete_lines lines to) (sym (drop-drop (to - start) start life ∙ ap (λ (m : ℕ). drop m life) n))
      ∙ behind_row lines r.row start (drop start life) r.behind r.are

  module _ (rule : GroupRule) (licensed : ℕ → Type 0) where
    pub row_of : (start end : ℕ) → IsNaturalEvent lines rule life start end ⊎ (IsFlushedEvent lines rule life start end × licensed end) → HasRow lines life start end
    row_of start end (inl natural) =
        record { row = natural.row; behind = natural.natural.behind; are = natural.natural.lines_are; ends = natural.ends }
    row_of start end (inr flushed) =
        record { row = flushed.0.row; behind = flushed.0.open_row.behind; are = flushed.0.open_row.lines_are; ends = flushed.0.ends }

    -- ---- all events

    -- each ends at or after this place, and within the bytes
    abbrev Within : ℕ → Extent → Type 0
    Within base span = (base ≤ span.end) × (span.end ≤ length life)

    spans_within : (base start : ℕ) (spans : List Extent) → base ≤ start → start ≤ length life → IsPartition lines rule licensed life start spans → AllByRecursion (Within base) spans
    spans_within base start [] from within are = tt
    spans_within base start (span ∷ spans) from within are =
        let r = row_of start span.end are.1 in
        let later = row_from start span.end r in
        let to = row_within start span.end r within in
        ((omega (arith, from, later), to), spans_within base span.end spans (omega (arith, from, later)) to are.2)

    pub end_from : (start : ℕ) (spans : List Extent) → IsPartition lines rule licensed life start spans → start ≤ last_end start spans
    end_from start [] are = omega arith
    end_from start (span ∷ spans) are =
        let later = row_from start span.end (row_of start span.end are.1) in
        let end = end_from span.end spans are.2 in
        omega (arith, later, end)

    -- the last line after the start is the last one after the events
    same_last_line : (start : ℕ) (spans : List Extent) → IsPartition lines rule licensed life start spans →
        row_end start (lines_from lines life start) ≡ row_end (last_end start spans) (lines_from lines life (last_end start spans))
    same_last_line start [] are = refl
    same_last_line start (span ∷ spans) are =
        let r = row_of start span.end are.1 in
        ap (row_end start) r.are
        ∙ row_end_both start r.row r.behind
        ∙ ap (λ (n : ℕ). row_end n r.behind) r.ends
        ∙ ap (row_end span.end) (sym (lines_behind start span.end r))
        ∙ same_last_line span.end spans are.2

events_within : (base most : ℕ) (told : List ToldEvent) → AllByRecursion (λ (span : Extent). (base ≤ span.end) × (span.end ≤ most)) (spans_of told) →
    AllByRecursion (λ (one : ToldEvent). (base ≤ one.span.end) × (one.span.end ≤ most)) told
events_within base most [] all = tt
events_within base most (one ∷ told) all = (all.0, events_within base most told all.1)

-- of a life
pub told_within : (rules : Rules) (licences life : List ℕ) (start : ℕ) (told : List ToldEvent) → start ≤ length life → AreTold rules licences life start told →
    AllByRecursion (λ (one : ToldEvent). (start ≤ one.span.end) × (one.span.end ≤ length life)) told
told_within rules licences life start told within are =
    events_within start (length life) told (spans_within rules.lines life rules.events (λ place. Contains licences place) start start (spans_of told) (omega arith) within are.partition)

-- ---- of what was read

zeros_before : (n : ℕ) (xs : List ℕ) → drop n (replicate n 0 ++ xs) ≡ xs
zeros_before zero xs = refl
zeros_before (suc n) xs = zeros_before n xs

-- the shortest life that has the bytes
abbrev pub shortest : Telling → List ℕ
shortest telling = replicate telling.start 0 ++ telling.bytes

shortest_length : (telling : Telling) → length (shortest telling) ≡ read_to telling
shortest_length telling =
    let both = length-append (replicate telling.start 0) telling.bytes in let zeros = length-replicate {A = ℕ} telling.start 0 in omega (arith, both, zeros)

pub shortest_has : (telling : Telling) → HasBytes telling.start telling.bytes (shortest telling)
shortest_has telling = record {
  within = let long = shortest_length telling in omega (arith, long);
  more = [];
  behind = zeros_before telling.start telling.bytes ∙ sym (append-nil telling.bytes);
}

pub told_within_read : (rules : Rules) (telling : Telling) → IsTelling rules telling →
    AllByRecursion (λ (one : ToldEvent). (telling.start ≤ one.span.end) × (one.span.end ≤ read_to telling)) telling.told
told_within_read rules telling tells =
    subst (λ (n : ℕ). AllByRecursion (λ (one : ToldEvent). (telling.start ≤ one.span.end) × (one.span.end ≤ n)) telling.told) (shortest_length telling)
    (told_within rules telling.licences (shortest telling) telling.start telling.told (shortest_has telling).within (tells (shortest telling) (shortest_has telling)))

-- if no complete line is left, the events end at the last one of what was read
pub ends_at_last_line : (h : History) (life : List ℕ) → IsTelling (rules_in h) h.present → left_to_tell h ≡ [] →
    HasBytes h.present.start h.present.bytes life → whole_lines_end h.rule.lines life h.present.start (read_to h.present) ≡ told_to h.present
ends_at_last_line h life tells none has =
    let lines = h.rule.lines in
    let start = h.present.start in
    let bytes = h.present.bytes in
    let short = shortest h.present in
    let end = told_to h.present in
    let told = tells short (shortest_has h.present) in
    let front : drop start (take (start + length bytes) life) ≡ bytes =
    drop-take start (length bytes) life ∙ ap (λ (l : List ℕ). take (length bytes) l) has.behind ∙ take-append_seam bytes has.more in
    let from = end_from lines short h.rule.multiline (λ place. Contains h.present.licences place) start (spans_of h.present.told) told.partition in
    let n : start + (end - start) ≡ end = omega (arith, from) in
    let behind : drop end short ≡ drop (end - start) bytes =
    ap (λ (m : ℕ). drop m short) (sym n) ∙ sym (drop-drop (end - start) start short) ∙ ap (drop (end - start)) (zeros_before start bytes) in
    ap (λ (l : List ℕ). row_end start (complete_lines lines start l)) (front ∙ sym (zeros_before start bytes))
    ∙ same_last_line lines short h.rule.multiline (λ place. Contains h.present.licences place) start (spans_of h.present.told) told.partition
    ∙ ap (λ (l : List ℕ). row_end end (complete_lines lines end l)) behind
    ∙ ap (row_end end) none

-- ---- where nothing was read, nothing was reported

some_row : (rule : GroupRule) (lines : LineRule) (licensed : ℕ → Type 0) (life : List ℕ) (start end : ℕ) → IsGroupRule rule → drop start life ≡ [] →
    IsNaturalEvent lines rule life start end ⊎ (IsFlushedEvent lines rule life start end × licensed end) → ⊥
some_row rule lines licensed life start end in_range none (inl event) = by_case event.row event.natural.event (sym event.natural.lines_are ∙ ap (complete_lines lines start) none)
  where
    by_case : (row : List Line) → IsEvent rule row event.natural.behind → row ++ event.natural.behind ≡ [] → ⊥
    by_case [] is none = no_event_of_none rule event.natural.behind in_range is
    by_case (first ∷ row) is none = cc
some_row rule lines licensed life start end in_range none (inr flushed) =
    by_case flushed.0.row flushed.0.open_row.some (sym flushed.0.open_row.lines_are ∙ ap (complete_lines lines start) none)
  where
    by_case : (row : List Line) → row ≢ [] → row ++ flushed.0.open_row.behind ≡ [] → ⊥
    by_case [] some none = some refl
    by_case (first ∷ row) some none = cc

pub none_of_nothing : (rules : Rules) (telling : Telling) → IsGroupRule rules.events → telling.bytes ≡ [] → IsTelling rules telling → telling.told ≡ []
none_of_nothing rules telling in_range none tells =
    by_case telling.told (tells (shortest telling) (shortest_has telling)).partition
  where
    by_case : (told : List ToldEvent) →
        IsPartition rules.lines rules.events (λ place. Contains telling.licences place) (shortest telling) telling.start (spans_of told) → told ≡ []
    by_case [] are = refl
    by_case (one ∷ told) are =
        absurd (some_row rules.events rules.lines (λ place. Contains telling.licences place) (shortest telling) telling.start one.span.end in_range (zeros_before telling.start telling.bytes ∙ none) are.1)
