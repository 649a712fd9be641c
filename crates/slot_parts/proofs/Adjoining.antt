-- Reported events adjoin: each of them has a byte.
use Rattle.std.proofs.Common.{◌≡◌, ◌≢◌, ◌⊎◌, inl, inr, ℕ, ◌<◌, List, [], ◌∷◌, ◌++◌, Contains, drop, refl, subst, arith}
use Rattle.event_tree.specs.declared.group_rule.GroupRule.{GroupRule}
use Rattle.event_tree.specs.declared.line_rule.LineRule.{LineRule}
use Rattle.harvester.specs.History.{IsTelling, Telling}
use Rattle.line_cutter.specs.declared.line.Line.{Line}
use Rattle.multiline_core.specs.Event.{IsEvent}
use Rattle.multiline_core.specs.Message.{row_end}
use Rattle.multiline_core.specs.Partition.{IsFlushedEvent, IsNaturalEvent, IsPartition, lines_from}
use Rattle.multiline_core.specs.Rule.{IsGroupRule}
use Rattle.ship_core.specs.CoveredEnd.{Adjoin}
use Rattle.told_events.specs.Rules.{Rules}
use Rattle.told_events.specs.Told.{AreTold, ToldEvent, spans_of}
use Rattle.wire_base.specs.Extent.{Extent}
use Rattle.slot_parts.proofs.Cuts.{row_has_bytes}
use Rattle.slot_parts.proofs.Singles.{no_event_of_none}
use Rattle.slot_parts.proofs.Within.{shortest, shortest_has}

pub none_told : (rules : Rules) (licences life : List ℕ) (place : ℕ) → AreTold rules licences life place []
none_told rules licences life place = record { partition = tt; fates = tt }

-- the row is some lines, and the event ends after its start
ends_later : (lines : LineRule) (life : List ℕ) (start end : ℕ) (row behind : List Line) → row ≢ [] → lines_from lines life start ≡ row ++ behind → row_end start row ≡ end → start < end
ends_later lines life start end [] behind some are ends = absurd (some refl)
ends_later lines life start end (first ∷ row) behind some are ends =
    let later = row_has_bytes lines start (drop start life) first row behind are in omega (arith, later, ends)

natural_some : (rule : GroupRule) (row behind : List Line) → IsGroupRule rule → IsEvent rule row behind → row ≢ []
natural_some rule row behind in_range event none = no_event_of_none rule behind in_range (subst (λ (l : List Line). IsEvent rule l behind) none event)

event_ends_later : (lines : LineRule) (rule : GroupRule) (licensed : ℕ → Type 0) (life : List ℕ) (start end : ℕ) → IsGroupRule rule →
    IsNaturalEvent lines rule life start end ⊎ (IsFlushedEvent lines rule life start end × licensed end) → start < end
event_ends_later lines rule licensed life start end in_range (inl event) =
    ends_later lines life start end event.row event.natural.behind (natural_some rule event.row event.natural.behind in_range event.natural.event) event.natural.lines_are event.ends
event_ends_later lines rule licensed life start end in_range (inr flushed) =
    ends_later lines life start end flushed.0.row flushed.0.open_row.behind flushed.0.open_row.some flushed.0.open_row.lines_are flushed.0.ends

spans_adjoin : (lines : LineRule) (rule : GroupRule) (licensed : ℕ → Type 0) (life : List ℕ) (start : ℕ) (spans : List Extent) → IsGroupRule rule →
    IsPartition lines rule licensed life start spans → Adjoin start spans
spans_adjoin lines rule licensed life start [] in_range are = tt
spans_adjoin lines rule licensed life start (span ∷ spans) in_range are =
    (are.0, event_ends_later lines rule licensed life start span.end in_range are.1, spans_adjoin lines rule licensed life span.end spans in_range are.2)

pub events_adjoin : (rules : Rules) (licences life : List ℕ) (start : ℕ) (told : List ToldEvent) → IsGroupRule rules.events → AreTold rules licences life start told →
    Adjoin start (spans_of told)
events_adjoin rules licences life start told in_range are =
    spans_adjoin rules.lines rules.events (λ place. Contains licences place) life start (spans_of told) in_range are.partition

-- the spans that are reported of an epoch adjoin
pub told_spans_adjoin : (rules : Rules) (telling : Telling) → IsGroupRule rules.events → IsTelling rules telling → Adjoin telling.start (spans_of telling.told)
told_spans_adjoin rules telling in_range tells =
    events_adjoin rules telling.licences (shortest telling) telling.start telling.told in_range (tells (shortest telling) (shortest_has telling))
