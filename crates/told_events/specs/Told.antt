-- Reported events (Filebeat reference, filestream input and multiline messages; this project's profile): spans that adjoin
-- from a place of a life on, each an event by rule or flushed when it may be, and each with the fate that the rules give
-- it, by the path that was reported of it and the moment at which it was closed.
use Rattle.std.specs.Prelude.{◌≡◌, ℕ, List, ◌++◌, Contains, map}
use Rattle.std.specs.List.{AllByRecursion}
use Rattle.line_cutter.specs.declared.line.Line.{Line}
use Rattle.multiline_core.specs.Message.{message_of, row_end}
use Rattle.multiline_core.specs.Partition.{IsPartition, lines_from}
use Rattle.wire_base.specs.Extent.{Extent}
use Rattle.told_events.specs.Fate.{Fate, fate_of}
use Rattle.told_events.specs.Rules.{Rules}

pub record ToldEvent : Type 0 where
  pub span : Extent
  pub path : List ℕ
  -- when it was closed
  pub now : ℕ
  pub fate : Fate

abbrev pub spans_of : List ToldEvent → List Extent
spans_of told = map (λ one. one.span) told

-- the event of the lines in its span has this fate
pub record HasFate (rules : Rules) (life : List ℕ) (one : ToldEvent) : Type 0 where
  pub row : List Line
  pub behind : List Line
  pub lines : lines_from rules.lines life one.span.start ≡ row ++ behind
  pub ends : row_end one.span.start row ≡ one.span.end
  pub is : one.fate ≡ fate_of rules one.path one.span.start (message_of rules.events row) one.now

-- the events adjoin from the start on; if one is flushed, it ends at one of these places
pub record AreTold (rules : Rules) (licences : List ℕ) (life : List ℕ) (start : ℕ) (told : List ToldEvent) : Type 0 where
  pub partition : IsPartition rules.lines rules.events (λ place. Contains licences place) life start (spans_of told)
  pub fates : AllByRecursion (HasFate rules life) told
