-- Lanes may go to another thread: what they hold is shared with none, down to compiled patterns and processors.
use denote.Enum.Declared as E
use denote.Param.Send.{IsSend, sendable, view_send}
use denote.Param.SendFields.{declared_send, variants_send}
use denote.RattleType.{RattleType}
use Rattle.std.proofs.Crossing.{crosses}
use Rattle.std.proofs.MapsCrossing.{BTreeMap-send}
use Rattle.regex_dfa.proofs.dfa.Dfa.TheSendSync as dfa
use Rattle.regex_dfa.proofs.forward.Forward.TheSendSync as forward
use Rattle.regex_extract.proofs.frames.Frame.TheSendSync as frame
use Rattle.regex_hir.proofs.hir.Hir.TheLaws.TheKnot as hir
use Rattle.regex_hir.specs.contracts.hir.Hir as Hir
use Rattle.regex_literal.proofs.byte_set.ByteSet.TheSendSync as byte_set
use Rattle.regex_literal.proofs.caseless.Caseless.TheSendSync as caseless
use Rattle.regex_literal.proofs.prefilter.Prefilter.TheSendSync as prefilter
use Rattle.regex_meta.specs.contracts.plan.Plan as Plan
use Rattle.regex_meta.specs.contracts.plan.Plans as Plans
use Rattle.regex_meta.specs.contracts.program.Program as Program
use Rattle.regex_meta.specs.contracts.signs.Signs as Signs
use Rattle.wire_base.proofs.text.Text.TheSendSync as text
use Rattle.patterns.specs.contracts.line_pattern.LinePattern as LinePattern
use Rattle.patterns.specs.contracts.line_pattern.LinePattern.TheInside as line
use Rattle.patterns.specs.contracts.matcher.Matcher as Matcher
use Rattle.patterns.specs.contracts.text_pattern.TextPattern as TextPattern
use Rattle.patterns.specs.contracts.text_pattern.TextPattern.TheInside as words
use Rattle.conditions.proofs.field_test.FieldTest.TheSendSync as field_test
use Rattle.conditions.proofs.node.Node.TheLaws.TheKnot as node
use Rattle.conditions.specs.contracts.compiled.Compiled as Compiled
use Rattle.conditions.specs.contracts.compiled.Compiled.TheInside as compiled
use Rattle.conditions.specs.contracts.compiled.Patterns as Patterns
use Rattle.conditions.specs.contracts.condition.Condition as Condition
use Rattle.conditions.specs.contracts.node.Node as Node
use Rattle.event_json.proofs.moment.Stamp.TheSendSync as stamp
use Rattle.event_tree.proofs.fields.Fields.TheLaws.TheKnot as fields_knot
use Rattle.event_tree.specs.contracts.fields.Fields as Fields
use Rattle.event_tree.proofs.input_rule.IdentityRule.TheSendSync as identity_rule
use Rattle.event_tree.proofs.line_rule.LineRule.TheSendSync as line_rule
use Rattle.line_cutter.proofs.cutter.Cutter.TheSendSync as cutter
use Rattle.line_cutter.proofs.line.Line.TheSendSync as cut_line
use Rattle.line_filter.specs.contracts.filter.Filter as Filter
use Rattle.line_filter.specs.contracts.filter.Filter.TheInside as filter
use Rattle.multiline_core.proofs.group.Group.TheSendSync as group
use Rattle.multiline_core.proofs.kind.Limits.TheSendSync as limits
use Rattle.multiline_core.proofs.pending.Pending.TheSendSync as pending
use Rattle.multiline_core.specs.contracts.grouper.Grouper as Grouper
use Rattle.multiline_core.specs.contracts.grouper.Grouper.TheInside as grouper
use Rattle.multiline_core.specs.contracts.kind.Kind as Kind
use Rattle.processors_core.proofs.add_fields.Target.TheSendSync as target
use Rattle.processors_core.proofs.add_tags.TagAdds.TheSendSync as tag_adds
use Rattle.processors_core.proofs.drop_fields.FieldDrops.TheSendSync as field_drops
use Rattle.processors_core.proofs.rename.Renames.TheSendSync as renames
use Rattle.processors_core.specs.contracts.add_fields.FieldAdds as FieldAdds
use Rattle.processors_core.specs.contracts.chain.Chain as Chain
use Rattle.processors_core.specs.contracts.processor.Action as Action
use Rattle.processors_core.specs.contracts.processor.Processor as Processor
use Rattle.wire_base.proofs.note.Begin.TheSendSync as begin
use Rattle.wire_base.proofs.numbers.RuleNo.TheSendSync as rule_number
use Rattle.wire_base.proofs.numbers.Moment.TheSendSync as moment
use Rattle.wire_base.proofs.numbers.Epoch.TheSendSync as epoch
use Rattle.harvester.proofs.buffer.Buffer.TheSendSync as buffer
use Rattle.harvester.proofs.stage.Stage.TheSendSync as stage
use Rattle.harvester.specs.contracts.events.Events as Events
use Rattle.harvester.specs.contracts.fate_rules.FateRules as FateRules
use Rattle.harvester.specs.contracts.harvester.Harvester as Harvester
use Rattle.harvester.specs.contracts.reader.Reader as Reader
use Rattle.harvester.specs.contracts.reader.Reader.TheInside as reader
use Rattle.mem_queue.proofs.pass.PutPass.TheSendSync as put_pass
use Rattle.settle_box.proofs.pass.PostPass.TheSendSync as post_pass
use Rattle.lanes.proofs.given.Given.TheSendSync as given
use Rattle.lanes.proofs.tally.Tally.TheSendSync as tally
use Rattle.lanes.specs.contracts.lane.Lane as Lane
use Rattle.lanes.specs.contracts.seat.Seat as Seat

hir_send : IsSend Hir.the_row
hir_send = search (sendable, crosses, hir.crosses) depth 30 fits 10000

plan_send : IsSend Plan.the_row
plan_send = search (sendable, crosses, prefilter.the_send, frame.the_send, hir_send) depth 60 fits 10000

plans_send : IsSend Plans.the_row
plans_send = search (sendable, crosses, plan_send) depth 60 fits 10000

signs_send : IsSend Signs.the_row
signs_send = search (sendable, crosses, caseless.the_send, hir_send) depth 60 fits 10000

program_send : IsSend Program.the_row
program_send = declared_send Program.the_type (
  hir_send,
  (dfa.the_send, (plans_send, (search (sendable, crosses, signs_send) depth 20, (search (sendable, byte_set.the_send) depth 20, (search sendable depth 20, (search sendable depth 20, (search sendable depth 20, tt))))))),
)

matcher_send : IsSend Matcher.the_row
matcher_send = declared_send Matcher.the_type (program_send, (forward.the_send, tt))

line_pattern_send : IsSend LinePattern.the_row
line_pattern_send = view_send line.the_row _ _ _ _ (declared_send line.the_type (text.the_send, (matcher_send, tt)))

text_pattern_send : IsSend TextPattern.the_row
text_pattern_send = view_send words.the_row _ _ _ _ (declared_send words.the_type (text.the_send, (matcher_send, tt)))

node_send : IsSend Node.the_row
node_send = search (sendable, crosses, node.crosses, field_test.the_send) depth 30 fits 10000

compiled_send : IsSend Compiled.the_row
compiled_send = view_send compiled.the_row _ _ _ _ (declared_send compiled.the_type (text.the_send, (text_pattern_send, tt)))

patterns_send : IsSend Patterns.the_row
patterns_send = search (sendable, crosses, compiled_send) depth 30 fits 10000

pub condition_send : IsSend Condition.the_row
condition_send = declared_send Condition.the_type (node_send, (patterns_send, tt))

-- ---- filters and groupers

filter_send : IsSend Filter.the_row
filter_send = view_send filter.the_row _ _ _ _ (declared_send filter.the_type (search (sendable, crosses, line_pattern_send) depth 20, (search (sendable, crosses, line_pattern_send) depth 20, tt)))

kind_send : IsSend Kind.the_row
kind_send = search (sendable, crosses, line_pattern_send) depth 30 fits 10000

grouper_send : IsSend Grouper.the_row
grouper_send = view_send grouper.the_row _ _ _ _ (declared_send grouper.the_type (kind_send, (limits.the_send, (search (sendable, crosses, pending.the_send) depth 20, tt))))

-- ---- processors

fields_send : IsSend Fields.the_row
fields_send = search (sendable, crosses, fields_knot.crosses) depth 30 fits 10000

field_adds_send : IsSend FieldAdds.the_row
field_adds_send = declared_send FieldAdds.the_type (fields_send, (target.the_send, tt))

abbrev action_record : E.Record
action_record = record {
  name = Action.the_type.name;
  args = Action.the_type.args;
  types = Action.the_type.types;
  parts = Action.the_parts;
  D = Action.the_type.D;
  as_values = Action.as_values;
  make = Action.the_make;
  eta = Action.the_eta;
  beta = Action.the_beta;
}

action_send : IsSend Action.the_row
action_send = variants_send action_record ((rule_number.the_send, tt), ((field_drops.the_send, tt), ((field_adds_send, tt), ((tag_adds.the_send, tt), ((renames.the_send, tt), tt)))))

processor_send : IsSend Processor.the_row
processor_send = declared_send Processor.the_type (search (sendable, crosses, condition_send) depth 20, (action_send, tt))

chain_send : IsSend Chain.the_row
chain_send = declared_send Chain.the_type (search (sendable, crosses, processor_send) depth 20, tt)

-- ---- harvesters

events_send : IsSend Events.the_row
events_send = declared_send Events.the_type (line_rule.the_send, (cutter.the_send, (grouper_send, (search (sendable, crosses, cut_line.the_send) depth 20, (search (sendable, crosses, group.the_send) depth 20, (moment.the_send, tt))))))

pub reader_send : IsSend Reader.the_row
reader_send = view_send reader.the_row _ _ _ _ (declared_send reader.the_type (begin.the_send, (text.the_send, (identity_rule.the_send, (search (sendable, crosses, text.the_send) depth 20, (epoch.the_send, (search sendable depth 20, (events_send, (search sendable depth 20, (buffer.the_send, (search sendable depth 20, (moment.the_send, (stage.the_send, (search sendable depth 20, (search sendable depth 20, tt)))))))))))))))

pub fate_rules_send : IsSend FateRules.the_row
fate_rules_send = declared_send FateRules.the_type (filter_send, (search (sendable, crosses, chain_send) depth 20, (stamp.the_send, tt)))

pub harvester_send : (T : RattleType) → IsSend T → IsSend (Harvester.the_row T)
harvester_send T s = declared_send (Harvester.the_type T) (search sendable depth 20, (reader_send, (fate_rules_send, (search sendable depth 20, tt))))

-- ---- lanes

seat_send : (T : RattleType) → IsSend T → IsSend (Seat.the_row T)
seat_send T s = declared_send (Seat.the_type T) (harvester_send T s, (search sendable depth 20, tt))

pub lane_send : (T : RattleType) → IsSend T → IsSend (Lane.the_row T)
lane_send T s = declared_send (Lane.the_type T) (search (sendable, crosses, put_pass.the_send) depth 20, (search (sendable, crosses, post_pass.the_send) depth 20, (search (sendable, crosses, seat_send T s) depth 20, (given.the_send, (search sendable depth 20, (tally.the_send, (search sendable depth 20, (search (sendable, BTreeMap-send) depth 20, tt))))))))
