use Rattle.std.proofs.Common.{◌∙◌}
use Rattle.event_tree.specs.Tree.{value_of}
use Rattle.event_json.proofs.PayloadTexts.{payload_written}
use Rattle.event_json.proofs.json_text.payload.Goals as goal

pub returns-in-Ok : goal.returns-in-Ok
returns-in-Ok c = record { of_tree = c.bounded.ensures ∙ payload_written (value_of c.args.tree.now) c.in-Ok.text.items c.in-Ok.ensures.events }
