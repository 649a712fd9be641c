use Rattle.std.proofs.Common.{◌-◌, ◌++◌, length, take, ap, ◌∙◌}
use Rattle.multiline_core.specs.Message.{separator}
use Rattle.multiline_core.proofs.Joining.{joined_behind}
use Rattle.multiline_core.proofs.pending.extend_message.Goals as goal

pub returns-in-Ok-clause-longer : goal.returns-in-Ok-clause-longer
returns-in-Ok-clause-longer c =
    c.in-Ok.ensures.longer
    ∙ joined_behind c.args.most c.args.message.now.items (separator c.args.skip_newline) c.args.head.now c.requires c.extend_to.new.message.items
    (c.in_ok-extend_to.ensures.longer
    ∙ ap (λ s. c.args.message.now.items ++ take (c.args.most - length c.args.message.now.items) s) c.separator.ensures)
