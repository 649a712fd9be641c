use Rattle.std.proofs.Common.{◌≡◌, true}
use Rattle.multiline_core.proofs.Lines.{partition, message_is_head, first_is_event}
use Rattle.multiline_core.proofs.laws.each_line_is_an_event.Goals as goal

pub returns-clause-partition : goal.returns-clause-partition
returns-clause-partition c = λ lines most licensed bytes start.
    partition lines most bytes c.later_lines.ensures c.lines_adjoin.ensures (λ place. licensed place ≡ true) start

pub returns-clause-message : goal.returns-clause-message
returns-clause-message c = λ most line short. message_is_head most line short

pub returns-clause-natural : goal.returns-clause-natural
returns-clause-natural c = λ lines most bytes start line more e. first_is_event lines most bytes start line more e
