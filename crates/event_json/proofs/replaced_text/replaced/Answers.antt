use Rattle.std.proofs.Common.{◌∙◌}
use Rattle.event_json.proofs.ReplacedTexts.{lossy_same}
use Rattle.event_json.proofs.replaced_text.replaced.Goals as goal

pub returns : goal.returns
returns c = c.in_ok-from_utf8_lossy.ensures.lossy ∙ lossy_same c.args.bytes.now
