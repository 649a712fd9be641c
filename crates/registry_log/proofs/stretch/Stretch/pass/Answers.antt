use Rattle.std.proofs.Common.{sym}
use Rattle.std.proofs.lemmas.List.{drop-drop}
use Rattle.registry_log.proofs.stretch.Stretch.pass.Goals as goal

pub returns-clause-passed : goal.returns-clause-passed
returns-clause-passed c = sym (drop-drop c.args.count c.args.self.now.passed c.args.self.now.bytes.items)
