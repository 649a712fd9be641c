use Rattle.std.proofs.Common.{[]}
use Rattle.container_lines.specs.Joined.{joined_behind}
use Rattle.container_lines.proofs.Texts.{joined_behind-append}
use Rattle.container_lines.proofs.laws.joined_lines_stay.Goals as goal

pub returns : goal.returns
returns c = λ format keep lines more. (joined_behind format keep lines more, joined_behind-append format keep [] lines more)
