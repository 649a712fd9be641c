use Rattle.std.proofs.Common.{refl}
use Rattle.clap.specs.Matches.{found_of}
use Rattle.command_line.proofs.Rows.{source_test}
use Rattle.command_line.proofs.read.is_in_words.Goals as goal

pub returns : goal.returns
returns c = source_test (found_of c.args.matches.now) c.args.id.now c.value_source.result c.eq.result _ refl refl c.value_source.ensures c.eq.ensures
