use Rattle.std.proofs.Common.{None, sym, lit<}
use Rattle.std.proofs.lemmas.Str.Pattern.{strip_prefix_char}
use Rattle.glob_paths.proofs.Rooting.{not_absolute}
use Rattle.glob_paths.proofs.fault.faultless_parts.Goals as goal

pub returns-in_default-clause-first_fault : goal.returns-in_default-clause-first_fault
returns-in_default-clause-first_fault c =
    not_absolute c.args.text.now (sym c.if-is_empty.ensures) (strip_prefix_char 47 c.args.text.now None c.in_default.ensures.cases (lit< tt))
