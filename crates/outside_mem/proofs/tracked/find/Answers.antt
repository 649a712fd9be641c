use Rattle.std.proofs.Common.{◌<◌, Some, length, ap, sym, ◌∙◌, arith, rules}
use Rattle.std.proofs.lemmas.Option.{slice_get-get_or}
use Rattle.outside_mem.proofs.tracked.find.Goals as goal

pub returns-then-is_found-clause-found : goal.returns-then-is_found-clause-found
returns-then-is_found-clause-found c =
    let within : c.loop-number.number < length c.args.files.now = omega arith in
    record {
      tracked = c.index-files-number.result;
      there = slice_get-get_or c.args.files.now c.loop-number.number c.index-files-number.result within ∙ ap Some (sym c.index-files-number.is);
      known = within;
      named = search rules;
    }
