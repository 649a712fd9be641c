use Rattle.std.proofs.Common.{inl, refl}
use Rattle.std.proofs.lemmas.Option.{IfSome_then}
use Rattle.std.proofs.lemmas.Result.{err_from_is_err_and}
use Rattle.findings.proofs.Ends.{too_many_shown}
use Rattle.findings.proofs.scan.marks_of.Goals as goal

pub returns-in-Ok-part_doubled-clause-marked : goal.returns-in-Ok-part_doubled-clause-marked
returns-in-Ok-part_doubled-clause-marked g c =
    IfSome_then (g.F.Folder.told c.args.folder.now) c.in-Ok.ensures.asked (λ told asks. inl (record {
      keyed = c.in-Ok.field-0;
      asks = asks;
      followed = c.in-Ok-part_doubled.field-0.files.items;
      parts = c.in-Ok-part_doubled.ensures.parted;
      small = refl;
      whole = refl;
    }))

pub returns-in_err-few_followed-in-Ok-part_doubled-clause-shows :
    goal.returns-in_err-few_followed-in-Ok-part_doubled-clause-shows
returns-in_err-few_followed-in-Ok-part_doubled-clause-shows g c =
    let p = err_from_is_err_and c.from_residual.result c.from_residual.ensures.1 in
    rw (p.1, p.2) (IfSome_then (g.F.Folder.told c.args.folder.now) c.in-Ok.ensures.asked (λ told asks.
    too_many_shown c.args.inputs.now told c.args.listed.items _ _ asks _ _ c.in-Ok-part_doubled.ensures.parted
    c.in_err-few_followed-in-Ok-part_doubled.field-0.0 (rw c.as_slice.ensures.value at c.in_err-few_followed-in-Ok-part_doubled.ensures.ends)))
