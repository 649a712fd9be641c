use Rattle.std.proofs.Common.{sym, ap, arith}
use Rattle.outside_mem.specs.declared.tracked.Tracked.{Tracked}
use Rattle.outside_mem.proofs.Listing.{none_earlier-refl, none_earlier-set, files_of-set}
use Rattle.outside_mem.proofs.tracked.add_calls.Goals as goal

pub returns-then-number-files-clause-files : goal.returns-then-number-files-clause-files
returns-then-number-files-clause-files c =
    files_of-set c.args.files.now c.args.number c.index-files-number.result _ c.if-number-files.true c.index-files-number.is (ap (λ (t : Tracked). t.script) (sym c.index-files-number.is))

pub returns-then-number-files-clause-grow : goal.returns-then-number-files-clause-grow
returns-then-number-files-clause-grow c = λ listings.
    let calls = ap (λ (t : Tracked). t.calls) c.index-files-number.is in
    none_earlier-set c.args.files.now c.args.number c.index-files-number.result _ listings c.if-number-files.true c.index-files-number.is (ap (λ (t : Tracked). t.script) (sym c.index-files-number.is))
    (omega (arith, calls))

pub returns-else-number-files-clause-grow : goal.returns-else-number-files-clause-grow
returns-else-number-files-clause-grow c = λ listings. none_earlier-refl c.args.files.now listings
