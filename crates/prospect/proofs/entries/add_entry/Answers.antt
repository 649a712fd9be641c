use Rattle.std.proofs.Common.{sym}
use Rattle.std.proofs.lemmas.Result.{on_ok_weaker}
use Rattle.prospect.proofs.Adding.{adds_known}
use Rattle.prospect.proofs.entries.add_entry.Goals as goal

pub returns-in-Some : goal.returns-in-Some
returns-in-Some c =
    on_ok_weaker c.add.result
    (adds_known c.args.entry _ _ _ c.add.new.self (sym c.in-Some.ensures.value) (c.get_mut.follows.holds c.add.new.self))
    c.add.ensures

pub returns-in-None : goal.returns-in-None
returns-in-None c = rw (sym c.get_mut.follows.holds-at-none) c.add_path.ensures
