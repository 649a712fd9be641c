use Rattle.std.proofs.Common.{◌+◌, ℕ, List, Some, take, drop, refl, ap, ◌∙◌, arith}
use Rattle.spool_queue.specs.Records.{Settlement}
use Rattle.spool_queue.proofs.Standings.{holds_of, moments, settling, stands_with}
use Rattle.spool_queue.proofs.Settlings.{holds_stays}
use Rattle.spool_queue.proofs.spool.Spool.settle.Goals as goal

pub returns-in_err-add-clause-each_moment : goal.returns-in_err-add-clause-each_moment
returns-in_err-add-clause-each_moment g c = λ only bytes list told is.
    let s = settling c.args.self.now bytes list c.args.n is c.requires.some c.requires.within in
    moments g.D.Disk.moment g.D.Disk.images_since c.args.disk.now c.add.new.disk (g.D.Disk.contents c.args.disk.now) bytes is.log c.args.self.now.end (Settlement (c.args.self.now.settled + c.args.n))
    (take c.settlement_text-size.result c.settlement_text-size.new.text) list (drop c.args.n list) told is.ends s.may c.settlement_text-size.ensures.text is.list_is s.left (c.add.ensures.each_moment only)

pub returns-clause-settled : goal.returns-clause-settled
returns-clause-settled g c = λ bytes list told is.
    let s = settling c.args.self.now bytes list c.args.n is c.requires.some c.requires.within in
    let text = take c.settlement_text-size.result c.settlement_text-size.new.text in
    holds_of _ _ _ _ (c.in_ok-add.ensures.appended _ is.ends.rest is.ends.gate (told ∙ ap (λ (l : List ℕ). Some l) is.ends.reaches.bytes) is.ends.reaches.begins)
    (stands_with _ is.log (Settlement (c.args.self.now.settled + c.args.n)) text is.ends.rest (drop c.args.n list) c.args.self.now.end is.ends.reaches.each is.ends.reaches.begins s.may c.settlement_text-size.ensures.text
    c.in_ok-add.ensures.end (is.events ∙ omega (arith, c.add.ensures.events)) refl s.left)

pub returns-clause-each_moment : goal.returns-clause-each_moment
returns-clause-each_moment g c = λ only bytes list told is.
    let s = settling c.args.self.now bytes list c.args.n is c.requires.some c.requires.within in
    moments g.D.Disk.moment g.D.Disk.images_since c.args.disk.now c.add.new.disk (g.D.Disk.contents c.args.disk.now) bytes is.log c.args.self.now.end (Settlement (c.args.self.now.settled + c.args.n))
    (take c.settlement_text-size.result c.settlement_text-size.new.text) list (drop c.args.n list) told is.ends s.may c.settlement_text-size.ensures.text is.list_is s.left (c.add.ensures.each_moment only)

pub returns-clause-places : goal.returns-clause-places
returns-clause-places g c = λ bytes list log place told is reaches few. holds_stays (g.D.Disk.contents c.add.new.disk) is.log log _ place bytes (take c.settlement_text-size.result c.settlement_text-size.new.text) is.ends reaches few
    (c.in_ok-add.ensures.appended _ is.ends.rest is.ends.gate (told ∙ ap (λ (l : List ℕ). Some l) is.ends.reaches.bytes) is.ends.reaches.begins)
