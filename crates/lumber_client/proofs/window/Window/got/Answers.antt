use Rattle.std.proofs.Common.{◌∙◌, refl, subst, sym}
use Rattle.lumber_client.specs.Exchange.{with_heard}
use Rattle.lumber_client.specs.Held.{Held, has_some}
use Rattle.lumber_client.specs.Standing.{StandsFor}
use Rattle.lumber_client.proofs.Stepping.{fault_stands, front_stands}
use Rattle.lumber_client.proofs.Told.{stands_then}
use Rattle.lumber_client.proofs.window.Window.got.Goals as goal

pub returns-in-Front-clause-told : goal.returns-in-Front-clause-told
returns-in-Front-clause-told c = λ e s.
    let w = c.args.self.now in
    (front_stands w e c.args.byte (has_some w.flights) s c.requires.all_is_out c.requires.no_fault refl c.in-Front.ensures.taken).1

pub returns-in-Front-clause-stands : goal.returns-in-Front-clause-stands
returns-in-Front-clause-stands c = λ e s.
    let w = c.args.self.now in
    subst (λ (v : Held). StandsFor v (with_heard e c.args.byte)) (sym c.in-Front.ensures.heard) (front_stands w e c.args.byte (has_some w.flights) s c.requires.all_is_out c.requires.no_fault refl c.in-Front.ensures.taken).0

pub returns-in-Fault-clause-told : goal.returns-in-Fault-clause-told
returns-in-Fault-clause-told c = λ e s.
    let w = c.args.self.now in
    let told = (fault_stands w e c.args.byte (has_some w.flights) s c.requires.all_is_out c.requires.no_fault refl c.in-Fault.ensures.taken).1 in
    (told.0, c.given-place.ensures ∙ told.1)

pub returns-in-Fault-clause-stands : goal.returns-in-Fault-clause-stands
returns-in-Fault-clause-stands c = λ e s.
    let w = c.args.self.now in
    subst (λ (v : Held). StandsFor v (with_heard e c.args.byte)) (sym c.in-Fault.ensures.heard) (fault_stands w e c.args.byte (has_some w.flights) s c.requires.all_is_out c.requires.no_fault refl c.in-Fault.ensures.taken).0

pub returns-in-Number-clause-told : goal.returns-in-Number-clause-told
returns-in-Number-clause-told c = λ e s.
    let w = c.args.self.now in
    (stands_then w c.take.new.self e c.args.byte c.in-Number.number c.given-place.result c.in-Number.ensures.heard c.given-place.ensures s c.requires.all_is_out c.requires.no_fault c.in-Number.ensures.taken c.answer.result c.answer.new.self c.answer.ensures).1

pub returns-in-Number-clause-stands : goal.returns-in-Number-clause-stands
returns-in-Number-clause-stands c = λ e s.
    let w = c.args.self.now in
    (stands_then w c.take.new.self e c.args.byte c.in-Number.number c.given-place.result c.in-Number.ensures.heard c.given-place.ensures s c.requires.all_is_out c.requires.no_fault c.in-Number.ensures.taken c.answer.result c.answer.new.self c.answer.ensures).0
