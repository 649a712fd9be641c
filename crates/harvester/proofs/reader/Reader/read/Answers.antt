use Rattle.std.proofs.Common.{[], ◌∷◌, ◌∙◌, false, refl, sym, subst, ap, arith}
use Rattle.std.proofs.lemmas.List.Elements.{Contains-append_right}
use Rattle.harvester.specs.Held.{Held}
use Rattle.harvester.specs.Standing.{AllGathered, StandsFor}
use Rattle.harvester.proofs.Lasting.{reads_on, rebuffers}
use Rattle.harvester.proofs.Standings.{on_err, read_on, turned_stands}
use Rattle.harvester.proofs.reader.Reader.read.Goals as goal

pub returns-in_err-count-clause-stands_on_refusal : goal.returns-in_err-count-clause-stands_on_refusal
returns-in_err-count-clause-stands_on_refusal g c =
    on_err c.from_residual.result _ (λ h stands.
    let t = subst (λ (held : Held). StandsFor h held) (sym c.self.view_is) stands in
    rebuffers h _ t c.read.new.self (ap (λ (held : Held). held.filled) c.self.view_is ∙ c.requires.all_fed)
    (omega (arith, c.read.ensures.same_room, t.holds.position.some_room)))

pub invariant_of-self-2 : goal.invariant_of-self-2
invariant_of-self-2 g c =
    let i = c.self.invariant in
    let now = c.args.now.0 in
    record {
      history = _;
      of = i.of;
      holds = read_on _ _ _ (turned_stands i.history _ i.of i.holds now false) c.read.new.self c.in_ok-count.count c.args.now
          (ap (λ (held : Held). held.filled) c.self.view_is ∙ c.requires.all_fed) c.read.ensures.same_room c.in_ok-count.ensures.within
          c.in_ok-count.ensures.in_range (Contains-append_right i.history.moments (now ∷ []) now (0, omega arith, refl)) c.requires.moment;
    }

pub returns-clause-stands : goal.returns-clause-stands
returns-clause-stands g c = λ h given all.
    reads_on h _ (subst (λ (held : Held). AllGathered h held) (sym c.self.view_is) all) (ap (λ (held : Held). held.stage) c.self.view_is ∙ c.requires.reads)
    c.lines_stay.ensures c.read.new.self c.in_ok-count.count c.args.now c.read.ensures.same_room c.in_ok-count.ensures.within
    c.in_ok-count.ensures.in_range given c.requires.moment
