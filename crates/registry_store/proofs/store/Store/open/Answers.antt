use Rattle.std.proofs.Common.{inl, inr}
use Rattle.registry_store.proofs.Opening.{chosen_settled, fresh_goes_on, fresh_moments, fresh_settled, picked_chosen, picked_fresh, picked_start}
use Rattle.registry_store.proofs.store.Store.open.Goals as goal

pub returns-in_err-start_empty-in-Fresh-clause-each_moment : goal.returns-in_err-start_empty-in-Fresh-clause-each_moment
returns-in_err-start_empty-in-Fresh-clause-each_moment g c = λ rest first second rows a_holds b_holds gives.
    fresh_moments g.D.Disk.contents g.D.Disk.images g.D.Disk.moment g.D.Disk.images_since g.D.Disk.faults c.args.a.now c.pick.new.a c.start_empty.new.a c.args.b.now first second rows c.one_choice.ensures rest a_holds b_holds
    (picked_fresh first second c.in_ok-pick.field-0 c.in-Fresh.is (c.in_ok-pick.ensures.chosen first second a_holds b_holds)) gives c.pick.ensures.a_only_read c.start_empty.ensures.each_moment

pub returns-in_ok-start_empty-in-Fresh-clause-each_moment : goal.returns-in_ok-start_empty-in-Fresh-clause-each_moment
returns-in_ok-start_empty-in-Fresh-clause-each_moment g c = λ rest first second rows a_holds b_holds gives.
    fresh_moments g.D.Disk.contents g.D.Disk.images g.D.Disk.moment g.D.Disk.images_since g.D.Disk.faults c.args.a.now c.pick.new.a c.start_empty.new.a c.args.b.now first second rows c.one_choice.ensures rest a_holds b_holds
    (picked_fresh first second c.in_ok-pick.field-0 c.in-Fresh.is (c.in_ok-pick.ensures.chosen first second a_holds b_holds)) gives c.pick.ensures.a_only_read c.start_empty.ensures.each_moment

pub returns-in_err-start_empty-in-Fresh-clause-a_only_read : goal.returns-in_err-start_empty-in-Fresh-clause-a_only_read
returns-in_err-start_empty-in-Fresh-clause-a_only_read g c = λ first second a_holds b_holds not_fresh.
    absurd (not_fresh (picked_fresh first second c.in_ok-pick.field-0 c.in-Fresh.is (c.in_ok-pick.ensures.chosen first second a_holds b_holds)))

pub returns-in_ok-start_empty-in-Fresh-clause-a_only_read : goal.returns-in_ok-start_empty-in-Fresh-clause-a_only_read
returns-in_ok-start_empty-in-Fresh-clause-a_only_read g c = λ first second a_holds b_holds not_fresh.
    absurd (not_fresh (picked_fresh first second c.in_ok-pick.field-0 c.in-Fresh.is (c.in_ok-pick.ensures.chosen first second a_holds b_holds)))

pub returns-in_ok-start_empty-in-Fresh-clause-chosen : goal.returns-in_ok-start_empty-in-Fresh-clause-chosen
returns-in_ok-start_empty-in-Fresh-clause-chosen g c = λ first second a_holds b_holds.
    inr (picked_fresh first second c.in_ok-pick.field-0 c.in-Fresh.is (c.in_ok-pick.ensures.chosen first second a_holds b_holds), c.in_ok-start_empty-in-Fresh.ensures.store)

pub returns-in_ok-start_empty-in-Fresh-clause-settled : goal.returns-in_ok-start_empty-in-Fresh-clause-settled
returns-in_ok-start_empty-in-Fresh-clause-settled g c = λ rest.
    fresh_settled g.D.Disk.contents g.D.Disk.images g.D.Disk.moment g.D.Disk.images_since g.D.Disk.faults c.args.a.now c.start_empty.new.a c.args.b.now c.pick.new.b c.in_ok-start_empty-in-Fresh.field-0 rest
    (λ first second a_holds b_holds. picked_fresh first second c.in_ok-pick.field-0 c.in-Fresh.is (c.in_ok-pick.ensures.chosen first second a_holds b_holds))
    c.pick.ensures.b_only_read c.in_ok-start_empty-in-Fresh.ensures.store (c.in_ok-start_empty-in-Fresh.ensures.holds (rw c.pick.ensures.a_only_read.contents_kept rest.a_told))

pub returns-in_ok-start_empty-in-Fresh-clause-goes_on : goal.returns-in_ok-start_empty-in-Fresh-clause-goes_on
returns-in_ok-start_empty-in-Fresh-clause-goes_on g c = λ rest.
    fresh_goes_on g.D.Disk.contents g.D.Disk.images g.D.Disk.moment g.D.Disk.images_since g.D.Disk.faults c.args.a.now c.pick.new.a c.start_empty.new.a c.args.b.now c.pick.new.b c.in_ok-start_empty-in-Fresh.field-0 rest
    c.pick.ensures.a_only_read c.pick.ensures.b_only_read c.in_ok-start_empty-in-Fresh.ensures.store c.start_empty.ensures.each_moment

pub returns-in-Chosen-clause-chosen : goal.returns-in-Chosen-clause-chosen
returns-in-Chosen-clause-chosen g c = λ first second a_holds b_holds.
    inl (picked_chosen first second c.in_ok-pick.field-0 c.in-Chosen.area c.in-Chosen.generation c.in-Chosen.rows c.in-Chosen.start c.in-Chosen.end c.in-Chosen.is (c.in_ok-pick.ensures.chosen first second a_holds b_holds))

pub returns-in-Chosen-clause-settled : goal.returns-in-Chosen-clause-settled
returns-in-Chosen-clause-settled g c = λ rest.
    chosen_settled g.D.Disk.contents g.D.Disk.images g.D.Disk.moment g.D.Disk.images_since g.D.Disk.faults c.args.a.now c.pick.new.a c.args.b.now c.pick.new.b c.in-Chosen.area c.in-Chosen.generation c.in-Chosen.rows c.in-Chosen.start c.in-Chosen.end rest
    (λ first second a_holds b_holds. picked_chosen first second c.in_ok-pick.field-0 c.in-Chosen.area c.in-Chosen.generation c.in-Chosen.rows c.in-Chosen.start c.in-Chosen.end c.in-Chosen.is (c.in_ok-pick.ensures.chosen first second a_holds b_holds))
    (picked_start c.in_ok-pick.field-0 c.in-Chosen.area c.in-Chosen.generation c.in-Chosen.rows c.in-Chosen.start c.in-Chosen.end c.in-Chosen.is c.in_ok-pick.ensures.in_range)
    c.pick.ensures.a_only_read c.pick.ensures.b_only_read
