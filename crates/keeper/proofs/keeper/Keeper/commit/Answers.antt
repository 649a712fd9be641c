use Rattle.std.proofs.Common.{◌≡◌, Bool, true, false, refl, sym, ◌∙◌, subst}
use Rattle.keeper.specs.Keeping.{Keeping}
use Rattle.keeper.proofs.Committing.{after_all, leads, some_commits, still_commits}
use Rattle.keeper.proofs.Few.{few_throughout}
use Rattle.keeper.proofs.Sounding.{sound_committed, sound_failed}
use Rattle.keeper.proofs.keeper.Keeper.commit.Goals as goal

never_both : {P : Type 0} (b : Bool) → b ≡ true → b ≡ false → P
never_both b shut stays = absurd (let q : true ≡ false = sym shut ∙ stays in cc)

pub returns-in_err-ops-clause-commits : goal.returns-in_err-ops-clause-commits
returns-in_err-ops-clause-commits g c =
    let i = c.self.inside in
    let closed = subst (λ (k : Keeping). k.store.closed ≡ false) (sym c.self.view_is) c.requires.open in
    rw (← c.self.view_is) (λ settled.
    still_commits g.D.Disk.contents g.D.Disk.images g.D.Disk.moment g.D.Disk.images_since g.met.D.Disk.only_now i.store c.args.a.now c.args.b.now settled i.tracker.opening i.tracker.committed i.tracker.notes (λ orderly. c.self.invariant.stored orderly closed))

pub commit-requires-clause-few : goal.commit-requires-clause-few
commit-requires-clause-few g c =
    let i = c.self.inside in
    few_throughout i.store.rows i.tracker.notes i.tracker.gone c.deref.result.now c.self.invariant.in_order c.self.invariant.few (rw c.deref.ensures.value c.in_ok-ops.ensures.sets_begun)

pub invariant_of-self : goal.invariant_of-self
invariant_of-self g c =
    let i = c.self.inside in
    sound_failed i.tracker i.store i.held i.pending c.self.invariant c.commit.new.self c.deref.result.now (rw c.deref.ensures.value c.in_ok-ops.ensures.sets_begun) c.in_err-commit.ensures.rows_after_an_error
    (c.in_err-commit.ensures.closed_by_an_error.1 refl)

pub invariant_of-self-2 : goal.invariant_of-self-2
invariant_of-self-2 g c =
    let i = c.self.inside in
    let closed = subst (λ (k : Keeping). k.store.closed ≡ false) (sym c.self.view_is) c.requires.open in
    let lead = leads i.tracker i.store c.deref.result.now c.in_ok-ops.ops.items c.deref.ensures.value c.self.invariant.stored closed c.self.invariant.opening c.rows_by_key.ensures.there_is_one c.in_ok-ops.ensures.by_the_notes in
    let e = c.committed.ensures in
    sound_committed i.tracker i.store i.held i.pending c.self.invariant c.commit.new.self c.deref.result.now (rw c.deref.ensures.value c.in_ok-ops.ensures.sets_begun) c.committed.new.self e.opening_stays e.notes_stay e.committed e.gone_stays c.in_ok-commit.ensures.rows lead

pub returns-in_err-commit-clause-commits : goal.returns-in_err-commit-clause-commits
returns-in_err-commit-clause-commits g c =
    let i = c.self.inside in
    let closed = subst (λ (k : Keeping). k.store.closed ≡ false) (sym c.self.view_is) c.requires.open in
    let lead = leads i.tracker i.store c.deref.result.now c.in_ok-ops.ops.items c.deref.ensures.value c.self.invariant.stored closed c.self.invariant.opening c.rows_by_key.ensures.there_is_one c.in_ok-ops.ensures.by_the_notes in
    let shut = c.in_err-commit.ensures.closed_by_an_error.1 refl in
    let e = c.commit.ensures in
    rw (← c.self.view_is) (λ settled.
    some_commits g.D.Disk.contents g.D.Disk.images g.D.Disk.moment g.D.Disk.images_since g.met.D.Disk.only_now i.tracker i.store c.commit.new.self c.deref.result.now c.args.a.now c.args.b.now c.commit.new.a c.commit.new.b
    c.self.invariant.stored closed lead c.in_err-commit.ensures.rows_after_an_error (λ stays. never_both c.commit.new.self.closed shut stays) (λ stays. never_both c.commit.new.self.closed shut stays)
    (e.each_moment settled) e.other_area_kept (e.goes_on settled) (e.left settled))

pub returns-clause-commits : goal.returns-clause-commits
returns-clause-commits g c =
    let i = c.self.inside in
    let closed = subst (λ (k : Keeping). k.store.closed ≡ false) (sym c.self.view_is) c.requires.open in
    let lead = leads i.tracker i.store c.deref.result.now c.in_ok-ops.ops.items c.deref.ensures.value c.self.invariant.stored closed c.self.invariant.opening c.rows_by_key.ensures.there_is_one c.in_ok-ops.ensures.by_the_notes in
    let e = c.commit.ensures in
    let rows = c.in_ok-commit.ensures.rows in
    rw (← c.self.view_is) (rw c.committed.ensures.notes_stay (λ settled.
    some_commits g.D.Disk.contents g.D.Disk.images g.D.Disk.moment g.D.Disk.images_since g.met.D.Disk.only_now i.tracker i.store c.commit.new.self c.deref.result.now c.args.a.now c.args.b.now c.commit.new.a c.commit.new.b
    c.self.invariant.stored closed lead (after_all i.store.rows c.commit.new.self.rows c.deref.result.now rows) (λ stays. rows) (λ stays. c.in_ok-commit.ensures.generation)
    (e.each_moment settled) e.other_area_kept (e.goes_on settled) (e.left settled)))
