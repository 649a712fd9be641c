use Rattle.std.proofs.Common.{◌≡◌, ℕ, List, Some, refl, subst, sym}
use Rattle.outside.specs.DiskImages.{LeavesOnly}
use Rattle.registry_store.specs.Committing.{AreFewThroughout, GivesSome, GoesOn}
use Rattle.registry_store.specs.Settled.{AreSettled}
use Rattle.registry_store.specs.Sides.{of_area, other_area, written_of}
use Rattle.registry_store.specs.Standing.{Standing, chosen_by, is_worn, written_area}
use Rattle.registry_store.proofs.Beside.{gives_beside, goes_on_beside, left_gives, still_gives}
use Rattle.registry_store.proofs.Few.{few_at_the_end}
use Rattle.registry_store.proofs.store.Store.commit.Goals as goal

pub returns-then-self-clause-each_moment : goal.returns-then-self-clause-each_moment
returns-then-self-clause-each_moment g c = λ settled.
    still_gives g.D.Disk.contents g.D.Disk.images g.D.Disk.moment g.D.Disk.images_since (written_area c.args.self.now c.args.ops.now) c.args.self.now.area c.args.a.now c.args.b.now c.args.self.now.generation c.args.self.now.rows c.args.self.now.end c.args.ops.now g.met.D.Disk.only_now settled

pub returns-then-is_empty-clause-each_moment : goal.returns-then-is_empty-clause-each_moment
returns-then-is_empty-clause-each_moment g c = λ settled.
    still_gives g.D.Disk.contents g.D.Disk.images g.D.Disk.moment g.D.Disk.images_since (written_area c.args.self.now c.args.ops.now) c.args.self.now.area c.args.a.now c.args.b.now c.args.self.now.generation c.args.self.now.rows c.args.self.now.end c.args.ops.now g.met.D.Disk.only_now settled

pub returns-in_err-self-inside-clause-goes_on : goal.returns-in_err-self-inside-clause-goes_on
returns-in_err-self-inside-clause-goes_on g c =
    let Goes : Standing → Type 0 = λ s. AreSettled g.D.Disk.contents g.D.Disk.images c.args.a.now c.args.b.now (chosen_by s) → GoesOn g.D.Disk.contents g.D.Disk.moment g.D.Disk.images_since s.generation s.rows c.args.ops.now c.args.a.now c.args.b.now c.write_areas.new.a c.write_areas.new.b in
    subst Goes c.self.view_is (λ settled. goes_on_beside g.D.Disk.contents g.D.Disk.images g.D.Disk.moment g.D.Disk.images_since _ c.args.a.now c.args.b.now c.write_areas.new.a c.write_areas.new.b _ _ _ c.args.ops.now g.met.D.Disk.only_now settled
    (c.write_areas.ensures.each_moment settled) c.write_areas.ensures.other_kept)

pub returns-in_err-apply_all-clause-each_moment : goal.returns-in_err-apply_all-clause-each_moment
returns-in_err-apply_all-clause-each_moment g c =
    let Leaves : Standing → Type 0 = λ s. AreSettled g.D.Disk.contents g.D.Disk.images c.args.a.now c.args.b.now (chosen_by s)
    → LeavesOnly g.D.Disk.moment g.D.Disk.images_since (of_area (written_area s c.args.ops.now) c.args.a.now c.args.b.now) (of_area (written_area s c.args.ops.now) c.write_areas.new.a c.write_areas.new.b)
    (λ image. (other : List ℕ) → g.D.Disk.images (of_area (other_area (written_area s c.args.ops.now)) c.args.a.now c.args.b.now) other → GivesSome s.rows c.args.ops.now (of_area (written_area s c.args.ops.now) image other) (of_area (written_area s c.args.ops.now) other image)) in
    subst Leaves c.self.view_is (λ settled. gives_beside g.D.Disk.contents g.D.Disk.images g.D.Disk.moment g.D.Disk.images_since _ _ _ _ _ _ c.args.ops.now _ (c.write_areas.ensures.each_moment settled))

pub returns-in_err-apply_all-clause-goes_on : goal.returns-in_err-apply_all-clause-goes_on
returns-in_err-apply_all-clause-goes_on g c =
    let Goes : Standing → Type 0 = λ s. AreSettled g.D.Disk.contents g.D.Disk.images c.args.a.now c.args.b.now (chosen_by s) → GoesOn g.D.Disk.contents g.D.Disk.moment g.D.Disk.images_since s.generation s.rows c.args.ops.now c.args.a.now c.args.b.now c.write_areas.new.a c.write_areas.new.b in
    subst Goes c.self.view_is (λ settled. goes_on_beside g.D.Disk.contents g.D.Disk.images g.D.Disk.moment g.D.Disk.images_since _ c.args.a.now c.args.b.now c.write_areas.new.a c.write_areas.new.b _ _ _ c.args.ops.now g.met.D.Disk.only_now settled
    (c.write_areas.ensures.each_moment settled) c.write_areas.ensures.other_kept)

pub returns-clause-goes_on : goal.returns-clause-goes_on
returns-clause-goes_on g c =
    let Goes : Standing → Type 0 = λ s. AreSettled g.D.Disk.contents g.D.Disk.images c.args.a.now c.args.b.now (chosen_by s) → GoesOn g.D.Disk.contents g.D.Disk.moment g.D.Disk.images_since s.generation s.rows c.args.ops.now c.args.a.now c.args.b.now c.write_areas.new.a c.write_areas.new.b in
    subst Goes c.self.view_is (λ settled. goes_on_beside g.D.Disk.contents g.D.Disk.images g.D.Disk.moment g.D.Disk.images_since _ c.args.a.now c.args.b.now c.write_areas.new.a c.write_areas.new.b _ _ _ c.args.ops.now g.met.D.Disk.only_now settled
    (c.write_areas.ensures.each_moment settled) c.write_areas.ensures.other_kept)

pub returns-then-self-clause-left : goal.returns-then-self-clause-left
returns-then-self-clause-left g c = λ settled.
    left_gives g.D.Disk.contents g.D.Disk.images g.D.Disk.moment g.D.Disk.images_since g.met.D.Disk.reads_as_an_image g.met.D.Disk.counts_now (written_area c.args.self.now c.args.ops.now) c.args.a.now c.args.b.now c.args.a.now c.args.b.now c.args.self.now.rows c.args.ops.now
    (still_gives g.D.Disk.contents g.D.Disk.images g.D.Disk.moment g.D.Disk.images_since (written_area c.args.self.now c.args.ops.now) c.args.self.now.area c.args.a.now c.args.b.now c.args.self.now.generation c.args.self.now.rows c.args.self.now.end c.args.ops.now g.met.D.Disk.only_now settled) refl

pub returns-then-is_empty-clause-left : goal.returns-then-is_empty-clause-left
returns-then-is_empty-clause-left g c = λ settled.
    left_gives g.D.Disk.contents g.D.Disk.images g.D.Disk.moment g.D.Disk.images_since g.met.D.Disk.reads_as_an_image g.met.D.Disk.counts_now (written_area c.args.self.now c.args.ops.now) c.args.a.now c.args.b.now c.args.a.now c.args.b.now c.args.self.now.rows c.args.ops.now
    (still_gives g.D.Disk.contents g.D.Disk.images g.D.Disk.moment g.D.Disk.images_since (written_area c.args.self.now c.args.ops.now) c.args.self.now.area c.args.a.now c.args.b.now c.args.self.now.generation c.args.self.now.rows c.args.self.now.end c.args.ops.now g.met.D.Disk.only_now settled) refl

pub returns-in_err-self-inside-clause-left : goal.returns-in_err-self-inside-clause-left
returns-in_err-self-inside-clause-left g c =
    let Left : Standing → Type 0 = λ s. AreSettled g.D.Disk.contents g.D.Disk.images c.args.a.now c.args.b.now (chosen_by s) → (first second : List ℕ) → g.D.Disk.contents c.write_areas.new.a ≡ Some first → g.D.Disk.contents c.write_areas.new.b ≡ Some second
    → GivesSome s.rows c.args.ops.now first second in
    subst Left c.self.view_is (λ settled. left_gives g.D.Disk.contents g.D.Disk.images g.D.Disk.moment g.D.Disk.images_since g.met.D.Disk.reads_as_an_image g.met.D.Disk.counts_now (written_of c.self.inside.used.area (is_worn c.self.inside.used.generation c.self.inside.used.start c.self.inside.used.end c.args.ops.now)) c.args.a.now c.args.b.now c.write_areas.new.a c.write_areas.new.b c.self.inside.rows c.args.ops.now
    (gives_beside g.D.Disk.contents g.D.Disk.images g.D.Disk.moment g.D.Disk.images_since _ _ _ _ _ _ c.args.ops.now _ (c.write_areas.ensures.each_moment settled)) c.write_areas.ensures.other_kept)

pub returns-in_err-apply_all-clause-left : goal.returns-in_err-apply_all-clause-left
returns-in_err-apply_all-clause-left g c =
    let Left : Standing → Type 0 = λ s. AreSettled g.D.Disk.contents g.D.Disk.images c.args.a.now c.args.b.now (chosen_by s) → (first second : List ℕ) → g.D.Disk.contents c.write_areas.new.a ≡ Some first → g.D.Disk.contents c.write_areas.new.b ≡ Some second
    → GivesSome s.rows c.args.ops.now first second in
    subst Left c.self.view_is (λ settled. left_gives g.D.Disk.contents g.D.Disk.images g.D.Disk.moment g.D.Disk.images_since g.met.D.Disk.reads_as_an_image g.met.D.Disk.counts_now (written_of c.self.inside.used.area (is_worn c.self.inside.used.generation c.self.inside.used.start c.self.inside.used.end c.args.ops.now)) c.args.a.now c.args.b.now c.write_areas.new.a c.write_areas.new.b c.self.inside.rows c.args.ops.now
    (gives_beside g.D.Disk.contents g.D.Disk.images g.D.Disk.moment g.D.Disk.images_since _ _ _ _ _ _ c.args.ops.now _ (c.write_areas.ensures.each_moment settled)) c.write_areas.ensures.other_kept)

pub returns-clause-left : goal.returns-clause-left
returns-clause-left g c =
    let Left : Standing → Type 0 = λ s. AreSettled g.D.Disk.contents g.D.Disk.images c.args.a.now c.args.b.now (chosen_by s) → (first second : List ℕ) → g.D.Disk.contents c.write_areas.new.a ≡ Some first → g.D.Disk.contents c.write_areas.new.b ≡ Some second
    → GivesSome s.rows c.args.ops.now first second in
    subst Left c.self.view_is (λ settled. left_gives g.D.Disk.contents g.D.Disk.images g.D.Disk.moment g.D.Disk.images_since g.met.D.Disk.reads_as_an_image g.met.D.Disk.counts_now (written_of c.self.inside.used.area (is_worn c.self.inside.used.generation c.self.inside.used.start c.self.inside.used.end c.args.ops.now)) c.args.a.now c.args.b.now c.write_areas.new.a c.write_areas.new.b c.self.inside.rows c.args.ops.now
    (gives_beside g.D.Disk.contents g.D.Disk.images g.D.Disk.moment g.D.Disk.images_since _ _ _ _ _ _ c.args.ops.now _ (c.write_areas.ensures.each_moment settled)) c.write_areas.ensures.other_kept)

pub invariant_of-self-2 : goal.invariant_of-self-2
invariant_of-self-2 g c =
    let Few : Standing → Type 0 = λ s. AreFewThroughout s.rows c.args.ops.now in
    (c.in_ok-self-inside.ensures.next_in_range, rw c.in_ok-apply_all.ensures.all (few_at_the_end c.self.inside.rows c.args.ops.now (subst Few (sym c.self.view_is) c.requires.few)))
