use Rattle.std.proofs.Common.{◌≡◌, ◌+◌, ◌-◌, ◌≤◌, ℕ, List, Option, IfSome, length, take, drop, subst, ◌∙◌, arith, length-drop}
use Rattle.std.proofs.lemmas.List.{length-take}
use Rattle.outside.specs.DiskReads.{HoldsRange}
use Rattle.spool_queue.proofs.Blocks.{back_written, front_kept, grown, still_long}
use Rattle.spool_queue.proofs.OnlyReads.{both, one_call}
use Rattle.spool_queue.proofs.reading.read_full.Goals as goal

pub pieces-preserved : goal.pieces-preserved
pieces-preserved g c =
    let block = c.pieces.into in
    let piece = c.read.new.into in
    let count = c.pieces.count in
    let more = c.in_ok-more.more in
    let k : ℕ = length block - count in
    let within : count ≤ length block = c.pieces.invariant.within in
    let sized : length block ≤ count + k = omega arith in
    let room : length (take k (drop count block)) ≡ k = omega (arith, length-take k (drop count block), length-drop count block) in
    let piece_long : length piece ≡ k = omega (arith, c.read.auto.into, room) in
    let fits : more ≤ k = omega (arith, c.in_ok-more.ensures.within_the_buffer, room) in
    record {
      within = omega (arith, fits, within, still_long block piece count k within sized piece_long);
      in_range = λ some. omega (arith, c.in_ok-more.ensures.in_range, c.if-more-eq0.false);
      front = λ bytes told.
          let Told : Option (List ℕ) → Type 0 = λ o. IfSome o (λ b. HoldsRange b (c.args.at + count) piece more) in
          let range = subst Told (c.pieces.invariant.only_read.contents_kept ∙ told) c.in_ok-more.ensures.told in
          grown block _ piece bytes c.args.at count more (front_kept block piece count k within sized) (back_written block piece count k within sized) (c.pieces.invariant.front bytes told) range.bytes_read;
      there = λ bytes told.
          let Told : Option (List ℕ) → Type 0 = λ o. IfSome o (λ b. HoldsRange b (c.args.at + count) piece more) in
          let range = subst Told (c.pieces.invariant.only_read.contents_kept ∙ told) c.in_ok-more.ensures.told in
          omega (arith, range.within, c.if-more-eq0.false, length-drop c.args.at bytes);
      only_read = both g.D.Disk.contents g.D.Disk.images g.D.Disk.moment g.D.Disk.images_since g.D.Disk.faults c.args.disk.now c.pieces.disk c.read.new.self c.pieces.invariant.only_read
          (one_call g.D.Disk.contents g.D.Disk.images g.D.Disk.moment g.D.Disk.images_since g.D.Disk.faults c.pieces.disk c.read.new.self (g.met.D.Disk.only_now c.pieces.disk) c.read.ensures.contents_kept c.read.ensures.images
          c.read.ensures.time c.read.ensures.faults_never_fall);
    }
