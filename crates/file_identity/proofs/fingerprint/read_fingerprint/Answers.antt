use Rattle.std.proofs.Common.{◌≡◌, ◌<◌, ◌≤◌, ◌-◌, length, min, ◌∙◌, arith}
use Rattle.std.proofs.lemmas.Result.{err_from_is_err_and}
use Rattle.file_identity.proofs.Pieces.{buffer_length, one_read, piece_length, read_failed, read_short, read_whole, still_told, untold_read}
use Rattle.file_identity.proofs.fingerprint.read_fingerprint.Goals as goal

pub returns-in_err-count-clause-failed : goal.returns-in_err-count-clause-failed
returns-in_err-count-clause-failed g c =
    let p = err_from_is_err_and c.from_residual.result c.from_residual.ensures.1 in
    rw p.1 (read_failed _ _ _ c.loop-done.done _ _ _ c.loop-done.hasher _ _ c.loop-done.invariant.has_read c.loop-done-test.true c.in_err-count.ensures.told)

pub returns-then-count-eq0-clause-printed : goal.returns-then-count-eq0-clause-printed
returns-then-count-eq0-clause-printed g c =
    let most_is : c.min-most.result ≡ min (c.args.length - c.loop-done.done) 16384 = omega arith in
    let long = piece_length _ c.loop-done.done c.min-most.result c.loop-done.buffer c.feed.new.piece c.loop-done.invariant.buffer most_is c.feed.auto.piece in
    let fewer : c.loop-done.done < c.args.length = c.loop-done-test.true in
    read_short _ _ _ c.loop-done.done c.in_ok-count.count c.feed.new.piece c.loop-done.hasher _ _ c.loop-done.invariant.has_read
    c.if-count-eq0.true (omega (arith, long, most_is, fewer)) fewer c.in_ok-count.ensures.told

pub loop-done-preserved : goal.loop-done-preserved
loop-done-preserved g c =
    let most_is : c.min-most.result ≡ min (c.args.length - c.loop-done.done) 16384 = omega arith in
    let long = piece_length _ c.loop-done.done c.min-most.result c.loop-done.buffer c.feed.new.piece c.loop-done.invariant.buffer most_is c.feed.auto.piece in
    let fewer : c.loop-done.done < c.args.length = c.loop-done-test.true in
    let same = c.feed.auto.piece in
    let within = c.in_ok-count.ensures.within in
    let some : 0 < c.in_ok-count.count = let no = c.if-count-eq0.false in omega (arith, no) in
    let fits : c.in_ok-count.count ≤ length c.feed.new.piece = omega (arith, same, within) in
    let wanted : length c.feed.new.piece ≤ c.args.length - c.loop-done.done = omega (arith, long, most_is) in
    record {
      has_read = one_read _ _ _ c.loop-done.done c.in_ok-count.count c.feed.new.piece c.loop-done.hasher c.feed.new.hasher _ _ c.loop-done.invariant.has_read
          some fits wanted c.in_ok-count.ensures.told c.in_ok-count.ensures.fed;
      within = omega (arith, fits, wanted, fewer);
      buffer = buffer_length _ c.loop-done.done c.min-most.result c.loop-done.buffer c.feed.new.piece c.loop-done.invariant.buffer most_is c.feed.auto.piece;
      untold = λ none. untold_read _ _ _ _ _ c.in_ok-count.ensures.told (c.loop-done.invariant.untold none);
      numbers = c.feed.ensures.numbers_kept ∙ c.loop-done.invariant.numbers;
      faults = let one = c.loop-done.invariant.faults in let two = c.feed.ensures.faults_never_fall in omega (arith, one, two);
      told_faults = λ some. c.in_ok-count.ensures.faults_told_only_by_failures (still_told _ _ _ c.loop-done.done c.loop-done.hasher _ c.loop-done.invariant.has_read some) ∙ c.loop-done.invariant.told_faults some;
    }

pub returns-clause-printed : goal.returns-clause-printed
returns-clause-printed g c =
    let within = c.loop-done.invariant.within in
    let all = c.loop-done-test.false in
    read_whole _ _ _ c.loop-done.done c.finalize.result c.loop-done.hasher _ c.loop-done.invariant.has_read (omega (arith, within, all)) c.finalize.ensures
