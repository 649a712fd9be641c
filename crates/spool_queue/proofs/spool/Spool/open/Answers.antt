use Rattle.std.proofs.Common.{◌≡◌, ◌+◌, ◌<◌, ◌≤◌, ◌∷◌, [], inl, inr, ℕ, List, Option, Some, IfSome, length, drop, refl, ap, subst, ⊎_elim, ◌∙◌, arith, length-drop}
use Rattle.std.proofs.lemmas.List.{nil_from_length}
use Rattle.std.proofs.lemmas.Result.{err_from_is_err_and}
use Rattle.outside.specs.DiskReads.{written}
use Rattle.wire_base.specs.Ranges.{IsPlace}
use Rattle.spool_queue.specs.Log.{Empty, outstanding}
use Rattle.spool_queue.proofs.OneReading.{never_both, one_list, one_place}
use Rattle.spool_queue.proofs.Standings.{empty_spool, holds_of, read_short, short_read}
use Rattle.spool_queue.proofs.Walks.{at_front}
use Rattle.spool_queue.proofs.Writes.{written_within}
use Rattle.spool_queue.proofs.spool.Spool.open.Goals as goal

alone : (bytes : List ℕ) → length bytes ≤ 1 → written bytes 0 (46 ∷ []) ≡ 46 ∷ []
alone bytes short = written_within bytes 0 46 [] (omega arith) ∙ ap (λ (l : List ℕ). 46 ∷ l) (nil_from_length (drop (0 + 1) bytes) (omega (arith, short, length-drop (0 + 1) bytes)))

pub returns-then-branch-le1-clause-opened : goal.returns-then-branch-le1-clause-opened
returns-then-branch-le1-clause-opened g c = λ bytes told.
    let L : Option (List ℕ) → Type 0 = λ o. IfSome o (λ b. c.in_ok-len.field-0 ≡ length b) in
    let sized = subst L told c.in_ok-len.ensures.told in
    let short : length bytes ≤ 1 = omega arith in
    let W : Option (List ℕ) → Type 0 = λ o. IfSome o (λ b. g.D.Disk.contents c.write_synced.new.disk ≡ Some (written b 0 (46 ∷ []))) in
    let there = subst W (c.in_ok-len.ensures.contents_kept ∙ told) c.in_ok-write_synced.ensures.written ∙ ap (λ (l : List ℕ). Some l) (alone bytes short) in
    ([], short_read bytes short, holds_of _ _ (46 ∷ []) [] there (empty_spool _ refl refl refl))

pub returns-in_err-pass_all-clause-bad : goal.returns-in_err-pass_all-clause-bad
returns-in_err-pass_all-clause-bad g c = λ bytes at told same.
    let L : Option (List ℕ) → Type 0 = λ o. IfSome o (λ b. c.in_ok-len.field-0 ≡ length b) in
    let sized = subst L told c.in_ok-len.ensures.told in
    let long : 1 < length bytes = omega arith in
    let p = err_from_is_err_and c.from_residual-in_err-pass_all.result c.from_residual-in_err-pass_all.ensures.1 in
    let bad = c.in_err-pass_all.ensures.told bytes Empty (c.in_ok-len.ensures.contents_kept ∙ told) (at_front bytes c.start-walk.result c.start-walk.ensures.place c.start-walk.ensures.events c.start-walk.ensures.settled) at in
    (long, bad (cc (p.1, p.2, same)))

pub returns-clause-opened : goal.returns-clause-opened
returns-clause-opened g c = λ bytes told.
    let L : Option (List ℕ) → Type 0 = λ o. IfSome o (λ b. c.in_ok-len.field-0 ≡ length b) in
    let sized = subst L told c.in_ok-len.ensures.told in
    let long : 1 < length bytes = omega arith in
    let kept = c.in_ok-len.ensures.contents_kept ∙ told in
    let whole = c.in_ok-pass_all.ensures.told bytes Empty kept (at_front bytes c.start-walk.result c.start-walk.ensures.place c.start-walk.ensures.events c.start-walk.ensures.settled) in (
      outstanding whole.0,
      inr (long, (whole.0, c.pass_all.new.self.place, whole.2, refl)),
      holds_of _ _ bytes (outstanding whole.0) (c.in_ok-pass_all.ensures.only_read.contents_kept ∙ kept) (record { log = whole.0; ends = whole.2; events = whole.1.events; settlements = whole.1.settlements; list_is = refl }),
    )

pub returns-then-branch-le1-clause-reads : goal.returns-then-branch-le1-clause-reads
returns-then-branch-le1-clause-reads g c = λ bytes list told is.
    let L : Option (List ℕ) → Type 0 = λ o. IfSome o (λ b. c.in_ok-len.field-0 ≡ length b) in
    let sized = subst L told c.in_ok-len.ensures.told in
    let short : length bytes ≤ 1 = omega arith in
    let W : Option (List ℕ) → Type 0 = λ o. IfSome o (λ b. g.D.Disk.contents c.write_synced.new.disk ≡ Some (written b 0 (46 ∷ []))) in
    let there = subst W (c.in_ok-len.ensures.contents_kept ∙ told) c.in_ok-write_synced.ensures.written ∙ ap (λ (l : List ℕ). Some l) (alone bytes short) in
    rw (read_short bytes list short is) (holds_of _ _ (46 ∷ []) [] there (empty_spool _ refl refl refl))

pub returns-in_err-pass_all-clause-reads : goal.returns-in_err-pass_all-clause-reads
returns-in_err-pass_all-clause-reads g c = λ bytes list told is.
    let L : Option (List ℕ) → Type 0 = λ o. IfSome o (λ b. c.in_ok-len.field-0 ≡ length b) in
    let sized = subst L told c.in_ok-len.ensures.told in
    let long : 1 < length bytes = omega arith in
    let small : IsPlace (length bytes) = omega (arith, c.in_ok-len.ensures.in_range) in
    let p = err_from_is_err_and c.from_residual-in_err-pass_all.result c.from_residual-in_err-pass_all.ensures.1 in
    let bad = c.in_err-pass_all.ensures.told bytes Empty (c.in_ok-len.ensures.contents_kept ∙ told) (at_front bytes c.start-walk.result c.start-walk.ensures.place c.start-walk.ensures.events c.start-walk.ensures.settled) in
    rw (p.1) (⊎_elim (λ fault. cc (p.2, fault)) (λ at. absurd (never_both bytes list at.0 small is (long, bad at.0 at.1))) c.in_err-pass_all.ensures.errors)

pub returns-clause-reads : goal.returns-clause-reads
returns-clause-reads g c = λ bytes list told is.
    let L : Option (List ℕ) → Type 0 = λ o. IfSome o (λ b. c.in_ok-len.field-0 ≡ length b) in
    let sized = subst L told c.in_ok-len.ensures.told in
    let long : 1 < length bytes = omega arith in
    let small : IsPlace (length bytes) = omega (arith, c.in_ok-len.ensures.in_range) in
    let kept = c.in_ok-len.ensures.contents_kept ∙ told in
    let whole = c.in_ok-pass_all.ensures.told bytes Empty kept (at_front bytes c.start-walk.result c.start-walk.ensures.place c.start-walk.ensures.events c.start-walk.ensures.settled) in
    holds_of _ _ bytes list (c.in_ok-pass_all.ensures.only_read.contents_kept ∙ kept) (record {
      log = whole.0;
      ends = whole.2;
      events = whole.1.events;
      settlements = whole.1.settlements;
      list_is = one_list bytes (outstanding whole.0) list small (inr (long, (whole.0, c.pass_all.new.self.place, whole.2, refl))) is;
    })

pub returns-then-branch-le1-clause-at_its_last_gate : goal.returns-then-branch-le1-clause-at_its_last_gate
returns-then-branch-le1-clause-at_its_last_gate g c = λ bytes told.
    let L : Option (List ℕ) → Type 0 = λ o. IfSome o (λ b. c.in_ok-len.field-0 ≡ length b) in
    let sized = subst L told c.in_ok-len.ensures.told in
    let short : length bytes ≤ 1 = omega arith in
    inl (short, refl)

pub returns-clause-at_its_last_gate : goal.returns-clause-at_its_last_gate
returns-clause-at_its_last_gate g c = λ bytes told.
    let L : Option (List ℕ) → Type 0 = λ o. IfSome o (λ b. c.in_ok-len.field-0 ≡ length b) in
    let sized = subst L told c.in_ok-len.ensures.told in
    let long : 1 < length bytes = omega arith in
    let kept = c.in_ok-len.ensures.contents_kept ∙ told in
    let whole = c.in_ok-pass_all.ensures.told bytes Empty kept (at_front bytes c.start-walk.result c.start-walk.ensures.place c.start-walk.ensures.events c.start-walk.ensures.settled) in
    inr (long, (whole.0, whole.2))

pub returns-then-branch-le1-clause-refuses : goal.returns-then-branch-le1-clause-refuses
returns-then-branch-le1-clause-refuses g c = λ bytes at told bad.
    let L : Option (List ℕ) → Type 0 = λ o. IfSome o (λ b. c.in_ok-len.field-0 ≡ length b) in
    let sized = subst L told c.in_ok-len.ensures.told in
    let short : length bytes ≤ 1 = omega arith in
    absurd (omega (arith, short, bad.0))

pub returns-in_err-pass_all-clause-refuses : goal.returns-in_err-pass_all-clause-refuses
returns-in_err-pass_all-clause-refuses g c = λ bytes at told is.
    let L : Option (List ℕ) → Type 0 = λ o. IfSome o (λ b. c.in_ok-len.field-0 ≡ length b) in
    let sized = subst L told c.in_ok-len.ensures.told in
    let long : 1 < length bytes = omega arith in
    let small : IsPlace (length bytes) = omega (arith, c.in_ok-len.ensures.in_range) in
    let p = err_from_is_err_and c.from_residual-in_err-pass_all.result c.from_residual-in_err-pass_all.ensures.1 in
    let bad = c.in_err-pass_all.ensures.told bytes Empty (c.in_ok-len.ensures.contents_kept ∙ told) (at_front bytes c.start-walk.result c.start-walk.ensures.place c.start-walk.ensures.events c.start-walk.ensures.settled) in
    rw (p.1) (⊎_elim (λ fault. inl (cc (p.2, fault))) (λ found. let same : found.0 ≡ at = one_place bytes found.0 at small (long, bad found.0 found.1) is in inr (cc (p.2, found.1, same))) c.in_err-pass_all.ensures.errors)

pub returns-clause-refuses : goal.returns-clause-refuses
returns-clause-refuses g c = λ bytes at told bad.
    let L : Option (List ℕ) → Type 0 = λ o. IfSome o (λ b. c.in_ok-len.field-0 ≡ length b) in
    let sized = subst L told c.in_ok-len.ensures.told in
    let long : 1 < length bytes = omega arith in
    let small : IsPlace (length bytes) = omega (arith, c.in_ok-len.ensures.in_range) in
    let kept = c.in_ok-len.ensures.contents_kept ∙ told in
    let whole = c.in_ok-pass_all.ensures.told bytes Empty kept (at_front bytes c.start-walk.result c.start-walk.ensures.place c.start-walk.ensures.events c.start-walk.ensures.settled) in
    absurd (never_both bytes (outstanding whole.0) at small (inr (long, (whole.0, c.pass_all.new.self.place, whole.2, refl))) bad)
