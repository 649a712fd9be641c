use Rattle.std.proofs.Common.{◌≡◌, ℕ, ◌+◌, true, false, take, sym, subst, arith}
use Rattle.findings.specs.Counting.{Counts, IsOf}
use Rattle.findings.proofs.Counts.{counts_in, counts_out}
use Rattle.findings.proofs.counting.count_of.Goals.{else-is_of, then-is_of}
use Rattle.findings.proofs.counting.count_of.Goals as goal

pub loop-one-preserved : goal.loop-one-preserved
loop-one-preserved c =
    let C : ℕ → Type 0 = λ n. Counts c.args.asked.now (take (c.loop-one.one-index + 1) c.args.listed.now) n in
    elim c.if-is_of.branch [
      | then-is_of w ↦ record {
        few = omega (arith, w.count-is, c.loop-one.invariant.few);
        counts = subst C (sym w.count-is) (counts_in c.args.asked.now c.args.listed.now c.loop-one.one-index c.one-item.result c.loop-one-test.true c.one-item.is c.loop-one.count c.loop-one.invariant.counts
            (c.is_of.ensures.0 w.if-is_of.true));
      }
      | else-is_of w ↦ record {
        few = omega (arith, w.count-is, c.loop-one.invariant.few);
        counts = subst C (sym w.count-is) (counts_out c.args.asked.now c.args.listed.now c.loop-one.one-index c.one-item.result c.loop-one-test.true c.one-item.is c.loop-one.count c.loop-one.invariant.counts
            (λ (is : IsOf c.args.asked.now c.one-item.result).
            let yes : c.is_of.result ≡ true = c.is_of.ensures.1 is in
            let no : c.is_of.result ≡ false = w.if-is_of.false in
            cc));
      }
    ]
