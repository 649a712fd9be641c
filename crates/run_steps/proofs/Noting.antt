-- What the keeper notes and counts as it collects.
use Rattle.std.proofs.Common.{◌≡◌, ℕ, ◌+◌, ◌^◌, ◌-◌, Bool, cond, min, List, [], ◌∷◌, ◌++◌, length, refl, sym, ap, subst, ◌∙◌, arith}
use Rattle.std.proofs.lemmas.List.{append_assoc, length-append, map-append}
use Rattle.std.specs.List.{count_by, fold}
use Rattle.keeper.specs.Collecting.{Collects, is_dropped, is_shipped}
use Rattle.keeper.specs.Keeping.{Keeping, held_in}
use Rattle.outside.specs.Counts.{added_counts}
use Rattle.pass_sums.proofs.Weights.{weigh-append}
use Rattle.pass_sums.specs.Weight.{weigh}
use Rattle.settle_box.specs.Collector.{Collector}
use Rattle.settle_box.specs.Senders.{notes}
use Rattle.settle_box.specs.declared.sender.Sent.{Sent}
use Rattle.ship_core.specs.Orderly.{AreOrderly}
use Rattle.wire_base.specs.declared.note.Note.{Note}
use Rattle.wire_base.specs.declared.row.Row.{Row}
use Rattle.run_steps.specs.Stands.{AreNoted}

abbrev step : (Note → Bool) → ℕ → Note → ℕ
step p count note = count + cond (p note) 1 0

counted_from : (p : Note → Bool) (n : ℕ) (ys : List Note) → fold (step p) n ys ≡ n + fold (step p) 0 ys
counted_from p n [] = omega arith
counted_from p n (y ∷ ys) =
    let here = counted_from p (n + cond (p y) 1 0) ys in let there = counted_from p (0 + cond (p y) 1 0) ys in omega (arith, here, there)

counted_on : (p : Note → Bool) (n : ℕ) (xs ys : List Note) → fold (step p) n (xs ++ ys) ≡ fold (step p) (fold (step p) n xs) ys
counted_on p n [] ys = refl
counted_on p n (x ∷ xs) ys = counted_on p (n + cond (p x) 1 0) xs ys

pub count-append : (p : Note → Bool) (xs ys : List Note) → count_by p (xs ++ ys) ≡ count_by p xs + count_by p ys
count-append p xs ys = counted_on p 0 xs ys ∙ counted_from p (count_by p xs) ys

-- a count that saturates at 2^64 - 1, with more counted
still_on : (old new all more both : ℕ) → old ≡ min all (2 ^ 64 - 1) → new ≡ added_counts old more → both ≡ all + more → new ≡ min both (2 ^ 64 - 1)
still_on old new all more both was is sum = omega (arith, was, is, sum)

module _ (old new : Keeping) (collects : Collects old new) where
  got_is : notes new.pass.got ≡ notes old.pass.got ++ notes collects.sent
  got_is = ap (λ (c : Collector). notes c.got) collects.pass ∙ map-append (λ (s : Sent). s.note) old.pass.got collects.sent

  counts : (p : Note → Bool) → count_by p (notes new.pass.got) ≡ count_by p (notes old.pass.got) + count_by p (notes collects.sent)
  counts p = ap (count_by p) got_is ∙ count-append p (notes old.pass.got) (notes collects.sent)

  pub shipped_on : old.shipped ≡ min (count_by is_shipped (notes old.pass.got)) (2 ^ 64 - 1) → new.shipped ≡ min (count_by is_shipped (notes new.pass.got)) (2 ^ 64 - 1)
  shipped_on was = still_on old.shipped new.shipped (count_by is_shipped (notes old.pass.got)) (count_by is_shipped (notes collects.sent))
      (count_by is_shipped (notes new.pass.got)) was collects.shipped (counts is_shipped)

  pub dropped_on : old.dropped ≡ min (count_by is_dropped (notes old.pass.got)) (2 ^ 64 - 1) → new.dropped ≡ min (count_by is_dropped (notes new.pass.got)) (2 ^ 64 - 1)
  dropped_on was = still_on old.dropped new.dropped (count_by is_dropped (notes old.pass.got)) (count_by is_dropped (notes collects.sent))
      (count_by is_dropped (notes new.pass.got)) was collects.dropped (counts is_dropped)

  pub collected_on : old.collected ≡ min (length old.pass.got) (2 ^ 64 - 1) → new.collected ≡ min (length new.pass.got) (2 ^ 64 - 1)
  collected_on was = still_on old.collected new.collected (length old.pass.got) (length collects.sent) (length new.pass.got) was collects.collected
      (ap (λ (c : Collector). length c.got) collects.pass ∙ length-append old.pass.got collects.sent)

  pub got_on : (opening : List Row) (begun collected : List Note) → AreNoted opening old begun collected → notes new.pass.got ≡ (collected ++ collects.more) ++ held_in new.held
  got_on opening begun collected noted =
      got_is ∙ ap (λ (l : List Note). l ++ notes collects.sent) noted.got ∙ append_assoc collected (held_in old.held) (notes collects.sent)
      ∙ ap (λ (l : List Note). collected ++ l) collects.notes_are ∙ sym (append_assoc collected collects.more (held_in new.held))

  -- where its notes are orderly still
  pub noted_on : (opening : List Row) (begun collected : List Note) → AreNoted opening old begun collected → AreOrderly (old.tracked.notes ++ collects.more) → AreNoted opening new begun (collected ++ collects.more)
  noted_on opening begun collected noted orderly = record {
    opening_is = collects.opening ∙ noted.opening_is;
    mixed = record {
      often = λ h. omega (
        arith,
        ap (weigh h) collects.noted,
        weigh-append h old.tracked.notes collects.more,
        noted.mixed.often h,
        weigh-append h begun collected,
        weigh-append h begun (collected ++ collects.more),
        weigh-append h collected collects.more,
      );
      orderly = subst AreOrderly (sym collects.noted) orderly;
    };
    got = got_on opening begun collected noted;
  }
