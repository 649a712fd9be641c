-- What several turns collect: nothing by none, and by two in a row what the one collects and then the other.
use Rattle.std.proofs.Common.{◌≡◌, ℕ, ◌+◌, Bool, cond, All, Contains, List, [], ◌∷◌, ◌++◌, length, append-nil, refl, sym, ap, ◌∙◌, subst, arith}
use Rattle.std.proofs.lemmas.List.{append_assoc, length-append, map-append}
use Rattle.std.proofs.lemmas.List.Elements.{All-append, All-contains_itself, All-nil, All-weaker, All-contains}
use Rattle.std.specs.List.{count_by, fold}
use Rattle.outside.specs.Counts.{added_counts}
use Rattle.wire_base.specs.Ranges.{IsNote}
use Rattle.wire_base.specs.declared.note.Note.{Note}
use Rattle.settle_box.specs.Collector.{Collector, collector}
use Rattle.settle_box.specs.Notes.{IsPostable}
use Rattle.settle_box.specs.Senders.{notes}
use Rattle.settle_box.specs.declared.sender.Sent.{Sent}
use Rattle.keeper.specs.Collecting.{Collects, is_dropped, is_shipped}
use Rattle.keeper.specs.Keeping.{Keeping, held_in}

abbrev step : (Note → Bool) → ℕ → Note → ℕ
step p count note = count + cond (p note) 1 0

counted_from : (p : Note → Bool) (n : ℕ) (ys : List Note) → fold (step p) n ys ≡ n + fold (step p) 0 ys
counted_from p n [] = omega arith
counted_from p n (y ∷ ys) =
    let here = counted_from p (n + cond (p y) 1 0) ys in let there = counted_from p (0 + cond (p y) 1 0) ys in omega (arith, here, there)

counted_on : (p : Note → Bool) (n : ℕ) (xs ys : List Note) → fold (step p) n (xs ++ ys) ≡ fold (step p) (fold (step p) n xs) ys
counted_on p n [] ys = refl
counted_on p n (x ∷ xs) ys = counted_on p (n + cond (p x) 1 0) xs ys

count-append : (p : Note → Bool) (xs ys : List Note) → count_by p (xs ++ ys) ≡ count_by p xs + count_by p ys
count-append p xs ys = counted_on p 0 xs ys ∙ counted_from p (count_by p xs) ys

count_more : (a b c n m : ℕ) → b ≡ added_counts a n → c ≡ added_counts b m → c ≡ added_counts a (n + m)
count_more a b c n m first second = omega (arith, first, second)

pub collects_none : (k : Keeping) → Collects k k
collects_none k = record {
  sent = [];
  more = [];
  pass = ap (collector k.pass.desk) (sym (append-nil k.pass.got));
  noted = sym (append-nil k.tracked.notes);
  notes_are = append-nil (held_in k.held);
  kinds = All-nil IsPostable;
  ranges = All-nil IsNote;
  opening = refl;
  gone = All-contains_itself k.tracked.gone;
  shipped = omega arith;
  dropped = omega arith;
  collected = omega arith;
}

module _ (a b c : Keeping) (first : Collects a b) (second : Collects b c) where
  notes_both : notes (first.sent ++ second.sent) ≡ notes first.sent ++ notes second.sent
  notes_both = map-append (λ (s : Sent). s.note) first.sent second.sent

  both_counted : (p : Note → Bool) (x y z : ℕ) → y ≡ added_counts x (count_by p (notes first.sent)) → z ≡ added_counts y (count_by p (notes second.sent)) → z ≡ added_counts x (count_by p (notes (first.sent ++ second.sent)))
  both_counted p x y z f s =
      count_more x y z (count_by p (notes first.sent)) (count_by p (notes second.sent)) f s
      ∙ ap (added_counts x) (sym (count-append p (notes first.sent) (notes second.sent)) ∙ ap (count_by p) (sym notes_both))

  pub collects_more : Collects a c
  collects_more =
      let s1 = first.sent in
      let s2 = second.sent in
      let m1 = first.more in
      let m2 = second.more in
      record {
        sent = s1 ++ s2;
        more = m1 ++ m2;
        pass = second.pass ∙ ap (λ (p : Collector). collector p.desk (p.got ++ s2)) first.pass ∙ ap (collector a.pass.desk) (append_assoc a.pass.got s1 s2);
        noted = second.noted ∙ ap (λ (l : List Note). l ++ m2) first.noted ∙ append_assoc a.tracked.notes m1 m2;
        notes_are = ap (λ (l : List Note). held_in a.held ++ l) notes_both ∙ sym (append_assoc (held_in a.held) (notes s1) (notes s2)) ∙ ap (λ (l : List Note). l ++ notes s2) first.notes_are
            ∙ append_assoc m1 (held_in b.held) (notes s2) ∙ ap (λ (l : List Note). m1 ++ l) second.notes_are ∙ sym (append_assoc m1 m2 (held_in c.held));
        kinds = subst (All IsPostable) (sym notes_both) (All-append IsPostable (notes s1) (notes s2) first.kinds second.kinds);
        ranges = subst (All IsNote) (sym notes_both) (All-append IsNote (notes s1) (notes s2) first.ranges second.ranges);
        opening = second.opening ∙ first.opening;
        gone = All-weaker (Contains b.tracked.gone) (Contains c.tracked.gone) (λ slot there. All-contains (Contains c.tracked.gone) b.tracked.gone slot second.gone there) a.tracked.gone first.gone;
        shipped = both_counted is_shipped a.shipped b.shipped c.shipped first.shipped second.shipped;
        dropped = both_counted is_dropped a.dropped b.dropped c.dropped first.dropped second.dropped;
        collected = count_more a.collected b.collected c.collected (length s1) (length s2) first.collected second.collected ∙ ap (added_counts a.collected) (sym (length-append s1 s2));
      }
