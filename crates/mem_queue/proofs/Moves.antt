-- Each step of the queue keeps the rule: entries and exits.
use Rattle.std.proofs.Common.{◌≡◌, ◌≢◌, ℕ, List, [], ◌∷◌, ◌++◌, length, set, Option, Some, None, refl, sym, ap, ◌∙◌, arith, append_assoc}
use mathlib.Core.Option.{some}
use lib.ListN.{get_elem?}
use Rattle.crossbeam_queue.specs.Fifo.{Pushes, Pops, Learns}
use Rattle.wire_base.specs.declared.parcel.Parcel.{Parcel}
use Rattle.wire_base.specs.Ranges.{IsParcel}
use Rattle.pass_sums.specs.Share.{IsWhole}
use Rattle.pass_sums.specs.Weight.{weigh}
use Rattle.pass_sums.proofs.Each.{all_both, all_cons, all_head, all_none, all_tail}
use Rattle.pass_sums.proofs.Shares.{others_have_none, whole_is_some, whole_set}
use Rattle.pass_sums.proofs.Views.{each_set, weigh-one, weigh-only, weigh-set}
use Rattle.pass_sums.proofs.Weights.{weigh-append}
use Rattle.mem_queue.specs.declared.rule.Hand.{Hand}
use Rattle.mem_queue.specs.Conserved.{IsConserved}
use Rattle.mem_queue.specs.Entries.{entry, numbered}
use Rattle.mem_queue.specs.Hand.{hand}
use Rattle.mem_queue.specs.Rule.{IsConserving, IsWithinRights, IsAllowed, KnowsRest}
use Rattle.mem_queue.specs.Steps.{PutsBehind, TakesFirst, EndsAt, DrainsNext}
use Rattle.mem_queue.proofs.Numbering.{weigh-one-more, before-end, reach}

module _ (items : List Parcel) (views : List Hand) (rule : IsConserving items views) (pass : ℕ) (v : Hand) (at : get_elem? views pass ≡ some v) where
  -- while another pass has a part of a right, nobody knows a closed queue's rest
  no_rest_beside_puts : v.puts ≢ [] → (other : ℕ) (u : Hand) (rest : List Parcel) → other ≢ pass → get_elem? views other ≡ some u → u.rest ≡ Some rest → ⊥
  no_rest_beside_puts may other u rest apart there knows =
      may (others_have_none (λ (y : Hand). y.puts) views other pass u v rule.puts there (rule.rests other u there rest knows).puts at (λ same. apart (sym same)))

  no_rest_beside_takes : v.takes ≢ [] → (other : ℕ) (u : Hand) (rest : List Parcel) → other ≢ pass → get_elem? views other ≡ some u → u.rest ≡ Some rest → ⊥
  no_rest_beside_takes may other u rest apart there knows =
      may (others_have_none (λ (y : Hand). y.takes) views other pass u v rule.takes there (rule.rests other u there rest knows).takes at (λ same. apart (sym same)))

  -- who has the whole of both rights knows all that was put and taken
  pub all_is_known : IsWhole v.puts → IsWhole v.takes → IsConserved v.put v.taken items
  all_is_known puts takes = record {
    gone = rule.conserved.gone;
    all_put = λ h. sym (weigh-only (λ (y : Hand). y.put) h views pass v at (λ other u there apart.
        (rule.rights other u there).put (others_have_none (λ (y : Hand). y.puts) views pass other v u rule.puts at puts there apart))) ∙ rule.conserved.all_put h;
    all_taken = λ h. sym (weigh-only (λ (y : Hand). y.taken) h views pass v at (λ other u there apart.
        (rule.rights other u there).taken (others_have_none (λ (y : Hand). y.takes) views pass other v u rule.takes at takes there apart))) ∙ rule.conserved.all_taken h;
  }

-- a put
pub puts : (n pass : ℕ) (v : Hand) (x : Parcel) → v.puts ≢ [] → IsParcel x → Pushes IsConserving n pass v x (PutsBehind v x)
puts n pass v x may range items views room rule at =
    let row = rule.conserved.gone ++ items in
    let w = hand v.puts v.takes (v.put ++ entry (length row) x ∷ []) v.taken None in (
      w,
      record {
        puts = whole_set (λ (y : Hand). y.puts) views pass v w at refl rule.puts;
        takes = whole_set (λ (y : Hand). y.takes) views pass v w at refl rule.takes;
        conserved = record {
          gone = rule.conserved.gone;
          all_put = λ h. omega (
            arith,
            weigh-set (λ (y : Hand). y.put) h views pass v w at,
            weigh-append h v.put (entry (length row) x ∷ []),
            rule.conserved.all_put h,
            weigh-one-more h row x,
            ap (λ (ps : List Parcel). weigh h (numbered 0 ps)) (append_assoc rule.conserved.gone items (x ∷ [])),
          );
          all_taken = λ h. omega (arith, weigh-set (λ (y : Hand). y.taken) h views pass v w at, rule.conserved.all_taken h);
        };
        ranges = all_both IsParcel items (x ∷ []) rule.ranges (all_cons IsParcel x [] range (all_none IsParcel));
        rights = each_set (λ _ u. IsWithinRights u) views pass w
            (record { put = λ none. absurd (may none); taken = (rule.rights pass v at).taken }) (λ other u _ there. rule.rights other u there);
        rests = each_set (λ _ u. (rest : List Parcel) → u.rest ≡ Some rest → KnowsRest u (items ++ x ∷ []) rest) views pass w
            (λ rest knows. absurd cc)
            (λ other u apart there rest knows. absurd (no_rest_beside_puts items views rule pass v at may other u rest apart there knows));
      },
      record {
        number = length row;
        before = before-end row v.put (omega (arith, weigh-one (λ (y : Hand). y.put) (reach (length row)) views pass v at, rule.conserved.all_put (reach (length row))));
        is = refl;
      },
    )

-- an exit: the first parcel becomes one of those that this pass took, and what it knows of the rest may change
leaves : (x : Parcel) (items : List Parcel) (views : List Hand) (pass : ℕ) (v : Hand) (rest : Option (List Parcel)) (rule : IsConserving (x ∷ items) views) → get_elem? views pass ≡ some v → v.takes ≢ []
    → ((last : List Parcel) → rest ≡ Some last → KnowsRest (hand v.puts v.takes v.put (v.taken ++ entry (length rule.conserved.gone) x ∷ []) rest) items last)
    → IsConserving items (set views pass (hand v.puts v.takes v.put (v.taken ++ entry (length rule.conserved.gone) x ∷ []) rest))
leaves x items views pass v rest rule at may knows =
    let gone = rule.conserved.gone in
    let w = hand v.puts v.takes v.put (v.taken ++ entry (length gone) x ∷ []) rest in record {
      puts = whole_set (λ (y : Hand). y.puts) views pass v w at refl rule.puts;
      takes = whole_set (λ (y : Hand). y.takes) views pass v w at refl rule.takes;
      conserved = record {
        gone = gone ++ x ∷ [];
        all_put = λ h. omega (
          arith,
          weigh-set (λ (y : Hand). y.put) h views pass v w at,
          rule.conserved.all_put h,
          ap (λ (ps : List Parcel). weigh h (numbered 0 ps)) (append_assoc gone (x ∷ []) items),
        );
        all_taken = λ h. omega (
          arith,
          weigh-set (λ (y : Hand). y.taken) h views pass v w at,
          weigh-append h v.taken (entry (length gone) x ∷ []),
          rule.conserved.all_taken h,
          weigh-one-more h gone x,
        );
      };
      ranges = all_tail IsParcel x items rule.ranges;
      rights = each_set (λ _ u. IsWithinRights u) views pass w
          (record { put = (rule.rights pass v at).put; taken = λ none. absurd (may none) }) (λ other u _ there. rule.rights other u there);
      rests = each_set (λ _ u. (last : List Parcel) → u.rest ≡ Some last → KnowsRest u items last) views pass w knows
          (λ other u apart there last known. absurd (no_rest_beside_takes (x ∷ items) views rule pass v at may other u last apart there known));
    }

-- a take
pub takes : (pass : ℕ) (v : Hand) → v.takes ≢ [] → Pops IsConserving pass v (TakesFirst v)
takes pass v may x items views rule at =
    let gone = rule.conserved.gone in (
      hand v.puts v.takes v.put (v.taken ++ entry (length gone) x ∷ []) None,
      leaves x items views pass v None rule at may (λ last known. absurd cc),
      record {
        number = length gone;
        before = before-end gone v.taken (omega (arith, weigh-one (λ (y : Hand). y.taken) (reach (length gone)) views pass v at, rule.conserved.all_taken (reach (length gone))));
        range = all_head IsParcel x items rule.ranges;
        is = refl;
      },
    )

-- the first take of a closed queue
pub ends : (pass : ℕ) (v : Hand) → IsWhole v.puts → IsWhole v.takes → Pops IsConserving pass v (EndsAt v)
ends pass v puts takes x items views rule at = (
  hand v.puts v.takes v.put (v.taken ++ entry (length rule.conserved.gone) x ∷ []) (Some items),
  leaves x items views pass v (Some items) rule at (whole_is_some v.takes takes)
      (λ last known. record { puts = puts; takes = takes; is = cc }),
  record {
    rest = items;
    conserved = all_is_known (x ∷ items) views rule pass v at puts takes;
    ranges = rule.ranges;
    is = refl;
  },
)

-- a later take of a closed queue
pub drains : (pass : ℕ) (v : Hand) (rest : List Parcel) → v.rest ≡ Some rest → Pops IsConserving pass v (DrainsNext v)
drains pass v rest known x items views rule at =
    let knows = rule.rests pass v at rest known in (
      hand v.puts v.takes v.put (v.taken ++ entry (length rule.conserved.gone) x ∷ []) (Some items),
      leaves x items views pass v (Some items) rule at (whole_is_some v.takes knows.takes)
          (λ last same. record { puts = knows.puts; takes = knows.takes; is = cc }),
      record {
        rest = items;
        was = known ∙ ap Some knows.is;
        is = refl;
      },
    )

-- what the rule tells of the queue, to any pass
pub allows : (pass : ℕ) (v : Hand) → Learns IsConserving pass v (IsAllowed v)
allows pass v items views rule at = record { pass = pass; views = views; rule = rule; knows = at }

-- what it tells to the only pass
pub totals : (pass : ℕ) (v : Hand) → IsWhole v.puts → IsWhole v.takes → Learns IsConserving pass v (λ items. IsConserved v.put v.taken items)
totals pass v puts takes items views rule at = all_is_known items views rule pass v at puts takes

-- what it tells to the pass of a closed queue
pub shows_rest : (pass : ℕ) (v : Hand) (rest : List Parcel) → v.rest ≡ Some rest → Learns IsConserving pass v (λ items. v.rest ≡ Some items)
shows_rest pass v rest known items views rule at = known ∙ ap Some (rule.rests pass v at rest known).is
