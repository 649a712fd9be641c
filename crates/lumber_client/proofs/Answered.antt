-- How far windows are acknowledged, and what one more acknowledgement changes.
use Rattle.std.proofs.Common.{◌≡◌, ℕ, suc, ◌+◌, ◌<◌, ◌≤◌, List, [], ◌∷◌, ◌++◌, length, get_or, take, drop, refl, sym, ap, subst, ◌∙◌, append_assoc, arith, inl, inr}
use Rattle.std.specs.List.{AllByRecursion}
use Rattle.std.proofs.lemmas.Bool.{cases_lt}
use Rattle.std.proofs.lemmas.List.{map-append, length-append, length-map, length-take, get_or_append_left, take-append-drop, take_at}
use Rattle.std.proofs.lemmas.List.Concat.{flat_map-append}
use Rattle.wire_base.specs.declared.parcel.Parcel.{Parcel}
use Rattle.lumber_frame.specs.Acknowledged.{Answer, count_at, greatest}
use Rattle.lumber_frame.specs.Window.{IsWindow}
use Rattle.lumber_frame.proofs.Asking.{greatest_elsewhere}
use Rattle.lumber_frame.proofs.Staying.{count_stays}
use Rattle.lumber_client.specs.Exchange.{parcels_by, payloads_of, windows_of}
use Rattle.lumber_client.specs.Held.{IsPart, total}
use Rattle.lumber_client.specs.Standing.{AreAnswered}
use Rattle.lumber_client.proofs.Given.{newly_given}
use Rattle.lumber_client.proofs.Parcels.{joined, sizes, count_of, count_seam, of_all}

-- ---- which parcels

-- those that are acknowledged: all of the windows in full, and the front of the oldest one in flight
pub acked_form : (begun : List (List Parcel)) (given : List Answer) (full : ℕ) (flights : List ℕ) (done last : ℕ) (a : AreAnswered begun given full flights done last) → parcels_by given 1 begun ≡ joined a.first ++ take done (joined a.flying)
acked_form begun given full flights done last a =
    let first = a.first in
    let flying = a.flying in
    let each : (i : ℕ) → i < length first → greatest (1 + i) given ≡ length (get_or first i []) = λ i there.
    let number : 1 + i ≡ suc i = omega arith in
    let counted = ap (λ (b : List (List Parcel)). count_at (windows_of b) (suc i)) a.all ∙ count_of (first ++ flying) i (omega (arith, there, length-append first flying)) in
    ap (λ (k : ℕ). greatest k given) number ∙ a.in_full (suc i) (omega (arith, there, a.number)) ∙ counted ∙ ap length (get_or_append_left first flying [] i there) in
    let last_number : 1 + length first ≡ suc full = omega (arith, a.number) in
    let part : IsPart done (sizes flying) = subst (λ (counts : List ℕ). IsPart done counts) (sym a.counts) a.part in
    ap (parcels_by given 1) a.all
    ∙ of_all given 1 done first flying each (ap (λ (k : ℕ). greatest k given) last_number ∙ a.oldest) (λ window more. a.later window (omega (arith, more, a.number))) part

pub length-joined : (windows : List (List Parcel)) → length (joined windows) ≡ total (sizes windows)
length-joined [] = refl
length-joined (parcels ∷ windows) = omega (arith, length-append parcels (joined windows), length-joined windows)

pub part_few : (done : ℕ) (counts : List ℕ) → IsPart done counts → done ≤ total counts
part_few done [] part = omega (arith, part)
part_few done (count ∷ counts) part = omega (arith, part)

-- how many they are
pub acked_number : (begun : List (List Parcel)) (given : List Answer) (full : ℕ) (flights : List ℕ) (done last : ℕ) (a : AreAnswered begun given full flights done last) → length (parcels_by given 1 begun) + total flights ≡ length (joined begun) + done
acked_number begun given full flights done last a =
    let form = acked_form begun given full flights done last a in
    let front = joined a.first in
    let back = joined a.flying in
    let together = ap (λ (b : List (List Parcel)). length (joined b)) a.all ∙ ap length (flat_map-append (λ (parcels : List Parcel). parcels) a.first a.flying) ∙ length-append front back in
    let size = length-joined a.flying ∙ ap total a.counts in
    omega (arith, ap length form, length-append front (take done back), length-take done back, size, part_few done flights a.part, together)

-- they are the front of all that was begun
pub acked_front : (begun : List (List Parcel)) (given : List Answer) (full : ℕ) (flights : List ℕ) (done last : ℕ) (a : AreAnswered begun given full flights done last) → parcels_by given 1 begun ≡ take (length (parcels_by given 1 begun)) (joined begun)
acked_front begun given full flights done last a =
    let form = acked_form begun given full flights done last a in
    let front = joined a.first in
    let back = joined a.flying in
    let acked = parcels_by given 1 begun in
    let all : joined begun ≡ (front ++ take done back) ++ drop done back = ap joined a.all ∙ flat_map-append (λ (parcels : List Parcel). parcels) a.first a.flying ∙ ap (λ (tail : List Parcel). front ++ tail) (sym (take-append-drop done back)) ∙ sym (append_assoc front (take done back) (drop done back)) in
    let spelled : joined begun ≡ acked ++ drop done back = all ∙ ap (λ (head : List Parcel). head ++ drop done back) (sym form) in
    sym (ap (take (length acked)) spelled ∙ take_at acked (drop done back) (length acked) refl)

-- ---- steps

part_more : (done : ℕ) (counts : List ℕ) (count : ℕ) → 0 < count → IsPart done counts → IsPart done (counts ++ count ∷ [])
part_more done [] count some part = omega (arith, part)
part_more done (first ∷ counts) count some part = part

-- a window's count stays as another is begun
count_still : (begun : List (List Parcel)) (parcels : List Parcel) (window : ℕ) → window ≤ length begun → count_at (windows_of (begun ++ parcels ∷ [])) window ≡ count_at (windows_of begun) window
count_still begun parcels window there =
    ap (λ (windows : List (List (List ℕ))). count_at windows window) (map-append payloads_of begun (parcels ∷ []))
    ∙ count_stays (windows_of begun) (payloads_of parcels ∷ []) window (omega (arith, there, length-map begun payloads_of))

-- a window is begun
pub answered_begun : (begun : List (List Parcel)) (parcels : List Parcel) (given : List Answer) (full : ℕ) (flights : List ℕ) (done last : ℕ) → 0 < length parcels → AreAnswered begun given full flights done last → AreAnswered (begun ++ parcels ∷ []) given full (flights ++ length parcels ∷ []) done last
answered_begun begun parcels given full flights done last some a =
    let size : length begun ≡ length a.first + length a.flying = ap length a.all ∙ length-append a.first a.flying in
    record {
      first = a.first;
      flying = a.flying ++ parcels ∷ [];
      all = ap (λ (front : List (List Parcel)). front ++ parcels ∷ []) a.all ∙ append_assoc a.first a.flying (parcels ∷ []);
      number = a.number;
      in_full = λ window few. a.in_full window few ∙ sym (count_still begun parcels window (omega (arith, few, size, a.number)));
      oldest = a.oldest;
      later = a.later;
      counts = map-append (λ (p : List Parcel). length p) a.flying (parcels ∷ []) ∙ ap (λ (front : List ℕ). front ++ length parcels ∷ []) a.counts;
      part = part_more done flights (length parcels) some a.part;
      last_count = a.last_count ∙ sym (count_still begun parcels full (omega (arith, size, a.number)));
    }

-- the greatest numbers are the same
pub answered_same : (begun : List (List Parcel)) (given more : List Answer) (full : ℕ) (flights : List ℕ) (done last : ℕ) → ((window : ℕ) → greatest window more ≡ greatest window given) → AreAnswered begun given full flights done last → AreAnswered begun more full flights done last
answered_same begun given more full flights done last same a = record {
  first = a.first;
  flying = a.flying;
  all = a.all;
  number = a.number;
  in_full = λ window few. same window ∙ a.in_full window few;
  oldest = same (suc full) ∙ a.oldest;
  later = λ window past. same window ∙ a.later window past;
  counts = a.counts;
  part = a.part;
  last_count = a.last_count;
}

-- more of the oldest window in flight is acknowledged, and not all
pub answered_more : (begun : List (List Parcel)) (given : List Answer) (full count : ℕ) (counts : List ℕ) (done last number : ℕ) → AreAnswered begun given full (count ∷ counts) done last → done < number → number < count → AreAnswered begun (given ++ record { window = suc full; number = number } ∷ []) full (count ∷ counts) number last
answered_more begun given full count counts done last number a more few =
    let elsewhere : (window : ℕ) → (suc full ≡ window → ⊥) → greatest window (given ++ record { window = suc full; number = number } ∷ []) ≡ greatest window given = λ window apart. greatest_elsewhere window (suc full) number given apart in
    record {
      first = a.first;
      flying = a.flying;
      all = a.all;
      number = a.number;
      in_full = λ window less. elsewhere window (λ same. absurd (omega (arith, same, less))) ∙ a.in_full window less;
      oldest = newly_given given (suc full) number (omega (arith, a.oldest, more));
      later = λ window past. elsewhere window (λ same. absurd (omega (arith, same, past))) ∙ a.later window past;
      counts = a.counts;
      part = few;
      last_count = a.last_count;
    }

-- if the windows in flight have parcels, so have the younger ones
some_younger : (flying : List (List Parcel)) (counts : List ℕ) → AllByRecursion IsWindow (windows_of flying) → sizes flying ≡ counts → IsPart 0 counts
some_younger [] counts each is = subst (λ (all : List ℕ). IsPart 0 all) is refl
some_younger (parcels ∷ flying) counts each is =
    let some : 0 < length parcels = omega (arith, each.0.some, length-map parcels (λ (p : Parcel). p.payload)) in
    subst (λ (all : List ℕ). IsPart 0 all) is some

-- the last windows of all
each_of : (first flying : List (List Parcel)) → AllByRecursion IsWindow (windows_of (first ++ flying)) → AllByRecursion IsWindow (windows_of flying)
each_of [] flying each = each
each_of (parcels ∷ first) flying each = each_of first flying each.1

answered_by : (begun : List (List Parcel)) (given : List Answer) (first flying : List (List Parcel)) (full count : ℕ) (counts : List ℕ) (number : ℕ) → AllByRecursion IsWindow (windows_of begun) → begun ≡ first ++ flying → length first ≡ full → sizes flying ≡ count ∷ counts
    → ((window : ℕ) → window ≤ suc full → greatest window given ≡ count_at (windows_of begun) window) → ((window : ℕ) → suc full < window → greatest window given ≡ 0)
    → number ≡ count_at (windows_of begun) (suc full) → AreAnswered begun given (suc full) counts 0 number
answered_by begun given first [] full count counts number each all size are in_full later same = absurd cc
answered_by begun given first (parcels ∷ flying) full count counts number each all size are in_full later same =
    let others : sizes flying ≡ counts = cc in
    let behind = each_of first (parcels ∷ flying) (subst (λ (b : List (List Parcel)). AllByRecursion IsWindow (windows_of b)) all each) in
    record {
      first = first ++ parcels ∷ [];
      flying = flying;
      all = all ∙ sym (append_assoc first (parcels ∷ []) flying);
      number = omega (arith, length-append first (parcels ∷ []), size);
      in_full = in_full;
      oldest = later (suc (suc full)) (omega arith);
      later = λ window past. later window (omega (arith, past));
      counts = others;
      part = some_younger flying counts behind.1 others;
      last_count = same;
    }

-- the count of the oldest window in flight
pub oldest_count : (begun : List (List Parcel)) (given : List Answer) (full count : ℕ) (counts : List ℕ) (done last : ℕ) → AreAnswered begun given full (count ∷ counts) done last → count_at (windows_of begun) (suc full) ≡ count
oldest_count begun given full count counts done last a =
    let number : suc full ≡ suc (length a.first) = omega (arith, a.number) in
    ap (λ (b : List (List Parcel)). count_at (windows_of b) (suc full)) a.all ∙ ap (count_at (windows_of (a.first ++ a.flying))) number ∙ count_seam a.first a.flying count counts a.counts

-- all of the oldest window in flight is acknowledged
pub answered_full : (begun : List (List Parcel)) (given : List Answer) (full count : ℕ) (counts : List ℕ) (done last number : ℕ) → AllByRecursion IsWindow (windows_of begun) → AreAnswered begun given full (count ∷ counts) done last → done < number → number ≡ count → AreAnswered begun (given ++ record { window = suc full; number = number } ∷ []) (suc full) counts 0 number
answered_full begun given full count counts done last number each a more same =
    let all_given = given ++ record { window = suc full; number = number } ∷ [] in
    let elsewhere : (window : ℕ) → (suc full ≡ window → ⊥) → greatest window all_given ≡ greatest window given = λ window apart. greatest_elsewhere window (suc full) number given apart in
    let newly : greatest (suc full) all_given ≡ number = newly_given given (suc full) number (omega (arith, a.oldest, more)) in
    let counted = oldest_count begun given full count counts done last a in
    answered_by begun all_given a.first a.flying full count counts number each a.all a.number a.counts
    (λ window few. elim (cases_lt full window) [
      | inl past ↦
          let here : window ≡ suc full = omega (arith, past, few) in
          ap (λ (k : ℕ). greatest k all_given) here ∙ newly ∙ same ∙ sym (ap (count_at (windows_of begun)) here ∙ counted)
      | inr old ↦ elsewhere window (λ is. absurd (omega (arith, is, old))) ∙ a.in_full window old
    ])
    (λ window past. elsewhere window (λ is. absurd (omega (arith, is, past))) ∙ a.later window past)
    (same ∙ sym counted)
