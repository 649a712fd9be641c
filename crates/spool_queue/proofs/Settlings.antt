-- Payloads that are settled, one call behind the other, and what a crash leaves of them.
use Rattle.std.proofs.Common.{◌≡◌, inl, inr, ℕ, zero, suc, ◌+◌, ◌-◌, ◌^◌, ◌<◌, ◌≤◌, List, [], ◌∷◌, ◌++◌, length, take, drop, Option, Some, None, refl, sym, ap, ◌∙◌, subst, arith, append_assoc}
use Rattle.std.proofs.lemmas.List.{drop-drop, drop_at}
use Rattle.outside.specs.DiskImages.{LeavesOnly, Only}
use Rattle.outside.specs.Moments.{started}
use Rattle.outside.specs.declared.disk.Disk.{Ghosts as DiskGhosts}
use Rattle.spool_queue.specs.declared.spool.Spool.{Spool}
use Rattle.spool_queue.specs.Appending.{appended}
use Rattle.spool_queue.specs.Log.{Log, log_bytes, payloads}
use Rattle.spool_queue.specs.SendSoFar.{IsDropped, Settles}
use Rattle.spool_queue.specs.Spool.{EndsAt, IsReadAs, Reaches}
use Rattle.spool_queue.specs.Standing.{Holds, HoldsList, IsClosed, IsEither, IsSpoolOf, KeepsPlaces, count_of}
use Rattle.spool_queue.proofs.Crashes.{behind, weaker}
use Rattle.spool_queue.proofs.Logs.{bytes_on, read_front}
use Rattle.spool_queue.proofs.Puttings.{held_reads}

-- ---- fronts of lists

none_taken : {A : Type 0} (m : ℕ) (l : List A) → length l ≡ 0 → take m l ≡ []
none_taken zero l none = refl
none_taken (suc m) [] none = refl
none_taken (suc m) (x ∷ l) none = absurd (omega (arith, none))

takes : {A : Type 0} (n m s : ℕ) (l : List A) → s ≡ n + m → take s l ≡ take n l ++ take m (drop n l)
takes zero m s l sum = let same : s ≡ m = omega (arith, sum) in ap (λ (k : ℕ). take k l) same
takes (suc n) m zero l sum = absurd (omega (arith, sum))
takes (suc n) m (suc s) [] sum = sym (none_taken m [] refl)
takes (suc n) m (suc s) (x ∷ l) sum = ap (λ (r : List _). x ∷ r) (takes n m s l (omega (arith, sum)))

pub takes_both : {A : Type 0} (n m : ℕ) (l : List A) → take (n + m) l ≡ take n l ++ take m (drop n l)
takes_both n m l = takes n m (n + m) l refl

-- ---- records that stay where they are

pub stays_behind : (whole log : Log) (end place : ℕ) (bytes text : List ℕ) → (ends : EndsAt bytes whole end) → Reaches bytes log place (drop place bytes) → length (payloads log) < 2 ^ 64
    → Reaches (appended (log_bytes whole) text ends.rest) log place (drop place (appended (log_bytes whole) text ends.rest))
stays_behind whole log end place bytes text ends is few =
    let on = bytes_on log whole (read_front bytes log whole place end (drop place bytes) is few ends) in
    let tail : List ℕ = 0x7B ∷ (text ++ drop (length text) ends.rest) in
    let now : appended (log_bytes whole) text ends.rest ≡ log_bytes log ++ (on.0 ++ tail) = ap (λ (l : List ℕ). l ++ tail) on.1 ∙ append_assoc (log_bytes log) on.0 tail in
    let left : drop place (appended (log_bytes whole) text ends.rest) ≡ on.0 ++ tail = ap (drop place) now ∙ drop_at (log_bytes log) (on.0 ++ tail) place is.begins in
    record { each = is.each; bytes = now ∙ ap (λ (l : List ℕ). log_bytes log ++ l) (sym left); begins = is.begins }

pub holds_place : (log : Log) (place : ℕ) (contents : Option (List ℕ)) (bytes : List ℕ) → contents ≡ Some bytes → Reaches bytes log place (drop place bytes) → Holds (λ now. Reaches now log place (drop place now)) contents
holds_place log place contents bytes same is = let H : Option (List ℕ) → Type 0 = λ o. Holds (λ now. Reaches now log place (drop place now)) o in subst H (sym same) is

-- behind a record that was appended
pub holds_stays : (contents : Option (List ℕ)) (whole log : Log) (end place : ℕ) (bytes text : List ℕ) → (ends : EndsAt bytes whole end) → Reaches bytes log place (drop place bytes) → length (payloads log) < 2 ^ 64 → contents ≡ Some (appended (log_bytes whole) text ends.rest)
    → Holds (λ now. Reaches now log place (drop place now)) contents
holds_stays contents whole log end place bytes text ends is few same = holds_place log place contents (appended (log_bytes whole) text ends.rest) same (stays_behind whole log end place bytes text ends is few)

pub stay_both : (was middle : Spool) (n : ℕ) (before mid after : Option (List ℕ)) → KeepsPlaces was before mid → KeepsPlaces middle mid after → ((list : List (List ℕ)) → HoldsList was list before → HoldsList middle (drop n list) mid) → KeepsPlaces was before after
stay_both was middle n before None after first second held = λ bytes list log place told is reaches few. absurd (first bytes list log place told is reaches few)
stay_both was middle n before (Some bytes') after first second held = λ bytes list log place told is reaches few.
    second bytes' (drop n list) log place refl (held_at bytes list told is) (first bytes list log place told is reaches few) few
  where
    held_at : (bytes : List ℕ) (list : List (List ℕ)) → before ≡ Some bytes → IsSpoolOf was bytes list → IsSpoolOf middle bytes' (drop n list)
    held_at bytes list told is = let H : Option (List ℕ) → Type 0 = λ o. HoldsList was list o in held list (subst H (sym told) is)

pub stay : (was : Spool) (contents : Option (List ℕ)) → KeepsPlaces was contents contents
stay was contents = λ bytes list log place told is reaches few. holds_place log place contents bytes told reaches

module _ {D : Type 0} (d : DiskGhosts D) where
  -- nothing was settled
  pub settles_none : (disk : D) (spool : Spool) → ((image : List ℕ) → d.images_since disk (d.moment disk) image → d.images disk image) → Settles d disk disk spool spool 0 0
  settles_none disk spool here = record {
    counted = omega arith;
    within = omega arith;
    whole = λ same list holds. holds;
    durable = λ same only. only;
    still_open = λ same is. is;
    crashes = λ only list holds. started d.moment d.images_since disk (IsDropped 0 list) (λ image left. (0, omega arith, held_reads spool list (d.contents disk) image holds (only image (here image left))));
    faults = omega arith;
  }

  either_dropped : (n : ℕ) (list : List (List ℕ)) (image : List ℕ) → IsEither list (drop n list) image → IsDropped n list image
  either_dropped n list image (inl before) = (0, omega arith, before)
  either_dropped n list image (inr after) = (n, omega arith, after)

  pub crash_in_settling : (old new : D) (was : Spool) (n : ℕ) → (Only (d.contents old) (d.images old) → (bytes : List ℕ) (list : List (List ℕ)) → d.contents old ≡ Some bytes → IsSpoolOf was bytes list → LeavesOnly d.moment d.images_since old new (IsEither list (drop n list)))
      → Only (d.contents old) (d.images old) → (list : List (List ℕ)) → HoldsList was list (d.contents old) → LeavesOnly d.moment d.images_since old new (IsDropped n list)
  crash_in_settling old new was n leaves = λ only list holds. by_contents (d.contents old) refl only list holds
    where
      by_contents : (contents : Option (List ℕ)) → d.contents old ≡ contents → Only (d.contents old) (d.images old) → (list : List (List ℕ)) → HoldsList was list contents → LeavesOnly d.moment d.images_since old new (IsDropped n list)
      by_contents None told only list holds = absurd holds
      by_contents (Some bytes) told only list holds = weaker d.moment d.images_since old new (IsEither list (drop n list)) (IsDropped n list) (leaves only bytes list told holds) (either_dropped n list)

  pub settled_holds : (contents now : Option (List ℕ)) (was spool : Spool) (n : ℕ) → ((bytes : List ℕ) (list : List (List ℕ)) → contents ≡ Some bytes → IsSpoolOf was bytes list → HoldsList spool (drop n list) now) → (list : List (List ℕ)) → HoldsList was list contents → HoldsList spool (drop n list) now
  settled_holds None now was spool n settled list holds = absurd holds
  settled_holds (Some bytes) now was spool n settled list holds = settled bytes list refl holds

  -- one run behind another
  pub settles_both : (old mid new : D) (was middle now : Spool) (n done tried : ℕ) → Settles d old mid was middle n n → Settles d mid new middle now done tried → Settles d old new was now (n + done) (n + tried)
  settles_both old mid new was middle now n done tried one other =
      let more : (list : List (List ℕ)) (k : ℕ) → drop k (drop n list) ≡ drop (n + k) list = λ list k. drop-drop k n list in
      record {
        counted = omega (arith, one.counted, other.counted);
        within = omega (arith, other.within);
        whole = λ same list holds. let H : List (List ℕ) → Type 0 = λ l. HoldsList now l (d.contents new) in
            subst H (more list done) (other.whole (equal same) (drop n list) (one.whole refl list holds));
        durable = λ same only. other.durable (equal same) (one.durable refl only);
        still_open = λ same is. other.still_open (equal same) (one.still_open refl is);
        crashes = λ only list holds. behind d.moment d.images_since old mid new (IsDropped (n + tried) list)
            (weaker d.moment d.images_since old mid (IsDropped n list) (IsDropped (n + tried) list) (one.crashes only list holds) (λ image (k, le, reads). (k, omega (arith, le), reads)))
            (weaker d.moment d.images_since mid new (IsDropped tried (drop n list)) (IsDropped (n + tried) list) (other.crashes (one.durable refl only) (drop n list) (one.whole refl list holds))
            (λ image (k, le, reads). let R : List (List ℕ) → Type 0 = λ l. IsReadAs image l in (n + k, omega (arith, le), subst R (more list k) reads)));
        faults = omega (arith, one.faults, other.faults);
      }
    where
      equal : n + tried ≡ n + done → tried ≡ done
      equal same = omega (arith, same)

  -- nothing was, for the disk failed
  pub settles_failed : (old new : D) (was now : Spool) (n m : ℕ) → n ≡ m → 0 < n → count_of now ≡ count_of was → (Only (d.contents old) (d.images old) → (list : List (List ℕ)) → HoldsList was list (d.contents old) → LeavesOnly d.moment d.images_since old new (IsDropped n list)) → d.faults old ≤ d.faults new
      → Settles d old new was now 0 m
  settles_failed old new was now n m same some counted crashes faults = record {
    counted = omega (arith, counted);
    within = omega arith;
    whole = λ none. absurd (omega (arith, none, same, some));
    durable = λ none. absurd (omega (arith, none, same, some));
    still_open = λ none. absurd (omega (arith, none, same, some));
    crashes = λ only list holds. let L : ℕ → Type 0 = λ k. LeavesOnly d.moment d.images_since old new (IsDropped k list) in subst L same (crashes only list holds);
    faults = faults;
  }

  pub settles_all : (old new : D) (was now : Spool) (n m : ℕ) → n ≡ m → n ≤ count_of was → count_of now ≡ count_of was - n → ((list : List (List ℕ)) → HoldsList was list (d.contents old) → HoldsList now (drop n list) (d.contents new)) → Only (d.contents new) (d.images new) → ¬ (IsClosed now)
      → (Only (d.contents old) (d.images old) → (list : List (List ℕ)) → HoldsList was list (d.contents old) → LeavesOnly d.moment d.images_since old new (IsDropped n list)) → d.faults old ≤ d.faults new → Settles d old new was now m m
  settles_all old new was now n m same few counted whole only unclosed crashes faults = record {
    counted = omega (arith, counted, few, same);
    within = omega arith;
    whole = λ none list holds. let H : ℕ → Type 0 = λ k. HoldsList now (drop k list) (d.contents new) in subst H same (whole list holds);
    durable = λ none before. only;
    still_open = λ none before. unclosed;
    crashes = λ only list holds. let L : ℕ → Type 0 = λ k. LeavesOnly d.moment d.images_since old new (IsDropped k list) in subst L same (crashes only list holds);
    faults = faults;
  }
