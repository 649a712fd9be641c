-- Lines that are put as a source is read.
use Rattle.std.proofs.Common.{◌≡◌, ℕ, ◌+◌, ◌<◌, List, [], ◌++◌, length, take, drop, Option, Some, None, Ok, Err, IfSome, refl, sym, ap, ◌∙◌, subst, arith, append_assoc, append-nil}
use Rattle.std.proofs.lemmas.List.{take-append-drop}
use Rattle.outside.specs.declared.disk.Disk.{Ghosts as DiskGhosts}
use Rattle.outside.specs.Streams.{GivesFront, ReadsOn}
use Rattle.spool_queue.specs.declared.spool.Spool.{Spool}
use Rattle.spool_queue.specs.declared.spool_error.SpoolError.{SpoolError}
use Rattle.spool_queue.specs.declared.spool_error.SpoolError.TheVariants.{Bad, DiskFault, TooLong, Full, Closed, NoMemory}
use Rattle.spool_queue.specs.declared.status.SpoolStatus.{SpoolStatus}
use Rattle.spool_queue.specs.declared.status.SpoolStatus.TheVariants as status
use Rattle.spool_queue.specs.declared.stop.Stop.TheVariants as stop
use Rattle.spool_queue.specs.Lines.{AreFirstLines, lines_behind, lines_of, refusal_of}
use Rattle.spool_queue.specs.PutSoFar.{CrashesInLines, IsRefused, PutsAll, PutsLines, StopsIn}
use Rattle.spool_queue.specs.Putting.{IsByRefusal}
use Rattle.spool_queue.specs.Standing.{IsClosed, reserved}
use Rattle.spool_queue.specs.Stopping.{status_for}
use Rattle.spool_queue.proofs.Puttings.{both_put, no_bytes, then_stops}

-- these bytes of the source were read, and the rest of them is left
abbrev pub HasReadTo : Option (List ℕ) → List ℕ → Option (List ℕ) → Type 0
HasReadTo None fed left = left ≡ None
HasReadTo (Some bytes) fed left = (rest : List ℕ) × (left ≡ Some rest) × (bytes ≡ fed ++ rest)

pub record HasPut {D : Type 0} (d : DiskGhosts D) (old new : D) (was now : Spool) (line : List ℕ) (source left : Option (List ℕ)) : Type 0 where
  pub fed : List ℕ
  pub put : PutsLines d old new was now [] fed line
  pub read : HasReadTo source fed left

read_none : (source : Option (List ℕ)) → HasReadTo source [] source
read_none None = refl
read_none (Some bytes) = (bytes, refl, refl)

read_more : (source left after : Option (List ℕ)) (fed into : List ℕ) (count : ℕ) → HasReadTo source fed left → ReadsOn left into (Ok count) after → HasReadTo source (fed ++ take count into) after
read_more None left after fed into count has reads = let P : Option (List ℕ) → Type 0 = λ l. ReadsOn l into (Ok count) after in subst P has reads
read_more (Some bytes) left after fed into count has reads =
    let P : Option (List ℕ) → Type 0 = λ l. ReadsOn l into (Ok count) after in
    let rest = has.0 in
    let gives : GivesFront rest into count after = subst P has.1 reads in (
      drop count rest,
      gives.rest,
      has.2
          ∙ ap (λ (l : List ℕ). fed ++ l) (sym (take-append-drop count rest))
          ∙ sym (append_assoc fed (take count rest) (drop count rest))
          ∙ ap (λ (l : List ℕ). (fed ++ l) ++ drop count rest) (sym gives.bytes),
    )

read_all : (source left after : Option (List ℕ)) (fed into : List ℕ) (count : ℕ) → 0 < length into → count ≡ 0 → HasReadTo source fed left → ReadsOn left into (Ok count) after → IfSome source (λ bytes. bytes ≡ fed)
read_all None left after fed into count some none has reads = tt
read_all (Some bytes) left after fed into count some none has reads =
    let P : Option (List ℕ) → Type 0 = λ l. ReadsOn l into (Ok count) after in
    let gives : GivesFront has.0 into count after = subst P has.1 reads in
    has.2 ∙ ap (λ (l : List ℕ). fed ++ l) (gives.zero_only_at_the_end some none) ∙ append-nil fed

-- so many lines of what was read are the first ones of the source
first_lines : (source left : Option (List ℕ)) (fed : List ℕ) (lines : List (List ℕ)) → ((more : List ℕ) → (later : List (List ℕ)) × (lines_behind [] (fed ++ more) ≡ lines ++ later)) → HasReadTo source fed left → AreFirstLines source lines
first_lines None left fed lines ended has = tt
first_lines (Some bytes) left fed lines ended has = let next = ended has.0 in (next.0, ap (lines_behind []) has.2 ∙ next.1)

by_refusal : (refusal : Option SpoolStatus) (error : SpoolError) (n m : ℕ) → n ≡ m → IsRefused refusal error n → IsByRefusal refusal (status_for (stop.Spool error) m)
by_refusal refusal (Bad at) n m same is = absurd is
by_refusal refusal DiskFault n m same is = tt
by_refusal refusal TooLong n m same is = is ∙ ap (λ (k : ℕ). Some (status.TooLong k)) same
by_refusal refusal Full n m same is = is ∙ ap (λ (k : ℕ). Some (status.Full k)) same
by_refusal refusal Closed n m same is = absurd is
by_refusal refusal NoMemory n m same is = tt

-- how these bytes may be refused
abbrev Refuses : Spool → List ℕ → SpoolError → List (List ℕ) → Type 0
Refuses was bytes error lines = ¬ (IsClosed was) → (number : ℕ) (more : List ℕ) → IsRefused (refusal_of (reserved was) number (lines_behind [] (bytes ++ more))) error (number + length lines)

module _ {D : Type 0} (d : DiskGhosts D) where
  -- nothing was read
  pub begins : (disk : D) (spool : Spool) (line : List ℕ) (source : Option (List ℕ)) → line ≡ [] → ((image : List ℕ) → d.images_since disk (d.moment disk) image → d.images disk image) → HasPut d disk disk spool spool line source source
  begins disk spool line source none here =
      let P : List ℕ → Type 0 = λ l. PutsLines d disk disk spool spool [] [] l in
      record { fed = []; put = subst P (sym none) (no_bytes d disk spool [] here); read = read_none source }

  pub reads_on : (old mid new : D) (was middle now : Spool) (line rest into : List ℕ) (count : ℕ) (source left after : Option (List ℕ)) → HasPut d old mid was middle line source left → ReadsOn left into (Ok count) after
      → PutsLines d mid new middle now line (take count into) rest → HasPut d old new was now rest source after
  reads_on old mid new was middle now line rest into count source left after has reads puts = record {
    fed = has.fed ++ take count into;
    put = both_put d old mid new was middle now [] has.fed line (take count into) rest has.put puts;
    read = read_more source left after has.fed into count has.read reads;
  }

  -- the source ended
  pub puts_all : (old new : D) (was now : Spool) (line into : List ℕ) (count : ℕ) (source left after : Option (List ℕ)) → 0 < length into → count ≡ 0 → HasPut d old new was now line source left → ReadsOn left into (Ok count) after
      → PutsAll d old new was now source (Ok tt)
  puts_all old new was now line into count source left after some none has reads =
      let p = has.put in
      let all : (bytes : List ℕ) → bytes ≡ has.fed → lines_of bytes ≡ p.lines = λ bytes same.
      ap (lines_behind []) (same ∙ sym (append-nil has.fed)) ∙ p.ended [] ∙ append-nil p.lines in
      record {
        lines = p.lines;
        tried = [];
        first = first_lines source left has.fed (p.lines ++ []) (λ more. (lines_behind line more, p.ended more ∙ ap (λ (l : List (List ℕ)). l ++ lines_behind line more) (sym (append-nil p.lines)))) has.read;
        all = every source all (read_all source left after has.fed into count some none has.read reads);
        counted = p.counted;
        refused = refuses source all (λ number more. p.fits number more) (read_all source left after has.fed into count some none has.read reads);
        holds = λ not. p.holds;
        durable = λ not. p.durable;
        crashes = let C : List (List ℕ) → Type 0 = λ l. CrashesInLines d old new was l in subst C (sym (append-nil p.lines)) p.crashes;
        cause = λ same. absurd cc;
        never_bad = λ at same. absurd cc;
        faults = p.faults;
      }
    where
      every : (source : Option (List ℕ)) → ((bytes : List ℕ) → bytes ≡ has.fed → lines_of bytes ≡ has.put.lines) → IfSome source (λ bytes. bytes ≡ has.fed) → IfSome source (λ bytes. lines_of bytes ≡ has.put.lines)
      every None all is = tt
      every (Some bytes) all is = all bytes is

      refuses : (source : Option (List ℕ)) → ((bytes : List ℕ) → bytes ≡ has.fed → lines_of bytes ≡ has.put.lines)
          → ((number : ℕ) (more : List (List ℕ)) → refusal_of (reserved was) number (has.put.lines ++ more) ≡ refusal_of (reserved now) (number + length has.put.lines) more)
          → IfSome source (λ bytes. bytes ≡ has.fed) → IfSome source (λ bytes. refusal_of (reserved was) 0 (lines_of bytes) ≡ None)
      refuses None all fits is = tt
      refuses (Some bytes) all fits is = ap (refusal_of (reserved was) 0) (all bytes is ∙ sym (append-nil has.put.lines)) ∙ fits 0 []

  -- the source failed
  pub puts_till_fault : (old new : D) (was now : Spool) (line : List ℕ) (source left : Option (List ℕ)) → HasPut d old new was now line source left → PutsAll d old new was now source (Err stop.Source)
  puts_till_fault old new was now line source left has =
      let p = has.put in
      record {
        lines = p.lines;
        tried = [];
        first = first_lines source left has.fed (p.lines ++ []) (λ more. (lines_behind line more, p.ended more ∙ ap (λ (l : List (List ℕ)). l ++ lines_behind line more) (sym (append-nil p.lines)))) has.read;
        all = tt;
        counted = p.counted;
        refused = nothing source;
        holds = λ not. p.holds;
        durable = λ not. p.durable;
        crashes = let C : List (List ℕ) → Type 0 = λ l. CrashesInLines d old new was l in subst C (sym (append-nil p.lines)) p.crashes;
        cause = λ same. absurd cc;
        never_bad = λ at same. absurd cc;
        faults = p.faults;
      }
    where
      nothing : (source : Option (List ℕ)) → IfSome source (λ bytes. Unit {0})
      nothing None = tt
      nothing (Some bytes) = tt

  fault_status : (error : SpoolError) (lines : ℕ) → (error ≡ Closed → ⊥) → status_for (stop.Spool error) lines ≡ status.DiskFault → error ≡ DiskFault
  fault_status (Bad at) lines never same = absurd cc
  fault_status DiskFault lines never same = refl
  fault_status TooLong lines never same = absurd cc
  fault_status Full lines never same = absurd cc
  fault_status Closed lines never same = absurd (never refl)
  fault_status NoMemory lines never same = absurd cc

  bad_status : (error : SpoolError) (lines at : ℕ) → status_for (stop.Spool error) lines ≡ status.SpoolBad at → error ≡ Bad at
  bad_status (Bad place) lines at same = cc
  bad_status DiskFault lines at same = absurd cc
  bad_status TooLong lines at same = absurd cc
  bad_status Full lines at same = absurd cc
  bad_status Closed lines at same = absurd cc
  bad_status NoMemory lines at same = absurd cc

  -- the spool met an error
  pub puts_till_stop : (old mid new : D) (was middle now : Spool) (line into : List ℕ) (count : ℕ) (source left after : Option (List ℕ)) (error : SpoolError) → ¬ (IsClosed was) → HasPut d old mid was middle line source left → ReadsOn left into (Ok count) after
      → StopsIn d mid new middle now line (take count into) error → PutsAll d old new was now source (Err (stop.Spool error))
  puts_till_stop old mid new was middle now line into count source left after error unclosed has reads stops =
      let s = then_stops d old mid new was middle now [] has.fed line (take count into) error has.put stops in
      let read = read_more source left after has.fed into count has.read reads in
      let fault : status_for (stop.Spool error) (length s.lines) ≡ status.DiskFault → error ≡ DiskFault = fault_status error (length s.lines) (λ same. never_closed error s.lines same s.refused) in
      record {
        lines = s.lines;
        tried = s.tried;
        first = first_lines source after (has.fed ++ take count into) (s.lines ++ s.tried) (λ more. let next = s.ended more in (next.0, next.1 ∙ sym (append_assoc s.lines s.tried next.0))) read;
        all = tt;
        counted = s.counted;
        refused = refuses source s.lines s.refused read;
        holds = λ not. s.holds (λ same. not (ap (λ (e : SpoolError). status_for (stop.Spool e) (length s.lines)) same));
        durable = λ not. s.durable (λ same. not (ap (λ (e : SpoolError). status_for (stop.Spool e) (length s.lines)) same));
        crashes = s.crashes;
        cause = λ same. s.cause (fault same);
        never_bad = λ at same. never_bad error at s.lines (bad_status error (length s.lines) at same) s.refused;
        faults = s.faults;
      }
    where
      never_closed : (e : SpoolError) (lines : List (List ℕ)) → e ≡ Closed → Refuses was (has.fed ++ take count into) e lines → ⊥
      never_closed (Bad at) lines same refused = refused unclosed 0 []
      never_closed DiskFault lines same refused = absurd cc
      never_closed TooLong lines same refused = absurd cc
      never_closed Full lines same refused = absurd cc
      never_closed Closed lines same refused = refused unclosed 0 []
      never_closed NoMemory lines same refused = absurd cc

      never_bad : (e : SpoolError) (at : ℕ) (lines : List (List ℕ)) → e ≡ Bad at → Refuses was (has.fed ++ take count into) e lines → ⊥
      never_bad (Bad place) at lines same refused = refused unclosed 0 []
      never_bad DiskFault at lines same refused = absurd cc
      never_bad TooLong at lines same refused = absurd cc
      never_bad Full at lines same refused = absurd cc
      never_bad Closed at lines same refused = refused unclosed 0 []
      never_bad NoMemory at lines same refused = absurd cc

      refuses : (source : Option (List ℕ)) (lines : List (List ℕ)) → Refuses was (has.fed ++ take count into) error lines → HasReadTo source (has.fed ++ take count into) after → IfSome source (λ bytes. IsByRefusal (refusal_of (reserved was) 0 (lines_of bytes)) (status_for (stop.Spool error) (length lines)))
      refuses None lines refused read = tt
      refuses (Some bytes) lines refused read =
          let R : List ℕ → Type 0 = λ l. IsByRefusal (refusal_of (reserved was) 0 (lines_of l)) (status_for (stop.Spool error) (length lines)) in
          subst R (sym read.2) (by_refusal _ error (0 + length lines) (length lines) (omega arith) (refused unclosed 0 read.0))
