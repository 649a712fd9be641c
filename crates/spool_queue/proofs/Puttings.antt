-- Lines that are put one behind the other, and what a crash leaves of them.
use Rattle.std.proofs.Common.{◌≡◌, ◌≢◌, inl, inr, ℕ, ◌+◌, ◌<◌, ◌≤◌, false, ◌==◌, List, [], ◌∷◌, ◌++◌, length, Option, Some, None, refl, sym, ap, ◌∙◌, subst, arith, append_assoc, append-nil, length-append}
use Rattle.std.proofs.lemmas.Bool.{cond-false, cond-true, le-ltb, lt-ltb, ne_eqb}
use Rattle.outside.specs.Counts.{Rose}
use Rattle.outside.specs.DiskImages.{LeavesOnly, Only}
use Rattle.outside.specs.declared.disk.Disk.{Ghosts as DiskGhosts}
use Rattle.outside.specs.Moments.{started}
use Rattle.spool_queue.specs.declared.limits.TheConstants.{MAX_EVENT_BYTES, MAX_SPOOL_BYTES}
use Rattle.spool_queue.specs.declared.spool.Spool.{Spool}
use Rattle.spool_queue.specs.declared.spool_error.SpoolError.{SpoolError}
use Rattle.spool_queue.specs.declared.spool_error.SpoolError.TheVariants.{Bad, DiskFault, TooLong, Full, Closed, NoMemory}
use Rattle.spool_queue.specs.declared.status.SpoolStatus.{SpoolStatus}
use Rattle.spool_queue.specs.declared.status.SpoolStatus.TheVariants as status
use Rattle.spool_queue.specs.Lines.{lines_behind, refusal_of, reserved_with}
use Rattle.spool_queue.specs.PutSoFar.{CrashesInLines, IsFrontPut, IsRefused, PutsLines, StopsIn}
use Rattle.spool_queue.specs.Spool.{IsReadAs}
use Rattle.spool_queue.specs.Standing.{HoldsList, IsClosed, IsEither, IsSpoolOf, WouldFill, count_of, reserved}
use Rattle.spool_queue.proofs.Crashes.{behind, weaker}
use Rattle.spool_queue.proofs.Standings.{read_as}

-- ---- what a spool refuses

pub fits_one : (r number : ℕ) (line : List ℕ) (more : List (List ℕ)) → length line ≤ MAX_EVENT_BYTES → reserved_with r line ≤ MAX_SPOOL_BYTES → refusal_of r number (line ∷ more) ≡ refusal_of (reserved_with r line) (number + 1) more
fits_one r number line more short room =
    cond-false _ (Some (status.TooLong number)) _ (le-ltb MAX_EVENT_BYTES (length line) short)
    ∙ cond-false _ (Some (status.Full number)) _ (le-ltb MAX_SPOOL_BYTES (reserved_with r line) room)

pub too_long_one : (r number : ℕ) (line : List ℕ) (more : List (List ℕ)) → MAX_EVENT_BYTES < length line → refusal_of r number (line ∷ more) ≡ Some (status.TooLong number)
too_long_one r number line more long = cond-true _ (Some (status.TooLong number)) _ (lt-ltb MAX_EVENT_BYTES (length line) long)

pub full_one : (r number : ℕ) (line : List ℕ) (more : List (List ℕ)) → length line ≤ MAX_EVENT_BYTES → MAX_SPOOL_BYTES < reserved_with r line → refusal_of r number (line ∷ more) ≡ Some (status.Full number)
full_one r number line more short full =
    cond-false _ (Some (status.TooLong number)) _ (le-ltb MAX_EVENT_BYTES (length line) short)
    ∙ cond-true _ (Some (status.Full number)) _ (lt-ltb MAX_SPOOL_BYTES (reserved_with r line) full)

-- ---- lines

pub ends_line : (line : List ℕ) (byte : ℕ) (more : List ℕ) → byte ≡ 10 → lines_behind line (byte ∷ more) ≡ line ∷ lines_behind [] more
ends_line line byte more is = ap (λ (b : ℕ). lines_behind line (b ∷ more)) is

not_same : (a b : ℕ) → (a ≡ b → ⊥) → (a == b) ≡ false
not_same a b other = ne_eqb a b other

-- ---- crashes

pub held_reads : (spool : Spool) (list : List (List ℕ)) (contents : Option (List ℕ)) (image : List ℕ) → HoldsList spool list contents → contents ≡ Some image → IsReadAs image list
held_reads spool list contents image holds same =
    let H : Option (List ℕ) → Type 0 = λ o. HoldsList spool list o in
    let is : IsSpoolOf spool image list = subst H same holds in
    read_as image is.log spool.end list is.ends is.list_is

module _ {D : Type 0} (d : DiskGhosts D) where
  -- no call at all
  pub crash_before : (disk : D) (spool : Spool) (lines : List (List ℕ)) → ((image : List ℕ) → d.images_since disk (d.moment disk) image → d.images disk image) → CrashesInLines d disk disk spool lines
  crash_before disk spool lines here = λ only list holds.
      started d.moment d.images_since disk (IsFrontPut list lines)
      (λ image left. let R : List (List ℕ) → Type 0 = λ l. IsReadAs image l in ([], lines, refl, subst R (sym (append-nil list)) (held_reads spool list (d.contents disk) image holds (only image (here image left)))))

  pub no_bytes : (disk : D) (spool : Spool) (line : List ℕ) → ((image : List ℕ) → d.images_since disk (d.moment disk) image → d.images disk image) → PutsLines d disk disk spool spool line [] line
  no_bytes disk spool line here = record {
    lines = [];
    ended = λ more. refl;
    counted = omega arith;
    fits = λ number more. ap (λ (n : ℕ). refusal_of (reserved spool) n more) (omega arith);
    still_open = λ is. is;
    holds = λ list holds. let H : List (List ℕ) → Type 0 = λ l. HoldsList spool l (d.contents disk) in subst H (sym (append-nil list)) holds;
    durable = λ only. only;
    crashes = crash_before disk spool [] here;
    faults = omega arith;
  }

  crash_both : (old mid new : D) (was middle : Spool) (one other : List (List ℕ)) → CrashesInLines d old mid was one → CrashesInLines d mid new middle other
      → (Only (d.contents old) (d.images old) → Only (d.contents mid) (d.images mid)) → ((list : List (List ℕ)) → HoldsList was list (d.contents old) → HoldsList middle (list ++ one) (d.contents mid))
      → CrashesInLines d old new was (one ++ other)
  crash_both old mid new was middle one other first second durable held = λ only list holds.
      behind d.moment d.images_since old mid new (IsFrontPut list (one ++ other))
      (weaker d.moment d.images_since old mid (IsFrontPut list one) (IsFrontPut list (one ++ other)) (first only list holds)
      (λ image (front, back, same, reads). (front, back ++ other, ap (λ (l : List (List ℕ)). l ++ other) same ∙ append_assoc front back other, reads)))
      (weaker d.moment d.images_since mid new (IsFrontPut (list ++ one) other) (IsFrontPut list (one ++ other)) (second (durable only) (list ++ one) (held list holds))
      (λ image (front, back, same, reads). let R : List (List ℕ) → Type 0 = λ l. IsReadAs image l in
      (one ++ front, back, ap (λ (l : List (List ℕ)). one ++ l) same ∙ sym (append_assoc one front back), subst R (append_assoc list one front) reads)))

  -- one run behind another
  pub both_put : (old mid new : D) (was middle now : Spool) (begun first between second rest : List ℕ) → PutsLines d old mid was middle begun first between → PutsLines d mid new middle now between second rest → PutsLines d old new was now begun (first ++ second) rest
  both_put old mid new was middle now begun first between second rest one other = record {
    lines = one.lines ++ other.lines;
    ended = λ more. ap (lines_behind begun) (append_assoc first second more) ∙ one.ended (second ++ more) ∙ ap (λ (l : List (List ℕ)). one.lines ++ l) (other.ended more) ∙ sym (append_assoc one.lines other.lines (lines_behind rest more));
    counted = omega (arith, one.counted, other.counted, length-append one.lines other.lines);
    fits = λ number more. ap (refusal_of (reserved was) number) (append_assoc one.lines other.lines more) ∙ one.fits number (other.lines ++ more) ∙ other.fits (number + length one.lines) more
        ∙ ap (λ (n : ℕ). refusal_of (reserved now) n more) (omega (arith, length-append one.lines other.lines));
    still_open = λ is. other.still_open (one.still_open is);
    holds = λ list holds. let H : List (List ℕ) → Type 0 = λ l. HoldsList now l (d.contents new) in subst H (append_assoc list one.lines other.lines) (other.holds (list ++ one.lines) (one.holds list holds));
    durable = λ only. other.durable (one.durable only);
    crashes = crash_both old mid new was middle one.lines other.lines one.crashes other.crashes one.durable one.holds;
    faults = omega (arith, one.faults, other.faults);
  }

  is_refused_at : (one other : Option SpoolStatus) (error : SpoolError) (n m : ℕ) → one ≡ other → n ≡ m → IsRefused other error m → IsRefused one error n
  is_refused_at one other (Bad at) n m same number is = is
  is_refused_at one other DiskFault n m same number is = tt
  is_refused_at one other TooLong n m same number is = same ∙ is ∙ ap (λ (k : ℕ). Some (status.TooLong k)) (sym number)
  is_refused_at one other Full n m same number is = same ∙ is ∙ ap (λ (k : ℕ). Some (status.Full k)) (sym number)
  is_refused_at one other Closed n m same number is = is
  is_refused_at one other NoMemory n m same number is = tt

  pub then_stops : (old mid new : D) (was middle now : Spool) (begun first between second : List ℕ) (error : SpoolError) → PutsLines d old mid was middle begun first between → StopsIn d mid new middle now between second error → StopsIn d old new was now begun (first ++ second) error
  then_stops old mid new was middle now begun first between second error one other =
      let all : (more : List ℕ) → lines_behind begun ((first ++ second) ++ more) ≡ one.lines ++ lines_behind between (second ++ more) = λ more. ap (lines_behind begun) (append_assoc first second more) ∙ one.ended (second ++ more) in
      record {
        lines = one.lines ++ other.lines;
        tried = other.tried;
        ended = λ more. let next = other.ended more in
            (next.0, all more ∙ ap (λ (l : List (List ℕ)). one.lines ++ l) next.1 ∙ sym (append_assoc one.lines other.lines (other.tried ++ next.0)));
        counted = omega (arith, one.counted, other.counted, length-append one.lines other.lines);
        refused = λ unclosed number more. is_refused_at (refusal_of (reserved was) number (lines_behind begun ((first ++ second) ++ more)))
            (refusal_of (reserved middle) (number + length one.lines) (lines_behind between (second ++ more))) error (number + length (one.lines ++ other.lines)) ((number + length one.lines) + length other.lines)
            (ap (refusal_of (reserved was) number) (all more) ∙ one.fits number (lines_behind between (second ++ more))) (omega (arith, length-append one.lines other.lines)) (other.refused (one.still_open unclosed) (number + length one.lines) more);
        holds = λ not list holds. let H : List (List ℕ) → Type 0 = λ l. HoldsList now l (d.contents new) in subst H (append_assoc list one.lines other.lines) (other.holds not (list ++ one.lines) (one.holds list holds));
        durable = λ not only. other.durable not (one.durable only);
        crashes = let C : List (List ℕ) → Type 0 = λ l. CrashesInLines d old new was l in
            subst C (sym (append_assoc one.lines other.lines other.tried)) (crash_both old mid new was middle one.lines (other.lines ++ other.tried) one.crashes other.crashes one.durable one.holds);
        cause = λ is. rose_behind (d.faults old) (d.faults mid) (d.faults new) one.faults (other.cause is);
        faults = omega (arith, one.faults, other.faults);
      }
    where
      rose_behind : (a b c : ℕ) → a ≤ b → Rose b c → Rose a c
      rose_behind a b c le (inl rose) = inl (omega (arith, le, rose))
      rose_behind a b c le (inr end) = inr end

  -- a line was put, or failed to be
  either_front : (list : List (List ℕ)) (line : List ℕ) (image : List ℕ) → IsEither list (list ++ line ∷ []) image → IsFrontPut list (line ∷ []) image
  either_front list line image (inl before) = let R : List (List ℕ) → Type 0 = λ l. IsReadAs image l in ([], line ∷ [], refl, subst R (sym (append-nil list)) before)
  either_front list line image (inr after) = (line ∷ [], [], refl, after)

  pub crash_in_one : (old new : D) (was : Spool) (line : List ℕ) → (Only (d.contents old) (d.images old) → (bytes : List ℕ) (list : List (List ℕ)) → d.contents old ≡ Some bytes → IsSpoolOf was bytes list → LeavesOnly d.moment d.images_since old new (IsEither list (list ++ line ∷ [])))
      → CrashesInLines d old new was (line ∷ [])
  crash_in_one old new was line leaves = λ only list holds. by_contents (d.contents old) refl only list holds
    where
      by_contents : (contents : Option (List ℕ)) → d.contents old ≡ contents → Only (d.contents old) (d.images old) → (list : List (List ℕ)) → HoldsList was list contents → LeavesOnly d.moment d.images_since old new (IsFrontPut list (line ∷ []))
      by_contents None told only list holds = absurd holds
      by_contents (Some bytes) told only list holds = weaker d.moment d.images_since old new (IsEither list (list ++ line ∷ [])) (IsFrontPut list (line ∷ [])) (leaves only bytes list told holds) (either_front list line)

  pub holds_after : (contents now : Option (List ℕ)) (was spool : Spool) (line : List ℕ) → ((bytes : List ℕ) (list : List (List ℕ)) → contents ≡ Some bytes → IsSpoolOf was bytes list → HoldsList spool (list ++ line ∷ []) now) → (list : List (List ℕ)) → HoldsList was list contents → HoldsList spool (list ++ line ∷ []) now
  holds_after None now was spool line put list holds = absurd holds
  holds_after (Some bytes) now was spool line put list holds = put bytes list refl holds

  refused_so : (was : Spool) (line : List ℕ) (error : SpoolError) (number : ℕ) (more : List (List ℕ)) → (error ≡ Closed → IsClosed was) → (error ≡ TooLong → MAX_EVENT_BYTES < length line) → (error ≡ Full → (length line ≤ MAX_EVENT_BYTES) × WouldFill was (length line))
      → ((at : ℕ) → error ≡ Bad at → ⊥) → ¬ (IsClosed was) → IsRefused (refusal_of (reserved was) number (line ∷ more)) error number
  refused_so was line (Bad at) number more closed long full never unclosed = never at refl
  refused_so was line DiskFault number more closed long full never unclosed = tt
  refused_so was line TooLong number more closed long full never unclosed = too_long_one (reserved was) number line more (long refl)
  refused_so was line Full number more closed long full never unclosed =
      let is = full refl in
      full_one (reserved was) number line more is.0 (omega (arith, is.1))
  refused_so was line Closed number more closed long full never unclosed = unclosed (closed refl)
  refused_so was line NoMemory number more closed long full never unclosed = tt

  -- a line that was tried
  pub stops_at_line : (old new : D) (was now : Spool) (line : List ℕ) (byte : ℕ) (error : SpoolError) → byte ≡ 10 → count_of now ≡ count_of was → (error ≡ Closed → IsClosed was) → (error ≡ TooLong → MAX_EVENT_BYTES < length line)
      → (error ≡ Full → (length line ≤ MAX_EVENT_BYTES) × WouldFill was (length line)) → ((at : ℕ) → error ≡ Bad at → ⊥) → (error ≢ DiskFault → now ≡ was) → (error ≢ DiskFault → new ≡ old) → CrashesInLines d old new was (line ∷ [])
      → (error ≡ DiskFault → Rose (d.faults old) (d.faults new)) → d.faults old ≤ d.faults new → StopsIn d old new was now line (byte ∷ []) error
  stops_at_line old new was now line byte error is counted closed long full never spool_kept disk_kept crashes cause faults = record {
    lines = [];
    tried = line ∷ [];
    ended = λ more. (lines_behind [] more, ends_line line byte more is);
    counted = omega (arith, counted);
    refused = λ unclosed number more. is_refused_at (refusal_of (reserved was) number (lines_behind line (byte ∷ more))) (refusal_of (reserved was) number (line ∷ lines_behind [] more)) error (number + 0) number
        (ap (refusal_of (reserved was) number) (ends_line line byte more is)) (omega arith) (refused_so was line error number (lines_behind [] more) closed long full never unclosed);
    holds = λ not list holds.
        let H : List (List ℕ) → Type 0 = λ l. HoldsList now l (d.contents new) in
        let S : Spool → Type 0 = λ s. HoldsList s list (d.contents new) in
        let E : D → Type 0 = λ x. HoldsList was list (d.contents x) in
        subst H (sym (append-nil list)) (subst S (sym (spool_kept not)) (subst E (sym (disk_kept not)) holds));
    durable = λ not only. let O : D → Type 0 = λ x. Only (d.contents x) (d.images x) in subst O (sym (disk_kept not)) only;
    crashes = crashes;
    cause = cause;
    faults = faults;
  }

  -- a byte of a line, for which there was no memory
  pub stops_in_line : (disk : D) (spool : Spool) (line : List ℕ) (byte : ℕ) → (byte ≡ 10 → ⊥) → ((image : List ℕ) → d.images_since disk (d.moment disk) image → d.images disk image) → StopsIn d disk disk spool spool line (byte ∷ []) NoMemory
  stops_in_line disk spool line byte other here = record {
    lines = [];
    tried = [];
    ended = λ more. (lines_behind line (byte ∷ more), refl);
    counted = omega arith;
    refused = λ unclosed number more. tt;
    holds = λ not list holds. let H : List (List ℕ) → Type 0 = λ l. HoldsList spool l (d.contents disk) in subst H (sym (append-nil list)) holds;
    durable = λ not only. only;
    crashes = crash_before disk spool [] here;
    cause = λ same. absurd cc;
    faults = omega arith;
  }

  pub takes_byte : (disk : D) (spool : Spool) (line rest : List ℕ) (byte : ℕ) → (byte ≡ 10 → ⊥) → rest ≡ line ++ byte ∷ [] → ((image : List ℕ) → d.images_since disk (d.moment disk) image → d.images disk image) → PutsLines d disk disk spool spool line (byte ∷ []) rest
  unfolding no_bytes
  takes_byte disk spool line rest byte other is here =
      let none = no_bytes disk spool line here in
      record {
        lines = [];
        ended = λ more. cond-false (byte == 10) _ _ (not_same byte 10 other) ∙ ap (λ (l : List ℕ). lines_behind l more) (sym is);
        counted = none.counted;
        fits = none.fits;
        still_open = none.still_open;
        holds = none.holds;
        durable = none.durable;
        crashes = none.crashes;
        faults = none.faults;
      }

  pub puts_line : (old new : D) (was now : Spool) (line rest : List ℕ) (byte : ℕ) → byte ≡ 10 → rest ≡ [] → count_of now ≡ count_of was + 1 → length line ≤ MAX_EVENT_BYTES → reserved now ≡ reserved_with (reserved was) line → reserved now ≤ MAX_SPOOL_BYTES
      → ¬ (IsClosed now) → ((list : List (List ℕ)) → HoldsList was list (d.contents old) → HoldsList now (list ++ line ∷ []) (d.contents new)) → Only (d.contents new) (d.images new) → CrashesInLines d old new was (line ∷ []) → d.faults old ≤ d.faults new
      → PutsLines d old new was now line (byte ∷ []) rest
  puts_line old new was now line rest byte is none counted short reserves room unclosed holds only crashes faults = record {
    lines = line ∷ [];
    ended = λ more. ends_line line byte more is ∙ ap (λ (l : List ℕ). line ∷ lines_behind l more) (sym none);
    counted = counted;
    fits = λ number more. fits_one (reserved was) number line more short (omega (arith, reserves, room)) ∙ ap (λ (r : ℕ). refusal_of r (number + 1) more) (sym reserves);
    still_open = λ before. unclosed;
    holds = holds;
    durable = λ before. only;
    crashes = crashes;
    faults = faults;
  }

  -- behind the place where it stopped there may be more
  pub stops_in_front : (old new : D) (was now : Spool) (begun first rest : List ℕ) (error : SpoolError) → StopsIn d old new was now begun first error → StopsIn d old new was now begun (first ++ rest) error
  stops_in_front old new was now begun first rest error stops = record {
    lines = stops.lines;
    tried = stops.tried;
    ended = λ more. let next = stops.ended (rest ++ more) in (next.0, ap (lines_behind begun) (append_assoc first rest more) ∙ next.1);
    counted = stops.counted;
    refused = λ unclosed number more.
        is_refused_at (refusal_of (reserved was) number (lines_behind begun ((first ++ rest) ++ more))) (refusal_of (reserved was) number (lines_behind begun (first ++ (rest ++ more)))) error (number + length stops.lines) (number + length stops.lines)
        (ap (λ (l : List ℕ). refusal_of (reserved was) number (lines_behind begun l)) (append_assoc first rest more)) refl (stops.refused unclosed number (rest ++ more));
    holds = stops.holds;
    durable = stops.durable;
    crashes = stops.crashes;
    cause = stops.cause;
    faults = stops.faults;
  }
