-- An area that is started anew beside the one that is used.
use Rattle.std.proofs.Common.{◌≡◌, ◌≢◌, inl, inr, ⊎_elim, ℕ, suc, ◌+◌, ◌-◌, ◌*◌, ◌^◌, ◌<◌, ◌≤◌, ◌⊎◌, List, [], ◌∷◌, ◌++◌, length, Option, Some, None, IsSome, Result, Ok, Err, IfOk, IfSome, IsErrOf, OnOk, All, refl, sym, ◌∙◌, subst, arith, codes, decimal, length-append}
use Rattle.std.specs.Prelude.{Bool, true, false, if◌then◌else◌, replicate}
use Rattle.std.specs.List.{flat_map}
use Rattle.std.proofs.lemmas.Fmt.{length-decimal-le}
use Rattle.std.proofs.lemmas.List.{length-map, length-replicate}
use Rattle.std.proofs.lemmas.List.Elements.{All-head, All-tail}
use Rattle.outside.specs.DiskImages.{LeavesOnly, Only}
use Rattle.outside.specs.Moments.{started}
use Rattle.wire_base.specs.declared.limits.Which.{Which}
use Rattle.wire_base.specs.declared.row.Op.{Op}
use Rattle.wire_base.specs.declared.row.Op.TheVariants.{Set}
use Rattle.wire_base.specs.declared.row.Row.{Row}
use Rattle.registry_frame.specs.Body.{body_bytes}
use Rattle.registry_log.specs.declared.area_text.TheConstants.{MAX_BODY}
use Rattle.registry_log.specs.declared.log_error.LogError.{LogError}
use Rattle.registry_log.specs.declared.log_error.LogError.TheVariants.{DiskFault, RecordTooLong, NoMemory}
use Rattle.registry_log.specs.Area.{area_bytes, header_bytes, sets}
use Rattle.registry_log.specs.Records.{fit_in_a_record, grouped, groups, padded, record_bytes, records_bytes}
use Rattle.registry_log.specs.Starting.{IsPartStarted}
use Rattle.registry_log.specs.State.{IsOpened, IsState, Opened}
use Rattle.registry_store.specs.Appending.{HoldsOpened, IsOpenedWithSome, IsStartedWithSome}
use Rattle.registry_store.specs.Choice.{Chosen, GivesRows, IsChoice}
use Rattle.registry_store.specs.Sides.{of_area, other_area}
use Rattle.registry_store.proofs.Appended.{same_bytes}
use Rattle.registry_store.proofs.Choosing.{chosen_far, chosen_near, near_is_opened, shut_yields}
use Rattle.registry_store.proofs.Moments.{behind, weaker}

-- ---- its length

abbrev FitsIn : List Op → Type 0
FitsIn ops = length (body_bytes ops) ≤ MAX_BODY

padded_short : (width number : ℕ) → length (decimal number) ≤ width → length (padded width number) ≡ width
padded_short width number short =
    length-append (replicate (width - length (decimal number)) 48) (decimal number) ∙ omega (arith, short, length-replicate {A = ℕ} (width - length (decimal number)) 48)

five : (a b c d : List ℕ) → length (codes "{" ++ a ++ b ++ c ++ d) ≡ 1 + length a + length b + length c + length d
five a b c d = simp length-append (omega arith)

record_short : (ops : List Op) → FitsIn ops → length (record_bytes ops) ≤ 1_048_586
record_short ops fits =
    let digits = padded_short 7 (length (body_bytes ops)) (length-decimal-le 7 (length (body_bytes ops)) (omega arith) (omega (arith, fits)) (omega (arith, fits))) in
    let all = five (padded 7 (length (body_bytes ops))) (codes " ") (body_bytes ops) (codes "\n") in
    omega (arith, fits, digits, all)

records_short : (records : List (List Op)) → All FitsIn records → length (flat_map record_bytes records) ≤ length records * 1_048_586
records_short [] fits = omega arith
records_short (ops ∷ records) fits =
    let later = records_short records (All-tail FitsIn ops records fits) in
    let here = record_short ops (All-head FitsIn ops records fits) in
    omega (arith, later, here, length-append (record_bytes ops) (flat_map record_bytes records))

few_grouped : (group ops : List Op) → length (grouped group ops) ≤ 1 + length ops
few_grouped group [] = omega arith
few_grouped group (op ∷ ops) = by_test (fit_in_a_record (group ++ op ∷ [])) (few_grouped (group ++ op ∷ []) ops) (few_grouped (op ∷ []) ops)
  where
    by_test : (there : Bool) → length (grouped (group ++ op ∷ []) ops) ≤ 1 + length ops → length (grouped (op ∷ []) ops) ≤ 1 + length ops
        → length (if there then grouped (group ++ op ∷ []) ops else group ∷ grouped (op ∷ []) ops) ≤ 1 + suc (length ops)
    by_test true joined parted = omega (arith, joined)
    by_test false joined parted = omega (arith, parted)

few_groups : (ops : List Op) → length (groups ops) ≤ length ops
few_groups [] = omega arith
few_groups (op ∷ ops) = let later = few_grouped (op ∷ []) ops in omega (arith, later)

pub area_short : (generation : ℕ) (rows : List Row) → generation < 2 ^ 64 → length rows ≤ 65_536 → All FitsIn (groups (sets rows)) → length (area_bytes generation rows) < 2 ^ 63 - 1
area_short generation rows number few fits =
    let digits = padded_short 20 generation (length-decimal-le 20 generation (omega arith) (omega (arith, number)) (omega (arith, number))) in
    let header : length (header_bytes generation) ≡ 7 + length (padded 20 generation) + 1 = simp length-append (omega arith) in
    let records = records_short (groups (sets rows)) fits in
    let count = few_groups (sets rows) in
    let same = length-map rows Set in
    let all : length (area_bytes generation rows) ≡ 1 + length (header_bytes generation) + length (records_bytes (sets rows)) + 1 = simp length-append (omega arith) in
    omega (arith, digits, header, records, count, same, few, all)

pub gate_in_range : (r : Result ℕ LogError) (generation : ℕ) (rows : List Row) → generation < 2 ^ 64 → length rows ≤ 65_536 → IfOk r (λ gate. gate + 1 ≡ length (area_bytes generation rows)) → OnOk r (All FitsIn (groups (sets rows)))
    → IfOk r (λ gate. gate < 2 ^ 63 - 1)
gate_in_range (Ok gate) generation rows number few last fits = let short = area_short generation rows number few fits in omega (arith, short, last)
gate_in_range (Err e) generation rows number few last fits = tt

-- ---- its state

pub opened_at : (bytes : List ℕ) (generation gate : ℕ) (rows : List Row) → IsOpened bytes generation rows (length bytes - 1) → gate + 1 ≡ length bytes → IsOpened bytes generation rows gate
opened_at bytes generation gate rows opened last =
    let at : length bytes - 1 ≡ gate = omega (arith, last) in
    let At : ℕ → Type 0 = λ n. IsOpened bytes generation rows n in
    subst At at opened

-- memory was out, or it was not
memory : (r : Result ℕ LogError) → IsErrOf r NoMemory ⊎ (r ≢ Err NoMemory)
memory (Ok gate) = inr (λ same. cc same)
memory (Err DiskFault) = inr (λ same. cc same)
memory (Err RecordTooLong) = inr (λ same. cc same)
memory (Err NoMemory) = inl refl

-- ---- beside the area that is used, with the bytes `other`

part_started_gives : (used : Which) (earlier generation : ℕ) (rows : List Row) (end : ℕ) (before other image : List ℕ) → earlier < generation
    → IsChoice (of_area used other before) (of_area used before other) (Chosen used earlier rows 29 end)
    → IsOpened (area_bytes generation rows) generation rows (length (area_bytes generation rows) - 1)
    → IsPartStarted generation rows before image → GivesRows (of_area used other image) (of_area used image other) rows
part_started_gives used earlier generation rows end before other image less choice opened (inl (inl same)) =
    let Gives : List ℕ → Type 0 = λ l. GivesRows (of_area used other l) (of_area used l other) rows in
    subst Gives (sym same) (record { choice = Chosen used earlier rows 29 end; chosen = choice; given = refl })
part_started_gives used earlier generation rows end before other image less choice opened (inl (inr shut)) = record {
  choice = Chosen used earlier rows 29 end;
  chosen = chosen_near used other image earlier rows end (near_is_opened used other before earlier rows 29 end choice) (shut_yields image used earlier shut);
  given = refl;
}
part_started_gives used earlier generation rows end before other image less choice opened (inr same) =
    let gate = length (area_bytes generation rows) - 1 in
    let Opens : List ℕ → Type 0 = λ l. IsOpened l generation rows gate in
    record {
      choice = Chosen (other_area used) generation rows 29 gate;
      chosen = chosen_far used other image earlier generation rows rows end gate (near_is_opened used other before earlier rows 29 end choice) (subst Opens (sym same) opened) less;
      given = refl;
    }

part_started_some : (generation : ℕ) (rows : List Row) (ops : List Op) (before image : List ℕ) → IsOpened (area_bytes generation rows) generation rows (length (area_bytes generation rows) - 1)
    → IsPartStarted generation rows before image → IsStartedWithSome generation rows ops before image
part_started_some generation rows ops before image opened (inl shut) = inl shut
part_started_some generation rows ops before image opened (inr same) =
    let Opens : List ℕ → Type 0 = λ l. IsOpened l generation rows (length (area_bytes generation rows) - 1) in
    inr (record { count = 0; end = length (area_bytes generation rows) - 1; within = omega arith; opened = subst Opens (sym same) opened })

where_told : (o : Option (List ℕ)) (P : Type 0) → IsSome o → IfSome o (λ before. P) → P
where_told None P told holds = cc told
where_told (Some before) P told holds = holds

module _ {D : Type 0} (contents : D → Option (List ℕ)) (images : D → List ℕ → Type 0) (moment : D → ℕ) (images_since : D → ℕ → List ℕ → Type 0) where
  pub started_gives : (r : Result ℕ LogError) (old new : D) (used : Which) (earlier generation : ℕ) (rows : List Row) (end : ℕ) (before other : List ℕ)
      → ((image : List ℕ) → images_since old (moment old) image → images old image)
      → (IsErrOf r NoMemory → new ≡ old)
      → (r ≢ Err NoMemory → IsState (area_bytes generation rows) (Opened generation rows 29 (length (area_bytes generation rows) - 1)))
      → Only (contents old) (images old) → contents old ≡ Some before → earlier < generation
      → IsChoice (of_area used other before) (of_area used before other) (Chosen used earlier rows 29 end)
      → IfSome (contents old) (λ before. LeavesOnly moment images_since old new (IsPartStarted generation rows before))
      → LeavesOnly moment images_since old new (λ image. GivesRows (of_area used other image) (of_area used image other) rows)
  started_gives r old new used earlier generation rows end before other here untouched opened settled holds less choice leaves =
      let Gives : List ℕ → Type 0 = λ image. GivesRows (of_area used other image) (of_area used image other) rows in
      let Leaves : Option (List ℕ) → Type 0 = λ o. IfSome o (λ b. LeavesOnly moment images_since old new (IsPartStarted generation rows b)) in
      let Since : D → Type 0 = λ d. LeavesOnly moment images_since old d Gives in
      ⊎_elim
      (λ wanting. subst Since (sym (untouched wanting)) (started moment images_since old Gives
      (λ image left. let same : before ≡ image = same_bytes before image (sym holds ∙ settled image (here image left)) in
      subst Gives same (record { choice = Chosen used earlier rows 29 end; chosen = choice; given = refl }))))
      (λ ample. weaker moment images_since old new (IsPartStarted generation rows before) Gives (subst Leaves holds leaves)
      (λ image is. part_started_gives used earlier generation rows end before other image less choice (opened ample).1 is))
      (memory r)

  -- ---- and what is appended to it

  pub started_some : (r : Result ℕ LogError) (old new : D) (generation : ℕ) (rows : List Row) (ops : List Op) (before : List ℕ)
      → ((image : List ℕ) → images_since old (moment old) image → images old image)
      → (IsErrOf r NoMemory → new ≡ old)
      → (r ≢ Err NoMemory → IsOpened (area_bytes generation rows) generation rows (length (area_bytes generation rows) - 1))
      → Only (contents old) (images old) → contents old ≡ Some before
      → IfSome (contents old) (λ before. LeavesOnly moment images_since old new (IsPartStarted generation rows before))
      → LeavesOnly moment images_since old new (IsStartedWithSome generation rows ops before)
  started_some r old new generation rows ops before here untouched opened settled holds leaves =
      let Leaves : Option (List ℕ) → Type 0 = λ o. IfSome o (λ b. LeavesOnly moment images_since old new (IsPartStarted generation rows b)) in
      let Since : D → Type 0 = λ d. LeavesOnly moment images_since old d (IsStartedWithSome generation rows ops before) in
      ⊎_elim
      (λ wanting. subst Since (sym (untouched wanting)) (started moment images_since old (IsStartedWithSome generation rows ops before)
      (λ image left. inl (inl (sym (same_bytes before image (sym holds ∙ settled image (here image left))))))))
      (λ ample. weaker moment images_since old new (IsPartStarted generation rows before) (IsStartedWithSome generation rows ops before) (subst Leaves holds leaves)
      (λ image is. part_started_some generation rows ops before image (opened ample) is))
      (memory r)

  pub holds_started : (old new : D) (generation gate : ℕ) (rows : List Row) → IsSome (contents old) → IfSome (contents old) (λ before. contents new ≡ Some (area_bytes generation rows)) → Only (contents new) (images new)
      → IsOpened (area_bytes generation rows) generation rows (length (area_bytes generation rows) - 1) → gate + 1 ≡ length (area_bytes generation rows) → HoldsOpened contents images new generation rows gate
  holds_started old new generation gate rows told starts settled opened last = record {
    area = area_bytes generation rows;
    holds = where_told (contents old) (contents new ≡ Some (area_bytes generation rows)) told starts;
    settled = settled;
    opened = opened_at (area_bytes generation rows) generation gate rows opened last;
  }

  pub appended_some : (old mid new : D) (generation : ℕ) (rows : List Row) (ops : List Op) (before : List ℕ) → LeavesOnly moment images_since old mid (IsStartedWithSome generation rows ops before)
      → LeavesOnly moment images_since mid new (IsOpenedWithSome generation rows ops) → LeavesOnly moment images_since old new (IsStartedWithSome generation rows ops before)
  appended_some old mid new generation rows ops before so_far more =
      behind moment images_since old mid new (IsStartedWithSome generation rows ops before) so_far
      (weaker moment images_since mid new (IsOpenedWithSome generation rows ops) (IsStartedWithSome generation rows ops before) more (λ image is. inr is))
