-- A record that is written behind a closed gate, whose gate is then opened: what is there, and what a crash leaves.
use Rattle.std.proofs.Common.{◌≡◌, ◌≢◌, inl, inr, ℕ, ◌+◌, ◌-◌, ◌<◌, ◌≤◌, List, [], ◌∷◌, ◌++◌, length, take, drop, get_or, Option, Some, IfSome, refl, sym, ap, ◌∙◌, subst, arith, append-nil, append_assoc, length-append}
use Rattle.std.specs.Prelude.{min, replicate}
use Rattle.std.proofs.lemmas.Bool.Decides.{eqb_tells}
use Rattle.std.proofs.lemmas.List.{drop-drop, drop_at, drop_more, take-append-drop, take_at, take_min}
use Rattle.outside.specs.DiskImages.{LeavesOnly, Torn}
use Rattle.outside.specs.DiskReads.{written}
use Rattle.spool_queue.specs.Appending.{IsPartAppended, appended}
use Rattle.spool_queue.proofs.Crashes.{behind, weaker}

pub torn_by_nothing : (at n : ℕ) (area : List ℕ) → Torn at n area area
torn_by_nothing at n area = record {
  front = take_min at area;
  back = refl;
  no_shorter = omega arith;
  no_longer = omega arith;
}

none_past : (at : ℕ) (old : List ℕ) → at ≤ length old → old ++ replicate (at - length old) 0 ≡ old
none_past at old within = let none : at - length old ≡ 0 = omega arith in ap (λ (n : ℕ). old ++ replicate n 0) none ∙ append-nil old

pub written_within : (old : List ℕ) (at byte : ℕ) (bytes : List ℕ) → at ≤ length old → written old at (byte ∷ bytes) ≡ take at old ++ (byte ∷ (bytes ++ drop (at + length (byte ∷ bytes)) old))
written_within old at byte bytes within =
    ap (λ (l : List ℕ). take at l ++ byte ∷ bytes ++ drop (at + length (byte ∷ bytes)) old) (none_past at old within)
    ∙ append_assoc (take at old) (byte ∷ bytes) (drop (at + length (byte ∷ bytes)) old)

module _ (front : List ℕ) (gate : ℕ) (rest : List ℕ) (end : ℕ) (sized : length front ≡ end) where
  with_gate : length (front ++ gate ∷ []) ≡ end + 1
  with_gate = omega (arith, sized, length-append front (gate ∷ []))

  joined : front ++ gate ∷ rest ≡ (front ++ gate ∷ []) ++ rest
  joined = sym (append_assoc front (gate ∷ []) rest)

  long : length (front ++ gate ∷ rest) ≡ end + (1 + length rest)
  long = omega (arith, sized, length-append front (gate ∷ rest))

  pub taken : take (end + 1) (front ++ gate ∷ rest) ≡ front ++ gate ∷ []
  taken = ap (take (end + 1)) joined ∙ take_at (front ++ gate ∷ []) rest (end + 1) with_gate

  pub dropped : drop (end + 1) (front ++ gate ∷ rest) ≡ rest
  dropped = ap (drop (end + 1)) joined ∙ drop_at (front ++ gate ∷ []) rest (end + 1) with_gate

  pub record_written : (text : List ℕ) → 0 < length text → written (front ++ gate ∷ rest) (end + 1) text ≡ front ++ gate ∷ (text ++ drop (length text) rest)
  record_written [] some = absurd (omega (arith, some))
  record_written (byte ∷ text) some =
      let past : drop (end + 1 + length (byte ∷ text)) (front ++ gate ∷ rest) ≡ drop (length (byte ∷ text)) rest =
      sym (drop-drop (length (byte ∷ text)) (end + 1) (front ++ gate ∷ rest)) ∙ ap (drop (length (byte ∷ text))) dropped in
      written_within (front ++ gate ∷ rest) (end + 1) byte text (omega (arith, long)) ∙ (λ i. taken i ++ (byte ∷ (text ++ past i)))
      ∙ append_assoc front (gate ∷ []) (byte ∷ (text ++ drop (length (byte ∷ text)) rest))

  pub gate_written : written (front ++ gate ∷ rest) end (0x7B ∷ []) ≡ front ++ 0x7B ∷ rest
  gate_written =
      written_within (front ++ gate ∷ rest) end 0x7B [] (omega (arith, long)) ∙ (λ i. take_at front (gate ∷ rest) end sized i ++ 0x7B ∷ dropped i)

  -- what the write of the record may leave
  pub record_torn : (n : ℕ) (image : List ℕ) → Torn (end + 1) n (front ++ gate ∷ rest) image → (more : List ℕ) × (image ≡ front ++ gate ∷ more)
  record_torn n image torn =
      let whole : min (end + 1) (length (front ++ gate ∷ rest)) ≡ end + 1 = omega (arith, long) in
      let begins : take (end + 1) image ≡ front ++ gate ∷ [] = ap (λ (k : ℕ). take k image) (sym whole) ∙ torn.front ∙ taken in
      (drop (end + 1) image, sym (take-append-drop (end + 1) image) ∙ ap (λ (l : List ℕ). l ++ drop (end + 1) image) begins ∙ append_assoc front (gate ∷ []) (drop (end + 1) image))

  -- what the opening of the gate may leave
  pub gate_torn : (image : List ℕ) → Torn end 1 (front ++ gate ∷ rest) image → (other : ℕ) × (image ≡ front ++ other ∷ rest)
  gate_torn image torn =
      let whole : min end (length (front ++ gate ∷ rest)) ≡ end = omega (arith, long) in
      let begins : take end image ≡ front = ap (λ (k : ℕ). take k image) (sym whole) ∙ torn.front ∙ take_at front (gate ∷ rest) end sized in
      let there : end < length image = omega (arith, long, torn.no_shorter) in
      let ends : drop end image ≡ get_or image end 0 ∷ rest = drop_more image end 0 there ∙ ap (λ (l : List ℕ). get_or image end 0 ∷ l) (torn.back ∙ dropped) in
      (get_or image end 0, sym (take-append-drop end image) ∙ (λ i. begins i ++ ends i))

  pub record_part : (n : ℕ) (text image : List ℕ) → gate ≢ 0x7B → Torn (end + 1) n (front ++ gate ∷ rest) image → IsPartAppended front text rest image
  record_part n text image closed torn = let is = record_torn n image torn in inl (gate, is.0, is.1, closed)

pub gate_part : (front : List ℕ) (gate : ℕ) (rest text : List ℕ) (end : ℕ) (image : List ℕ) → length front ≡ end → Torn end 1 (front ++ gate ∷ (text ++ drop (length text) rest)) image → IsPartAppended front text rest image
gate_part front gate rest text end image sized torn =
    let is = gate_torn front gate (text ++ drop (length text) rest) end sized image torn in
    elim (eqb_tells is.0 0x7B) [
      | inl opens ↦ inr (is.1 ∙ ap (λ (g : ℕ). front ++ g ∷ (text ++ drop (length text) rest)) opens.1)
      | inr shut ↦ inl (is.0, text ++ drop (length text) rest, is.1, shut.1)
    ]

-- the bytes that are told, once the record is written behind its gate
pub mid_bytes : (contents mid : Option (List ℕ)) (front : List ℕ) (gate : ℕ) (rest text : List ℕ) (end : ℕ) → contents ≡ Some (front ++ gate ∷ rest) → length front ≡ end → 0 < length text
    → IfSome contents (λ before. mid ≡ Some (written before (end + 1) text)) → mid ≡ Some (front ++ gate ∷ (text ++ drop (length text) rest))
mid_bytes contents mid front gate rest text end told sized some writes =
    let Writes : Option (List ℕ) → Type 0 = λ o. IfSome o (λ before. mid ≡ Some (written before (end + 1) text)) in
    subst Writes told writes ∙ ap (λ (l : List ℕ). Some l) (record_written front gate rest end sized text some)

pub all_bytes : (contents mid new : Option (List ℕ)) (front : List ℕ) (gate : ℕ) (rest text : List ℕ) (end : ℕ) → contents ≡ Some (front ++ gate ∷ rest) → length front ≡ end → 0 < length text
    → IfSome contents (λ before. mid ≡ Some (written before (end + 1) text)) → IfSome mid (λ before. new ≡ Some (written before end (0x7B ∷ []))) → new ≡ Some (appended front text rest)
all_bytes contents mid new front gate rest text end told sized some writes opens =
    let Opens : Option (List ℕ) → Type 0 = λ o. IfSome o (λ before. new ≡ Some (written before end (0x7B ∷ []))) in
    subst Opens (mid_bytes contents mid front gate rest text end told sized some writes) opens
    ∙ ap (λ (l : List ℕ). Some l) (gate_written front gate (text ++ drop (length text) rest) end sized)

module _ {D : Type 0} (moment : D → ℕ) (images_since : D → ℕ → List ℕ → Type 0) where
  pub once_recorded : (old new : D) (contents : Option (List ℕ)) (front : List ℕ) (gate : ℕ) (rest text : List ℕ) (end n : ℕ) → contents ≡ Some (front ++ gate ∷ rest) → length front ≡ end → gate ≢ 0x7B
      → IfSome contents (λ before. LeavesOnly moment images_since old new (Torn (end + 1) n before)) → LeavesOnly moment images_since old new (IsPartAppended front text rest)
  once_recorded old new contents front gate rest text end n told sized closed leaves =
      let Leaves : Option (List ℕ) → Type 0 = λ o. IfSome o (λ before. LeavesOnly moment images_since old new (Torn (end + 1) n before)) in
      weaker moment images_since old new (Torn (end + 1) n (front ++ gate ∷ rest)) (IsPartAppended front text rest) (subst Leaves told leaves) (λ image. record_part front gate rest end sized n text image closed)

  pub once_gated : (old mid new : D) (middle : Option (List ℕ)) (front : List ℕ) (gate : ℕ) (rest text : List ℕ) (end : ℕ) → middle ≡ Some (front ++ gate ∷ (text ++ drop (length text) rest)) → length front ≡ end
      → LeavesOnly moment images_since old mid (IsPartAppended front text rest) → IfSome middle (λ before. LeavesOnly moment images_since mid new (Torn end 1 before)) → LeavesOnly moment images_since old new (IsPartAppended front text rest)
  once_gated old mid new middle front gate rest text end told sized so_far leaves =
      let Leaves : Option (List ℕ) → Type 0 = λ o. IfSome o (λ before. LeavesOnly moment images_since mid new (Torn end 1 before)) in
      behind moment images_since old mid new (IsPartAppended front text rest) so_far
      (weaker moment images_since mid new (Torn end 1 (front ++ gate ∷ (text ++ drop (length text) rest))) (IsPartAppended front text rest) (subst Leaves told leaves) (λ image. gate_part front gate rest text end image sized))
