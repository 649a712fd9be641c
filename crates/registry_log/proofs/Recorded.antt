-- An area to which a record is appended: what it reads as with the record and without, whatever a crash leaves.
use Rattle.std.proofs.Common.{◌≡◌, ◌≢◌, inl, inr, ℕ, ◌+◌, ◌-◌, ◌<◌, ◌≤◌, List, [], ◌∷◌, ◌++◌, length, take, drop, get_or, refl, sym, ap, ◌∙◌, subst, arith, codes, append-nil, append_assoc, length-append, length-drop}
use Rattle.std.specs.Prelude.{All, min, replicate, slice_get}
use Rattle.std.specs.List.{flat_map}
use Rattle.std.proofs.lemmas.Bool.Decides.{eqb_tells}
use Rattle.std.proofs.lemmas.List.{drop-drop, drop_at, drop_more, length-take-le, take-append-drop, take-append-le, take-take, take_at, take_more}
use Rattle.outside.specs.DiskImages.{Torn}
use Rattle.outside.specs.DiskReads.{written}
use Rattle.wire_base.specs.declared.row.Op.{Op}
use Rattle.wire_base.specs.declared.row.Row.{Row}
use Rattle.ship_core.specs.Replay.{replay, replay_on}
use Rattle.registry_frame.specs.Body.{body_bytes}
use Rattle.registry_frame.specs.BodyOf.{IsStoredOp}
use Rattle.registry_log.specs.declared.area_text.TheConstants.{MAX_BODY}
use Rattle.registry_log.specs.Appending.{IsBeforeOrAfter, MayAppend, appended_bytes, gate_behind}
use Rattle.registry_log.specs.Header.{first_wrong, generation_of}
use Rattle.registry_log.specs.Reading.{MayBeRecord}
use Rattle.registry_log.specs.Records.{record_bytes}
use Rattle.registry_log.specs.State.{IsOpened, Reaches, operations_of}
use Rattle.registry_log.proofs.Fronts.{take_past}
use Rattle.registry_log.proofs.Headers.{same_first_wrong, same_generation, same_get}
use Rattle.registry_log.proofs.ReadOn.{pushed, pushed_operations, replayed_more}

-- ---- the parts of an opened area

record Parts (area : List ℕ) (records : List (List Op)) (end gate : ℕ) (rest : List ℕ) : Type 0 where
  long : length area ≡ end + (1 + length rest)
  low : 29 ≤ end
  front : take end area ≡ take 29 area ++ flat_map record_bytes records
  behind : drop end area ≡ gate ∷ rest

parts : (area : List ℕ) (generation end : ℕ) (records : List (List Op)) (gate : ℕ) (rest : List ℕ) → Reaches area generation records end (gate ∷ rest) → Parts area records end gate rest
parts area generation end records gate rest reaches =
    let all : List ℕ = flat_map record_bytes records in
    let place : 29 + length all ≡ end = reaches.begins in
    let lengths : length (drop 29 area) ≡ length all + (1 + length rest) = ap length reaches.bytes ∙ length-append all (gate ∷ rest) ∙ omega arith in
    let enough : 29 ≤ length area = omega (arith, lengths, length-drop 29 area) in
    let first : length (take 29 area) ≡ 29 = length-take-le 29 area enough in
    let whole : area ≡ take 29 area ++ (all ++ gate ∷ rest) = sym (take-append-drop 29 area) ∙ ap (λ (l : List ℕ). take 29 area ++ l) reaches.bytes in
    let left : end - length (take 29 area) ≡ length all = omega (arith, first, place) in
    let At : ℕ → Type 0 = λ n. drop n area ≡ gate ∷ rest in
    record {
      long = omega (arith, lengths, length-drop 29 area, place);
      low = omega (arith, place);
      front = ap (take end) whole ∙ take_past (take 29 area) (all ++ gate ∷ rest) end (omega (arith, first, place))
          ∙ ap (λ (l : List ℕ). take 29 area ++ l) (ap (λ (n : ℕ). take n (all ++ gate ∷ rest)) left ∙ take_at all (gate ∷ rest) (length all) refl);
      behind = subst At place (sym (drop-drop (length all) 29 area) ∙ ap (drop (length all)) reaches.bytes ∙ drop_at all (gate ∷ rest) (length all) refl);
    }

-- what stands from the last gate on may be replaced
rebuilt : (area : List ℕ) (generation end : ℕ) (records : List (List Op)) (gate : ℕ) (rest tail : List ℕ) → Reaches area generation records end (gate ∷ rest) → Reaches (take end area ++ tail) generation records end tail
rebuilt area generation end records gate rest tail reaches =
    let are = parts area generation end records gate rest reaches in
    let new : List ℕ = take end area ++ tail in
    let all : List ℕ = flat_map record_bytes records in
    let sized : length (take end area) ≡ end = length-take-le end area (omega (arith, are.long)) in
    let long : 29 ≤ length new = omega (arith, sized, are.low, length-append (take end area) tail) in
    let first : length (take 29 area) ≡ 29 = length-take-le 29 area (omega (arith, are.long, are.low)) in
    let same : take 29 new ≡ take 29 area = take-append-le 29 (take end area) tail (omega (arith, sized, are.low)) ∙ take-take 29 end area are.low in
    record {
      unclosed = record {
        gate = sym (same_get new 29 0 (omega arith)) ∙ ap (λ (l : List ℕ). slice_get l 0) same ∙ same_get area 29 0 (omega arith) ∙ reaches.unclosed.gate;
        more = omega (arith, long);
      };
      header = record {
        right = sym (same_first_wrong new 29 (omega arith)) ∙ ap first_wrong same ∙ same_first_wrong area 29 (omega arith) ∙ reaches.header.right;
        number = sym (same_generation new 29 (omega arith)) ∙ ap generation_of same ∙ same_generation area 29 (omega arith) ∙ reaches.header.number;
      };
      each = reaches.each;
      bytes = ap (λ (l : List ℕ). drop 29 (l ++ tail)) are.front ∙ ap (drop 29) (append_assoc (take 29 area) all tail) ∙ drop_at (take 29 area) (all ++ tail) 29 first;
      begins = reaches.begins;
    }

-- with another gate that is not open the area reads as before
pub kept : (area : List ℕ) (generation : ℕ) (rows : List Row) (end gate : ℕ) (rest : List ℕ) → IsOpened area generation rows end → gate ≢ 0x7B → IsOpened (take end area ++ gate ∷ rest) generation rows end
kept area generation rows end gate rest opened closed = record {
  records = opened.records;
  gate = gate;
  rest = rest;
  reaches = rebuilt area generation end opened.records opened.gate opened.rest (gate ∷ rest) opened.reaches;
  closed = closed;
  replayed = opened.replayed;
}

-- the operations may be a record
pub record AreFit (ops : List Op) : Type 0 where
  pub some : ops ≢ []
  pub each : All IsStoredOp ops
  pub body : length (body_bytes ops) ≤ MAX_BODY

-- with a record and a closed gate after it the area has the rows after the record
pub recorded : (area : List ℕ) (generation : ℕ) (rows : List Row) (end : ℕ) (ops : List Op) (rest : List ℕ) → MayAppend area generation rows end ops → AreFit ops
    → IsOpened (take end area ++ (record_bytes ops ++ 46 ∷ rest)) generation (replay_on rows ops) (gate_behind end ops)
recorded area generation rows end ops rest may fit =
    let opened = may.opened in
    let same = replayed_more opened.records ops rows opened.replayed in
    let follows : MayBeRecord (operations_of opened.records) ops = record { some = fit.some; each = fit.each; body = fit.body; rows = omega (arith, may.few, ap length same) } in
    record {
      records = opened.records ++ ops ∷ [];
      gate = 46;
      rest = rest;
      reaches = pushed (take end area ++ (record_bytes ops ++ 46 ∷ rest)) generation end opened.records ops (46 ∷ rest)
          (rebuilt area generation end opened.records opened.gate opened.rest (record_bytes ops ++ 46 ∷ rest) opened.reaches) follows;
      closed = λ is. omega (arith, is);
      replayed = ap replay (pushed_operations opened.records ops) ∙ same;
    }

-- ---- writes

pub longer_than_gate : (area : List ℕ) (generation : ℕ) (rows : List Row) (end : ℕ) → IsOpened area generation rows end → end < length area
longer_than_gate area generation rows end opened =
    let are = parts area generation end opened.records opened.gate opened.rest opened.reaches in omega (arith, are.long)

gate_is : (area : List ℕ) (generation : ℕ) (rows : List Row) (end : ℕ) → (opened : IsOpened area generation rows end) → get_or area end 0 ≡ opened.gate
gate_is area generation rows end opened =
    let are = parts area generation end opened.records opened.gate opened.rest opened.reaches in
    ap (λ (l : List ℕ). get_or l 0 0) (sym (drop_more area end 0 (longer_than_gate area generation rows end opened)) ∙ are.behind)

none_past : (at : ℕ) (old : List ℕ) → at ≤ length old → old ++ replicate (at - length old) 0 ≡ old
none_past at old within = let none : at - length old ≡ 0 = omega arith in ap (λ (n : ℕ). old ++ replicate n 0) none ∙ append-nil old

pub written_within : (old : List ℕ) (at byte : ℕ) (bytes : List ℕ) → at ≤ length old → written old at (byte ∷ bytes) ≡ take at old ++ (byte ∷ (bytes ++ drop (at + length (byte ∷ bytes)) old))
written_within old at byte bytes within =
    ap (λ (l : List ℕ). take at l ++ byte ∷ bytes ++ drop (at + length (byte ∷ bytes)) old) (none_past at old within)
    ∙ append_assoc (take at old) (byte ∷ bytes) (drop (at + length (byte ∷ bytes)) old)

-- the area once the record is written, whose gate is still closed
abbrev pub behind_gate : List ℕ → ℕ → List ℕ → List ℕ
behind_gate area end text = take (end + 1) area ++ (text ++ drop (end + 1 + length text) area)

pub written_behind_gate : (area : List ℕ) (end : ℕ) (text : List ℕ) → end < length area → 0 < length text → written area (end + 1) text ≡ behind_gate area end text
written_behind_gate area end [] inside some = absurd (omega (arith, some))
written_behind_gate area end (byte ∷ text) inside some = written_within area (end + 1) byte text (omega (arith, inside))

-- what the write of the record may leave
pub torn_record : (area image : List ℕ) (generation : ℕ) (rows : List Row) (end n : ℕ) → IsOpened area generation rows end → Torn (end + 1) n area image → IsOpened image generation rows end
torn_record area image generation rows end n opened torn =
    let inside = longer_than_gate area generation rows end opened in
    let whole : min (end + 1) (length area) ≡ end + 1 = omega (arith, inside) in
    let front : take (end + 1) image ≡ take (end + 1) area = ap (λ (k : ℕ). take k image) (sym whole) ∙ torn.front in
    let gate : get_or area end 0 ≡ opened.gate = gate_is area generation rows end opened in
    let same : image ≡ take end area ++ (get_or area end 0 ∷ drop (end + 1) image) =
    sym (take-append-drop (end + 1) image) ∙ ap (λ (l : List ℕ). l ++ drop (end + 1) image) (front ∙ take_more area end 0 inside)
    ∙ append_assoc (take end area) (get_or area end 0 ∷ []) (drop (end + 1) image) in
    let Reads : List ℕ → Type 0 = λ l. IsOpened l generation rows end in
    subst Reads (sym same) (kept area generation rows end (get_or area end 0) (drop (end + 1) image) opened (λ is. opened.closed (sym gate ∙ is)))

-- ---- the gate opens

module _ (area : List ℕ) (end : ℕ) (text : List ℕ) (inside : end < length area) where
  sized_front : length (take (end + 1) area) ≡ end + 1
  sized_front = length-take-le (end + 1) area (omega (arith, inside))

  front_stays : take end (behind_gate area end text) ≡ take end area
  front_stays =
      take-append-le end (take (end + 1) area) (text ++ drop (end + 1 + length text) area) (omega (arith, sized_front)) ∙ take-take end (end + 1) area (omega arith)

  back_stays : drop (end + 1) (behind_gate area end text) ≡ text ++ drop (end + 1 + length text) area
  back_stays = drop_at (take (end + 1) area) (text ++ drop (end + 1 + length text) area) (end + 1) sized_front

  pub still_longer : end < length (behind_gate area end text)
  still_longer = omega (arith, sized_front, length-append (take (end + 1) area) (text ++ drop (end + 1 + length text) area))

  -- with this byte as its gate
  abbrev pub with_gate : ℕ → List ℕ
  with_gate gate = take end area ++ gate ∷ (text ++ drop (end + 1 + length text) area)

  pub gate_written : written (behind_gate area end text) end (0x7B ∷ []) ≡ with_gate 0x7B
  gate_written =
      written_within (behind_gate area end text) end 0x7B [] (omega (arith, still_longer)) ∙ (λ i. front_stays i ++ 0x7B ∷ back_stays i)

  pub torn_gate : (image : List ℕ) → Torn end 1 (behind_gate area end text) image → (gate : ℕ) × (image ≡ with_gate gate)
  torn_gate image torn =
      let whole : min end (length (behind_gate area end text)) ≡ end = omega (arith, still_longer) in
      let front : take end image ≡ take end area = ap (λ (k : ℕ). take k image) (sym whole) ∙ torn.front ∙ front_stays in
      let there : end < length image = omega (arith, still_longer, torn.no_shorter) in
      let back : drop end image ≡ get_or image end 0 ∷ (text ++ drop (end + 1 + length text) area) =
      drop_more image end 0 there ∙ ap (λ (l : List ℕ). get_or image end 0 ∷ l) (torn.back ∙ back_stays) in
      (get_or image end 0, sym (take-append-drop end image) ∙ (λ i. front i ++ back i))

-- the text of a record after its gate, and the closed gate
pub opened_bytes : (area : List ℕ) (end : ℕ) (ops : List Op) (text : List ℕ) (inside : end < length area) → 0x7B ∷ text ≡ record_bytes ops ++ codes "." → with_gate area end text inside 0x7B ≡ appended_bytes area end ops
opened_bytes area end ops text inside spelled =
    let sized : end + 1 + length text ≡ end + length (record_bytes ops) + 1 = omega (arith, ap length spelled, length-append (record_bytes ops) (codes ".")) in
    let back : 0x7B ∷ (text ++ drop (end + 1 + length text) area) ≡ record_bytes ops ++ (codes "." ++ drop (end + length (record_bytes ops) + 1) area) =
    (λ i. spelled i ++ drop (sized i) area) ∙ append_assoc (record_bytes ops) (codes ".") (drop (end + length (record_bytes ops) + 1) area) in
    ap (λ (l : List ℕ). take end area ++ l) back

pub gate_torn : (area image : List ℕ) (generation : ℕ) (rows : List Row) (end : ℕ) (ops : List Op) (text : List ℕ) → MayAppend area generation rows end ops → AreFit ops → 0x7B ∷ text ≡ record_bytes ops ++ codes "."
    → Torn end 1 (behind_gate area end text) image → IsBeforeOrAfter generation rows end ops image
gate_torn area image generation rows end ops text may fit spelled torn =
    let inside = longer_than_gate area generation rows end may.opened in
    let is = torn_gate area end text inside image torn in
    let Reads : List ℕ → Type 0 = λ l. IsBeforeOrAfter generation rows end ops l in
    elim (eqb_tells is.0 0x7B) [
      | inl opens ↦
          let same : image ≡ appended_bytes area end ops = is.1 ∙ ap (with_gate area end text inside) opens.1 ∙ opened_bytes area end ops text inside spelled in
          subst Reads (sym same) (inr (recorded area generation rows end ops (drop (end + length (record_bytes ops) + 1) area) may fit))
      | inr shut ↦ subst Reads (sym is.1) (inl (kept area generation rows end is.0 (text ++ drop (end + 1 + length text) area) may.opened shut.1))
    ]
