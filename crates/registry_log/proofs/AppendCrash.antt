-- What a crash leaves at any moment of appending a record, and what is there in the end.
use Rattle.std.proofs.Common.{◌≡◌, inl, ℕ, ◌+◌, ◌<◌, List, [], ◌∷◌, ◌++◌, length, Option, Some, IfSome, ◌∙◌, ap, subst, arith, codes, length-append}
use Rattle.outside.specs.DiskImages.{LeavesOnly, Torn}
use Rattle.outside.specs.DiskReads.{written}
use Rattle.wire_base.specs.declared.row.Op.{Op}
use Rattle.wire_base.specs.declared.row.Row.{Row}
use Rattle.registry_log.specs.Appending.{IsBeforeOrAfter, MayAppend, appended_bytes}
use Rattle.registry_log.specs.Records.{record_bytes}
use Rattle.registry_log.proofs.Crashes.{behind, weaker}
use Rattle.registry_log.proofs.Heads.{record_length}
use Rattle.registry_log.proofs.Recorded.{AreFit, behind_gate, gate_torn, gate_written, longer_than_gate, opened_bytes, torn_record, written_behind_gate}

-- the area that is told, once the record is written after its gate
mid_bytes : (contents mid : Option (List ℕ)) (area : List ℕ) (generation : ℕ) (rows : List Row) (end : ℕ) (ops : List Op) (text : List ℕ) → contents ≡ Some area → MayAppend area generation rows end ops → AreFit ops
    → 0x7B ∷ text ≡ record_bytes ops ++ codes "." → IfSome contents (λ before. mid ≡ Some (written before (end + 1) text)) → mid ≡ Some (behind_gate area end text)
mid_bytes contents mid area generation rows end ops text told may fit spelled writes =
    let Writes : Option (List ℕ) → Type 0 = λ o. IfSome o (λ before. mid ≡ Some (written before (end + 1) text)) in
    let some : 0 < length text = omega (arith, ap length spelled, length-append (record_bytes ops) (codes "."), record_length ops fit.body) in
    subst Writes told writes ∙ ap (λ (l : List ℕ). Some l) (written_behind_gate area end text (longer_than_gate area generation rows end may.opened) some)

pub all_bytes : (contents mid new : Option (List ℕ)) (area : List ℕ) (generation : ℕ) (rows : List Row) (end : ℕ) (ops : List Op) (text : List ℕ) → contents ≡ Some area → MayAppend area generation rows end ops → AreFit ops
    → 0x7B ∷ text ≡ record_bytes ops ++ codes "." → IfSome contents (λ before. mid ≡ Some (written before (end + 1) text)) → IfSome mid (λ before. new ≡ Some (written before end (0x7B ∷ [])))
    → new ≡ Some (appended_bytes area end ops)
all_bytes contents mid new area generation rows end ops text told may fit spelled writes opens =
    let Opens : Option (List ℕ) → Type 0 = λ o. IfSome o (λ before. new ≡ Some (written before end (0x7B ∷ []))) in
    let inside = longer_than_gate area generation rows end may.opened in
    subst Opens (mid_bytes contents mid area generation rows end ops text told may fit spelled writes) opens
    ∙ ap (λ (l : List ℕ). Some l) (gate_written area end text inside ∙ opened_bytes area end ops text inside spelled)

module _ {D : Type 0} (moment : D → ℕ) (images_since : D → ℕ → List ℕ → Type 0) where
  pub once_recorded : (old new : D) (contents : Option (List ℕ)) (area : List ℕ) (generation : ℕ) (rows : List Row) (end : ℕ) (ops : List Op) (n : ℕ) → contents ≡ Some area → MayAppend area generation rows end ops
      → IfSome contents (λ before. LeavesOnly moment images_since old new (Torn (end + 1) n before)) → LeavesOnly moment images_since old new (IsBeforeOrAfter generation rows end ops)
  once_recorded old new contents area generation rows end ops n told may leaves =
      let Leaves : Option (List ℕ) → Type 0 = λ o. IfSome o (λ before. LeavesOnly moment images_since old new (Torn (end + 1) n before)) in
      weaker moment images_since old new (Torn (end + 1) n area) (IsBeforeOrAfter generation rows end ops) (subst Leaves told leaves)
      (λ image torn. inl (torn_record area image generation rows end n may.opened torn))

  pub once_gated : (old mid new : D) (contents middle : Option (List ℕ)) (area : List ℕ) (generation : ℕ) (rows : List Row) (end : ℕ) (ops : List Op) (text : List ℕ) → contents ≡ Some area → MayAppend area generation rows end ops → AreFit ops
      → 0x7B ∷ text ≡ record_bytes ops ++ codes "." → LeavesOnly moment images_since old mid (IsBeforeOrAfter generation rows end ops)
      → IfSome contents (λ before. middle ≡ Some (written before (end + 1) text)) → IfSome middle (λ before. LeavesOnly moment images_since mid new (Torn end 1 before))
      → LeavesOnly moment images_since old new (IsBeforeOrAfter generation rows end ops)
  once_gated old mid new contents middle area generation rows end ops text told may fit spelled so_far writes leaves =
      let Leaves : Option (List ℕ) → Type 0 = λ o. IfSome o (λ before. LeavesOnly moment images_since mid new (Torn end 1 before)) in
      behind moment images_since old mid new (IsBeforeOrAfter generation rows end ops) so_far
      (weaker moment images_since mid new (Torn end 1 (behind_gate area end text)) (IsBeforeOrAfter generation rows end ops)
      (subst Leaves (mid_bytes contents middle area generation rows end ops text told may fit spelled writes) leaves)
      (λ image torn. gate_torn area image generation rows end ops text may fit spelled torn))
