use Rattle.std.proofs.Common.{◌≡◌, MatchResult, inl, inr, arith, sym, ◌∙◌, subst}
use Rattle.wire_base.specs.declared.row.Op.{Op}
use Rattle.registry_frame.specs.BodyOf.{IsStoredOp}
use Rattle.registry_frame.specs.Tokens.{IsNoMemory}
use Rattle.registry_frame.proofs.Fields.{is_epoch, is_key, named, not_epoch, not_key, not_key_but_epoch}
use Rattle.registry_frame.proofs.reading.read_fields.Goals as goal

pub returns-in_err-first-clause-reads : goal.returns-in_err-first-clause-reads
returns-in_err-first-clause-reads c = λ op rest stored begins.
    let is = named op rest in absurd (c.in_err-first.ensures.reads is.0 is.1 (begins ∙ is.2))

pub returns-then-eq-clause-reads : goal.returns-then-eq-clause-reads
returns-then-eq-clause-reads c = λ op rest stored begins.
    let is = named op rest in
    let read = c.in_ok-first.ensures.reads is.0 is.1 (begins ∙ is.2) in
    let Reads : Op → Type 0 = λ o. MatchResult c.read_removal.result (λ r. (r ≡ o) × (c.read_removal.new.reader ≡ rest)) IsNoMemory in
    elim is.3 [
      | inl removal ↦ subst Reads (sym removal.operation) (c.read_removal.ensures.reads removal.key rest (read.1 ∙ removal.behind))
      | inr set ↦ elim set [
        | inl plain ↦ absurd (not_key_but_epoch c.in_ok-first.first.now (sym c.eq.ensures ∙ c.if-eq.true) (read.0 ∙ plain.named))
        | inr changed ↦ absurd (not_key c.in_ok-first.first.now (sym c.eq.ensures ∙ c.if-eq.true) (read.0 ∙ changed.named))
      ]
    ]

pub returns-then-eq-2-clause-reads : goal.returns-then-eq-2-clause-reads
returns-then-eq-2-clause-reads c = λ op rest stored begins.
    let is = named op rest in
    let read = c.in_ok-first.ensures.reads is.0 is.1 (begins ∙ is.2) in
    let Reads : Op → Type 0 = λ o. MatchResult c.read_row.result (λ r. (r ≡ o) × (c.read_row.new.reader ≡ rest)) IsNoMemory in
    elim is.3 [
      | inl removal ↦ absurd (is_key c.in_ok-first.first.now (sym c.eq.ensures ∙ c.if-eq.false) (read.0 ∙ removal.named))
      | inr set ↦ elim set [
        | inl plain ↦ subst Reads (sym plain.operation) (c.read_row.ensures.reads plain.row rest (subst IsStoredOp plain.operation stored) (λ i. record { 0 = plain.unchanged i }) (read.1 ∙ plain.behind))
        | inr changed ↦ absurd (not_epoch c.in_ok-first.first.now (sym c.eq-2.ensures ∙ c.if-eq-2.true) (read.0 ∙ changed.named))
      ]
    ]

pub returns-in_err-changed-clause-reads : goal.returns-in_err-changed-clause-reads
returns-in_err-changed-clause-reads c = λ op rest stored begins.
    let is = named op rest in
    let read = c.in_ok-first.ensures.reads is.0 is.1 (begins ∙ is.2) in
    absurd (elim is.3 [
      | inl removal ↦ is_key c.in_ok-first.first.now (sym c.eq.ensures ∙ c.if-eq.false) (read.0 ∙ removal.named)
      | inr set ↦ elim set [
        | inl plain ↦ is_epoch c.in_ok-first.first.now (sym c.eq-2.ensures ∙ c.if-eq-2.false) (read.0 ∙ plain.named)
        | inr changed ↦
            let row = subst IsStoredOp changed.operation stored in
            c.in_err-changed.ensures.reads changed.row.changed.0 _ (omega (arith, row.ranges.changed)) (read.1 ∙ changed.behind)
      ]
    ])

pub returns-clause-reads : goal.returns-clause-reads
returns-clause-reads c = λ op rest stored begins.
    let is = named op rest in
    let read = c.in_ok-first.ensures.reads is.0 is.1 (begins ∙ is.2) in
    let Reads : Op → Type 0 = λ o. MatchResult c.read_row-2.result (λ r. (r ≡ o) × (c.read_row-2.new.reader ≡ rest)) IsNoMemory in
    elim is.3 [
      | inl removal ↦ absurd (is_key c.in_ok-first.first.now (sym c.eq.ensures ∙ c.if-eq.false) (read.0 ∙ removal.named))
      | inr set ↦ elim set [
        | inl plain ↦ absurd (is_epoch c.in_ok-first.first.now (sym c.eq-2.ensures ∙ c.if-eq-2.false) (read.0 ∙ plain.named))
        | inr changed ↦
            let row = subst IsStoredOp changed.operation stored in
            let moment = c.in_ok-changed.ensures.reads changed.row.changed.0 _ (omega (arith, row.ranges.changed)) (read.1 ∙ changed.behind) in
            subst Reads (sym changed.operation) (c.read_row-2.ensures.reads changed.row rest row (λ i. record { 0 = sym moment.0 i }) (c.skip_token.ensures.passed _ _ moment.1))
      ]
    ]
