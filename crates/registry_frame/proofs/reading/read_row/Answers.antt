use Rattle.std.proofs.Common.{arith, sym}
use Rattle.std.proofs.lemmas.Result.{err_from_is_err_and}
use Rattle.wire_base.specs.declared.row.Op.TheVariants.{Set}
use Rattle.registry_frame.proofs.reading.read_row.Goals as goal

pub returns-in_err-epoch-clause-reads : goal.returns-in_err-epoch-clause-reads
returns-in_err-epoch-clause-reads c = λ row rest stored changed begins. absurd (c.in_err-epoch.ensures.reads row.epoch.0 _ stored.epoch begins)

pub returns-in_err-key-clause-reads : goal.returns-in_err-key-clause-reads
returns-in_err-key-clause-reads c = λ row rest stored changed begins.
    let epoch = c.in_ok-epoch.ensures.reads row.epoch.0 _ stored.epoch begins in
    let p = err_from_is_err_and c.from_residual-in_err-key.result c.from_residual-in_err-key.ensures.1 in
    rw (p.1, p.2) (c.in_err-key.ensures.reads row.key _ (c.skip_token.ensures.passed _ _ epoch.1))

pub returns-in_err-offset-clause-reads : goal.returns-in_err-offset-clause-reads
returns-in_err-offset-clause-reads c = λ row rest stored changed begins.
    let epoch = c.in_ok-epoch.ensures.reads row.epoch.0 _ stored.epoch begins in
    let key = c.in_ok-key.ensures.reads row.key _ (c.skip_token.ensures.passed _ _ epoch.1) in
    absurd (c.in_err-offset.ensures.reads row.offset _ (omega (arith, stored.ranges.offset)) (c.skip_token-2.ensures.passed _ _ key.1))

pub returns-in_err-path-clause-reads : goal.returns-in_err-path-clause-reads
returns-in_err-path-clause-reads c = λ row rest stored changed begins.
    let epoch = c.in_ok-epoch.ensures.reads row.epoch.0 _ stored.epoch begins in
    let key = c.in_ok-key.ensures.reads row.key _ (c.skip_token.ensures.passed _ _ epoch.1) in
    let offset = c.in_ok-offset.ensures.reads row.offset _ (omega (arith, stored.ranges.offset)) (c.skip_token-2.ensures.passed _ _ key.1) in
    let name = c.skip_token-3.ensures.passed _ _ offset.1 in
    let operation = c.skip_token-4.ensures.passed _ _ name in
    let p = err_from_is_err_and c.from_residual-in_err-path.result c.from_residual-in_err-path.ensures.1 in
    rw (p.1, p.2) (c.in_err-path.ensures.reads row.path _ (c.skip_token-5.ensures.passed _ _ operation))

pub returns-clause-reads : goal.returns-clause-reads
returns-clause-reads c = λ row rest stored changed begins.
    let epoch = c.in_ok-epoch.ensures.reads row.epoch.0 _ stored.epoch begins in
    let key = c.in_ok-key.ensures.reads row.key _ (c.skip_token.ensures.passed _ _ epoch.1) in
    let offset = c.in_ok-offset.ensures.reads row.offset _ (omega (arith, stored.ranges.offset)) (c.skip_token-2.ensures.passed _ _ key.1) in
    let name = c.skip_token-3.ensures.passed _ _ offset.1 in
    let operation = c.skip_token-4.ensures.passed _ _ name in
    let path = c.in_ok-path.ensures.reads row.path _ (c.skip_token-5.ensures.passed _ _ operation) in
    (λ i. Set (record { key = key.0 i; path = path.0 i; epoch = record { 0 = epoch.0 i }; offset = offset.0 i; changed = sym changed i }), c.skip_token-6.ensures.passed _ rest path.1)
