use Rattle.std.proofs.Common.{◌≡◌, ◌∷◌, ◌++◌, ℕ, ◌+◌, ◌≤◌, List, length, ap, ◌∙◌, subst, arith, codes, length-append, drop}
use Rattle.wire_base.specs.declared.row.Op.{Op}
use Rattle.registry_log.specs.Appending.{appended_bytes, gate_behind}
use Rattle.registry_log.specs.Records.{record_bytes, record_of}
use Rattle.registry_log.specs.State.{IsOpened}
use Rattle.ship_core.specs.Replay.{replay_on}
use Rattle.registry_log.proofs.AppendCrash.{all_bytes, once_gated, once_recorded}
use Rattle.registry_log.proofs.Recorded.{AreFit, recorded}
use Rattle.registry_frame.specs.BodyOf.{IsBodyOf}
use Rattle.registry_log.proofs.appending.append_body.Goals as goal

are_fit : (ops : List Op) (body : List ℕ) → IsBodyOf ops body → length body ≤ 1_048_576 → AreFit ops
are_fit ops body of short = record { some = of.some; each = of.each; body = omega (arith, short, ap (λ (l : List ℕ). length l) of.spelled) }

pub returns-in_err-write_synced-clause-each_moment : goal.returns-in_err-write_synced-clause-each_moment
returns-in_err-write_synced-clause-each_moment g c = λ only area generation rows told may.
    once_recorded g.D.Disk.moment g.D.Disk.images_since c.args.disk.now c.write_synced.new.disk (g.D.Disk.contents c.args.disk.now) area generation rows c.args.end c.args._ops.now (length c.deref.result.now) told may (c.write_synced.ensures.each_moment only)

pub returns-in_err-write_synced-2-clause-each_moment : goal.returns-in_err-write_synced-2-clause-each_moment
returns-in_err-write_synced-2-clause-each_moment g c = λ only area generation rows told may.
    let fit = are_fit c.args._ops.now c.args.body.now c.requires.body c.requires.fits in
    let spelled : 0x7B ∷ c.deref.result.now ≡ record_bytes c.args._ops.now ++ codes "." =
    ap (λ (l : List ℕ). 0x7B ∷ l) c.deref.ensures.value ∙ c.in_ok-text.ensures ∙ ap (λ (l : List ℕ). record_of l ++ codes ".") c.requires.body.spelled in
    once_gated g.D.Disk.moment g.D.Disk.images_since c.args.disk.now c.write_synced.new.disk c.write_synced-2.new.disk (g.D.Disk.contents c.args.disk.now) (g.D.Disk.contents c.write_synced.new.disk) area generation rows c.args.end
    c.args._ops.now c.deref.result.now told may fit spelled (once_recorded g.D.Disk.moment g.D.Disk.images_since c.args.disk.now c.write_synced.new.disk (g.D.Disk.contents c.args.disk.now) area generation rows c.args.end c.args._ops.now (length c.deref.result.now) told may (c.write_synced.ensures.each_moment only)) c.in_ok-write_synced.ensures.written
    (c.write_synced-2.ensures.each_moment c.in_ok-write_synced.ensures.durable)

pub returns-clause-appended : goal.returns-clause-appended
returns-clause-appended g c = λ area generation rows told may.
    let fit = are_fit c.args._ops.now c.args.body.now c.requires.body c.requires.fits in
    let spelled : 0x7B ∷ c.deref.result.now ≡ record_bytes c.args._ops.now ++ codes "." =
    ap (λ (l : List ℕ). 0x7B ∷ l) c.deref.ensures.value ∙ c.in_ok-text.ensures ∙ ap (λ (l : List ℕ). record_of l ++ codes ".") c.requires.body.spelled in
    all_bytes (g.D.Disk.contents c.args.disk.now) (g.D.Disk.contents c.write_synced.new.disk) (g.D.Disk.contents c.write_synced-2.new.disk) area generation rows c.args.end c.args._ops.now c.deref.result.now told may fit spelled
    c.in_ok-write_synced.ensures.written c.in_ok-write_synced-2.ensures.written

pub returns-clause-opened : goal.returns-clause-opened
returns-clause-opened g c = λ area generation rows may.
    let fit = are_fit c.args._ops.now c.args.body.now c.requires.body c.requires.fits in
    let spelled : 0x7B ∷ c.deref.result.now ≡ record_bytes c.args._ops.now ++ codes "." =
    ap (λ (l : List ℕ). 0x7B ∷ l) c.deref.ensures.value ∙ c.in_ok-text.ensures ∙ ap (λ (l : List ℕ). record_of l ++ codes ".") c.requires.body.spelled in
    let gate : gate_behind c.args.end c.args._ops.now ≡ c.args.end + c.len.result =
    omega (arith, ap length spelled, length-append (record_bytes c.args._ops.now) (codes "."), ap length c.deref.ensures.value, c.len.ensures, c.in_ok-text.text.ok.0) in
    let At : ℕ → Type 0 = λ n. IsOpened (appended_bytes area c.args.end c.args._ops.now) generation (replay_on rows c.args._ops.now) n in
    subst At gate (recorded area generation rows c.args.end c.args._ops.now (drop (c.args.end + length (record_bytes c.args._ops.now) + 1) area) may fit)

pub returns-clause-each_moment : goal.returns-clause-each_moment
returns-clause-each_moment g c = λ only area generation rows told may.
    let fit = are_fit c.args._ops.now c.args.body.now c.requires.body c.requires.fits in
    let spelled : 0x7B ∷ c.deref.result.now ≡ record_bytes c.args._ops.now ++ codes "." =
    ap (λ (l : List ℕ). 0x7B ∷ l) c.deref.ensures.value ∙ c.in_ok-text.ensures ∙ ap (λ (l : List ℕ). record_of l ++ codes ".") c.requires.body.spelled in
    once_gated g.D.Disk.moment g.D.Disk.images_since c.args.disk.now c.write_synced.new.disk c.write_synced-2.new.disk (g.D.Disk.contents c.args.disk.now) (g.D.Disk.contents c.write_synced.new.disk) area generation rows c.args.end
    c.args._ops.now c.deref.result.now told may fit spelled (once_recorded g.D.Disk.moment g.D.Disk.images_since c.args.disk.now c.write_synced.new.disk (g.D.Disk.contents c.args.disk.now) area generation rows c.args.end c.args._ops.now (length c.deref.result.now) told may (c.write_synced.ensures.each_moment only)) c.in_ok-write_synced.ensures.written
    (c.write_synced-2.ensures.each_moment c.in_ok-write_synced.ensures.durable)
