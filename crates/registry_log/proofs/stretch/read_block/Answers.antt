use Rattle.std.proofs.Common.{◌≡◌, ℕ, ◌+◌, List, take, drop, length, Option, IfSome, sym, ap, ◌∙◌, subst, arith, append-nil}
use Rattle.std.proofs.lemmas.List.{drop-drop}
use Rattle.outside.specs.DiskReads.{HoldsRange}
use Rattle.registry_log.specs.RecordReading.{IsFront}
use Rattle.registry_log.proofs.Fronts.{grown_front}
use Rattle.registry_log.proofs.OnlyReads.{one_call}
use Rattle.registry_log.proofs.stretch.read_block.Goals as goal

pub returns-in_err-count-clause-goes_on : goal.returns-in_err-count-clause-goes_on
returns-in_err-count-clause-goes_on g c = (_, sym (append-nil c.args.bytes.now.items))

pub returns-in_err-count-clause-only_read : goal.returns-in_err-count-clause-only_read
returns-in_err-count-clause-only_read g c =
    one_call g.D.Disk.contents g.D.Disk.images g.D.Disk.moment g.D.Disk.images_since g.D.Disk.faults c.args.disk.now c.read.new.self (g.met.D.Disk.only_now c.args.disk.now) c.read.ensures.contents_kept c.read.ensures.images
    c.read.ensures.time c.read.ensures.faults_never_fall

pub returns-in_err-extend_from_slice-clause-goes_on : goal.returns-in_err-extend_from_slice-clause-goes_on
returns-in_err-extend_from_slice-clause-goes_on g c = (_, c.in_err-extend_from_slice.ensures.items ∙ sym (append-nil c.args.bytes.now.items))

pub returns-in_err-extend_from_slice-clause-of_the_area : goal.returns-in_err-extend_from_slice-clause-of_the_area
returns-in_err-extend_from_slice-clause-of_the_area g c = λ area told is.
    let Is : List ℕ → Type 0 = λ l. IsFront l (drop c.args.place area) in subst Is (sym c.in_err-extend_from_slice.ensures.items) is

pub returns-in_err-extend_from_slice-clause-only_read : goal.returns-in_err-extend_from_slice-clause-only_read
returns-in_err-extend_from_slice-clause-only_read g c =
    one_call g.D.Disk.contents g.D.Disk.images g.D.Disk.moment g.D.Disk.images_since g.D.Disk.faults c.args.disk.now c.read.new.self (g.met.D.Disk.only_now c.args.disk.now) c.read.ensures.contents_kept c.read.ensures.images
    c.read.ensures.time c.read.ensures.faults_never_fall

pub returns-clause-goes_on : goal.returns-clause-goes_on
returns-clause-goes_on g c = (_, c.in_ok-extend_from_slice.ensures.items)

pub returns-clause-end : goal.returns-clause-end
returns-clause-end g c = λ area told none.
    let Told : Option (List ℕ) → Type 0 = λ o. IfSome o (λ bytes. HoldsRange bytes (c.args.place + c.len.result) c.read.new.into c.in_ok-count.count) in
    let range = subst Told told c.in_ok-count.ensures.told in
    omega (arith, range.zero_only_at_the_end (omega arith) none, c.len.ensures, c.in_ok-extend_from_slice.ensures.len)

pub returns-clause-of_the_area : goal.returns-clause-of_the_area
returns-clause-of_the_area g c = λ area told is.
    let Told : Option (List ℕ) → Type 0 = λ o. IfSome o (λ bytes. HoldsRange bytes (c.args.place + c.len.result) c.read.new.into c.in_ok-count.count) in
    let range = subst Told told c.in_ok-count.ensures.told in
    let long : c.len.result ≡ length c.args.bytes.now.items = omega (arith, c.len.ensures, c.args.bytes.now.ok.0) in
    let At : ℕ → Type 0 = λ n. take c.in_ok-count.count c.read.new.into ≡ take c.in_ok-count.count (drop (c.args.place + n) area) in
    let same = subst At long range.bytes_read ∙ ap (take c.in_ok-count.count) (sym (drop-drop (length c.args.bytes.now.items) c.args.place area)) in
    let Is : List ℕ → Type 0 = λ l. IsFront l (drop c.args.place area) in
    subst Is (sym c.in_ok-extend_from_slice.ensures.items) (grown_front c.args.bytes.now.items c.read.new.into (drop c.args.place area) c.in_ok-count.count is (omega (arith, c.in_ok-count.ensures.within_the_buffer, c.read.auto.into)) same)

pub returns-clause-only_read : goal.returns-clause-only_read
returns-clause-only_read g c =
    one_call g.D.Disk.contents g.D.Disk.images g.D.Disk.moment g.D.Disk.images_since g.D.Disk.faults c.args.disk.now c.read.new.self (g.met.D.Disk.only_now c.args.disk.now) c.read.ensures.contents_kept c.read.ensures.images
    c.read.ensures.time c.read.ensures.faults_never_fall
