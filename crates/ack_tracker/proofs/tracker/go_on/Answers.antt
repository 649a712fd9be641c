use Rattle.std.proofs.Common.{◌≡◌, ℕ, List, [], ◌∷◌, ◌++◌, Some, None, sym, ap, subst}
use Rattle.std.specs.BTreeMap.{BTreeMap}
use Rattle.ack_tracker.specs.FileState.{FileState}
use Rattle.ack_tracker.specs.Files.{file_of, AreOf, Puts}
use Rattle.ack_tracker.proofs.Listed.{are_noted, are_ignored, gone_put, gone_same}
use Rattle.ack_tracker.proofs.Putting.{put_written, written_same}
use Rattle.ack_tracker.proofs.tracker.go_on.Goals as goal

pub returns-in-Ok-clause-noted : goal.returns-in-Ok-clause-noted
returns-in-Ok-clause-noted c = λ notes are.
    let old = c.args.files.now in
    let after = c.note.new.self in
    let new = c.get_mut.follows.lender after in
    let s = c.slot_of.ensures in
    let there = sym c.in-Some.ensures.value in
    are_noted old.entries new.entries notes c.args.note c.in-Some.file.now after (subst (λ (n : ℕ). file_of old.entries n ≡ Some c.in-Some.file.now) s there)
    (subst (λ (n : ℕ). Puts old.entries new.entries n after) s (put_written old new c.slot_of.result.0 c.in-Some.file.now after there (c.get_mut.follows.holds after)))
    c.note.ensures.key_stays c.in-Ok.ensures.noted are

pub returns-in-Ok-clause-gone_stays : goal.returns-in-Ok-clause-gone_stays
returns-in-Ok-clause-gone_stays c =
    let old = c.args.files.now in
    let after = c.note.new.self in
    let new = c.get_mut.follows.lender after in
    let there = sym c.in-Some.ensures.value in
    gone_put old.entries new.entries c.slot_of.result.0 c.in-Some.file.now after there (put_written old new c.slot_of.result.0 c.in-Some.file.now after there (c.get_mut.follows.holds after)) c.note.ensures.gone_stays

pub returns-in-Err-clause-gone_stays : goal.returns-in-Err-clause-gone_stays
returns-in-Err-clause-gone_stays c =
    let old = c.args.files.now in
    let after = c.note.new.self in
    gone_same old.entries (c.get_mut.follows.lender after).entries (written_same old (c.get_mut.follows.lender after) c.slot_of.result.0 c.in-Some.file.now after (sym c.in-Some.ensures.value) c.in-Err.ensures.kept (c.get_mut.follows.holds after))

pub returns-in-Err-clause-kept : goal.returns-in-Err-clause-kept
returns-in-Err-clause-kept c =
    let old = c.args.files.now in
    let after = c.note.new.self in
    written_same old (c.get_mut.follows.lender after) c.slot_of.result.0 c.in-Some.file.now after (sym c.in-Some.ensures.value) c.in-Err.ensures.kept (c.get_mut.follows.holds after)

pub returns-in-None-clause-noted : goal.returns-in-None-clause-noted
returns-in-None-clause-noted c = λ notes are.
    let same = ap (λ (m : BTreeMap ℕ FileState). m.entries) c.get_mut.follows.holds-at-none in
    let none = subst (λ (n : ℕ). file_of c.args.files.now.entries n ≡ None) c.slot_of.ensures (sym c.in-None.ensures.value) in
    subst (λ (files : List (ℕ × FileState)). AreOf files (notes ++ c.args.note ∷ [])) (sym same) (are_ignored c.args.files.now.entries notes c.args.note c.requires.no_start none are)

pub returns-in-None-clause-gone_stays : goal.returns-in-None-clause-gone_stays
returns-in-None-clause-gone_stays c =
    gone_same c.args.files.now.entries c.get_mut.follows.lender-at-none.entries (ap (λ (m : BTreeMap ℕ FileState). m.entries) c.get_mut.follows.holds-at-none)
