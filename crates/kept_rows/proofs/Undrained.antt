-- A status of done over a file that is not read to its end is refused: the row of the two plain lines is at 2, whatever
-- the account and the run tell besides.
use Rattle.std.proofs.Common.{◌≡◌, inl, inr, ℕ, zero, suc, List, [], ◌∷◌, ◌++◌, length, Option, Some, None, refl, sym, ap, ◌∙◌, subst, arith, length-append}
use Rattle.std.specs.List.{Contains, slice_get}
use Rattle.event_tree.specs.declared.input_rule.InputRule.{InputRule}
use Rattle.file_identity.specs.Key.{named_key}
use Rattle.file_looks.specs.EndLook.{HasEndLook}
use Rattle.outside.specs.declared.history.Look.{Look}
use Rattle.outside.specs.declared.history.Question.{Question}
use Rattle.outside.specs.declared.history.Question.TheVariants.{Length, ReadAt}
use Rattle.outside.specs.declared.history.Shown.{Shown}
use Rattle.outside.specs.Files.{File, life_of}
use Rattle.outside.specs.Folders.{NotThere}
use Rattle.ship_core.proofs.Members.{none_there, there_cases}
use Rattle.told_events.proofs.Worked.{a_log}
use Rattle.told_events.specs.Licence.{whole_lines_end}
use Rattle.wire_base.specs.declared.row.Row.{Row}
use Rattle.wire_base.specs.KeyOrder.{compare}
use Rattle.kept_rows.specs.Account.{EpochAccount, FollowedTail, Reading, SlotAccount}
use Rattle.kept_rows.specs.Drained.{HasRow, IsChanged, IsDoneWith, IsDrained, IsPassedOver, NothingSupposed, WasOpenedWith}
use Rattle.kept_rows.specs.Run.{Asking, Scan}
use Rattle.kept_rows.specs.Scans.{Gave, ShowsEntry, ShowsFileTo}
use Rattle.kept_rows.proofs.Backing.{epoch_in, slot_in}
use Rattle.kept_rows.proofs.Worked.{entry, epoch_account, file, input, is_covered, key, looks, not_before_itself, only_entry, reading, row, run, scan, shown, slot_account, tail, trace}

abbrev short_row : Row
short_row = record row { offset = 2 }

only_one : {A : Type 0} (one other : A) → Contains (one ∷ []) other → one ≡ other
only_one one other there = elim (there_cases one other [] there) [
  | inl same ↦ same
  | inr nothing ↦ absurd (none_there other nothing)
]

-- the key that was listed is the file's
listed_key_is : (other : List ℕ) (number : ℕ) → ShowsFileTo run scan 0 other number shown → key ≡ other
listed_key_is other number shows =
    let q : Some input ≡ Some shows.rule = shows.rule_is in
    let rule : input ≡ shows.rule = cc in
    let asking = only_one (record { input = 0; path = a_log; opening = None }) shows.asking shows.asks.of_scan in
    let by_entry = subst (λ (a : Asking). Gave trace shows.rule shown a.opening (Some other) number) (sym asking) shows.gave in
    let named : Some key ≡ Some other = ap (λ (r : InputRule). named_key r.id r.file_identity a_log None) rule ∙ sym by_entry.gave in
    cc

opened_with_key : (found : Option (List ℕ)) → WasOpenedWith run input scan 0 a_log found → found ≡ Some key
opened_with_key found opened = opened.gave

none_gone : (opening : ℕ) → slice_get trace.events opening ≡ Some (NotThere a_log) → ⊥
none_gone zero is = absurd cc
none_gone (suc zero) is = absurd cc
none_gone (suc (suc zero)) is = absurd cc
none_gone (suc (suc (suc zero))) is = absurd cc
none_gone (suc (suc (suc (suc more)))) is = absurd (let q : None ≡ Some (NotThere a_log) = is in cc)

-- the only end look is at 4
abbrev count_of : Question → ℕ
count_of Length = 1
count_of (ReadAt place count) = count

abbrev place_of : Question → ℕ
place_of Length = 0
place_of (ReadAt place count) = place

end_at_four : (place : ℕ) (front : List Look) (asked read : Look) (behind : List Look) → looks ≡ front ++ asked ∷ read ∷ behind → read.question ≡ ReadAt place 0 → place ≡ 4
end_at_four place [] asked read behind is none =
    let same : record { question = ReadAt 0 4; sight = record { life = 0; length = 4 } } ≡ read = cc in
    let four : 4 ≡ 0 = ap (λ (l : Look). count_of l.question) same ∙ ap count_of none in
    absurd (omega (arith, four))
end_at_four place (one ∷ []) asked read behind is none =
    let same : record { question = Length; sight = record { life = 0; length = 4 } } ≡ read = cc in
    let length : 1 ≡ 0 = ap (λ (l : Look). count_of l.question) same ∙ ap count_of none in
    absurd (omega (arith, length))
end_at_four place (one ∷ two ∷ []) asked read behind is none =
    let same : record { question = ReadAt 4 0; sight = record { life = 0; length = 4 } } ≡ read = cc in
    sym (ap (λ (l : Look). place_of l.question) same ∙ ap place_of none)
end_at_four place (one ∷ two ∷ three ∷ front) asked read behind is none =
    absurd (omega (arith, ap (λ (l : List Look). length l) is, length-append front (asked ∷ read ∷ behind)))

passed_over_no : IsPassedOver run input scan shown 0 → ⊥
passed_over_no (inl doubled) =
    let to = doubled.shows_earlier.shows.1 in
    let same : a_log ≡ doubled.earlier = ap (λ (s : Shown). s.entry.path) (only_entry doubled.shows_earlier.shown to.asks.entry) ∙ doubled.shows_earlier.path_is in
    not_before_itself (ap (λ (p : List ℕ). compare p a_log) same ∙ doubled.before)
passed_over_no (inr (inl old)) = absurd (omega (arith, old.asked))
passed_over_no (inr (inr (inl gone))) = none_gone gone.opening gone.was.not_there
passed_over_no (inr (inr (inr (inl moved)))) =
    let q : Some moved.other ≡ Some moved.key = opened_with_key (Some moved.other) moved.opened ∙ ap Some (listed_key_is moved.key moved.number moved.shows) in
    moved.other_key cc
passed_over_no (inr (inr (inr (inr small)))) = absurd small.by_bytes

changed_no : IsChanged run input (slot_account ∷ []) scan shown 0 → ⊥
changed_no changed =
    let one = only_one slot_account changed.one (slot_in (slot_account ∷ []) changed.slot changed.one changed.slot_is).0 in
    let of_slot = subst (λ (s : SlotAccount). Contains s.following.tails changed.tail) (sym one) changed.of_slot in
    let same = only_one tail changed.tail of_slot in
    changed.lost (ap (λ (t : FollowedTail). t.beyond) (sym same))

row_no : HasRow NothingSupposed run input (slot_account ∷ []) (short_row ∷ []) scan shown 0 → ⊥
row_no has =
    let read = has.read in
    let one = only_one slot_account read.one (slot_in (slot_account ∷ []) read.slot read.one read.slot_is).0 in
    let in_epochs = subst (λ (s : SlotAccount). Contains s.epochs read.epoch) (sym one) (epoch_in has.row.epoch.0 read.one.epochs read.epoch read.epoch_is) in
    let epoch = only_one epoch_account read.epoch in_epochs in
    let in_readings = subst (λ (e : EpochAccount). Contains e.readings read.reading) (sym epoch) read.of_epoch in
    let same_reading = only_one reading read.reading in_readings in
    let end = subst (λ (r : Reading). HasEndLook r.segment read.place) (sym same_reading) read.found in
    let four = end_at_four read.place end.front end.asked end.read end.behind end.looks_are end.gives_nothing in
    let q : Some file ≡ Some read.file = ap (λ (s : SlotAccount). slice_get trace.files s.number) one ∙ read.file_is in
    let same_file : file ≡ read.file = cc in
    let same_row = only_one short_row has.row has.of_rows in
    let two : 2 ≡ 4 =
    ap (λ (r : Row). r.offset) same_row ∙ read.offset_is tt
    ∙ ap (λ (n : ℕ). whole_lines_end input.lines (life_of read.file read.epoch.life) read.epoch.start n) four
    ∙ ap (λ (e : EpochAccount). whole_lines_end input.lines (life_of read.file e.life) e.start 4) (sym epoch)
    ∙ ap (λ (f : File). whole_lines_end input.lines (life_of f 0) 0 4) (sym same_file) in
    absurd (omega (arith, two))

done_no : IsDoneWith NothingSupposed run (slot_account ∷ []) (short_row ∷ []) input scan shown 0 → ⊥
done_no (inl passed) = passed_over_no passed
done_no (inr (inl changed)) = changed_no changed
done_no (inr (inr has)) = row_no has

pub undrained_is_refused : IsDrained run (slot_account ∷ []) (short_row ∷ []) → ⊥
undrained_is_refused drained =
    let q : Some scan ≡ Some drained.scan = drained.first in
    let same : scan ≡ drained.scan = cc in
    done_no (subst (λ (s : Scan). IsDoneWith NothingSupposed run (slot_account ∷ []) (short_row ∷ []) input s shown 0) (sym same)
    (drained.each shown 0 input (subst (λ (s : Scan). ShowsEntry trace s shown) same entry) refl is_covered))
