-- What is known of the files of a run that were all begun or skipped stays known as the run goes on, since the folder's list grows, and of notes
-- only those are collected that lanes and workers post.
use Rattle.std.proofs.Common.{◌≡◌, inl, inr, ⊎_elim, ◌⊎◌, ℕ, suc, ◌<◌, ◌≤◌, ◌+◌, List, [], ◌∷◌, ◌++◌, Contains, length, append_assoc, append-nil, Option, Some, None, IfSome, false, refl, sym, ap, subst, ◌∙◌, arith}
use Rattle.std.proofs.lemmas.List.Elements.{Contains-append_cases, Contains-append_left, Contains-append_right}
use Rattle.std.proofs.lemmas.Option.{slice_get_within}
use Rattle.std.specs.Prelude.{slice_get}
use Rattle.std.specs.List.{AllByRecursion}
use Rattle.event_tree.specs.declared.input_rule.InputRule.{InputRule}
use Rattle.event_tree.specs.declared.settings.Settings.{Settings}
use Rattle.file_rows.specs.Removed.{IsRemoved}
use Rattle.keeper.specs.Collecting.{Collects}
use Rattle.keeper.specs.Keeping.{Keeping, held_in}
use Rattle.kept_rows.proofs.Showing.{both}
use Rattle.kept_rows.specs.Trace.{Trace}
use Rattle.outside.specs.Folders.{Event, FolderHistory}
use Rattle.prospect.specs.declared.listed.Listed.{Listed}
use Rattle.report.specs.declared.passing.Passing.{Passing}
use Rattle.rounds.specs.Words.{TailWords}
use Rattle.settle_box.specs.Notes.{IsPostable}
use Rattle.settle_box.specs.Senders.{notes}
use Rattle.wire_base.specs.declared.note.Begin.{Begin as Beginning_of_file}
use Rattle.wire_base.specs.declared.note.Note.{Note}
use Rattle.wire_base.specs.declared.note.Note.TheVariants.{Announce, Begin, Forget, Rename, Seen, Settle}
use Rattle.wire_base.specs.declared.numbers.Moment.{Moment}
use Rattle.wire_base.specs.declared.row.Row.{Row}
use Rattle.run_steps.specs.Beginning.{Beginning}
use Rattle.run_steps.specs.BeginsAll.{BeginsAll, Came}
use Rattle.run_steps.specs.Begun.{AreAllSeen, noted_begin}
use Rattle.run_steps.specs.HiddenRows.{AreAllForgotten, TellsHidden, WasTold, hidden_notes}
use Rattle.run_steps.specs.Releasing.{with_events}
use Rattle.run_steps.specs.RunOf.{FolderTold}
use Rattle.run_steps.specs.Served.{AreServed, AreServedFrom, HasBegin, WasSkippedBy, folder_trace}
use Rattle.run_steps.specs.Telling.{TellMoments, TellsMoment, moment_noted}
use Rattle.run_steps.proofs.FollowedOrSkipped.{each_then_so}
use Rattle.run_steps.proofs.HiddenAmong.{each_is_hidden_of, hidden_slots, removed_is_hidden}
use Rattle.told_scans.proofs.Members.{each_of}
use Rattle.run_steps.proofs.Notes.{front_of_both}
use Rattle.run_steps.proofs.RunNotes.{IsNoBegin}
use Rattle.run_steps.proofs.Serving.{ServesFrom, begun_in, begun_left, serves_from, with_more}
use Rattle.run_steps.proofs.SkippedFor.{skipped_still}
use Rattle.accounts.proofs.Grounded.{each_member}
use Rattle.accounts.proofs.HiddenSlots.{hidden_from}
use Rattle.accounts.proofs.Orderly.{member_is}
use Rattle.accounts.specs.Hidden.{AreHiddenFrom, Hidden, hidden_begin, hidden_forget}
use Rattle.ship_core.proofs.Members.{first_there, later_there, none_there, there_cases}

-- ---- notes that begin no listed file

-- a slot that it begins is not one of the first ones
abbrev BeginsBehind : ℕ → Note → Type 0
BeginsBehind least (Begin slot key path epoch base changed) = least ≤ slot.0
BeginsBehind least (Announce slot epoch) = Unit {0}
BeginsBehind least (Settle slot epoch span cause) = Unit {0}
BeginsBehind least (Rename slot scan path) = Unit {0}
BeginsBehind least (Seen slot changed) = Unit {0}
BeginsBehind least (Forget slot epoch end) = Unit {0}

begins_none : (least : ℕ) (note : Note) → IsNoBegin note → BeginsBehind least note
begins_none least (Begin slot key path epoch base changed) is = absurd is
begins_none least (Announce slot epoch) is = tt
begins_none least (Settle slot epoch span cause) is = tt
begins_none least (Rename slot scan path) is = tt
begins_none least (Seen slot changed) is = tt
begins_none least (Forget slot epoch end) is = tt

none_begun : (least : ℕ) (notes : List Note) (slot : ℕ) → slot < least → AllByRecursion (BeginsBehind least) notes → ¬ (HasBegin notes slot)
none_begun least notes slot less behind has =
    let most = member_is (BeginsBehind least) notes (noted_begin has.begin) behind has.noted in let is = has.slot_is in omega (arith, less, most, is)

pub record GrowsBehind (least : ℕ) (old new : List Note) : Type 0 where
  pub more : List Note
  pub behind : AllByRecursion (BeginsBehind least) more
  pub are : new ≡ old ++ more

module _ (least : ℕ) where
  grows_not : (old : List Note) → GrowsBehind least old old
  grows_not old = record { more = []; behind = tt; are = sym (append-nil old) }

  grows_on : (old mid new : List Note) → GrowsBehind least old mid → GrowsBehind least mid new → GrowsBehind least old new
  grows_on old mid new first rest = record {
    more = first.more ++ rest.more;
    behind = both (BeginsBehind least) first.more rest.more first.behind rest.behind;
    are = rest.are ∙ ap (λ (l : List Note). l ++ rest.more) first.are ∙ append_assoc old first.more rest.more;
  }

-- moments of files begin none
moments_grow : (least : ℕ) (rows : List Row) (slot : ℕ) (listed : List Listed) (old new : Keeping) → TellMoments rows slot listed old new → GrowsBehind least old.tracked.notes new.tracked.notes
moments_grow least rows slot [] old new tell = subst (λ (k : Keeping). GrowsBehind least old.tracked.notes k.tracked.notes) (sym tell) (grows_not least old.tracked.notes)
moments_grow least rows slot (one ∷ listed) old new tell =
    grows_on least old.tracked.notes tell.mid.tracked.notes new.tracked.notes (one_grows tell.first) (moments_grow least rows (suc slot) listed tell.mid new tell.rest)
  where
    one_grows : TellsMoment (record { 0 = slot }) (moment_noted rows one) old tell.mid → GrowsBehind least old.tracked.notes tell.mid.tracked.notes
    one_grows (inl seen) = record { more = Seen (record { 0 = slot }) (moment_noted rows one) ∷ []; behind = (tt, tt); are = seen.tells.told }
    one_grows (inr nothing) = subst (λ (k : Keeping). GrowsBehind least old.tracked.notes k.tracked.notes) (sym nothing.same) (grows_not least old.tracked.notes)

-- hidden rows have slots behind those of the listed files
hidden_behind : (least : ℕ) (hiddens some : List Hidden) → AreHiddenFrom least hiddens → ((hidden : Hidden) → Contains some hidden → Contains hiddens hidden) → AllByRecursion (BeginsBehind least) (hidden_notes some)
hidden_behind least hiddens [] rise within = tt
hidden_behind least hiddens (hidden ∷ some) rise within =
    (hidden_from least hiddens hidden rise (within hidden (first_there hidden some)), (tt, hidden_behind least hiddens some rise (λ other there. within other (later_there hidden other some there))))

hidden_grow : (inputs : List InputRule) (listed : List Listed) (rows : List Row) (old new : Keeping) → TellsHidden inputs listed rows old new → GrowsBehind (length listed) old.tracked.notes new.tracked.notes
hidden_grow inputs listed rows old new tells = record {
  more = hidden_notes tells.hiddens;
  behind = hidden_behind (length listed) tells.hiddens tells.hiddens (hidden_slots inputs listed (length listed) rows tells.hiddens tells.are) (λ hidden there. there);
  are = tells.tells.told;
}

posted_begins_none : (note : Note) → IsPostable note → IsNoBegin note
posted_begins_none (Begin slot key path epoch base changed) is = is
posted_begins_none (Announce slot epoch) is = tt
posted_begins_none (Settle slot epoch span cause) is = tt
posted_begins_none (Rename slot scan path) is = tt
posted_begins_none (Seen slot changed) is = tt
posted_begins_none (Forget slot epoch end) is = tt

each_posted : (least : ℕ) (some : List Note) → AllByRecursion IsPostable some → AllByRecursion (BeginsBehind least) some
each_posted least [] each = tt
each_posted least (note ∷ some) each = (begins_none least note (posted_begins_none note each.0), each_posted least some each.1)

-- and what is collected was posted
collected_grow : (least : ℕ) (old new : Keeping) → Collects old new → old.held ≡ None → GrowsBehind least old.tracked.notes new.tracked.notes
collected_grow least old new collects none_held = record {
  more = collects.more;
  behind = each_posted least collects.more
      (front_of_both IsPostable collects.more (held_in new.held)
      (subst (AllByRecursion IsPostable) (ap (λ (o : Option Note). held_in o ++ notes collects.sent) (sym none_held) ∙ collects.notes_are)
      (each_of IsPostable (notes collects.sent) collects.kinds)));
  are = collects.noted;
}

-- ---- as the run goes on

module _ (inputs : List InputRule) (least : ℕ) (old new : List Note) (grows : GrowsBehind least old new) (before after : Trace) (events : List Event) (files : after.files ≡ before.files)
    (events_are : after.events ≡ before.events ++ events) (began : after.began ≤ before.began) (none_open : before.open_tails ≡ []) where
  was_begun : (slot : ℕ) → slot < least → HasBegin new slot → HasBegin old slot
  was_begun slot less has =
      ⊎_elim (λ here. here) (λ later. absurd (none_begun least grows.more slot less grows.behind later)) (begun_in old grows.more slot (subst (λ (l : List Note). HasBegin l slot) grows.are has))

  still_served : (slot place : ℕ) (listed : List Listed) (passed : List Passing) → ((k : ℕ) (one : Listed) → slice_get listed k ≡ Some one → slot + k < least) →
      AreServedFrom inputs old before slot place listed passed → AreServedFrom inputs new after slot place listed passed
  still_served slot place listed passed below all =
      each_then_so (λ other one. HasBegin old other) (WasSkippedBy inputs old before) (λ other one. HasBegin new other) (WasSkippedBy inputs new after) (λ other one. other < least) 0
      (λ other one at has. subst (λ (l : List Note). HasBegin l other) (sym grows.are) (begun_left old grows.more other has))
      (λ other one opening why at since was. record {
        not_begun = λ has. was.not_begun (was_begun other at has);
        reason = skipped_still before after events files events_are began none_open inputs one opening why was.reason;
      })
      slot place listed passed (omega arith) below all

module _ (rows : List Row) (listed : List Listed) (old new : List Note) (grows : GrowsBehind (length listed) old new) where
  still_noted : (note : Note) → Contains old note → Contains new note
  still_noted note there = subst (λ (l : List Note). Contains l note) (sym grows.are) (Contains-append_left old grows.more note there)

  begun_before : (begin : Beginning_of_file) → begin.slot.0 < length listed → Contains new (noted_begin begin) → Contains old (noted_begin begin)
  begun_before begin less there =
      ⊎_elim (λ here. here) (λ later. absurd (let most = member_is (BeginsBehind (length listed)) grows.more (noted_begin begin) grows.behind later in omega (arith, less, most)))
      (Contains-append_cases old grows.more (noted_begin begin) (subst (λ (l : List Note). Contains l (noted_begin begin)) grows.are there))

  still_seen : AreAllSeen rows listed old → AreAllSeen rows listed new
  still_seen seen begin there = of_listed (slice_get listed begin.slot.0) refl
    where
      of_listed : (o : Option Listed) → slice_get listed begin.slot.0 ≡ o → IfSome o (λ one. 0 < (moment_noted rows one).0 → Contains new (Seen begin.slot (moment_noted rows one)))
      of_listed None is = tt
      of_listed (Some one) is =
          let was : 0 < (moment_noted rows one).0 → Contains old (Seen begin.slot (moment_noted rows one)) =
          subst (λ (o : Option Listed). IfSome o (λ one. 0 < (moment_noted rows one).0 → Contains old (Seen begin.slot (moment_noted rows one)))) is
          (seen begin (begun_before begin (slice_get_within listed begin.slot.0 one is) there)) in
          λ later. still_noted (Seen begin.slot (moment_noted rows one)) (was later)

-- ---- hidden rows

both_told : (some : List Hidden) (hidden : Hidden) → Contains some hidden → Contains (hidden_notes some) (hidden_begin hidden) × Contains (hidden_notes some) (hidden_forget hidden)
both_told [] hidden there = absurd (none_there hidden there)
both_told (first ∷ some) hidden there = by_case (there_cases first hidden some there) (both_told some hidden)
  where
    by_case : (first ≡ hidden) ⊎ Contains some hidden → (Contains some hidden → Contains (hidden_notes some) (hidden_begin hidden) × Contains (hidden_notes some) (hidden_forget hidden)) →
        Contains (hidden_notes (first ∷ some)) (hidden_begin hidden) × Contains (hidden_notes (first ∷ some)) (hidden_forget hidden)
    by_case (inl same) of = (
      subst (λ (h : Hidden). Contains (hidden_notes (first ∷ some)) (hidden_begin h)) same (first_there (hidden_begin first) (hidden_forget first ∷ hidden_notes some)),
      subst (λ (h : Hidden). Contains (hidden_notes (first ∷ some)) (hidden_forget h)) same
          (later_there (hidden_begin first) (hidden_forget first) (hidden_forget first ∷ hidden_notes some) (first_there (hidden_forget first) (hidden_notes some))),
    )
    by_case (inr later) of = (
      Contains-append_right (hidden_begin first ∷ hidden_forget first ∷ []) (hidden_notes some) (hidden_begin hidden) (of later).0,
      Contains-append_right (hidden_begin first ∷ hidden_forget first ∷ []) (hidden_notes some) (hidden_forget hidden) (of later).1,
    )

module _ (inputs : List InputRule) (listed : List Listed) (rows : List Row) (old new : Keeping) (tells : TellsHidden inputs listed rows old new) (later : List Note) where
  was_told : (row : Row) → Contains rows row → IsRemoved inputs listed row.key → WasTold (new.tracked.notes ++ later) row
  was_told row there removed =
      let of = removed_is_hidden inputs listed (length listed) rows tells.hiddens row tells.are there removed in
      let told = both_told tells.hiddens of.0 of.1 in
      record {
        hidden = of.0;
        row_is = of.2;
        starts = (each_is_hidden_of inputs listed (length listed) rows tells.hiddens of.0 tells.are of.1).starts;
        begun = on (hidden_begin of.0) told.0;
        forgotten = on (hidden_forget of.0) told.1;
      }
    where
      on : (note : Note) → Contains (hidden_notes tells.hiddens) note → Contains (new.tracked.notes ++ later) note
      on note told = Contains-append_left new.tracked.notes later note
          (subst (λ (l : List Note). Contains l note) (sym tells.tells.told) (Contains-append_right old.tracked.notes (hidden_notes tells.hiddens) note told))

  all_forgotten : AreAllForgotten inputs listed rows (new.tracked.notes ++ later)
  all_forgotten = each_member (λ (row : Row). IsRemoved inputs listed row.key → WasTold (new.tracked.notes ++ later) row) rows was_told

-- ---- from the beginning of files to the end of the run

-- as the folder tells at the end, and by what its keeper noted then
pub record IsServedAtEnd (settings : Settings) (rows : List Row) (listed : List Listed) (passed : List Passing) (noted : List Note) (folder : FolderTold) (shown : Option FolderHistory) : Type 0 where
  pub ended : FolderHistory
  pub is : shown ≡ Some ended
  pub served : AreServed settings rows listed passed noted (record folder { ended = ended })

pub served_at_end : {T W L : Type 0} (tails : TailWords T) (settings : Settings) (rows : List Row) (now : Moment) (listed : List Listed) (came : Came) (folder : FolderTold)
    (old new : Beginning T W L) → old.folder.told ≡ Some folder.scanned → length folder.earlier.events ≤ length folder.scanned.events → old.keeper.tracked.notes ≡ [] →
    came.faulty ≡ false → BeginsAll tails settings rows now listed came old new → AreAllSeen rows listed new.keeper.tracked.notes → (hid : Keeping) → TellsHidden settings.inputs listed rows new.keeper hid →
    (keeper : Keeping) → Collects hid keeper → hid.held ≡ None → (events : List Event) (shown : Option FolderHistory) → shown ≡ with_events events new.folder.told →
    IsServedAtEnd settings rows listed came.passed keeper.tracked.notes folder shown
served_at_end {T} {W} {L} tails settings rows now listed came folder old new is since none_told none_failed begins seen hid hides keeper collects none_held events shown grown =
    at_end (serves_from tails settings rows now (length folder.earlier.events) 0 (length folder.scanned.events) listed came folder.scanned old begins.mid is since (omega arith) none_failed begins.begins)
  where
    later : GrowsBehind (length listed) new.keeper.tracked.notes keeper.tracked.notes
    later =
        grows_on (length listed) new.keeper.tracked.notes hid.tracked.notes keeper.tracked.notes (hidden_grow settings.inputs listed rows new.keeper hid hides) (collected_grow (length listed) hid keeper collects none_held)

    at_end : ServesFrom tails settings rows now (length folder.earlier.events) 0 (length folder.scanned.events) listed came.passed folder.scanned old begins.mid → IsServedAtEnd settings rows listed came.passed keeper.tracked.notes folder shown
    at_end of = record {
      ended = record folder.scanned { events = (folder.scanned.events ++ of.events) ++ events };
      is = grown ∙ ap (with_events events) (ap (λ (s : Beginning T W L). s.folder.told) begins.others ∙ of.told);
      served = record {
        each =
            still_served settings.inputs (length listed) of.more keeper.tracked.notes grows (folder_trace (length folder.earlier.events) (with_more folder.scanned of.events))
            (folder_trace (length folder.earlier.events) (record folder.scanned { events = (folder.scanned.events ++ of.events) ++ events })) events refl refl (omega arith) refl
            0 (length folder.scanned.events) listed came.passed (λ k one at. let within = slice_get_within listed k one at in omega (arith, within)) of.each;
        seen = still_seen rows listed new.keeper.tracked.notes keeper.tracked.notes later seen;
        forgotten = subst (AreAllForgotten settings.inputs listed rows) (sym collects.noted) (all_forgotten settings.inputs listed rows new.keeper hid hides collects.more);
      };
    }
      where
        noted : begins.mid.keeper.tracked.notes ≡ of.more
        noted = of.noted ∙ ap (λ (l : List Note). l ++ of.more) none_told

        grows : GrowsBehind (length listed) of.more keeper.tracked.notes
        grows = subst (λ (l : List Note). GrowsBehind (length listed) l keeper.tracked.notes) noted
            (grows_on (length listed) begins.mid.keeper.tracked.notes new.keeper.tracked.notes keeper.tracked.notes (moments_grow (length listed) rows 0 listed begins.mid.keeper new.keeper begins.tell) later)
