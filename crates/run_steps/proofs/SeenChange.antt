-- The moment at which a file was changed is told to the keeper by an entry of the newest scan: what stands of a run stands with that note.
use Rattle.std.proofs.Common.{inl, inr, ◌≤◌, ℕ, List, [], ◌∷◌, ◌++◌, Contains, IfSome, sym, subst}
use Rattle.std.proofs.lemmas.List.Elements.{Contains-append_left, Contains-append_right}
use Rattle.accounts.proofs.Lists.{each_last, each_then}
use Rattle.accounts.proofs.Ordered.{one_more_orderly}
use Rattle.accounts.specs.Hidden.{Hidden, hidden_begin}
use Rattle.accounts.specs.Opened.{Opened}
use Rattle.keeper.specs.Keeping.{Keeping}
use Rattle.prospect.specs.declared.listed.Listed.{Listed}
use Rattle.rounds.specs.Crewed.{lanings}
use Rattle.ship_core.proofs.Members.{first_there}
use Rattle.wire_base.specs.declared.note.Note.{Note}
use Rattle.wire_base.specs.declared.note.Note.TheVariants.{Seen}
use Rattle.wire_base.specs.declared.numbers.Slot.{Slot}
use Rattle.wire_base.specs.declared.row.Row.{Row}
use Rattle.run_steps.specs.Began.{Began}
use Rattle.run_steps.specs.Begun.{AreBeginNotes, IsSeenOf, MayBegin, noted_begin}
use Rattle.run_steps.specs.ChangeSteps.{IsChange, IsReadyAt, MomentsAreChanges, StandsWith, with_keeper}
use Rattle.run_steps.specs.Goes.{StepWords, Stop, moments_at, state_at}
use Rattle.run_steps.specs.LaterScans.{LaterScan}
use Rattle.run_steps.specs.ListedLater.{GaveEntry, GaveEntryLast, IsListedAnew}
use Rattle.run_steps.specs.SoFar.{SoFar, first_opened}
use Rattle.run_steps.specs.Stands.{Stands}
use Rattle.run_steps.specs.Telling.{TellsNotes, TellsSeen, moment_noted, seen_note}
use Rattle.run_steps.specs.declared.context.Context.{Context}
use Rattle.run_steps.proofs.ChangeSteps.{hear_nothing, keeps_heard}
use Rattle.run_steps.proofs.FirstOpened.{first_named, first_within}
use Rattle.run_steps.proofs.ToldMoments.{stands_told}

pub newest_among : (scans : List LaterScan) (entry : Listed) (last : GaveEntryLast scans entry) → Contains scans last.scan
newest_among scans entry last = subst (λ (l : List LaterScan). Contains l last.scan) (sym last.scans_are)
    (Contains-append_right last.before (last.scan ∷ []) last.scan (first_there last.scan []))

pub gave_last : (scans : List LaterScan) (entry : Listed) → GaveEntryLast scans entry → GaveEntry scans entry
gave_last scans entry last = record {
  scan = last.scan;
  of_scans = newest_among scans entry last;
  among = last.among;
}

-- one more note that the run may tell itself
pub one_note_more : (scans : List LaterScan) (rows : List Row) (listed : List Listed) (opened : List Opened) (hiddens : List Hidden) (begun : List Note) (note : Note) →
    MayBegin scans rows listed opened hiddens note → AreBeginNotes scans rows listed opened hiddens begun → AreBeginNotes scans rows listed opened hiddens (begun ++ note ∷ [])
one_note_more scans rows listed opened hiddens begun note may are = record {
  each = each_last (MayBegin scans rows listed opened hiddens) begun note are.each may;
  begun = each_then (λ (one : Opened). Contains begun (noted_begin one.begin)) (λ (one : Opened). Contains (begun ++ note ∷ []) (noted_begin one.begin)) opened
      (λ one among. Contains-append_left begun (note ∷ []) (noted_begin one.begin) among) are.begun;
  hidden_begun = each_then (λ (h : Hidden). Contains begun (hidden_begin h)) (λ (h : Hidden). Contains (begun ++ note ∷ []) (hidden_begin h)) hiddens
      (λ h among. Contains-append_left begun (note ∷ []) (hidden_begin h) among) are.hidden_begun;
}

module _ {T W L D F K B : Type 0} (words : StepWords T W L D F K B) (reads : (disk : D) → IfSome (words.all.disks.contents disk) (words.all.disks.images disk))
    (counts : (disk : D) (at : ℕ) (image : List ℕ) → at ≤ words.all.disks.moment disk → words.all.disks.images disk image → words.all.disks.images_since disk at image) where
  module _ (context : Context) (slot : Slot) (entry : Listed) (now : Stop T W L D F K B) (keeper : Keeping) (ready : IsReadyAt words context now)
      (seen : TellsSeen slot (moment_noted now.storing.keeper.now.tracked.opening entry) now.storing.keeper.now keeper) where
    abbrev old : Keeping
    old = now.storing.keeper.now

    abbrev note_told : Note
    note_told = seen_note slot (moment_noted old.tracked.opening entry)

    module _ (start : Began D) (so_far : SoFar) (stands : Stands words.all start (state_at words now) so_far) (anew : IsListedAnew slot entry so_far.scans so_far.earlier so_far.opened) where
      abbrev firsts : List Opened
      firsts = first_opened so_far.earlier so_far.opened

      is_seen : IsSeenOf so_far.scans start.opening start.listed firsts note_told
      is_seen =
          let first = first_named so_far.earlier so_far.opened slot anew.file anew.among anew.slot_is in
          record {
            file = first.one;
            among = first.among;
            one = entry;
            listed_there = inr (gave_last so_far.scans entry anew.newest, anew.keyed first.one (first_within so_far.earlier so_far.opened first.one first.among) first.slot_is);
            is = λ k. Seen (sym first.slot_is k) (moment_noted (stands.notes.noted.opening_is k) entry);
          }

      changed : StandsWith words context start (with_keeper now keeper) so_far (note_told ∷ [])
      changed = record {
        lanes = so_far.lanes;
        stands = stands_told words.all reads counts start (moments_at words now) now.storing.a.now now.storing.b.now (words.seen now.system.folder.now).told now.crew now.phase
            (note_told ∷ []) old keeper so_far so_far.hidden stands.notes.hidden
            (one_more_orderly old.tracked.notes note_told stands.notes.noted.mixed.orderly seen.followed.begun) seen.tells
            (one_note_more so_far.scans start.opening start.listed firsts so_far.hidden so_far.begun note_told (inr (inl is_seen)) stands.notes.begun) stands;
      }

    moment_change : IsChange words context (IsListedAnew slot entry) (note_told ∷ []) now (with_keeper now keeper)
    moment_change = record {
      keeps = keeps_heard words context now now.crew.lanes keeper (note_told ∷ []) (hear_nothing words.all.tails (lanings now.crew.lanes.items)) seen.tells ready {Keepers = TellsNotes (note_told ∷ [])} seen.tells;
      changed = λ start so_far by stands anew. changed start so_far stands anew;
    }

  pub moments_are_changes : MomentsAreChanges words
  moments_are_changes context slot entry now keeper ready seen = moment_change context slot entry now keeper ready seen
