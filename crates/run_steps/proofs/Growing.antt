-- What is known of a run grows in each step that tells its keeper nothing itself, in none and in two of them; and what a step supposes of the files stays known.
use Rattle.std.proofs.Common.{◌≢◌, ℕ, List, [], ◌∷◌, ◌++◌, Contains, append-nil, append_assoc, refl, sym, ap, subst, ◌∙◌}
use Rattle.std.proofs.lemmas.List.Elements.{Contains-append_left}
use Rattle.std.specs.List.{AllByRecursion}
use Rattle.accounts.specs.Opened.{Opened}
use Rattle.accounts.specs.Turned.{Turned}
use Rattle.rounds.specs.Books.{Told}
use Rattle.rounds.specs.Words.{Words}
use Rattle.wire_base.specs.declared.note.Note.{Note}
use Rattle.wire_base.specs.declared.numbers.Slot.{Slot}
use Rattle.wire_base.specs.declared.parcel.Parcel.{Parcel}
use Rattle.run_steps.specs.Began.{Began}
use Rattle.run_steps.specs.Growing.{IsGrownFrom, IsPrefix, StandsGrown}
use Rattle.run_steps.specs.LaterScans.{LaterScan, WasMissed}
use Rattle.run_steps.specs.OpenedAgain.{IsClosedLast}
use Rattle.run_steps.specs.Renamed.{IsRemovedSince}
use Rattle.run_steps.specs.Reopening.{KnownFile}
use Rattle.run_steps.specs.ReopeningSteps.{IsKnownAs}
use Rattle.run_steps.specs.RunState.{RunState}
use Rattle.run_steps.specs.SoFar.{Forgotten, Left, SoFar, files_of}
use Rattle.run_steps.specs.Stands.{Further}

-- ---- lists

pub prefix_of_itself : {A : Type 0} (xs : List A) → IsPrefix xs xs
prefix_of_itself xs = record { more = []; are = sym (append-nil xs) }

pub prefix_of_more : {A : Type 0} (xs more : List A) → IsPrefix xs (xs ++ more)
prefix_of_more xs more = record { more = more; are = refl }

prefix_of_prefix : {A : Type 0} (xs ys zs : List A) → IsPrefix xs ys → IsPrefix ys zs → IsPrefix xs zs
prefix_of_prefix xs ys zs one other = record {
  more = one.more ++ other.more;
  are = other.are ∙ ap (λ l. l ++ other.more) one.are ∙ append_assoc xs one.more other.more;
}

-- ---- none, and two in a row

pub grown_by_nothing : (so_far : SoFar) → IsGrownFrom so_far so_far
grown_by_nothing so_far = record {
  moments = prefix_of_itself so_far.moments;
  scans = prefix_of_itself so_far.scans;
  opened = refl;
  hidden = refl;
  forgotten = refl;
  earlier = refl;
  left = prefix_of_itself so_far.left;
  begun = refl;
  collected = prefix_of_itself so_far.collected;
}

pub grown_by_two : (first mid last : SoFar) → IsGrownFrom first mid → IsGrownFrom mid last → IsGrownFrom first last
grown_by_two first mid last one other = record {
  moments = prefix_of_prefix first.moments mid.moments last.moments one.moments other.moments;
  scans = prefix_of_prefix first.scans mid.scans last.scans one.scans other.scans;
  opened = other.opened ∙ one.opened;
  hidden = other.hidden ∙ one.hidden;
  forgotten = other.forgotten ∙ one.forgotten;
  earlier = other.earlier ∙ one.earlier;
  left = prefix_of_prefix first.left mid.left last.left one.left other.left;
  begun = other.begun ∙ one.begun;
  collected = prefix_of_prefix first.collected mid.collected last.collected one.collected other.collected;
}

-- ---- each kind of step

-- lanes had turns, and the keeper collected
pub grown_turning : (so_far : SoFar) (moments : List ℕ) (lanes : List (List Turned)) (told : Told) (collected : List Note) (queued : List Parcel) (boxed : List Note) →
    IsGrownFrom so_far (record so_far { moments = so_far.moments ++ moments; lanes = lanes; told = told; collected = so_far.collected ++ collected; queued = queued; boxed = boxed })
grown_turning so_far moments lanes told collected queued boxed = record {
  moments = prefix_of_more so_far.moments moments;
  scans = prefix_of_itself so_far.scans;
  opened = refl;
  hidden = refl;
  forgotten = refl;
  earlier = refl;
  left = prefix_of_itself so_far.left;
  begun = refl;
  collected = prefix_of_more so_far.collected collected;
}

-- only the keeper did
pub grown_storing : (so_far : SoFar) (told : Told) (collected : List Note) (queued : List Parcel) (boxed : List Note) →
    IsGrownFrom so_far (record so_far { told = told; collected = so_far.collected ++ collected; queued = queued; boxed = boxed })
grown_storing so_far told collected queued boxed = record {
  moments = prefix_of_itself so_far.moments;
  scans = prefix_of_itself so_far.scans;
  opened = refl;
  hidden = refl;
  forgotten = refl;
  earlier = refl;
  left = prefix_of_itself so_far.left;
  begun = refl;
  collected = prefix_of_more so_far.collected collected;
}

-- a tail was closed
pub grown_closing : (so_far : SoFar) (lanes : List (List Turned)) (left : Left) → IsGrownFrom so_far (record so_far { lanes = lanes; left = so_far.left ++ left ∷ [] })
grown_closing so_far lanes left = record {
  moments = prefix_of_itself so_far.moments;
  scans = prefix_of_itself so_far.scans;
  opened = refl;
  hidden = refl;
  forgotten = refl;
  earlier = refl;
  left = prefix_of_more so_far.left (left ∷ []);
  begun = refl;
  collected = prefix_of_itself so_far.collected;
}

-- a harvester heard of its file
pub grown_hearing : (so_far : SoFar) (lanes : List (List Turned)) → IsGrownFrom so_far (record so_far { lanes = lanes })
grown_hearing so_far lanes = record {
  moments = prefix_of_itself so_far.moments;
  scans = prefix_of_itself so_far.scans;
  opened = refl;
  hidden = refl;
  forgotten = refl;
  earlier = refl;
  left = prefix_of_itself so_far.left;
  begun = refl;
  collected = prefix_of_itself so_far.collected;
}

-- a later scan was made
pub grown_scanning : (so_far : SoFar) (moments : List ℕ) (scan : LaterScan) → IsGrownFrom so_far (record so_far { moments = so_far.moments ++ moments; scans = so_far.scans ++ scan ∷ [] })
grown_scanning so_far moments scan = record {
  moments = prefix_of_more so_far.moments moments;
  scans = prefix_of_more so_far.scans (scan ∷ []);
  opened = refl;
  hidden = refl;
  forgotten = refl;
  earlier = refl;
  left = prefix_of_itself so_far.left;
  begun = refl;
  collected = prefix_of_itself so_far.collected;
}

-- ---- whatever it has grown from, it is so

module _ {T W L D : Type 0} (words : Words T W L D) (start : Began D) (state : RunState T W L D) where
  pub further : (before : SoFar) → StandsGrown words start before state → Further words start state
  further before grown = record { so_far = grown.so_far; stands = grown.stands }

-- ---- what steps suppose of the files stays known

missed_later : (scans more : List LaterScan) (opened : Opened) → WasMissed scans opened → WasMissed (scans ++ more) opened
missed_later scans more opened was = record {
  scan = was.scan;
  of_scans = Contains-append_left scans more was.scan was.of_scans;
  whole = was.whole;
  after = was.after;
  not_listed = was.not_listed;
}

-- that a later whole scan missed a file
pub removed_still : (slot : Slot) (before after : SoFar) → IsGrownFrom before after → IsRemovedSince slot before.scans before.earlier before.opened →
    IsRemovedSince slot after.scans after.earlier after.opened
removed_still slot before after grown removed one among of_slot =
    subst (λ (l : List LaterScan). WasMissed l one) (sym grown.scans.are)
    (missed_later before.scans grown.scans.more one (removed one (subst (λ (l : List Opened). Contains l one) grown.opened among) of_slot))

-- that the last tail of a file was closed, with what it told
pub closed_last_still : (last : Opened) (before after : SoFar) → IsGrownFrom before after → IsClosedLast (files_of before) last → IsClosedLast (files_of after) last
closed_last_still last before after grown closed = record {
  among = subst (λ (l : List Opened). Contains l last) (sym grown.opened) closed.among;
  before = closed.before;
  left = closed.left;
  behind = closed.behind ++ grown.left.more;
  left_are = grown.left.are ∙ ap (λ (l : List Left). l ++ grown.left.more) closed.left_are ∙ append_assoc closed.before (closed.left ∷ closed.behind) grown.left.more;
  slot_is = closed.slot_is;
  may = closed.may;
  not_forgotten = subst (AllByRecursion (λ (one : Forgotten). one.opened.begin.slot ≢ last.begin.slot)) (sym grown.forgotten) closed.not_forgotten;
}

-- nor does it matter what harvesters heard of their files, or what the run told its keeper
pub closed_last_changed : (last : Opened) (so_far : SoFar) (lanes : List (List Turned)) (begun : List Note) → IsClosedLast (files_of so_far) last →
    IsClosedLast (files_of (record so_far { lanes = lanes; begun = begun })) last
closed_last_changed last so_far lanes begun closed = record {
  among = closed.among;
  before = closed.before;
  left = closed.left;
  behind = closed.behind;
  left_are = closed.left_are;
  slot_is = closed.slot_is;
  may = closed.may;
  not_forgotten = closed.not_forgotten;
}

-- and where it goes on
pub known_still : (known : KnownFile) (last : Opened) (before after : SoFar) (grown : IsGrownFrom before after) (closed : IsClosedLast (files_of before) last) →
    IsKnownAs known before last closed → IsKnownAs known after last (closed_last_still last before after grown closed)
unfolding closed_last_still
known_still known last before after grown closed is =
    record { slot = is.slot; input = is.input; key = is.key; epoch = is.epoch; start = is.start }
