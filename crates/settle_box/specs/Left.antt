-- What is left of a closed box (this project's profile).
use Rattle.std.specs.Prelude.{◌≡◌, List, [], ◌∷◌, All, Option, Some, None, unwrap_or}
use Rattle.crossbeam_queue.specs.Passes.{Pass, view}
use Rattle.wire_base.specs.declared.note.Note.{Note}
use Rattle.wire_base.specs.Ranges.{IsNote}
use Rattle.settle_box.specs.declared.rule.Hand.{Hand}
use Rattle.settle_box.specs.declared.sender.Sent.{Sent}
use Rattle.settle_box.specs.Notes.{IsPostable}
use Rattle.settle_box.specs.Senders.{notes}

-- what the pass knows to be left, while a note is taken ahead
abbrev pub left_over : Option Note → Pass Note Hand → List Sent
left_over None pass = []
left_over (Some next) pass = unwrap_or (view pass).rest []

-- the first of these is this note
abbrev pub BeginsWith : Note → List Sent → Type 0
BeginsWith note [] = ⊥
BeginsWith note (s ∷ all) = s.note ≡ note

-- the note that is taken ahead is the first of what is left
abbrev pub KnowsAhead : Option Note → Pass Note Hand → Type 0
KnowsAhead None pass = Unit {0}
KnowsAhead (Some next) pass = BeginsWith next (unwrap_or (view pass).rest [])

-- each of these is a note that may be posted, within its ranges
abbrev pub ArePostable : List Sent → Type 0
ArePostable all = All IsPostable (notes all) × All IsNote (notes all)
