-- What the steps of the box report to the pass that makes them (this project's profile).
use Rattle.std.specs.Prelude.{◌≡◌, ℕ, List, [], ◌∷◌, ◌++◌, All, Some, None}
use Rattle.wire_base.specs.declared.note.Note.{Note}
use Rattle.wire_base.specs.Ranges.{IsNote}
use Rattle.settle_box.specs.declared.rule.Hand.{Hand}
use Rattle.settle_box.specs.declared.sender.Sent.{Sent}
use Rattle.settle_box.specs.Hand.{hand, first_of, others_of}
use Rattle.settle_box.specs.InOrder.{IsInOrder}
use Rattle.settle_box.specs.Notes.{IsPostable}
use Rattle.settle_box.specs.Senders.{notes, sent, with_note}

-- a post puts the note after all that its sender posted
abbrev pub PostsBehind : Hand → Note → Hand → Type 0
PostsBehind v note w = w ≡ hand v.posts v.collects (with_note (first_of v.senders) note ∷ others_of v.senders) v.got None

-- a collect gives a note of some sender
pub record CollectsFirst (v : Hand) (note : Note) (w : Hand) : Type 0 where
  pub from : List ℕ
  pub kind : IsPostable note
  pub range : IsNote note
  pub is : w ≡ hand v.posts v.collects v.senders (v.got ++ sent from note ∷ []) None

-- the first collect of a closed box reports exactly what is left
pub record EndsAt (v : Hand) (note : Note) (w : Hand) : Type 0 where
  pub ahead : Sent
  pub rest : List Sent
  pub first : ahead.note ≡ note
  pub in_order : IsInOrder v.senders v.got (ahead ∷ rest)
  pub kinds : All IsPostable (notes (ahead ∷ rest))
  pub ranges : All IsNote (notes (ahead ∷ rest))
  pub is : w.rest ≡ Some (ahead ∷ rest)

-- what the pass of a closed box learns of what the box holds: it is what follows the note taken ahead
pub record HoldsBehind (v : Hand) (items : List Note) : Type 0 where
  pub ahead : Sent
  pub rest : List Sent
  pub is : v.rest ≡ Some (ahead ∷ rest)
  pub behind : notes rest ≡ items

-- a later collect of a closed box takes the next of what is left ahead
pub record DrainsNext (v : Hand) (note : Note) (w : Hand) : Type 0 where
  pub ahead : Sent
  pub next : Sent
  pub rest : List Sent
  pub first : next.note ≡ note
  pub was : v.rest ≡ Some (ahead ∷ next ∷ rest)
  pub is : w.rest ≡ Some (next ∷ rest)
