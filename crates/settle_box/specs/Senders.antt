-- Senders and the notes that they sent (this project's profile). A sender's name is the list of split numbers that leads to it
-- from the first pass, the newest first.
use Rattle.std.specs.Prelude.{ℕ, suc, ◌==◌, Bool, true, false, ◌&&◌, if◌then◌else◌, List, [], ◌∷◌, ◌++◌, length, map}
use Rattle.std.specs.List.{flat_map}
use Rattle.wire_base.specs.declared.note.Note.{Note}
use Rattle.pass_sums.specs.Weight.{weigh}
use Rattle.settle_box.specs.declared.sender.Sender.{Sender}
use Rattle.settle_box.specs.declared.sender.Sent.{Sent}

abbrev pub sender : List ℕ → ℕ → List Note → Sender
sender name made posted = record { name = name; made = made; posted = posted }

abbrev pub sent : List ℕ → Note → Sent
sent from note = record { from = from; note = note }

-- the sender with one more note
abbrev pub with_note : Sender → Note → Sender
with_note s note = sender s.name s.made (s.posted ++ note ∷ [])

-- the sender after one more split
abbrev pub split_once : Sender → Sender
split_once s = sender s.name (suc s.made) s.posted

-- the new sender that this split makes: its name is the split's number before the sender's own name
abbrev pub child_of : Sender → Sender
child_of s = sender (s.made ∷ s.name) 0 []

abbrev pub same_name : List ℕ → List ℕ → Bool
same_name [] [] = true
same_name [] (y ∷ ys) = false
same_name (x ∷ xs) [] = false
same_name (x ∷ xs) (y ∷ ys) = (x == y) && same_name xs ys

abbrev pub notes : List Sent → List Note
notes all = map (λ s. s.note) all

-- what this sender sent, in order
abbrev pub notes_of : List ℕ → List Sent → List Note
notes_of name [] = []
notes_of name (s ∷ all) = if same_name name s.from then s.note ∷ notes_of name all else notes_of name all

-- 1 if the sender has this name
abbrev pub has_name : List ℕ → Sender → ℕ
has_name name s = if same_name name s.name then 1 else 0

-- all that these senders posted
abbrev pub posted_by : List Sender → List Note
posted_by senders = flat_map (λ s. s.posted) senders

-- how many notes these senders posted
abbrev pub posts_of : List Sender → ℕ
posts_of senders = weigh (λ s. length s.posted) senders
