-- What a disk in memory reports: its bytes and its images after each change since it was made (this project's profile).
use Rattle.std.specs.Prelude.{◌≡◌, ℕ, ◌≤◌, List, [], ◌∷◌, ◌++◌, length, take}
use Rattle.std.proofs.Common.{refl, sym, subst, inr, arith}
use Rattle.std.proofs.lemmas.List.{take_all}
use Rattle.outside.specs.DiskImages.{Torn, MayBeCut}
use Rattle.outside.specs.DiskReads.{written}
use Rattle.outside_mem.specs.declared.change.Change.{Change}
use Rattle.outside_mem.specs.declared.change.Change.TheVariants.{Wrote, WriteFailed, CutTo, Synced}
use Rattle.outside_mem.specs.Torn.{Torn-refl, Torn-written}

-- a step that a crash may keep, lose or tear: a write of this many bytes at a place, or a cut to a length
pub data Pending : Type 0 where
  Write : ℕ → ℕ → Pending
  Cut : ℕ → Pending

-- the bytes of the last sync, what is pending since, and the bytes as they read
pub record Reading : Type 0 where
  pub synced : List ℕ
  pub pending : List Pending
  pub bytes : List ℕ

-- all is synced
abbrev pub fresh : List ℕ → Reading
fresh bytes = record { synced = bytes; pending = []; bytes = bytes }

abbrev pub pending_of : Change → List Pending
pending_of (Wrote write) = Write write.at (length write.bytes.items) ∷ []
pending_of (WriteFailed at len) = Write at len ∷ []
pending_of (CutTo len) = Cut len ∷ []
pending_of Synced = []

abbrev pub after_change : Reading → Change → Reading
after_change r (Wrote write) = record { synced = r.synced; pending = r.pending ++ Write write.at (length write.bytes.items) ∷ []; bytes = written r.bytes write.at write.bytes.items }
after_change r (WriteFailed at len) = record { synced = r.synced; pending = r.pending ++ Write at len ∷ []; bytes = r.bytes }
after_change r (CutTo len) = record { synced = r.synced; pending = r.pending ++ Cut len ∷ []; bytes = take len r.bytes }
after_change r Synced = fresh r.bytes

-- after all the changes, the first of them first
abbrev pub after : Reading → List Change → Reading
after r [] = r
after r (change ∷ changes) = after (after_change r change) changes

abbrev pub MayLeave : Pending → List ℕ → List ℕ → Type 0
MayLeave (Write at n) old new = Torn at n old new
MayLeave (Cut len) old new = MayBeCut len old new

-- a crash may make this image of the bytes, one pending step after another
abbrev pub IsLeft : List Pending → List ℕ → List ℕ → Type 0
IsLeft [] bytes image = image ≡ bytes
IsLeft (step ∷ steps) bytes image = (next : List ℕ) × MayLeave step bytes next × IsLeft steps next image

abbrev pub IsImageOf : Reading → List ℕ → Type 0
IsImageOf r image = IsLeft r.pending r.synced image

-- what a change may leave if a crash tears it
abbrev pub MayLeaveBy : Change → List ℕ → List ℕ → Type 0
MayLeaveBy (Wrote write) old new = Torn write.at (length write.bytes.items) old new
MayLeaveBy (WriteFailed at len) old new = Torn at len old new
MayLeaveBy (CutTo len) old new = MayBeCut len old new
MayLeaveBy Synced old new = new ≡ old

-- after this many of the changes
abbrev pub reading_at : List ℕ → List Change → ℕ → Reading
reading_at first changes moment = after (fresh first) (take moment changes)

-- an image of some moment from that one on
abbrev pub IsImageSince : List ℕ → List Change → ℕ → List ℕ → Type 0
IsImageSince first changes since image = (moment : ℕ) × (since ≤ moment) × (moment ≤ length changes) × IsImageOf (reading_at first changes moment) image

-- one pending step more
pub IsLeft-push : (steps : List Pending) (step : Pending) (bytes before image : List ℕ) → IsLeft steps bytes before → MayLeave step before image → IsLeft (steps ++ step ∷ []) bytes image
IsLeft-push [] step bytes before image is left = (image, subst (λ (b : List ℕ). MayLeave step b image) is left, refl)
IsLeft-push (first ∷ steps) step bytes before image is left = (is.0, is.1, IsLeft-push steps step is.0 before image is.2 left)

pub IsLeft-pop : (steps : List Pending) (step : Pending) (bytes image : List ℕ) → IsLeft (steps ++ step ∷ []) bytes image → (before : List ℕ) × IsLeft steps bytes before × MayLeave step before image
IsLeft-pop [] step bytes image is = (bytes, refl, subst (λ (i : List ℕ). MayLeave step bytes i) (sym is.2) is.1)
IsLeft-pop (first ∷ steps) step bytes image is = let rest = IsLeft-pop steps step is.0 image is.2 in (rest.0, (is.0, is.1, rest.1), rest.2)

-- what a read gives is an image, also after one more change
pub reads-after_change : (r : Reading) (change : Change) → IsImageOf r r.bytes → IsImageOf (after_change r change) (after_change r change).bytes
reads-after_change r (Wrote write) is =
    IsLeft-push r.pending (Write write.at (length write.bytes.items)) r.synced r.bytes _ is (Torn-written r.bytes write.at write.bytes.items (omega (arith, write.in_range, write.bytes.ok.0)))
reads-after_change r (WriteFailed at len) is = IsLeft-push r.pending (Write at len) r.synced r.bytes _ is (Torn-refl at len r.bytes)
reads-after_change r (CutTo len) is = IsLeft-push r.pending (Cut len) r.synced r.bytes _ is (inr refl)
reads-after_change r Synced is = refl

pub reads-after : (changes : List Change) (r : Reading) → IsImageOf r r.bytes → IsImageOf (after r changes) (after r changes).bytes
reads-after [] r is = is
reads-after (change ∷ changes) r is = reads-after changes (after_change r change) (reads-after_change r change is)

-- since the last moment there is no other
pub since_now : (first : List ℕ) (changes : List Change) (image : List ℕ) → IsImageSince first changes (length changes) image → IsImageOf (after (fresh first) changes) image
since_now first changes image left =
    let all : take left.0 changes ≡ changes = take_all left.0 changes left.1 in
    subst (λ (cs : List Change). IsImageOf (after (fresh first) cs) image) all left.3

pub since-counts_now : (first : List ℕ) (changes : List Change) (since : ℕ) (image : List ℕ) → since ≤ length changes → IsImageOf (after (fresh first) changes) image → IsImageSince first changes since image
since-counts_now first changes since image le is =
    let all : take (length changes) changes ≡ changes = take_all (length changes) changes (omega arith) in
    (length changes, le, omega arith, subst (λ (cs : List Change). IsImageOf (after (fresh first) cs) image) (sym all) is)
