-- Two lines are put into an empty spool; one line fills the last bytes of a spool, and one byte more is too much.
use Rattle.std.proofs.Common.{◌≡◌, inl, inr, ℕ, ◌+◌, ◌*◌, List, [], ◌∷◌, Option, Some, None, codes, refl, sym, subst, arith}
use Rattle.outside.specs.Wires.{Outcome}
use Rattle.spool_queue.specs.declared.status.SpoolStatus.TheVariants.{Full}
use Rattle.spool_queue.specs.Lines.{lines_of, refusal_of}
use Rattle.spool_queue.specs.Sent.{PeerFails}
use Rattle.spool_queue.specs.Spool.{IsLastGate}
use Rattle.spool_queue.specs.Untroubled.{FitsAll, IsServed, RunSigns}

two_lines : lines_of (codes "a\nbb\nc") ≡ codes "a" ∷ codes "bb" ∷ []
two_lines = refl

fits : FitsAll (Some (codes "a\nbb\nc")) [] []
fits = record { given = codes "a\nbb\nc"; tells = refl; fits = at_gate }
  where
    at_gate : (end : ℕ) → IsLastGate [] end → refusal_of (end + 34 * 0) 0 (lines_of (codes "a\nbb\nc")) ≡ None
    at_gate end (inl (short, first)) = let R : ℕ → Type 0 = λ n. refusal_of (n + 34 * 0) 0 (lines_of (codes "a\nbb\nc")) ≡ None in subst R (sym first) refl
    at_gate end (inr (long, gate)) = absurd (omega (arith, long))

just_fits : refusal_of 1_073_741_775 0 (codes "a" ∷ []) ≡ None
just_fits = refl

one_too_much : refusal_of 1_073_741_776 0 (codes "a" ∷ []) ≡ Some (Full 0)
one_too_much = refl

-- where the wire does not tell, nothing is promised of a peer
untold_peer : (signs now : RunSigns) → signs.outcomes ≡ None → ¬ (IsServed signs now)
untold_peer signs now untold served = untold_fails signs.outcomes untold served.faultless
  where
    untold_fails : (outcomes : Option (List Outcome)) → outcomes ≡ None → (¬ (PeerFails outcomes now.outcomes)) → ⊥
    untold_fails None same never = never tt
    untold_fails (Some outcomes) same never = absurd cc
