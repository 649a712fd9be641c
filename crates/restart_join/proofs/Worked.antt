-- Worked begins, computed by the definitions.
use Rattle.std.proofs.Common.{◌≡◌, ℕ, List, [], ◌∷◌, codes, refl}
use Rattle.prospector_core.specs.declared.seen.Seen.{Seen}
use Rattle.restart_join.specs.declared.start.Start.{Start}
use Rattle.restart_join.specs.Joining.{begin_at, begins_of, refusals}
use Rattle.restart_join.specs.PathOrder.{members_at}
use Rattle.wire_base.specs.declared.limits.Full.TheVariants.{Epochs, Slots}
use Rattle.wire_base.specs.declared.row.Row.{Row}

abbrev row : List ℕ → ℕ → ℕ → Row
row key epoch offset = record { key = key; path = codes "/old"; epoch = record { 0 = epoch }; offset = offset; changed = record { 0 = 0 } }

abbrev seen : List ℕ → List ℕ → ℕ → Seen
seen key path size = record { input = 0; key = key; path = path; size = size }

abbrev start : ℕ → ℕ → Start
start epoch base = record { epoch = epoch; base = base }

-- as long as the row's offset, and longer
as_long : begins_of (row (codes "a") 2 10 ∷ []) 0 (seen (codes "a") (codes "/a") 10 ∷ []) ≡ begin_at 0 (seen (codes "a") (codes "/a") 10) (start 2 10) ∷ []
as_long = refl

longer : begins_of (row (codes "a") 2 10 ∷ []) 0 (seen (codes "a") (codes "/a") 11 ∷ []) ≡ begin_at 0 (seen (codes "a") (codes "/a") 11) (start 2 10) ∷ []
longer = refl

-- shorter: the next epoch from its first byte on
shorter : begins_of (row (codes "a") 2 10 ∷ []) 0 (seen (codes "a") (codes "/a") 9 ∷ []) ≡ begin_at 0 (seen (codes "a") (codes "/a") 9) (start 3 0) ∷ []
shorter = refl

-- without a row, and a further path of a key
two_paths : begins_of [] 5 (seen (codes "a") (codes "/a") 9 ∷ seen (codes "a") (codes "/b") 9 ∷ seen (codes "b") (codes "/c") 1 ∷ [])
    ≡ begin_at 5 (seen (codes "a") (codes "/a") 9) (start 0 0) ∷ begin_at 6 (seen (codes "b") (codes "/c") 1) (start 0 0) ∷ []
two_paths = refl

-- members in the order of their places
in_order : members_at (seen (codes "a") (codes "/b") 1 ∷ seen (codes "b") (codes "/a") 2 ∷ []) (1 ∷ 0 ∷ []) ≡ seen (codes "b") (codes "/a") 2 ∷ seen (codes "a") (codes "/b") 1 ∷ []
in_order = refl

-- the last epoch is kept, and has no next one
last_epoch : refusals (row (codes "a") 4_294_967_295 10 ∷ []) 0 (seen (codes "a") (codes "/a") 10 ∷ []) ≡ []
last_epoch = refl

no_epoch : refusals (row (codes "a") 4_294_967_295 10 ∷ []) 0 (seen (codes "a") (codes "/a") 9 ∷ []) ≡ record { what = Epochs; path = codes "/a" } ∷ []
no_epoch = refl

no_slot : refusals [] 4_294_967_294 (seen (codes "a") (codes "/a") 1 ∷ seen (codes "b") (codes "/b") 1 ∷ []) ≡ record { what = Slots; path = codes "/b" } ∷ []
no_slot = refl
