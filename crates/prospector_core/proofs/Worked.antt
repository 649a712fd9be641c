-- Worked changes, computed by the definitions: each case alone, and what is known afterwards.
use Rattle.std.proofs.Common.{◌≡◌, ℕ, Bool, true, false, List, [], ◌∷◌, codes, refl}
use Rattle.prospector_core.specs.declared.change.Change.TheVariants.{Created, Returned, Renamed, Written, Truncated, Removed, Doubled}
use Rattle.prospector_core.specs.declared.known.Known.{Known}
use Rattle.prospector_core.specs.declared.seen.Seen.{Seen}
use Rattle.prospector_core.specs.Changes.{changes_between, known_after, slot_of}
use Rattle.prospector_core.specs.KnownFiles.{KnownFiles}
use Rattle.prospector_core.specs.Limits.{refusals}
use Rattle.wire_base.specs.declared.limits.Full.TheVariants.{Files}

abbrev a : Known
a = record { slot = slot_of 0; input = 0; key = codes "a"; path = codes "/a"; size = 5; present = true }

-- removed, of the input that cleans
abbrev c : Known
c = record { slot = slot_of 2; input = 1; key = codes "c"; path = codes "/c"; size = 1; present = false }

abbrev known : KnownFiles
known = record { files = a ∷ c ∷ []; next = 3; others = 0 }

abbrev clean : List Bool
clean = false ∷ true ∷ []

abbrev seen : ℕ → List ℕ → List ℕ → ℕ → Seen
seen input key path size = record { input = input; key = key; path = path; size = size }

nothing_changed : changes_between clean true known (seen 0 (codes "a") (codes "/a") 5 ∷ []) ≡ []
nothing_changed = refl

written : changes_between clean true known (seen 0 (codes "a") (codes "/a") 6 ∷ []) ≡ Written (slot_of 0) 6 ∷ []
written = refl

renamed_and_truncated : changes_between clean true known (seen 0 (codes "a") (codes "/d") 4 ∷ [])
    ≡ Renamed (slot_of 0) (codes "/a") (codes "/d") ∷ Truncated (slot_of 0) 4 ∷ []
renamed_and_truncated = refl

-- the second path tells nothing of its own, whatever its size
doubled : changes_between clean true known (seen 0 (codes "a") (codes "/a") 5 ∷ seen 0 (codes "a") (codes "/b") 9 ∷ []) ≡ Doubled (codes "/b") ∷ []
doubled = refl

removed : changes_between clean true known [] ≡ Removed (slot_of 0) ∷ []
removed = refl

-- a partial scan tells no removal, and forgets nothing
not_removed : changes_between clean false known [] ≡ []
not_removed = refl

as_before : known_after clean false known [] ≡ known
as_before = refl

-- a removed file of an input that cleans is passed over in silence until it is forgotten
held : changes_between clean false known (seen 1 (codes "c") (codes "/e") 8 ∷ []) ≡ []
held = refl

still_held : known_after clean false known (seen 1 (codes "c") (codes "/e") 8 ∷ []) ≡ known
still_held = refl

-- of one that keeps its removed files it is there again
returned : changes_between (false ∷ false ∷ []) false known (seen 1 (codes "c") (codes "/e") 8 ∷ []) ≡ Returned (slot_of 2) (codes "/e") 8 ∷ []
returned = refl

created : changes_between clean false known (seen 0 (codes "n") (codes "/n") 1 ∷ seen 0 (codes "n") (codes "/o") 1 ∷ seen 0 (codes "m") (codes "/p") 2 ∷ [])
    ≡ Created (slot_of 3) 0 (codes "n") (codes "/n") 1 ∷ Doubled (codes "/o") ∷ Created (slot_of 4) 0 (codes "m") (codes "/p") 2 ∷ []
created = refl

-- ---- limits: the files go first, and the first file that is too many is told
too_many : refusals (record { files = a ∷ []; next = 4_294_967_295; others = 65_535 }) (seen 0 (codes "a") (codes "/a") 5 ∷ seen 0 (codes "n") (codes "/n") 1 ∷ [])
    ≡ record { what = Files; path = codes "/n" } ∷ []
too_many = refl

none_too_many : refusals (record { files = a ∷ []; next = 4_294_967_294; others = 65_534 }) (seen 0 (codes "n") (codes "/n") 1 ∷ []) ≡ []
none_too_many = refl
