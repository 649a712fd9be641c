-- Worked values of the definitions, by computation.
use Rattle.std.proofs.Common.{◌≡◌, ℕ, true, false, List, [], ◌∷◌, Option, Some, None, refl}
use Rattle.wire_base.specs.Extent.{Extent}
use Rattle.wire_base.specs.declared.numbers.Epoch.{Epoch}
use Rattle.wire_base.specs.declared.row.Row.{Row}
use Rattle.wire_base.specs.declared.row.Op.TheVariants.{Set, Remove}
use Rattle.wire_base.specs.declared.note.Cause.TheVariants.{Acked}
use Rattle.wire_base.specs.declared.note.Note.{Note}
use Rattle.wire_base.specs.declared.note.Note.TheVariants.{Begin, Announce, Settle, Rename, Seen, Forget}
use Rattle.ship_core.specs.Orderly.{MayFollow}
use Rattle.ship_core.specs.RowOver.{place_over, row_over}
use Rattle.ship_core.specs.RowsOver.{row_for}
use Rattle.ship_core.specs.Replay.{replay}

abbrev span : ℕ → ℕ → Extent
span start end = record { start = start; end = end }

abbrev row : List ℕ → ℕ → ℕ → ℕ → Row
row key epoch offset changed = record { key = key; path = 47 ∷ []; epoch = record { 0 = epoch }; offset = offset; changed = record { 0 = changed } }

abbrev begin : ℕ → ℕ → ℕ → ℕ → Note
begin slot epoch base changed = Begin (record { 0 = slot }) (107 ∷ []) (47 ∷ []) (record { 0 = epoch }) base (record { 0 = changed })

abbrev settle : ℕ → ℕ → ℕ → Note
settle epoch start end = Settle (record { 0 = 0 }) (record { 0 = epoch }) (span start end) Acked

abbrev seen : ℕ → ℕ → Note
seen slot changed = Seen (record { 0 = slot }) (record { 0 = changed })

abbrev announce : ℕ → Note
announce epoch = Announce (record { 0 = 0 }) (record { 0 = epoch })

abbrev forget : ℕ → ℕ → Note
forget epoch end = Forget (record { 0 = 0 }) (record { 0 = epoch }) end

abbrev place : ℕ → ℕ → Option (Epoch × ℕ)
place epoch offset = Some (record { 0 = epoch }, offset)

-- ---- covered ends over gaps

gap_stays : place_over 0 (begin 0 0 0 0 ∷ settle 0 5 9 ∷ []) ≡ place 0 0
gap_stays = refl

gap_closed : place_over 0 (begin 0 0 0 0 ∷ settle 0 5 9 ∷ settle 0 0 5 ∷ []) ≡ place 0 9
gap_closed = refl

settled_twice : place_over 0 (begin 0 0 0 0 ∷ settle 0 5 9 ∷ settle 0 0 5 ∷ settle 0 0 5 ∷ []) ≡ place 0 9
settled_twice = refl

-- ---- older epochs change nothing, whether the settlement or the announcement comes first

announced_first : place_over 0 (begin 0 0 0 0 ∷ announce 1 ∷ settle 1 0 2 ∷ settle 0 0 2 ∷ settle 0 2 4 ∷ []) ≡ place 1 2
announced_first = refl

settled_first : place_over 0 (begin 0 0 0 0 ∷ settle 1 0 2 ∷ announce 1 ∷ settle 0 0 2 ∷ settle 0 2 4 ∷ []) ≡ place 1 2
settled_first = refl

-- ---- the base is that of the Begin's epoch alone

base_kept : place_over 0 (begin 0 3 7 0 ∷ settle 3 7 9 ∷ []) ≡ place 3 9
base_kept = refl

base_left : place_over 0 (begin 0 3 7 0 ∷ announce 4 ∷ settle 4 7 9 ∷ []) ≡ place 4 0
base_left = refl

-- ---- a Forget: above the row's place, at it, of an older epoch, and of a later one, which raises the row's epoch

not_yet_reached : place_over 0 (begin 0 0 0 0 ∷ forget 0 4 ∷ settle 0 0 2 ∷ []) ≡ place 0 2
not_yet_reached = refl

reached : place_over 0 (begin 0 0 0 0 ∷ forget 0 4 ∷ settle 0 0 2 ∷ settle 0 2 4 ∷ []) ≡ None
reached = refl

older_forgotten : place_over 0 (begin 0 0 0 0 ∷ announce 1 ∷ forget 0 9 ∷ []) ≡ None
older_forgotten = refl

later_forgotten : place_over 0 (begin 0 0 0 0 ∷ settle 0 0 2 ∷ forget 1 3 ∷ []) ≡ place 1 0
later_forgotten = refl

-- ---- the newest path

renamed : row_over 0 (begin 0 0 0 0 ∷ Rename (record { 0 = 0 }) 5 (66 ∷ []) ∷ Rename (record { 0 = 0 }) 3 (65 ∷ []) ∷ []) ≡ Some (record { key = 107 ∷ []; path = 66 ∷ []; epoch = record { 0 = 0 }; offset = 0; changed = record { 0 = 0 } })
renamed = refl

-- ---- the greatest moment of its Begin and its Seen notes, and none of another slot's

seen_later : row_over 0 (begin 0 0 0 4 ∷ seen 0 9 ∷ seen 0 7 ∷ []) ≡ Some (row (107 ∷ []) 0 0 9)
seen_later = refl

begun_last : row_over 0 (begin 0 0 0 4 ∷ seen 0 3 ∷ []) ≡ Some (row (107 ∷ []) 0 0 4)
begun_last = refl

other_seen : row_over 0 (begin 0 0 0 4 ∷ begin 1 0 0 0 ∷ seen 1 9 ∷ []) ≡ Some (row (107 ∷ []) 0 0 4)
other_seen = refl

-- ---- no row without a Begin, and no Seen before it

seen_alone : row_over 0 (seen 0 9 ∷ []) ≡ None
seen_alone = refl

seen_too_early : MayFollow (begin 1 0 0 0 ∷ []) (seen 0 9) → ⊥
seen_too_early begun = let q : false ≡ true = begun in cc

not_begun : row_over 1 (begin 0 0 0 0 ∷ []) ≡ None
not_begun = refl

-- ---- rows over opening rows and notes: the greatest slot of a key that is not gone, else the opening row of a key that
-- no Begin names

second_slot : row_for (row (107 ∷ []) 0 8 0 ∷ []) (begin 0 0 0 0 ∷ begin 1 0 3 0 ∷ []) (107 ∷ []) ≡ Some (row (107 ∷ []) 0 3 0)
second_slot = refl

first_went : row_for (row (107 ∷ []) 0 8 0 ∷ []) (begin 0 0 0 0 ∷ forget 0 0 ∷ begin 1 0 3 0 ∷ []) (107 ∷ []) ≡ Some (row (107 ∷ []) 0 3 0)
first_went = refl

all_went : row_for (row (107 ∷ []) 0 8 0 ∷ []) (begin 0 0 0 0 ∷ forget 0 0 ∷ []) (107 ∷ []) ≡ None
all_went = refl

other_key : row_for (row (106 ∷ []) 0 8 0 ∷ []) (begin 0 0 0 0 ∷ []) (106 ∷ []) ≡ Some (row (106 ∷ []) 0 8 0)
other_key = refl

-- ---- replay

replayed : replay (Set (row (2 ∷ []) 0 1 0) ∷ Set (row (1 ∷ []) 0 2 0) ∷ Set (row (2 ∷ []) 1 3 0) ∷ Remove (3 ∷ []) ∷ []) ≡ row (1 ∷ []) 0 2 0 ∷ row (2 ∷ []) 1 3 0 ∷ []
replayed = refl

taken_away : replay (Set (row (2 ∷ []) 0 1 0) ∷ Remove (2 ∷ []) ∷ []) ≡ []
taken_away = refl

moments_replayed : replay (Set (row (2 ∷ []) 0 1 9) ∷ Set (row (2 ∷ []) 0 3 7) ∷ []) ≡ row (2 ∷ []) 0 3 7 ∷ []
moments_replayed = refl
