use Rattle.std.proofs.Common.{◌≡◌, ℕ, ◌+◌, ◌*◌, ◌≤◌, ◌↔◌, ◌∷◌, map, option_copied}
use Rattle.glob_paths.specs.Cover.{PartsCover, part_of, parts_left, deep}
use Rattle.glob_paths.proofs.Covering.{size_left, DeepWithin}
use Rattle.glob_paths.proofs.cover.+covering.Given as goal

abbrev pub decreases-parts_cover : goal.decreases-parts_cover
decreases-parts_cover l = 2 * size_left (option_copied l.pattern)

abbrev pub decreases-deep_covers : goal.decreases-deep_covers
decreases-deep_covers l = 2 * size_left (option_copied l.pattern) + 1

abbrev pub invariant-parts_cover-loop-pattern : goal.invariant-parts_cover-loop-pattern
invariant-parts_cover-loop-pattern l =
    (PartsCover (map part_of (parts_left (option_copied l.fn.pattern))) (parts_left (option_copied l.fn.path))
    ↔ PartsCover (map part_of (parts_left (option_copied l.pattern))) (parts_left (option_copied l.path)))
    × (size_left (option_copied l.pattern) ≤ size_left (option_copied l.fn.pattern))

abbrev pub decreases-parts_cover-loop-pattern : goal.decreases-parts_cover-loop-pattern
decreases-parts_cover-loop-pattern l = size_left (option_copied l.pattern)

abbrev pub invariant-deep_covers-loop-count : goal.invariant-deep_covers-loop-count
invariant-deep_covers-loop-count l = (most : ℕ) → l._count + most ≡ 8 →
    (PartsCover (deep ∷ map part_of (parts_left (option_copied l.fn.pattern))) (parts_left (option_copied l.fn.path))
    ↔ DeepWithin most (map part_of (parts_left (option_copied l.fn.pattern))) (parts_left (option_copied l.path)))
