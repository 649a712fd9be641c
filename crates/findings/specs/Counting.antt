-- How many files a glob finds (Filebeat reference, filestream paths; this project's profile): those of the listed files that
-- are of its input, and that it covers.
use Rattle.std.specs.Prelude.{◌≡◌, ◌⊎◌, ℕ, ◌+◌, List, [], ◌∷◌}
use Rattle.glob_paths.specs.Cover.{Covers}
use Rattle.prospect.specs.declared.listed.Listed.{Listed}
use Rattle.findings.specs.declared.globs.GlobAsked.{GlobAsked}

abbrev pub IsOf : GlobAsked → Listed → Type 0
IsOf asked one = (one.input ≡ asked.input) × Covers asked.glob one.path

abbrev pub Counts : GlobAsked → List Listed → ℕ → Type 0
Counts asked [] count = count ≡ 0
Counts asked (one ∷ listed) count =
    (IsOf asked one × (others : ℕ) × (count ≡ others + 1) × Counts asked listed others)
    ⊎ ((¬ (IsOf asked one)) × Counts asked listed count)
