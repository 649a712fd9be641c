-- How a run watches its files (this project's profile): by which processors their events are changed, whether it reads them once, and what
-- its scans may report of a file while a tail of it is open.
use Rattle.std.specs.Prelude.{◌≡◌, ◌⊎◌, ℕ, ◌+◌, ◌≤◌, Bool, true, List, [], ◌∷◌}
use Rattle.event_tree.specs.declared.processor_rule.ProcessorRule.{ProcessorRule}
use Rattle.accounts.specs.Opened.{Opened}

-- the number of a scan, and the path by which it showed the file
pub record Name : Type 0 where
  pub scan : ℕ
  pub path : List ℕ

-- each is of a later scan than the one before it
abbrev pub AreNamesFrom : ℕ → List Name → Type 0
AreNamesFrom least [] = Unit {0}
AreNamesFrom least (name ∷ names) = (least ≤ name.scan) × AreNamesFrom (name.scan + 1) names

-- the path that was given last
abbrev pub last_path : List ℕ → List Name → List ℕ
last_path path [] = path
last_path path (name ∷ names) = last_path name.path names

pub record Watch : Type 1 where
  pub processors : List ProcessorRule
  -- each turn may find a file's end
  pub once : Bool
  -- a file that was opened so was removed since, or is known by this name since
  pub removed : Opened → Type 0
  pub renamed : Opened → Name → Type 0

-- the file's end may be found
abbrev pub MayFindEnd : Watch → Opened → Type 0
MayFindEnd watch opened = (watch.once ≡ true) ⊎ watch.removed opened
