-- Shares of a whole: a share is a list of pieces, and the piece k is the whole halved k times (this project's profile).
use Rattle.std.specs.Prelude.{◌≡◌, ℕ, zero, suc, ◌+◌, ◌-◌, ◌≤◌, List, [], ◌∷◌}
use Rattle.pass_sums.specs.Weight.{weigh}

-- one, doubled so often
abbrev pub doubled : ℕ → ℕ
doubled zero = 1
doubled (suc n) = doubled n + doubled n

-- what a share is worth if the whole is worth `doubled scale`, for a scale that no piece was halved more often than
abbrev pub share_at : ℕ → List ℕ → ℕ
share_at scale pieces = weigh (λ halvings. doubled (scale - halvings)) pieces

-- the pieces make the whole: this holds at each scale that is fine enough
pub record IsWhole (pieces : List ℕ) : Type 0 where
  pub least : ℕ
  pub weighs : (scale : ℕ) → least ≤ scale → share_at scale pieces ≡ doubled scale

-- what is kept when a share is split: half of the first piece, and the other pieces
abbrev pub kept_half : List ℕ → List ℕ
kept_half [] = []
kept_half (piece ∷ pieces) = suc piece ∷ pieces

-- what is cut off when a share is split: half of the first piece
abbrev pub cut_half : List ℕ → List ℕ
cut_half [] = []
cut_half (piece ∷ pieces) = suc piece ∷ []

-- the two shares are worth the same, at each scale that is fine enough
pub record IsWorth (share other : List ℕ) : Type 0 where
  pub least : ℕ
  pub same : (scale : ℕ) → least ≤ scale → share_at scale share ≡ share_at scale other
