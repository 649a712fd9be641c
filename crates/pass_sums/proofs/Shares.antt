-- A share that is split is worth what its two parts are worth, and a share that is worth nothing is none.
use Rattle.std.proofs.Common.{◌≡◌, ℕ, zero, suc, ◌+◌, ◌-◌, ◌<◌, ◌≤◌, ◌≢◌, max, List, [], ◌∷◌, ◌++◌, set, refl, sym, ap, ◌∙◌, subst, arith}
use Rattle.std.specs.List.{flat_map}
use Rattle.std.proofs.lemmas.List.{append-nil}
use mathlib.Core.Option.{some}
use lib.ListN.{get_elem?}
use Rattle.pass_sums.specs.Weight.{weigh}
use Rattle.pass_sums.specs.Share.{doubled, share_at, IsWhole, IsWorth, kept_half, cut_half}
use Rattle.pass_sums.proofs.Weights.{weigh-append}
use Rattle.pass_sums.proofs.Views.{weigh-two, weigh-set, weigh-snoc}

pub doubled-positive : (n : ℕ) → 0 < doubled n
doubled-positive zero = omega arith
doubled-positive (suc n) = omega (arith, doubled-positive n)

-- the scale from which on both halves of the first piece are whole numbers
abbrev pub halving_scale : List ℕ → ℕ
halving_scale [] = 0
halving_scale (piece ∷ pieces) = suc piece

pub halved-weighs : (scale : ℕ) (pieces : List ℕ) → halving_scale pieces ≤ scale → share_at scale (kept_half pieces) + share_at scale (cut_half pieces) ≡ share_at scale pieces
halved-weighs scale [] fine = refl
halved-weighs scale (piece ∷ pieces) fine =
    let next : scale - piece ≡ suc (scale - suc piece) = omega arith in
    let twice : doubled (scale - piece) ≡ doubled (scale - suc piece) + doubled (scale - suc piece) = ap doubled next in
    omega arith

pub no_share : (scale : ℕ) (pieces : List ℕ) → share_at scale pieces ≡ 0 → pieces ≡ []
no_share scale [] none = refl
no_share scale (piece ∷ pieces) none = absurd (omega (arith, doubled-positive (scale - piece)))

-- the one piece that was never halved
pub begins_whole : IsWhole (0 ∷ [])
begins_whole = record { least = 0; weighs = λ scale _. let same : scale - 0 ≡ scale = omega arith in omega (arith, ap doubled same) }

-- if one view has the whole, the others have no share
pub others_have_none : {V : Type 0} (share : V → List ℕ) (views : List V) (pass other : ℕ) (v u : V) → IsWhole (flat_map share views)
    → get_elem? views pass ≡ some v → IsWhole (share v) → get_elem? views other ≡ some u → other ≢ pass → share u ≡ []
others_have_none share views pass other v u all at whole there apart =
    let scale = max all.least whole.least in
    let h = λ (halvings : ℕ). doubled (scale - halvings) in
    no_share scale (share u) (omega (arith, all.weighs scale (omega arith), whole.weighs scale (omega arith), weigh-two share h views pass other v u at there apart))

-- a share that is worth as much as a whole is whole
pub same_whole : (xs ys : List ℕ) → IsWhole xs → (least : ℕ) → ((scale : ℕ) → least ≤ scale → share_at scale ys ≡ share_at scale xs) → IsWhole ys
same_whole xs ys whole least same =
    record { least = max least whole.least; weighs = λ scale fine. same scale (omega arith) ∙ whole.weighs scale (omega arith) }

-- a whole is no empty share
pub whole_is_some : (xs : List ℕ) → IsWhole xs → xs ≢ []
whole_is_some xs whole none =
    let weighs : share_at whole.least xs ≡ 0 = ap (share_at whole.least) none in
    omega (arith, whole.weighs whole.least (omega arith), doubled-positive whole.least)

-- the shares of all passes stay a whole as a pass changes that keeps its share
pub whole_set : {V : Type 0} (share : V → List ℕ) (views : List V) (pass : ℕ) (v w : V) → get_elem? views pass ≡ some v → share w ≡ share v
    → IsWhole (flat_map share views) → IsWhole (flat_map share (set views pass w))
whole_set share views pass v w at same whole = same_whole _ _ whole 0 (λ scale _.
    let h = λ (halvings : ℕ). doubled (scale - halvings) in
    omega (arith, weigh-set share h views pass v w at, ap (weigh h) same))

-- the shares of all passes stay a whole as a pass is split
pub whole_split : {V : Type 0} (share : V → List ℕ) (views : List V) (pass : ℕ) (v l r : V) → get_elem? views pass ≡ some v
    → (least : ℕ) → ((scale : ℕ) → least ≤ scale → share_at scale (share l) + share_at scale (share r) ≡ share_at scale (share v))
    → IsWhole (flat_map share views) → IsWhole (flat_map share (set views pass l ++ r ∷ []))
whole_split share views pass v l r at least same whole = same_whole _ _ whole least (λ scale fine.
    let h = λ (halvings : ℕ). doubled (scale - halvings) in
    omega (arith, weigh-set share h views pass v l at, weigh-snoc share h (set views pass l) r, same scale fine))

-- the shares of all passes stay a whole as two passes are joined, and one is spent
pub whole_join : {V : Type 0} (share : V → List ℕ) (views : List V) (pass other : ℕ) (v u both spent : V) → get_elem? views pass ≡ some v
    → get_elem? (set views pass both) other ≡ some u → share both ≡ share v ++ share u → share spent ≡ []
    → IsWhole (flat_map share views) → IsWhole (flat_map share (set (set views pass both) other spent))
whole_join share views pass other v u both spent at there same none whole = same_whole _ _ whole 0 (λ scale _.
    let h = λ (halvings : ℕ). doubled (scale - halvings) in
    omega (
      arith,
      weigh-set share h views pass v both at,
      weigh-set share h (set views pass both) other u spent there,
      ap (weigh h) same,
      ap (weigh h) none,
      weigh-append h (share v) (share u),
    ))

pub kept_half_none : (pieces : List ℕ) → kept_half pieces ≡ [] → pieces ≡ []
kept_half_none [] none = refl
kept_half_none (piece ∷ pieces) none = absurd cc

-- the two halves of a whole make the whole
pub halves_whole : (pieces : List ℕ) → IsWhole pieces → IsWhole (kept_half pieces ++ cut_half pieces)
halves_whole pieces whole = same_whole _ _ whole (halving_scale pieces) (λ scale fine.
    let h = λ (halvings : ℕ). doubled (scale - halvings) in
    omega (arith, weigh-append h (kept_half pieces) (cut_half pieces), halved-weighs scale pieces fine))

pub cut_half_none : (pieces : List ℕ) → cut_half pieces ≡ [] → pieces ≡ []
cut_half_none [] none = refl
cut_half_none (piece ∷ pieces) none = absurd cc

-- a whole with no share beside it is a whole
pub whole_before : (xs ys : List ℕ) → IsWhole xs → ys ≡ [] → IsWhole (xs ++ ys)
whole_before xs ys whole none = subst IsWhole (sym (ap (λ (zs : List ℕ). xs ++ zs) none ∙ append-nil xs)) whole

pub whole_behind : (xs ys : List ℕ) → xs ≡ [] → IsWhole ys → IsWhole (xs ++ ys)
whole_behind xs ys none whole = subst IsWhole (sym (ap (λ (zs : List ℕ). zs ++ ys) none)) whole

pub worth_itself : (share other : List ℕ) → share ≡ other → IsWorth share other
worth_itself share other is = record { least = 0; same = λ scale _. ap (share_at scale) is }

-- what became of two halves is worth what was split
pub worth_rejoined : (share one two joined : List ℕ) → IsWorth one (kept_half share) → IsWorth two (cut_half share) → joined ≡ one ++ two → IsWorth joined share
worth_rejoined share one two joined kept cut is = record {
  least = max (halving_scale share) (max kept.least cut.least);
  same = λ scale fine.
      let h = λ (halvings : ℕ). doubled (scale - halvings) in
      omega (
        arith,
        ap (weigh h) is,
        weigh-append h one two,
        kept.same scale (omega arith),
        cut.same scale (omega arith),
        halved-weighs scale share (omega arith),
      );
}

pub whole_worth : (share other : List ℕ) → IsWorth share other → IsWhole other → IsWhole share
whole_worth share other worth whole = same_whole other share whole worth.least worth.same
