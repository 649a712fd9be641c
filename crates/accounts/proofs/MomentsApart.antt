-- Moments that lie apart, among more of them.
use Rattle.std.proofs.Common.{◌≡◌, ℕ, ◌<◌, List, [], ◌∷◌, ◌++◌, sym, ap, subst, ◌∙◌, append_assoc, arith}
use Rattle.kept_rows.specs.Scans.{StandInOrder}
use Rattle.told_events.specs.Licence.{LieApart}

record Split (x : ℕ) (ys moments : List ℕ) : Type 0 where
  front : List ℕ
  back : List ℕ
  are : moments ≡ front ++ x ∷ back
  stand : StandInOrder ys (x ∷ back)

split_at : (xs : List ℕ) (x : ℕ) (ys moments : List ℕ) → StandInOrder (xs ++ x ∷ ys) moments → Split x ys moments
split_at [] x ys moments stand = record { front = stand.0; back = stand.1; are = stand.2; stand = stand.3 }
split_at (first ∷ xs) x ys moments stand =
    let s = split_at xs x ys (first ∷ stand.1) stand.3 in
    record {
      front = stand.0 ++ s.front;
      back = s.back;
      are = stand.2 ∙ ap (λ (l : List ℕ). stand.0 ++ l) s.are ∙ sym (append_assoc stand.0 s.front (x ∷ s.back));
      stand = s.stand;
    }

-- among more of them they lie apart, too
pub lie_apart_among : (ones moments : List ℕ) (distance : ℕ) → 0 < distance → StandInOrder ones moments → LieApart ones distance → LieApart moments distance
lie_apart_among ones moments distance some stand apart =
    let s = split_at apart.before apart.earlier (apart.between ++ apart.later ∷ apart.behind) moments (subst (λ (l : List ℕ). StandInOrder l moments) apart.are stand) in
    let t = split_at apart.between apart.later apart.behind (apart.earlier ∷ s.back) s.stand in
    by_case s.front s.back t.front t.back s.are t.are
  where
    by_case : (front back between behind : List ℕ) → moments ≡ front ++ apart.earlier ∷ back → apart.earlier ∷ back ≡ between ++ apart.later ∷ behind → LieApart moments distance
    by_case front back [] behind are others = absurd (let same : apart.earlier ≡ apart.later = cc in let far = apart.apart in omega (arith, same, far, some))
    by_case front back (first ∷ between) behind are others =
        let later : back ≡ between ++ apart.later ∷ behind = cc in
        record {
          before = front;
          earlier = apart.earlier;
          between = between;
          later = apart.later;
          behind = behind;
          are = are ∙ ap (λ (l : List ℕ). front ++ apart.earlier ∷ l) later;
          apart = apart.apart;
        }
