-- Worked turns of two slots of one key: the file of the first was removed and left, and the key became known anew, with a slot of its own. And what is
-- refused: a key that is known anew by the scan after which its first file left, or while that file is known still.
use Rattle.std.proofs.Common.{◌≡◌, ◌⊎◌, inl, inr, ℕ, ◌<◌, ◌≤◌, List, [], ◌∷◌, Contains, None, refl, ap, subst, arith, lit≤}
use Rattle.kept_rows.specs.Account.{Following}
use Rattle.kept_rows.specs.Followed.{IsGoneBefore}
use Rattle.ship_core.proofs.Members.{first_there, later_there, none_there, there_cases}
use Rattle.ship_core.specs.RowOver.{row_over}
use Rattle.accounts.specs.Filed.{Filed, following_of}
use Rattle.accounts.specs.RunTold.{TakeTurns}
use Rattle.accounts.proofs.WorkedRemoved.{gone_file, notes}
use Rattle.accounts.proofs.WorkedScans.{hidden_before, run}

-- ---- the first file left after the scan of number 3

abbrev known_anew : ℕ → Filed
known_anew number = record gone_file {
  opened = record gone_file.opened { begin = record gone_file.opened.begin { slot = record { 0 = 1 } } };
  known_from = number;
  removed = None;
  shrank_from = None;
}

abbrev first : Following
first = following_of gone_file

abbrev second : Following
second = following_of (known_anew 4)

abbrev two : List Filed
two = gone_file ∷ known_anew 4 ∷ []

-- the lesser slot of two is the first, and the greater one the second
slot_of_two : (one : Following) → Contains (first ∷ second ∷ []) one → (first ≡ one) ⊎ (second ≡ one)
slot_of_two one there = elim (there_cases first one (second ∷ []) there) [
  | inl same ↦ inl same
  | inr behind ↦ elim (there_cases second one [] behind) [
    | inl same ↦ inr same
    | inr nothing ↦ absurd (none_there one nothing)
  ]
]

pair : (one later : Following) → one.slot < later.slot → (first ≡ one) ⊎ (second ≡ one) → (first ≡ later) ⊎ (second ≡ later) → (first ≡ one) × (second ≡ later)
pair one later less (inl same) (inr next) = (same, next)
pair one later less (inl same) (inl next) =
    absurd (let a : 0 ≡ one.slot = ap (λ (f : Following). f.slot) same in let b : 0 ≡ later.slot = ap (λ (f : Following). f.slot) next in omega (arith, a, b, less))
pair one later less (inr same) (inl next) =
    absurd (let a : 1 ≡ one.slot = ap (λ (f : Following). f.slot) same in let b : 0 ≡ later.slot = ap (λ (f : Following). f.slot) next in omega (arith, a, b, less))
pair one later less (inr same) (inr next) =
    absurd (let a : 1 ≡ one.slot = ap (λ (f : Following). f.slot) same in let b : 1 ≡ later.slot = ap (λ (f : Following). f.slot) next in omega (arith, a, b, less))

gone_first : IsGoneBefore first second
gone_first same = lit≤ tt

pub takes_its_turn : TakeTurns run two [] notes.all
takes_its_turn = record {
  gone = λ one later there behind less.
      let of = pair one later less (slot_of_two one there) (slot_of_two later behind) in
      subst (λ (f : Following). IsGoneBefore f later) of.0 (subst (λ (f : Following). IsGoneBefore first f) of.1 gone_first);
  no_row = λ one later there behind less same.
      let of = pair one later less (slot_of_two one there) (slot_of_two later behind) in
      subst (λ (f : Following). row_over f.slot notes.all ≡ None) of.0 refl;
  newly_known = (
    λ later. record { no_row = inl refl; since = 0; unknown = inl refl; hidden = hidden_before },
    (
      λ later. record {
        no_row = inl refl;
        since = 4;
        unknown = inr (inl (3, record { earlier = first; among = first_there first (second ∷ []); before = lit≤ tt; key_is = refl; gone = refl }, refl));
        hidden = λ number scan since until. absurd (omega (arith, since, until));
      },
      tt,
    ),
  );
}

-- ---- what is refused

-- by the scan after which the first file left
known_anew_too_early : TakeTurns run (gone_file ∷ known_anew 3 ∷ []) [] notes.all → ⊥
known_anew_too_early turns =
    let next = following_of (known_anew 3) in
    let less : 3 < 3 = turns.gone first next (first_there first (next ∷ [])) (later_there first next (next ∷ []) (first_there next [])) (lit≤ tt) refl in
    omega (arith, less)

-- while the first file is known still
known_twice : TakeTurns run (record gone_file { removed = None } ∷ known_anew 4 ∷ []) [] notes.all → ⊥
known_twice turns =
    let stays = following_of (record gone_file { removed = None }) in
    turns.gone stays second (first_there stays (second ∷ [])) (later_there stays second (second ∷ []) (first_there second [])) (lit≤ tt) refl
