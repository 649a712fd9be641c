-- Names and what was sent under them.
use Rattle.std.proofs.Common.{◌≡◌, ℕ, suc, ◌+◌, Bool, true, false, true≢false, ◌&&◌, if◌then◌else◌, nat_eq, eq-eqb, List, [], ◌∷◌, ◌++◌, refl, sym, ap, ap₂, subst, arith}
use Rattle.std.proofs.lemmas.Bool.Decides.{nat_tests}
use Rattle.wire_base.specs.declared.note.Note.{Note}
use Rattle.pass_sums.specs.Weight.{weigh}
use Rattle.settle_box.specs.declared.sender.Sender.{Sender}
use Rattle.settle_box.specs.declared.sender.Sent.{Sent}
use Rattle.settle_box.specs.Rule.{splits_of}
use Rattle.settle_box.specs.Senders.{same_name, notes, notes_of, has_name, child_of, split_once}

same_head : (x y : ℕ) (rest : Bool) → ((nat_eq x y) && rest) ≡ true → (x ≡ y) × (rest ≡ true)
same_head x y rest same = grind (arith, nat_tests)

pub same_name-same : (name : List ℕ) → same_name name name ≡ true
same_name-same [] = refl
same_name-same (x ∷ xs) = ap₂ (λ a b. a && b) (eq-eqb x x refl) (same_name-same xs)

pub same_name-true : (xs ys : List ℕ) → same_name xs ys ≡ true → xs ≡ ys
same_name-true [] [] same = refl
same_name-true [] (y ∷ ys) same = absurd (true≢false (sym same))
same_name-true (x ∷ xs) [] same = absurd (true≢false (sym same))
same_name-true (x ∷ xs) (y ∷ ys) same =
    let parts = same_head x y (same_name xs ys) same in
    ap₂ (λ a b. a ∷ b) parts.0 (same_name-true xs ys parts.1)

pub has_own_name : (s : Sender) → has_name s.name s ≡ 1
has_own_name s = ap (λ (b : Bool). if b then 1 else 0) (same_name-same s.name)

-- one that has not this name sends nothing under it, and the other way round
pub other_name : (name : List ℕ) (s : Sender) → has_name name s ≡ 0 → same_name s.name name ≡ false
other_name name s none = decide (same_name s.name name) refl
  where
    decide : (b : Bool) → same_name s.name name ≡ b → b ≡ false
    decide false is = refl
    decide true is =
        let same : s.name ≡ name = same_name-true s.name name is in
        let one : has_name name s ≡ 1 = subst (λ (n : List ℕ). has_name n s ≡ 1) same (has_own_name s) in
        absurd (omega arith)

pub has_name-none : (name : List ℕ) (s : Sender) → has_name name s ≡ 0 → same_name name s.name ≡ false
has_name-none name s none = decide (same_name name s.name) refl
  where
    decide : (b : Bool) → same_name name s.name ≡ b → b ≡ false
    decide false is = refl
    decide true is =
        let one : has_name name s ≡ 1 = ap (λ (b : Bool). if b then 1 else 0) is in
        absurd (omega arith)

pub notes_of-append : (name : List ℕ) (xs ys : List Sent) → notes_of name (xs ++ ys) ≡ notes_of name xs ++ notes_of name ys
notes_of-append name [] ys = refl
notes_of-append name (s ∷ xs) ys = decide (same_name name s.from) (notes_of-append name xs ys)
  where
    decide : (b : Bool) → notes_of name (xs ++ ys) ≡ notes_of name xs ++ notes_of name ys
        → (if b then s.note ∷ notes_of name (xs ++ ys) else notes_of name (xs ++ ys)) ≡ (if b then s.note ∷ notes_of name xs else notes_of name xs) ++ notes_of name ys
    decide true rest = ap (λ (ns : List Note). s.note ∷ ns) rest
    decide false rest = rest

pub notes-append : (xs ys : List Sent) → notes (xs ++ ys) ≡ notes xs ++ notes ys
notes-append [] ys = refl
notes-append (s ∷ xs) ys = ap (λ (ns : List Note). s.note ∷ ns) (notes-append xs ys)

-- a split counts for its own name
pub splits_of-split : (name : List ℕ) (s : Sender) → splits_of name (split_once s) ≡ splits_of name s + has_name name s
splits_of-split name s = decide (same_name name s.name)
  where
    decide : (b : Bool) → (if b then suc s.made else 0) ≡ (if b then s.made else 0) + (if b then 1 else 0)
    decide true = omega arith
    decide false = refl

pub splits_of-none : (name : List ℕ) (s : Sender) → has_name name s ≡ 0 → splits_of name s ≡ 0
splits_of-none name s none = ap (λ (b : Bool). if b then s.made else 0) (has_name-none name s none)

pub splits_of-own : (s : Sender) → splits_of s.name s ≡ s.made
splits_of-own s = ap (λ (b : Bool). if b then s.made else 0) (same_name-same s.name)

pub no-splits : (name : List ℕ) (senders : List Sender) → weigh (has_name name) senders ≡ 0 → weigh (splits_of name) senders ≡ 0
no-splits name [] none = refl
no-splits name (s ∷ senders) none = omega (arith, splits_of-none name s (omega arith), no-splits name senders (omega arith))

either_way : (b : Bool) (n : ℕ) → (if b then n else n) ≡ n
either_way true n = refl
either_way false n = refl

pub child-splits : (name : List ℕ) (s : Sender) → splits_of name (child_of s) ≡ 0
child-splits name s = either_way (same_name name (s.made ∷ s.name)) 0
