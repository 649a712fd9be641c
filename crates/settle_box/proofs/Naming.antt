-- A split of a pass that posts keeps the rule: the new name was not given before.
use Rattle.std.proofs.Common.{◌≡◌, ◌≢◌, ℕ, zero, suc, ◌+◌, ◌<◌, ◌≤◌, Bool, true, false, if◌then◌else◌, List, [], ◌∷◌, ◌++◌, set, All, Some, None, refl, sym, ap, subst, arith}
use Rattle.std.specs.List.{flat_map}
use mathlib.Core.Option.{some}
use lib.ListN.{get_elem?}
use Rattle.crossbeam_queue.specs.Fifo.{Forks}
use Rattle.wire_base.specs.declared.note.Note.{Note}
use Rattle.pass_sums.specs.Share.{kept_half, cut_half}
use Rattle.pass_sums.specs.Weight.{weigh}
use Rattle.pass_sums.proofs.Each.{all_cons, all_none, all_head, all_tail, all_of, each_of, none_together}
use Rattle.pass_sums.proofs.Shares.{halving_scale, halved-weighs, kept_half_none, cut_half_none, whole_split}
use Rattle.pass_sums.proofs.Views.{each_set, each_snoc, weigh-set, weigh-snoc}
use Rattle.pass_sums.proofs.Weights.{weigh-flat_map}
use Rattle.settle_box.specs.declared.rule.Hand.{Hand}
use Rattle.settle_box.specs.declared.sender.Sender.{Sender}
use Rattle.settle_box.specs.declared.sender.Sent.{Sent}
use Rattle.settle_box.specs.Hand.{hand, first_of, others_of}
use Rattle.settle_box.specs.Rule.{IsOrderly, IsWithinRights, KnowsRest, splits_of}
use Rattle.settle_box.specs.Senders.{child_of, has_name, notes_of, same_name, split_once}
use Rattle.settle_box.proofs.Names.{child-splits, has_own_name, no-splits, same_name-true, splits_of-own, splits_of-split}
use Rattle.settle_box.proofs.Orders.{Ordered}

abbrev all : List Hand → List Sender
all views = flat_map (λ (y : Hand). y.senders) views

none_if : (n : ℕ) → (0 < n → ⊥) → n ≡ 0
none_if zero never = refl
none_if (suc n) never = absurd (never (omega arith))

module _ (items : List Note) (views : List Hand) (rule : IsOrderly items views) (pass : ℕ) (v : Hand) (at : get_elem? views pass ≡ some v)
    (named : v.senders ≡ first_of v.senders ∷ others_of v.senders) where
  abbrev mine : Sender
  mine = first_of v.senders

  abbrev os : List Sender
  os = others_of v.senders

  -- the splits under a name are those of the one sender that has it
  own_splits : weigh (splits_of mine.name) (all views) ≡ mine.made
  own_splits =
      let without = hand v.posts v.collects os v.got None in
      let rest = all (set views pass without) in
      let sums : (h : Sender → ℕ) → weigh h rest + h mine ≡ weigh h (all views) = λ h.
      omega (arith, weigh-set (λ (y : Hand). y.senders) h views pass v without at, ap (weigh h) named) in
      let alone : weigh (has_name mine.name) rest ≡ 0 = omega (arith, sums (has_name mine.name), has_own_name mine, rule.in_order.once mine.name) in
      omega (arith, sums (splits_of mine.name), no-splits mine.name rest alone, splits_of-own mine)

  -- so the next number was not given before
  fresh : weigh (has_name (mine.made ∷ mine.name)) (all views) ≡ 0
  fresh = none_if _ (λ some. omega (arith, rule.born mine.made mine.name some, own_splits))

  once_with_child : (name : List ℕ) → weigh (has_name name) (all views) + has_name name (child_of mine) ≤ 1
  once_with_child name = decide (same_name name (mine.made ∷ mine.name)) refl
    where
      decide : (b : Bool) → same_name name (mine.made ∷ mine.name) ≡ b → weigh (has_name name) (all views) + has_name name (child_of mine) ≤ 1
      decide true is =
          let new : weigh (has_name name) (all views) ≡ 0 =
          subst (λ (n : List ℕ). weigh (has_name n) (all views) ≡ 0) (sym (same_name-true name (mine.made ∷ mine.name) is)) fresh in
          let one : has_name name (child_of mine) ≡ 1 = ap (λ (b : Bool). if b then 1 else 0) is in
          omega arith
      decide false is =
          let none : has_name name (child_of mine) ≡ 0 = ap (λ (b : Bool). if b then 1 else 0) is in
          omega (arith, rule.in_order.once name)

  born_with_child : (number : ℕ) (name : List ℕ) → 0 < weigh (has_name (number ∷ name)) (all views) + has_name (number ∷ name) (child_of mine)
      → number < weigh (splits_of name) (all views) + has_name name mine
  born_with_child number name given = decide (same_name (number ∷ name) (mine.made ∷ mine.name)) refl
    where
      decide : (b : Bool) → same_name (number ∷ name) (mine.made ∷ mine.name) ≡ b → number < weigh (splits_of name) (all views) + has_name name mine
      decide true is =
          let same = same_name-true (number ∷ name) (mine.made ∷ mine.name) is in
          let number_is : number ≡ mine.made = cc in
          let name_is : name ≡ mine.name = cc in
          let splits : weigh (splits_of name) (all views) ≡ mine.made = subst (λ (n : List ℕ). weigh (splits_of n) (all views) ≡ mine.made) (sym name_is) own_splits in
          let one : has_name name mine ≡ 1 = subst (λ (n : List ℕ). has_name n mine ≡ 1) (sym name_is) (has_own_name mine) in
          omega arith
      decide false is =
          let none : has_name (number ∷ name) (child_of mine) ≡ 0 = ap (λ (b : Bool). if b then 1 else 0) is in
          let before = rule.born number name (omega arith) in
          omega arith

-- half of the right to post, and a name of its own
pub names : (pass : ℕ) (v : Hand) → v.posts ≢ [] → v.senders ≡ first_of v.senders ∷ others_of v.senders
    → Forks IsOrderly pass v (hand (kept_half v.posts) v.collects (split_once (first_of v.senders) ∷ others_of v.senders) v.got None)
    (hand (cut_half v.posts) [] (child_of (first_of v.senders) ∷ []) [] None)
names pass v may named items views rule at =
    let s = first_of v.senders in
    let os = others_of v.senders in
    let l = hand (kept_half v.posts) v.collects (split_once s ∷ os) v.got None in
    let r = hand (cut_half v.posts) [] (child_of s ∷ []) [] None in
    let middle = set views pass l in
    let after = middle ++ r ∷ [] in
    let Order : Sender → Type 0 = Ordered rule.got rule.held in
    let sums : (h : Sender → ℕ) → weigh h (all after) + h s ≡ weigh h (all views) + h (split_once s) + h (child_of s) = λ h.
    omega (arith, weigh-snoc (λ (y : Hand). y.senders) h middle r, weigh-set (λ (y : Hand). y.senders) h views pass v l at, ap (weigh h) named) in
    let new = fresh items views rule pass v at named in
    let ordered : All Order (s ∷ os) = subst (All Order) named (each_of Order (λ (y : Hand). y.senders) views rule.in_order.order pass v at) in
    let unheard = rule.unknown (s.made ∷ s.name) new in
    let rights = rule.rights pass v at in record {
      got = rule.got;
      held = rule.held;
      is = rule.is;
      posts = whole_split (λ (y : Hand). y.posts) views pass v l r at (halving_scale v.posts) (λ scale fine. halved-weighs scale v.posts fine) rule.posts;
      collects = whole_split (λ (y : Hand). y.collects) views pass v l r at 0 (λ scale fine. omega arith) rule.collects;
      in_order = record {
        order = all_of Order (λ (y : Hand). y.senders) after
            (each_snoc (λ y. All Order y.senders) middle r
            (all_cons Order (child_of s) [] (none_together (notes_of (s.made ∷ s.name) rule.got) (notes_of (s.made ∷ s.name) rule.held) unheard.0 unheard.1) (all_none Order))
            (each_set (λ _ y. All Order y.senders) views pass l
            (all_cons Order (split_once s) os (all_head Order s os ordered) (all_tail Order s os ordered))
            (λ other u _ there. each_of Order (λ (y : Hand). y.senders) views rule.in_order.order other u there)));
        all = λ h. omega (
          arith,
          weigh-flat_map h (λ (y : Sender). y.posted) (all after),
          weigh-flat_map h (λ (y : Sender). y.posted) (all views),
          sums (λ y. weigh h y.posted),
          rule.in_order.all h,
        );
        once = λ name. omega (arith, sums (has_name name), once_with_child items views rule pass v at named name);
      };
      born = λ number name some. omega (
        arith,
        born_with_child items views rule pass v at named number name (omega (arith, some, sums (has_name (number ∷ name)))),
        sums (splits_of name),
        splits_of-split name s,
        child-splits name s,
      );
      unknown = λ name none. rule.unknown name (omega (arith, none, sums (has_name name)));
      kinds = rule.kinds;
      ranges = rule.ranges;
      rights = each_snoc (IsWithinRights rule.got) middle r
          (record { senders = λ none. absurd (may (cut_half_none v.posts none)); none = λ _. refl; all = λ some. absurd (some refl) })
          (each_set (λ _ u. IsWithinRights rule.got u) views pass l
          (record { senders = λ none. absurd (may (kept_half_none v.posts none)); none = rights.none; all = rights.all })
          (λ other u _ there. rule.rights other u there));
      rests = each_snoc (λ u. (rest : List Sent) → u.rest ≡ Some rest → KnowsRest rule.held u rest) middle r (λ rest known. absurd cc)
          (each_set (λ _ u. (rest : List Sent) → u.rest ≡ Some rest → KnowsRest rule.held u rest) views pass l (λ rest known. absurd cc)
          (λ other u _ there. rule.rests other u there));
    }
