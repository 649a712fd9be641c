-- Each step of the box keeps the rule: splits and joins of passes.
use Rattle.std.proofs.Common.{◌≡◌, ℕ, ◌+◌, List, [], ◌∷◌, ◌++◌, set, All, Some, None, refl, sym, ap, ◌∙◌, arith}
use Rattle.std.specs.List.{flat_map}
use mathlib.Core.Option.{some}
use lib.ListN.{get_elem?}
use Rattle.crossbeam_queue.specs.Fifo.{Forks, Merges}
use Rattle.crossbeam_queue.proofs.Lists.{set_else}
use Rattle.wire_base.specs.declared.note.Note.{Note}
use Rattle.pass_sums.specs.Share.{IsWhole, share_at}
use Rattle.pass_sums.specs.Weight.{weigh}
use Rattle.pass_sums.proofs.Each.{all_both, all_none, all_of, each_of, both_empty, none_together}
use Rattle.pass_sums.proofs.Shares.{whole_split, whole_join}
use Rattle.pass_sums.proofs.Views.{each_set, each_snoc, weigh-set, weigh-snoc}
use Rattle.pass_sums.proofs.Weights.{weigh-append}
use Rattle.settle_box.specs.declared.rule.Hand.{Hand}
use Rattle.settle_box.specs.declared.sender.Sender.{Sender}
use Rattle.settle_box.specs.declared.sender.Sent.{Sent}
use Rattle.settle_box.specs.Hand.{hand}
use Rattle.settle_box.specs.Rule.{IsOrderly, IsWithinRights, KnowsRest, splits_of}
use Rattle.settle_box.specs.Senders.{has_name}
use Rattle.settle_box.proofs.Orders.{Ordered, in_order_again}

abbrev all : List Hand → List Sender
all views = flat_map (λ (y : Hand). y.senders) views

-- the same senders, however they are spread over the passes
again : (items : List Note) (views after : List Hand) (rule : IsOrderly items views) → IsWhole (flat_map (λ (y : Hand). y.posts) after) → IsWhole (flat_map (λ (y : Hand). y.collects) after)
    → ((h : Sender → ℕ) → weigh h (all after) ≡ weigh h (all views)) → All (Ordered rule.got rule.held) (all after)
    → ((pass : ℕ) (v : Hand) → get_elem? after pass ≡ some v → IsWithinRights rule.got v)
    → ((pass : ℕ) (v : Hand) → get_elem? after pass ≡ some v → (rest : List Sent) → v.rest ≡ Some rest → KnowsRest rule.held v rest)
    → IsOrderly items after
again items views after rule posts collects same order rights rests = record {
  got = rule.got;
  held = rule.held;
  is = rule.is;
  posts = posts;
  collects = collects;
  in_order = in_order_again (all views) (all after) rule.got rule.held rule.in_order same order;
  born = λ number name there. omega (arith, same (splits_of name), rule.born number name (omega (arith, there, same (has_name (number ∷ name)))));
  unknown = λ name none. rule.unknown name (sym (same (has_name name)) ∙ none);
  kinds = rule.kinds;
  ranges = rule.ranges;
  rights = rights;
  rests = rests;
}

-- two views that make up one, neither of a closed box
record Parts (v l r : Hand) : Type 0 where
  posts : (scale : ℕ) → share_at scale l.posts + share_at scale r.posts ≡ share_at scale v.posts
  collects : (scale : ℕ) → share_at scale l.collects + share_at scale r.collects ≡ share_at scale v.collects
  senders : (h : Sender → ℕ) → weigh h l.senders + weigh h r.senders ≡ weigh h v.senders
  order : (got held : List Sent) → All (Ordered got held) v.senders → All (Ordered got held) l.senders × All (Ordered got held) r.senders
  rights : (got : List Sent) → IsWithinRights got v → IsWithinRights got l × IsWithinRights got r
  left_open : l.rest ≡ None
  right_open : r.rest ≡ None

splits : (pass : ℕ) (v l r : Hand) → Parts v l r → Forks IsOrderly pass v l r
splits pass v l r parts items views rule at =
    let after = set views pass l in
    let order = parts.order rule.got rule.held (each_of (Ordered rule.got rule.held) (λ (y : Hand). y.senders) views rule.in_order.order pass v at) in
    let rights = parts.rights rule.got (rule.rights pass v at) in
    again items views (after ++ r ∷ []) rule
    (whole_split (λ (y : Hand). y.posts) views pass v l r at 0 (λ scale _. parts.posts scale) rule.posts)
    (whole_split (λ (y : Hand). y.collects) views pass v l r at 0 (λ scale _. parts.collects scale) rule.collects)
    (λ h. omega (
      arith,
      weigh-snoc (λ (y : Hand). y.senders) h after r,
      weigh-set (λ (y : Hand). y.senders) h views pass v l at,
      parts.senders h,
    ))
    (all_of (Ordered rule.got rule.held) (λ (y : Hand). y.senders) (after ++ r ∷ [])
    (each_snoc (λ y. All (Ordered rule.got rule.held) y.senders) after r order.1
    (each_set (λ _ y. All (Ordered rule.got rule.held) y.senders) views pass l order.0
    (λ other u _ there. each_of (Ordered rule.got rule.held) (λ (y : Hand). y.senders) views rule.in_order.order other u there))))
    (each_snoc (IsWithinRights rule.got) after r rights.1
    (each_set (λ _ u. IsWithinRights rule.got u) views pass l rights.0 (λ other u _ there. rule.rights other u there)))
    (each_snoc (λ u. (rest : List Sent) → u.rest ≡ Some rest → KnowsRest rule.held u rest) after r
    (λ rest known. let no = parts.right_open in absurd cc)
    (each_set (λ _ u. (rest : List Sent) → u.rest ≡ Some rest → KnowsRest rule.held u rest) views pass l
    (λ rest known. let no = parts.left_open in absurd cc) (λ other u _ there. rule.rests other u there)))

no_rights : (got : List Sent) → IsWithinRights got (hand [] [] [] [] None)
no_rights got = record { senders = λ _. refl; none = λ _. refl; all = λ some. absurd (some refl) }

-- what concerns collecting
pub sides : (pass : ℕ) (v : Hand) → Forks IsOrderly pass v (hand v.posts [] v.senders [] None) (hand [] v.collects [] v.got None)
sides pass v = splits pass v _ _ (record {
  posts = λ scale. omega arith;
  collects = λ scale. omega arith;
  senders = λ h. omega arith;
  order = λ got held order. (order, all_none (Ordered got held));
  rights = λ got rights. (
    record { senders = rights.senders; none = λ _. refl; all = λ some. absurd (some refl) },
    record { senders = λ _. refl; none = rights.none; all = rights.all },
  );
  left_open = refl;
  right_open = refl;
})

-- all of it
pub moves_out : (pass : ℕ) (v : Hand) → Forks IsOrderly pass v (hand [] [] [] [] None) (hand v.posts v.collects v.senders v.got None)
moves_out pass v = splits pass v _ _ (record {
  posts = λ scale. omega arith;
  collects = λ scale. omega arith;
  senders = λ h. omega arith;
  order = λ got held order. (all_none (Ordered got held), order);
  rights = λ got rights. (no_rights got, record { senders = rights.senders; none = rights.none; all = rights.all });
  left_open = refl;
  right_open = refl;
})

abbrev pub together : Hand → Hand → Hand
together v u = hand (v.posts ++ u.posts) (v.collects ++ u.collects) (v.senders ++ u.senders) (v.got ++ u.got) None

abbrev pub spent : Hand
spent = hand [] [] [] [] None

rights_together : (got : List Sent) (v u : Hand) → v.collects ≡ [] → IsWithinRights got v → IsWithinRights got u → IsWithinRights got (together v u)
rights_together got v u posting mine theirs =
    let nothing = mine.none posting in record {
      senders = λ none.
          let parts = both_empty v.posts u.posts none in
          none_together v.senders u.senders (mine.senders parts.0) (theirs.senders parts.1);
      none = λ none. none_together v.got u.got nothing (theirs.none (both_empty v.collects u.collects none).1);
      all = λ some. ap (λ (all : List Sent). all ++ u.got) nothing ∙ theirs.all (λ none. some (none_together v.collects u.collects posting none));
    }

-- a join of a pass that does not collect with another
pub joins : (pass : ℕ) (v : Hand) (other : ℕ) (u : Hand) → v.collects ≡ [] → Merges IsOrderly pass v other u (together v u) spent
joins pass v other u posting items views rule at apart there =
    let both = together v u in
    let middle = set views pass both in
    let after = set middle other spent in
    let was : get_elem? views other ≡ some u = sym (set_else views pass other both apart) ∙ there in
    let order = λ (k : ℕ) (y : Hand) (found : get_elem? views k ≡ some y). each_of (Ordered rule.got rule.held) (λ (y : Hand). y.senders) views rule.in_order.order k y found in
    again items views after rule
    (whole_join (λ (y : Hand). y.posts) views pass other v u both spent at there refl refl rule.posts)
    (whole_join (λ (y : Hand). y.collects) views pass other v u both spent at there refl refl rule.collects)
    (λ h. omega (
      arith,
      weigh-set (λ (y : Hand). y.senders) h views pass v both at,
      weigh-set (λ (y : Hand). y.senders) h middle other u spent there,
      weigh-append h v.senders u.senders,
    ))
    (all_of (Ordered rule.got rule.held) (λ (y : Hand). y.senders) after
    (each_set (λ _ y. All (Ordered rule.got rule.held) y.senders) middle other spent (all_none (Ordered rule.got rule.held))
    (λ k y _. each_set (λ _ y. All (Ordered rule.got rule.held) y.senders) views pass both
    (all_both (Ordered rule.got rule.held) v.senders u.senders (order pass v at) (order other u was)) (λ k y _. order k y) k y)))
    (each_set (λ _ y. IsWithinRights rule.got y) middle other spent (no_rights rule.got)
    (λ k y _. each_set (λ _ y. IsWithinRights rule.got y) views pass both
    (rights_together rule.got v u posting (rule.rights pass v at) (rule.rights other u was)) (λ k y _. rule.rights k y) k y))
    (each_set (λ _ y. (rest : List Sent) → y.rest ≡ Some rest → KnowsRest rule.held y rest) middle other spent (λ rest known. absurd cc)
    (λ k y _. each_set (λ _ y. (rest : List Sent) → y.rest ≡ Some rest → KnowsRest rule.held y rest) views pass both (λ rest known. absurd cc) (λ k y _. rule.rests k y) k y))
