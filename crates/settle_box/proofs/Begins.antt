-- The rule of an empty box, whose one pass knows nothing yet.
use Rattle.std.proofs.Common.{◌≡◌, ℕ, zero, suc, ◌≤◌, List, [], ◌∷◌, Some, None, refl, sym, subst, arith}
use mathlib.Core.Option.{some, some-injective, some-ne-none}
use lib.ListN.{get_elem?}
use Rattle.wire_base.specs.Ranges.{IsNote}
use Rattle.pass_sums.specs.Weight.{weigh}
use Rattle.pass_sums.proofs.Each.{all_cons, all_none}
use Rattle.pass_sums.proofs.Shares.{begins_whole}
use Rattle.settle_box.specs.declared.rule.Hand.{Hand}
use Rattle.settle_box.specs.declared.sender.Sender.{Sender}
use Rattle.settle_box.specs.declared.sender.Sent.{Sent}
use Rattle.settle_box.specs.Hand.{hand}
use Rattle.settle_box.specs.Notes.{IsPostable}
use Rattle.settle_box.specs.Rule.{IsOrderly, IsWithinRights, KnowsRest}
use Rattle.settle_box.specs.Senders.{has_name, sender}
use Rattle.settle_box.proofs.Orders.{Ordered}

abbrev root : Sender
root = sender [] 0 []

abbrev newcomer : Hand
newcomer = hand (0 ∷ []) (0 ∷ []) (root ∷ []) [] None

one_name : (name : List ℕ) → weigh (has_name name) (root ∷ []) ≤ 1
one_name [] = omega arith
one_name (x ∷ name) = omega arith

only : (F : Hand → Type 0) → F newcomer → (pass : ℕ) (v : Hand) → get_elem? (newcomer ∷ []) pass ≡ some v → F v
only F here zero v at = subst F (some-injective newcomer v at) here
only F here (suc pass) v at = absurd (some-ne-none v (sym at))

pub begins : IsOrderly [] (newcomer ∷ [])
begins = record {
  got = [];
  held = [];
  is = refl;
  posts = begins_whole;
  collects = begins_whole;
  in_order = record {
    order = all_cons (Ordered [] []) root [] refl (all_none (Ordered [] []));
    all = λ h. refl;
    once = one_name;
  };
  born = λ number name given. absurd (omega arith);
  unknown = λ name _. (refl, refl);
  kinds = all_none IsPostable;
  ranges = all_none IsNote;
  rights = only (IsWithinRights []) (record { senders = λ none. absurd cc; none = λ none. absurd cc; all = λ _. refl });
  rests = only (λ v. (rest : List Sent) → v.rest ≡ Some rest → KnowsRest [] v rest) (λ rest known. absurd cc);
}
