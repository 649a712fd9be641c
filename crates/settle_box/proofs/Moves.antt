-- Each step of the box keeps the rule: entries and exits.
use Rattle.std.proofs.Common.{◌≡◌, ◌≢◌, ℕ, ◌+◌, ◌<◌, ◌≤◌, List, [], ◌∷◌, ◌++◌, set, All, Option, Some, None, refl, sym, ap, ◌∙◌, subst, arith}
use Rattle.std.specs.List.{flat_map}
use mathlib.Core.Option.{some}
use lib.ListN.{get_elem?}
use Rattle.crossbeam_queue.specs.Fifo.{Pushes, Pops, Learns}
use Rattle.wire_base.specs.declared.note.Note.{Note}
use Rattle.wire_base.specs.Ranges.{IsNote}
use Rattle.pass_sums.specs.Share.{IsWhole}
use Rattle.pass_sums.specs.Weight.{weigh}
use Rattle.pass_sums.proofs.Each.{all_both, all_cons, all_none, all_head, all_tail, all_of, each_of, flat_map_set, both_empty}
use Rattle.pass_sums.proofs.Shares.{others_have_none, whole_is_some, whole_set}
use Rattle.pass_sums.proofs.Views.{each_set, weigh-one, weigh-only, weigh-set, weigh-two}
use Rattle.pass_sums.proofs.Weights.{weigh-append, weigh-flat_map}
use Rattle.settle_box.specs.declared.rule.Hand.{Hand}
use Rattle.settle_box.specs.declared.sender.Sender.{Sender}
use Rattle.settle_box.specs.declared.sender.Sent.{Sent}
use Rattle.settle_box.specs.Hand.{hand, first_of, others_of}
use Rattle.settle_box.specs.InOrder.{IsInOrder}
use Rattle.settle_box.specs.Notes.{IsPostable}
use Rattle.settle_box.specs.Rule.{IsOrderly, IsWithinRights, IsAllowed, KnowsRest, HoldsInOrder, splits_of}
use Rattle.settle_box.specs.Senders.{sent, notes, notes_of, has_name, with_note}
use Rattle.settle_box.specs.Steps.{PostsBehind, CollectsFirst, EndsAt, HoldsBehind, DrainsNext}
use Rattle.settle_box.proofs.Names.{has_own_name, has_name-none, notes-append}
use Rattle.settle_box.proofs.Orders.{Ordered, all_beside, in_order_over, notes_of-over, ordered_with_note, unsent_under}

module _ (items : List Note) (views : List Hand) (rule : IsOrderly items views) (pass : ℕ) (v : Hand) (at : get_elem? views pass ≡ some v) where
  -- while another pass has a part of a right, nobody knows a closed box's rest
  no_rest_beside_posts : v.posts ≢ [] → (other : ℕ) (u : Hand) (rest : List Sent) → other ≢ pass → get_elem? views other ≡ some u → u.rest ≡ Some rest → ⊥
  no_rest_beside_posts may other u rest apart there knows =
      may (others_have_none (λ (y : Hand). y.posts) views other pass u v rule.posts there (rule.rests other u there rest knows).posts at (λ same. apart (sym same)))

  no_rest_beside_collects : v.collects ≢ [] → (other : ℕ) (u : Hand) (rest : List Sent) → other ≢ pass → get_elem? views other ≡ some u → u.rest ≡ Some rest → ⊥
  no_rest_beside_collects may other u rest apart there knows =
      may (others_have_none (λ (y : Hand). y.collects) views other pass u v rule.collects there (rule.rests other u there rest knows).collects at (λ same. apart (sym same)))

  -- who has the whole of both rights knows all that was posted and collected
  pub all_is_known : IsWhole v.posts → IsWhole v.collects → IsInOrder v.senders v.got rule.held
  all_is_known posts collects =
      let mine = (rule.rights pass v at).all (whole_is_some v.collects collects) in
      let only : (h : Sender → ℕ) → weigh h (flat_map (λ (y : Hand). y.senders) views) ≡ weigh h v.senders = λ h.
      weigh-only (λ (y : Hand). y.senders) h views pass v at (λ other u there apart.
      (rule.rights other u there).senders (others_have_none (λ (y : Hand). y.posts) views pass other v u rule.posts at posts there apart)) in
      subst (λ (got : List Sent). IsInOrder v.senders got rule.held) (sym mine) (record {
        order = each_of (Ordered rule.got rule.held) (λ (y : Hand). y.senders) views rule.in_order.order pass v at;
        all = λ h.
            weigh-flat_map h (λ (s : Sender). s.posted) v.senders ∙ sym (only (λ s. weigh h s.posted))
            ∙ sym (weigh-flat_map h (λ (s : Sender). s.posted) (flat_map (λ (y : Hand). y.senders) views)) ∙ rule.in_order.all h;
        once = λ name. subst (λ (n : ℕ). n ≤ 1) (only (has_name name)) (rule.in_order.once name);
      })

-- a post
pub posts : (n pass : ℕ) (v : Hand) (x : Note) → v.posts ≢ [] → v.senders ≡ first_of v.senders ∷ others_of v.senders
    → IsPostable x → IsNote x → Pushes IsOrderly n pass v x (PostsBehind v x)
posts n pass v x may named kind range items views room rule at =
    let s = first_of v.senders in
    let os = others_of v.senders in
    let w = hand v.posts v.collects (with_note s x ∷ os) v.got None in
    let t = sent s.name x in
    let after = set views pass w in
    let all = λ (ys : List Hand). flat_map (λ (y : Hand). y.senders) ys in
    let own = has_own_name s in
    let Before : Sender → Type 0 = Ordered rule.got rule.held in
    let After : Sender → Type 0 = Ordered rule.got (rule.held ++ t ∷ []) in
    let sums : (h : Sender → ℕ) → weigh h (all after) + (h s + weigh h os) ≡ weigh h (all views) + (h (with_note s x) + weigh h os) = λ h.
    omega (arith, weigh-set (λ (y : Hand). y.senders) h views pass v w at, ap (weigh h) named) in
    let mine : weigh (has_name s.name) v.senders ≡ 1 + weigh (has_name s.name) os = omega (arith, ap (weigh (has_name s.name)) named) in
    let alone : weigh (has_name s.name) os ≡ 0 =
    omega (arith, rule.in_order.once s.name, weigh-one (λ (y : Hand). y.senders) (has_name s.name) views pass v at) in
    let ordered : All Before (s ∷ os) =
    subst (All Before) named (each_of Before (λ (y : Hand). y.senders) views rule.in_order.order pass v at) in (
      w,
      record {
        got = rule.got;
        held = rule.held ++ t ∷ [];
        is = notes-append rule.held (t ∷ []) ∙ ap (λ (ns : List Note). ns ++ x ∷ []) rule.is;
        posts = whole_set (λ (y : Hand). y.posts) views pass v w at refl rule.posts;
        collects = whole_set (λ (y : Hand). y.collects) views pass v w at refl rule.collects;
        in_order = record {
          order = all_of After (λ (y : Hand). y.senders) after
              (each_set (λ _ y. All After y.senders) views pass w
              (all_cons After (with_note s x) os (ordered_with_note rule.got rule.held s x (all_head Before s os ordered)) (all_beside rule.got rule.held s x os alone (all_tail Before s os ordered)))
              (λ other u apart there. all_beside rule.got rule.held s x u.senders
              (omega (arith, rule.in_order.once s.name, weigh-two (λ (y : Hand). y.senders) (has_name s.name) views pass other v u at there apart))
              (each_of Before (λ (y : Hand). y.senders) views rule.in_order.order other u there)));
          all = λ h. omega (
            arith,
            weigh-flat_map h (λ (y : Sender). y.posted) (all after),
            weigh-flat_map h (λ (y : Sender). y.posted) (all views),
            sums (λ y. weigh h y.posted),
            weigh-append h s.posted (x ∷ []),
            rule.in_order.all h,
            weigh-append h (notes rule.got) (notes (rule.held ++ t ∷ [])),
            weigh-append h (notes rule.got) (notes rule.held),
            ap (weigh h) (notes-append rule.held (t ∷ [])),
            weigh-append h (notes rule.held) (x ∷ []),
          );
          once = λ name. omega (arith, rule.in_order.once name, sums (has_name name));
        };
        born = λ number name some. omega (
          arith,
          rule.born number name (omega (arith, some, sums (has_name (number ∷ name)))),
          sums (splits_of name),
        );
        unknown = λ name none.
            let before = rule.unknown name (omega (arith, none, sums (has_name name))) in
            let other : has_name name s ≡ 0 = omega (arith, none, sums (has_name name), weigh-set (λ (y : Hand). y.senders) (has_name name) views pass v w at, ap (weigh (has_name name)) named, weigh-one (λ (y : Hand). y.senders) (has_name name) views pass v at) in
            (before.0, unsent_under name rule.held t (has_name-none name s other) ∙ before.1);
        kinds = all_both IsPostable items (x ∷ []) rule.kinds (all_cons IsPostable x [] kind (all_none IsPostable));
        ranges = all_both IsNote items (x ∷ []) rule.ranges (all_cons IsNote x [] range (all_none IsNote));
        rights = each_set (λ _ u. IsWithinRights rule.got u) views pass w
            (record { senders = λ none. absurd (may none); none = (rule.rights pass v at).none; all = (rule.rights pass v at).all }) (λ other u _ there. rule.rights other u there);
        rests = each_set (λ _ u. (rest : List Sent) → u.rest ≡ Some rest → KnowsRest (rule.held ++ t ∷ []) u rest) views pass w
            (λ rest knows. absurd cc)
            (λ other u apart there rest knows. absurd (no_rest_beside_posts items views rule pass v at may other u rest apart there knows));
      },
      refl,
    )

-- the note that leaves is that of the first that is held
held_cons : (held : List Sent) (x : Note) (items : List Note) → notes held ≡ x ∷ items → (t : Sent) × (rest : List Sent) × (held ≡ t ∷ rest) × (t.note ≡ x) × (notes rest ≡ items)
held_cons [] x items is = absurd cc
held_cons (t ∷ rest) x items is = (t, rest, refl, cc, cc)

-- an exit: the first note becomes one of those that were collected, and what its pass knows of the rest may change
module _ (x : Note) (items : List Note) (views : List Hand) (rule : IsOrderly (x ∷ items) views) (pass : ℕ) (v : Hand) (at : get_elem? views pass ≡ some v) (whole : IsWhole v.collects) where
  parts : (t : Sent) × (rest : List Sent) × (rule.held ≡ t ∷ rest) × (t.note ≡ x) × (notes rest ≡ items)
  parts = held_cons rule.held x items rule.is

  abbrev after_exit : Option (List Sent) → Hand
  after_exit last = hand v.posts v.collects v.senders (v.got ++ parts.0 ∷ []) last

  leaves : (last : Option (List Sent)) → ((rest : List Sent) → last ≡ Some rest → KnowsRest parts.1 (after_exit last) rest) → IsOrderly items (set views pass (after_exit last))
  leaves last knows =
      let w = after_exit last in
      let all = λ (ys : List Hand). flat_map (λ (y : Hand). y.senders) ys in
      let same : all (set views pass w) ≡ all views = flat_map_set (λ (y : Hand). y.senders) views pass v w at refl in
      let some : v.collects ≢ [] = whole_is_some v.collects whole in record {
        got = rule.got ++ parts.0 ∷ [];
        held = parts.1;
        is = parts.4;
        posts = whole_set (λ (y : Hand). y.posts) views pass v w at refl rule.posts;
        collects = whole_set (λ (y : Hand). y.collects) views pass v w at refl rule.collects;
        in_order = subst (λ (ss : List Sender). IsInOrder ss (rule.got ++ parts.0 ∷ []) parts.1) (sym same)
            (in_order_over (all views) rule.got parts.1 parts.0 (subst (IsInOrder (all views) rule.got) parts.2 rule.in_order));
        born = λ number name there. subst (λ (ss : List Sender). number < weigh (splits_of name) ss) (sym same)
            (rule.born number name (subst (λ (ss : List Sender). 0 < weigh (has_name (number ∷ name)) ss) same there));
        unknown = λ name none.
            let before = rule.unknown name (ap (weigh (has_name name)) (sym same) ∙ none) in
            both_empty (notes_of name (rule.got ++ parts.0 ∷ [])) (notes_of name parts.1)
            (notes_of-over name rule.got parts.1 parts.0
            ∙ ap (λ (held : List Sent). notes_of name rule.got ++ notes_of name held) (sym parts.2)
            ∙ ap (λ (ns : List Note). ns ++ notes_of name rule.held) before.0
            ∙ before.1);
        kinds = all_tail IsPostable x items rule.kinds;
        ranges = all_tail IsNote x items rule.ranges;
        rights = each_set (λ _ u. IsWithinRights (rule.got ++ parts.0 ∷ []) u) views pass w
            (record {
              senders = (rule.rights pass v at).senders;
              none = λ none. absurd (some none);
              all = λ _. ap (λ (got : List Sent). got ++ parts.0 ∷ []) ((rule.rights pass v at).all some);
            })
            (λ other u apart there.
            let none = others_have_none (λ (y : Hand). y.collects) views pass other v u rule.collects at whole there apart in record {
              senders = (rule.rights other u there).senders;
              none = (rule.rights other u there).none;
              all = λ some. absurd (some none);
            });
        rests = each_set (λ _ u. (rest : List Sent) → u.rest ≡ Some rest → KnowsRest parts.1 u rest) views pass w knows
            (λ other u apart there rest known. absurd (no_rest_beside_collects (x ∷ items) views rule pass v at some other u rest apart there known));
      }

-- a collect
pub collects : (pass : ℕ) (v : Hand) → IsWhole v.collects → Pops IsOrderly pass v (CollectsFirst v)
collects pass v whole x items views rule at =
    let found = parts x items views rule pass v at whole in (
      after_exit x items views rule pass v at whole None,
      leaves x items views rule pass v at whole None (λ rest known. absurd cc),
      record {
        from = found.0.from;
        kind = all_head IsPostable x items rule.kinds;
        range = all_head IsNote x items rule.ranges;
        is = ap (λ (note : Note). hand v.posts v.collects v.senders (v.got ++ sent found.0.from note ∷ []) None) found.3;
      },
    )

-- the first collect of a closed box
pub ends : (pass : ℕ) (v : Hand) → IsWhole v.posts → IsWhole v.collects → Pops IsOrderly pass v (EndsAt v)
ends pass v all whole x items views rule at =
    let found = parts x items views rule pass v at whole in
    let left : notes (found.0 ∷ found.1) ≡ x ∷ items = ap notes (sym found.2) ∙ rule.is in (
      after_exit x items views rule pass v at whole (Some (found.0 ∷ found.1)),
      leaves x items views rule pass v at whole (Some (found.0 ∷ found.1)) (λ rest known. record { posts = all; collects = whole; ahead = found.0; is = cc }),
      record {
        ahead = found.0;
        rest = found.1;
        first = found.3;
        in_order = subst (IsInOrder v.senders v.got) found.2 (all_is_known (x ∷ items) views rule pass v at all whole);
        kinds = subst (All IsPostable) (sym left) rule.kinds;
        ranges = subst (All IsNote) (sym left) rule.ranges;
        is = refl;
      },
    )

-- a later collect of a closed box
pub drains : (pass : ℕ) (v : Hand) (rest : List Sent) → v.rest ≡ Some rest → Pops IsOrderly pass v (DrainsNext v)
drains pass v rest known x items views rule at =
    let knows = rule.rests pass v at rest known in
    let found = parts x items views rule pass v at knows.collects in (
      after_exit x items views rule pass v at knows.collects (Some (found.0 ∷ found.1)),
      leaves x items views rule pass v at knows.collects (Some (found.0 ∷ found.1))
          (λ last same. record { posts = knows.posts; collects = knows.collects; ahead = found.0; is = cc }),
      record {
        ahead = knows.ahead;
        next = found.0;
        rest = found.1;
        first = found.3;
        was = known ∙ ap Some (knows.is ∙ ap (λ (held : List Sent). knows.ahead ∷ held) found.2);
        is = refl;
      },
    )

-- what the rule tells of the box, to any pass
pub allows : (pass : ℕ) (v : Hand) → Learns IsOrderly pass v (IsAllowed v)
allows pass v items views rule at = record { pass = pass; views = views; rule = rule; knows = at }

-- what it tells to the only pass
pub totals : (pass : ℕ) (v : Hand) → IsWhole v.posts → IsWhole v.collects → Learns IsOrderly pass v (HoldsInOrder v)
totals pass v all whole items views rule at = (rule.held, rule.is, all_is_known items views rule pass v at all whole)

-- what it tells to the pass of a closed box
pub shows_rest : (pass : ℕ) (v : Hand) (rest : List Sent) → v.rest ≡ Some rest → Learns IsOrderly pass v (HoldsBehind v)
shows_rest pass v rest known items views rule at =
    let knows = rule.rests pass v at rest known in
    record { ahead = knows.ahead; rest = rule.held; is = known ∙ ap Some knows.is; behind = rule.is }
