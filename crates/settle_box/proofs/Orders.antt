-- Senders, and the order of what was sent under their names.
use Rattle.std.proofs.Common.{◌≡◌, ℕ, ◌≤◌, Bool, false, if◌then◌else◌, List, [], ◌∷◌, ◌++◌, All, sym, ap, ◌∙◌, subst, append_assoc}
use Rattle.std.proofs.lemmas.List.{append-nil}
use Rattle.wire_base.specs.declared.note.Note.{Note}
use Rattle.pass_sums.specs.Weight.{weigh}
use Rattle.pass_sums.proofs.Each.{all_then, all_then_both}
use Rattle.pass_sums.proofs.Weights.{weigh-flat_map, weightless}
use Rattle.settle_box.specs.declared.sender.Sender.{Sender}
use Rattle.settle_box.specs.declared.sender.Sent.{Sent}
use Rattle.settle_box.specs.InOrder.{IsInOrder}
use Rattle.settle_box.specs.Senders.{sent, same_name, notes, notes_of, has_name, with_note}
use Rattle.settle_box.proofs.Names.{same_name-same, other_name, notes_of-append, notes-append}

-- what was sent under the sender's name is what it posted
abbrev pub Ordered : List Sent → List Sent → Sender → Type 0
Ordered got held s = notes_of s.name got ++ notes_of s.name held ≡ s.posted

-- one more note of its own
pub ordered_with_note : (got held : List Sent) (s : Sender) (note : Note) → Ordered got held s → Ordered got (held ++ sent s.name note ∷ []) (with_note s note)
ordered_with_note got held s note order =
    let here : notes_of s.name (sent s.name note ∷ []) ≡ note ∷ [] = ap (λ (b : Bool). if b then note ∷ [] else []) (same_name-same s.name) in
    let behind : notes_of s.name (held ++ sent s.name note ∷ []) ≡ notes_of s.name held ++ note ∷ [] =
    notes_of-append s.name held (sent s.name note ∷ []) ∙ ap (λ (ns : List Note). notes_of s.name held ++ ns) here in
    ap (λ (ns : List Note). notes_of s.name got ++ ns) behind
    ∙ sym (append_assoc (notes_of s.name got) (notes_of s.name held) (note ∷ []))
    ∙ ap (λ (ns : List Note). ns ++ note ∷ []) order

-- one more note under another name
pub unsent_under : (name : List ℕ) (held : List Sent) (t : Sent) → same_name name t.from ≡ false → notes_of name (held ++ t ∷ []) ≡ notes_of name held
unsent_under name held t other =
    notes_of-append name held (t ∷ [])
    ∙ ap (λ (b : Bool). notes_of name held ++ (if b then t.note ∷ [] else [])) other
    ∙ append-nil (notes_of name held)

pub ordered_beside : (got held : List Sent) (s : Sender) (note : Note) (o : Sender) → has_name s.name o ≡ 0 → Ordered got held o → Ordered got (held ++ sent s.name note ∷ []) o
ordered_beside got held s note o other order =
    ap (λ (ns : List Note). notes_of o.name got ++ ns) (unsent_under o.name held (sent s.name note) (other_name s.name o other)) ∙ order

pub all_beside : (got held : List Sent) (s : Sender) (note : Note) (os : List Sender) → weigh (has_name s.name) os ≡ 0
    → All (Ordered got held) os → All (Ordered got (held ++ sent s.name note ∷ [])) os
all_beside got held s note os others all =
    all_then_both (λ o. has_name s.name o ≡ 0) (Ordered got held) (Ordered got (held ++ sent s.name note ∷ [])) os
    (λ o. ordered_beside got held s note o) (weightless (has_name s.name) os others) all

-- a note goes over from what the box holds to what was collected
pub notes_of-over : (name : List ℕ) (got rest : List Sent) (t : Sent) → notes_of name (got ++ t ∷ []) ++ notes_of name rest ≡ notes_of name got ++ notes_of name (t ∷ rest)
notes_of-over name got rest t =
    ap (λ (ns : List Note). ns ++ notes_of name rest) (notes_of-append name got (t ∷ []))
    ∙ append_assoc (notes_of name got) (notes_of name (t ∷ [])) (notes_of name rest)
    ∙ ap (λ (ns : List Note). notes_of name got ++ ns) (sym (notes_of-append name (t ∷ []) rest))

pub notes-over : (got rest : List Sent) (t : Sent) → notes (got ++ t ∷ []) ++ notes rest ≡ notes got ++ notes (t ∷ rest)
notes-over got rest t =
    ap (λ (ns : List Note). ns ++ notes rest) (notes-append got (t ∷ [])) ∙ append_assoc (notes got) (notes (t ∷ [])) (notes rest)

pub in_order_over : (senders : List Sender) (got rest : List Sent) (t : Sent) → IsInOrder senders got (t ∷ rest) → IsInOrder senders (got ++ t ∷ []) rest
in_order_over senders got rest t is = record {
  order = all_then (Ordered got (t ∷ rest)) (Ordered (got ++ t ∷ []) rest) senders (λ s order. notes_of-over s.name got rest t ∙ order) is.order;
  all = λ h. is.all h ∙ ap (weigh h) (sym (notes-over got rest t));
  once = is.once;
}

-- the same senders in another order
pub in_order_again : (before after : List Sender) (got held : List Sent) → IsInOrder before got held
    → ((h : Sender → ℕ) → weigh h after ≡ weigh h before) → All (Ordered got held) after → IsInOrder after got held
in_order_again before after got held is same order = record {
  order = order;
  all = λ h. weigh-flat_map h (λ (s : Sender). s.posted) after ∙ same (λ s. weigh h s.posted) ∙ sym (weigh-flat_map h (λ (s : Sender). s.posted) before) ∙ is.all h;
  once = λ name. subst (λ (n : ℕ). n ≤ 1) (sym (same (has_name name))) (is.once name);
}
