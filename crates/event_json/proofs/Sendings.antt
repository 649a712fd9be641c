-- Sending a list or a map member by member sends the whole.
use Rattle.std.proofs.Common.{◌≡◌, ℕ, ◌+◌, ◌≤◌, List, [], ◌∷◌, length, drop, Some, sym, ap, ◌∙◌, subst}
use Rattle.std.specs.Prelude.{slice_get}
use Rattle.std.proofs.lemmas.List.{drop_more, drop_all}
use Rattle.std.proofs.lemmas.Option.{slice_get_within, get_or_from_slice_get}
use Rattle.serde.specs.Event.{Log, Logs, field_key}
use Rattle.serde.specs.declared.name.Case.TheVariants.{AsIs}
use Rattle.serde_json.specs.Events.{SendsValue, SendsItems, SendsMembers}
use Rattle.event_tree.specs.Value.{TreeValue, FieldList, as_values, as_members}
use Rattle.event_json.specs.Data.{data_of, items_of, members_of}

-- what is left of a list at a place
abbrev rest_at : {A : Type 0} (xs : List A) (i : ℕ) (x : A) → slice_get xs i ≡ Some x → drop i xs ≡ x ∷ drop (i + 1) xs
rest_at xs i x at = drop_more xs i x (slice_get_within xs i x at) ∙ ap (λ y. y ∷ drop (i + 1) xs) (get_or_from_slice_get xs i x x at)

pub item_sent : (vs : List TreeValue) (i : ℕ) (v : TreeValue) (old new end : Log) → slice_get vs i ≡ Some v → SendsValue (data_of v) old new
    → SendsItems (items_of (as_values (drop (i + 1) vs))) new end → SendsItems (items_of (as_values (drop i vs))) old end
item_sent vs i v old new end at sent more =
    subst (λ ws. SendsItems (items_of (as_values ws)) old end) (sym (rest_at vs i v at)) (new, sent, more)

pub all_items_sent : (vs : List TreeValue) (i : ℕ) (old end : Log) → length vs ≤ i → SendsItems (items_of (as_values [])) old end → SendsItems (items_of (as_values (drop i vs))) old end
all_items_sent vs i old end past ended = subst (λ ws. SendsItems (items_of (as_values ws)) old end) (sym (drop_all i vs past)) ended

pub member_sent : (ps : FieldList) (i : ℕ) (key : List ℕ) (v : TreeValue) (old named new end : Log) → slice_get ps i ≡ Some (key, v)
    → Logs old named (field_key key AsIs) → SendsValue (data_of v) named new
    → SendsMembers (members_of (as_members (drop (i + 1) ps))) new end → SendsMembers (members_of (as_members (drop i ps))) old end
member_sent ps i key v old named new end at name sent more =
    subst (λ qs. SendsMembers (members_of (as_members qs)) old end) (sym (rest_at ps i (key, v) at)) (named, new, name, sent, more)

pub all_members_sent : (ps : FieldList) (i : ℕ) (old end : Log) → length ps ≤ i → SendsMembers (members_of (as_members [])) old end → SendsMembers (members_of (as_members (drop i ps))) old end
all_members_sent ps i old end past ended = subst (λ qs. SendsMembers (members_of (as_members qs)) old end) (sym (drop_all i ps past)) ended
