-- The members of a list or a table: how many there are, and that there is one.
use Rattle.std.proofs.Common.{◌≡◌, ℕ, suc, ◌<◌, List, [], ◌∷◌, length, refl, ap, arith}
use Rattle.toml.proofs.Views.{Entry}
use Rattle.toml.specs.declared.value.Value.{Value}
use Rattle.toml.specs.View.{items_view, members_view}
use Rattle.beat_config.specs.Pairs.{some_item_findings, some_member_findings}
use Rattle.beat_config.specs.Text.{item_count}

pub count_of_view : (values : List Value) → item_count (items_view values) ≡ length values
count_of_view [] = refl
count_of_view (value ∷ values) = ap (λ n. suc n) (count_of_view values)

pub some_items : (key : List ℕ) (values : List Value) → 0 < length values → some_item_findings key (items_view values) ≡ []
some_items key [] some = absurd (omega arith)
some_items key (value ∷ values) some = refl

pub some_entries : (key : List ℕ) (entries : List Entry) → 0 < length entries → some_member_findings key (members_view entries) ≡ []
some_entries key [] some = absurd (omega arith)
some_entries key (entry ∷ entries) some = refl
