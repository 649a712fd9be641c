-- Faults that are noted one after another leave the first of them.
use Rattle.std.proofs.Common.{◌≡◌, true, false, List, [], ◌∷◌, ◌++◌, Some, None, Ordering, Less, Equal, Greater, refl, sym, ap, ◌∙◌, subst, inl, inr, append_assoc}
use Rattle.std.specs.Cmp.{IsTotalOrder}
use Rattle.std.specs.List.{AllByRecursion}
use Rattle.std.specs.Ordering.{is_lt, ordering_reverse}
use Rattle.std.proofs.lemmas.Bool.{cases_Bool, false≢true}
use Rattle.std.proofs.lemmas.List.{append-nil}
use Rattle.std.proofs.lemmas.Cmp.{nat_cmp_total, nat_list_cmp_total, then_total, on_total}
use Rattle.beat_config.specs.declared.settings_error.SettingsError.{SettingsError}
use Rattle.beat_config.specs.Finding.{rank, key_of, order, comes_before, earlier_of, note, note_all, IsFirst}

order_total : IsTotalOrder order
order_total = then_total (on_total rank nat_cmp_total) (on_total key_of nat_list_cmp_total)

less_of : (r : Ordering) → is_lt r ≡ true → r ≡ Less
less_of Less h = refl
less_of Equal h = absurd (false≢true h)
less_of Greater h = absurd (false≢true h)

-- what comes before a fault comes before each that does not come before that fault
through : (r : Ordering) (e f o : SettingsError) → order o f ≡ r → is_lt r ≡ false → order e f ≡ Less → order e o ≡ Less
through Less e f o at h less = absurd (false≢true (sym h))
through Equal e f o at h less =
    order_total.antisymm e o ∙ ap ordering_reverse (order_total.congr o f e at) ∙ sym (order_total.antisymm e f) ∙ less
through Greater e f o at h less = order_total.trans e f o less (order_total.antisymm f o ∙ ap ordering_reverse at)

before : SettingsError → SettingsError → Type 0
before e o = comes_before e o ≡ true

not_before : SettingsError → SettingsError → Type 0
not_before e o = comes_before o e ≡ false

pass : (e f o : SettingsError) → comes_before e f ≡ true → comes_before o f ≡ false → comes_before e o ≡ true
pass e f o less other = ap is_lt (through (order o f) e f o refl other (less_of (order e f) less))

chain : (e f o : SettingsError) → comes_before e f ≡ true → comes_before f o ≡ true → comes_before e o ≡ true
chain e f o first second = ap is_lt (order_total.trans e f o (less_of (order e f) first) (less_of (order f o) second))

all_append : (P : SettingsError → Type 0) (xs ys : List SettingsError) → AllByRecursion P xs → AllByRecursion P ys → AllByRecursion P (xs ++ ys)
all_append P [] ys h k = k
all_append P (x ∷ xs) ys h k = (h.0, all_append P xs ys h.1 k)

all_chain : (e f : SettingsError) (xs : List SettingsError) → comes_before e f ≡ true
    → AllByRecursion (λ o. comes_before f o ≡ true) xs → AllByRecursion (λ o. comes_before e o ≡ true) xs
all_chain e f [] less h = tt
all_chain e f (x ∷ xs) less h = (chain e f x less h.0, all_chain e f xs less h.1)

all_pass : (e f : SettingsError) (xs : List SettingsError) → comes_before e f ≡ true
    → AllByRecursion (λ o. comes_before o f ≡ false) xs → AllByRecursion (λ o. comes_before e o ≡ true) xs
all_pass e f [] less h = tt
all_pass e f (x ∷ xs) less h = (pass e f x less h.0, all_pass e f xs less h.1)

before_all : (e f : SettingsError) (xs : List SettingsError) → IsFirst xs f → comes_before e f ≡ true → AllByRecursion (λ o. comes_before e o ≡ true) xs
before_all e f xs h less =
    subst (λ zs. AllByRecursion (λ o. comes_before e o ≡ true) zs) (sym h.among)
    (all_append (λ o. comes_before e o ≡ true) h.earlier (f ∷ h.later) (all_chain e f h.earlier less h.before_earlier) (less, all_pass e f h.later less h.before_later))

-- one fault more
step : (xs : List SettingsError) (f e : SettingsError) → IsFirst xs f → IsFirst (xs ++ e ∷ []) (earlier_of (Some f) e)
step xs f e h = elim (cases_Bool (comes_before e f)) [
  | inl less ↦ rw less (record { earlier = xs; later = []; among = refl; before_earlier = before_all e f xs h less; before_later = tt })
  | inr other ↦ rw other (record {
    earlier = h.earlier;
    later = h.later ++ e ∷ [];
    among = ap (λ zs. zs ++ e ∷ []) h.among ∙ append_assoc h.earlier (f ∷ h.later) (e ∷ []);
    before_earlier = h.before_earlier;
    before_later = all_append (λ o. comes_before o f ≡ false) h.later (e ∷ []) h.before_later (other, tt);
  })
]

later_none : (f : SettingsError) (xs : List SettingsError) → note_all (Some f) xs ≡ None → ⊥
unfolding note note_all
later_none f [] h = absurd (cc)
later_none f (x ∷ xs) h = later_none (earlier_of (Some f) x) xs h

go : (xs done : List SettingsError) (f g : SettingsError) → IsFirst done f → note_all (Some f) xs ≡ Some g → IsFirst (done ++ xs) g
unfolding note note_all
go [] done f g h e = let same : f ≡ g = cc in subst (λ z. IsFirst (done ++ []) z) same (subst (λ zs. IsFirst zs f) (sym (append-nil done)) h)
go (x ∷ xs) done f g h e = subst (λ zs. IsFirst zs g) (append_assoc done (x ∷ []) xs) (go xs (done ++ x ∷ []) (earlier_of (Some f) x) g (step done f x h) e)

-- nothing was noted
pub none_noted : (xs : List SettingsError) → note_all None xs ≡ None → xs ≡ []
unfolding note note_all
none_noted [] h = refl
none_noted (x ∷ xs) h = absurd (later_none x xs h)

-- what was noted is the first
pub first_noted : (xs : List SettingsError) (f : SettingsError) → note_all None xs ≡ Some f → IsFirst xs f
unfolding note note_all
first_noted [] f h = absurd (cc)
first_noted (x ∷ xs) f h = go xs (x ∷ []) x f (record { earlier = []; later = []; among = refl; before_earlier = tt; before_later = tt }) h
