-- The steps of a file that are made, one after another.
use Rattle.std.proofs.Common.{◌≡◌, ℕ, zero, suc, ◌+◌, ◌<◌, ◌≤◌, true, false, cond, List, [], ◌∷◌, ◌++◌, length, get_or, take, drop, Option, Some, refl, sym, ◌∙◌, ap, subst, arith, append_assoc, length-append, length-take}
use Rattle.std.proofs.lemmas.List.{take_more, drop_more, drop_all, append-nil}
use Rattle.outside.specs.declared.history.Sight.{Sight}
use Rattle.outside_mem.specs.declared.steps.MemStep.{MemStep}
use Rattle.outside_mem.specs.declared.steps.MemChange.{MemChange}
use Rattle.outside_mem.specs.declared.steps.MemChange.TheVariants.{Append, Truncate, Rename, Remove}
use Rattle.outside_mem.specs.Steps.{Standing, changed, after_steps, is_due, made, no_bytes, appended, appended_by, named, named_after, found_by, seen}
use Rattle.outside_mem.specs.Windows.{Shows}
use Rattle.outside_mem.proofs.Showing.{Shows-nil}
use Rattle.wire_base.specs.declared.numbers.TheConstants.{MAX_PLACE}

pub after_steps-append : (steps more : List MemStep) (s : Standing) → after_steps s (steps ++ more) ≡ after_steps (after_steps s steps) more
after_steps-append [] more s = refl
after_steps-append (step ∷ steps) more s = after_steps-append steps more (changed s step.change)

module _ (listings calls : ℕ) (steps : List MemStep) where
  -- all of the first i steps are made, and then those that are made of the others
  abbrev pub IsMadeUpTo : ℕ → Type 0
  IsMadeUpTo i = made listings calls steps ≡ take i steps ++ made listings calls (drop i steps)

  pub made_more : (i : ℕ) (step : MemStep) → i < length steps → step ≡ get_or steps i step → is_due listings calls step.due ≡ true → IsMadeUpTo i → IsMadeUpTo (i + 1)
  made_more i step within is due so_far =
      let rest : drop i steps ≡ step ∷ drop (i + 1) steps = drop_more steps i step within ∙ ap (λ (s : MemStep). s ∷ drop (i + 1) steps) (sym is) in
      let first : take (i + 1) steps ≡ take i steps ++ step ∷ [] = take_more steps i step within ∙ ap (λ (s : MemStep). take i steps ++ s ∷ []) (sym is) in
      so_far
      ∙ ap (λ (l : List MemStep). take i steps ++ made listings calls l) rest
      ∙ ap (λ b. take i steps ++ cond b (step ∷ made listings calls (drop (i + 1) steps)) []) due
      ∙ sym (append_assoc (take i steps) (step ∷ []) (made listings calls (drop (i + 1) steps)))
      ∙ ap (λ (l : List MemStep). l ++ made listings calls (drop (i + 1) steps)) (sym first)

  -- if the next step is not due, these are all
  pub made_all : (i : ℕ) (step : MemStep) → i < length steps → step ≡ get_or steps i step → is_due listings calls step.due ≡ false → IsMadeUpTo i → made listings calls steps ≡ take i steps
  made_all i step within is late so_far =
      let rest : drop i steps ≡ step ∷ drop (i + 1) steps = drop_more steps i step within ∙ ap (λ (s : MemStep). s ∷ drop (i + 1) steps) (sym is) in
      so_far
      ∙ ap (λ (l : List MemStep). take i steps ++ made listings calls l) rest
      ∙ ap (λ b. take i steps ++ cond b (step ∷ made listings calls (drop (i + 1) steps)) []) late
      ∙ append-nil (take i steps)

  pub made_to_the_end : (i : ℕ) → length steps ≤ i → IsMadeUpTo i → made listings calls steps ≡ take i steps
  made_to_the_end i past so_far =
      so_far ∙ ap (λ (l : List MemStep). take i steps ++ made listings calls l) (drop_all i steps past) ∙ append-nil (take i steps)

-- what is left to append shrinks by what one step appends
pub appended-drop : (steps : List MemStep) (i : ℕ) (step : MemStep) → i < length steps → step ≡ get_or steps i step → appended (drop i steps) ≡ appended_by step.change + appended (drop (i + 1) steps)
appended-drop steps i step within is = ap appended (drop_more steps i step within ∙ ap (λ (s : MemStep). s ∷ drop (i + 1) steps) (sym is))

-- a read has come so far
pub record IsReadUpTo (listings calls at : ℕ) (steps : List MemStep) (i : ℕ) (sight : Sight) (into : List ℕ) : Type 0 where
  pub made_is : IsMadeUpTo listings calls steps i
  pub sight_is : sight ≡ seen (after_steps no_bytes (take i steps))
  pub shows : Shows at (after_steps no_bytes (take i steps)).bytes into
  pub life : sight.life ≤ i
  pub room : sight.length + appended (drop i steps) ≤ MAX_PLACE

pub read_nothing : (listings calls at : ℕ) (steps : List MemStep) (into : List ℕ) → appended steps ≤ MAX_PLACE → IsReadUpTo listings calls at steps 0 (record { life = 0; length = 0 }) into
read_nothing listings calls at steps into few = record { made_is = refl; sight_is = refl; shows = Shows-nil at into; life = omega arith; room = omega arith }

-- one change makes at most one life more, and at most this many bytes as it appends
pub seen_bounds : (s : Standing) (change : MemChange) → ((changed s change).life ≤ s.life + 1) × (length (changed s change).bytes ≤ length s.bytes + appended_by change)
seen_bounds s (Append blob) = (omega arith, omega (arith, length-append s.bytes blob))
seen_bounds s (Truncate kept) = (omega arith, omega (arith, length-take kept s.bytes))
seen_bounds s (Rename path) = (omega arith, omega arith)
seen_bounds s Remove = (omega arith, omega arith)

pub read_more : (listings calls at : ℕ) (steps : List MemStep) (i : ℕ) (sight later : Sight) (into shown : List ℕ) (step : MemStep)
    → i < length steps → step ≡ get_or steps i step → is_due listings calls step.due ≡ true
    → ((bytes : List ℕ) → length bytes ≡ sight.length → later ≡ seen (changed (record { life = sight.life; bytes = bytes }) step.change))
    → ((s : Standing) → length s.bytes ≡ sight.length → Shows at s.bytes into → Shows at (changed s step.change).bytes shown)
    → IsReadUpTo listings calls at steps i sight into → IsReadUpTo listings calls at steps (i + 1) later shown
read_more listings calls at steps i sight later into shown step within is due sees shows so_far =
    let before = after_steps no_bytes (take i steps) in
    let first : take (i + 1) steps ≡ take i steps ++ step ∷ [] = take_more steps i step within ∙ ap (λ (s : MemStep). take i steps ++ s ∷ []) (sym is) in
    let standing : after_steps no_bytes (take (i + 1) steps) ≡ changed before step.change = ap (λ (l : List MemStep). after_steps no_bytes l) first ∙ after_steps-append (take i steps) (step ∷ []) no_bytes in
    let same_life : sight.life ≡ before.life = ap (λ (s : Sight). s.life) so_far.sight_is in
    let same_length : length before.bytes ≡ sight.length = sym (ap (λ (s : Sight). s.length) so_far.sight_is) in
    let later_is : later ≡ seen (changed before step.change) = sees before.bytes same_length ∙ ap (λ (n : ℕ). seen (changed (record { life = n; bytes = before.bytes }) step.change)) same_life in
    let grows = seen_bounds before step.change in
    record {
      made_is = made_more listings calls steps i step within is due so_far.made_is;
      sight_is = later_is ∙ ap seen (sym standing);
      shows = subst (λ (s : Standing). Shows at s.bytes shown) (sym standing) (shows before same_length so_far.shows);
      life = omega (arith, grows.0, ap (λ (s : Sight). s.life) later_is, same_life, so_far.life);
      room = omega (arith, grows.1, ap (λ (s : Sight). s.length) later_is, same_length, so_far.room, appended-drop steps i step within is);
    }

-- what a file was found by so far
pub record IsFoundUpTo (listings calls : ℕ) (path : List ℕ) (steps : List MemStep) (i : ℕ) (found : Option (List ℕ)) : Type 0 where
  pub made_is : IsMadeUpTo listings calls steps i
  pub found_is : found ≡ found_by path (take i steps)

named_after-append : (steps more : List MemStep) (path : Option (List ℕ)) → named_after path (steps ++ more) ≡ named_after (named_after path steps) more
named_after-append [] more path = refl
named_after-append (step ∷ steps) more path = named_after-append steps more (named path step.change)

found_by-push : (path : List ℕ) (steps : List MemStep) (step : MemStep) → 0 < length steps → found_by path (steps ++ step ∷ []) ≡ named (found_by path steps) step.change
found_by-push path [] step some = absurd (omega arith)
found_by-push path (first ∷ steps) step some = named_after-append steps (step ∷ []) (named (Some path) first.change)

-- one step more gives the file its next path; before the first it has its own
pub found_more : (listings calls : ℕ) (path : List ℕ) (steps : List MemStep) (i : ℕ) (found before later : Option (List ℕ)) (step : MemStep)
    → i < length steps → step ≡ get_or steps i step → is_due listings calls step.due ≡ true
    → (i ≡ 0 → before ≡ Some path) → (0 < i → before ≡ found) → later ≡ named before step.change
    → IsFoundUpTo listings calls path steps i found → IsFoundUpTo listings calls path steps (i + 1) later
found_more listings calls path steps i found before later step within is due first other later_is so_far = record {
  made_is = made_more listings calls steps i step within is due so_far.made_is;
  found_is = later_is ∙ by_case i first other so_far.found_is within is;
}
  where
    by_case : (i : ℕ) → (i ≡ 0 → before ≡ Some path) → (0 < i → before ≡ found) → found ≡ found_by path (take i steps) → i < length steps → step ≡ get_or steps i step → named before step.change ≡ found_by path (take (i + 1) steps)
    by_case zero first other found_is within is =
        let one : take (0 + 1) steps ≡ step ∷ [] = take_more steps 0 step within ∙ ap (λ (s : MemStep). s ∷ []) (sym is) in
        ap (λ (o : Option (List ℕ)). named o step.change) (first refl) ∙ ap (found_by path) (sym one)
    by_case (suc i) first other found_is within is =
        let all : take (suc i + 1) steps ≡ take (suc i) steps ++ step ∷ [] = take_more steps (suc i) step within ∙ ap (λ (s : MemStep). take (suc i) steps ++ s ∷ []) (sym is) in
        ap (λ (o : Option (List ℕ)). named o step.change) (other (omega arith) ∙ found_is)
        ∙ sym (found_by-push path (take (suc i) steps) step (omega (arith, length-take (suc i) steps)))
        ∙ ap (found_by path) (sym all)
