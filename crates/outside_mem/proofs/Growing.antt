-- As listings and tail calls go by, there is never less of a file, and always a front of one of its lives.
use Rattle.std.proofs.Common.{◌≡◌, ℕ, ◌+◌, ◌<◌, ◌≤◌, Bool, true, false, cond, List, [], ◌∷◌, ◌++◌, length, take, refl, sym, ◌∙◌, ap, subst, arith, add-one, append_assoc, length-append}
use Rattle.std.specs.Prelude.{slice_index_or}
use Rattle.std.proofs.lemmas.Bool.Decides.{nat_tests}
use Rattle.std.proofs.lemmas.List.{append-nil}
use Rattle.outside.specs.declared.history.Sight.{Sight}
use Rattle.outside.specs.Files.{File, IsOfFile, IsNoEarlier, life_of}
use Rattle.outside_mem.specs.declared.steps.Due.{Due}
use Rattle.outside_mem.specs.declared.steps.Due.TheVariants.{Listings, TailCalls}
use Rattle.outside_mem.specs.declared.steps.MemStep.{MemStep}
use Rattle.outside_mem.specs.declared.steps.MemChange.{MemChange}
use Rattle.outside_mem.specs.declared.steps.MemChange.TheVariants.{Append, Truncate, Rename, Remove}
use Rattle.outside_mem.specs.Steps.{Standing, changed, after_steps, is_due, made, no_bytes, standing_at, sight_at, lives_from, lives_of, with_ended, appended, seen}
use Rattle.outside_mem.proofs.Making.{after_steps-append, seen_bounds}
use Rattle.wire_base.specs.declared.numbers.TheConstants.{MAX_PLACE}

pub no_earlier-refl : (s : Sight) → IsNoEarlier s s
no_earlier-refl s = record { life = omega arith; length = λ e. omega arith }

pub no_earlier-trans : (a b c : Sight) → IsNoEarlier a b → IsNoEarlier b c → IsNoEarlier a c
no_earlier-trans a b c ab bc = record {
  life = omega (arith, ab.life, bc.life);
  length = λ e. let m : a.life ≡ b.life = omega (arith, ab.life, bc.life) in let n : b.life ≡ c.life = omega (arith, ab.life, bc.life) in omega (arith, ab.length m, bc.length n);
}

no_earlier-changed : (s : Standing) (change : MemChange) → IsNoEarlier (seen s) (seen (changed s change))
no_earlier-changed s (Append blob) = record { life = omega arith; length = λ e. omega (arith, length-append s.bytes blob) }
no_earlier-changed s (Truncate kept) = record { life = omega arith; length = λ e. absurd (omega (arith, e)) }
no_earlier-changed s (Rename path) = no_earlier-refl (seen s)
no_earlier-changed s Remove = no_earlier-refl (seen s)

no_earlier-after : (steps : List MemStep) (s : Standing) → IsNoEarlier (seen s) (seen (after_steps s steps))
no_earlier-after [] s = no_earlier-refl (seen s)
no_earlier-after (step ∷ steps) s = no_earlier-trans (seen s) (seen (changed s step.change)) (seen (after_steps (changed s step.change) steps)) (no_earlier-changed s step.change) (no_earlier-after steps (changed s step.change))

module _ (listings calls more_listings more_calls : ℕ) (listed : listings ≤ more_listings) (called : calls ≤ more_calls) where
  due_still : (due : Due) → is_due listings calls due ≡ true → is_due more_listings more_calls due ≡ true
  due_still (Listings count) is = grind (arith, nat_tests)
  due_still (TailCalls count) is = grind (arith, nat_tests)

  -- what is made later is what is made now, and then some more
  made_later : (steps : List MemStep) → (rest : List MemStep) × (made more_listings more_calls steps ≡ made listings calls steps ++ rest)
  made_later [] = ([], refl)
  made_later (step ∷ steps) = by_case (made_later steps) (is_due listings calls step.due) refl
    where
      by_case : (rest : List MemStep) × (made more_listings more_calls steps ≡ made listings calls steps ++ rest) → (b : Bool) → is_due listings calls step.due ≡ b → (rest : List MemStep) × (made more_listings more_calls (step ∷ steps) ≡ made listings calls (step ∷ steps) ++ rest)
      by_case later true due = (
        later.0,
        ap (λ b. cond b (step ∷ made more_listings more_calls steps) []) (due_still step.due due)
            ∙ ap (λ (l : List MemStep). step ∷ l) later.1
            ∙ ap (λ b. cond b (step ∷ made listings calls steps) [] ++ later.0) (sym due),
      )
      by_case later false late = (made more_listings more_calls (step ∷ steps), ap (λ b. cond b (step ∷ made listings calls steps) [] ++ made more_listings more_calls (step ∷ steps)) (sym late))

  pub sight_grows : (steps : List MemStep) → IsNoEarlier (sight_at listings calls steps) (sight_at more_listings more_calls steps)
  sight_grows steps =
      let later = made_later steps in
      let standing : standing_at more_listings more_calls steps ≡ after_steps (standing_at listings calls steps) later.0 =
      ap (λ (l : List MemStep). after_steps no_bytes l) later.1 ∙ after_steps-append (made listings calls steps) later.0 no_bytes in
      subst (λ (s : Standing). IsNoEarlier (sight_at listings calls steps) (seen s)) (sym standing) (no_earlier-after later.0 (standing_at listings calls steps))

-- of the lives from these bytes on, the one of this number begins with these other bytes
pub record IsFrontOf (lives : List (List ℕ)) (life : ℕ) (bytes : List ℕ) : Type 0 where
  pub known : life < length lives
  pub rest : List ℕ
  pub front : slice_index_or lives life [] ≡ bytes ++ rest

-- the first life from these bytes on begins with them
first_life : (steps : List MemStep) (bytes : List ℕ) → IsFrontOf (lives_from bytes steps) 0 bytes
first_life [] bytes = record { known = omega arith; rest = []; front = sym (append-nil bytes) }
first_life (step ∷ steps) bytes = by_change step.change (λ next. first_life steps next)
  where
    by_change : (change : MemChange) → ((next : List ℕ) → IsFrontOf (lives_from next steps) 0 next) → IsFrontOf (with_ended change bytes (lives_from (changed (record { life = 0; bytes = bytes }) change).bytes steps)) 0 bytes
    by_change (Append blob) later =
        let more = later (bytes ++ blob) in
        record { known = more.known; rest = blob ++ more.rest; front = more.front ∙ append_assoc bytes blob more.rest }
    by_change (Truncate kept) later = record { known = omega arith; rest = []; front = sym (append-nil bytes) }
    by_change (Rename path) later = later bytes
    by_change Remove later = later bytes

-- what some first steps make is a front of its life
abbrev MakesFront : List MemStep → List MemStep → ℕ → List ℕ → Type 0
MakesFront steps rest life bytes = (number : ℕ) × ((after_steps (record { life = life; bytes = bytes }) steps).life ≡ life + number) × IsFrontOf (lives_from bytes (steps ++ rest)) number (after_steps (record { life = life; bytes = bytes }) steps).bytes

front_made : (steps rest : List MemStep) (life : ℕ) (bytes : List ℕ) → MakesFront steps rest life bytes
front_made [] rest life bytes = (0, omega arith, first_life rest bytes)
front_made (step ∷ steps) rest life bytes = by_change step.change (λ n b. front_made steps rest n b)
  where
    by_change : (change : MemChange) → ((n : ℕ) (b : List ℕ) → MakesFront steps rest n b)
        → (number : ℕ) × ((after_steps (changed (record { life = life; bytes = bytes }) change) steps).life ≡ life + number) × IsFrontOf (with_ended change bytes (lives_from (changed (record { life = 0; bytes = bytes }) change).bytes (steps ++ rest))) number (after_steps (changed (record { life = life; bytes = bytes }) change) steps).bytes
    by_change (Append blob) later = later life (bytes ++ blob)
    by_change (Truncate kept) later =
        let next = later (life + 1) (take kept bytes) in (
          next.0 + 1,
          omega (arith, next.1),
          record {
            known = omega (arith, next.2.known);
            rest = next.2.rest;
            front = ap (λ (n : ℕ). slice_index_or (bytes ∷ lives_from (take kept bytes) (steps ++ rest)) n []) (add-one next.0) ∙ next.2.front;
          },
        )
    by_change (Rename path) later = later life bytes
    by_change Remove later = later life bytes

made_front : (listings calls : ℕ) (steps : List MemStep) → (rest : List MemStep) × (steps ≡ made listings calls steps ++ rest)
made_front listings calls [] = ([], refl)
made_front listings calls (step ∷ steps) =
    elim (is_due listings calls step.due) as (λ b. (rest : List MemStep) × (step ∷ steps ≡ cond b (step ∷ made listings calls steps) [] ++ rest)) [
      | true ↦ let later = made_front listings calls steps in (later.0, ap (λ (l : List MemStep). step ∷ l) later.1)
      | false ↦ (step ∷ steps, refl)
    ]

-- what is there at any time is a front of the life that is present
pub standing_front : (listings calls : ℕ) (steps : List MemStep) → IsFrontOf (lives_of steps) (standing_at listings calls steps).life (standing_at listings calls steps).bytes
standing_front listings calls steps =
    let split = made_front listings calls steps in
    let front = front_made (made listings calls steps) split.0 0 [] in
    let same : front.0 ≡ (standing_at listings calls steps).life = omega (arith, front.1) in
    subst (λ (n : ℕ). IsFrontOf (lives_of steps) n (standing_at listings calls steps).bytes) same
    (subst (λ (l : List MemStep). IsFrontOf (lives_from [] l) front.0 (standing_at listings calls steps).bytes) (sym split.1) front.2)

length-after_steps : (steps : List MemStep) (s : Standing) → length (after_steps s steps).bytes ≤ length s.bytes + appended steps
length-after_steps [] s = omega arith
length-after_steps (step ∷ steps) s = omega (arith, length-after_steps steps (changed s step.change), (seen_bounds s step.change).1)

appended-append : (steps more : List MemStep) → appended (steps ++ more) ≡ appended steps + appended more
appended-append [] more = omega arith
appended-append (step ∷ steps) more = omega (arith, appended-append steps more)

-- what is there at any time may be told of the file
pub sight_of_file : (listings calls : ℕ) (steps : List MemStep) (file : File) → file.lives ≡ lives_of steps → appended steps ≤ MAX_PLACE → IsOfFile file (sight_at listings calls steps)
sight_of_file listings calls steps file lives few =
    let front = standing_front listings calls steps in
    let s = standing_at listings calls steps in
    let split = made_front listings calls steps in
    let life_is : life_of file s.life ≡ s.bytes ++ front.rest = ap (λ (l : List (List ℕ)). slice_index_or l s.life []) lives ∙ front.front in
    record {
      known = omega (arith, front.known, ap length lives);
      within = omega (arith, ap length life_is, length-append s.bytes front.rest);
      in_range = omega (arith, few, length-after_steps (made listings calls steps) no_bytes, ap appended split.1, appended-append (made listings calls steps) split.0);
    }
