-- What the looks at a file in memory show.
use Rattle.std.proofs.Common.{◌≡◌, ◌⊎◌, inl, inr, ℕ, ◌-◌, ◌<◌, ◌≤◌, min, List, [], ◌∷◌, ◌++◌, length, take, drop, Some, refl, sym, ◌∙◌, ap, subst, arith, length-take, length-drop}
use Rattle.std.proofs.lemmas.Bool.{cases_lt}
use Rattle.std.proofs.lemmas.List.{take-append-le, take_min, take_all, drop-append-le, drop_all}
use Rattle.outside.specs.declared.history.Sight.{Sight}
use Rattle.outside.specs.declared.history.Look.{Look}
use Rattle.outside.specs.declared.history.Question.TheVariants.{Length, ReadAt}
use Rattle.outside.specs.Files.{IsOfFile, IsNoEarlier, latest, life_of}
use Rattle.outside.specs.Tails.{TailHistory, IsNextLook, LooksAtLength, LooksAtBytes, TellsBytes}
use Rattle.outside_mem.specs.declared.script.Script.{Script}
use Rattle.outside_mem.specs.Scripts.{file_of}
use Rattle.outside_mem.specs.Steps.{sight_at, standing_at}
use Rattle.outside_mem.specs.Windows.{window, Shows}
use Rattle.outside_mem.proofs.Growing.{no_earlier-trans, sight_grows, sight_of_file, standing_front}

latest-push : (looks : List Look) (begun : Sight) (look : Look) → latest begun (looks ++ look ∷ []) ≡ look.sight
latest-push [] begun look = refl
latest-push (first ∷ looks) begun look = latest-push looks first.sight look

-- the window of a front shows the first bytes after the place, whatever comes after the front
window-front : (n at : ℕ) (bytes rest : List ℕ) → take (length (window n at bytes)) (drop at (bytes ++ rest)) ≡ window n at bytes
window-front n at bytes rest = by_case (cases_lt (length bytes) at)
  where
    count : length (window n at bytes) ≡ min n (length (drop at bytes))
    count = length-take n (drop at bytes)

    by_case : (length bytes < at) ⊎ (at ≤ length bytes) → take (length (window n at bytes)) (drop at (bytes ++ rest)) ≡ window n at bytes
    by_case (inl past) =
        let none : window n at bytes ≡ [] = ap (λ (l : List ℕ). take n l) (drop_all at bytes (omega arith)) ∙ take_all n [] (omega arith) in
        subst (λ (l : List ℕ). take (length l) (drop at (bytes ++ rest)) ≡ l) (sym none) refl
    by_case (inr within) =
        ap (λ (l : List ℕ). take (length (window n at bytes)) l) (drop-append-le at bytes rest within)
        ∙ take-append-le (length (window n at bytes)) (drop at bytes) rest (omega (arith, count))
        ∙ ap (λ (k : ℕ). take k (drop at bytes)) count ∙ take_min n (drop at bytes)

module _ (script : Script) (listings calls : ℕ) (begun : Sight) where
  -- later calls find as much as the last look saw
  pub still_looked : (looks : List Look) (more : ℕ) → calls ≤ more → IsNoEarlier (latest begun looks) (sight_at listings calls script.file.steps.items) → IsNoEarlier (latest begun looks) (sight_at listings more script.file.steps.items)
  still_looked looks more le looked =
      no_earlier-trans (latest begun looks) (sight_at listings calls script.file.steps.items) (sight_at listings more script.file.steps.items) looked (sight_grows listings calls listings more (omega arith) le script.file.steps.items)

  pub looked_again : (looks next : List Look) (look : Look) (more : ℕ) → calls ≤ more → look.sight ≡ sight_at listings calls script.file.steps.items → next ≡ looks ++ look ∷ [] → IsNoEarlier (latest begun next) (sight_at listings more script.file.steps.items)
  looked_again looks next look more le sight is =
      subst (λ (s : Sight). IsNoEarlier s (sight_at listings more script.file.steps.items)) (sym (ap (latest begun) is ∙ latest-push looks begun look ∙ sight)) (sight_grows listings calls listings more (omega arith) le script.file.steps.items)

  pub of_file : IsOfFile (file_of script) (sight_at listings calls script.file.steps.items)
  of_file = sight_of_file listings calls script.file.steps.items (file_of script) refl script.in_range

  module _ (opening number : ℕ) (looks : List Look) where
    abbrev told : TailHistory
    told = record { opening = opening; number = number; file = file_of script; begun = begun; looks = looks }

    is_next : (look : Look) → look.sight ≡ sight_at listings calls script.file.steps.items → IsNoEarlier (latest begun looks) (sight_at listings calls script.file.steps.items) → IsNextLook told look
    is_next look sight looked = record {
      of_file = subst (λ (s : Sight). IsOfFile (file_of script) s) (sym sight) of_file;
      no_earlier = subst (λ (s : Sight). IsNoEarlier (latest begun looks) s) (sym sight) looked;
    }

    pub looks_at_length : (look : Look) (next : List Look) → look.question ≡ Length → look.sight ≡ sight_at listings calls script.file.steps.items → IsNoEarlier (latest begun looks) (sight_at listings calls script.file.steps.items)
        → next ≡ looks ++ look ∷ [] → LooksAtLength told look.sight.length (Some (record { opening = opening; number = number; file = file_of script; begun = begun; looks = next }))
    looks_at_length look next asked sight looked is = record {
      look = look;
      next = is_next look sight looked;
      asked = asked;
      answered = refl;
      kept = ap (λ (l : List Look). Some (record { opening = opening; number = number; file = file_of script; begun = begun; looks = l })) is;
    }

    -- as many bytes as the window has are those of the life
    window_of_life : (at : ℕ) (into : List ℕ) → Shows at (standing_at listings calls script.file.steps.items).bytes into
        → take (length (window (length into) at (standing_at listings calls script.file.steps.items).bytes)) into ≡ take (length (window (length into) at (standing_at listings calls script.file.steps.items).bytes)) (drop at (life_of (file_of script) (standing_at listings calls script.file.steps.items).life))
    window_of_life at into shows =
        let s = standing_at listings calls script.file.steps.items in
        let front = standing_front listings calls script.file.steps.items in
        shows ∙ sym (window-front (length into) at s.bytes front.rest)
        ∙ ap (λ (l : List ℕ). take (length (window (length into) at s.bytes)) (drop at l)) (sym front.front)

    pub looks_at_bytes : (look : Look) (next : List Look) (at count : ℕ) (into : List ℕ) → 0 < length into → look.question ≡ ReadAt at count → look.sight ≡ sight_at listings calls script.file.steps.items
        → IsNoEarlier (latest begun looks) (sight_at listings calls script.file.steps.items) → count ≡ length (window (length into) at (standing_at listings calls script.file.steps.items).bytes)
        → Shows at (standing_at listings calls script.file.steps.items).bytes into → next ≡ looks ++ look ∷ []
        → TellsBytes told at into count (Some (record { opening = opening; number = number; file = file_of script; begun = begun; looks = next }))
    looks_at_bytes look next at count into some asked sight looked counted shows is =
        let s = standing_at listings calls script.file.steps.items in
        let size : count ≡ min (length into) (length s.bytes - at) = omega (arith, counted, length-take (length into) (drop at s.bytes), length-drop at s.bytes) in
        let seen_length : look.sight.length ≡ length s.bytes = ap (λ (x : Sight). x.length) sight in
        let seen_life : s.life ≡ look.sight.life = sym (ap (λ (x : Sight). x.life) sight) in
        tells into some record {
          look = look;
          next = is_next look sight looked;
          asked = asked;
          within = λ read. omega (arith, size, seen_length);
          bytes =
              ap (λ (n : ℕ). take n into) counted ∙ window_of_life at into shows
              ∙ ap (λ (n : ℕ). take n (drop at (life_of (file_of script) s.life))) (sym counted)
              ∙ ap (λ (n : ℕ). take count (drop at (life_of (file_of script) n))) seen_life;
          none_only_at_the_end = λ none. omega (arith, size, seen_length);
          kept = ap (λ (l : List Look). Some (record { opening = opening; number = number; file = file_of script; begun = begun; looks = l })) is;
        }
      where
        tells : (into : List ℕ) → 0 < length into → LooksAtBytes told at into count (Some (record { opening = opening; number = number; file = file_of script; begun = begun; looks = next })) → TellsBytes told at into count (Some (record { opening = opening; number = number; file = file_of script; begun = begun; looks = next }))
        tells [] some looks = absurd (omega arith)
        tells (byte ∷ bytes) some looks = looks

-- a read into an empty buffer is no look
pub no_look : (told : TailHistory) (at : ℕ) (into : List ℕ) → length into ≡ 0 → TellsBytes told at into 0 (Some told)
no_look told at [] none = refl
no_look told at (byte ∷ bytes) none = absurd (omega arith)
