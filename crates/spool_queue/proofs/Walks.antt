-- A walk from the front of a spool, and what it has found there.
use Rattle.std.proofs.Common.{◌≡◌, ℕ, zero, suc, ◌+◌, ◌<◌, ◌^◌, List, [], ◌∷◌, ◌++◌, length, drop, Some, refl, sym, ap, ◌∙◌, subst, arith, append_assoc, length-append}
use Rattle.std.specs.Prelude.{slice_get}
use Rattle.spool_queue.specs.declared.walk.Walk.{Walk}
use Rattle.spool_queue.specs.Log.{Log, Empty, Then, outstanding, payloads, settled}
use Rattle.spool_queue.specs.Records.{Event}
use Rattle.spool_queue.specs.Spool.{EndsAt, Reaches}
use Rattle.spool_queue.specs.Walking.{IsWalkOf}
use Rattle.spool_queue.proofs.Logs.{payloads_on, read_front}

pub at_front : (bytes : List ℕ) (walk : Walk) → walk.place ≡ 0 → walk.events ≡ 0 → walk.settled ≡ 0 → IsWalkOf bytes walk Empty
at_front bytes walk place events settlements =
    let R : ℕ → Type 0 = λ p. Reaches bytes Empty p (drop p bytes) in
    record {
      reaches = subst R (sym place) (record { each = tt; bytes = refl; begins = refl });
      events = sym events;
      settlements = sym settlements;
    }

get_behind : (front : List (List ℕ)) (one : List ℕ) (more : List (List ℕ)) (n : ℕ) → length front ≡ n → slice_get (front ++ one ∷ more) n ≡ Some one
get_behind [] one more n is = let G : ℕ → Type 0 = λ k. slice_get (one ∷ more) k ≡ Some one in subst G is refl
get_behind (x ∷ front) one more n is = let G : ℕ → Type 0 = λ k. slice_get (x ∷ front ++ one ∷ more) k ≡ Some one in subst G is (get_behind front one more (length front) refl)

get_dropped : (xs : List (List ℕ)) (n i : ℕ) → slice_get (drop n xs) i ≡ slice_get xs (n + i)
get_dropped xs zero i = let none : i ≡ 0 + i = omega arith in ap (slice_get xs) none
get_dropped [] (suc n) i = refl
get_dropped (x ∷ xs) (suc n) i = let next : suc (n + i) ≡ suc n + i = omega arith in get_dropped xs n i ∙ ap (slice_get (x ∷ xs)) next

-- the payload of an event that was passed, among those that are outstanding
pub payload_at : (bytes : List ℕ) (walk : Walk) (front whole : Log) (payload : List ℕ) (end i : ℕ) (list : List (List ℕ)) → IsWalkOf bytes walk (Then front (Event payload)) → length (payloads front) ≡ settled whole + i → length (payloads front) + 1 < 2 ^ 64
    → EndsAt bytes whole end → outstanding whole ≡ list → slice_get list i ≡ Some payload
payload_at bytes walk front whole payload end i list is number few ends same =
    let ext = read_front bytes (Then front (Event payload)) whole walk.place end (drop walk.place bytes) is.reaches (omega (arith, few, length-append (payloads front) (payload ∷ []))) ends in
    let on = payloads_on (Then front (Event payload)) whole ext in
    ap (λ (l : List (List ℕ)). slice_get l i) (sym same) ∙ get_dropped (payloads whole) (settled whole) i
    ∙ ap (λ (l : List (List ℕ)). slice_get l (settled whole + i)) (on.1 ∙ append_assoc (payloads front) (payload ∷ []) on.0)
    ∙ get_behind (payloads front) payload on.0 (settled whole + i) number
