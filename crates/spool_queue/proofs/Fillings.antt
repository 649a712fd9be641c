-- A window that is filled with the first payloads that are outstanding.
use Rattle.std.proofs.Common.{◌≡◌, ℕ, zero, suc, ◌+◌, ◌≤◌, List, [], ◌∷◌, ◌++◌, length, take, drop, Option, Some, refl, sym, ap, ◌∙◌, subst, arith}
use Rattle.std.specs.Prelude.{slice_get}
use Rattle.std.proofs.lemmas.List.{map-append, nil_from_length, take_all}
use Rattle.lumber_client.specs.Exchange.{Exchange, payloads_of, with_begun}
use Rattle.lumber_client.specs.Held.{Held, begun_in, next_in}
use Rattle.lumber_client.specs.Standing.{StandsFor}
use Rattle.wire_base.specs.declared.parcel.Parcel.{Parcel}
use Rattle.spool_queue.specs.declared.spool.Spool.{Spool}
use Rattle.spool_queue.specs.declared.walk.Walk.{Walk}
use Rattle.spool_queue.specs.Log.{Log}
use Rattle.spool_queue.specs.Sending.{IsFilled}
use Rattle.spool_queue.specs.Standing.{IsSpoolOf}
use Rattle.spool_queue.specs.Walking.{IsWalkOf}

-- the window holds the first so many payloads, and the walk stands behind them
abbrev pub FillsSoFar : Option (List ℕ) → Spool → Walk → Walk → Held → ℕ → Type 0
FillsSoFar contents spool walk later window count = (bytes : List ℕ) (list : List (List ℕ)) (log : Log) → contents ≡ Some bytes → IsSpoolOf spool bytes list → IsWalkOf bytes walk log → (payloads_of window.parcels ≡ take count list) × ((behind : Log) × IsWalkOf bytes later behind)

next_got : (list : List (List ℕ)) (i s : ℕ) (one : List ℕ) → s ≡ i + 1 → slice_get list i ≡ Some one → take s list ≡ take i list ++ one ∷ []
next_got [] i s one sum got = absurd cc
next_got (x ∷ list) zero zero one sum got = absurd (omega (arith, sum))
next_got (x ∷ list) zero (suc zero) one sum got = let same : x ≡ one = cc in ap (λ (y : List ℕ). y ∷ []) same
next_got (x ∷ list) zero (suc (suc s)) one sum got = absurd (omega (arith, sum))
next_got (x ∷ list) (suc i) zero one sum got = absurd (omega (arith, sum))
next_got (x ∷ list) (suc i) (suc s) one sum got = ap (λ (l : List (List ℕ)). x ∷ l) (next_got list i s one (omega (arith, sum)) got)

pub filled_more : (list : List (List ℕ)) (old new : Held) (parcel : Parcel) (one : List ℕ) (i : ℕ) → new.parcels ≡ old.parcels ++ parcel ∷ [] → parcel.payload ≡ one → payloads_of old.parcels ≡ take i list → slice_get list i ≡ Some one → payloads_of new.parcels ≡ take (i + 1) list
filled_more list old new parcel one i offered is first got =
    ap payloads_of offered
    ∙ map-append (λ (p : Parcel). p.payload) old.parcels (parcel ∷ [])
    ∙ ap (λ (l : List (List ℕ)). l ++ parcel.payload ∷ []) first
    ∙ ap (λ (p : List ℕ). take i list ++ p ∷ []) is
    ∙ sym (next_got list i (i + 1) one refl got)

pub none_filled : (window : Held) (list : List (List ℕ)) → length window.parcels ≡ 0 → payloads_of window.parcels ≡ take 0 list
none_filled window list none = ap payloads_of (nil_from_length window.parcels none)

none_begun : (n : ℕ) (l : List Parcel) → n ≡ 0 → drop n l ≡ l
none_begun zero l none = refl
none_begun (suc n) l none = absurd (omega (arith, none))

pub next_all : (w : Held) (n : ℕ) → IsFilled w n → n ≤ 2048 → next_in w ≡ w.parcels
next_all w n is few =
    ap (take w.most) (none_begun (begun_in w) w.parcels (omega (arith, is.acknowledged, is.in_flight)))
    ∙ take_all w.most w.parcels (omega (arith, is.most, is.held, few))

pub begun_with : (w new : Held) (e : Exchange) → next_in w ≡ w.parcels → new.parcels ≡ w.parcels → StandsFor new (with_begun e (next_in w)) → StandsFor new (with_begun e new.parcels)
begun_with w new e all same s = let S : List Parcel → Type 0 = λ l. StandsFor new (with_begun e l) in subst S (all ∙ sym same) s
