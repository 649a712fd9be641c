-- What the folder's list tells of a tail as it is closed.
use Rattle.std.proofs.Common.{◌≡◌, ℕ, zero, suc, ◌<◌, ◌≤◌, ◌==◌, Bool, true, false, drop, List, [], ◌∷◌, ◌++◌, length, Option, Some, None, IfSome, refl, sym, ap, subst, ◌∙◌, arith, if◌then◌else◌}
use Rattle.std.proofs.lemmas.Bool.{eqb-true}
use Rattle.std.proofs.lemmas.List.{drop-append-le}
use Rattle.std.proofs.lemmas.Option.{slice_get_within}
use Rattle.std.specs.Prelude.{slice_get}
use Rattle.kept_rows.specs.Trace.{Closing, closing_in, first_of_two}
use Rattle.kept_rows.proofs.Acknowledging.{got_in_front}
use Rattle.accounts.specs.Opened.{IsTailOf, Opened}
use Rattle.outside.specs.Folders.{Closed, Event, FolderHistory, Listed, ListingFailed, NotThere, Opened as WasOpened, OpeningFailed}
use Rattle.outside.specs.Tails.{TailHistory}
use Rattle.outside.specs.declared.history.Look.{Look}
use Rattle.told_scans.specs.OnlyAsked.{WasClosedWith}
use Rattle.run_steps.specs.Shown.{IsStillOpen, WasClosedAs, WasClosedBy, WasClosedInTurn}
use Rattle.run_steps.specs.SoFar.{Earlier}
use Rattle.told_scans.proofs.Events.{closing_both}
use Rattle.accounts.proofs.Same.{number_itself}

-- ---- places

-- the closing is among these
record IsThere (events : List Event) (opening : ℕ) (closing : Closing) : Type 0 where
  place : ℕ
  there : slice_get events place ≡ Some (Closed opening closing.looks closing.faults)

later_one : (event : Event) (events : List Event) (opening : ℕ) (closing : Closing) → IsThere events opening closing → IsThere (event ∷ events) opening closing
later_one event events opening closing is = record { place = suc is.place; there = is.there }

closing_there : (opening : ℕ) (events : List Event) (closing : Closing) → closing_in opening events ≡ Some closing → IsThere events opening closing
closing_there opening [] closing is = absurd (let q : None ≡ Some closing = is in cc)
closing_there opening (Listed root depth shown ∷ events) closing is = later_one (Listed root depth shown) events opening closing (closing_there opening events closing is)
closing_there opening (ListingFailed ∷ events) closing is = later_one ListingFailed events opening closing (closing_there opening events closing is)
closing_there opening (WasOpened path number begun ∷ events) closing is = later_one (WasOpened path number begun) events opening closing (closing_there opening events closing is)
closing_there opening (NotThere path ∷ events) closing is = later_one (NotThere path) events opening closing (closing_there opening events closing is)
closing_there opening (OpeningFailed path ∷ events) closing is = later_one (OpeningFailed path) events opening closing (closing_there opening events closing is)
closing_there opening (Closed of looks faults ∷ events) closing is = by_case (of == opening) refl is (λ e. closing_there opening events closing e)
  where
    by_case : (b : Bool) → (of == opening) ≡ b → first_of_two (if b then Some (record { looks = looks; faults = faults }) else None) (closing_in opening events) ≡ Some closing →
        (closing_in opening events ≡ Some closing → IsThere events opening closing) → IsThere (Closed of looks faults ∷ events) opening closing
    by_case true same found again =
        let it : ◌≡◌ {A = Closing} (record { looks = looks; faults = faults }) closing = cc in
        record { place = zero; there = ap (λ (c : Closing). Some (Closed of c.looks c.faults)) it ∙ ap (λ (n : ℕ). Some (Closed n closing.looks closing.faults)) (eqb-true of opening same) }
    by_case false other found again = later_one (Closed of looks faults) events opening closing (again found)

-- what is there once the first ones are left out has this place
record WasPassed (count : ℕ) (events : List Event) (event : Event) : Type 0 where
  place : ℕ
  least : count ≤ place
  there : slice_get events place ≡ Some event

passed : (count : ℕ) (events : List Event) (place : ℕ) (event : Event) → slice_get (drop count events) place ≡ Some event → WasPassed count events event
passed zero events place event is = record { place = place; least = omega arith; there = is }
passed (suc count) [] place event is = absurd (let q : None ≡ Some event = is in cc)
passed (suc count) (first ∷ events) place event is =
    let of = passed count events place event is in
    record { place = suc of.place; least = let least = of.least in omega (arith, least); there = of.there }

-- ---- the first closing of an opening

module _ (before : FolderHistory) (more : List Event) where
  abbrev after : FolderHistory
  after = record before { events = before.events ++ more }

  behind : (opening : ℕ) → opening < length before.events →
      closing_in opening (drop (suc opening) after.events) ≡ first_of_two (closing_in opening (drop (suc opening) before.events)) (closing_in opening more)
  behind opening within = ap (closing_in opening) (drop-append-le (suc opening) before.events more (omega (arith, within))) ∙ closing_both opening (drop (suc opening) before.events) more

  -- a closing stays the first one, and of one that was open the first of these is
  pub closed_again : (opening : ℕ) (closing : Closing) → opening < length before.events → closing_in opening (drop (suc opening) before.events) ≡ Some closing →
      closing_in opening (drop (suc opening) after.events) ≡ Some closing
  closed_again opening closing within was = behind opening within ∙ ap (λ (o : Option Closing). first_of_two o (closing_in opening more)) was

  pub closed_so : (opening : ℕ) (closing : Closing) → opening < length before.events → IsStillOpen before opening → closing_in opening more ≡ Some closing →
      closing_in opening (drop (suc opening) after.events) ≡ Some closing
  closed_so opening closing within still first = behind opening within ∙ ap (λ (o : Option Closing). first_of_two o (closing_in opening more)) still ∙ first

  -- one that was closed is so still
  pub closed_still : (opening : ℕ) (looks : List Look) → opening < length before.events → WasClosedWith before opening looks → WasClosedWith after opening looks
  closed_still opening looks within closed = record {
    faults = closed.faults;
    closing = behind opening within ∙ ap (λ (o : Option Closing). first_of_two o (closing_in opening more)) closed.closing;
  }

  -- the tail of this opening, if it told that
  pub closed_as_it_was : (file : Opened) → file.opening < length before.events → (o : Option TailHistory) → IfSome o (IsTailOf file) → IfSome o (λ tail. WasClosedWith before tail.opening tail.looks) →
      IfSome o (λ tail. WasClosedWith after tail.opening tail.looks)
  closed_as_it_was file within None of closed = tt
  closed_as_it_was file within (Some tail) of closed = closed_still tail.opening tail.looks (subst (λ (n : ℕ). n < length before.events) (sym of.opening) within) closed

  -- one that was open is closed by the first of these that closes it
  pub closed_now : (opening : ℕ) (looks : List Look) (faults : ℕ) → opening < length before.events → IsStillOpen before opening →
      closing_in opening more ≡ Some (record { looks = looks; faults = faults }) → WasClosedWith after opening looks
  closed_now opening looks faults within still first = record {
    faults = faults;
    closing = behind opening within ∙ ap (λ (o : Option Closing). first_of_two o (closing_in opening more)) still ∙ first;
  }

  -- and one that none of these closes is open still
  pub open_still : (opening : ℕ) → opening < length before.events → IsStillOpen before opening → closing_in opening more ≡ None → IsStillOpen after opening
  open_still opening within still none = behind opening within ∙ ap (λ (o : Option Closing). first_of_two o (closing_in opening more)) still ∙ none

  -- where it was closed before the next one was opened, it was so still
  pub in_turn_still : (one : Earlier) → WasClosedInTurn before one → WasClosedAs after one.left → WasClosedInTurn after one
  in_turn_still one was closed = record { closed = closed; in_turn = go one.left.told was.in_turn }
    where
      go : (told : Option TailHistory) → IfSome told (λ tail. WasClosedBy before tail one.next.opening) → IfSome told (λ tail. WasClosedBy after tail one.next.opening)
      go None so = tt
      go (Some tail) so = record {
        place = so.place;
        faults = so.faults;
        closed = got_in_front before.events more so.place (Closed tail.opening tail.looks so.faults) so.closed;
        since = so.since;
        before = so.before;
      }

  -- a tail that was closed is so before what is opened next
  pub closed_in_turn : (next : ℕ) → next ≡ length before.events → (told : Option TailHistory) → IfSome told (λ tail. WasClosedWith before tail.opening tail.looks) → IfSome told (λ tail. WasClosedBy after tail next)
  closed_in_turn next at None was = tt
  closed_in_turn next at (Some tail) was =
      let of = closing_there tail.opening (drop (suc tail.opening) before.events) (record { looks = tail.looks; faults = was.faults }) was.closing in
      let is = passed (suc tail.opening) before.events of.place (Closed tail.opening tail.looks was.faults) of.there in
      record {
        place = is.place;
        faults = was.faults;
        closed = got_in_front before.events more is.place (Closed tail.opening tail.looks was.faults) is.there;
        since = let least = is.least in omega (arith, least);
        before = let less = slice_get_within before.events is.place (Closed tail.opening tail.looks was.faults) is.there in omega (arith, less, at);
      }

-- ---- one closing

-- what it closes of an opening, by whether it is of that one
closes_by : Bool → List Look → ℕ → Option Closing
closes_by same looks faults = first_of_two (if same then Some (record { looks = looks; faults = faults }) else None) None

pub closes_its : (opening : ℕ) (looks : List Look) (faults : ℕ) → closing_in opening (Closed opening looks faults ∷ []) ≡ Some (record { looks = looks; faults = faults })
unfolding closes_by
closes_its opening looks faults = ap (λ (b : Bool). closes_by b looks faults) (number_itself opening)

pub closes_no_other : (of opening : ℕ) (looks : List Look) (faults : ℕ) → (of ≡ opening → ⊥) → closing_in opening (Closed of looks faults ∷ []) ≡ None
unfolding closes_by
closes_no_other of opening looks faults other = by_case (of == opening) refl
  where
    by_case : (b : Bool) → (of == opening) ≡ b → closes_by (of == opening) looks faults ≡ None
    by_case true same = absurd (other (eqb-true of opening same))
    by_case false differs = ap (λ (b : Bool). closes_by b looks faults) differs
