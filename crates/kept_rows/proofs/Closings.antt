-- The looks of a tail that was closed are those of its closing, wherever in the list its opening stands and whatever is
-- before that.
use Rattle.std.proofs.Common.{◌≡◌, ℕ, suc, ◌<◌, drop, List, [], ◌∷◌, ◌++◌, length, Option, Some, None, option_map, refl, ap, ◌∙◌}
use Rattle.std.specs.List.{AllByRecursion}
use Rattle.std.proofs.lemmas.Bool.{eq-eqb}
use Rattle.std.proofs.lemmas.List.{drop-append-le}
use Rattle.outside.specs.declared.history.Look.{Look}
use Rattle.outside.specs.Folders.{Closed, Event}
use Rattle.kept_rows.specs.Trace.{Closing, Trace, closing_by, closing_in, closing_of, first_of_two, looks_of, open_looks_in}

-- none of these closes the tail of this opening
abbrev pub CloseOthers : ℕ → List Event → Type 0
CloseOthers opening events = AllByRecursion (λ event. closing_by opening event ≡ None) events

closes_here : (opening faults : ℕ) (looks : List Look) → closing_by opening (Closed opening looks faults) ≡ Some (record { looks = looks; faults = faults })
closes_here opening faults looks = rw (eq-eqb opening opening refl) refl

-- the closing of the tail is the first that closes it
pub first_closing : (opening faults : ℕ) (looks : List Look) (front behind : List Event) → CloseOthers opening front →
    closing_in opening (front ++ Closed opening looks faults ∷ behind) ≡ Some (record { looks = looks; faults = faults })
first_closing opening faults looks [] behind others =
    ap (λ (o : Option Closing). first_of_two o (closing_in opening behind)) (closes_here opening faults looks)
first_closing opening faults looks (event ∷ front) behind others =
    ap (λ (o : Option Closing). first_of_two o (closing_in opening (front ++ Closed opening looks faults ∷ behind))) others.0
    ∙ first_closing opening faults looks front behind others.1

pub closing_behind : (trace : Trace) (opening faults : ℕ) (looks : List Look) (front behind : List Event) → trace.events ≡ front ++ Closed opening looks faults ∷ behind →
    opening < length front → CloseOthers opening (drop (suc opening) front) → closing_of trace opening ≡ Some (record { looks = looks; faults = faults })
closing_behind trace opening faults looks front behind are later others =
    ap (λ (l : List Event). closing_in opening (drop (suc opening) l)) are
    ∙ ap (λ (l : List Event). closing_in opening l) (drop-append-le (suc opening) front (Closed opening looks faults ∷ behind) later)
    ∙ first_closing opening faults looks (drop (suc opening) front) behind others

pub looks_of_closed : (trace : Trace) (opening faults : ℕ) (looks : List Look) (front behind : List Event) → trace.events ≡ front ++ Closed opening looks faults ∷ behind →
    opening < length front → CloseOthers opening (drop (suc opening) front) → looks_of trace opening ≡ Some looks
looks_of_closed trace opening faults looks front behind are later others =
    ap (λ (o : Option Closing). first_of_two (option_map (λ (c : Closing). c.looks) o) (open_looks_in opening trace.open_tails))
    (closing_behind trace opening faults looks front behind are later others)
