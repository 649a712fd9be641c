-- What an opening of a file reported ends before what a later one reports, if that begins at the end of the first, or later.
use Rattle.std.proofs.Common.{◌≡◌, ◌⊎◌, inl, inr, ℕ, ◌<◌, ◌≤◌, List, [], ◌∷◌, Contains, map, refl, sym, ap, subst, ◌∙◌, arith}
use Rattle.std.proofs.lemmas.List.Elements.{Contains-append_right}
use Rattle.std.specs.List.{AllByRecursion}
use Rattle.harvester.specs.History.{History, Telling, told_to}
use Rattle.kept_rows.specs.Scans.{AreDistinct}
use Rattle.ship_core.proofs.Members.{first_there, none_there, there_cases}
use Rattle.ship_core.specs.CoveredEnd.{Adjoin, AreEqualOrApart, last_end}
use Rattle.slot_parts.specs.Tellings.{tellings_in}
use Rattle.told_events.specs.Told.{ToldEvent, spans_of}
use Rattle.wire_base.specs.Extent.{Extent}
use Rattle.accounts.specs.ToldFile.{AreEpochsFrom}
use Rattle.accounts.specs.Turned.{Turned}
use Rattle.accounts.proofs.Apart.{EachAdjoins, IsInEpochs, epochs_apart, numbers_later}
use Rattle.accounts.proofs.Backing.{mapped_there}
use Rattle.accounts.proofs.LastNotes.{epochs_within}
use Rattle.accounts.proofs.Ordered.{IsSettledEvent}
use Rattle.accounts.proofs.Orderly.{begins_later, events_apart, member_is, same_item}

-- ---- the events of an epoch

pub reaches : (place : ℕ) (told : List ToldEvent) → Adjoin place (spans_of told) → place ≤ last_end place (spans_of told)
reaches place [] adjoin = omega arith
reaches place (first ∷ told) adjoin = let some = adjoin.1 in let later = reaches first.span.end told adjoin.2 in omega (arith, some, later)

ends_within : (place : ℕ) (told : List ToldEvent) (one : ToldEvent) → Adjoin place (spans_of told) → Contains told one → one.span.end ≤ last_end place (spans_of told)
ends_within place [] one adjoin there = absurd (none_there one there)
ends_within place (first ∷ told) one adjoin there = by_case (there_cases first one told there) (ends_within first.span.end told one adjoin.2)
  where
    by_case : (first ≡ one) ⊎ Contains told one → (Contains told one → one.span.end ≤ last_end first.span.end (spans_of told)) → one.span.end ≤ last_end first.span.end (spans_of told)
    by_case (inl same) later =
        let is : first.span.end ≡ one.span.end = ap (λ (e : ToldEvent). e.span.end) same in
        let far = reaches first.span.end told adjoin.2 in
        omega (arith, is, far)
    by_case (inr behind) later = later behind

-- ---- the epochs of a file

abbrev number_of : Telling → ℕ
number_of telling = telling.epoch

-- none is before the first, which begins at the base
pub least_epoch : (epoch base : ℕ) (tellings : List Telling) (telling : Telling) → AreEpochsFrom epoch base tellings → Contains tellings telling →
    (epoch < telling.epoch) ⊎ ((telling.epoch ≡ epoch) × (telling.start ≡ base))
least_epoch epoch base [] telling are there = absurd are
least_epoch epoch base (first ∷ later) telling are there = by_case (there_cases first telling later there)
  where
    by_case : (first ≡ telling) ⊎ Contains later telling → (epoch < telling.epoch) ⊎ ((telling.epoch ≡ epoch) × (telling.start ≡ base))
    by_case (inl same) = inr (ap number_of (sym same) ∙ are.0, ap (λ (t : Telling). t.start) (sym same) ∙ are.1)
    by_case (inr behind) = inl (numbers_later epoch later telling.epoch are.2 (mapped_there number_of later telling behind))

-- ---- two openings

-- what was reported so ends before this place of this epoch, or there
abbrev pub EndsAhead : History → ℕ → ℕ → Type 0
EndsAhead history epoch base = (history.present.epoch < epoch) ⊎ ((history.present.epoch ≡ epoch) × (told_to history.present ≤ base))

-- an event of this epoch of the file
pub record IsEventOf (history : History) (epoch : ℕ) (span : Extent) : Type 0 where
  pub telling : Telling
  pub of_file : Contains (tellings_in history) telling
  pub event : ToldEvent
  pub told : Contains telling.told event
  pub epoch_is : telling.epoch ≡ epoch
  pub span_is : event.span ≡ span

module _ (history : History) (epoch base : ℕ) (from : AreEpochsFrom epoch base (tellings_in history)) (adjoin : EachAdjoins (tellings_in history)) (next_epoch next_base : ℕ) (ends : EndsAhead history next_epoch next_base)
    (later : History) (next_from : AreEpochsFrom next_epoch next_base (tellings_in later)) (next_adjoin : EachAdjoins (tellings_in later))
    (number : ℕ) (span other : Extent) (one : IsEventOf history number span) (two : IsEventOf later number other) where
  most : one.telling.epoch ≤ history.present.epoch
  most = epochs_within epoch base history.past history.present one.telling from one.of_file

  present_there : Contains (tellings_in history) history.present
  present_there = Contains-append_right history.past (history.present ∷ []) history.present (first_there history.present [])

  is_present : one.telling.epoch ≡ history.present.epoch → one.telling ≡ history.present
  is_present same = same_item number_of (tellings_in history) one.telling history.present (epochs_apart epoch base (tellings_in history) from) one.of_file present_there same

  abbrev AdjoinsAt : Telling → Type 0
  AdjoinsAt telling = Adjoin telling.start (spans_of telling.told)

  in_present : one.telling ≡ history.present → one.event.span.end ≤ told_to history.present
  in_present same = ends_within history.present.start history.present.told one.event (member_is AdjoinsAt (tellings_in history) history.present adjoin present_there)
      (subst (λ (t : Telling). Contains t.told one.event) same one.told)

  from_start : two.telling.start ≤ two.event.span.start
  from_start = begins_later two.telling.start two.telling.told two.event (member_is AdjoinsAt (tellings_in later) two.telling next_adjoin two.of_file) two.told

  by_start : EndsAhead history next_epoch next_base → (next_epoch < two.telling.epoch) ⊎ ((two.telling.epoch ≡ next_epoch) × (two.telling.start ≡ next_base)) → one.event.span.end ≤ two.event.span.start
  by_start (inl less) (inl more) = let a = one.epoch_is in let b = two.epoch_is in let m = most in absurd (omega (arith, less, more, a, b, m))
  by_start (inl less) (inr at) = let a = one.epoch_is in let b = two.epoch_is in let m = most in let n = at.0 in absurd (omega (arith, less, n, a, b, m))
  by_start (inr same) (inl more) = let a = one.epoch_is in let b = two.epoch_is in let m = most in let n = same.0 in absurd (omega (arith, more, n, a, b, m))
  by_start (inr same) (inr at) =
      let end = in_present (is_present (one.epoch_is ∙ sym two.epoch_is ∙ at.0 ∙ sym same.0)) in
      let start = from_start in let reached = same.1 in let begins = at.1 in
      omega (arith, end, start, reached, begins)

  pub ends_first : span.end ≤ other.start
  ends_first =
      subst (λ (e : Extent). e.end ≤ other.start) one.span_is (subst (λ (e : Extent). one.event.span.end ≤ e.start) two.span_is
      (by_start ends (least_epoch next_epoch next_base (tellings_in later) two.telling next_from two.of_file)))

-- ---- one opening

pub apart_in_one : (turned : Turned) (is : IsInEpochs turned) (number : ℕ) (span other : Extent) → IsEventOf turned.history number span → IsEventOf turned.history number other → AreEqualOrApart span other
apart_in_one turned is number span other one two =
    subst (λ (e : Extent). AreEqualOrApart e other) one.span_is (subst (AreEqualOrApart one.event.span) two.span_is
    (events_apart (turned ∷ []) ((λ there. none_there turned.slot.0 there), tt) (is, tt) turned turned one.telling two.telling one.event two.event
    (record { of_files = first_there turned []; of_file = one.of_file }) (record { of_files = first_there turned []; of_file = two.of_file }) one.told two.told refl (one.epoch_is ∙ sym two.epoch_is)))

-- ---- what was settled

pub settled_in : (files : List Turned) (slot epoch : ℕ) (span : Extent) (one : IsSettledEvent files slot epoch span) → IsEventOf one.turned.history epoch span
settled_in files slot epoch span one = record { telling = one.telling; of_file = one.of.of_file; event = one.event; told = one.told; epoch_is = one.epoch_is; span_is = one.span_is }

-- of files with slots of their own
pub settled_apart : (files : List Turned) → AreDistinct (map (λ (turned : Turned). turned.slot.0) files) → AllByRecursion IsInEpochs files → (slot epoch : ℕ) (span other : Extent)
    (one : IsSettledEvent files slot epoch span) (two : IsSettledEvent files slot epoch other) → AreEqualOrApart span other
settled_apart files apart epochs slot epoch span other one two =
    subst (λ (e : Extent). AreEqualOrApart e other) one.span_is (subst (AreEqualOrApart one.event.span) two.span_is
    (events_apart files apart epochs one.turned two.turned one.telling two.telling one.event two.event one.of two.of one.told two.told (one.slot_is ∙ sym two.slot_is) (one.epoch_is ∙ sym two.epoch_is)))
