-- What was reported of files over all their openings is, as often, what each of their tails reported, with the epochs that were announced as files
-- were opened again.
use Rattle.std.proofs.Common.{◌≡◌, ℕ, ◌+◌, ◌==◌, Bool, true, false, List, [], ◌∷◌, ◌++◌, length, map, Option, None, Some, refl, sym, ap, ◌∙◌, append_assoc, append-nil, arith, if◌then◌else◌}
use Rattle.std.specs.List.{flat_map}
use Rattle.std.proofs.lemmas.Bool.{eqb-true}
use Rattle.std.proofs.lemmas.List.{length-append}
use Rattle.harvester.specs.History.{History, Telling}
use Rattle.kept_rows.specs.Followed.{Start}
use Rattle.pass_sums.proofs.Weights.{weigh-append}
use Rattle.pass_sums.specs.Weight.{AsOften, weigh}
use Rattle.slot_parts.specs.Tellings.{tellings_in}
use Rattle.told_events.specs.Told.{ToldEvent}
use Rattle.wire_base.specs.declared.note.Note.{Note}
use Rattle.wire_base.specs.declared.note.Note.TheVariants.{Announce}
use Rattle.wire_base.specs.declared.numbers.Slot.{Slot}
use Rattle.wire_base.specs.declared.parcel.Parcel.{Parcel}
use Rattle.accounts.specs.Filed.{Filed, Opening, told_behind, told_both, told_on, told_over, turned_in, turned_of, untold_by}
use Rattle.accounts.specs.OpenedAgain.{announced_after, announced_again, announced_first, announced_over, each_turned, turned_by}
use Rattle.accounts.specs.Turned.{Turned, announced_in, events_in, notes_in, notes_told, parcels_by, parcels_in, parcels_told, settlements_by, settlements_in, spans_in}
use Rattle.accounts.proofs.Lists.{flat_map_both, flat_map_last}
use Rattle.accounts.proofs.Reopened.{behind_tellings, tellings_behind}

-- ---- of each epoch a list, which goes on as its epoch does

module _ {A : Type 0} (f : Telling → List A) (on : (before next : Telling) → next.epoch ≡ before.epoch → f (told_on before next) ≡ f before ++ f next) where
  behind_of : (present : Telling) (later : List Telling) → flat_map f (behind_tellings present later) ≡ f present ++ flat_map f later
  behind_of present [] = refl
  behind_of present (first ∷ later) = by_case (first.epoch == present.epoch) refl
    where
      by_case : (b : Bool) → (first.epoch == present.epoch) ≡ b →
          flat_map f (if b then told_on present first ∷ later else present ∷ first ∷ later) ≡ f present ++ (f first ++ flat_map f later)
      by_case true e =
          ap (λ (l : List A). l ++ flat_map f later) (on present first (eqb-true first.epoch present.epoch e)) ∙ append_assoc (f present) (f first) (flat_map f later)
      by_case false e = refl

  both_of : (so_far next : History) → flat_map f (tellings_in (told_both so_far next)) ≡ flat_map f (tellings_in so_far) ++ flat_map f (tellings_in next)
  both_of so_far next =
      ap (flat_map f) (tellings_behind so_far.past so_far.present next next.past)
      ∙ flat_map_both f so_far.past (behind_tellings so_far.present (tellings_in next))
      ∙ ap (λ (l : List A). flat_map f so_far.past ++ l) (behind_of so_far.present (tellings_in next))
      ∙ sym (append_assoc (flat_map f so_far.past) (f so_far.present) (flat_map f (tellings_in next)))
      ∙ ap (λ (l : List A). l ++ flat_map f (tellings_in next)) (sym (flat_map_last f so_far.past so_far.present))

  over_of : (so_far : History) (later : List Opening) →
      flat_map f (tellings_in (told_over so_far later)) ≡ flat_map f (tellings_in so_far) ++ flat_map (λ (one : Opening). flat_map f (tellings_in one.history)) later
  over_of so_far [] = sym (append-nil (flat_map f (tellings_in so_far)))
  over_of so_far (next ∷ later) =
      let rest = flat_map (λ (one : Opening). flat_map f (tellings_in one.history)) later in
      over_of (told_both so_far next.history) later
      ∙ ap (λ (l : List A). l ++ rest) (both_of so_far next.history)
      ∙ append_assoc (flat_map f (tellings_in so_far)) (flat_map f (tellings_in next.history)) rest

-- ---- an epoch of which nothing was told

module _ (slot : Slot) where
  behind_gave : (from : Option Start) (h : History) → flat_map (parcels_in slot) (tellings_in (told_behind (untold_by from) h)) ≡ flat_map (parcels_in slot) (tellings_in h)
  behind_gave None h = refl
  behind_gave (Some start) h = refl

  -- the first tail's epoch is announced
  behind_announced : (from : Option Start) (h : History) →
      notes_in slot (tellings_in (told_behind (untold_by from) h)) ≡ announced_first slot from (tellings_in h) ++ notes_in slot (tellings_in h)
  behind_announced None h = refl
  behind_announced (Some start) h = by_past h.past
    where
      by_past : (past : List Telling) →
          flat_map (announced_in slot) (past ++ h.present ∷ []) ≡ announced_first slot (Some start) (past ++ h.present ∷ []) ++ notes_in slot (past ++ h.present ∷ [])
      by_past [] = refl
      by_past (one ∷ past) = refl

  -- what later tails told leaves it the first
  still_first : (from : Option Start) (so_far : History) (later : List Opening) →
      announced_first slot from (tellings_in (told_over so_far later)) ≡ announced_first slot from (tellings_in so_far)
  still_first None so_far later = refl
  still_first (Some start) so_far [] = refl
  still_first (Some start) so_far (next ∷ later) =
      still_first (Some start) (told_both so_far next.history) later
      ∙ ap (announced_first slot (Some start)) (tellings_behind so_far.past so_far.present next.history next.history.past)
      ∙ by_past so_far.past (next.history.past ++ next.history.present ∷ [])
    where
      by_past : (past tellings : List Telling) →
          announced_first slot (Some start) (past ++ behind_tellings so_far.present tellings) ≡ announced_first slot (Some start) (past ++ so_far.present ∷ [])
      by_past (one ∷ past) tellings = refl
      by_past [] [] = refl
      by_past [] (first ∷ others) = by_case (first.epoch == so_far.present.epoch)
        where
          by_case : (b : Bool) → announced_first slot (Some start) (if b then told_on so_far.present first ∷ others else so_far.present ∷ first ∷ others)
              ≡ announced_first slot (Some start) (so_far.present ∷ [])
          by_case true = refl
          by_case false = refl

behind_events : (from : Option Start) (h : History) → events_in (tellings_in (told_behind (untold_by from) h)) ≡ events_in (tellings_in h)
behind_events None h = refl
behind_events (Some start) h = omega arith

-- ---- parcels

parcels_on : (slot : Slot) (before next : Telling) → next.epoch ≡ before.epoch → parcels_in slot (told_on before next) ≡ parcels_in slot before ++ parcels_in slot next
parcels_on slot before next same =
    flat_map_both (λ (one : ToldEvent). parcels_by slot before.epoch one.span one.fate) before.told next.told
    ∙ ap (λ (n : ℕ). parcels_in slot before ++ flat_map (λ (one : ToldEvent). parcels_by slot n one.span one.fate) next.told) (sym same)

each_mapped : {A : Type 0} (f : Turned → List A) (slot : Slot) (later : List Opening) → flat_map (λ (one : Opening). f (turned_by slot one)) later ≡ flat_map f (map (turned_by slot) later)
each_mapped f slot [] = refl
each_mapped f slot (one ∷ later) = ap (λ l. f (turned_by slot one) ++ l) (each_mapped f slot later)

parcels_of_file : (file : Filed) → parcels_told (turned_in file) ≡ flat_map parcels_told (each_turned file)
parcels_of_file file =
    behind_gave file.turned.slot file.shrank_from (told_over file.turned.history file.later)
    ∙ over_of (parcels_in file.turned.slot) (parcels_on file.turned.slot) file.turned.history file.later
    ∙ ap (λ (l : List Parcel). parcels_told file.turned ++ l) (each_mapped parcels_told file.turned.slot file.later)

pub parcels_of_all : (files : List Filed) → flat_map parcels_told (turned_of files) ≡ flat_map parcels_told (flat_map each_turned files)
parcels_of_all [] = refl
parcels_of_all (file ∷ files) =
    (λ k. parcels_of_file file k ++ parcels_of_all files k)
    ∙ sym (flat_map_both parcels_told (each_turned file) (flat_map each_turned files))

-- ---- spans

abbrev told_in_all : List Telling → List ToldEvent
told_in_all tellings = flat_map (λ (telling : Telling). telling.told) tellings

events_are : (tellings : List Telling) → events_in tellings ≡ length (told_in_all tellings)
events_are [] = refl
events_are (telling ∷ tellings) = ap (λ (n : ℕ). length telling.told + n) (events_are tellings) ∙ sym (length-append telling.told (told_in_all tellings))

events_both : (so_far next : History) → events_in (tellings_in (told_both so_far next)) ≡ events_in (tellings_in so_far) + events_in (tellings_in next)
events_both so_far next =
    events_are (tellings_in (told_both so_far next))
    ∙ ap length (both_of (λ (telling : Telling). telling.told) (λ before after same. refl) so_far next)
    ∙ length-append (told_in_all (tellings_in so_far)) (told_in_all (tellings_in next))
    ∙ (λ k. sym (events_are (tellings_in so_far)) k + sym (events_are (tellings_in next)) k)

spans_over : (slot : Slot) (so_far : History) (later : List Opening) → events_in (tellings_in (told_over so_far later)) ≡ events_in (tellings_in so_far) + spans_in (map (turned_by slot) later)
spans_over slot so_far [] = omega arith
spans_over slot so_far (next ∷ later) =
    let behind = spans_over slot (told_both so_far next.history) later in
    let both = events_both so_far next.history in
    omega (arith, behind, both)

pub spans_of_both : (first second : List Turned) → spans_in (first ++ second) ≡ spans_in first + spans_in second
spans_of_both [] second = omega arith
spans_of_both (one ∷ first) second = let rest = spans_of_both first second in omega (arith, rest)

pub spans_of_all : (files : List Filed) → spans_in (turned_of files) ≡ spans_in (flat_map each_turned files)
spans_of_all [] = refl
spans_of_all (file ∷ files) =
    let before = behind_events file.shrank_from (told_over file.turned.history file.later) in
    let own = spans_over file.turned.slot file.turned.history file.later in
    let others = spans_of_all files in
    let both = spans_of_both (each_turned file) (flat_map each_turned files) in
    omega (arith, before, own, others, both)

-- ---- notes

module _ (slot : Slot) where
  settlements_on : (before next : Telling) → next.epoch ≡ before.epoch → settlements_in slot (told_on before next) ≡ settlements_in slot before ++ settlements_in slot next
  settlements_on before next same =
      flat_map_both (λ (one : ToldEvent). settlements_by slot before.epoch one.span one.fate) before.told next.told
      ∙ ap (λ (n : ℕ). settlements_in slot before ++ flat_map (λ (one : ToldEvent). settlements_by slot n one.span one.fate) next.told) (sym same)

  first_notes : (present : Telling) (later : List Telling) →
      notes_in slot (behind_tellings present later) ≡ settlements_in slot present ++ (announced_after slot present later ++ notes_in slot later)
  first_notes present [] = refl
  first_notes present (first ∷ later) = by_case (first.epoch == present.epoch) refl
    where
      more : List Note
      more = flat_map (announced_in slot) later

      by_case : (b : Bool) → (first.epoch == present.epoch) ≡ b →
          notes_in slot (if b then told_on present first ∷ later else present ∷ first ∷ later)
          ≡ settlements_in slot present ++ ((if b then [] else Announce slot (record { 0 = first.epoch }) ∷ []) ++ (settlements_in slot first ++ more))
      by_case true e =
          ap (λ (l : List Note). l ++ more) (settlements_on present first (eqb-true first.epoch present.epoch e))
          ∙ append_assoc (settlements_in slot present) (settlements_in slot first) more
      by_case false e = refl

  later_notes : (present : Telling) (later : List Telling) →
      flat_map (announced_in slot) (behind_tellings present later) ≡ announced_in slot present ++ (announced_after slot present later ++ notes_in slot later)
  later_notes present [] = refl
  later_notes present (first ∷ later) = by_case (first.epoch == present.epoch) refl
    where
      more : List Note
      more = flat_map (announced_in slot) later

      by_case : (b : Bool) → (first.epoch == present.epoch) ≡ b →
          flat_map (announced_in slot) (if b then told_on present first ∷ later else present ∷ first ∷ later)
          ≡ announced_in slot present ++ ((if b then [] else Announce slot (record { 0 = first.epoch }) ∷ []) ++ (settlements_in slot first ++ more))
      by_case true e =
          ap (λ (l : List Note). (Announce slot (record { 0 = present.epoch }) ∷ l) ++ more) (settlements_on present first (eqb-true first.epoch present.epoch e))
          ∙ append_assoc (announced_in slot present) (settlements_in slot first) more
      by_case false e = refl

  notes_past : (past : List Telling) (present : Telling) (later : List Telling) →
      notes_in slot (past ++ behind_tellings present later) ≡ notes_in slot (past ++ present ∷ []) ++ (announced_after slot present later ++ notes_in slot later)
  notes_past [] present later =
      let rest = announced_after slot present later ++ notes_in slot later in
      first_notes present later ∙ ap (λ (l : List Note). l ++ rest) (sym (append-nil (settlements_in slot present)))
  notes_past (one ∷ past) present later =
      let rest = announced_after slot present later ++ notes_in slot later in
      let own = settlements_in slot one in
      let before = flat_map (announced_in slot) past in
      ap (λ (l : List Note). own ++ l)
      (flat_map_both (announced_in slot) past (behind_tellings present later)
      ∙ ap (λ (l : List Note). before ++ l) (later_notes present later)
      ∙ sym (append_assoc before (announced_in slot present) rest)
      ∙ ap (λ (l : List Note). l ++ rest) (sym (flat_map_last (announced_in slot) past present)))
      ∙ sym (append_assoc own (flat_map (announced_in slot) (past ++ present ∷ [])) rest)

  notes_both : (so_far next : History) →
      notes_in slot (tellings_in (told_both so_far next))
      ≡ notes_in slot (tellings_in so_far) ++ (announced_after slot so_far.present (tellings_in next) ++ notes_in slot (tellings_in next))
  notes_both so_far next =
      ap (notes_in slot) (tellings_behind so_far.past so_far.present next next.past)
      ∙ notes_past so_far.past so_far.present (tellings_in next)

  notes_over : (so_far : History) (later : List Opening) →
      AsOften (notes_in slot (tellings_in (told_over so_far later)))
      (notes_in slot (tellings_in so_far) ++ (flat_map notes_told (map (turned_by slot) later) ++ announced_over slot so_far later))
  notes_over so_far [] h = sym (ap (weigh h) (append-nil (notes_in slot (tellings_in so_far))))
  notes_over so_far (next ∷ later) h =
      let told = tellings_in next.history in
      let own = notes_in slot (tellings_in so_far) in
      let again = announced_after slot so_far.present told in
      let others = flat_map notes_told (map (turned_by slot) later) in
      let later_again = announced_over slot (told_both so_far next.history) later in
      let behind = notes_over (told_both so_far next.history) later h in
      let both = ap (weigh h) (notes_both so_far next.history) in
      let a = weigh-append h (notes_in slot (tellings_in (told_both so_far next.history))) (others ++ later_again) in
      let b = weigh-append h own (again ++ notes_in slot told) in
      let c = weigh-append h again (notes_in slot told) in
      let d = weigh-append h others later_again in
      let e = weigh-append h own ((notes_in slot told ++ others) ++ (again ++ later_again)) in
      let f = weigh-append h (notes_in slot told ++ others) (again ++ later_again) in
      let g = weigh-append h (notes_in slot told) others in
      let i = weigh-append h again later_again in
      omega (arith, behind, both, a, b, c, d, e, f, g, i)

pub notes_of_all : (files : List Filed) → AsOften (flat_map notes_told (turned_of files)) (flat_map notes_told (flat_map each_turned files) ++ flat_map announced_again files)
notes_of_all [] h = refl
notes_of_all (file ∷ files) h =
    let first = notes_told file.turned in
    let later = flat_map notes_told (map (turned_by file.turned.slot) file.later) in
    let rise = announced_first file.turned.slot file.shrank_from (tellings_in file.turned.history) in
    let over = announced_over file.turned.slot file.turned.history file.later in
    let all = told_over file.turned.history file.later in
    let before =
    ap (weigh h) (behind_announced file.turned.slot file.shrank_from all
    ∙ ap (λ (l : List Note). l ++ notes_in file.turned.slot (tellings_in all)) (still_first file.turned.slot file.shrank_from file.turned.history file.later)) in
    let own = notes_over file.turned.slot file.turned.history file.later h in
    let others = notes_of_all files h in
    let k = weigh-append h rise (notes_in file.turned.slot (tellings_in all)) in
    let l = weigh-append h rise over in
    let rest = flat_map notes_told (flat_map each_turned files) in
    let again = flat_map announced_again files in
    let a = weigh-append h (notes_told (turned_in file)) (flat_map notes_told (turned_of files)) in
    let b = weigh-append h first (later ++ over) in
    let c = weigh-append h later over in
    let d = weigh-append h rest again in
    let e = weigh-append h (flat_map notes_told (each_turned file ++ flat_map each_turned files)) (announced_again file ++ again) in
    let f = ap (weigh h) (flat_map_both notes_told (each_turned file) (flat_map each_turned files)) in
    let g = weigh-append h (first ++ later) rest in
    let i = weigh-append h first later in
    let j = weigh-append h (announced_again file) again in
    omega (arith, before, own, others, a, b, c, d, e, f, g, i, j, k, l)
