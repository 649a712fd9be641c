-- What the folder showed once a file was opened again: its last opening is among those before, and the next one took its place.
use Rattle.std.proofs.Common.{◌≡◌, ◌⊎◌, inl, inr, ⊎_elim, ◌==◌, Bool, true, false, List, [], ◌∷◌, ◌++◌, Contains, length, refl, sym, ap, subst, ◌∙◌, arith}
use Rattle.std.proofs.lemmas.Bool.{eq-eqb, eqb-true}
use Rattle.std.proofs.lemmas.List.{map-append}
use Rattle.std.proofs.lemmas.List.Elements.{Contains-append_cases, Contains-append_left, Contains-append_right}
use Rattle.std.specs.List.{AllByRecursion}
use Rattle.accounts.specs.Opened.{Opened as OpenedFile}
use Rattle.accounts.proofs.Backing.{mapped_there}
use Rattle.accounts.proofs.Grounded.{each_member, of_map}
use Rattle.accounts.proofs.Lists.{each_last}
use Rattle.accounts.proofs.Orderly.{member_is}
use Rattle.event_tree.specs.declared.settings.Settings.{Settings}
use Rattle.kept_rows.specs.Scans.{AreDistinct}
use Rattle.outside.specs.Folders.{Event, FolderHistory}
use Rattle.ship_core.proofs.Members.{first_there, later_there, none_there, there_cases}
use Rattle.run_steps.specs.OpenedAgain.{IsClosedLast}
use Rattle.run_steps.specs.Shown.{HasDone, IsStillOpen, IsTurnedIn, WasClosedAs, WasClosedInTurn, openings_of}
use Rattle.run_steps.specs.LaterScans.{told_in}
use Rattle.run_steps.specs.SoFar.{Earlier, FilesSoFar, Left, SoFar, files_of, opened_before, openings_within, with_opening}
use Rattle.run_steps.proofs.Closing.{closed_in_turn}
use Rattle.run_steps.proofs.EarlierMore.{slot_numbers}
use Rattle.run_steps.proofs.Openings.{Adds, AreThose, below_all, done_on, earlier_stays, left_stays, openings_below, still_stays, with_more}
use Rattle.run_steps.proofs.WithOpening.{IsOther, all_apart, members, next_there, others_there}

-- ---- lists

-- of those before and behind one, and that one
pub with_it_there : {A : Type 0} (before behind : List A) (x other : A) → Contains (before ++ behind) other → Contains (before ++ x ∷ behind) other
with_it_there before behind x other there =
    ⊎_elim (λ here. Contains-append_left before (x ∷ behind) other here)
    (λ later. Contains-append_right before (x ∷ behind) other (later_there x other behind later))
    (Contains-append_cases before behind other there)

pub it_there : {A : Type 0} (before behind : List A) (x : A) → Contains (before ++ x ∷ behind) x
it_there before behind x = Contains-append_right before (x ∷ behind) x (first_there x behind)

-- ---- the folder

module _ (settings : Settings) (first now : FolderHistory) (so_far : SoFar) (done : HasDone settings first now (files_of so_far)) (last : OpenedFile) (closed : IsClosedLast (files_of so_far) last)
    (next : OpenedFile) (same : last.begin.slot.0 ≡ next.begin.slot.0) (slots : AreDistinct (slot_numbers so_far.opened)) (only : (other : OpenedFile) → Contains so_far.opened other → other.begin.slot.0 ≡ last.begin.slot.0 → last ≡ other)
    (at : next.opening ≡ length now.events) (more : List Event) (adds : Adds now more (next ∷ [])) (after : FilesSoFar) (scans_are : after.scans ≡ so_far.scans)
    (earlier_are : after.earlier ≡ so_far.earlier ++ record { opened = last; left = closed.left; next = next } ∷ []) (opened_are : after.opened ≡ with_opening next so_far.opened) where
  abbrev before : List OpenedFile
  before = opened_before so_far.earlier

  within_are : openings_within after ≡ (before ++ last ∷ []) ++ with_opening next so_far.opened
  within_are = ap (λ (l : List Earlier). opened_before l ++ after.opened) earlier_are ∙ ap (λ (l : List OpenedFile). l ++ after.opened) (map-append (λ (e : Earlier). e.opened) so_far.earlier _)
      ∙ ap (λ (l : List OpenedFile). (before ++ last ∷ []) ++ l) opened_are

  abbrev was : List OpenedFile
  was = before ++ so_far.opened

  here : (one : OpenedFile) → Contains ((before ++ last ∷ []) ++ with_opening next so_far.opened) one → Contains was one ⊎ Contains (next ∷ []) one
  here one there =
      ⊎_elim (λ front. ⊎_elim (λ early. inl (Contains-append_left before so_far.opened one early))
      (λ behind. ⊎_elim (λ (is : last ≡ one). inl (Contains-append_right before so_far.opened one (subst (Contains so_far.opened) is closed.among))) (λ none. absurd (none_there one none)) (there_cases last one [] behind))
      (Contains-append_cases before (last ∷ []) one front))
      (λ new. ⊎_elim (λ is. inr (subst (Contains (next ∷ [])) (sym is) (first_there next []))) (λ old. inl (Contains-append_right before so_far.opened one old.0)) (members next so_far.opened one new))
      (Contains-append_cases (before ++ last ∷ []) (with_opening next so_far.opened) one there)

  old_there : (one : OpenedFile) → Contains was one → Contains ((before ++ last ∷ []) ++ with_opening next so_far.opened) one
  old_there one there =
      ⊎_elim (λ early. Contains-append_left (before ++ last ∷ []) (with_opening next so_far.opened) one (Contains-append_left before (last ∷ []) one early))
      (λ of_last. by_slot of_last (one.begin.slot.0 == next.begin.slot.0) refl) (Contains-append_cases before so_far.opened one there)
    where
      by_slot : Contains so_far.opened one → (b : Bool) → (one.begin.slot.0 == next.begin.slot.0) ≡ b → Contains ((before ++ last ∷ []) ++ with_opening next so_far.opened) one
      by_slot among true e =
          let it : last ≡ one = only one among (eqb-true one.begin.slot.0 next.begin.slot.0 e ∙ sym same) in
          subst (Contains ((before ++ last ∷ []) ++ with_opening next so_far.opened)) it
          (Contains-append_left (before ++ last ∷ []) (with_opening next so_far.opened) last (Contains-append_right before (last ∷ []) last (first_there last [])))
      by_slot among false e =
          Contains-append_right (before ++ last ∷ []) (with_opening next so_far.opened) one (others_there next so_far.opened one among
          (λ is. let yes = eq-eqb one.begin.slot.0 next.begin.slot.0 is in let q : true ≡ false = sym yes ∙ e in cc))

  are_those : AreThose settings first now so_far done more (next ∷ []) adds after
  are_those = record {
    scans_are = scans_are;
    opened = λ one there. here one (subst (λ (l : List OpenedFile). Contains l one) within_are there);
    there = λ opening there. subst (λ (l : List OpenedFile). Contains (openings_of l) opening) (sym within_are)
        (⊎_elim (λ old. let of = of_map (λ (o : OpenedFile). o.opening) was opening old in
        subst (Contains (openings_of ((before ++ last ∷ []) ++ with_opening next so_far.opened))) of.is (mapped_there (λ (o : OpenedFile). o.opening) _ of.item (old_there of.item of.among)))
        (λ new. ⊎_elim (λ (is : next.opening ≡ opening).
        subst (Contains (openings_of ((before ++ last ∷ []) ++ with_opening next so_far.opened))) is
        (mapped_there (λ (o : OpenedFile). o.opening) _ next
        (Contains-append_right (before ++ last ∷ []) (with_opening next so_far.opened) next (next_there next so_far.opened last closed.among same))))
        (λ none. absurd (none_there opening none)) (there_cases next.opening opening [] new)) there);
    apart = subst (λ (l : List OpenedFile). AreDistinct (openings_of l)) (sym within_are)
        (all_apart next before so_far.opened last closed.among (sym same) slots done.apart
        (λ n there. let below = openings_below first (told_in so_far.scans) now was done.opened n there in omega (arith, below, at)));
  }

  -- tails that were closed stay so
  old_left_stays : AllByRecursion (WasClosedAs (with_more now more)) (closed.before ++ closed.behind)
  old_left_stays = each_member (WasClosedAs (with_more now more)) (closed.before ++ closed.behind) (λ l there.
      member_is (WasClosedAs (with_more now more)) so_far.left l (left_stays settings first now so_far done more so_far.left done.closed)
      (subst (λ (ls : List Left). Contains ls l) (sym closed.left_are) (with_it_there closed.before closed.behind closed.left l there)))

  its_left_stays : WasClosedAs (with_more now more) closed.left
  its_left_stays = member_is (WasClosedAs (with_more now more)) so_far.left closed.left (left_stays settings first now so_far done more so_far.left done.closed)
      (subst (λ (ls : List Left). Contains ls closed.left) (sym closed.left_are) (it_there closed.before closed.behind closed.left))

  -- and it was closed before the next one was opened
  abbrev pub one : Earlier
  one = record { opened = last; left = closed.left; next = next }

  its_turn : WasClosedInTurn (with_more now more) one
  its_turn = record {
    closed = its_left_stays;
    in_turn = closed_in_turn now more next.opening at closed.left.told
        (member_is (WasClosedAs now) so_far.left closed.left done.closed
        (subst (λ (ls : List Left). Contains ls closed.left) (sym closed.left_are) (it_there closed.before closed.behind closed.left)));
  }

  pub opened_again_done : AllByRecursion (WasClosedAs (with_more now more)) after.left → ((other : OpenedFile) → IsOther next other → IsTurnedIn after other → IsTurnedIn (files_of so_far) other) →
      (IsTurnedIn after next → IsStillOpen (with_more now more) next.opening) → HasDone settings first (with_more now more) after
  opened_again_done left_closed turned_before itself = done_on settings first now so_far done more (next ∷ []) adds after are_those left_closed
      (subst (AllByRecursion (WasClosedInTurn (with_more now more))) (sym earlier_are)
      (each_last (WasClosedInTurn (with_more now more)) so_far.earlier one (earlier_stays settings first now so_far done more so_far.earlier done.closed_before) its_turn))
      (λ one there turned. ⊎_elim
      (λ (is : one ≡ next). subst (λ (o : OpenedFile). IsStillOpen (with_more now more) o.opening) (sym is) (itself (subst (IsTurnedIn after) is turned)))
      (λ old.
      let below = below_all settings first now so_far done one old.0 in
      still_stays settings first now so_far done more one.opening below (adds.closes_none one.opening below) (done.still_open one old.0 (turned_before one old.1 turned)))
      (members next so_far.opened one (subst (λ (l : List OpenedFile). Contains l one) opened_are there)))

  pub others_left : AllByRecursion (WasClosedAs (with_more now more)) (closed.before ++ closed.behind)
  others_left = old_left_stays
