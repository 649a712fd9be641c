-- What was reported of a file over its openings, one after another: its epochs are numbered from the first on, and the spans of each
-- adjoin from its start.
use Rattle.std.proofs.Common.{◌≡◌, ◌⊎◌, inl, inr, ℕ, ◌+◌, ◌==◌, nat_le, Bool, true, false, List, [], ◌∷◌, ◌++◌, refl, sym, ap, subst, ◌∙◌, append_assoc, arith, if◌then◌else◌}
use Rattle.std.specs.List.{AllByRecursion, flat_map}
use Rattle.std.proofs.lemmas.Bool.{cond-false, eq-eqb, eqb-true, ne_eqb}
use Rattle.harvester.specs.History.{History, Telling, told_to}
use Rattle.kept_rows.specs.Followed.{Start}
use Rattle.ship_core.specs.CoveredEnd.{Adjoin, last_end}
use Rattle.slot_parts.specs.Account.{goes_on}
use Rattle.slot_parts.specs.Tails.{started}
use Rattle.slot_parts.specs.Tellings.{AreNumberedFrom, tellings_in}
use Rattle.told_events.proofs.Going.{all_behind}
use Rattle.told_events.specs.Told.{ToldEvent, spans_of}
use Rattle.accounts.specs.Filed.{Opening, epochs_behind, told_both, told_on, told_over}
use Rattle.accounts.specs.ToldFile.{AreEpochsFrom}
use Rattle.accounts.proofs.Apart.{EachAdjoins}
use Rattle.accounts.proofs.Lists.{each_front, last_of_each}

-- ---- where an opening goes on

-- in the epoch from where it was reported, or in the next one from the first byte
abbrev pub GoesOnFrom : ℕ → ℕ → ℕ → ℕ → Type 0
GoesOnFrom epoch place next base = ((next ≡ epoch) × (base ≡ place)) ⊎ ((next ≡ epoch + 1) × (base ≡ 0))

pub goes_on_from : (epoch place size next base : ℕ) → started next base ≡ goes_on epoch place size → GoesOnFrom epoch place next base
goes_on_from epoch place size next base is = by_case (nat_le place size) is
  where
    by_case : (b : Bool) → started next base ≡ (if b then record { epoch = epoch; base = place } else record { epoch = epoch + 1; base = 0 }) → GoesOnFrom epoch place next base
    by_case true is = inl (ap (λ (s : Start). s.epoch) is, ap (λ (s : Start). s.base) is)
    by_case false is = inr (ap (λ (s : Start). s.epoch) is, ap (λ (s : Start). s.base) is)

-- ---- the epochs of two histories

-- these after an epoch that was reported so far
abbrev pub behind_tellings : Telling → List Telling → List Telling
behind_tellings present [] = present ∷ []
behind_tellings present (first ∷ later) = if first.epoch == present.epoch then told_on present first ∷ later else present ∷ first ∷ later

pub tellings_behind : (past : List Telling) (present : Telling) (next : History) (earlier : List Telling) →
    tellings_in (epochs_behind past present next earlier) ≡ past ++ behind_tellings present (earlier ++ next.present ∷ [])
tellings_behind past present next [] = by_case (next.present.epoch == present.epoch)
  where
    by_case : (b : Bool) → tellings_in (if b then record next { past = past; present = told_on present next.present } else record next { past = past ++ present ∷ [] })
        ≡ past ++ (if b then told_on present next.present ∷ [] else present ∷ next.present ∷ [])
    by_case true = refl
    by_case false = append_assoc past (present ∷ []) (next.present ∷ [])
tellings_behind past present next (first ∷ later) = by_case (first.epoch == present.epoch)
  where
    by_case : (b : Bool) → tellings_in (if b then record next { past = past ++ told_on present first ∷ later } else record next { past = past ++ present ∷ first ∷ later })
        ≡ past ++ (if b then told_on present first ∷ (later ++ next.present ∷ []) else present ∷ first ∷ (later ++ next.present ∷ []))
    by_case true = append_assoc past (told_on present first ∷ later) (next.present ∷ [])
    by_case false = append_assoc past (present ∷ first ∷ later) (next.present ∷ [])

-- ---- their numbers

numbered_behind : (before : ℕ) (past : List Telling) (present : Telling) (new : List Telling) →
    ((n : ℕ) → present.epoch ≡ n + 1 → present.start ≡ 0 → AreNumberedFrom n new) → AreNumberedFrom before (past ++ present ∷ []) → AreNumberedFrom before (past ++ new)
numbered_behind before [] present new so are = so before are.0 are.1
numbered_behind before (one ∷ past) present new so are = (are.0, are.1, numbered_behind (before + 1) past present new so are.2)

epochs_with : (epoch base : ℕ) (past : List Telling) (present : Telling) (new : List Telling) →
    ((n : ℕ) → present.epoch ≡ n + 1 → present.start ≡ 0 → AreNumberedFrom n new) → (present.epoch ≡ epoch → present.start ≡ base → AreEpochsFrom epoch base new) →
    AreEpochsFrom epoch base (past ++ present ∷ []) → AreEpochsFrom epoch base (past ++ new)
epochs_with epoch base [] present new so first are = first are.0 are.1
epochs_with epoch base (one ∷ past) present new so first are = (are.0, are.1, numbered_behind epoch past present new so are.2)

module _ (present first : Telling) (later : List Telling) (goes : GoesOnFrom present.epoch (told_to present) first.epoch first.start) (numbered : AreNumberedFrom first.epoch later) where
  another : (first.epoch == present.epoch) ≡ false → (first.epoch ≡ present.epoch + 1) × (first.start ≡ 0)
  another e = by_case goes
    where
      by_case : GoesOnFrom present.epoch (told_to present) first.epoch first.start → (first.epoch ≡ present.epoch + 1) × (first.start ≡ 0)
      by_case (inl same) = absurd (let no : true ≡ false = sym (eq-eqb first.epoch present.epoch same.0) ∙ e in cc)
      by_case (inr next) = next

  the_same : (first.epoch == present.epoch) ≡ true → (first.epoch ≡ present.epoch) × (first.start ≡ told_to present)
  the_same e = by_case goes
    where
      by_case : GoesOnFrom present.epoch (told_to present) first.epoch first.start → (first.epoch ≡ present.epoch) × (first.start ≡ told_to present)
      by_case (inl same) = same
      by_case (inr next) = absurd (let is : first.epoch ≡ present.epoch = eqb-true first.epoch present.epoch e in let n = next.0 in omega (arith, is, n))

  numbered_on : (n : ℕ) → present.epoch ≡ n + 1 → present.start ≡ 0 → AreNumberedFrom n (behind_tellings present (first ∷ later))
  numbered_on n number start = by_case (first.epoch == present.epoch) refl
    where
      by_case : (b : Bool) → (first.epoch == present.epoch) ≡ b → AreNumberedFrom n (if b then told_on present first ∷ later else present ∷ first ∷ later)
      by_case true e = (number, start, subst (λ (m : ℕ). AreNumberedFrom m later) (eqb-true first.epoch present.epoch e ∙ number) numbered)
      by_case false e =
          let next = another e in
          let is : first.epoch ≡ (n + 1) + 1 = next.0 ∙ ap (λ (m : ℕ). m + 1) number in
          (number, start, (is, next.1, subst (λ (m : ℕ). AreNumberedFrom m later) is numbered))

  epochs_on : (epoch base : ℕ) → present.epoch ≡ epoch → present.start ≡ base → AreEpochsFrom epoch base (behind_tellings present (first ∷ later))
  epochs_on epoch base number start = by_case (first.epoch == present.epoch) refl
    where
      by_case : (b : Bool) → (first.epoch == present.epoch) ≡ b → AreEpochsFrom epoch base (if b then told_on present first ∷ later else present ∷ first ∷ later)
      by_case true e = (number, start, subst (λ (m : ℕ). AreNumberedFrom m later) (eqb-true first.epoch present.epoch e ∙ number) numbered)
      by_case false e =
          let next = another e in
          let is : first.epoch ≡ epoch + 1 = next.0 ∙ ap (λ (m : ℕ). m + 1) number in
          (number, start, (is, next.1, subst (λ (m : ℕ). AreNumberedFrom m later) is numbered))

-- ---- their spans

adjoin_on : (start : ℕ) (told more : List ToldEvent) → Adjoin start (spans_of told) → Adjoin (last_end start (spans_of told)) (spans_of more) → Adjoin start (spans_of (told ++ more))
adjoin_on start [] more first second = second
adjoin_on start (one ∷ told) more first second = (first.0, first.1, adjoin_on one.span.end told more first.2 second)

pub last_end_on : (start : ℕ) (told more : List ToldEvent) → last_end start (spans_of (told ++ more)) ≡ last_end (last_end start (spans_of told)) (spans_of more)
last_end_on start [] more = refl
last_end_on start (one ∷ told) more = last_end_on one.span.end told more

adjoin_both : (present first : Telling) (later : List Telling) → GoesOnFrom present.epoch (told_to present) first.epoch first.start → Adjoin present.start (spans_of present.told) →
    EachAdjoins (first ∷ later) → EachAdjoins (behind_tellings present (first ∷ later))
adjoin_both present first later goes own each = by_case (first.epoch == present.epoch) refl
  where
    by_case : (b : Bool) → (first.epoch == present.epoch) ≡ b → EachAdjoins (if b then told_on present first ∷ later else present ∷ first ∷ later)
    by_case true e = (
      adjoin_on present.start present.told first.told own (subst (λ (n : ℕ). Adjoin n (spans_of first.told)) (by_start goes) each.0),
      each.1,
    )
      where
        by_start : GoesOnFrom present.epoch (told_to present) first.epoch first.start → first.start ≡ told_to present
        by_start (inl same) = same.1
        by_start (inr next) = absurd (let is : first.epoch ≡ present.epoch = eqb-true first.epoch present.epoch e in let n = next.0 in omega (arith, is, n))
    by_case false e = (own, each)

-- ---- over all openings

-- so much was reported, of which the last opening reported this
pub record IsSoFar (epoch base : ℕ) (so_far last : History) : Type 0 where
  pub epochs : AreEpochsFrom epoch base (tellings_in so_far)
  pub adjoin : EachAdjoins (tellings_in so_far)
  pub epoch_is : so_far.present.epoch ≡ last.present.epoch
  pub place_is : told_to so_far.present ≡ told_to last.present

pub first_so_far : (epoch base : ℕ) (h : History) → AreEpochsFrom epoch base (tellings_in h) → EachAdjoins (tellings_in h) → IsSoFar epoch base h h
first_so_far epoch base h epochs adjoin = record { epochs = epochs; adjoin = adjoin; epoch_is = refl; place_is = refl }

pub record EndsAs (both next : History) : Type 0 where
  pub epoch_is : both.present.epoch ≡ next.present.epoch
  pub place_is : told_to both.present ≡ told_to next.present

pub ends_as : (past : List Telling) (present : Telling) (next : History) (earlier : List Telling) (number base : ℕ) → GoesOnFrom present.epoch (told_to present) number base →
    AreEpochsFrom number base (earlier ++ next.present ∷ []) → EndsAs (epochs_behind past present next earlier) next
ends_as past present next [] number base goes are = by_case (next.present.epoch == present.epoch) refl goes
  where
    by_case : (b : Bool) → (next.present.epoch == present.epoch) ≡ b → GoesOnFrom present.epoch (told_to present) number base →
        EndsAs (if b then record next { past = past; present = told_on present next.present } else record next { past = past ++ present ∷ [] }) next
    by_case true e (inl same) = record {
      epoch_is = sym (eqb-true next.present.epoch present.epoch e);
      place_is = last_end_on present.start present.told next.present.told ∙ ap (λ (n : ℕ). last_end n (spans_of next.present.told)) (sym (are.1 ∙ same.1));
    }
    by_case true e (inr other) =
        absurd (let is : next.present.epoch ≡ present.epoch = eqb-true next.present.epoch present.epoch e in let n = other.0 in let m = are.0 in omega (arith, is, n, m))
    by_case false e goes = record { epoch_is = refl; place_is = refl }
ends_as past present next (first ∷ later) number base goes are = by_case (first.epoch == present.epoch)
  where
    by_case : (b : Bool) → EndsAs (if b then record next { past = past ++ told_on present first ∷ later } else record next { past = past ++ present ∷ first ∷ later }) next
    by_case true = record { epoch_is = refl; place_is = refl }
    by_case false = record { epoch_is = refl; place_is = refl }

module _ (epoch base : ℕ) (so_far last next : History) (is : IsSoFar epoch base so_far last) (number place : ℕ) (goes : GoesOnFrom so_far.present.epoch (told_to so_far.present) number place)
    (epochs : AreEpochsFrom number place (tellings_in next)) (adjoin : EachAdjoins (tellings_in next)) where
  behind_it : (tellings : List Telling) → AreEpochsFrom number place tellings → EachAdjoins tellings →
      AreEpochsFrom epoch base (so_far.past ++ behind_tellings so_far.present tellings) × EachAdjoins (so_far.past ++ behind_tellings so_far.present tellings)
  behind_it [] are each = absurd are
  behind_it (first ∷ later) are each =
      let from : GoesOnFrom so_far.present.epoch (told_to so_far.present) first.epoch first.start =
      subst (λ (n : ℕ). GoesOnFrom so_far.present.epoch (told_to so_far.present) n first.start) (sym are.0)
      (subst (λ (n : ℕ). GoesOnFrom so_far.present.epoch (told_to so_far.present) number n) (sym are.1) goes) in
      let numbered = subst (λ (n : ℕ). AreNumberedFrom n later) (sym are.0) are.2 in (
        epochs_with epoch base so_far.past so_far.present (behind_tellings so_far.present (first ∷ later)) (numbered_on so_far.present first later from numbered)
            (epochs_on so_far.present first later from numbered epoch base) is.epochs,
        all_behind (λ (t : Telling). Adjoin t.start (spans_of t.told)) so_far.past (behind_tellings so_far.present (first ∷ later))
            (each_front (λ (t : Telling). Adjoin t.start (spans_of t.told)) so_far.past so_far.present is.adjoin)
            (adjoin_both so_far.present first later from (last_of_each (λ (t : Telling). Adjoin t.start (spans_of t.told)) so_far.past so_far.present is.adjoin) each),
      )

  -- the next opening reports on
  pub next_so_far : IsSoFar epoch base (told_both so_far next) next
  next_so_far =
      let are : tellings_in (told_both so_far next) ≡ so_far.past ++ behind_tellings so_far.present (tellings_in next) = tellings_behind so_far.past so_far.present next next.past in
      let both = behind_it (tellings_in next) epochs adjoin in
      let ends = ends_as so_far.past so_far.present next next.past number place goes epochs in
      record {
        epochs = subst (AreEpochsFrom epoch base) (sym are) both.0;
        adjoin = subst EachAdjoins (sym are) both.1;
        epoch_is = ends.epoch_is;
        place_is = ends.place_is;
      }

-- ---- all of them as one list

-- one after another, if each either goes on with the one before it or rises
abbrev pub merged : Telling → List Telling → List Telling
merged present [] = present ∷ []
merged present (first ∷ later) = if first.epoch == present.epoch then merged (told_on present first) later else present ∷ merged first later

-- epochs that rise stay as they are
rising : (before : ℕ) (present : Telling) (past : List Telling) (last : Telling) (rest : List Telling) → present.epoch ≡ before → AreNumberedFrom before (past ++ last ∷ []) →
    merged present ((past ++ last ∷ []) ++ rest) ≡ present ∷ (past ++ merged last rest)
rising before present [] last rest is are =
    cond-false (last.epoch == present.epoch) (merged (told_on present last) rest) (present ∷ merged last rest)
    (ne_eqb last.epoch present.epoch (λ same. let n = are.0 in omega (arith, is, same, n)))
rising before present (one ∷ past) last rest is are =
    cond-false (one.epoch == present.epoch) (merged (told_on present one) ((past ++ last ∷ []) ++ rest)) (present ∷ merged one ((past ++ last ∷ []) ++ rest))
    (ne_eqb one.epoch present.epoch (λ same. let n = are.0 in omega (arith, is, same, n)))
    ∙ ap (λ (l : List Telling). present ∷ l) (rising (before + 1) one past last rest are.0 are.2)

pub merged_first : (epoch base : ℕ) (past : List Telling) (last first : Telling) (later rest : List Telling) → past ++ last ∷ [] ≡ first ∷ later → AreEpochsFrom epoch base (past ++ last ∷ []) →
    merged first (later ++ rest) ≡ past ++ merged last rest
merged_first epoch base [] last first later rest is are =
    let same : last ≡ first = cc in
    let none : [] ≡ later = cc in
    λ k. merged (sym same k) (sym none k ++ rest)
merged_first epoch base (one ∷ past) last first later rest is are =
    let same : one ≡ first = cc in
    let others : past ++ last ∷ [] ≡ later = cc in
    (λ k. merged (sym same k) (sym others k ++ rest)) ∙ rising epoch one past last rest are.0 are.2

both_merged : (past : List Telling) (present : Telling) (next : History) (earlier rest : List Telling) (number base : ℕ) → AreEpochsFrom number base (earlier ++ next.present ∷ []) →
    (epochs_behind past present next earlier).past ++ merged (epochs_behind past present next earlier).present rest
    ≡ past ++ merged present ((earlier ++ next.present ∷ []) ++ rest)
both_merged past present next [] rest number base are = by_case (next.present.epoch == present.epoch)
  where
    by_case : (b : Bool) →
        (if b then record next { past = past; present = told_on present next.present } else record next { past = past ++ present ∷ [] }).past
        ++ merged (if b then record next { past = past; present = told_on present next.present } else record next { past = past ++ present ∷ [] }).present rest
        ≡ past ++ (if b then merged (told_on present next.present) rest else present ∷ merged next.present rest)
    by_case true = refl
    by_case false = append_assoc past (present ∷ []) (merged next.present rest)
both_merged past present next (first ∷ later) rest number base are = by_case (first.epoch == present.epoch) refl
  where
    by_case : (b : Bool) → (first.epoch == present.epoch) ≡ b →
        (if b then record next { past = past ++ told_on present first ∷ later } else record next { past = past ++ present ∷ first ∷ later }).past
        ++ merged (if b then record next { past = past ++ told_on present first ∷ later } else record next { past = past ++ present ∷ first ∷ later }).present rest
        ≡ past ++ (if b then merged (told_on present first) ((later ++ next.present ∷ []) ++ rest) else present ∷ merged first ((later ++ next.present ∷ []) ++ rest))
    by_case true e =
        append_assoc past (told_on present first ∷ later) (merged next.present rest)
        ∙ ap (λ (l : List Telling). past ++ l) (sym (rising number (told_on present first) later next.present rest (sym (eqb-true first.epoch present.epoch e) ∙ are.0) are.2))
    by_case false e =
        append_assoc past (present ∷ first ∷ later) (merged next.present rest)
        ∙ ap (λ (l : List Telling). past ++ present ∷ l) (sym (rising number first later next.present rest are.0 are.2))

-- the epochs of some history
pub record HasEpochs (h : History) : Type 0 where
  pub number : ℕ
  pub base : ℕ
  pub epochs : AreEpochsFrom number base (tellings_in h)

abbrev pub tellings_of : List Opening → List Telling
tellings_of openings = flat_map (λ (one : Opening). tellings_in one.history) openings

pub merged_is : (so_far : History) (later : List Opening) → AllByRecursion (λ (one : Opening). HasEpochs one.history) later →
    tellings_in (told_over so_far later) ≡ so_far.past ++ merged so_far.present (tellings_of later)
merged_is so_far [] have = refl
merged_is so_far (next ∷ later) have =
    merged_is (told_both so_far next.history) later have.1
    ∙ both_merged so_far.past so_far.present next.history next.history.past (tellings_of later) have.0.number have.0.base have.0.epochs
