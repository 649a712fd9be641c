-- Why a round answers so.
use Rattle.std.proofs.Common.{◌≡◌, ◌≢◌, ◌⊎◌, ⊎_elim, ℕ, zero, suc, ◌≤◌, true, false, List, [], ◌∷◌, ◌++◌, Option, Some, None, inl, inr, refl, sym, ap, subst, ◌∙◌, arith}
use Rattle.harvester.specs.declared.turn.Turn.{Turn}
use Rattle.harvester.specs.declared.turn.Turn.TheVariants as turn
use Rattle.keeper.specs.declared.turn.KeeperTurn.{KeeperTurn}
use Rattle.keeper.specs.declared.turn.KeeperTurn.TheVariants as kept
use Rattle.lanes.specs.Laning.{Laning}
use Rattle.lanes.specs.Step.{Step, tallied}
use Rattle.lanes.specs.Tallies.{begun_tally, first_slot, tally_with}
use Rattle.lanes.specs.declared.run.When.{When}
use Rattle.lanes.specs.declared.tally.Tally.{Tally}
use Rattle.outside.specs.Counts.{Rose, added_counts}
use Rattle.wire_base.specs.declared.numbers.Moment.{Moment}
use Rattle.wire_base.specs.declared.numbers.Slot.{Slot}
use Rattle.rounds.specs.Answer.{first_of, of_stored, round_of, with_carried, with_carriers, with_lanes, with_tally}
use Rattle.rounds.specs.Causes.{AnswersSteps, MetFault, WasOver, WireFaultsStay}
use Rattle.rounds.specs.Crewed.{bare_carriers, bare_lanes}
use Rattle.rounds.specs.KeeperTurns.{KeeperRun, KeeperTurned, StoringState, begun_stored, stored_of, stored_with, storing_state}
use Rattle.rounds.specs.Pairs.{Pairs, SomeOf}
use Rattle.rounds.specs.Placed.{AreStepsOf}
use Rattle.rounds.specs.Running.{CarrierHasRun, StoringHasRun}
use Rattle.rounds.specs.Words.{DiskWords, LinkWords, TailWords, WireWords}
use Rattle.rounds.specs.declared.answer.Round.{Round}
use Rattle.rounds.specs.declared.carrier.Carrier.{Carrier}
use Rattle.rounds.specs.declared.storing.Stored.{Stored}
use Rattle.rounds.specs.declared.storing.Storing.{Storing}
use Rattle.rounds.proofs.CarrierSteps.{carrier_keeps}
use Rattle.rounds.proofs.Moved.{bare_answer}

-- ---- members

some_first : {A : Type 0} (P : A → Type 0) (xs ys : List A) → SomeOf P xs → SomeOf P (xs ++ ys)
some_first P [] ys some = absurd some
some_first P (x ∷ xs) ys some = ⊎_elim (λ one. inl one) (λ others. inr (some_first P xs ys others)) some

some_behind : {A : Type 0} (P : A → Type 0) (xs ys : List A) → SomeOf P ys → SomeOf P (xs ++ ys)
some_behind P [] ys some = some
some_behind P (x ∷ xs) ys some = inr (some_behind P xs ys some)

-- ---- turns of files

not_both_none : (a b : ℕ) → added_counts a b ≢ 0 → (a ≢ 0) ⊎ (b ≢ 0)
not_both_none zero zero some = absurd (some (omega arith))
not_both_none zero (suc b) some = inr (λ is. absurd (omega (arith, is)))
not_both_none (suc a) b some = inl (λ is. absurd (omega (arith, is)))

fault_with : (slot : Slot) (t : Turn) (tally : Tally) → (tally_with slot t tally).tail_faults ≢ 0 → (tally.tail_faults ≢ 0) ⊎ (t ≡ turn.ReadFault)
fault_with slot (turn.Issued parcel) tally some = inl some
fault_with slot (turn.Passed span rule) tally some = inl some
fault_with slot turn.More tally some = inl some
fault_with slot turn.AtEnd tally some = inl some
fault_with slot (turn.NewLife epoch) tally some = inl some
fault_with slot turn.Changed tally some = inl some
fault_with slot turn.EpochsOut tally some = inl some
fault_with slot turn.ReadFault tally some = inr refl
fault_with slot turn.NoMemory tally some = inl some

faults_in : (tally : Tally) (steps : List Step) → (tallied tally steps).tail_faults ≢ 0 → (tally.tail_faults ≢ 0) ⊎ SomeOf MetFault steps
faults_in tally [] some = inl some
faults_in tally (s ∷ ss) some =
    ⊎_elim (λ earlier. ⊎_elim (λ before. inl before) (λ here. inr (inl here)) (fault_with s.slot s.turn tally earlier)) (λ later. inr (inr later))
    (faults_in (tally_with s.slot s.turn tally) ss some)

same_slot : (a b : Slot) → Some a ≡ Some b → a ≡ b
same_slot a b is = cc

first_slot_is : (first : Option Slot) (slot which : Slot) → first_slot first slot ≡ Some which → (first ≡ Some which) ⊎ (slot ≡ which)
first_slot_is None slot which is = inr (same_slot slot which is)
first_slot_is (Some first) slot which is = inl is

first_of_is : (first other : Option Slot) (which : Slot) → first_of first other ≡ Some which → (first ≡ Some which) ⊎ (other ≡ Some which)
first_of_is None other which is = inr is
first_of_is (Some first) other which is = inl is

over_with : (slot : Slot) (t : Turn) (tally : Tally) (which : Slot) → (tally_with slot t tally).epochs ≡ Some which → (tally.epochs ≡ Some which) ⊎ ((slot ≡ which) × (t ≡ turn.EpochsOut))
over_with slot (turn.Issued parcel) tally which is = inl is
over_with slot (turn.Passed span rule) tally which is = inl is
over_with slot turn.More tally which is = inl is
over_with slot turn.AtEnd tally which is = inl is
over_with slot (turn.NewLife epoch) tally which is = inl is
over_with slot turn.Changed tally which is = inl is
over_with slot turn.EpochsOut tally which is = ⊎_elim (λ before. inl before) (λ here. inr (here, refl)) (first_slot_is tally.epochs slot which is)
over_with slot turn.ReadFault tally which is = inl is
over_with slot turn.NoMemory tally which is = inl is

over_in : (tally : Tally) (steps : List Step) (which : Slot) → (tallied tally steps).epochs ≡ Some which → (tally.epochs ≡ Some which) ⊎ SomeOf (WasOver which) steps
over_in tally [] which is = inl is
over_in tally (s ∷ ss) which is =
    ⊎_elim (λ earlier. ⊎_elim (λ before. inl before) (λ (here : (s.slot ≡ which) × (s.turn ≡ turn.EpochsOut)). inr (inl (record { of_slot = here.0; turn = here.1 }))) (over_with s.slot s.turn tally which earlier)) (λ later. inr (inr later))
    (over_in (tally_with s.slot s.turn tally) ss which is)

module _ {T : Type 0} (tails : TailWords T) (queue box : ℕ) (when : When) where
  faults_by : (steps : List Step) (olds news : List (Laning T)) (round : Round) → AreStepsOf tails queue box when steps olds news → (with_lanes news round).tail_faults ≢ 0 → (round.tail_faults ≢ 0) ⊎ SomeOf MetFault steps
  faults_by steps [] [] round are some = inl some
  faults_by steps [] (n ∷ ns) round are some = absurd are
  faults_by steps (o ∷ os) [] round are some = absurd are
  faults_by steps (o ∷ os) (n ∷ ns) round are some =
      let runs = are.0 in
      let rest = are.1 in
      let here : n.tally.tail_faults ≢ 0 → SomeOf MetFault steps = λ met.
      subst (SomeOf MetFault) (sym are.2) (some_first MetFault runs.keeps.steps rest
      (⊎_elim (λ begun. absurd (begun refl)) (λ found. found)
      (faults_in (begun_tally runs.moved) runs.keeps.steps (λ none. met (ap (λ (t : Tally). t.tail_faults) runs.tally ∙ none))))) in
      ⊎_elim
      (λ earlier. ⊎_elim (λ before. inl before) (λ met. inr (here met)) (not_both_none round.tail_faults n.tally.tail_faults earlier))
      (λ later. inr (subst (SomeOf MetFault) (sym are.2) (some_behind MetFault runs.keeps.steps rest later)))
      (faults_by rest os ns (with_tally n.tally round) are.3 some)

  over_by : (steps : List Step) (olds news : List (Laning T)) (round : Round) (which : Slot) → AreStepsOf tails queue box when steps olds news → (with_lanes news round).epochs ≡ Some which → (round.epochs ≡ Some which) ⊎ SomeOf (WasOver which) steps
  over_by steps [] [] round which are is = inl is
  over_by steps [] (n ∷ ns) round which are is = absurd are
  over_by steps (o ∷ os) [] round which are is = absurd are
  over_by steps (o ∷ os) (n ∷ ns) round which are is =
      let runs = are.0 in
      let rest = are.1 in
      let here : n.tally.epochs ≡ Some which → SomeOf (WasOver which) steps = λ over.
      subst (SomeOf (WasOver which)) (sym are.2) (some_first (WasOver which) runs.keeps.steps rest
      (⊎_elim (λ begun. absurd (let q : None ≡ Some which = begun in cc)) (λ found. found)
      (over_in (begun_tally runs.moved) runs.keeps.steps which (sym (ap (λ (t : Tally). t.epochs) runs.tally) ∙ over)))) in
      ⊎_elim
      (λ earlier. ⊎_elim (λ before. inl before) (λ over. inr (here over)) (first_of_is round.epochs n.tally.epochs which earlier))
      (λ later. inr (subst (SomeOf (WasOver which)) (sym are.2) (some_behind (WasOver which) runs.keeps.steps rest later)))
      (over_by rest os ns (with_tally n.tally round) which are.3 is)

with_carriers_faults : {W L : Type 0} (carriers : List (Carrier W L)) (round : Round) → (with_carriers carriers round).tail_faults ≡ round.tail_faults
with_carriers_faults [] round = refl
with_carriers_faults (carrier ∷ carriers) round = with_carriers_faults carriers (with_carried carrier.carried round)

with_carriers_epochs : {W L : Type 0} (carriers : List (Carrier W L)) (round : Round) → (with_carriers carriers round).epochs ≡ round.epochs
with_carriers_epochs [] round = refl
with_carriers_epochs (carrier ∷ carriers) round = with_carriers_epochs carriers (with_carried carrier.carried round)

module _ {T W L : Type 0} (tails : TailWords T) (queue box : ℕ) (when : When) where
  pub answers_steps : (steps : List Step) (olds lanes later : List (Laning T)) (carriers : List (Carrier W L)) (stored : Stored) (round : Round) → AreStepsOf tails queue box when steps olds lanes → bare_lanes later ≡ bare_lanes lanes
      → round ≡ round_of later carriers stored → AnswersSteps round steps
  answers_steps steps olds lanes later carriers stored round are same is =
      let by : round ≡ round_of lanes carriers stored = is ∙ bare_answer lanes later carriers carriers stored same refl in
      let faults : round.tail_faults ≡ (with_lanes lanes (of_stored stored)).tail_faults = ap (λ (r : Round). r.tail_faults) by ∙ with_carriers_faults carriers (with_lanes lanes (of_stored stored)) in
      let epochs : round.epochs ≡ (with_lanes lanes (of_stored stored)).epochs = ap (λ (r : Round). r.epochs) by ∙ with_carriers_epochs carriers (with_lanes lanes (of_stored stored)) in
      record {
        tail_faults = λ some. ⊎_elim (λ begun. absurd (begun refl)) (λ found. found) (faults_by tails queue box when steps olds lanes (of_stored stored) are (λ none. some (faults ∙ none)));
        epochs = λ slot over. ⊎_elim (λ begun. absurd (let q : None ≡ Some slot = begun in cc)) (λ found. found) (over_by tails queue box when steps olds lanes (of_stored stored) slot are (sym epochs ∙ over));
      }

-- ---- turns of the keeper

rose_later : (a b c : ℕ) → Rose a b → b ≤ c → Rose a c
rose_later a b c (inl less) no_less = inl (omega (arith, less, no_less))
rose_later a b c (inr end) no_less = inr (omega (arith, end, no_less))

rose_earlier : (a b c : ℕ) → a ≤ b → Rose b c → Rose a c
rose_earlier a b c no_less (inl less) = inl (omega (arith, less, no_less))
rose_earlier a b c no_less (inr end) = inr end

module _ {D : Type 0} (disks : DiskWords D) where
  -- the faults of one of both areas rose
  abbrev EitherRose : StoringState D → StoringState D → Type 0
  EitherRose old new = Rose (disks.faults old.a) (disks.faults new.a) ⊎ Rose (disks.faults old.b) (disks.faults new.b)

  either_later : (a b c : StoringState D) → EitherRose a b → disks.faults b.a ≤ disks.faults c.a → disks.faults b.b ≤ disks.faults c.b → EitherRose a c
  either_later a b c (inl rose) in_a in_b = inl (rose_later (disks.faults a.a) (disks.faults b.a) (disks.faults c.a) rose in_a)
  either_later a b c (inr rose) in_a in_b = inr (rose_later (disks.faults a.b) (disks.faults b.b) (disks.faults c.b) rose in_b)

  either_earlier : (a b c : StoringState D) → disks.faults a.a ≤ disks.faults b.a → disks.faults a.b ≤ disks.faults b.b → EitherRose b c → EitherRose a c
  either_earlier a b c in_a in_b (inl rose) = inl (rose_earlier (disks.faults a.a) (disks.faults b.a) (disks.faults c.a) in_a rose)
  either_earlier a b c in_a in_b (inr rose) = inr (rose_earlier (disks.faults a.b) (disks.faults b.b) (disks.faults c.b) in_b rose)

  a_faults_by : (turns : List KeeperTurn) (old new : StoringState D) → KeeperRun disks turns old new → disks.faults old.a ≤ disks.faults new.a
  a_faults_by [] old new is = subst (λ (s : StoringState D). disks.faults old.a ≤ disks.faults s.a) (sym is) (omega arith)
  a_faults_by (t ∷ ts) old new run = let rest = a_faults_by ts run.0 new run.2 in omega (arith, run.1.a_faults_never_fall, rest)

  b_faults_by : (turns : List KeeperTurn) (old new : StoringState D) → KeeperRun disks turns old new → disks.faults old.b ≤ disks.faults new.b
  b_faults_by [] old new is = subst (λ (s : StoringState D). disks.faults old.b ≤ disks.faults s.b) (sym is) (omega arith)
  b_faults_by (t ∷ ts) old new run = let rest = b_faults_by ts run.0 new run.2 in omega (arith, run.1.b_faults_never_fall, rest)

  rose_in : (t : KeeperTurn) (stored : Stored) (old mid : StoringState D) → KeeperTurned disks t old mid → (stored_with t stored).disk ≡ true → (stored.disk ≡ true) ⊎ EitherRose old mid
  rose_in (kept.Kept count) stored old mid turned is = inl is
  rose_in kept.Empty stored old mid turned is = inl is
  rose_in kept.DiskFault stored old mid turned is = inr turned.disk_fault_only_where_faults_rose
  rose_in kept.NoMemory stored old mid turned is = inl is

  rose_by : (turns : List KeeperTurn) (stored : Stored) (old new : StoringState D) → KeeperRun disks turns old new → (stored_of stored turns).disk ≡ true → (stored.disk ≡ true) ⊎ EitherRose old new
  rose_by [] stored old new ran is = inl is
  rose_by (t ∷ ts) stored old new run is =
      ⊎_elim
      (λ earlier. ⊎_elim (λ before. inl before) (λ here. inr (either_later old run.0 new here (a_faults_by ts run.0 new run.2) (b_faults_by ts run.0 new run.2))) (rose_in t stored old run.0 run.1 earlier))
      (λ later. inr (either_earlier old run.0 new run.1.a_faults_never_fall run.1.b_faults_never_fall later))
      (rose_by ts (stored_with t stored) run.0 new run.2 is)

  pub a_faults_ran : (old new : Storing D) → StoringHasRun disks old new → disks.faults old.a.now ≤ disks.faults new.a.now
  unfolding StoringHasRun
  a_faults_ran old new ran = a_faults_by ran.turns (storing_state old) (storing_state new) ran.ran

  pub b_faults_ran : (old new : Storing D) → StoringHasRun disks old new → disks.faults old.b.now ≤ disks.faults new.b.now
  unfolding StoringHasRun
  b_faults_ran old new ran = b_faults_by ran.turns (storing_state old) (storing_state new) ran.ran

  pub rose_ran : (old new : Storing D) → StoringHasRun disks old new → new.stored.disk ≡ true → Rose (disks.faults old.a.now) (disks.faults new.a.now) ⊎ Rose (disks.faults old.b.now) (disks.faults new.b.now)
  unfolding StoringHasRun
  rose_ran old new ran is =
      ⊎_elim (λ begun. absurd (let q : false ≡ true = begun in cc)) (λ rose. rose)
      (rose_by ran.turns begun_stored (storing_state old) (storing_state new) ran.ran (sym (ap (λ (s : Stored). s.disk) ran.stored) ∙ is))

-- ---- wires

module _ {W L : Type 0} (wires : WireWords W) where
  wires_ran : (links : LinkWords L) (box : ℕ) (now : Moment) (xs ys : List (Carrier W L)) → Pairs (CarrierHasRun links wires box now) xs ys → Pairs (WireFaultsStay wires) xs ys
  unfolding CarrierHasRun
  wires_ran links box now [] [] ran = tt
  wires_ran links box now [] (y ∷ ys) ran = absurd ran
  wires_ran links box now (x ∷ xs) [] ran = absurd ran
  wires_ran links box now (x ∷ xs) (y ∷ ys) ran = ((carrier_keeps links wires box now x y ran.0).faults, wires_ran links box now xs ys ran.1)

  to_bare : (xs ys : List (Carrier W L)) → Pairs (WireFaultsStay wires) xs ys → Pairs (WireFaultsStay wires) xs (bare_carriers ys)
  to_bare [] [] stay = tt
  to_bare [] (y ∷ ys) stay = absurd stay
  to_bare (x ∷ xs) [] stay = absurd stay
  to_bare (x ∷ xs) (y ∷ ys) stay = (stay.0, to_bare xs ys stay.1)

  from_bare : (xs ys : List (Carrier W L)) → Pairs (WireFaultsStay wires) xs (bare_carriers ys) → Pairs (WireFaultsStay wires) xs ys
  from_bare [] [] stay = tt
  from_bare [] (y ∷ ys) stay = absurd stay
  from_bare (x ∷ xs) [] stay = absurd stay
  from_bare (x ∷ xs) (y ∷ ys) stay = (stay.0, from_bare xs ys stay.1)

  -- and as the passes met
  pub faults_met : (olds mids news : List (Carrier W L)) → Pairs (WireFaultsStay wires) olds mids → bare_carriers news ≡ bare_carriers mids → Pairs (WireFaultsStay wires) olds news
  faults_met olds mids news stay same =
      from_bare olds news (subst (λ (cs : List (Carrier W L)). Pairs (WireFaultsStay wires) olds cs) (sym same) (to_bare olds mids stay))

  pub wires_stay : (links : LinkWords L) (box : ℕ) (now : Moment) (olds mids news : List (Carrier W L)) → Pairs (CarrierHasRun links wires box now) olds mids → bare_carriers news ≡ bare_carriers mids → Pairs (WireFaultsStay wires) olds news
  wires_stay links box now olds mids news ran same = faults_met olds mids news (wires_ran links box now olds mids ran) same
