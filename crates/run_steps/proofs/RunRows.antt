-- The rows that areas and their images give are over the notes of the keeper that wrote them.
use Rattle.std.proofs.Common.{◌≡◌, ◌⊎◌, inl, inr, ℕ, List, [], ◌∷◌, Option, Some, refl, sym, ap, subst, ◌∙◌, arith}
use Rattle.std.specs.Prelude.{slice_get}
use Rattle.kept_rows.specs.Backed.{AreRowsOverFronts}
use Rattle.registry_log.specs.Starting.{IsBlank, IsClosed}
use Rattle.registry_log.specs.State.{Blank, IsOpened, Opened}
use Rattle.registry_store.specs.Choice.{Choice, Chosen, GivesRows, IsChoice, rows_of}
use Rattle.registry_store.specs.Settled.{AreSettled}
use Rattle.registry_store.specs.Standing.{Standing, chosen_by}
use Rattle.rounds.specs.Images.{GivesFronts, MayHoldFronts}
use Rattle.rounds.specs.Words.{DiskWords}
use Rattle.wire_base.specs.declared.limits.Which.TheVariants.{A}
use Rattle.wire_base.specs.declared.note.Note.{Note}
use Rattle.wire_base.specs.declared.row.Row.{Row}
use Rattle.told_scans.proofs.Members.{some_is}

-- whatever bytes two areas have, they make one choice at most, which is a law of the store
abbrev pub OneChoice : Type 0
OneChoice = (first second : List ℕ) (choice other : Choice) → IsChoice first second choice → IsChoice first second other → choice ≡ other

module _ (one : OneChoice) where
  pub same_rows : (first second : List ℕ) (rows others : List Row) → GivesRows first second rows → GivesRows first second others → rows ≡ others
  same_rows first second rows others gives given =
      some_is rows others (sym gives.given ∙ ap rows_of (one first second gives.choice given.choice gives.chosen given.chosen) ∙ given.given)

  -- beside a blank area it is chosen
  pub chosen_alone : (area : List ℕ) (generation : ℕ) (rows : List Row) (end : ℕ) → IsOpened area generation rows end → IsChoice area [] (Chosen A generation rows 29 end)
  chosen_alone area generation rows end opened =
      record { first_state = Opened generation rows 29 end; second_state = Blank; first_is = (refl, opened); second_is = omega arith; chosen = refl }

  pub opened_rows : (area : List ℕ) (generation other : ℕ) (rows others : List Row) (end last : ℕ) → IsOpened area generation rows end → IsOpened area other others last → rows ≡ others
  opened_rows area generation other rows others end last opened again =
      some_is rows others
      (ap rows_of (one area [] (Chosen A generation rows 29 end) (Chosen A other others 29 last) (chosen_alone area generation rows end opened) (chosen_alone area other others last again)))

  not_closed : (area : List ℕ) → slice_get area 0 ≡ Some 0x7B → IsClosed area → ⊥
  not_closed [] gate closed = closed
  not_closed (first ∷ rest) gate closed = closed (some_is first 0x7B gate)

  -- an area that is opened is read
  pub not_shut : (area : List ℕ) (generation : ℕ) (rows : List Row) (end : ℕ) → IsOpened area generation rows end → IsBlank area ⊎ IsClosed area → ⊥
  not_shut area generation rows end opened (inl blank) = let more = opened.reaches.unclosed.more in omega (arith, blank, more)
  not_shut area generation rows end opened (inr closed) = not_closed area opened.reaches.unclosed.gate closed

  -- an area that is opened is as it was, or has rows over first ones of these notes
  pub opened_over_fronts : (opening : List Row) (notes : List Note) (before : Option (List ℕ)) (area : List ℕ) (generation : ℕ) (rows : List Row) (end : ℕ) →
      MayHoldFronts opening notes before 0 area → IsOpened area generation rows end → (before ≡ Some area) ⊎ AreRowsOverFronts opening notes rows
  opened_over_fronts opening notes before area generation rows end (inl same) opened = inl same
  opened_over_fronts opening notes before area generation rows end (inr (inl shut)) opened = absurd (not_shut area generation rows end opened shut)
  opened_over_fronts opening notes before area generation rows end (inr (inr over)) opened =
      inr (subst (AreRowsOverFronts opening notes) (opened_rows area over.its_generation generation over.rows rows over.end end over.opened opened) over.fronts)

  pub given_over_fronts : (opening : List Row) (notes : List Note) (first second : List ℕ) (rows : List Row) → GivesFronts opening notes first second → GivesRows first second rows →
      AreRowsOverFronts opening notes rows
  given_over_fronts opening notes first second rows fronts gives = subst (AreRowsOverFronts opening notes) (same_rows first second fronts.rows rows fronts.given gives) fronts.fronts

  -- areas at rest give the rows of their store
  pub rows_of_store : {D : Type 0} (disks : DiskWords D) (a b : D) (store : Standing) (first second : List ℕ) (rows : List Row) →
      AreSettled disks.contents disks.images a b (chosen_by store) → disks.contents a ≡ Some first → disks.contents b ≡ Some second → GivesRows first second rows → store.rows ≡ rows
  rows_of_store disks a b store first second rows settled a_is b_is gives =
      let same_first : settled.first ≡ first = some_is settled.first first (sym settled.a_holds ∙ a_is) in
      let same_second : settled.second ≡ second = some_is settled.second second (sym settled.b_holds ∙ b_is) in
      same_rows first second store.rows rows
      (record {
        choice = chosen_by store;
        chosen = subst (λ (l : List ℕ). IsChoice first l (chosen_by store)) same_second (subst (λ (l : List ℕ). IsChoice l settled.second (chosen_by store)) same_first settled.chosen);
        given = refl;
      }) gives
