-- The notes of a run are those that it reported and those that it collected; and the key of each file that was begun and not removed has a row among
-- rows over all of them: the one that is over its slot's notes.
use Rattle.std.proofs.Common.{◌≡◌, ◌⊎◌, inl, inr, ℕ, ◌<◌, ◌≤◌, List, [], ◌∷◌, ◌++◌, Contains, max, map, Option, None, Some, IsSomeAnd, refl, sym, ap, ◌∙◌, subst, arith}
use Rattle.std.specs.List.{AllByRecursion, filter, fold}
use Rattle.std.specs.Option.{is_some}
use Rattle.std.proofs.lemmas.Bool.{cases_lt}
use Rattle.std.proofs.lemmas.List.Elements.{Contains-append_cases, Contains-append_left, Contains-append_right}
use Rattle.std.specs.Prelude.{cond}
use Rattle.std.specs.Ordering.{is_eq}
use Rattle.std.specs.declared.cmp.Ordering.{Ordering}
use Rattle.std.specs.declared.cmp.Ordering.TheVariants.{Equal, Greater, Less}
use Rattle.kept_rows.specs.Run.{Run}
use Rattle.ship_core.proofs.Members.{first_there, greatest_least, later_there, least_within, member_within, none_there, passed_there, there_cases, there_passed}
use Rattle.ship_core.specs.RowOver.{Start, notes_of, row_over, standing_row}
use Rattle.ship_core.specs.Rows.{find}
use Rattle.ship_core.specs.RowsOver.{AreRowsOver, row_among, row_for, row_of_greatest, slots_for}
use Rattle.wire_base.proofs.ByteOrder.{same_key}
use Rattle.wire_base.specs.KeyOrder.{compare}
use Rattle.wire_base.specs.declared.note.Note.{Note}
use Rattle.wire_base.specs.declared.note.Note.TheVariants.{Begin}
use Rattle.wire_base.specs.declared.row.Row.{Row}
use Rattle.accounts.specs.Filed.{Filed, IsNoted, Removal, begun_in, following_of, its_begin, left_by, slot_in, turned_of}
use Rattle.accounts.specs.FollowedFile.{key_in}
use Rattle.accounts.specs.Ground.{HasGround}
use Rattle.accounts.specs.Hidden.{Hidden, hidden_begin, hidden_following}
use Rattle.accounts.specs.RunTold.{RunNotes, RunTold}
use Rattle.accounts.specs.Same.{same_note}
use Rattle.accounts.specs.Taken.{Taken, acknowledged_in}
use Rattle.accounts.specs.ToldNotes.{AreNotesOf, IsKnownNote, MayTell}
use Rattle.accounts.proofs.Backing.{mapped_there}
use Rattle.accounts.proofs.Beginning.{slot_there}
use Rattle.accounts.proofs.Grounded.{each_has_ground, each_member}
use Rattle.accounts.proofs.LastNotes.{IsSlotFor, is_started, none_forgotten, whose_slot}
use Rattle.accounts.proofs.Lists.{each_then}
use Rattle.accounts.proofs.Often.{often_back, often_contains}
use Rattle.accounts.proofs.Ordered.{slots_apart}
use Rattle.accounts.proofs.Orderly.{member_is}
use Rattle.accounts.proofs.OwnNotes.{own_row_stands}
use Rattle.accounts.proofs.Same.{tells_notes}

-- ---- rows

-- a row that is found is among them
pub found_there : (key : List ℕ) (rows : List Row) (row : Row) → find key rows ≡ Some row → Contains rows row
found_there key [] row is = absurd (let q : None ≡ Some row = is in cc)
found_there key (first ∷ rows) row is = by_case (compare key first.key) is (found_there key rows row)
  where
    by_case : (o : Ordering) → cond (is_eq o) (Some first) (find key rows) ≡ Some row → (find key rows ≡ Some row → Contains rows row) → Contains (first ∷ rows) row
    by_case Less e others = later_there first row rows (others e)
    by_case Greater e others = later_there first row rows (others e)
    by_case Equal e others =
        let q : Some first ≡ Some row = e in
        let same : first ≡ row = cc in
        subst (λ (r : Row). Contains (first ∷ rows) r) same (first_there first rows)

pub found_key : (key : List ℕ) (rows : List Row) (row : Row) → find key rows ≡ Some row → row.key ≡ key
found_key key [] row is = absurd (let q : None ≡ Some row = is in cc)
found_key key (first ∷ rows) row is = by_case (compare key first.key) refl is (found_key key rows row)
  where
    by_case : (o : Ordering) → compare key first.key ≡ o → cond (is_eq o) (Some first) (find key rows) ≡ Some row → (find key rows ≡ Some row → row.key ≡ key) → row.key ≡ key
    by_case Less e f others = others f
    by_case Greater e f others = others f
    by_case Equal e f others =
        let q : Some first ≡ Some row = f in
        let same : first ≡ row = cc in
        ap (λ (r : Row). r.key) (sym same) ∙ sym (same_key key first.key e)

-- the row of the newest slot of a key is the key's
row_of_newest : (opening : List Row) (notes : List Note) (key : List ℕ) (slot : ℕ) (row : Row) → Contains (slots_for key notes) slot →
    ((other : ℕ) → Contains (slots_for key notes) other → other ≤ slot) → row_over slot notes ≡ Some row → row_for opening notes key ≡ Some row
row_of_newest opening notes key slot row there newest is = by_slots (slots_for key notes) there newest
  where
    by_greatest : (slots : List ℕ) → Contains slots slot → ((other : ℕ) → Contains slots other → other ≤ slot) → row_of_greatest notes slots ≡ Some row
    by_greatest [] among most = absurd (none_there slot among)
    by_greatest (first ∷ others) among most =
        let within = greatest_least first slot others (most first (first_there first others)) (λ other behind. most other (later_there first other others behind)) in
        let least = by_place (there_cases first slot others among) in
        let same : slot ≡ fold max first others = omega (arith, within, least) in
        subst (λ (n : ℕ). row_over n notes ≡ Some row) same is
      where
        by_place : (first ≡ slot) ⊎ Contains others slot → slot ≤ fold max first others
        by_place (inl here) = let within = least_within first others in omega (arith, within, here)
        by_place (inr behind) = member_within first others slot behind

    by_slots : (slots : List ℕ) → Contains slots slot → ((other : ℕ) → Contains slots other → other ≤ slot) → row_among opening notes key slots ≡ Some row
    by_slots [] among most = absurd (none_there slot among)
    by_slots (first ∷ others) among most =
        by_greatest (filter (λ (given : ℕ). is_some (row_over given notes)) (first ∷ others))
        (passed_there (λ (given : ℕ). is_some (row_over given notes)) (first ∷ others) slot among (ap (λ (o : Option Row). is_some o) is))
        (λ other passes. most other (there_passed (λ (given : ℕ). is_some (row_over given notes)) (first ∷ others) other passes).0)

-- ---- of a run

module _ (run : Run) (files : List Filed) (hiddens : List Hidden) (workers : List Taken) (notes : RunNotes) (told : RunTold run files hiddens workers notes) where
  pub have_ground : AllByRecursion (HasGround (turned_of files) (acknowledged_in workers)) notes.collected
  have_ground = each_has_ground (turned_of files) workers notes.collected told.fits

  -- ---- all notes

  pub in_all : (note : Note) → Contains (notes.told ++ notes.collected) note → Contains notes.all note
  in_all note there = often_contains same_note tells_notes notes.all (notes.told ++ notes.collected) note told.mixed.often there

  pub collected_in_all : (note : Note) → Contains notes.collected note → Contains notes.all note
  collected_in_all note there = in_all note (Contains-append_right notes.told notes.collected note there)

  told_in_all : (note : Note) → Contains notes.told note → Contains notes.all note
  told_in_all note there = in_all note (Contains-append_left notes.told notes.collected note there)

  pub are_notes : AreNotesOf run files hiddens (acknowledged_in workers) notes.all
  are_notes = record {
    each = each_member (IsKnownNote run files hiddens (acknowledged_in workers)) notes.all each_known;
    begun = each_then (IsNoted notes.told) (IsNoted notes.all) files (λ file noted. record {
      path = noted.path;
      changed = noted.changed;
      there = told_in_all (its_begin file noted.path noted.changed) noted.there;
    }) told.told.begun;
    hidden_begun = each_then (λ (hidden : Hidden). Contains notes.told (hidden_begin hidden)) (λ (hidden : Hidden). Contains notes.all (hidden_begin hidden)) hiddens
        (λ hidden there. told_in_all (hidden_begin hidden) there) told.told.hidden_begun;
    orderly = told.mixed.orderly;
  }
    where
      by_part : (note : Note) → Contains notes.told note ⊎ Contains notes.collected note → IsKnownNote run files hiddens (acknowledged_in workers) note
      by_part note (inl here) = inl (member_is (MayTell run files hiddens) notes.told note told.told.each here)
      by_part note (inr here) = inr (member_is (HasGround (turned_of files) (acknowledged_in workers)) notes.collected note have_ground here)

      each_known : (note : Note) → Contains notes.all note → IsKnownNote run files hiddens (acknowledged_in workers) note
      each_known note there =
          by_part note (Contains-append_cases notes.told notes.collected note
          (often_contains same_note tells_notes (notes.told ++ notes.collected) notes.all note (often_back notes.all (notes.told ++ notes.collected) told.mixed.often) there))

  -- ---- rows

  -- the row that is over the file's notes is among these
  pub record IsBegunRow (file : Filed) (rows : List Row) : Type 0 where
    pub start : Start
    pub key_is : start.key ≡ key_in file
    pub epoch_is : start.epoch ≡ (begun_in file).epoch
    pub base_is : start.base ≡ (begun_in file).base
    pub of_rows : Contains rows (standing_row (notes_of (slot_in file) notes.all) start)

  -- it is the newest slot of its key, since it did not leave
  none_newer : (file : Filed) → Contains files file → file.removed ≡ None → (slot : ℕ) → Contains (slots_for (key_in file) notes.all) slot → slot ≤ slot_in file
  none_newer file among stays slot there =
      by_order (cases_lt (slot_in file) slot) (whose_slot run files hiddens (acknowledged_in workers) notes.all (slots_apart 0 files told.followed.slots) told.beside are_notes (key_in file) slot there)
    where
      by_order : (slot_in file < slot) ⊎ (slot ≤ slot_in file) → IsSlotFor run files hiddens (acknowledged_in workers) notes.all (slots_apart 0 files told.followed.slots) told.beside are_notes (key_in file) slot →
          slot ≤ slot_in file
      by_order (inr within) of = within
      by_order (inl newer) of =
          let its = Contains-append_left (map following_of files) (map hidden_following hiddens) (following_of file) (mapped_there following_of files file among) in
          let slot_is = of.slot_is in
          absurd (subst (λ (o : Option Removal). IsSomeAnd (left_by o) (λ last. last < of.one.known_from)) stays
          (told.turns.gone (following_of file) of.one its of.among (omega (arith, newer, slot_is)) (sym of.key_is)))

  pub begun_row : (file : Filed) → Contains files file → file.removed ≡ None → (rows : List Row) → AreRowsOver run.opening notes.all rows → IsBegunRow file rows
  begun_row file among stays rows over =
      let apart = slots_apart 0 files told.followed.slots in
      let started = is_started run files hiddens (acknowledged_in workers) notes.all apart told.beside are_notes file among in
      let start : Start = record { key = key_in file; path = started.path; epoch = (begun_in file).epoch; base = (begun_in file).base } in
      let row = standing_row (notes_of (slot_in file) notes.all) start in
      let stands = own_row_stands (slot_in file) notes.all start (none_forgotten run files hiddens (acknowledged_in workers) notes.all apart told.beside are_notes file among stays) started.is in
      let found = over.each (key_in file)
      ∙ row_of_newest run.opening notes.all (key_in file) (slot_in file) row (slot_there notes.all file (member_is (IsNoted notes.all) files file are_notes.begun among)) (none_newer file among stays) stands in
      record { start = start; key_is = refl; epoch_is = refl; base_is = refl; of_rows = found_there (key_in file) rows row found }
