-- Two areas without a row, over disks that hold at once what is written: area B is started beside area A, which was used, and a crash
-- meanwhile is found to leave no rows but none; a checkpoint that cuts area A first is refused, and so is one write of both areas.
use Rattle.std.proofs.Common.{◌≡◌, ◌⊎◌, inl, inr, ℕ, ◌≤◌, List, [], ◌∷◌, ◌++◌, drop, length, codes, Some, refl, sym, ap, subst, arith}
use Rattle.registry_log.specs.Header.{first_wrong}
use Rattle.registry_log.specs.State.{Blank, Closed, IsOpened, IsState, Opened}
use Rattle.registry_store.specs.Choice.{Chosen, GivesRows, IsChoice, Refused}
use Rattle.rounds.specs.Words.{DiskWords}
use Rattle.wire_base.specs.declared.limits.Which.TheVariants.{A, B}
use Rattle.wire_base.specs.declared.row.Row.{Row}
use Rattle.run_steps.specs.Together.{Areas, GiveThroughout, MayLeave, WritesOne}
use Rattle.run_steps.specs.UnusedArea.{IsOfUnusedArea}
use Rattle.run_steps.proofs.RunRows.{OneChoice}

-- ---- disks

-- what a disk holds, and what it held before, the earliest first
pub record Holding : Type 0 where
  pub past : List (List ℕ)
  pub now : List ℕ

abbrev pub IsAmong : List (List ℕ) → List ℕ → Type 0
IsAmong [] image = ⊥
IsAmong (first ∷ rest) image = (image ≡ first) ⊎ IsAmong rest image

abbrev pub disks : DiskWords Holding
disks = record {
  contents = λ disk. Some disk.now;
  images = λ disk image. image ≡ disk.now;
  moment = λ disk. length disk.past;
  images_since = λ disk since image. IsAmong (drop since (disk.past ++ disk.now ∷ [])) image;
  faults = λ disk. 0;
}

-- ---- areas

abbrev pub first_area : List ℕ
first_area = codes "{beat 2 00000000000000000001\n."

abbrev second_area : List ℕ
second_area = codes "{beat 2 00000000000000000002\n."

abbrev pub closed_area : List ℕ
closed_area = codes ".beat"

first_opened : IsOpened first_area 1 [] 29
unfolding first_wrong
first_opened = record {
  records = [];
  gate = 46;
  rest = [];
  reaches = record { unclosed = record { gate = refl; more = omega arith }; header = record { right = refl; number = refl }; each = tt; bytes = refl; begins = refl };
  closed = λ same. omega (arith, same);
  replayed = refl;
}

second_opened : IsOpened second_area 2 [] 29
unfolding first_wrong
second_opened = record {
  records = [];
  gate = 46;
  rest = [];
  reaches = record { unclosed = record { gate = refl; more = omega arith }; header = record { right = refl; number = refl }; each = tt; bytes = refl; begins = refl };
  closed = λ same. omega (arith, same);
  replayed = refl;
}

pub closed : IsState closed_area Closed
closed = (omega arith, λ same. omega (arith, same))

pub beside_blank : GivesRows first_area [] []
beside_blank = record {
  choice = Chosen A 1 [] 29 29;
  chosen = record { first_state = Opened 1 [] 29 29; second_state = Blank; first_is = (refl, first_opened); second_is = omega arith; chosen = refl };
  given = refl;
}

beside_closed : GivesRows first_area closed_area []
beside_closed = record {
  choice = Chosen A 1 [] 29 29;
  chosen = record { first_state = Opened 1 [] 29 29; second_state = Closed; first_is = (refl, first_opened); second_is = closed; chosen = refl };
  given = refl;
}

b_is_later : IsChoice first_area second_area (Chosen B 2 [] 29 29)
b_is_later = record { first_state = Opened 1 [] 29 29; second_state = Opened 2 [] 29 29; first_is = (refl, first_opened); second_is = (refl, second_opened); chosen = refl }

beside_later : GivesRows first_area second_area []
beside_later = record { choice = Chosen B 2 [] 29 29; chosen = b_is_later; given = refl }

-- ---- area B is started

abbrev GivesNone : List ℕ → List ℕ → Type 0
GivesNone first second = GivesRows first second []

-- B is blank
abbrev before : Areas Holding
before = record { a = record { past = []; now = first_area }; b = record { past = []; now = [] } }

-- B was closed, and then opened
abbrev after : Areas Holding
after = record { a = before.a; b = record { past = [] ∷ closed_area ∷ []; now = second_area } }

abbrev Beside : List ℕ → Type 0
Beside image = (other : List ℕ) → other ≡ first_area → GivesNone other image

each_beside : (image : List ℕ) → IsAmong ([] ∷ closed_area ∷ second_area ∷ []) image → Beside image
each_beside image (inl is) other same = subst (GivesNone other) (sym is) (subst (λ (l : List ℕ). GivesNone l []) (sym same) beside_blank)
each_beside image (inr (inl is)) other same = subst (GivesNone other) (sym is) (subst (λ (l : List ℕ). GivesNone l closed_area) (sym same) beside_closed)
each_beside image (inr (inr (inl is))) other same = subst (GivesNone other) (sym is) (subst (λ (l : List ℕ). GivesNone l second_area) (sym same) beside_later)
each_beside image (inr (inr (inr never))) other same = absurd never

since_start : (start : ℕ) → start ≤ 0 → start ≡ 0
since_start start le = omega (arith, le)

b_is_started : WritesOne disks GivesNone before (record { area = B; after = after })
b_is_started = record {
  other_same = refl;
  leaves = record {
    later = omega arith;
    each = each_beside;
    before = λ start image le since. inr (each_beside image (subst (λ (n : ℕ). IsAmong (drop n ([] ∷ closed_area ∷ second_area ∷ [])) image) (since_start start le) since));
  };
}

both_give_none : GiveThroughout disks GivesNone before after
both_give_none = record {
  writes = record { area = B; after = after } ∷ [];
  lead = (b_is_started, refl);
  at_end = λ first second left_a left_b. each_beside second (inr (inr (inl left_b))) first left_a;
}

-- a crash before B's gate is opened
left_closed : MayLeave disks before both_give_none.writes first_area closed_area
unfolding both_give_none
left_closed = inl (record { written = inr (inl refl); other = refl })

-- ---- what is refused

-- area A is cut beside a closed area B, as a checkpoint over the used area would do
abbrev cut : Areas Holding
cut = record { a = record { past = first_area ∷ []; now = [] }; b = record { past = []; now = closed_area } }

abbrev uncut : Areas Holding
uncut = record { a = before.a; b = cut.b }

-- some rows
abbrev GivesSome : List ℕ → List ℕ → Type 0
GivesSome first second = (rows : List Row) × GivesRows first second rows

used_area_is_cut : OneChoice → WritesOne disks GivesSome uncut (record { area = A; after = cut }) → ⊥
used_area_is_cut one writes =
    let (rows, gives) = writes.leaves.each [] (inr (inl refl)) closed_area refl in
    let refused : IsChoice [] closed_area (Refused B 0) = record { first_state = Blank; second_state = Closed; first_is = omega arith; second_is = closed; chosen = refl } in
    let same = one [] closed_area gives.choice (Refused B 0) gives.chosen refused in
    let given = gives.given in
    cc (same, given)

-- both areas are other ones behind one write
abbrev both_written : Areas Holding
both_written = record { a = record { past = first_area ∷ []; now = second_area }; b = after.b }

one_write_of_both : (Gives : List ℕ → List ℕ → Type 0) → WritesOne disks Gives before (record { area = B; after = both_written }) → ⊥
one_write_of_both Gives writes = let same : 1 ≡ 0 = ap (λ (disk : Holding). length disk.past) writes.other_same in omega (arith, same)

-- ---- the area that is not used

-- A, behind the start of B
a_is_unused : IsOfUnusedArea disks after A first_area 1
a_is_unused = record {
  told = refl;
  used = 2;
  rows = [];
  start = 29;
  end = 29;
  other_is_chosen = record { first = first_area; second = second_area; a_told = refl; b_told = refl; chosen = b_is_later };
  at_least = omega arith;
}

-- B is used
b_is_used : OneChoice → IsOfUnusedArea disks after B second_area 2 → ⊥
b_is_used one unused =
    let by = unused.other_is_chosen in
    let first_is : first_area ≡ by.first = cc by.a_told in
    let second_is : second_area ≡ by.second = cc by.b_told in
    let same = one by.first by.second (Chosen B 2 [] 29 29) (Chosen A unused.used unused.rows unused.start unused.end)
    (subst (λ (l : List ℕ). IsChoice by.first l (Chosen B 2 [] 29 29)) second_is (subst (λ (l : List ℕ). IsChoice l second_area (Chosen B 2 [] 29 29)) first_is b_is_later)) by.chosen in
    cc same
