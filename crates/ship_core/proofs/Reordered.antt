-- Orderly notes in another order give the same rows.
use Rattle.std.proofs.Common.{◌≡◌, ◌⊎◌, inl, inr, ℕ, ◌≤◌, Bool, true, false, List, [], ◌∷◌, ◌++◌, All, Contains, max, Option, Some, None, unwrap_or, if◌then◌else◌, ◌==◌, nat_lt, refl, sym, ap, ◌∙◌, subst, arith, append_assoc}
use Rattle.std.specs.List.{filter, filter_map, fold, list_any}
use Rattle.std.specs.Option.{option_map, option_and_then, option_to_list, is_some}
use Rattle.std.proofs.lemmas.Bool.{eqb-true, ltb-true, ltb-false}
use Rattle.std.proofs.lemmas.List.{append-nil}
use Rattle.std.proofs.lemmas.List.Elements.{filter_map-append, All-contains, Contains-append_cases}
use Rattle.wire_base.specs.Extent.{Extent}
use Rattle.wire_base.specs.declared.row.Row.{Row}
use Rattle.wire_base.specs.declared.note.Note.{Note}
use Rattle.wire_base.specs.declared.note.Note.TheVariants.{Begin, Announce, Settle, Rename, Seen, Forget}
use Rattle.ship_core.specs.CoveredEnd.{AreEqualOrApart, AreApart, covered_end}
use Rattle.ship_core.specs.Orderly.{AreOrderly, MayFollow}
use Rattle.ship_core.specs.RowOver.{Start, Naming, slot_of, epoch_of, moment_of, start_of, span_in, naming_of, forgets, notes_of, first_start, start_over, greatest_epoch, greatest_moment, base_in, spans_in, offset_over, newer, path_over, is_gone, row_over}
use Rattle.ship_core.specs.RowsOver.{slot_for, slots_for, row_of_greatest, row_among, row_for}
use Rattle.ship_core.proofs.InOrder.{follows}
use Rattle.ship_core.proofs.Members.{Within, first_there, later_there, there_cases, none_there, filter_within, given_within, same_any, same_greatest}
use Rattle.ship_core.proofs.MoreNotes.{notes_of-append, row_same}
use Rattle.ship_core.proofs.Prefixes.{same_spans}

-- ---- induction along orderly notes

along_from : (P : List Note → Type 0) → ((notes : List Note) (note : Note) → MayFollow notes note → P notes → P (notes ++ note ∷ [])) → (front rest : List Note) → AreOrderly (front ++ rest) → P front → P (front ++ rest)
along_from P step front [] orderly here = subst P (sym (append-nil front)) here
along_from P step front (note ∷ rest) orderly here =
    let same : (front ++ note ∷ []) ++ rest ≡ front ++ note ∷ rest = append_assoc front (note ∷ []) rest in
    subst P same (along_from P step (front ++ note ∷ []) rest (subst AreOrderly (sym same) orderly) (step front note (follows front rest note orderly) here))

along_notes : (P : List Note → Type 0) → P [] → ((notes : List Note) (note : Note) → MayFollow notes note → P notes → P (notes ++ note ∷ [])) → (notes : List Note) → AreOrderly notes → P notes
along_notes P none step notes orderly = along_from P step [] notes orderly none

-- ---- one note more, seen by one kind of what it says

module _ {Y : Type 0} (h : Note → Option Y) (slot : ℕ) where
  abbrev pub told : List Note → List Y
  told notes = filter_map h (notes_of slot notes)

  abbrev pub tells : Note → Option Y
  tells note = if slot_of note == slot then h note else None

  told_more : (notes : List Note) (note : Note) → told (notes ++ note ∷ []) ≡ told notes ++ option_to_list (tells note)
  told_more notes note =
      ap (filter_map h) (notes_of-append slot notes (note ∷ [])) ∙ filter_map-append h (notes_of slot notes) (notes_of slot (note ∷ [])) ∙ ap (λ (l : List Y). told notes ++ l) (by_case (slot_of note == slot) (h note) refl)
    where
      by_case : (b : Bool) (o : Option Y) → h note ≡ o → filter_map h (if b then note ∷ [] else []) ≡ option_to_list (if b then h note else None)
      by_case true None e = rw e refl
      by_case true (Some y) e = rw e refl
      by_case false o e = refl

  -- what any two of the reported say of each other stays so, if what a note reports says it of what was reported before it
  pub pairwise : (R : Y → Y → Type 0) → ((y : Y) → R y y) → ((x y : Y) → R x y → R y x) → ((notes : List Note) (note : Note) → MayFollow notes note → (y : Y) → tells note ≡ Some y → (x : Y) → Contains (told notes) x → R y x) → (notes : List Note) → AreOrderly notes → (x y : Y) → Contains (told notes) x → Contains (told notes) y → R x y
  pairwise R itself turned new = along_notes (λ (notes : List Note). (x y : Y) → Contains (told notes) x → Contains (told notes) y → R x y) (λ x y there other. absurd (none_there x there)) step
    where
      last : (o : Option Y) (y : Y) → Contains (option_to_list o) y → o ≡ Some y
      last None y there = absurd (none_there y there)
      last (Some z) y there = elim (there_cases z y [] there) [
        | inl same ↦ ap Some same
        | inr later ↦ absurd (none_there y later)
      ]

      step : (notes : List Note) (note : Note) → MayFollow notes note → ((x y : Y) → Contains (told notes) x → Contains (told notes) y → R x y) → (x y : Y) → Contains (told (notes ++ note ∷ [])) x → Contains (told (notes ++ note ∷ [])) y → R x y
      step notes note may before x y there other = by_cases (cases x there) (cases y other)
        where
          cases : (z : Y) → Contains (told (notes ++ note ∷ [])) z → Contains (told notes) z ⊎ (tells note ≡ Some z)
          cases z at = elim (Contains-append_cases (told notes) (option_to_list (tells note)) z (subst (λ (l : List Y). Contains l z) (told_more notes note) at)) [
            | inl early ↦ inl early
            | inr late ↦ inr (last (tells note) z late)
          ]

          by_cases : Contains (told notes) x ⊎ (tells note ≡ Some x) → Contains (told notes) y ⊎ (tells note ≡ Some y) → R x y
          by_cases (inl a) (inl b) = before x y a b
          by_cases (inl a) (inr b) = turned y x (new notes note may y b x a)
          by_cases (inr a) (inl b) = new notes note may x a y b
          by_cases (inr a) (inr b) = let q : Some x ≡ Some y = sym a ∙ b in let same : x ≡ y = cc in subst (R x) same (itself x)

-- ---- what orderly notes tell

-- a slot has one start
pub one_start : (slot : ℕ) (notes : List Note) → AreOrderly notes → (a b : Start) → Contains (filter_map start_of (notes_of slot notes)) a → Contains (filter_map start_of (notes_of slot notes)) b → a ≡ b
one_start slot = pairwise start_of slot (λ (a b : Start). a ≡ b) (λ a. refl) (λ a b e. sym e) new
  where
    none_else : (b : Bool) (y : Start) → (if b then None else None) ≡ Some y → ⊥
    none_else true y e = let q : None ≡ Some y = e in cc
    none_else false y e = let q : None ≡ Some y = e in cc

    new : (notes : List Note) (note : Note) → MayFollow notes note → (y : Start) → tells start_of slot note ≡ Some y → (x : Start) → Contains (told start_of slot notes) x → y ≡ x
    new notes (Begin s key path epoch base changed) may y e x there = by_case (s.0 == slot) refl e
      where
        by_case : (b : Bool) → (s.0 == slot) ≡ b → (if b then Some (record { key = key; path = path; epoch = epoch.0; base = base }) else None) ≡ Some y → y ≡ x
        by_case true is e =
            let empty : notes_of slot notes ≡ [] = subst (λ (z : ℕ). notes_of z notes ≡ []) (eqb-true s.0 slot is) may in
            absurd (none_there x (subst (λ (l : List Note). Contains (filter_map start_of l) x) empty there))
        by_case false is e = absurd (let q : None ≡ Some y = e in cc)
    new notes (Announce s epoch) may y e x there = absurd (none_else (s.0 == slot) y e)
    new notes (Settle s epoch span cause) may y e x there = absurd (none_else (s.0 == slot) y e)
    new notes (Rename s scan path) may y e x there = absurd (none_else (s.0 == slot) y e)
    new notes (Seen s changed) may y e x there = absurd (none_else (s.0 == slot) y e)
    new notes (Forget s epoch end) may y e x there = absurd (none_else (s.0 == slot) y e)

-- a slot's spans of an epoch are apart
pub spans_apart : (slot epoch : ℕ) (notes : List Note) → AreOrderly notes → AreApart (spans_in epoch (notes_of slot notes))
spans_apart slot epoch = pairwise (span_in epoch) slot AreEqualOrApart (λ a. inl refl) turned new
  where
    turned : (a b : Extent) → AreEqualOrApart a b → AreEqualOrApart b a
    turned a b (inl same) = inl (sym same)
    turned a b (inr (inl before)) = inr (inr before)
    turned a b (inr (inr behind)) = inr (inl behind)

    none_else : (b : Bool) (y : Extent) → (if b then None else None) ≡ Some y → ⊥
    none_else true y e = let q : None ≡ Some y = e in cc
    none_else false y e = let q : None ≡ Some y = e in cc

    new : (notes : List Note) (note : Note) → MayFollow notes note → (y : Extent) → tells (span_in epoch) slot note ≡ Some y → (x : Extent) → Contains (told (span_in epoch) slot notes) x → AreEqualOrApart y x
    new notes (Begin s key path named base changed) may y e x there = absurd (none_else (s.0 == slot) y e)
    new notes (Announce s named) may y e x there = absurd (none_else (s.0 == slot) y e)
    new notes (Settle s named span cause) may y e x there = by_case (s.0 == slot) refl (named.0 == epoch) refl e
      where
        by_case : (b : Bool) → (s.0 == slot) ≡ b → (d : Bool) → (named.0 == epoch) ≡ d → (if b then (if d then Some span else None) else None) ≡ Some y → AreEqualOrApart y x
        by_case true is true at e =
            let same : span ≡ y = let q : Some span ≡ Some y = e in cc in
            let listed = subst (λ (z : ℕ). All (AreEqualOrApart span) (spans_in epoch (notes_of z notes))) (eqb-true s.0 slot is) (subst (λ (z : ℕ). All (AreEqualOrApart span) (spans_in z (notes_of s.0 notes))) (eqb-true named.0 epoch at) may.1) in
            subst (λ (z : Extent). AreEqualOrApart z x) same (All-contains (AreEqualOrApart span) (spans_in epoch (notes_of slot notes)) x listed there)
        by_case true is false at e = absurd (let q : None ≡ Some y = e in cc)
        by_case false is d at e = absurd (let q : None ≡ Some y = e in cc)
    new notes (Rename s scan path) may y e x there = absurd (none_else (s.0 == slot) y e)
    new notes (Seen s changed) may y e x there = absurd (none_else (s.0 == slot) y e)
    new notes (Forget s named end) may y e x there = absurd (none_else (s.0 == slot) y e)

-- namings of one scan have one path
one_path : (slot : ℕ) (notes : List Note) → AreOrderly notes → (a b : Naming) → Contains (filter_map naming_of (notes_of slot notes)) a → Contains (filter_map naming_of (notes_of slot notes)) b → a.scan ≡ b.scan → a.path ≡ b.path
one_path slot = pairwise naming_of slot (λ (a b : Naming). a.scan ≡ b.scan → a.path ≡ b.path) (λ a e. refl) (λ a b h e. sym (h (sym e))) new
  where
    none_else : (b : Bool) (y : Naming) → (if b then None else None) ≡ Some y → ⊥
    none_else true y e = let q : None ≡ Some y = e in cc
    none_else false y e = let q : None ≡ Some y = e in cc

    new : (notes : List Note) (note : Note) → MayFollow notes note → (y : Naming) → tells naming_of slot note ≡ Some y → (x : Naming) → Contains (told naming_of slot notes) x → y.scan ≡ x.scan → y.path ≡ x.path
    new notes (Begin s key path epoch base changed) may y e x there = absurd (none_else (s.0 == slot) y e)
    new notes (Announce s epoch) may y e x there = absurd (none_else (s.0 == slot) y e)
    new notes (Settle s epoch span cause) may y e x there = absurd (none_else (s.0 == slot) y e)
    new notes (Rename s scan path) may y e x there = by_case (s.0 == slot) refl e
      where
        by_case : (b : Bool) → (s.0 == slot) ≡ b → (if b then Some (record { scan = scan; path = path }) else None) ≡ Some y → y.scan ≡ x.scan → y.path ≡ x.path
        by_case true is e same_scan =
            let scan_is : scan ≡ y.scan = let q : Some (record { scan = scan; path = path }) ≡ Some y = e in cc in
            let path_is : path ≡ y.path = let q : Some (record { scan = scan; path = path }) ≡ Some y = e in cc in
            let listed = subst (λ (z : ℕ). All (λ (n : Naming). n.scan ≡ scan → n.path ≡ path) (filter_map naming_of (notes_of z notes))) (eqb-true s.0 slot is) may.1 in
            sym path_is ∙ sym (All-contains (λ (n : Naming). n.scan ≡ scan → n.path ≡ path) (filter_map naming_of (notes_of slot notes)) x listed there (sym same_scan ∙ sym scan_is))
        by_case false is e same_scan = absurd (let q : None ≡ Some y = e in cc)
    new notes (Seen s changed) may y e x there = absurd (none_else (s.0 == slot) y e)
    new notes (Forget s epoch end) may y e x there = absurd (none_else (s.0 == slot) y e)

-- ---- the first start, and the newest naming

pub first_member : (starts : List Start) (start : Start) → first_start starts ≡ Some start → Contains starts start
first_member [] start e = absurd (let q : None ≡ Some start = e in cc)
first_member (first ∷ starts) start e = let q : Some first ≡ Some start = e in let same : first ≡ start = cc in subst (Contains (first ∷ starts)) same (first_there first starts)

same_first : (xs ys : List Start) → ((a b : Start) → Contains ys a → Contains ys b → a ≡ b) → Within xs ys → Within ys xs → first_start xs ≡ first_start ys
same_first [] [] one there back = refl
same_first [] (y ∷ ys) one there back = absurd (none_there y (back y (first_there y ys)))
same_first (x ∷ xs) [] one there back = absurd (none_there x (there x (first_there x xs)))
same_first (x ∷ xs) (y ∷ ys) one there back = ap Some (one x y (there x (first_there x xs)) (first_there y ys))

-- the newest of namings, and of one more before them
pub record IsNewest (before : Option Naming) (namings : List Naming) (newest : Naming) : Type 0 where
  pub from : (before ≡ Some newest) ⊎ Contains namings newest
  pub all : (naming : Naming) → Contains namings naming → naming.scan ≤ newest.scan

newest_of : (before : Naming) (namings : List Naming) → (newest : Naming) × (fold newer (Some before) namings ≡ Some newest) × IsNewest (Some before) namings newest × (before.scan ≤ newest.scan)
newest_of before [] = (before, refl, record { from = inl refl; all = λ naming there. absurd (none_there naming there) }, omega arith)
newest_of before (naming ∷ namings) = by_case (nat_lt before.scan naming.scan) refl (newest_of naming namings) (newest_of before namings)
  where
    by_case : (b : Bool) → nat_lt before.scan naming.scan ≡ b → ((newest : Naming) × (fold newer (Some naming) namings ≡ Some newest) × IsNewest (Some naming) namings newest × (naming.scan ≤ newest.scan)) → ((newest : Naming) × (fold newer (Some before) namings ≡ Some newest) × IsNewest (Some before) namings newest × (before.scan ≤ newest.scan)) → (newest : Naming) × (fold newer (if b then Some naming else Some before) namings ≡ Some newest) × IsNewest (Some before) (naming ∷ namings) newest × (before.scan ≤ newest.scan)
    by_case true e later earlier = (later.0, later.1, record { from = inr (from later.2.from); all = all }, omega (arith, ltb-true before.scan naming.scan e, later.3))
      where
        from : (Some naming ≡ Some later.0) ⊎ Contains namings later.0 → Contains (naming ∷ namings) later.0
        from (inl same) = let is : naming ≡ later.0 = cc in subst (Contains (naming ∷ namings)) is (first_there naming namings)
        from (inr there) = later_there naming later.0 namings there

        all : (other : Naming) → Contains (naming ∷ namings) other → other.scan ≤ later.0.scan
        all other there = elim (there_cases naming other namings there) [
          | inl same ↦ let is : naming.scan ≡ other.scan = ap (λ (n : Naming). n.scan) same in omega (arith, is, later.3)
          | inr behind ↦ later.2.all other behind
        ]
    by_case false e later earlier = (earlier.0, earlier.1, record { from = from earlier.2.from; all = all }, earlier.3)
      where
        from : (Some before ≡ Some earlier.0) ⊎ Contains namings earlier.0 → (Some before ≡ Some earlier.0) ⊎ Contains (naming ∷ namings) earlier.0
        from (inl same) = inl same
        from (inr there) = inr (later_there naming earlier.0 namings there)

        all : (other : Naming) → Contains (naming ∷ namings) other → other.scan ≤ earlier.0.scan
        all other there = elim (there_cases naming other namings there) [
          | inl same ↦ let is : naming.scan ≡ other.scan = ap (λ (n : Naming). n.scan) same in omega (arith, is, earlier.3, ltb-false before.scan naming.scan e)
          | inr behind ↦ earlier.2.all other behind
        ]

-- of some namings the newest is one of them
newest_member : (first : Naming) (namings : List Naming) → (newest : Naming) × (fold newer None (first ∷ namings) ≡ Some newest) × Contains (first ∷ namings) newest × ((naming : Naming) → Contains (first ∷ namings) naming → naming.scan ≤ newest.scan)
newest_member first namings =
    let found = newest_of first namings in
    (found.0, found.1, from found.0 found.2.from, λ naming there. all found.0 found.3 found.2.all naming (there_cases first naming namings there))
  where
    from : (newest : Naming) → (Some first ≡ Some newest) ⊎ Contains namings newest → Contains (first ∷ namings) newest
    from newest (inl same) = let is : first ≡ newest = cc in subst (Contains (first ∷ namings)) is (first_there first namings)
    from newest (inr there) = later_there first newest namings there

    all : (newest : Naming) → first.scan ≤ newest.scan → ((naming : Naming) → Contains namings naming → naming.scan ≤ newest.scan) → (naming : Naming) → (first ≡ naming) ⊎ Contains namings naming → naming.scan ≤ newest.scan
    all newest le each naming (inl same) = let is : first.scan ≡ naming.scan = ap (λ (n : Naming). n.scan) same in omega (arith, is, le)
    all newest le each naming (inr there) = each naming there

same_newest : (xs ys : List Naming) → ((a b : Naming) → Contains ys a → Contains ys b → a.scan ≡ b.scan → a.path ≡ b.path) → Within xs ys → Within ys xs → option_map (λ (n : Naming). n.path) (fold newer None xs) ≡ option_map (λ (n : Naming). n.path) (fold newer None ys)
same_newest [] [] one there back = refl
same_newest [] (y ∷ ys) one there back = absurd (none_there y (back y (first_there y ys)))
same_newest (x ∷ xs) [] one there back = absurd (none_there x (there x (first_there x xs)))
same_newest (x ∷ xs) (y ∷ ys) one there back =
    let a = newest_member x xs in
    let b = newest_member y ys in
    let up = b.3 a.0 (there a.0 a.2) in
    let down = a.3 b.0 (back b.0 b.2) in
    let same : a.0.path ≡ b.0.path = one a.0 b.0 (there a.0 a.2) b.2 (omega (arith, up, down)) in
    ap (option_map (λ (n : Naming). n.path)) a.1 ∙ ap Some same ∙ sym (ap (option_map (λ (n : Naming). n.path)) b.1)

-- ---- the row

module _ (first second : List Note) (orderly : AreOrderly second) (there : Within first second) (back : Within second first) (slot : ℕ) where
  ours_there : Within (notes_of slot first) (notes_of slot second)
  ours_there = filter_within (λ (note : Note). slot_of note == slot) first second there

  ours_back : Within (notes_of slot second) (notes_of slot first)
  ours_back = filter_within (λ (note : Note). slot_of note == slot) second first back

  start_same : start_over (notes_of slot first) ≡ start_over (notes_of slot second)
  start_same = same_first (filter_map start_of (notes_of slot first)) (filter_map start_of (notes_of slot second)) (one_start slot second orderly)
      (given_within start_of (notes_of slot first) (notes_of slot second) ours_there) (given_within start_of (notes_of slot second) (notes_of slot first) ours_back)

  epoch_same : greatest_epoch (notes_of slot first) ≡ greatest_epoch (notes_of slot second)
  epoch_same = same_greatest (filter_map epoch_of (notes_of slot first)) (filter_map epoch_of (notes_of slot second))
      (given_within epoch_of (notes_of slot first) (notes_of slot second) ours_there) (given_within epoch_of (notes_of slot second) (notes_of slot first) ours_back)

  moment_same : greatest_moment (notes_of slot first) ≡ greatest_moment (notes_of slot second)
  moment_same = same_greatest (filter_map moment_of (notes_of slot first)) (filter_map moment_of (notes_of slot second))
      (given_within moment_of (notes_of slot first) (notes_of slot second) ours_there) (given_within moment_of (notes_of slot second) (notes_of slot first) ours_back)

  end_same : (epoch place : ℕ) → covered_end (spans_in epoch (notes_of slot first)) place ≡ covered_end (spans_in epoch (notes_of slot second)) place
  end_same epoch place = same_spans (spans_in epoch (notes_of slot first)) (spans_in epoch (notes_of slot second)) (spans_apart slot epoch second orderly)
      (given_within (span_in epoch) (notes_of slot first) (notes_of slot second) ours_there) (given_within (span_in epoch) (notes_of slot second) (notes_of slot first) ours_back) place

  offset_same : (start : Start) → offset_over start (notes_of slot first) ≡ offset_over start (notes_of slot second)
  offset_same start =
      end_same (greatest_epoch (notes_of slot first)) (base_in start (greatest_epoch (notes_of slot first)))
      ∙ ap (λ (e : ℕ). covered_end (spans_in e (notes_of slot second)) (base_in start e)) epoch_same

  path_same : (start : Start) → path_over start (notes_of slot first) ≡ path_over start (notes_of slot second)
  path_same start = ap (λ (o : Option (List ℕ)). unwrap_or o start.path) (same_newest (filter_map naming_of (notes_of slot first)) (filter_map naming_of (notes_of slot second)) (one_path slot second orderly)
      (given_within naming_of (notes_of slot first) (notes_of slot second) ours_there) (given_within naming_of (notes_of slot second) (notes_of slot first) ours_back))

  gone_same : (start : Start) → is_gone start (notes_of slot first) ≡ is_gone start (notes_of slot second)
  gone_same start =
      (λ k. list_any (forgets (epoch_same k) (offset_same start k)) (notes_of slot first))
      ∙ same_any (forgets (greatest_epoch (notes_of slot second)) (offset_over start (notes_of slot second))) (notes_of slot first) (notes_of slot second) ours_there ours_back

  pub same_row : row_over slot first ≡ row_over slot second
  same_row = λ k. option_and_then (λ (start : Start). row_same start (notes_of slot first) (notes_of slot second) epoch_same moment_same (offset_same start) (path_same start) (gone_same start) k) (start_same k)

-- ---- the row of a key

same_greatest_row : (notes : List Note) (xs ys : List ℕ) → Within xs ys → Within ys xs → row_of_greatest notes xs ≡ row_of_greatest notes ys
same_greatest_row notes [] [] there back = refl
same_greatest_row notes [] (y ∷ ys) there back = absurd (none_there y (back y (first_there y ys)))
same_greatest_row notes (x ∷ xs) [] there back = absurd (none_there x (there x (first_there x xs)))
same_greatest_row notes (x ∷ xs) (y ∷ ys) there back = ap (λ (slot : ℕ). row_over slot notes) (from_zero x xs ∙ same_greatest (x ∷ xs) (y ∷ ys) there back ∙ sym (from_zero y ys))
  where
    from_zero : (z : ℕ) (zs : List ℕ) → fold max z zs ≡ fold max 0 (z ∷ zs)
    from_zero z zs = let least : z ≡ max 0 z = omega arith in ap (λ (least : ℕ). fold max least zs) least

module _ (first second : List Note) (orderly : AreOrderly second) (there : Within first second) (back : Within second first) (opening : List Row) where
  same_standing : (slots : List ℕ) → filter (λ (given : ℕ). is_some (row_over given first)) slots ≡ filter (λ (given : ℕ). is_some (row_over given second)) slots
  same_standing slots = λ k. filter (λ (given : ℕ). is_some (same_row first second orderly there back given k)) slots

  same_greatest_over : (slots : List ℕ) → row_of_greatest first slots ≡ row_of_greatest second slots
  same_greatest_over [] = refl
  same_greatest_over (slot ∷ slots) = same_row first second orderly there back (fold max slot slots)

  of_slots : (key : List ℕ) (xs ys : List ℕ) → Within xs ys → Within ys xs → row_among opening first key xs ≡ row_among opening second key ys
  of_slots key [] [] a b = refl
  of_slots key [] (y ∷ ys) a b = absurd (none_there y (b y (first_there y ys)))
  of_slots key (x ∷ xs) [] a b = absurd (none_there x (a x (first_there x xs)))
  of_slots key (x ∷ xs) (y ∷ ys) a b =
      same_greatest_over (filter (λ (given : ℕ). is_some (row_over given first)) (x ∷ xs))
      ∙ ap (row_of_greatest second) (same_standing (x ∷ xs))
      ∙ same_greatest_row second (filter (λ (given : ℕ). is_some (row_over given second)) (x ∷ xs)) (filter (λ (given : ℕ). is_some (row_over given second)) (y ∷ ys))
      (filter_within (λ (given : ℕ). is_some (row_over given second)) (x ∷ xs) (y ∷ ys) a) (filter_within (λ (given : ℕ). is_some (row_over given second)) (y ∷ ys) (x ∷ xs) b)

  pub same_row_for : (key : List ℕ) → row_for opening first key ≡ row_for opening second key
  same_row_for key = of_slots key (slots_for key first) (slots_for key second) (given_within (slot_for key) first second there) (given_within (slot_for key) second first back)
