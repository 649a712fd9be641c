-- The rows of the registry that are removed, and that they may go: the scan did not show their keys.
use Rattle.std.proofs.Common.{◌≡◌, ◌⊎◌, inl, inr, ℕ, zero, suc, ◌+◌, Contains, List, [], ◌∷◌, ◌++◌, length, map, take, Some, refl, sym, ap, subst, ◌∙◌, arith, append_assoc, append-nil}
use Rattle.std.proofs.lemmas.Option.{slice_get_read}
use Rattle.std.proofs.lemmas.List.Elements.{Contains-append_right}
use Rattle.std.specs.Prelude.{slice_get}
use Rattle.std.specs.List.{AllByRecursion}
use Rattle.std.specs.declared.cmp.Ordering.TheVariants.{Equal, Less}
use Rattle.accounts.proofs.Begins.{begin_begins}
use Rattle.accounts.proofs.Grounded.{each_member, of_map}
use Rattle.accounts.proofs.Ordered.{HasSlotBelow, below_more, below_then, none_of_slot, one_more_orderly}
use Rattle.accounts.proofs.HiddenFollowed.{begins_unlisted}
use Rattle.kept_rows.specs.Followed.{WasHidden, start_unlisted}
use Rattle.accounts.specs.Hidden.{AreHiddenFrom, Hidden, MayAllGo, MayGo, hidden_begin, hidden_forget, hidden_key}
use Rattle.event_tree.specs.declared.input_rule.InputRule.{InputRule}
use Rattle.file_rows.specs.Removed.{IsRemoved}
use Rattle.kept_rows.proofs.Images.{found_by_its_key}
use Rattle.kept_rows.specs.Run.{Run, Scan}
use Rattle.kept_rows.specs.Scans.{AreDistinct, IsWhole, ShowsKey}
use Rattle.prospect.specs.declared.listed.Listed.{Listed}
use Rattle.ship_core.proofs.Members.{first_there, later_there, none_there, there_cases}
use Rattle.ship_core.specs.Orderly.{AreOrderly, IsBegun}
use Rattle.ship_core.specs.Rows.{IsBefore, IsInOrder}
use Rattle.wire_base.proofs.ByteOrder.{compare_same}
use Rattle.wire_base.specs.KeyOrder.{compare}
use Rattle.wire_base.specs.declared.note.Note.{Note}
use Rattle.wire_base.specs.declared.row.Row.{Row}
use Rattle.run_steps.specs.HiddenRows.{AreHiddenAmong, AreHiddenSoFar, hidden_as, hidden_notes}

-- ---- the first rows

pub take_there : (count : ℕ) (rows : List Row) (row : Row) → Contains (take count rows) row → Contains rows row
take_there zero rows row there = absurd (none_there row there)
take_there (suc count) [] row there = absurd (none_there row there)
take_there (suc count) (first ∷ rows) row there = by_place (there_cases first row (take count rows) there) (take_there count rows row)
  where
    by_place : (first ≡ row) ⊎ Contains (take count rows) row → (Contains (take count rows) row → Contains rows row) → Contains (first ∷ rows) row
    by_place (inl same) later = subst (λ (r : Row). Contains (first ∷ rows) r) same (first_there first rows)
    by_place (inr behind) later = later_there first row rows (later behind)

take_before : (key : List ℕ) (count : ℕ) (rows : List Row) → IsBefore key rows → IsBefore key (take count rows)
take_before key zero rows before = tt
take_before key (suc count) [] before = tt
take_before key (suc count) (row ∷ rows) before = (before.0, take_before key count rows before.1)

take_ordered : (count : ℕ) (rows : List Row) → IsInOrder rows → IsInOrder (take count rows)
take_ordered zero rows ordered = tt
take_ordered (suc count) [] ordered = tt
take_ordered (suc count) (row ∷ rows) ordered = (take_before row.key count rows ordered.0, take_ordered count rows ordered.1)

greater_keys : (key : List ℕ) (rows : List Row) (row : Row) → IsBefore key rows → Contains rows row → compare key row.key ≡ Less
greater_keys key [] row before there = absurd (none_there row there)
greater_keys key (first ∷ rows) row before there = by_place (there_cases first row rows there) (greater_keys key rows row before.1)
  where
    by_place : (first ≡ row) ⊎ Contains rows row → (Contains rows row → compare key row.key ≡ Less) → compare key row.key ≡ Less
    by_place (inl same) later = subst (λ (r : Row). compare key r.key ≡ Less) same before.0
    by_place (inr behind) later = later behind

-- ---- which they are

module _ (inputs : List InputRule) (listed : List Listed) where
  pub record IsHiddenOf (rows : List Row) (hidden : Hidden) : Type 0 where
    pub among : Contains rows hidden.row
    pub removed : IsRemoved inputs listed (hidden_key hidden)
    pub input_is : removed.cleaned.0 ≡ hidden.input
    -- it begins where it stood, and goes by the first scan
    pub starts : hidden.start ≡ start_unlisted hidden.row
    pub first : hidden.hidden_by ≡ 0
    pub path_is : hidden.path ≡ hidden.row.path

  later_hidden : (row : Row) (rows : List Row) (hidden : Hidden) → IsHiddenOf rows hidden → IsHiddenOf (row ∷ rows) hidden
  later_hidden row rows hidden of = record { among = later_there row hidden.row rows of.among; removed = of.removed; input_is = of.input_is; starts = of.starts; first = of.first; path_is = of.path_is }

  pub each_is_hidden_of : (slot : ℕ) (rows : List Row) (hiddens : List Hidden) (hidden : Hidden) → AreHiddenAmong inputs listed slot rows hiddens → Contains hiddens hidden → IsHiddenOf rows hidden
  each_is_hidden_of slot [] hiddens hidden are there = absurd (none_there hidden (subst (λ (l : List Hidden). Contains l hidden) are there))
  each_is_hidden_of slot (row ∷ rows) hiddens hidden (inl stands) there = later_hidden row rows hidden (each_is_hidden_of slot rows hiddens hidden stands.1 there)
  each_is_hidden_of slot (row ∷ rows) hiddens hidden (inr goes) there =
      by_place (there_cases (hidden_as inputs slot row goes.removed.cleaned) hidden goes.later (subst (λ (l : List Hidden). Contains l hidden) goes.are there)) (each_is_hidden_of (suc slot) rows goes.later hidden goes.rest)
    where
      by_place : (hidden_as inputs slot row goes.removed.cleaned ≡ hidden) ⊎ Contains goes.later hidden → (Contains goes.later hidden → IsHiddenOf rows hidden) → IsHiddenOf (row ∷ rows) hidden
      by_place (inl same) later = subst (IsHiddenOf (row ∷ rows)) same (record { among = first_there row rows; removed = goes.removed; input_is = refl; starts = refl; first = refl; path_is = refl })
      by_place (inr behind) later = later_hidden row rows hidden (later behind)

  -- one that is removed is among them
  pub removed_is_hidden : (slot : ℕ) (rows : List Row) (hiddens : List Hidden) (row : Row) → AreHiddenAmong inputs listed slot rows hiddens → Contains rows row → IsRemoved inputs listed row.key →
      (hidden : Hidden) × Contains hiddens hidden × (hidden.row ≡ row)
  removed_is_hidden slot [] hiddens row are there removed = absurd (none_there row there)
  removed_is_hidden slot (first ∷ rows) hiddens row (inl stands) there removed = by_place (there_cases first row rows there) (λ later. removed_is_hidden slot rows hiddens row stands.1 later removed)
    where
      by_place : (first ≡ row) ⊎ Contains rows row → (Contains rows row → (hidden : Hidden) × Contains hiddens hidden × (hidden.row ≡ row)) → (hidden : Hidden) × Contains hiddens hidden × (hidden.row ≡ row)
      by_place (inl same) later = absurd (stands.0 (subst (λ (r : Row). IsRemoved inputs listed r.key) (sym same) removed))
      by_place (inr behind) later = later behind
  removed_is_hidden slot (first ∷ rows) hiddens row (inr goes) there removed = by_place (there_cases first row rows there) (λ later. removed_is_hidden (suc slot) rows goes.later row goes.rest later removed)
    where
      by_place : (first ≡ row) ⊎ Contains rows row → (Contains rows row → (hidden : Hidden) × Contains goes.later hidden × (hidden.row ≡ row)) → (hidden : Hidden) × Contains hiddens hidden × (hidden.row ≡ row)
      by_place (inl same) later =
          let its = hidden_as inputs slot first goes.removed.cleaned in (its, subst (λ (l : List Hidden). Contains l its) (sym goes.are) (first_there its goes.later), same)
      by_place (inr behind) later =
          let of = later behind in
          (of.0, subst (λ (l : List Hidden). Contains l of.0) (sym goes.are) (later_there (hidden_as inputs slot first goes.removed.cleaned) of.0 goes.later of.1), of.2)

  -- their slots rise
  pub hidden_slots : (slot : ℕ) (rows : List Row) (hiddens : List Hidden) → AreHiddenAmong inputs listed slot rows hiddens → AreHiddenFrom slot hiddens
  hidden_slots slot [] hiddens are = subst (AreHiddenFrom slot) (sym are) tt
  hidden_slots slot (row ∷ rows) hiddens (inl stands) = hidden_slots slot rows hiddens stands.1
  hidden_slots slot (row ∷ rows) hiddens (inr goes) =
      subst (AreHiddenFrom slot) (sym goes.are) (omega arith, subst (λ (n : ℕ). AreHiddenFrom n goes.later) one_more (hidden_slots (suc slot) rows goes.later goes.rest))
    where
      one_more : suc slot ≡ slot + 1
      one_more = omega arith

  -- no two of one key
  pub hidden_apart : (slot : ℕ) (rows : List Row) (hiddens : List Hidden) → IsInOrder rows → AreHiddenAmong inputs listed slot rows hiddens → AreDistinct (map hidden_key hiddens)
  hidden_apart slot [] hiddens ordered are = subst (λ (l : List Hidden). AreDistinct (map hidden_key l)) (sym are) tt
  hidden_apart slot (row ∷ rows) hiddens ordered (inl stands) = hidden_apart slot rows hiddens ordered.1 stands.1
  hidden_apart slot (row ∷ rows) hiddens ordered (inr goes) = subst (λ (l : List Hidden). AreDistinct (map hidden_key l)) (sym goes.are) (
    (λ there.
        let of = of_map hidden_key goes.later row.key there in
        let among = (each_is_hidden_of (suc slot) rows goes.later of.item goes.rest of.among).among in
        let less = greater_keys row.key rows of.item.row ordered.0 among in
        absurd (let q : Less ≡ Equal = sym less ∙ compare_same row.key of.item.row.key (sym of.is) in cc)),
    hidden_apart (suc slot) rows goes.later ordered.1 goes.rest,
  )

  -- ---- what is told of them is orderly behind notes of slots before theirs

  pub hidden_orderly : (front : List Note) (slot : ℕ) (rows : List Row) (hiddens : List Hidden) → AreHiddenAmong inputs listed slot rows hiddens → AreOrderly front → AllByRecursion (HasSlotBelow slot) front →
      AreOrderly (front ++ hidden_notes hiddens)
  hidden_orderly front slot [] hiddens are orderly below =
      subst (λ (l : List Hidden). AreOrderly (front ++ hidden_notes l)) (sym are) (subst AreOrderly (sym (append-nil front)) orderly)
  hidden_orderly front slot (row ∷ rows) hiddens (inl stands) orderly below = hidden_orderly front slot rows hiddens stands.1 orderly below
  hidden_orderly front slot (row ∷ rows) hiddens (inr goes) orderly below =
      subst (λ (l : List Hidden). AreOrderly (front ++ hidden_notes l)) (sym goes.are)
      (subst AreOrderly (append_assoc (front ++ (hidden_begin (hidden_as inputs slot row goes.removed.cleaned)) ∷ []) ((hidden_forget (hidden_as inputs slot row goes.removed.cleaned)) ∷ []) (hidden_notes goes.later) ∙ append_assoc front ((hidden_begin (hidden_as inputs slot row goes.removed.cleaned)) ∷ []) ((hidden_forget (hidden_as inputs slot row goes.removed.cleaned)) ∷ hidden_notes goes.later))
      (hidden_orderly ((front ++ (hidden_begin (hidden_as inputs slot row goes.removed.cleaned)) ∷ []) ++ (hidden_forget (hidden_as inputs slot row goes.removed.cleaned)) ∷ []) (suc slot) rows goes.later goes.rest
      (one_more_orderly (front ++ (hidden_begin (hidden_as inputs slot row goes.removed.cleaned)) ∷ []) (hidden_forget (hidden_as inputs slot row goes.removed.cleaned)) (one_more_orderly front (hidden_begin (hidden_as inputs slot row goes.removed.cleaned)) orderly (none_of_slot slot front below)) begun)
      (below_then (suc slot) (front ++ (hidden_begin (hidden_as inputs slot row goes.removed.cleaned)) ∷ []) (hidden_forget (hidden_as inputs slot row goes.removed.cleaned)) (below_then (suc slot) front (hidden_begin (hidden_as inputs slot row goes.removed.cleaned)) (below_more slot (suc slot) front (omega arith) below) (omega arith)) (omega arith))))
    where
      begun : IsBegun slot (front ++ (hidden_begin (hidden_as inputs slot row goes.removed.cleaned)) ∷ [])
      begun = begin_begins (front ++ (hidden_begin (hidden_as inputs slot row goes.removed.cleaned)) ∷ []) (hidden_as inputs slot row goes.removed.cleaned).slot (record {
        key = row.key;
        path = row.path;
        epoch = row.epoch;
        base = row.offset;
        changed = row.changed;
        there = Contains-append_right front ((hidden_begin (hidden_as inputs slot row goes.removed.cleaned)) ∷ []) (hidden_begin (hidden_as inputs slot row goes.removed.cleaned)) (first_there (hidden_begin (hidden_as inputs slot row goes.removed.cleaned)) []);
      })

-- ---- of a run

-- where its one scan was whole and showed no key of a row that is removed, all of these may go
module _ (run : Run) (scan : Scan) (listed : List Listed) (hiddens : List Hidden) (so_far : AreHiddenSoFar run.settings.inputs listed run.opening hiddens)
    (not_shown : (key : List ℕ) → IsRemoved run.settings.inputs listed key → ¬ (ShowsKey run scan key)) (whole : IsWhole run scan) where
  may_go : run.scans ≡ scan ∷ [] → (hidden : Hidden) → Contains hiddens hidden → MayGo run hidden
  may_go only hidden there =
      let of = each_is_hidden_of run.settings.inputs listed (length listed) (take so_far.count run.opening) hiddens hidden so_far.are there in
      let cleaned = of.removed.cleaned in
      record {
        rule = cleaned.1;
        rule_is = subst (λ (n : ℕ). slice_get run.settings.inputs n ≡ Some cleaned.1) of.input_is (slice_get_read run.settings.inputs (length run.settings.inputs) cleaned.0 cleaned.1 refl cleaned.2 (sym cleaned.3));
        cleans = cleaned.4.0;
        key_of_input = cleaned.4.1;
        found = found_by_its_key run.opening hidden.row so_far.ordered (take_there so_far.count run.opening hidden.row of.among);
        begun = begins_unlisted run hidden scan (found_by_its_key run.opening hidden.row so_far.ordered (take_there so_far.count run.opening hidden.row of.among)) of.starts
            (ap (λ (l : List Scan). slice_get l 0) only) (not_shown (hidden_key hidden) of.removed);
        path = inl (subst (WasHidden run (hidden_key hidden) 0) (sym of.first) (λ number other since less is. absurd (omega (arith, less))), of.path_is);
        scan = scan;
        scan_is = ap (slice_get run.scans) of.first ∙ ap (λ (l : List Scan). slice_get l 0) only;
        whole = whole;
        not_shown = not_shown (hidden_key hidden) of.removed;
      }

  pub may_all_go : run.scans ≡ scan ∷ [] → MayAllGo run hiddens
  may_all_go only = record {
    each = each_member (MayGo run) hiddens (may_go only);
    apart = hidden_apart run.settings.inputs listed (length listed) (take so_far.count run.opening) hiddens (take_ordered so_far.count run.opening so_far.ordered) so_far.are;
  }
