-- What the notes of a done run say of each of its files: which slot its key has, with what it begins, which epoch and moment are the
-- greatest that they name, and which spans they settle of its last epoch.
use Rattle.std.proofs.Common.{◌≡◌, ◌⊎◌, inl, inr, ℕ, ◌+◌, ◌==◌, ◌<◌, ◌≤◌, Bool, List, [], ◌∷◌, ◌++◌, Contains, map, None, Some, refl, sym, ap, subst, ◌∙◌, arith, if◌then◌else◌}
use Rattle.std.specs.List.{AllByRecursion, filter_map, flat_map}
use Rattle.std.specs.Ordering.{is_eq}
use Rattle.std.specs.declared.cmp.Ordering.{Ordering}
use Rattle.std.specs.declared.cmp.Ordering.TheVariants.{Equal, Greater, Less}
use Rattle.std.proofs.lemmas.Bool.{eq-eqb, eqb-true}
use Rattle.std.proofs.lemmas.List.Elements.{Contains-append_left, Contains-append_right, filter-append}
use Rattle.harvester.specs.History.{Telling}
use Rattle.kept_rows.proofs.Begun.{ForgetNone, IsNoForget}
use Rattle.kept_rows.specs.Account.{Following}
use Rattle.kept_rows.specs.Scans.{AreDistinct}
use Rattle.kept_rows.specs.Run.{Run}
use Rattle.ship_core.proofs.Members.{first_there, given_there, greatest_least, later_there, member_within, none_there, passed_there, there_cases, there_given, there_passed}
use Rattle.ship_core.specs.RowOver.{Start, greatest_moment, moment_of, notes_of, slot_of, start_over}
use Rattle.ship_core.specs.RowsOver.{slot_for, slots_for}
use Rattle.wire_base.proofs.ByteOrder.{compare_same, same_key}
use Rattle.wire_base.specs.KeyOrder.{compare}
use Rattle.wire_base.specs.declared.note.Note.{Note}
use Rattle.wire_base.specs.declared.note.Note.TheVariants.{Announce, Begin, Forget, Rename, Seen, Settle}
use Rattle.wire_base.specs.declared.numbers.Slot.{Slot}
use Rattle.wire_base.specs.declared.parcel.Parcel.{Parcel}
use Rattle.accounts.specs.Filed.{Filed, IsNoted, begun_in, following_of, its_begin, slot_in, turned_of}
use Rattle.accounts.specs.Hidden.{AreBeside, Hidden, hidden_begin, hidden_following, hidden_forget, hidden_key, hidden_slot}
use Rattle.accounts.specs.ToldNotes.{AreNotesOf, IsBeginOf, IsForgetOf, IsKnownNote, IsMomentOfOne, IsNamingOf, IsOfFile, IsOfHidden}
use Rattle.accounts.specs.FollowedFile.{key_in}
use Rattle.accounts.specs.RunTold.{all_slots}
use Rattle.accounts.specs.Ground.{HasGround}
use Rattle.slot_parts.specs.Tellings.{AreNumberedFrom}
use Rattle.accounts.specs.ToldFile.{AreEpochsFrom}
use Rattle.accounts.specs.Turned.{announced_in, notes_in, settlements_in}
use Rattle.accounts.proofs.Backing.{mapped_there}
use Rattle.accounts.proofs.Grounded.{each_member}
use Rattle.accounts.proofs.OwnNotes.{slot_begun}
use Rattle.accounts.proofs.Parts.{parts_at}
use Rattle.accounts.proofs.Ordered.{IsCollectable, is_collectable}
use Rattle.accounts.proofs.Orderly.{member_is, same_item}

-- ---- lists

pub flat_there : {A B : Type 0} (f : A → List B) (xs : List A) (x : A) (y : B) → Contains xs x → Contains (f x) y → Contains (flat_map f xs) y
flat_there f [] x y among there = absurd (none_there x among)
flat_there f (first ∷ xs) x y among there = by_case (there_cases first x xs among) (λ later. flat_there f xs x y later there)
  where
    by_case : (first ≡ x) ⊎ Contains xs x → (Contains xs x → Contains (flat_map f xs) y) → Contains (f first ++ flat_map f xs) y
    by_case (inl same) others = Contains-append_left (f first) (flat_map f xs) y (subst (λ z. Contains (f z) y) (sym same) there)
    by_case (inr later) others = Contains-append_right (f first) (flat_map f xs) y (others later)

-- ---- which slot a key has

pub same_key_or_not : (key other : List ℕ) → (key ≡ other) ⊎ (key ≡ other → ⊥)
same_key_or_not key other = by_case (compare key other) refl
  where
    by_case : (o : Ordering) → compare key other ≡ o → (key ≡ other) ⊎ (key ≡ other → ⊥)
    by_case Less e = inr (λ same. let q : Less ≡ Equal = sym e ∙ compare_same key other same in cc)
    by_case Greater e = inr (λ same. let q : Greater ≡ Equal = sym e ∙ compare_same key other same in cc)
    by_case Equal e = inl (same_key key other e)

-- ---- kinds of notes

pub collectable_gives_none : (key : List ℕ) (note : Note) → IsCollectable note → slot_for key note ≡ None
collectable_gives_none key (Begin slot named path epoch base changed) is = absurd is
collectable_gives_none key (Announce slot epoch) is = refl
collectable_gives_none key (Settle slot epoch span cause) is = refl
collectable_gives_none key (Rename slot scan path) is = absurd is
collectable_gives_none key (Seen slot changed) is = absurd is
collectable_gives_none key (Forget slot epoch end) is = absurd is

no_moment : (note : Note) → IsCollectable note → moment_of note ≡ None
no_moment (Begin slot named path epoch base changed) is = absurd is
no_moment (Announce slot epoch) is = refl
no_moment (Settle slot epoch span cause) is = refl
no_moment (Rename slot scan path) is = absurd is
no_moment (Seen slot changed) is = absurd is
no_moment (Forget slot epoch end) is = absurd is

pub no_forget : (note : Note) → IsCollectable note → IsNoForget note
no_forget (Begin slot named path epoch base changed) is = absurd is
no_forget (Announce slot epoch) is = tt
no_forget (Settle slot epoch span cause) is = tt
no_forget (Rename slot scan path) is = absurd is
no_forget (Seen slot changed) is = absurd is
no_forget (Forget slot epoch end) is = absurd is

-- ---- epochs

pub numbered_to_last : (before : ℕ) (past : List Telling) (present : Telling) → AreNumberedFrom before (past ++ present ∷ []) → before < present.epoch
numbered_to_last before [] present are = let next = are.0 in omega (arith, next)
numbered_to_last before (telling ∷ past) present are = let later = numbered_to_last (before + 1) past present are.2 in omega (arith, later)

pub starts_at_none : (number : ℕ) (tellings : List Telling) → AreNumberedFrom number tellings → AllByRecursion (λ (telling : Telling). telling.start ≡ 0) tellings
starts_at_none number [] are = tt
starts_at_none number (telling ∷ tellings) are = (are.1, starts_at_none (number + 1) tellings are.2)

numbered_within : (before : ℕ) (past : List Telling) (present telling : Telling) → AreNumberedFrom before (past ++ present ∷ []) → Contains (past ++ present ∷ []) telling →
    telling.epoch ≤ present.epoch
numbered_within before [] present telling are there = by_case (there_cases present telling [] there)
  where
    by_case : (present ≡ telling) ⊎ Contains [] telling → telling.epoch ≤ present.epoch
    by_case (inl same) = let is : present.epoch ≡ telling.epoch = ap (λ (t : Telling). t.epoch) same in omega (arith, is)
    by_case (inr nothing) = absurd (none_there telling nothing)
numbered_within before (first ∷ past) present telling are there =
    by_case (there_cases first telling (past ++ present ∷ []) there) (numbered_within (before + 1) past present telling are.2)
  where
    by_case : (first ≡ telling) ⊎ Contains (past ++ present ∷ []) telling → (Contains (past ++ present ∷ []) telling → telling.epoch ≤ present.epoch) → telling.epoch ≤ present.epoch
    by_case (inl same) later =
        let is : first.epoch ≡ telling.epoch = ap (λ (t : Telling). t.epoch) same in
        let number = are.0 in
        let last = numbered_to_last (before + 1) past present are.2 in
        omega (arith, is, number, last)
    by_case (inr behind) later = later behind

-- the present epoch is the greatest
pub epochs_within : (epoch base : ℕ) (past : List Telling) (present telling : Telling) → AreEpochsFrom epoch base (past ++ present ∷ []) → Contains (past ++ present ∷ []) telling →
    telling.epoch ≤ present.epoch
epochs_within epoch base [] present telling are there = by_case (there_cases present telling [] there)
  where
    by_case : (present ≡ telling) ⊎ Contains [] telling → telling.epoch ≤ present.epoch
    by_case (inl same) = let is : present.epoch ≡ telling.epoch = ap (λ (t : Telling). t.epoch) same in omega (arith, is)
    by_case (inr nothing) = absurd (none_there telling nothing)
epochs_within epoch base (first ∷ past) present telling are there =
    by_case (there_cases first telling (past ++ present ∷ []) there) (numbered_within epoch past present telling are.2)
  where
    by_case : (first ≡ telling) ⊎ Contains (past ++ present ∷ []) telling → (Contains (past ++ present ∷ []) telling → telling.epoch ≤ present.epoch) → telling.epoch ≤ present.epoch
    by_case (inl same) later =
        let is : first.epoch ≡ telling.epoch = ap (λ (t : Telling). t.epoch) same in
        let number = are.0 in
        let last = numbered_to_last epoch past present are.2 in
        omega (arith, is, number, last)
    by_case (inr behind) later = later behind

pub first_within : (epoch base : ℕ) (past : List Telling) (present : Telling) → AreEpochsFrom epoch base (past ++ present ∷ []) → epoch ≤ present.epoch
first_within epoch base [] present are = let number = are.0 in omega (arith, number)
first_within epoch base (first ∷ past) present are = let last = numbered_to_last epoch past present are.2 in omega (arith, last)

pub last_there : {A : Type 0} (front : List A) (last : A) → Contains (front ++ last ∷ []) last
last_there front last = Contains-append_right front (last ∷ []) last (first_there last [])

-- it is the first one, or is announced
pub present_is_named : (slot : Slot) (epoch base : ℕ) (past : List Telling) (present : Telling) → AreEpochsFrom epoch base (past ++ present ∷ []) →
    (present.epoch ≡ epoch) ⊎ Contains (notes_in slot (past ++ present ∷ [])) (Announce slot (record { 0 = present.epoch }))
present_is_named slot epoch base [] present are = inl are.0
present_is_named slot epoch base (first ∷ past) present are =
    inr (Contains-append_right (settlements_in slot first) (flat_map (announced_in slot) (past ++ present ∷ [])) (Announce slot (record { 0 = present.epoch }))
    (flat_there (announced_in slot) (past ++ present ∷ []) present (Announce slot (record { 0 = present.epoch })) (last_there past present)
    (first_there (Announce slot (record { 0 = present.epoch })) (settlements_in slot present))))

-- a settlement of one of the epochs is among what was reported of them
pub settlement_there : (slot : Slot) (tellings : List Telling) (telling : Telling) (note : Note) → Contains tellings telling → Contains (settlements_in slot telling) note →
    Contains (notes_in slot tellings) note
settlement_there slot [] telling note among there = absurd (none_there telling among)
settlement_there slot (first ∷ later) telling note among there = by_case (there_cases first telling later among)
  where
    by_case : (first ≡ telling) ⊎ Contains later telling → Contains (settlements_in slot first ++ flat_map (announced_in slot) later) note
    by_case (inl same) =
        Contains-append_left (settlements_in slot first) (flat_map (announced_in slot) later) note (subst (λ (t : Telling). Contains (settlements_in slot t) note) (sym same) there)
    by_case (inr behind) =
        Contains-append_right (settlements_in slot first) (flat_map (announced_in slot) later) note
        (flat_there (announced_in slot) later telling note behind (later_there (Announce slot (record { 0 = telling.epoch })) note (settlements_in slot telling) there))

-- ---- of a run

module _ (run : Run) (files : List Filed) (hiddens : List Hidden) (acknowledged : List Parcel) (notes : List Note) (apart : AreDistinct (map slot_in files)) (beside : AreBeside files hiddens)
    (are : AreNotesOf run files hiddens acknowledged notes) where
  -- where a note of them stands, and whose it is
  module _ (file : Filed) (among : Contains files file) where
    abbrev own_notes : List Note
    own_notes = notes_of (slot_in file) notes

    slot_names : (other : Filed) → Contains files other → slot_in other ≡ slot_in file → other ≡ file
    slot_names other there same = same_item slot_in files other file apart there among same

    -- no hidden row has its slot
    not_hidden : (hidden : Hidden) → Contains hiddens hidden → hidden_slot hidden ≡ slot_in file → ⊥
    not_hidden hidden there same = beside.other_slots file among hidden there (sym same)

    -- a note of the file: its Begin, a moment of it, or one that has its ground in what files reported
    pub own_note : (P : Note → Type 0) →
        ((note : Note) → IsBeginOf file note → P note) → ((note : Note) (seen : IsMomentOfOne files note) → seen.file ≡ file → P note) →
        ((note : Note) → HasGround (turned_of files) acknowledged note → P note) → ((note : Note) → IsNamingOf run file note → P note) → ((note : Note) → IsForgetOf file note → P note) →
        (note : Note) → Contains notes note → slot_of note ≡ slot_in file → P note
    own_note P begin seen ground named forgotten note there slot = by_kind (member_is (IsKnownNote run files hiddens acknowledged) notes note are.each there)
      where
        of_hidden : (of : IsOfHidden hiddens note) → (note ≡ hidden_begin of.hidden) ⊎ (note ≡ hidden_forget of.hidden) → P note
        of_hidden of (inl is) = absurd (not_hidden of.hidden of.of_hiddens (ap slot_of (sym is) ∙ slot))
        of_hidden of (inr is) = absurd (not_hidden of.hidden of.of_hiddens (ap slot_of (sym is) ∙ slot))

        of_file : (of : IsOfFile run files note) → IsNamingOf run of.file note ⊎ IsForgetOf of.file note → P note
        of_file of (inl is) = named note (subst (λ (f : Filed). IsNamingOf run f note) (slot_names of.file of.of_files (ap slot_of (sym is.is) ∙ slot)) is)
        of_file of (inr is) = forgotten note (subst (λ (f : Filed). IsForgetOf f note) (slot_names of.file of.of_files (ap slot_of (sym is.is) ∙ slot)) is)

        by_kind : IsKnownNote run files hiddens acknowledged note → P note
        by_kind (inl (inl of)) =
            let same : of.file ≡ file = slot_names of.file of.of_files (ap slot_of (sym of.begins.is) ∙ slot) in
            begin note (subst (λ (f : Filed). IsBeginOf f note) same of.begins)
        by_kind (inl (inr (inl of))) = seen note of (slot_names of.file of.of_files (ap slot_of (sym of.is) ∙ slot))
        by_kind (inl (inr (inr (inl of)))) = of_hidden of of.is
        by_kind (inl (inr (inr (inr of)))) = of_file of of.is
        by_kind (inr has) = ground note has

    -- ---- nothing of it is forgotten, where it was not removed

    pub none_forgotten : file.removed ≡ None → ForgetNone own_notes
    none_forgotten stays = each_member IsNoForget own_notes (λ note there.
        let passed = there_passed (λ (n : Note). slot_of n == slot_in file) notes note there in
        own_note IsNoForget (λ n begin. subst IsNoForget (sym begin.is) tt) (λ n seen same. subst IsNoForget (sym seen.is) tt)
        (λ n ground. no_forget n (is_collectable (turned_of files) acknowledged n ground)) (λ n named. subst IsNoForget (sym named.is) tt)
        (λ n forget. absurd (let q : None ≡ Some forget.removal = sym stays ∙ forget.removed in cc)) note passed.0 (eqb-true (slot_of note) (slot_in file) passed.1))

    -- ---- its Begin

    abbrev start_with : List ℕ → Start
    start_with path = record { key = key_in file; path = path; epoch = (begun_in file).epoch; base = (begun_in file).base }

    pub record IsStarted : Type 0 where
      pub path : List ℕ
      pub is : start_over own_notes ≡ Some (start_with path)

    pub is_started : IsStarted
    is_started =
        let noted = member_is (IsNoted notes) files file are.begun among in
        let begin = its_begin file noted.path noted.changed in
        let parts = parts_at notes begin noted.there in
        let none : notes_of (slot_in file) parts.0 ≡ [] = are.orderly.each parts.0 begin parts.1 parts.2 in
        let p = λ (note : Note). slot_of note == slot_in file in
        let own : own_notes ≡ begin ∷ notes_of (slot_in file) parts.1 =
        ap (notes_of (slot_in file)) parts.2
        ∙ filter-append p parts.0 (begin ∷ parts.1)
        ∙ ap (λ (l : List Note). l ++ notes_of (slot_in file) (begin ∷ parts.1)) none
        ∙ ap (λ (b : Bool). if b then begin ∷ notes_of (slot_in file) parts.1 else notes_of (slot_in file) parts.1) (eq-eqb (slot_in file) (slot_in file) refl) in
        record { path = noted.path; is = ap start_over own }

    -- ---- its moment

    moment_within : (note : Note) (moment : ℕ) → Contains notes note → slot_of note ≡ slot_in file → moment_of note ≡ Some moment → moment ≤ file.changed
    moment_within note moment there slot carries =
        own_note (λ (n : Note). moment_of n ≡ Some moment → moment ≤ file.changed)
        (λ n begin e. let is = some_is begin.changed.0 (sym (ap moment_of begin.is) ∙ e) in let within = begin.within in omega (arith, is, within))
        (λ n seen same e.
        let is = some_is seen.changed.0 (sym (ap moment_of seen.is) ∙ e) in
        let within = seen.within in
        let changed : seen.file.changed ≡ file.changed = ap (λ (f : Filed). f.changed) same in
        omega (arith, is, within, changed))
        (λ n ground e. absurd (let q : None ≡ Some moment = sym (no_moment n (is_collectable (turned_of files) acknowledged n ground)) ∙ e in cc))
        (λ n named e. absurd (let q : None ≡ Some moment = sym (ap moment_of named.is) ∙ e in cc))
        (λ n forget e. absurd (let q : None ≡ Some moment = sym (ap moment_of forget.is) ∙ e in cc))
        note there slot carries
      where
        some_is : (given : ℕ) → Some given ≡ Some moment → given ≡ moment
        some_is given e = cc

    -- the greatest is one that some note of it carries
    pub moment_is : (note : Note) → Contains notes note → slot_of note ≡ slot_in file → moment_of note ≡ Some file.changed → greatest_moment own_notes ≡ file.changed
    moment_is note there slot carries =
        let most = greatest_least 0 file.changed (filter_map moment_of own_notes) (omega arith) (λ moment given.
        let found = there_given moment_of own_notes moment given in
        let passed = there_passed (λ (n : Note). slot_of n == slot_in file) notes found.0 found.1 in
        moment_within found.0 moment passed.0 (eqb-true (slot_of found.0) (slot_in file) passed.1) found.2) in
        let own_one = passed_there (λ (n : Note). slot_of n == slot_in file) notes note there (eq-eqb (slot_of note) (slot_in file) slot) in
        let least = member_within 0 (filter_map moment_of own_notes) file.changed (given_there moment_of own_notes note file.changed own_one carries) in
        omega (arith, most, least)

  -- ---- who begins a slot for a key

  pub record IsSlotFor (key : List ℕ) (slot : ℕ) : Type 0 where
    pub one : Following
    pub among : Contains (all_slots files hiddens) one
    pub slot_is : one.slot ≡ slot
    pub key_is : one.key ≡ key

  -- the key with which it begins
  same_begun : (key other : List ℕ) (number slot : ℕ) → (if is_eq (compare key other) then Some number else None) ≡ Some slot → other ≡ key
  same_begun key other number slot is = by_order (compare key other) refl is
    where
      by_order : (o : Ordering) → compare key other ≡ o → (if is_eq o then Some number else None) ≡ Some slot → other ≡ key
      by_order Equal same begun = sym (same_key key other same)
      by_order Less same none = absurd (let q : None ≡ Some slot = none in cc)
      by_order Greater same none = absurd (let q : None ≡ Some slot = none in cc)

  begins_none : (key : List ℕ) (slot : ℕ) (note other : Note) → note ≡ other → slot_for key other ≡ None → slot_for key note ≡ Some slot → IsSlotFor key slot
  begins_none key slot note other is none begun = absurd (let q : None ≡ Some slot = sym (ap (slot_for key) is ∙ none) ∙ begun in cc)

  pub whose_slot : (key : List ℕ) (slot : ℕ) → Contains (slots_for key notes) slot → IsSlotFor key slot
  whose_slot key slot there =
      let of = there_given (slot_for key) notes slot there in
      by_kind of.0 of.2 (member_is (IsKnownNote run files hiddens acknowledged) notes of.0 are.each of.1)
    where
      of_hidden : (note : Note) (hidden : Hidden) → Contains hiddens hidden → (note ≡ hidden_begin hidden) ⊎ (note ≡ hidden_forget hidden) → slot_for key note ≡ Some slot → IsSlotFor key slot
      of_hidden note hidden among (inl is) begun = record {
        one = hidden_following hidden;
        among = Contains-append_right (map following_of files) (map hidden_following hiddens) (hidden_following hidden) (mapped_there hidden_following hiddens hidden among);
        slot_is = ap slot_of (sym is) ∙ slot_begun key slot note begun;
        key_is = same_begun key (hidden_key hidden) (hidden_slot hidden) slot (ap (slot_for key) (sym is) ∙ begun);
      }
      of_hidden note hidden among (inr is) begun = begins_none key slot note (hidden_forget hidden) is refl begun

      of_file : (note : Note) (file : Filed) → IsNamingOf run file note ⊎ IsForgetOf file note → slot_for key note ≡ Some slot → IsSlotFor key slot
      of_file note file (inl named) begun = begins_none key slot note _ named.is refl begun
      of_file note file (inr forget) begun = begins_none key slot note _ forget.is refl begun

      by_kind : (note : Note) → slot_for key note ≡ Some slot → IsKnownNote run files hiddens acknowledged note → IsSlotFor key slot
      by_kind note begun (inl (inl of)) = record {
        one = following_of of.file;
        among = Contains-append_left (map following_of files) (map hidden_following hiddens) (following_of of.file) (mapped_there following_of files of.file of.of_files);
        slot_is = ap slot_of (sym of.begins.is) ∙ slot_begun key slot note begun;
        key_is = same_begun key (key_in of.file) (slot_in of.file) slot (ap (slot_for key) (sym of.begins.is) ∙ begun);
      }
      by_kind note begun (inl (inr (inl of))) = begins_none key slot note _ of.is refl begun
      by_kind note begun (inl (inr (inr (inl of)))) = of_hidden note of.hidden of.of_hiddens of.is begun
      by_kind note begun (inl (inr (inr (inr of)))) = of_file note of.file of.is begun
      by_kind note begun (inr has) = absurd (let q : None ≡ Some slot = sym (collectable_gives_none key note (is_collectable (turned_of files) acknowledged note has)) ∙ begun in cc)
