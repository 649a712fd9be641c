-- The greatest of a key's slots whose rows are there.
use Rattle.std.proofs.Common.{◌≡◌, ◌⊎◌, inl, inr, ℕ, ◌≤◌, Bool, true, false, max, List, [], ◌∷◌, Contains, Option, Some, None, if◌then◌else◌, refl, sym, ap, ◌∙◌, subst, arith}
use Rattle.std.specs.Str.{bytes_eq}
use Rattle.std.proofs.lemmas.Bool.{and_from, and_parts, cases_lt}
use Rattle.std.proofs.lemmas.Slice.Eq.{bytes_eq-Decides}
use Rattle.ack_tracker.specs.FileState.{FileState, is_gone}
use Rattle.ack_tracker.specs.Files.{file_of}
use Rattle.ack_tracker.specs.Keys.{has_key, stands, later, latest_of, is_begun}
use Rattle.ack_tracker.proofs.Contained.{first_there, later_there, there_cases, none_there, any_there, there_any}

-- the slot has a file of the key
pub record HasFile (files : List (ℕ × FileState)) (key : List ℕ) (slot : ℕ) : Type 0 where
  pub file : FileState
  pub is : file_of files slot ≡ Some file
  pub key_is : file.key ≡ key

module _ (files : List (ℕ × FileState)) (key : List ℕ) where
  abbrev stands_at : ℕ → Bool
  stands_at slot = stands (file_of files slot) key

  pub has_file : (slot : ℕ) → has_key (file_of files slot) key ≡ true → HasFile files key slot
  has_file slot e = by_case (file_of files slot) refl e
    where
      by_case : (o : Option FileState) → file_of files slot ≡ o → has_key o key ≡ true → HasFile files key slot
      by_case None is e = absurd (let q : false ≡ true = e in cc)
      by_case (Some file) is e = record { file = file; is = is; key_is = (bytes_eq-Decides file.key key).0 e }

  pub file_has : (slot : ℕ) → HasFile files key slot → has_key (file_of files slot) key ≡ true
  file_has slot own = ap (λ (o : Option FileState). has_key o key) own.is ∙ (bytes_eq-Decides own.file.key key).1 own.key_is

  pub standing : (slot : ℕ) → stands_at slot ≡ true → (own : HasFile files key slot) × (is_gone own.file ≡ false)
  standing slot e = by_case (file_of files slot) refl e
    where
      not_gone : (b : Bool) → (if b then false else true) ≡ true → b ≡ false
      not_gone true e = absurd (let q : false ≡ true = e in cc)
      not_gone false e = refl

      by_case : (o : Option FileState) → file_of files slot ≡ o → stands o key ≡ true → (own : HasFile files key slot) × (is_gone own.file ≡ false)
      by_case None is e = absurd (let q : false ≡ true = e in cc)
      by_case (Some file) is e =
          let parts = and_parts (bytes_eq file.key key) (if is_gone file then false else true) e in
          (record { file = file; is = is; key_is = (bytes_eq-Decides file.key key).0 parts.0 }, not_gone (is_gone file) parts.1)

  pub stands_still : (slot : ℕ) (own : HasFile files key slot) → is_gone own.file ≡ false → stands_at slot ≡ true
  stands_still slot own kept =
      ap (λ (o : Option FileState). stands o key) own.is
      ∙ and_from (bytes_eq own.file.key key) (if is_gone own.file then false else true) ((bytes_eq-Decides own.file.key key).1 own.key_is) (ap (λ (b : Bool). if b then false else true) kept)

  -- ---- among slots

  pub begun_there : (slots : List ℕ) → is_begun files key slots ≡ true → (slot : ℕ) × Contains slots slot × HasFile files key slot
  begun_there slots e = let found = any_there (λ (slot : ℕ). has_key (file_of files slot) key) slots e in (found.0, found.1, has_file found.0 found.2)

  pub none_begun : (slots : List ℕ) (slot : ℕ) → is_begun files key slots ≡ false → Contains slots slot → HasFile files key slot → ⊥
  none_begun slots slot e there own =
      let q : false ≡ true = sym e ∙ there_any (λ (s : ℕ). has_key (file_of files s) key) slots slot there (file_has slot own) in cc

  pub record IsNone (slots : List ℕ) (latest : Option ℕ) : Type 0 where
    pub before : latest ≡ None
    pub none : (slot : ℕ) → Contains slots slot → stands_at slot ≡ false

  pub latest_none : (slots : List ℕ) (latest : Option ℕ) → latest_of files key latest slots ≡ None → IsNone slots latest
  latest_none [] latest e = record { before = e; none = λ slot there. absurd (none_there slot there) }
  latest_none (first ∷ slots) latest e = by_case (stands_at first) refl e (latest_none slots)
    where
      some_later : (o : Option ℕ) → later o first ≡ None → ⊥
      some_later None e = let q : Some first ≡ None = e in cc
      some_later (Some other) e = let q : Some (max other first) ≡ None = e in cc

      by_case : (b : Bool) → stands_at first ≡ b → latest_of files key (if b then later latest first else latest) slots ≡ None → ((latest : Option ℕ) → latest_of files key latest slots ≡ None → IsNone slots latest) → IsNone (first ∷ slots) latest
      by_case true is e rest = absurd (some_later latest (rest (later latest first) e).before)
      by_case false is e rest =
          let none = rest latest e in
          record { before = none.before; none = λ slot there. elim (there_cases first slot slots there) [ inl same ↦ ap stands_at (sym same) ∙ is | inr behind ↦ none.none slot behind ] }

  pub record IsLatest (slots : List ℕ) (latest : Option ℕ) (slot : ℕ) : Type 0 where
    pub from : (latest ≡ Some slot) ⊎ (Contains slots slot × (stands_at slot ≡ true))
    pub earlier : (other : ℕ) → latest ≡ Some other → other ≤ slot
    pub others : (other : ℕ) → Contains slots other → stands_at other ≡ true → other ≤ slot

  pub latest_some : (slots : List ℕ) (latest : Option ℕ) (slot : ℕ) → latest_of files key latest slots ≡ Some slot → IsLatest slots latest slot
  latest_some [] latest slot e = record {
    from = inl e;
    earlier = λ other is. let q : Some slot ≡ Some other = sym e ∙ is in let same : slot ≡ other = cc in omega (arith, same);
    others = λ other there. absurd (none_there other there);
  }
  latest_some (first ∷ slots) latest slot e = by_case (stands_at first) refl e (latest_some slots)
    where
      -- where the latest before is the one with the first
      one_of : (o : Option ℕ) → later o first ≡ Some slot → stands_at first ≡ true → (o ≡ Some slot) ⊎ (Contains (first ∷ slots) slot × (stands_at slot ≡ true))
      one_of None e is = let q : Some first ≡ Some slot = e in let same : first ≡ slot = cc in inr (subst (λ (s : ℕ). Contains (first ∷ slots) s) same (first_there first slots), ap stands_at (sym same) ∙ is)
      one_of (Some other) e is =
          let q : Some (max other first) ≡ Some slot = e in
          let same : max other first ≡ slot = cc in
          elim (cases_lt other first) [
            | inl below ↦ let it : first ≡ slot = omega (arith, same, below) in inr (subst (λ (s : ℕ). Contains (first ∷ slots) s) it (first_there first slots), ap stands_at (sym it) ∙ is)
            | inr above ↦ let it : other ≡ slot = omega (arith, same, above) in inl (ap Some it)
          ]

      no_less : (o : Option ℕ) → ((other : ℕ) → later o first ≡ Some other → other ≤ slot) → (first ≤ slot) × ((other : ℕ) → o ≡ Some other → other ≤ slot)
      no_less None h = (h first refl, λ other is. absurd (let q : None ≡ Some other = is in cc))
      no_less (Some before) h =
          let le = h (max before first) refl in
          (omega (arith, le), λ other is. let q : Some before ≡ Some other = is in let same : before ≡ other = cc in omega (arith, le, same))

      by_case : (b : Bool) → stands_at first ≡ b → latest_of files key (if b then later latest first else latest) slots ≡ Some slot → ((latest : Option ℕ) (slot : ℕ) → latest_of files key latest slots ≡ Some slot → IsLatest slots latest slot) → IsLatest (first ∷ slots) latest slot
      by_case true is e rest =
          let found = rest (later latest first) slot e in
          let less = no_less latest found.earlier in
          record {
            from = elim found.from [ inl before ↦ one_of latest before is | inr behind ↦ inr (later_there first slot slots behind.0, behind.1) ];
            earlier = less.1;
            others = λ other there stand. elim (there_cases first other slots there) [ inl same ↦ let le = less.0 in omega (arith, same, le) | inr behind ↦ found.others other behind stand ];
          }
      by_case false is e rest =
          let found = rest latest slot e in
          record {
            from = elim found.from [ inl before ↦ inl before | inr behind ↦ inr (later_there first slot slots behind.0, behind.1) ];
            earlier = found.earlier;
            others = λ other there stand. elim (there_cases first other slots there) [ inl same ↦ absurd (let q : false ≡ true = sym is ∙ ap stands_at same ∙ stand in cc) | inr behind ↦ found.others other behind stand ];
          }

  -- if the row of one of them is there, one of them began
  pub latest_begun : (slots : List ℕ) (slot : ℕ) → latest_of files key None slots ≡ Some slot → is_begun files key slots ≡ true
  latest_begun slots slot e = by_from (latest_some slots None slot e).from (is_begun files key slots) refl
    where
      by_from : (None ≡ Some slot) ⊎ (Contains slots slot × (stands_at slot ≡ true)) → (b : Bool) → is_begun files key slots ≡ b → b ≡ true
      by_from from true is = refl
      by_from (inl none) false is = absurd (let q : None ≡ Some slot = none in cc)
      by_from (inr at) false is = absurd (none_begun slots slot is at.0 (standing slot at.1).0)
