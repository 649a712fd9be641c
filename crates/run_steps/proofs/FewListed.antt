-- Files of different keys are no more than the rows, and the files without one.
use Rattle.std.proofs.Common.{◌≡◌, inl, inr, ℕ, zero, suc, ◌+◌, ◌≤◌, Bool, true, false, Contains, List, [], ◌∷◌, length, map, take, Option, None, Some, is_none, if◌then◌else◌, refl, sym, ap, subst, ◌∙◌, arith}
use Rattle.std.proofs.lemmas.List.{length-map}
use Rattle.std.specs.List.{filter}
use Rattle.accounts.proofs.BegunRows.{found_key, found_there}
use Rattle.keeper.proofs.Few.{take_out}
use Rattle.prospect.proofs.Lists.{IsIn, any_in, in_contained, one_of_any}
use Rattle.prospect.specs.Doubled.{AreKeysApart, HaveKey}
use Rattle.prospect.specs.declared.listed.Listed.{Listed}
use Rattle.ship_core.specs.Rows.{find, key_of}
use Rattle.wire_base.specs.declared.row.Row.{Row}
use Rattle.run_steps.specs.BeginFor.{row_of}
use Rattle.run_steps.specs.Starting.{AreFewFiles, new_files}
use Rattle.run_steps.proofs.KnownKeys.{mapped}

module _ (rows : List Row) where
  -- each key of these files that has a row is one of these
  abbrev HaveRowsOf : List (List ℕ) → List Listed → Type 0
  HaveRowsOf keys listed = (one : Listed) → IsIn listed one → (key : List ℕ) → one.key ≡ Some key → is_none (find key rows) ≡ false → Contains keys key

  no_more : (listed : List Listed) (keys : List (List ℕ)) → AreKeysApart listed → HaveRowsOf keys listed → length listed ≤ length keys + new_files rows listed
  no_more [] keys apart of = omega arith
  no_more (one ∷ others) keys apart of = by_row (λ more have. no_more others more apart.1 have) (is_none (row_of rows one.key)) refl
    where
      rest : List Listed
      rest = filter (λ (o : Listed). is_none (row_of rows o.key)) others

      by_key : ((more : List (List ℕ)) → HaveRowsOf more others → length others ≤ length more + new_files rows others) → (k : Option (List ℕ)) → one.key ≡ k → is_none (row_of rows one.key) ≡ false → length (one ∷ others) ≤ length keys + length rest
      by_key fewer_of None key_is is = absurd (let no : true ≡ false = subst (λ (o : Option (List ℕ)). is_none (row_of rows o) ≡ false) key_is is in cc)
      by_key fewer_of (Some key) key_is is =
          let without = take_out key keys (of one (inl refl) key key_is (subst (λ (o : Option (List ℕ)). is_none (row_of rows o) ≡ false) key_is is)) in
          let fewer = fewer_of without.rest
          (λ other there k other_is some. without.others k
          (λ same. apart.0 (subst (HaveKey others) (sym key_is) (any_in (λ (o : Listed). o.key ≡ Some key) others other there (other_is ∙ ap Some same))))
          (of other (inr there) k other_is some)) in
          omega (arith, fewer, without.shorter)

      by_row : ((more : List (List ℕ)) → HaveRowsOf more others → length others ≤ length more + new_files rows others) → (b : Bool) → is_none (row_of rows one.key) ≡ b → length (one ∷ others) ≤ length keys + length (if b then one ∷ rest else rest)
      by_row fewer_of true is = let fewer = fewer_of keys (λ other there. of other (inr there)) in omega (arith, fewer)
      by_row fewer_of false is = by_key fewer_of one.key refl is

  pub no_more_listed : (listed : List Listed) → AreKeysApart listed → length listed ≤ length rows + new_files rows listed
  no_more_listed listed apart =
      let fewer = no_more listed (map key_of rows) apart (λ one there key key_is some. by_row key (find key rows) refl some) in omega (arith, fewer, length-map rows key_of)
    where
      by_row : (key : List ℕ) (o : Option Row) → find key rows ≡ o → is_none o ≡ false → Contains (map key_of rows) key
      by_row key None is some = absurd cc
      by_row key (Some row) is some = subst (Contains (map key_of rows)) (found_key key rows row is) (mapped rows row (found_there key rows row is))

-- the first of them are apart, too
in_front : (count : ℕ) (listed : List Listed) (one : Listed) → IsIn (take count listed) one → IsIn listed one
in_front zero listed one there = absurd there
in_front (suc count) [] one there = there
in_front (suc count) (first ∷ listed) one (inl same) = inl same
in_front (suc count) (first ∷ listed) one (inr later) = inr (in_front count listed one later)

lacked_in_front : (key : Option (List ℕ)) (count : ℕ) (listed : List Listed) → HaveKey (take count listed) key → HaveKey listed key
lacked_in_front None count listed have = have
lacked_in_front (Some key) count listed have =
    let one = one_of_any (λ (o : Listed). o.key ≡ Some key) (take count listed) have in
    any_in (λ (o : Listed). o.key ≡ Some key) listed one.0 (in_front count listed one.0 (in_contained (take count listed) one.0 one.1)) one.2

pub apart_in_front : (count : ℕ) (listed : List Listed) → AreKeysApart listed → AreKeysApart (take count listed)
apart_in_front zero listed apart = tt
apart_in_front (suc count) [] apart = tt
apart_in_front (suc count) (one ∷ listed) apart = (λ have. apart.0 (lacked_in_front one.key count listed have), apart_in_front count listed apart.1)

pub few_listed : (rows : List Row) (listed : List Listed) → AreKeysApart listed → AreFewFiles rows listed → length listed ≤ 65_536
few_listed rows listed apart few = let fewer = no_more_listed rows listed apart in omega (arith, fewer, few)
