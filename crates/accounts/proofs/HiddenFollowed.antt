-- The files of a run are followed so with the slots of hidden rows among them.
use Rattle.std.proofs.Common.{◌≡◌, ◌≢◌, ◌⊎◌, inl, inr, ℕ, ◌+◌, ◌<◌, ◌≤◌, Bool, true, false, nat_lt, List, [], ◌∷◌, ◌++◌, map, Option, Some, if◌then◌else◌, refl, sym, ap, subst, ◌∙◌, arith}
use Rattle.std.proofs.lemmas.Bool.{cases_lt, cases_order, ltb-false, ltb-true}
use Rattle.std.proofs.lemmas.List.Elements.{Contains-append_cases, Contains-append_left, Contains-append_right}
use Rattle.std.specs.List.{AllByRecursion, Contains, slice_get}
use Rattle.kept_rows.specs.Account.{FollowedTail, Following, Place, SlotAccount, slot_of}
use Rattle.kept_rows.specs.Askings.{AsksInOrder}
use Rattle.kept_rows.specs.Followed.{AreFollowed, AreInTurn, AreRising, IsBegun, IsFollowing, IsGoneBefore, IsNewlyKnown, OnlyReads, WasHidden, asked_openings, followed_openings, start_unlisted}
use Rattle.kept_rows.specs.Premises.{KeepsIdentity, Premises, SeesTruncationsOf}
use Rattle.kept_rows.specs.Run.{Run, Scan}
use Rattle.kept_rows.specs.Scans.{AreDistinct, ShowsKey}
use Rattle.ship_core.proofs.Members.{first_there, later_there, none_there, there_cases}
use Rattle.ship_core.specs.Rows.{find}
use Rattle.wire_base.specs.declared.note.Note.{Note}
use Rattle.wire_base.specs.declared.parcel.Parcel.{Parcel}
use Rattle.accounts.specs.AccountedFor.{followings_in}
use Rattle.accounts.specs.ByScans.{IsByScans, IsToldScan}
use Rattle.accounts.specs.Filed.{Filed, account_of, accounts_of, following_of}
use Rattle.accounts.specs.FollowedFile.{AreFollowedFiles}
use Rattle.accounts.specs.Hidden.{AreBeside, AreHiddenFrom, Hidden, MayAllGo, MayGo, hidden_account, hidden_following, hidden_key, hidden_slot, put_slot, with_hidden}
use Rattle.accounts.specs.RunTold.{TakeTurns, all_slots}
use Rattle.accounts.proofs.Backing.{mapped_there}
use Rattle.accounts.proofs.Following.{are_following, are_rising, newly_among, openings_are}
use Rattle.accounts.proofs.Grounded.{each_member, of_map}
use Rattle.accounts.proofs.HiddenSlots.{HasOtherSlot, account_there, files_have_others, has_with_hidden, hidden_from, hidden_there}
use Rattle.accounts.proofs.Lists.{each_then}
use Rattle.accounts.proofs.Orderly.{member_is}

-- ---- followings, first ones and later ones

mapped : (P : Following → Type 0) (account : List SlotAccount) → AllByRecursion (λ one. P one.following) account → AllByRecursion P (followings_in account)
mapped P [] each = tt
mapped P (one ∷ account) each = (each.0, mapped P account each.1)

unmapped : (P : Following → Type 0) (account : List SlotAccount) → AllByRecursion P (followings_in account) → AllByRecursion (λ one. P one.following) account
unmapped P [] each = tt
unmapped P (one ∷ account) each = (each.0, unmapped P account each.1)

-- ---- the slots rise

put_rises : (one : SlotAccount) (least : ℕ) (account : List SlotAccount) → least ≤ slot_of one → AllByRecursion (λ (other : SlotAccount). slot_of other ≢ slot_of one) account →
    AreRising least (followings_in account) → AreRising least (followings_in (put_slot one account))
put_rises one least [] le apart rise = (le, tt)
put_rises one least (first ∷ account) le apart rise =
    by_case (nat_lt (slot_of one) (slot_of first)) refl (λ next. put_rises one (slot_of first + 1) account next apart.1 rise.1)
  where
    by_case : (b : Bool) → nat_lt (slot_of one) (slot_of first) ≡ b → (slot_of first + 1 ≤ slot_of one → AreRising (slot_of first + 1) (followings_in (put_slot one account))) →
        AreRising least (followings_in (if b then one ∷ first ∷ account else first ∷ put_slot one account))
    by_case true is later = (le, (let less = ltb-true (slot_of one) (slot_of first) is in omega (arith, less), rise.1))
    by_case false is later = (rise.0, later (next (cases_order (slot_of first) (slot_of one))))
      where
        next : (slot_of first ≡ slot_of one) ⊎ ((slot_of first < slot_of one) ⊎ (slot_of one < slot_of first)) → slot_of first + 1 ≤ slot_of one
        next (inl same) = absurd (apart.0 same)
        next (inr (inl less)) = omega (arith, less)
        next (inr (inr more)) = absurd (let most = ltb-false (slot_of one) (slot_of first) is in omega (arith, more, most))

rising_with_hidden : (account : List SlotAccount) (least : ℕ) (hiddens : List Hidden) → AllByRecursion (HasOtherSlot hiddens) account → AreHiddenFrom least hiddens →
    AreRising 0 (followings_in account) → AreRising 0 (followings_in (with_hidden account hiddens))
rising_with_hidden account least [] apart rise is = is
rising_with_hidden account least (hidden ∷ hiddens) apart rise is =
    put_rises (hidden_account hidden) 0 (with_hidden account hiddens) (omega arith)
    (has_with_hidden (λ (other : SlotAccount). slot_of other ≢ hidden_slot hidden) account hiddens
    (each_then (HasOtherSlot (hidden ∷ hiddens)) (λ (other : SlotAccount). slot_of other ≢ hidden_slot hidden) account (λ other differs same. differs hidden (first_there hidden hiddens) same) apart)
    (λ other there equal. let from = hidden_from (hidden_slot hidden + 1) hiddens other rise.1 there in omega (arith, from, equal)))
    (rising_with_hidden account (hidden_slot hidden + 1) hiddens
    (each_then (HasOtherSlot (hidden ∷ hiddens)) (HasOtherSlot hiddens) account (λ other differs another there. differs another (later_there hidden another hiddens there)) apart) rise.1 is)

-- ---- the slots of one key

-- if slots rise, it is asked only of each slot and greater ones
later_slot : (least : ℕ) (followings : List Following) (one : Following) → AreRising least followings → Contains followings one → least ≤ one.slot
later_slot least [] one rise there = absurd (none_there one there)
later_slot least (first ∷ followings) one rise there = by_case (there_cases first one followings there) (later_slot (first.slot + 1) followings one rise.1)
  where
    by_case : (first ≡ one) ⊎ Contains followings one → (Contains followings one → first.slot + 1 ≤ one.slot) → least ≤ one.slot
    by_case (inl same) later = subst (λ (f : Following). least ≤ f.slot) same rise.0
    by_case (inr behind) later = let from = rise.0 in let more = later behind in omega (arith, from, more)

pub rising_in_turn : (least : ℕ) (followings : List Following) → AreRising least followings →
    ((one later : Following) → Contains followings one → Contains followings later → one.slot < later.slot → IsGoneBefore one later) → AreInTurn followings
rising_in_turn least [] rise turns = tt
rising_in_turn least (first ∷ followings) rise turns = (
  each_member (IsGoneBefore first) followings
      (λ other there. turns first other (first_there first followings) (later_there first other followings there)
      (let from = later_slot (first.slot + 1) followings other rise.1 there in omega (arith, from))),
  rising_in_turn (first.slot + 1) followings rise.1 (λ one later there behind. turns one later (later_there first one followings there) (later_there first later followings behind)),
)

-- ---- they opened nothing

put_opens_nothing : (hidden : Hidden) (account : List SlotAccount) → followed_openings (followings_in (put_slot (hidden_account hidden) account)) ≡ followed_openings (followings_in account)
put_opens_nothing hidden [] = refl
put_opens_nothing hidden (first ∷ account) = by_case (nat_lt (hidden_slot hidden) (slot_of first)) (put_opens_nothing hidden account)
  where
    by_case : (b : Bool) → followed_openings (followings_in (put_slot (hidden_account hidden) account)) ≡ followed_openings (followings_in account) → followed_openings (followings_in (if b then hidden_account hidden ∷ first ∷ account else first ∷ put_slot (hidden_account hidden) account))
        ≡ followed_openings (followings_in (first ∷ account))
    by_case true later = refl
    by_case false later = ap (λ (l : List ℕ). map (λ (tail : FollowedTail). tail.opening) first.following.tails ++ l) later

same_openings : (account : List SlotAccount) (hiddens : List Hidden) → followed_openings (followings_in (with_hidden account hiddens)) ≡ followed_openings (followings_in account)
same_openings account [] = refl
same_openings account (hidden ∷ hiddens) = put_opens_nothing hidden (with_hidden account hiddens) ∙ same_openings account hiddens

-- ---- the scan by which each goes

module _ (run : Run) (hiddens : List Hidden) (may : MayAllGo run hiddens) where
  pub each_may_go : (hidden : Hidden) → Contains hiddens hidden → MayGo run hidden
  each_may_go hidden there = member_is (MayGo run) hiddens hidden may.each there

  hidden_is_followed : (hidden : Hidden) → Contains hiddens hidden → IsFollowing run (hidden_account hidden).following
  hidden_is_followed hidden there =
      let its = each_may_go hidden there in
      record { rule = its.rule; rule_is = its.rule_is; key_of_input = its.key_of_input; begun = its.begun; tails = tt; one_by_one = tt }

  -- ---- with the files of a run

  module _ (by : IsByScans run) (placed : Parcel → Option Place) (files : List Filed) (are : AreFollowedFiles run files) (beside : AreBeside files hiddens) (notes : List Note)
      (turns : TakeTurns run files hiddens notes) where
    abbrev all : List SlotAccount
    all = with_hidden (accounts_of placed files) hiddens

    -- each slot of the account is one of them, and each of them is one of the account
    pub all_among : AllByRecursion (λ (one : SlotAccount). Contains (all_slots files hiddens) one.following) all
    all_among = has_with_hidden (λ (one : SlotAccount). Contains (all_slots files hiddens) one.following) (accounts_of placed files) hiddens (each_file files (λ file there. there))
        (λ hidden there. Contains-append_right (map following_of files) (map hidden_following hiddens) (hidden_following hidden) (mapped_there hidden_following hiddens hidden there))
      where
        each_file : (some : List Filed) → ((file : Filed) → Contains some file → Contains files file) →
            AllByRecursion (λ (one : SlotAccount). Contains (all_slots files hiddens) one.following) (accounts_of placed some)
        each_file [] among = tt
        each_file (file ∷ some) among = (
          Contains-append_left (map following_of files) (map hidden_following hiddens) (following_of file) (mapped_there following_of files file (among file (first_there file some))),
          each_file some (λ other there. among other (later_there file other some there)),
        )

    pub slot_among : (one : Following) → Contains (followings_in all) one → Contains (all_slots files hiddens) one
    slot_among one there =
        let of = of_map (λ (s : SlotAccount). s.following) all one there in
        subst (Contains (all_slots files hiddens)) of.is (member_is (λ (s : SlotAccount). Contains (all_slots files hiddens) s.following) all of.item all_among of.among)

    slot_there : (one : Following) → Contains (all_slots files hiddens) one → Contains (followings_in all) one
    slot_there one there = by_part (Contains-append_cases (map following_of files) (map hidden_following hiddens) one there)
      where
        by_part : Contains (map following_of files) one ⊎ Contains (map hidden_following hiddens) one → Contains (followings_in all) one
        by_part (inl file) =
            let of = of_map following_of files one file in
            subst (Contains (followings_in all)) of.is
            (mapped_there (λ (s : SlotAccount). s.following) all (account_of placed of.item)
            (account_there (accounts_of placed files) hiddens (account_of placed of.item) (mapped_there (account_of placed) files of.item of.among)))
        by_part (inr hidden) =
            let of = of_map hidden_following hiddens one hidden in
            subst (Contains (followings_in all)) of.is
            (mapped_there (λ (s : SlotAccount). s.following) all (hidden_account of.item) (hidden_there (accounts_of placed files) hiddens of.item of.among))

    newly : AllByRecursion (λ (one : SlotAccount). IsNewlyKnown run (followings_in all) one.following) all
    newly = has_with_hidden (λ (one : SlotAccount). IsNewlyKnown run (followings_in all) one.following) (accounts_of placed files) hiddens (each_file files turns.newly_known)
        (λ hidden there later. absurd (let above : 0 < 0 = later in omega (arith, above)))
      where
        each_file : (some : List Filed) → AllByRecursion (IsNewlyKnown run (all_slots files hiddens)) (map following_of some) →
            AllByRecursion (λ (one : SlotAccount). IsNewlyKnown run (followings_in all) one.following) (accounts_of placed some)
        each_file [] new = tt
        each_file (file ∷ some) new = (newly_among run (all_slots files hiddens) (followings_in all) (following_of file) slot_there new.0, each_file some new.1)

    -- so all of them are followed
    pub all_followed : AreFollowed run (followings_in all)
    all_followed =
        let apart = files_have_others placed files hiddens beside in
        let rise = rising_with_hidden (accounts_of placed files) 0 hiddens apart beside.slots (are_rising run placed 0 files are.slots) in
        let openings = same_openings (accounts_of placed files) hiddens ∙ openings_are run placed files in
        record {
          scans = by.scans;
          asked = by.asked;
          asks_in_order = each_then (IsToldScan run) (AsksInOrder run) run.scans (λ scan told. told.asks_in_order) by.each;
          each = mapped (IsFollowing run) all
              (has_with_hidden (λ (one : SlotAccount). IsFollowing run one.following) (accounts_of placed files) hiddens (are_following run placed files are.each) hidden_is_followed);
          slots_rise = rise;
          in_turn = rising_in_turn 0 (followings_in all) rise
              (λ one later there behind less. turns.gone one later (slot_among one there) (slot_among later behind) less);
          newly_known = mapped (IsNewlyKnown run (followings_in all)) all newly;
          openings_apart = subst (λ (l : List ℕ). AreDistinct (asked_openings run ++ l)) (sym openings) are.openings_apart;
          openings_serve = λ opening path number begun since is.
              subst (λ (l : List ℕ). Contains l opening ⊎ OnlyReads run.trace opening) (sym openings) (are.openings_serve opening path number begun since is);
        }

  -- ---- what is supposed of files is the same, if no scan showed the rows

  -- no scan up to that by which it goes showed its key
  abbrev pub WasNeverShown : Hidden → Type 0
  WasNeverShown hidden = WasHidden run (hidden_key hidden) 0 hidden.hidden_by

  pub never_shown : (hidden : Hidden) → Contains hiddens hidden → WasNeverShown hidden → (number : ℕ) (scan : Scan) → number ≤ hidden.hidden_by → slice_get run.scans number ≡ Some scan →
      ¬ (ShowsKey run scan (hidden_key hidden))
  never_shown hidden there never number scan within is = by_order (cases_lt number hidden.hidden_by)
    where
      by_order : (number < hidden.hidden_by) ⊎ (hidden.hidden_by ≤ number) → ¬ (ShowsKey run scan (hidden_key hidden))
      by_order (inl before) = never number scan (omega arith) before is
      by_order (inr not_before) =
          let its = each_may_go hidden there in
          let at : number ≡ hidden.hidden_by = omega (arith, within, not_before) in
          let q : Some scan ≡ Some its.scan = sym is ∙ ap (slice_get run.scans) at ∙ its.scan_is in
          let same : scan ≡ its.scan = cc in
          subst (λ (s : Scan). ¬ (ShowsKey run s (hidden_key hidden))) (sym same) its.not_shown

  hidden_keeps_identity : (hidden : Hidden) → Contains hiddens hidden → WasNeverShown hidden → KeepsIdentity run (hidden_account hidden).following
  hidden_keeps_identity hidden there never = record {
    number = 0;
    listed = λ other place number path is known shows. absurd (never_shown hidden there never place other known.until is (record { number = number; path = path; shows = shows }));
    tails = λ rule is. tt;
  }

  -- so those hidden rows add no premise to those of files
  pub premises_with_hidden : (account : List SlotAccount) → ((hidden : Hidden) → Contains hiddens hidden → WasNeverShown hidden) → Premises run (followings_in account) →
      Premises run (followings_in (with_hidden account hiddens))
  premises_with_hidden account never premises = record {
    identities = mapped (KeepsIdentity run) (with_hidden account hiddens)
        (has_with_hidden (λ one. KeepsIdentity run one.following) account hiddens (unmapped (KeepsIdentity run) account premises.identities)
        (λ hidden there. hidden_keeps_identity hidden there (never hidden there)));
    truncations = mapped SeesTruncationsOf (with_hidden account hiddens)
        (has_with_hidden (λ one. SeesTruncationsOf one.following) account hiddens (unmapped SeesTruncationsOf account premises.truncations)
        (λ hidden there. record { last_read = 0; seen = tt }));
  }

-- a row that no scan showed up to the one by which it goes begins where it was
pub begins_unlisted : (run : Run) (hidden : Hidden) (scan : Scan) → find (hidden_key hidden) run.opening ≡ Some hidden.row → hidden.start ≡ start_unlisted hidden.row →
    slice_get run.scans 0 ≡ Some scan → ¬ (ShowsKey run scan (hidden_key hidden)) → IsBegun run (hidden_following hidden)
begins_unlisted run hidden scan found starts is hides =
    record { scan = scan; scan_is = is; starts = inr (record { hidden = hides; row = hidden.row; found = found; starts = starts }) }
