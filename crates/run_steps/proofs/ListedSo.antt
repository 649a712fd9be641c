-- Each opening of a run was listed by a scan: as first files are begun, as a file is opened again, and after a further scan.
use Rattle.std.proofs.Common.{◌≡◌, ◌⊎◌, inl, inr, ⊎_elim, ◌≤◌, List, [], ◌∷◌, ◌++◌, Contains, append_assoc, length, Option, Some, None, IfSome, refl, sym, ap, subst, ◌∙◌, arith}
use Rattle.std.proofs.lemmas.List.{map-append}
use Rattle.std.proofs.lemmas.List.Elements.{Contains-append_cases, Contains-append_left, Contains-append_right}
use Rattle.std.specs.List.{AllByRecursion}
use Rattle.accounts.specs.Opened.{Opened}
use Rattle.accounts.proofs.Following.{got_there}
use Rattle.accounts.proofs.Grounded.{each_member}
use Rattle.accounts.proofs.Lists.{each_last, each_then}
use Rattle.accounts.proofs.Orderly.{member_is}
use Rattle.event_tree.specs.declared.settings.Settings.{Settings}
use Rattle.outside.specs.Folders.{FolderHistory}
use Rattle.prospect.specs.declared.listed.Listed.{Listed}
use Rattle.ship_core.proofs.Members.{first_there, none_there, there_cases}
use Rattle.told_scans.proofs.AskedEvents.{longer}
use Rattle.told_scans.proofs.ToldScans.{go_on}
use Rattle.told_scans.specs.ToldScan.{ToldScan}
use Rattle.told_scans.specs.ToldScans.{AreToldFrom}
use Rattle.wire_base.specs.declared.note.Begin.{Begin}
use Rattle.wire_base.specs.declared.row.Row.{Row}
use Rattle.run_steps.specs.Begun.{IsOpenedAsListedFirst}
use Rattle.run_steps.specs.LaterScans.{LaterScan, WasMadeAfter, told_in}
use Rattle.run_steps.specs.ListedSo.{IsByEntry, WasListedSo, newest_files}
use Rattle.run_steps.specs.SoFar.{Earlier, opened_before, with_opening}
use Rattle.run_steps.proofs.WithOpening.{members}

-- ---- as the first files are begun

by_first_entry : (settings : Settings) (rows : List Row) (listed : List Listed) (one : Opened) → IsOpenedAsListedFirst settings rows listed one → IsByEntry listed one
by_first_entry settings rows listed one so = record {
  entry = so.one;
  there = got_there listed one.begin.slot.0 so.one so.listed_there;
  keyed = so.keyed;
  path_is = ap (λ (g : Begin). g.path) so.begin_is;
  input_is = ap (λ (g : Begin). g.input) so.begin_is;
  size_is = ap (λ (g : Begin). g.size) so.begin_is;
}

pub listed_first : (settings : Settings) (rows : List Row) (listed : List Listed) (scans : List LaterScan) (opened : List Opened) → scans ≡ [] →
    AllByRecursion (IsOpenedAsListedFirst settings rows listed) opened → AllByRecursion (WasListedSo listed scans) opened
listed_first settings rows listed scans opened none each = each_then (IsOpenedAsListedFirst settings rows listed) (WasListedSo listed scans) opened
    (λ one so. inl (record {
      by_entry = by_first_entry settings rows listed one so;
      until = subst (AllByRecursion (WasMadeAfter one.opening)) (sym none) tt;
    })) each

-- ---- after a further scan

pub listed_on : (listed : List Listed) (scans : List LaterScan) (scan : LaterScan) (one : Opened) → WasMadeAfter one.opening scan → WasListedSo listed scans one → WasListedSo listed (scans ++ scan ∷ []) one
listed_on listed scans scan one after (inl was) = inl (record {
  by_entry = was.by_entry;
  until = each_last (WasMadeAfter one.opening) scans scan was.until after;
})
listed_on listed scans scan one after (inr was) = inr (record {
  front = was.front;
  scan = was.scan;
  behind = was.behind ++ scan ∷ [];
  scans_are = ap (λ (l : List LaterScan). l ++ scan ∷ []) was.scans_are ∙ append_assoc was.front (was.scan ∷ was.behind) (scan ∷ []);
  by_entry = was.by_entry;
  since = was.since;
  until = each_last (WasMadeAfter one.opening) was.behind scan was.until after;
})

-- ---- as a file is opened again

pub listed_again : (listed : List Listed) (scans : List LaterScan) (earlier : List Earlier) (one : Earlier) (opened : List Opened) → Contains opened one.opened → WasListedSo listed scans one.next →
    AllByRecursion (WasListedSo listed scans) (opened_before earlier ++ opened) → AllByRecursion (WasListedSo listed scans) (opened_before (earlier ++ one ∷ []) ++ with_opening one.next opened)
listed_again listed scans earlier one opened among next were =
    subst (λ (l : List Opened). AllByRecursion (WasListedSo listed scans) (l ++ with_opening one.next opened)) (sym (map-append (λ (e : Earlier). e.opened) earlier (one ∷ [])))
    (each_member (WasListedSo listed scans) ((opened_before earlier ++ one.opened ∷ []) ++ with_opening one.next opened) (λ other there.
    ⊎_elim (λ front. ⊎_elim (λ early. was other (Contains-append_left (opened_before earlier) opened other early))
    (λ last. ⊎_elim (λ (is : one.opened ≡ other). subst (WasListedSo listed scans) is (was one.opened (Contains-append_right (opened_before earlier) opened one.opened among))) (λ none. absurd (none_there other none)) (there_cases one.opened other [] last))
    (Contains-append_cases (opened_before earlier) (one.opened ∷ []) other front))
    (λ new. ⊎_elim (λ is. subst (WasListedSo listed scans) (sym is) next) (λ old. was other (Contains-append_right (opened_before earlier) opened other old.0)) (members one.next opened other new))
    (Contains-append_cases (opened_before earlier ++ one.opened ∷ []) (with_opening one.next opened) other there)))
  where
    was : (other : Opened) → Contains (opened_before earlier ++ opened) other → WasListedSo listed scans other
    was other there = member_is (WasListedSo listed scans) (opened_before earlier ++ opened) other were there

-- ---- by an entry of the newest scan

record IsNewest (scans : List LaterScan) (entry : Listed) : Type 0 where
  front : List LaterScan
  scan : LaterScan
  scans_are : scans ≡ front ++ scan ∷ []
  there : Contains scan.files entry

newest : (listed : List Listed) (scans : List LaterScan) (entry : Listed) → Contains (newest_files listed scans) entry → ((scans ≡ []) × Contains listed entry) ⊎ IsNewest scans entry
newest listed [] entry there = inl (refl, there)
newest listed (scan ∷ scans) entry there = from (newest scan.files scans entry there)
  where
    from : ((scans ≡ []) × Contains scan.files entry) ⊎ IsNewest scans entry → ((scan ∷ scans ≡ []) × Contains listed entry) ⊎ IsNewest (scan ∷ scans) entry
    from (inl none) = inr (record { front = []; scan = scan; scans_are = ap (λ (l : List LaterScan). scan ∷ l) none.0; there = none.1 })
    from (inr of) = inr (record { front = scan ∷ of.front; scan = of.scan; scans_are = ap (λ (l : List LaterScan). scan ∷ l) of.scans_are; there = of.there })

module _ (settings : Settings) (now : FolderHistory) where
  abbrev HasEnded : LaterScan → Type 0
  HasEnded scan = IfSome scan.told (λ told. length told.scanned.events ≤ length now.events)

  -- the folder's list has all of each scan
  all_ended : (before : FolderHistory) (scans : List LaterScan) → AreToldFrom settings before (told_in scans) now → AllByRecursion HasEnded scans
  all_ended before [] are = tt
  all_ended before (scan ∷ scans) are = by_told scan.told are (λ mid later. all_ended mid scans later)
    where
      by_told : (o : Option ToldScan) → AreToldFrom settings before (told_in (record scan { told = o } ∷ scans)) now →
          ((mid : FolderHistory) → AreToldFrom settings mid (told_in scans) now → AllByRecursion HasEnded scans) →
          IfSome o (λ told. length told.scanned.events ≤ length now.events) × AllByRecursion HasEnded scans
      by_told None are rest = (tt, rest before are)
      by_told (Some told) are rest = (longer told.scanned now (go_on settings told.scanned (told_in scans) now are.1), rest told.scanned are.1)

  pub listed_newest : (listed : List Listed) (before : FolderHistory) (scans : List LaterScan) → AreToldFrom settings before (told_in scans) now → (entry : Listed) → Contains (newest_files listed scans) entry →
      (one : Opened) → length now.events ≤ one.opening → ((files : List Listed) → Contains files entry → IsByEntry files one) → WasListedSo listed scans one
  listed_newest listed before scans are entry there one at by_entry = from (newest listed scans entry there)
    where
      since : (o : Option ToldScan) → IfSome o (λ told. length told.scanned.events ≤ length now.events) → IfSome o (λ told. length told.scanned.events ≤ one.opening)
      since None ended = tt
      since (Some told) ended = omega (arith, ended, at)

      from : ((scans ≡ []) × Contains listed entry) ⊎ IsNewest scans entry → WasListedSo listed scans one
      from (inl none) = inl (record { by_entry = by_entry listed none.1; until = subst (AllByRecursion (WasMadeAfter one.opening)) (sym none.0) tt })
      from (inr of) = inr (record {
        front = of.front;
        scan = of.scan;
        behind = [];
        scans_are = of.scans_are;
        by_entry = by_entry of.scan.files of.there;
        since = since of.scan.told (member_is HasEnded scans of.scan (all_ended before scans are)
            (subst (λ (l : List LaterScan). Contains l of.scan) (sym of.scans_are) (Contains-append_right of.front (of.scan ∷ []) of.scan (first_there of.scan []))));
        until = tt;
      })
