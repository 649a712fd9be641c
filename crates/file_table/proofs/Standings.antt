-- What one piece of news makes of how a file stands.
use Rattle.std.proofs.Common.{◌≡◌, inl, Bool, true, false, not, ◌&&◌, ◌||◌, List, [], ◌∷◌, refl, ap}
use Rattle.file_table.specs.declared.closing.Closing.{Closing}
use Rattle.file_table.specs.declared.closing.Closing.TheVariants.{Changed, Ended, Unread, Idle}
use Rattle.file_table.specs.declared.file_entry.Registered.{Registered}
use Rattle.file_table.specs.declared.file_entry.Registered.TheVariants as registered
use Rattle.file_table.specs.declared.at.At.{At}
use Rattle.file_table.specs.declared.news.FileNews.{FileNews}
use Rattle.file_table.specs.declared.news.FileNews.TheVariants as news
use Rattle.file_table.specs.declared.stand.AfterEnd.TheVariants.{Opens, Stays, Goes}
use Rattle.file_table.specs.declared.stand.Stand.{Stand}
use Rattle.file_table.specs.declared.stand.Stand.TheVariants.{Waits, Open, Ending, Closed, Removed, Lost, Forgotten}
use Rattle.file_table.specs.Closings.{FitsClosing}
use Rattle.file_table.specs.Entries.{after_removal, has_tail, missed_stand, removed_stand, resized_stand, returned_stand, shut_stand}
use Rattle.file_table.specs.Events.{FileEvent, News, has, has_row, heard, opens, removes, shuts, since}
use Rattle.file_table.specs.Standing.{IsRegistered, StandsSo, is_begun, is_open, is_removed}

module _ (es : List FileEvent) where
  -- ---- what a stand says

  pub tail_is : (stand : Stand) → StandsSo es stand → is_open es ≡ has_tail stand
  tail_is Waits h = h.0.0
  tail_is Open h = h.0.0
  tail_is (Ending Opens) h = h.0.0
  tail_is (Ending Stays) h = h.0.0
  tail_is (Ending Goes) h = h.0.0
  tail_is Closed h = h.0.0
  tail_is Removed h = h.0.0
  tail_is Lost h = h.0.0
  tail_is Forgotten h = h.0.0

  -- ---- news that leaves it

  pub stands_renamed : (scan : _) (stand : Stand) → StandsSo es stand → StandsSo (News (news.Renamed scan) ∷ es) stand
  stands_renamed scan Waits h = h
  stands_renamed scan Open h = h
  stands_renamed scan (Ending Opens) h = h
  stands_renamed scan (Ending Stays) h = h
  stands_renamed scan (Ending Goes) h = h
  stands_renamed scan Closed h = h
  stands_renamed scan Removed h = h
  stands_renamed scan Lost h = h
  stands_renamed scan Forgotten h = h

  pub stands_shown : (scan : _) (stand : Stand) → StandsSo es stand → StandsSo (News (news.Shown scan) ∷ es) stand
  stands_shown scan Waits h = h
  stands_shown scan Open h = h
  stands_shown scan (Ending Opens) h = h
  stands_shown scan (Ending Stays) h = h
  stands_shown scan (Ending Goes) h = h
  stands_shown scan Closed h = h
  stands_shown scan Removed h = h
  stands_shown scan Lost h = h
  stands_shown scan Forgotten h = h

  -- ---- news that changes it

  pub stands_returned : (stand : Stand) → StandsSo es stand → StandsSo (News news.Returned ∷ es) (returned_stand stand)
  stands_returned Waits h = ((h.0.0, refl), refl)
  stands_returned Open h = ((h.0.0, refl), h.1)
  stands_returned (Ending Opens) h = ((h.0.0, refl), h.1, refl)
  stands_returned (Ending Stays) h = ((h.0.0, refl), h.1, refl)
  stands_returned (Ending Goes) h = ((h.0.0, refl), h.1, refl)
  stands_returned Closed h = ((h.0.0, refl), refl)
  stands_returned Removed h = ((h.0.0, refl), refl)
  stands_returned Lost h = ((h.0.0, refl), refl)
  stands_returned Forgotten h = ((h.0.0, refl), refl)

  pub stands_resized : (stand : Stand) → StandsSo es stand → StandsSo (News news.Resized ∷ es) (resized_stand stand)
  stands_resized Waits h = (h.0, refl)
  stands_resized Open h = h
  stands_resized (Ending Opens) h = h
  stands_resized (Ending Stays) h = h
  stands_resized (Ending Goes) h = h
  stands_resized Closed h = (h.0, refl)
  stands_resized Removed h = h
  stands_resized Lost h = h
  stands_resized Forgotten h = h

  pub stands_missed : (stand : Stand) → StandsSo es stand → StandsSo (News news.Missed ∷ es) (missed_stand stand)
  stands_missed Waits h = h
  stands_missed Open h = h
  stands_missed (Ending Opens) h = h
  stands_missed (Ending Stays) h = h
  stands_missed (Ending Goes) h = h
  stands_missed Closed h = h
  stands_missed Removed h = h
  stands_missed Lost h = (h.0, refl, inl h.1)
  stands_missed Forgotten h = (h.0, refl, h.2)

  pub stands_opened : (at : At) → StandsSo es Waits → StandsSo (News (news.Opened at) ∷ es) Open
  stands_opened at h = ((refl, h.0.1), refl)

  -- ---- a removal

  pub stands_removed_open : (clean : Bool) → is_open es ≡ true → StandsSo (News (news.Removed clean) ∷ es) (Ending (after_removal clean))
  stands_removed_open true o = ((o, refl), refl, refl)
  stands_removed_open false o = ((o, refl), refl, refl)

  more_begun : (a b c : Bool) → a || (b && c) ≡ true → a || (b && true) ≡ true
  more_begun true b c h = refl
  more_begun false true c h = refl
  more_begun false false c h = h

  row_begun : (a b : Bool) → a ≡ false → b ≡ true → a || (b && true) ≡ true
  row_begun true b none row = refl
  row_begun false true none row = refl
  row_begun false false none row = row

  none_begun : (a b c : Bool) → a ≡ false → b ≡ false → a || (b && c) ≡ false
  none_begun true b c none row = none
  none_begun false true c none row = absurd (let q : true ≡ false = row in cc)
  none_begun false false c none row = refl

  not_removed : (a b c : Bool) → a ≡ false → c ≡ false → a || (b && c) ≡ false
  not_removed true b c none never = none
  not_removed false true c none never = never
  not_removed false false c none never = refl

  pub still_begun : (clean : Bool) → is_begun es ≡ true → is_begun (News (news.Removed clean) ∷ es) ≡ true
  still_begun clean h = more_begun (has (heard opens) es) (has has_row es) (has (heard removes) es) h

  pub begun_by_row : (clean : Bool) → has (heard opens) es ≡ false → has has_row es ≡ true → is_begun (News (news.Removed clean) ∷ es) ≡ true
  begun_by_row clean none row = row_begun (has (heard opens) es) (has has_row es) none row

  pub not_begun : (clean : Bool) → has (heard opens) es ≡ false → has has_row es ≡ false → is_begun (News (news.Removed clean) ∷ es) ≡ false
  not_begun clean none row = none_begun (has (heard opens) es) (has has_row es) true none row

  pub stands_removed : (clean : Bool) → is_open es ≡ false → is_begun (News (news.Removed clean) ∷ es) ≡ true → StandsSo (News (news.Removed clean) ∷ es) (removed_stand clean)
  stands_removed true o b = ((o, refl), refl, inl refl)
  stands_removed false o b = ((o, refl), refl, b)

  -- ---- what the registry has

  pub never_begun : IsRegistered es registered.Nothing → is_begun es ≡ false
  never_begun h = none_begun (has (heard opens) es) (has has_row es) (has (heard removes) es) h.0 h.1

  pub row_alone : IsRegistered es registered.Row → is_begun es ≡ false
  row_alone h = not_removed (has (heard opens) es) (has has_row es) (has (heard removes) es) h.0 h.2

-- such an event since another is such an event
pub since_has : (is stops : FileEvent → Bool) (events : List FileEvent) → since is stops events ≡ true → has is events ≡ true
since_has is stops [] h = h
since_has is stops (e ∷ es) h = by_case (is e) (stops e) (since_has is stops es) h
  where
    by_case : (a b : Bool) → (since is stops es ≡ true → has is es ≡ true) → a || (not b && since is stops es) ≡ true → a || has is es ≡ true
    by_case true b rest h = refl
    by_case false true rest h = absurd (let q : false ≡ true = h in cc)
    by_case false false rest h = rest h

pub open_begun : (es : List FileEvent) → is_open es ≡ true → is_begun es ≡ true
open_begun es o = ap (λ (b : Bool). b || (has has_row es && has (heard removes) es)) (since_has (heard opens) (heard shuts) es o)

-- ---- a closing

pub stands_shut : (es : List FileEvent) (at : At) (why : Closing) (stand : Stand) → FitsClosing why stand → StandsSo es stand → StandsSo (News (news.Shut at why) ∷ es) (shut_stand why stand)
stands_shut es at why Waits fits h = absurd fits
stands_shut es at Changed Open fits h = ((refl, h.0.1), refl)
stands_shut es at Ended Open fits h = absurd (fits refl)
stands_shut es at Unread Open fits h = ((refl, h.0.1), refl)
stands_shut es at Idle Open fits h = ((refl, h.0.1), refl)
stands_shut es at Changed (Ending Opens) fits h = ((refl, h.0.1), refl)
stands_shut es at Ended (Ending Opens) fits h = ((refl, h.0.1), refl)
stands_shut es at Unread (Ending after) fits h = absurd fits
stands_shut es at Idle (Ending after) fits h = absurd fits
stands_shut es at Changed (Ending Stays) fits h = ((refl, h.0.1), h.2, open_begun es h.0.0)
stands_shut es at Ended (Ending Stays) fits h = ((refl, h.0.1), h.2, open_begun es h.0.0)
stands_shut es at Changed (Ending Goes) fits h = ((refl, h.0.1), h.2, refl)
stands_shut es at Ended (Ending Goes) fits h = ((refl, h.0.1), refl, inl h.2)
stands_shut es at why Closed fits h = absurd fits
stands_shut es at why Removed fits h = absurd fits
stands_shut es at why Lost fits h = absurd fits
stands_shut es at why Forgotten fits h = absurd fits
