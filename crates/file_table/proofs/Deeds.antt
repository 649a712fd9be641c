-- What news asks for is what the events before it say.
use Rattle.std.proofs.Common.{◌≡◌, ℕ, Bool, true, false, not, ◌&&◌, List, refl, sym, ap, ◌∙◌, if◌then◌else◌}
use Rattle.file_table.specs.declared.at.At.{At}
use Rattle.file_table.specs.declared.closing.Closing.{Closing}
use Rattle.file_table.specs.declared.closing.Closing.TheVariants.{Changed, Ended, Unread, Idle}
use Rattle.file_table.specs.declared.deed.Deed.{Deed}
use Rattle.file_table.specs.declared.deed.Deed.TheVariants as deed
use Rattle.file_table.specs.declared.file_entry.FileEntry.{FileEntry}
use Rattle.file_table.specs.declared.file_entry.Registered.{Registered}
use Rattle.file_table.specs.declared.file_entry.Registered.TheVariants as registered
use Rattle.file_table.specs.declared.news.FileNews.{FileNews}
use Rattle.file_table.specs.declared.news.FileNews.TheVariants as news
use Rattle.file_table.specs.declared.stand.AfterEnd.TheVariants.{Opens, Stays, Goes}
use Rattle.file_table.specs.declared.stand.Stand.{Stand}
use Rattle.file_table.specs.declared.stand.Stand.TheVariants.{Waits, Open, Ending, Closed, Removed, Lost, Forgotten}
use Rattle.file_table.specs.Closings.{FitsClosing}
use Rattle.file_table.specs.Events.{FileEvent, has, has_row}
use Rattle.file_table.specs.Standing.{IsRegistered, StandsSo, is_begun, is_cleaned, deed_for, deed_of_shut, is_lost, is_open, place_in, is_removed}
use Rattle.file_table.specs.Entries.{FitsNews, deed_of, forget_where, missed_deed, renamed_deed, shut_stand, untailed_deed}
use Rattle.file_table.proofs.Standings.{never_begun, row_alone, tail_is}

module _ (es : List FileEvent) where
  renamed_is : (scan : ℕ) (r : Registered) → IsRegistered es r → renamed_deed scan r ≡ (if is_begun es then deed.Rename scan else deed.Nothing)
  renamed_is scan registered.Nothing h = ap (λ (b : Bool). if b then deed.Rename scan else deed.Nothing) (sym (never_begun es h))
  renamed_is scan registered.Row h = ap (λ (b : Bool). if b then deed.Rename scan else deed.Nothing) (sym (row_alone es h))
  renamed_is scan registered.Begin h = ap (λ (b : Bool). if b then deed.Rename scan else deed.Nothing) (sym h)

  -- a removed file without a tail
  gone_deed : Bool → Deed
  gone_deed clean = if clean then deed.Forget (place_in es) else deed.Nothing

  row_deed : Bool → Bool → Deed
  row_deed clean row = if row then deed.BeginRemoved clean else deed.Drop

  untailed_is : (clean : Bool) (at : At) (r : Registered) → IsRegistered es r → at ≡ place_in es →
      untailed_deed clean r at ≡ (if is_begun es then gone_deed clean else row_deed clean (has has_row es))
  unfolding gone_deed row_deed
  untailed_is clean at registered.Nothing h place =
      ap (λ (b : Bool). row_deed clean b) (sym h.1) ∙ ap (λ (b : Bool). if b then gone_deed clean else row_deed clean (has has_row es)) (sym (never_begun es h))
  untailed_is clean at registered.Row h place =
      ap (λ (b : Bool). row_deed clean b) (sym h.1) ∙ ap (λ (b : Bool). if b then gone_deed clean else row_deed clean (has has_row es)) (sym (row_alone es h))
  untailed_is clean at registered.Begin h place =
      ap (λ (a : At). if clean then deed.Forget a else deed.Nothing) place ∙ ap (λ (b : Bool). if b then gone_deed clean else row_deed clean (has has_row es)) (sym h)

  test : Bool
  test = not (is_open es) && (is_removed es && (is_cleaned es && is_lost es))

  asked : Bool → Deed
  asked b = if b then deed.Forget (place_in es) else deed.Nothing

  last_false : (c d : Bool) → d ≡ false → c && d ≡ false
  last_false true d e = e
  last_false false d e = refl

  with_tail : is_open es ≡ true → test ≡ false
  unfolding test
  with_tail o = ap (λ (b : Bool). not b && (is_removed es && (is_cleaned es && is_lost es))) o

  without_tail : is_open es ≡ false → test ≡ is_removed es && (is_cleaned es && is_lost es)
  unfolding test
  without_tail o = ap (λ (b : Bool). not b && (is_removed es && (is_cleaned es && is_lost es))) o

  where_present : is_open es ≡ false → is_removed es ≡ false → test ≡ false
  where_present o r = without_tail o ∙ ap (λ (b : Bool). b && (is_cleaned es && is_lost es)) r

  where_removed : is_open es ≡ false → is_removed es ≡ true → test ≡ is_cleaned es && is_lost es
  where_removed o r = without_tail o ∙ ap (λ (b : Bool). b && (is_cleaned es && is_lost es)) r

  missed_is : (at : At) (stand : Stand) → StandsSo es stand → at ≡ place_in es → missed_deed stand at ≡ asked test
  unfolding asked
  missed_is at Waits h place = ap asked (sym (where_present h.0.0 h.0.1))
  missed_is at Open h place = ap asked (sym (with_tail h.0.0))
  missed_is at (Ending Opens) h place = ap asked (sym (with_tail h.0.0))
  missed_is at (Ending Stays) h place = ap asked (sym (with_tail h.0.0))
  missed_is at (Ending Goes) h place = ap asked (sym (with_tail h.0.0))
  missed_is at Closed h place = ap asked (sym (where_present h.0.0 h.0.1))
  missed_is at Removed h place = ap asked (sym (where_removed h.0.0 h.0.1 ∙ ap (λ (b : Bool). b && is_lost es) h.1))
  missed_is at Lost h place = ap deed.Forget place ∙ ap asked (sym (where_removed h.0.0 h.0.1 ∙ ap (λ (b : Bool). b && is_lost es) h.1 ∙ h.2))
  missed_is at Forgotten h place = ap asked (sym (where_removed h.0.0 h.0.1 ∙ last_false (is_cleaned es) (is_lost es) h.1))

  shut_is : (at : At) (why : Closing) (stand : Stand) → FitsClosing why stand → StandsSo es stand → forget_where (shut_stand why stand) at ≡ deed_of_shut at why es
  shut_is at why Waits fits h = absurd fits
  shut_is at Changed Open fits h = refl
  shut_is at Ended Open fits h = absurd (fits refl)
  shut_is at Unread Open fits h = refl
  shut_is at Idle Open fits h = refl
  shut_is at Changed (Ending Opens) fits h = refl
  shut_is at Changed (Ending Stays) fits h = refl
  shut_is at Changed (Ending Goes) fits h = refl
  shut_is at Ended (Ending Opens) fits h = ap (λ (b : Bool). if b then deed.Forget at else deed.Nothing) (sym h.2)
  shut_is at Ended (Ending Stays) fits h = ap (λ (b : Bool). if b then deed.Forget at else deed.Nothing) (sym h.2)
  shut_is at Ended (Ending Goes) fits h = ap (λ (b : Bool). if b then deed.Forget at else deed.Nothing) (sym h.2)
  shut_is at Unread (Ending after) fits h = absurd fits
  shut_is at Idle (Ending after) fits h = absurd fits
  shut_is at why Closed fits h = absurd fits
  shut_is at why Removed fits h = absurd fits
  shut_is at why Lost fits h = absurd fits
  shut_is at why Forgotten fits h = absurd fits

  pub deed_is : (entry : FileEntry) → IsRegistered es entry.registered → entry.at ≡ place_in es → StandsSo es entry.stand → (n : FileNews) → FitsNews n entry.stand → deed_of n entry ≡ deed_for es n
  unfolding gone_deed row_deed asked test
  deed_is entry r place h news.Returned fits = refl
  deed_is entry r place h (news.Renamed scan) fits = renamed_is scan entry.registered r
  deed_is entry r place h news.Resized fits = ap (λ (b : Bool). if b then deed.Stir else deed.Nothing) (sym (tail_is es entry.stand h))
  deed_is entry r place h (news.Removed clean) fits =
      ap (λ (b : Bool). if b then deed.End else untailed_deed clean entry.registered entry.at) (sym (tail_is es entry.stand h))
      ∙ ap (λ (d : Deed). if is_open es then deed.End else d) (untailed_is clean entry.at entry.registered r place)
  deed_is entry r place h (news.Shown scan) fits = refl
  deed_is entry r place h news.Missed fits = missed_is entry.at entry.stand h place
  deed_is entry r place h (news.Opened at) fits = refl
  deed_is entry r place h (news.Shut at why) fits = shut_is at why entry.stand fits h
