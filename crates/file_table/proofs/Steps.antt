-- One piece of news of a known file.
use Rattle.std.proofs.Common.{◌≡◌, ℕ, Bool, true, false, List, ◌∷◌, refl, sym, ◌∙◌, subst, inr, if◌then◌else◌}
use Rattle.file_table.specs.declared.file_entry.FileEntry.{FileEntry}
use Rattle.file_table.specs.declared.file_entry.Registered.{Registered}
use Rattle.file_table.specs.declared.file_entry.Registered.TheVariants as registered
use Rattle.file_table.specs.declared.news.FileNews.{FileNews}
use Rattle.file_table.specs.declared.news.FileNews.TheVariants as news
use Rattle.file_table.specs.declared.stand.Stand.{Stand}
use Rattle.file_table.specs.declared.stand.Stand.TheVariants.{Ending, Waits}
use Rattle.file_table.specs.Entries.{FitsNews, after_removal, has_tail, next_entry, untailed_entry}
use Rattle.file_table.specs.Events.{FileEvent, News, life}
use Rattle.file_table.specs.Standing.{IsFileOf, IsRegistered, StandsSo, is_open}
use Rattle.file_table.proofs.Standings.{begun_by_row, not_begun, open_begun, never_begun, row_alone, stands_missed, stands_opened, stands_removed, stands_removed_open, stands_renamed, stands_resized, stands_returned, stands_shown, stands_shut, still_begun, tail_is}

-- what has a tail was begun
registered_open : (es : List FileEvent) (r : Registered) (clean : Bool) → IsRegistered es r → is_open es ≡ true → IsRegistered (News (news.Removed clean) ∷ es) r
registered_open es registered.Nothing clean h o = absurd (let q : true ≡ false = sym (open_begun es o) ∙ never_begun es h in cc)
registered_open es registered.Row clean h o = absurd (let q : true ≡ false = sym (open_begun es o) ∙ row_alone es h in cc)
registered_open es registered.Begin clean h o = still_begun es clean h

module _ (es : List FileEvent) (entry : FileEntry) (is : IsFileOf es entry) where
  untailed : (clean : Bool) (r : Registered) → entry.registered ≡ r → IsRegistered (life es) r → is_open (life es) ≡ false → IsFileOf (News (news.Removed clean) ∷ es) (untailed_entry clean r entry)
  untailed clean registered.Nothing same h o = record {
    known_is = is.known_is;
    registered_is = subst (IsRegistered (News (news.Removed clean) ∷ life es)) (sym same) h;
    goes_on = is.goes_on;
    shown_is = is.shown_is;
    stands = ((o, refl), refl, inr (not_begun (life es) clean h.0 h.1));
  }
  untailed clean registered.Row same h o = record {
    known_is = is.known_is;
    registered_is = begun_by_row (life es) clean h.0 h.1;
    goes_on = is.goes_on;
    shown_is = is.shown_is;
    stands = stands_removed (life es) clean o (begun_by_row (life es) clean h.0 h.1);
  }
  untailed clean registered.Begin same h o = record {
    known_is = is.known_is;
    registered_is = subst (IsRegistered (News (news.Removed clean) ∷ life es)) (sym same) (still_begun (life es) clean h);
    goes_on = is.goes_on;
    shown_is = is.shown_is;
    stands = stands_removed (life es) clean o (still_begun (life es) clean h);
  }

  removed_so : (clean tail : Bool) → has_tail entry.stand ≡ tail →
      IsFileOf (News (news.Removed clean) ∷ es) (if tail then record entry { stand = Ending (after_removal clean) } else untailed_entry clean entry.registered entry)
  removed_so clean true tail =
      let o : is_open (life es) ≡ true = tail_is (life es) entry.stand is.stands ∙ tail in
      record {
        known_is = is.known_is;
        registered_is = registered_open (life es) entry.registered clean is.registered_is o;
        goes_on = is.goes_on;
        shown_is = is.shown_is;
        stands = stands_removed_open (life es) clean o;
      }
  removed_so clean false tail = untailed clean entry.registered refl is.registered_is (tail_is (life es) entry.stand is.stands ∙ tail)

  pub next_so : (n : FileNews) → FitsNews n entry.stand → IsFileOf (News n ∷ es) (next_entry n entry)
  next_so news.Returned fits = record {
    known_is = is.known_is;
    registered_is = registered_kept entry.registered is.registered_is;
    goes_on = is.goes_on;
    shown_is = is.shown_is;
    stands = stands_returned (life es) entry.stand is.stands;
  }
    where
      registered_kept : (r : Registered) → IsRegistered (life es) r → IsRegistered (News news.Returned ∷ life es) r
      registered_kept registered.Nothing h = h
      registered_kept registered.Row h = h
      registered_kept registered.Begin h = h
  next_so (news.Renamed scan) fits = record {
    known_is = is.known_is;
    registered_is = registered_kept entry.registered is.registered_is;
    goes_on = is.goes_on;
    shown_is = is.shown_is;
    stands = stands_renamed (life es) scan entry.stand is.stands;
  }
    where
      registered_kept : (r : Registered) → IsRegistered (life es) r → IsRegistered (News (news.Renamed scan) ∷ life es) r
      registered_kept registered.Nothing h = h
      registered_kept registered.Row h = h
      registered_kept registered.Begin h = h
  next_so news.Resized fits = record {
    known_is = is.known_is;
    registered_is = registered_kept entry.registered is.registered_is;
    goes_on = is.goes_on;
    shown_is = is.shown_is;
    stands = stands_resized (life es) entry.stand is.stands;
  }
    where
      registered_kept : (r : Registered) → IsRegistered (life es) r → IsRegistered (News news.Resized ∷ life es) r
      registered_kept registered.Nothing h = h
      registered_kept registered.Row h = h
      registered_kept registered.Begin h = h
  next_so (news.Removed clean) fits = removed_so clean (has_tail entry.stand) refl
  next_so (news.Shown scan) fits = record {
    known_is = is.known_is;
    registered_is = registered_kept entry.registered is.registered_is;
    goes_on = is.goes_on;
    shown_is = refl;
    stands = stands_shown (life es) scan entry.stand is.stands;
  }
    where
      registered_kept : (r : Registered) → IsRegistered (life es) r → IsRegistered (News (news.Shown scan) ∷ life es) r
      registered_kept registered.Nothing h = h
      registered_kept registered.Row h = h
      registered_kept registered.Begin h = h
  next_so news.Missed fits = record {
    known_is = is.known_is;
    registered_is = registered_kept entry.registered is.registered_is;
    goes_on = is.goes_on;
    shown_is = is.shown_is;
    stands = stands_missed (life es) entry.stand is.stands;
  }
    where
      registered_kept : (r : Registered) → IsRegistered (life es) r → IsRegistered (News news.Missed ∷ life es) r
      registered_kept registered.Nothing h = h
      registered_kept registered.Row h = h
      registered_kept registered.Begin h = h
  next_so (news.Opened at) fits = record {
    known_is = is.known_is;
    registered_is = refl;
    goes_on = refl;
    shown_is = is.shown_is;
    stands = stands_opened (life es) at (subst (StandsSo (life es)) fits is.stands);
  }
  next_so (news.Shut at why) fits = record {
    known_is = is.known_is;
    registered_is = registered_kept entry.registered is.registered_is;
    goes_on = refl;
    shown_is = is.shown_is;
    stands = stands_shut (life es) at why entry.stand fits is.stands;
  }
    where
      registered_kept : (r : Registered) → IsRegistered (life es) r → IsRegistered (News (news.Shut at why) ∷ life es) r
      registered_kept registered.Nothing h = h
      registered_kept registered.Row h = h
      registered_kept registered.Begin h = h
