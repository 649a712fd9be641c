-- Worked cases, computed by the definitions; the newest event is the first.
use Rattle.std.proofs.Common.{◌≡◌, true, false, List, [], ◌∷◌, Some, None, inl, refl}
use Rattle.file_table.specs.declared.at.At.{At}
use Rattle.file_table.specs.declared.closing.Closing.TheVariants.{Changed, Ended, Unread, Idle}
use Rattle.file_table.specs.declared.closing.Inactive.{Inactive}
use Rattle.file_table.specs.declared.closing.TailLook.{TailLook}
use Rattle.file_table.specs.declared.deed.Deed.TheVariants as deed
use Rattle.file_table.specs.declared.news.FileNews.TheVariants as news
use Rattle.file_table.specs.declared.stand.AfterEnd.TheVariants.{Opens, Stays, Goes}
use Rattle.file_table.specs.declared.stand.Stand.TheVariants.{Waits, Open, Ending, Closed, Removed, Lost, Forgotten}
use Rattle.file_table.specs.Closings.{closing_of}
use Rattle.file_table.specs.Events.{Began, Created, FileEvent, Gone, News, life}
use Rattle.file_table.specs.Entries.{at_of, opening_at}
use Rattle.file_table.specs.Standing.{StandsSo, deed_for, is_known, place_in}

abbrev begun_at : At
begun_at = at_of 1 4

abbrev told_to : At
told_to = at_of 1 9

abbrev row_found : List FileEvent
row_found = Began begun_at true ∷ []

abbrev opened : List FileEvent
opened = News (news.Opened begun_at) ∷ row_found

abbrev idle : List FileEvent
idle = News (news.Shut told_to Idle) ∷ opened

abbrev removed : List FileEvent
removed = News (news.Removed true) ∷ opened

-- ---- how it stands

row_found_waits : StandsSo row_found Waits
row_found_waits = ((refl, refl), refl)

opened_is_open : StandsSo opened Open
opened_is_open = ((refl, refl), refl)

idle_is_closed : StandsSo idle Closed
idle_is_closed = ((refl, refl), refl)

written_waits : StandsSo (News news.Resized ∷ idle) Waits
written_waits = ((refl, refl), refl)

-- and is closed no more
written_is_not_closed : StandsSo (News news.Resized ∷ idle) Closed → ⊥
written_is_not_closed h = let q : false ≡ true = h.1 in cc

renamed_is_closed : StandsSo (News (news.Renamed 7) ∷ idle) Closed
renamed_is_closed = ((refl, refl), refl)

changed_waits : StandsSo (News (news.Shut told_to Changed) ∷ opened) Waits
changed_waits = ((refl, refl), refl)

unread_waits : StandsSo (News (news.Shut told_to Unread) ∷ opened) Waits
unread_waits = ((refl, refl), refl)

removed_ends : StandsSo removed (Ending Goes)
removed_ends = ((refl, refl), refl, refl)

returned_ends_and_opens : StandsSo (News news.Returned ∷ removed) (Ending Opens)
returned_ends_and_opens = ((refl, refl), refl, refl)

returned_waits_after_its_end : StandsSo (News (news.Shut told_to Ended) ∷ News news.Returned ∷ removed) Waits
returned_waits_after_its_end = ((refl, refl), refl)

kept_after_its_end : StandsSo (News (news.Shut told_to Ended) ∷ News (news.Removed false) ∷ opened) Removed
kept_after_its_end = ((refl, refl), refl, refl)

forgotten_after_its_end : StandsSo (News (news.Shut told_to Ended) ∷ removed) Forgotten
forgotten_after_its_end = ((refl, refl), refl, inl refl)

lost_after_a_change : StandsSo (News (news.Shut told_to Changed) ∷ removed) Lost
lost_after_a_change = ((refl, refl), refl, refl)

-- a scan that shows its key leaves it lost, a whole one that does not show it forgets it
shown_is_lost : StandsSo (News (news.Shown 3) ∷ News (news.Shut told_to Changed) ∷ removed) Lost
shown_is_lost = ((refl, refl), refl, refl)

missed_is_forgotten : StandsSo (News news.Missed ∷ News (news.Shut told_to Changed) ∷ removed) Forgotten
missed_is_forgotten = ((refl, refl), refl, inl refl)

gone_is_unknown : is_known (Gone ∷ News (news.Shut told_to Ended) ∷ removed) ≡ false
gone_is_unknown = refl

created_again : life (Created ∷ Gone ∷ removed) ≡ Created ∷ []
created_again = refl

-- ---- where it goes on, and what is asked for

told_place : place_in idle ≡ told_to
told_place = refl

opened_place : place_in (News (news.Opened (at_of 2 0)) ∷ idle) ≡ at_of 2 0
opened_place = refl

reached : opening_at told_to 9 ≡ Some told_to
reached = refl

cut : opening_at told_to 8 ≡ Some (at_of 2 0)
cut = refl

cut_in_the_last_epoch : opening_at (at_of 4_294_967_295 9) 8 ≡ None
cut_in_the_last_epoch = refl

renamed_before_its_begin : deed_for row_found (news.Renamed 7) ≡ deed.Nothing
renamed_before_its_begin = refl

renamed_by_its_scan : deed_for idle (news.Renamed 7) ≡ deed.Rename 7
renamed_by_its_scan = refl

removed_by_its_row : deed_for row_found (news.Removed true) ≡ deed.BeginRemoved true
removed_by_its_row = refl

removed_without_a_row : deed_for (Created ∷ []) (news.Removed true) ≡ deed.Drop
removed_without_a_row = refl

removed_while_closed : deed_for idle (news.Removed true) ≡ deed.Forget told_to
removed_while_closed = refl

removed_while_open : deed_for opened (news.Removed true) ≡ deed.End
removed_while_open = refl

end_look_forgets : deed_for removed (news.Shut told_to Ended) ≡ deed.Forget told_to
end_look_forgets = refl

end_look_of_a_returned_file : deed_for (News news.Returned ∷ removed) (news.Shut told_to Ended) ≡ deed.Nothing
end_look_of_a_returned_file = refl

-- ---- which tails are closed

at_rest : TailLook
at_rest = record { told = told_to; read_to = 9; listed = 9; changed = false; idle_since = Some (record { 0 = 1_000 }) }

later : Inactive
later = record { now = record { 0 = 6_000 }; after_ms = 5_000 }

idle_tail : closing_of Open at_rest later ≡ Some Idle
unfolding at_rest later
idle_tail = refl

more_is_listed : closing_of Open (record at_rest { listed = 10 }) later ≡ Some Unread
unfolding at_rest later
more_is_listed = refl

too_early : closing_of Open at_rest (record later { after_ms = 5_001 }) ≡ None
unfolding at_rest later
too_early = refl

an_event_waits : closing_of Open (record at_rest { idle_since = None }) later ≡ None
unfolding at_rest
an_event_waits = refl

an_end_look : closing_of (Ending Goes) (record at_rest { listed = 10 }) later ≡ Some Ended
unfolding at_rest
an_end_look = refl
