-- Only reported events are sent: what goes out over a link is of parcels that its worker took, each of which is of an event that a file
-- reported, and none was taken twice.
use Rattle.std.proofs.Common.{◌≡◌, ℕ, List, [], ◌∷◌, ◌++◌, Contains, map, Option, Some, refl, sym, ap, subst, ◌∙◌, append-nil}
use Rattle.std.specs.List.{AllByRecursion, flat_map}
use Rattle.std.proofs.lemmas.List.Elements.{Contains-append_left, Contains-append_right}
use Rattle.batch_worker.specs.Sent.{SendsOnly}
use Rattle.batch_worker.specs.Sent as worker
use Rattle.harvester.specs.History.{Telling}
use Rattle.kept_rows.specs.Account.{Place, epoch_of}
use Rattle.kept_rows.specs.Acknowledged.{open_talks, talk_of}
use Rattle.kept_rows.specs.Scans.{AreDistinct}
use Rattle.kept_rows.specs.Sent.{IsSentOnly, IsShipped, SendOnlyTold, Sending, SendsOnlyTold, ToldAt}
use Rattle.kept_rows.specs.Sent as sent
use Rattle.kept_rows.specs.Trace.{WireTold}
use Rattle.lumber_client.specs.Exchange.{payloads_of, windows_of}
use Rattle.lumber_frame.specs.Window.{IsWindow, window_bytes}
use Rattle.outside.specs.Talks.{Talk}
use Rattle.outside.specs.Wires.{Finished, Outcome, Refused}
use Rattle.ship_core.proofs.Members.{first_there, later_there}
use Rattle.ship_core.specs.CoveredEnd.{Adjoin}
use Rattle.told_events.specs.Fate.{ShippedAs}
use Rattle.told_events.specs.Told.{ToldEvent, spans_of}
use Rattle.wire_base.specs.Extent.{Extent}
use Rattle.wire_base.specs.declared.note.Note.{Note}
use Rattle.wire_base.specs.declared.numbers.Slot.{Slot}
use Rattle.wire_base.specs.declared.parcel.Parcel.{Parcel}
use Rattle.wire_base.specs.declared.talk.Piece.{Piece}
use Rattle.slot_parts.specs.Tellings.{tellings_in}
use Rattle.accounts.specs.Filed.{Filed, IsFiled, accounts_of, slot_in, turned_in, turned_of}
use Rattle.accounts.specs.Ground.{IsParcelOf}
use Rattle.accounts.specs.Once.{AreOnce}
use Rattle.accounts.specs.Places.{AreOfWorkers}
use Rattle.accounts.specs.Same.{same_parcel}
use Rattle.accounts.specs.Taken.{FitBooks, Taken, taken_by, taken_in}
use Rattle.accounts.specs.Turned.{Turned, parcels_told}
use Rattle.accounts.proofs.Apart.{IsInEpochs, starts_apart}
use Rattle.accounts.proofs.Backing.{epoch_in}
use Rattle.accounts.proofs.Grounded.{each_member, of_map, taken_has_ground}
use Rattle.accounts.proofs.Located.{flat}
use Rattle.accounts.proofs.Often.{often_back, once_apart, once_behind, once_front, once_often, once_others}
use Rattle.accounts.proofs.Orderly.{member_is, one_epoch, same_item}
use Rattle.accounts.proofs.Same.{tells_parcels}

-- ---- a parcel and its frame

abbrev told_at : Parcel → ToldAt
told_at parcel = record { slot = parcel.slot.0; epoch = parcel.epoch.0; start = parcel.span.start }

abbrev sending_of : Parcel → Sending
sending_of parcel = record { of = told_at parcel; payload = parcel.payload }

abbrev sendings_of : List (List Parcel) → List (List Sending)
sendings_of windows = map (λ (window : List Parcel). map sending_of window) windows

same_payloads : (window : List Parcel) → sent.payloads_of (map sending_of window) ≡ payloads_of window
same_payloads [] = refl
same_payloads (parcel ∷ window) = ap (λ (l : List (List ℕ)). parcel.payload ∷ l) (same_payloads window)

are_windows : (windows : List (List Parcel)) → AllByRecursion IsWindow (windows_of windows) → AllByRecursion (λ (window : List Sending). IsWindow (sent.payloads_of window)) (sendings_of windows)
are_windows [] each = tt
are_windows (window ∷ windows) each = (subst IsWindow (sym (same_payloads window)) each.0, are_windows windows each.1)

same_bytes : (windows : List (List Parcel)) → flat_map (λ (window : List Sending). window_bytes (sent.payloads_of window)) (sendings_of windows) ≡ flat_map window_bytes (windows_of windows)
same_bytes [] = refl
same_bytes (window ∷ windows) =
    ap (λ (l : List (List ℕ)). window_bytes l ++ flat_map (λ (w : List Sending). window_bytes (sent.payloads_of w)) (sendings_of windows)) (same_payloads window)
    ∙ ap (λ (l : List ℕ). window_bytes (payloads_of window) ++ l) (same_bytes windows)

-- where their events are reported
places_of_window : (window : List Parcel) → map (λ (sending : Sending). sending.of) (map sending_of window) ≡ map told_at window
places_of_window [] = refl
places_of_window (parcel ∷ window) = ap (λ (l : List ToldAt). told_at parcel ∷ l) (places_of_window window)

map_both : (xs ys : List Parcel) → map told_at (xs ++ ys) ≡ map told_at xs ++ map told_at ys
map_both [] ys = refl
map_both (x ∷ xs) ys = ap (λ (l : List ToldAt). told_at x ∷ l) (map_both xs ys)

places_of_windows : (windows : List (List Parcel)) → flat_map (λ (window : List Sending). map (λ (sending : Sending). sending.of) window) (sendings_of windows) ≡ map told_at (flat windows)
places_of_windows [] = refl
places_of_windows (window ∷ windows) =
    ap (λ (l : List ToldAt). l ++ flat_map (λ (w : List Sending). map (λ (sending : Sending). sending.of) w) (sendings_of windows)) (places_of_window window)
    ∙ ap (λ (l : List ToldAt). map told_at window ++ l) (places_of_windows windows)
    ∙ sym (map_both window (flat windows))

-- ---- parcels of files

module _ (files : List Turned) (apart : AreDistinct (map (λ (turned : Turned). turned.slot.0) files)) (epochs : AllByRecursion IsInEpochs files) where
  -- where its event is reported says which parcel it is
  known_by_place : (parcel other : Parcel) → IsParcelOf files parcel → IsParcelOf files other → told_at parcel ≡ told_at other → parcel ≡ other
  known_by_place parcel other of and same =
      let slots : of.turned.slot.0 ≡ and.turned.slot.0 =
      ap (λ (s : Slot). s.0) (sym of.slot_is) ∙ ap (λ (t : ToldAt). t.slot) same ∙ ap (λ (s : Slot). s.0) and.slot_is in
      let numbers : of.telling.epoch ≡ and.telling.epoch = sym of.epoch_is ∙ ap (λ (t : ToldAt). t.epoch) same ∙ and.epoch_is in
      let telling = one_epoch files apart epochs of.turned and.turned of.telling and.telling of.epoch and.epoch slots numbers in
      let is = member_is IsInEpochs files of.turned epochs of.epoch.of_files in
      let adjoin = member_is (λ (t : Telling). Adjoin t.start (spans_of t.told)) (tellings_in of.turned.history) of.telling is.adjoin of.epoch.of_file in
      let starts : of.event.span.start ≡ and.event.span.start =
      ap (λ (e : Extent). e.start) (sym of.span_is) ∙ ap (λ (t : ToldAt). t.start) same ∙ ap (λ (e : Extent). e.start) and.span_is in
      let event : of.event ≡ and.event =
      same_item (λ (e : ToldEvent). e.span.start) of.telling.told of.event and.event (starts_apart of.telling.start of.telling.told adjoin) of.told
      (subst (λ (t : Telling). Contains t.told and.event) (sym telling) and.told) starts in
      let fates : ShippedAs parcel.payload ≡ ShippedAs other.payload = sym of.fate_is ∙ ap (λ (e : ToldEvent). e.fate) event ∙ and.fate_is in
      let payloads : parcel.payload ≡ other.payload = cc in
      let spans : parcel.span ≡ other.span = of.span_is ∙ ap (λ (e : ToldEvent). e.span) event ∙ sym and.span_is in
      let slot : parcel.slot.0 ≡ other.slot.0 = ap (λ (t : ToldAt). t.slot) same in
      let epoch : parcel.epoch.0 ≡ other.epoch.0 = ap (λ (t : ToldAt). t.epoch) same in
      λ k. record { slot = record { 0 = slot k }; epoch = record { 0 = epoch k }; span = spans k; payload = payloads k }

  distinct_places : (parcels : List Parcel) → AreOnce same_parcel parcels → AllByRecursion (IsParcelOf files) parcels → AreDistinct (map told_at parcels)
  distinct_places [] once each = tt
  distinct_places (parcel ∷ parcels) once each = (
    λ there.
        let of = of_map told_at parcels (told_at parcel) there in
        let same = known_by_place of.item parcel (member_is (IsParcelOf files) parcels of.item each.1 of.among) each.0 of.is in
        once_apart same_parcel tells_parcels parcel parcels once (subst (λ (p : Parcel). Contains parcels p) same of.among),
    distinct_places parcels (once_others same_parcel tells_parcels parcel parcels once) each.1,
  )

-- ---- what is shipped

module _ (placed : Parcel → Option Place) (wires : List WireTold) (files : List Filed) (apart : AreDistinct (map slot_in files)) (filed : AllByRecursion IsFiled files) where
  is_shipped : (parcel : Parcel) → IsParcelOf (turned_of files) parcel → IsShipped (accounts_of placed files) (sending_of parcel)
  is_shipped parcel of =
      let file = of_map turned_in files of.turned of.epoch.of_files in
      by_file file.item file.among (member_is IsFiled files file.item filed file.among) file.is
    where
      by_file : (file : Filed) → Contains files file → IsFiled file → (turned_in file) ≡ of.turned → IsShipped (accounts_of placed files) (sending_of parcel)
      by_file file among is_filed same =
          let there = subst (λ (t : Turned). Contains (tellings_in t.history) of.telling) (sym same) of.epoch.of_file in
          let found = epoch_in placed wires files apart file among is_filed of.telling there in
          let slot : (turned_in file).slot.0 ≡ parcel.slot.0 = ap (λ (t : Turned). t.slot.0) same ∙ ap (λ (s : Slot). s.0) (sym of.slot_is) in
          let has = found.has of.event of.told in
          record {
            epoch = found.epoch;
            epoch_is =
                subst (λ (n : ℕ). epoch_of (accounts_of placed files) n parcel.epoch.0 ≡ Some found.epoch) slot
                (subst (λ (n : ℕ). epoch_of (accounts_of placed files) (turned_in file).slot.0 n ≡ Some found.epoch) (sym of.epoch_is) found.is);
            one = has.one;
            told = has.there;
            starts = ap (λ (e : ToldEvent). e.span.start) has.event_is ∙ ap (λ (e : Extent). e.start) (sym of.span_is);
            shipped = ap (λ (e : ToldEvent). e.fate) has.event_is ∙ of.fate_is;
          }

  are_shipped : (windows : List (List Parcel)) → ((parcel : Parcel) → Contains (flat windows) parcel → IsParcelOf (turned_of files) parcel) →
      AllByRecursion (λ (window : List Sending). AllByRecursion (IsShipped (accounts_of placed files)) window) (sendings_of windows)
  are_shipped [] ground = tt
  are_shipped (window ∷ windows) ground = (
    of_window window (λ parcel there. ground parcel (Contains-append_left window (flat windows) parcel there)),
    are_shipped windows (λ parcel there. ground parcel (Contains-append_right window (flat windows) parcel there)),
  )
    where
      of_window : (parcels : List Parcel) → ((parcel : Parcel) → Contains parcels parcel → IsParcelOf (turned_of files) parcel) →
          AllByRecursion (IsShipped (accounts_of placed files)) (map sending_of parcels)
      of_window [] ground = tt
      of_window (parcel ∷ parcels) ground =
          (is_shipped parcel (ground parcel (first_there parcel parcels)), of_window parcels (λ other there. ground other (later_there parcel other parcels there)))

  module _ (distinct : AreDistinct (map (λ (turned : Turned). turned.slot.0) (turned_of files))) (epochs : AllByRecursion IsInEpochs (turned_of files)) where
    sends_only_told : (most : ℕ) (taken : List Parcel) (talk : List Piece) → AreOnce same_parcel taken → ((parcel : Parcel) → Contains taken parcel → IsParcelOf (turned_of files) parcel) →
        SendsOnly most taken talk → SendsOnlyTold (accounts_of placed files) talk
    sends_only_told most taken talk once ground sends =
        let all = flat sends.windows in
        let own : (parcel : Parcel) → Contains all parcel → IsParcelOf (turned_of files) parcel =
        λ parcel there. ground parcel (subst (λ (l : List Parcel). Contains l parcel) (sym sends.are)
        (Contains-append_left (sends.before ++ all) sends.behind parcel (Contains-append_right sends.before all parcel there))) in
        let once_all : AreOnce same_parcel all =
        once_behind same_parcel tells_parcels sends.before all (once_front same_parcel tells_parcels (sends.before ++ all) sends.behind (subst (AreOnce same_parcel) sends.are once)) in
        record {
          windows = sendings_of sends.windows;
          are = are_windows sends.windows sends.each;
          shipped = are_shipped sends.windows own;
          different = subst AreDistinct (sym (places_of_windows sends.windows))
              (distinct_places (turned_of files) distinct epochs all once_all (each_member (IsParcelOf (turned_of files)) all own));
          left = sends.left;
          front = sends.sent ∙ sym (same_bytes sends.windows);
        }

    talks_send_only : (most : ℕ) (taken : List Parcel) (outcomes : List Outcome) → AreOnce same_parcel taken → ((parcel : Parcel) → Contains taken parcel → IsParcelOf (turned_of files) parcel) →
        worker.AreSentOnly most taken outcomes → AllByRecursion (IsSentOnly (accounts_of placed files)) (map talk_of outcomes)
    talks_send_only most taken [] once ground are = tt
    talks_send_only most taken (Refused ∷ outcomes) once ground are = (tt, talks_send_only most taken outcomes once ground are.1)
    talks_send_only most taken (Finished talk faults idles ∷ outcomes) once ground are =
        (sends_only_told most taken talk.pieces once ground are.0, talks_send_only most taken outcomes once ground are.1)

    wires_send_only : (workers : List Taken) (some : List WireTold) → AreOfWorkers workers some → AreOnce same_parcel (taken_in workers) →
        ((parcel : Parcel) → Contains (taken_in workers) parcel → IsParcelOf (turned_of files) parcel) → SendOnlyTold (accounts_of placed files) some
    wires_send_only [] [] of once ground = tt
    wires_send_only [] (wire ∷ some) of once ground = absurd of
    wires_send_only (taken ∷ workers) [] of once ground = absurd of
    wires_send_only (taken ∷ workers) (wire ∷ some) of once ground = (
      subst (λ (o : Option Talk). AllByRecursion (IsSentOnly (accounts_of placed files)) (map talk_of wire.outcomes ++ open_talks o)) (sym of.0.none_open)
          (subst (AllByRecursion (IsSentOnly (accounts_of placed files))) (sym (append-nil (map talk_of wire.outcomes)))
          (talks_send_only of.0.most (taken_by taken) wire.outcomes (once_front same_parcel tells_parcels (taken_by taken) (taken_in workers) once)
          (λ parcel there. ground parcel (Contains-append_left (taken_by taken) (taken_in workers) parcel there)) of.0.talks.sent)),
      wires_send_only workers some of.1 (once_behind same_parcel tells_parcels (taken_by taken) (taken_in workers) once)
          (λ parcel there. ground parcel (Contains-append_right (taken_by taken) (taken_in workers) parcel there)),
    )

    -- no parcel was taken twice
    pub sent_only : (workers : List Taken) (collected : List Note) → AreOfWorkers workers wires → FitBooks (turned_of files) workers collected →
        AreOnce same_parcel (flat_map parcels_told (turned_of files)) → SendOnlyTold (accounts_of placed files) wires
    sent_only workers collected of fits once =
        let issued : AreOnce same_parcel fits.issued =
        once_often same_parcel tells_parcels (flat_map parcels_told (turned_of files)) fits.issued (often_back fits.issued (flat_map parcels_told (turned_of files)) fits.issued_are) once in
        let taken : AreOnce same_parcel (taken_in workers) =
        once_behind same_parcel tells_parcels fits.parcels (taken_in workers)
        (once_often same_parcel tells_parcels fits.issued (fits.parcels ++ taken_in workers) fits.parcels_are issued) in
        wires_send_only workers wires of taken (taken_has_ground (turned_of files) workers collected fits)
