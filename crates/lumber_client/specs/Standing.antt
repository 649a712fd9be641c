-- What a window stands for (Lumberjack v2; this project's profile for several windows in flight): at every moment its bytes
-- and its parcels are those of one exchange, and what it holds as acknowledged is what the exchange's talk acknowledges.
use Rattle.std.specs.Prelude.{◌≡◌, ◌≢◌, ℕ, suc, ◌*◌, ◌-◌, ◌^◌, ◌<◌, ◌≤◌, min, Bool, false, true, List, [], ◌++◌, length, map, take, if◌then◌else◌}
use Rattle.std.specs.List.{AllByRecursion, flat_map}
use Rattle.wire_base.specs.declared.parcel.Parcel.{Parcel}
use Rattle.lumber_frame.specs.Talk.{in_bytes, out_bytes, out_before}
use Rattle.lumber_frame.specs.Window.{IsWindow, window_bytes}
use Rattle.lumber_frame.specs.Acknowledged.{Answer, answers, asked, count_at, greatest}
use Rattle.lumber_frame.specs.Settled.{ack_bytes}
use Rattle.lumber_frame.specs.PeerFault.{BeginsNoAcknowledgement, HasPeerFault}
use Rattle.lumber_client.specs.Exchange.{Exchange, windows_of, given_in, acknowledged_in}
use Rattle.lumber_client.specs.Held.{Held, IsPart, begun_in}

-- this many of the first windows are acknowledged in full, and the others in flight: of the oldest one this many parcels are
-- acknowledged, and none of the later ones
pub record AreAnswered (begun : List (List Parcel)) (given : List Answer) (full : ℕ) (flights : List ℕ) (done last : ℕ) : Type 0 where
  pub first : List (List Parcel)
  pub flying : List (List Parcel)
  pub all : begun ≡ first ++ flying
  pub number : length first ≡ full
  pub in_full : (window : ℕ) → window ≤ full → greatest window given ≡ count_at (windows_of begun) window
  pub oldest : greatest (suc full) given ≡ done
  pub later : (window : ℕ) → suc full < window → greatest window given ≡ 0
  pub counts : map (λ parcels. length parcels) flying ≡ flights
  pub part : IsPart done flights
  pub last_count : last ≡ count_at (windows_of begun) full

-- what was given is whole acknowledgements without a fault and the beginning of another, which asks of the window of this number
pub record Hears (e : Exchange) (frame : List ℕ) (window : ℕ) : Type 0 where
  pub numbers : List ℕ
  pub small : AllByRecursion (λ number. number < 2 ^ 32) numbers
  pub received : in_bytes e.talk ≡ ack_bytes numbers ++ frame
  pub faultless : length (answers (windows_of e.begun) e.talk [] 0 numbers) ≡ length numbers
  pub short : length frame < 6
  pub begins : BeginsNoAcknowledgement frame → ⊥
  pub asks : frame ≢ [] → asked (windows_of e.begun) (answers (windows_of e.begun) e.talk [] 0 numbers) (out_before e.talk (6 * length numbers)) ≡ window

-- and if a fault was reported, the talk has one
abbrev pub HearsWith : Bool → Exchange → List ℕ → ℕ → Type 0
HearsWith false e frame window = Hears e frame window
HearsWith true e frame window = HasPeerFault e.talk

-- the number of the window that a frame asks of, if this many are acknowledged in full
abbrev pub window_asked : Bool → ℕ → ℕ
window_asked asks_oldest full = if asks_oldest then suc full else full

pub record StandsFor (w : Held) (e : Exchange) : Type 0 where
  -- its windows are written in order: what went out, and then what is to go out
  pub each : AllByRecursion IsWindow (windows_of e.begun)
  pub sent : out_bytes e.talk ++ (w.out ++ w.behind) ≡ flat_map window_bytes (windows_of e.begun)
  pub nothing_behind : w.out ≡ [] → w.behind ≡ []
  -- at most this many of them are not acknowledged in full
  pub full : ℕ
  pub answered : AreAnswered e.begun (given_in e) full w.flights w.done w.last
  pub few : length w.flights ≤ w.depth
  pub heard : HearsWith w.hearing.failed e w.hearing.frame (window_asked w.hearing.asks_oldest full)
  pub flies : w.hearing.frame ≢ [] → w.hearing.asks_oldest ≡ true → 0 < length w.flights
  pub given : w.hearing.given ≡ min (length (in_bytes e.talk)) (2 ^ 64 - 1)
  -- its parcels are in order those that were begun and not handed out, and then those that wait
  pub within : begun_in w ≤ length w.parcels
  pub held : e.handed ++ take (begun_in w) w.parcels ≡ e.earlier ++ flat_map (λ parcels. parcels) e.begun
  -- those that are acknowledged and not handed out are those that the talks acknowledge
  pub acknowledged : e.handed ++ take w.acknowledged w.parcels ≡ e.earlier ++ acknowledged_in e
