-- What a window stands for (Lumberjack v2; this project's profile for several windows in flight): the talk since it was made
-- or made again, byte for byte, and the parcels on their way. Which of them a talk acknowledges is `lumber_frame`'s reading.
use Rattle.std.specs.Prelude.{◌≡◌, ℕ, suc, List, [], ◌∷◌, ◌++◌, map, take}
use Rattle.wire_base.specs.declared.parcel.Parcel.{Parcel}
use Rattle.wire_base.specs.declared.talk.Piece.{Piece}
use Rattle.wire_base.specs.declared.talk.Piece.TheVariants.{Out, In}
use Rattle.lumber_frame.specs.Talk.{in_bytes}
use Rattle.lumber_frame.specs.Acknowledged.{Answer, acknowledgements, answers, greatest}

pub record Exchange : Type 0 where
  -- what was sent and given since the window was made, or since it was made again
  pub talk : List Piece
  -- the windows that were begun since then
  pub begun : List (List Parcel)
  -- the parcels that earlier talks acknowledged
  pub earlier : List Parcel
  -- all parcels that were handed out as acknowledged, in order
  pub handed : List Parcel

abbrev pub no_exchange : Exchange
no_exchange = record { talk = []; begun = []; earlier = []; handed = [] }

abbrev pub payloads_of : List Parcel → List (List ℕ)
payloads_of parcels = map (λ parcel. parcel.payload) parcels

abbrev pub windows_of : List (List Parcel) → List (List (List ℕ))
windows_of begun = map payloads_of begun

-- the answers that the talk gives
abbrev pub given_in : Exchange → List Answer
given_in e = answers (windows_of e.begun) e.talk [] 0 (acknowledgements (in_bytes e.talk))

-- the acknowledged parcels of the windows, the first of which has this number
abbrev pub parcels_by : List Answer → ℕ → List (List Parcel) → List Parcel
parcels_by given window [] = []
parcels_by given window (parcels ∷ windows) = take (greatest window given) parcels ++ parcels_by given (suc window) windows

-- the parcels that the talk acknowledges, by windows and places
abbrev pub acknowledged_in : Exchange → List Parcel
acknowledged_in e = parcels_by (given_in e) 1 e.begun

-- all that the talks acknowledge was handed out
abbrev pub IsAllHanded : Exchange → Type 0
IsAllHanded e = e.earlier ++ acknowledged_in e ≡ e.handed

-- this parcel is the next of those that they acknowledge
abbrev pub IsNextOf : Exchange → Parcel → Type 0
IsNextOf e parcel = (more : List Parcel) × (e.earlier ++ acknowledged_in e ≡ e.handed ++ parcel ∷ more)

-- ---- how it goes on

-- with this talk
abbrev pub with_talk : Exchange → List Piece → Exchange
with_talk e talk = record { talk = talk; begun = e.begun; earlier = e.earlier; handed = e.handed }

-- a window of these parcels is begun
abbrev pub with_begun : Exchange → List Parcel → Exchange
with_begun e parcels = record { talk = e.talk; begun = e.begun ++ parcels ∷ []; earlier = e.earlier; handed = e.handed }

-- these bytes went out
abbrev pub with_sent : Exchange → List ℕ → Exchange
with_sent e bytes = record { talk = e.talk ++ Out bytes ∷ []; begun = e.begun; earlier = e.earlier; handed = e.handed }

-- this byte was given
abbrev pub with_heard : Exchange → ℕ → Exchange
with_heard e byte = record { talk = e.talk ++ In (byte ∷ []) ∷ []; begun = e.begun; earlier = e.earlier; handed = e.handed }

-- this parcel was handed out
abbrev pub with_handed : Exchange → Parcel → Exchange
with_handed e parcel = record { talk = e.talk; begun = e.begun; earlier = e.earlier; handed = e.handed ++ parcel ∷ [] }

-- the window was made again
abbrev pub anew : Exchange → Exchange
anew e = record { talk = []; begun = []; earlier = e.earlier ++ acknowledged_in e; handed = e.handed }
