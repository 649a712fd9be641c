-- What a whole acknowledgement makes of what a window holds (this project's profile of Lumberjack v2).
use Rattle.std.specs.Prelude.{◌≡◌, ℕ, ◌-◌, ◌<◌, ◌≤◌, true, Option, Some, None, IfSome, unwrap_or, if◌then◌else◌}
use Rattle.lumber_client.specs.declared.heard.Heard.{Heard}
use Rattle.lumber_client.specs.declared.heard.Heard.TheVariants.{More, Alive, Acked, PeerFault}
use Rattle.lumber_client.specs.Hearing.{Hearing}
use Rattle.lumber_client.specs.Held.{Held, acknowledged_to, oldest_of, with_hearing}

-- the count of the oldest window in flight, if the frame asks of it
abbrev pub asked_in : Held → Option ℕ
asked_in w = if w.hearing.asks_oldest then oldest_of w.flights else None

-- the count of the window of which the frame asks
abbrev pub count_asked : Held → ℕ
count_asked w = unwrap_or (asked_in w) w.last

abbrev pub now_failed : Hearing → Hearing
now_failed h = record { frame = h.frame; asks_oldest = h.asks_oldest; given = h.given; failed = true }

-- nothing new is acknowledged
pub record IsOld (w : Held) (number : ℕ) (new : Held) : Type 0 where
  pub few : number ≤ count_asked w
  pub old : IfSome (asked_in w) (λ count. number ≤ w.done)
  pub is : new ≡ w

-- more of the oldest window in flight is acknowledged
pub record IsNews (w : Held) (number from to : ℕ) (new : Held) : Type 0 where
  pub count : ℕ
  pub asked : asked_in w ≡ Some count
  pub from_is : from ≡ w.done
  pub to_is : to ≡ number
  pub more : w.done < number
  pub few : number ≤ count
  pub in_flight : number - w.done ≤ w.in_flight
  pub is : new ≡ acknowledged_to w number count

-- the number is above the count
pub record IsTooHigh (w : Held) (number : ℕ) (new : Held) : Type 0 where
  pub above : count_asked w < number
  pub is : new ≡ with_hearing w (now_failed w.hearing)

-- the answer to a whole acknowledgement of this number, whose last byte is at this place
abbrev pub Answers : Held → ℕ → ℕ → Heard → Held → Type 0
Answers w number place More new = ⊥
Answers w number place Alive new = IsOld w number new
Answers w number place (Acked from to) new = IsNews w number from to new
Answers w number place (PeerFault at) new = (at ≡ place) × IsTooHigh w number new
