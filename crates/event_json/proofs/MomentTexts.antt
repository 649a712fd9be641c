-- The text that `jiff` prints of an instant is the moment's.
use Rattle.std.proofs.Common.{◌≡◌, ℕ, ◌+◌, ◌*◌, ◌/◌, ◌%◌, ◌<◌, List, [], ◌∷◌, ◌++◌, Bool, false, Option, Some, sym, ap, ◌∙◌, arith, pos, ◌*ℤ◌}
use Rattle.jiff_core.specs.declared.civil.datetime.DateTime.{DateTime}
use Rattle.jiff_core.specs.declared.civil.time.Time.{Time}
use Rattle.jiff_core.specs.Date.{epoch_day}
use Rattle.jiff_core.specs.DateTime.{civil_nanos}
use Rattle.jiff_core.specs.Time.{time_nanos}
use Rattle.jiff_core.proofs.SignedLemmas.{signed_arith}
use Rattle.jiff_core.proofs.DateTimeLemmas.{civil_nanos-parts, time_nanos_bound}
use Rattle.jiff_fmt.specs.Text as jiff
use Rattle.jiff_fmt.specs.Text.{places, year_text, pad2}
use Rattle.event_json.specs.Moment.{date_text, time_text, two_digits, three_digits, moment_text}
use Rattle.event_json.proofs.Dates.{date, Found, found}

-- a clock's parts, of the milliseconds since midnight
hour_is : (t : Time) (ms : ℕ) → time_nanos t ≡ ms * 1_000_000 → t.hour ≡ ms / 3_600_000
hour_is t ms e = omega arith

minute_is : (t : Time) (ms : ℕ) → time_nanos t ≡ ms * 1_000_000 → t.minute ≡ ms / 60_000 % 60
minute_is t ms e = omega arith

second_is : (t : Time) (ms : ℕ) → time_nanos t ≡ ms * 1_000_000 → t.second ≡ ms / 1_000 % 60
second_is t ms e = omega arith

fraction_is : (t : Time) (ms : ℕ) → time_nanos t ≡ ms * 1_000_000 → t.subsec_nanosecond ≡ ms % 1_000 * 1_000_000
fraction_is t ms e = omega arith

-- three places of a fraction of a second
places_are : (n ms : ℕ) → ms < 1_000 → n ≡ ms * 1_000_000 → places 3 1_000_000_000 n ≡ three_digits ms
unfolding places
places_are n ms small e =
    let first : n / 100_000_000 ≡ ms / 100 = omega arith in
    let middle : n % 100_000_000 / 10_000_000 ≡ ms % 100 / 10 = omega arith in
    let last : n % 100_000_000 % 10_000_000 / 1_000_000 ≡ ms % 100 % 10 = omega arith in
    λ i. (48 + first i) ∷ (48 + middle i) ∷ (48 + last i) ∷ []

time_same : (t : Time) (ms : ℕ) → time_nanos t ≡ ms * 1_000_000 → jiff.time_text (Some 3) t ≡ time_text ms
time_same t ms e =
    let hour = hour_is t ms e in
    let minute = minute_is t ms e in
    let second = second_is t ms e in
    let places = places_are t.subsec_nanosecond (ms % 1_000) (omega arith) (fraction_is t ms e) in
    λ i. two_digits (hour i) ++ (58 ∷ (two_digits (minute i) ++ (58 ∷ (two_digits (second i) ++ (46 ∷ places i)))))

pub moment_printed : (ms : ℕ) (dt : DateTime) → civil_nanos dt ≡ pos ms *ℤ pos 1_000_000
    → jiff.datetime_text false 84 (Some 3) dt ++ jiff.zulu_text false ≡ moment_text ms
unfolding moment_text
moment_printed ms dt e =
    let day : epoch_day dt.date ≡ pos (ms / 86_400_000) = omega (arith, signed_arith, civil_nanos-parts dt, time_nanos_bound dt.time) in
    let time : time_nanos dt.time ≡ ms % 86_400_000 * 1_000_000 = omega (arith, signed_arith, civil_nanos-parts dt, time_nanos_bound dt.time) in
    let its : Found (ms / 86_400_000) dt.date = found (ms / 86_400_000) dt.date day in
    let end : List ℕ = jiff.time_text (Some 3) dt.time in
    ap (λ y. ((year_text y ++ 45 ∷ [] ++ pad2 dt.date.month ++ 45 ∷ [] ++ pad2 dt.date.day) ++ 84 ∷ end) ++ 90 ∷ []) its.year_is
    ∙ ap (λ t. date_text (date its.year dt.date.month dt.date.day) ++ (84 ∷ (t ++ 90 ∷ []))) (time_same dt.time (ms % 86_400_000) time)
    ∙ ap (λ d. date_text d ++ (84 ∷ (time_text (ms % 86_400_000) ++ 90 ∷ []))) (sym its.same)

-- the printer's options are those, and the instant is this many milliseconds after the epoch
pub text_printed : (ms : ℕ) (dt : DateTime) (lowercase : Bool) (separator : ℕ) (precision : Option ℕ) (text : List ℕ)
    → lowercase ≡ false → separator ≡ 84 → precision ≡ Some 3 → civil_nanos dt ≡ pos ms *ℤ pos 1_000_000
    → text ≡ jiff.datetime_text lowercase separator precision dt ++ jiff.zulu_text lowercase → text ≡ moment_text ms
text_printed ms dt lowercase separator precision text upper t three e is =
    is ∙ (λ i. jiff.datetime_text (upper i) (t i) (three i) dt ++ jiff.zulu_text (upper i)) ∙ moment_printed ms dt e
