-- The definitions, computed.
use Rattle.std.proofs.Common.{◌≡◌, ◌∷◌, [], refl, codes}
use Rattle.std.specs.Fmt.{digits}
use Rattle.event_json.specs.Envelope.{envelope_of}
use Rattle.event_json.specs.Json.{escape, json_of}
use Rattle.event_json.specs.Moment.{date_of, moment_text}
use Rattle.event_json.specs.Replaced.{text_of}

the_first_moment : moment_text 0 ≡ codes "1970-01-01T00:00:00.000Z"
unfolding date_of moment_text
the_first_moment = refl

a_leap_day : moment_text 951_782_400_000 ≡ codes "2000-02-29T00:00:00.000Z"
unfolding date_of moment_text
a_leap_day = refl

a_moment : moment_text 1_700_000_000_123 ≡ codes "2023-11-14T22:13:20.123Z"
unfolding date_of moment_text
a_moment = refl

the_last_moment : moment_text 250_000_000_000_000 ≡ codes "9892-03-08T12:26:40.000Z"
unfolding date_of moment_text
the_last_moment = refl

invalid_utf8_is_replaced : text_of (0x61 ∷ 0xFF ∷ 0x62 ∷ []) ≡ 0x61 ∷ 0xEF ∷ 0xBF ∷ 0xBD ∷ 0x62 ∷ []
unfolding text_of
invalid_utf8_is_replaced = refl

-- the first payload of the lines `a` and `b`
two_plain_lines : json_of (envelope_of (codes "/w/a.log") 0 (codes "a") 0) ≡ codes "{\"@timestamp\":\"1970-01-01T00:00:00.000Z\",\"input\":{\"type\":\"filestream\"},\"log\":{\"file\":{\"path\":\"/w/a.log\"},\"offset\":0},\"message\":\"a\"}"
unfolding date_of moment_text text_of escape digits
two_plain_lines = refl
