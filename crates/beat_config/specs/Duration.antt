-- A duration in a text: a number of at most 9 digits and then its unit, `ms`, `s`, `m` or `h` (this project's profile).
use Rattle.std.specs.Prelude.{ℕ, ◌*◌, List, take, drop, codes, Option, Some, None, if◌then◌else◌, option_map, option_and_then}
use Rattle.std.specs.List.{prefix_len}
use Rattle.std.specs.Char.{is_ascii_digit}
use Rattle.std.specs.Str.{bytes_eq}
use Rattle.beat_config.specs.Number.{number_of}

-- how many digits a text begins with
abbrev pub digit_count : List ℕ → ℕ
digit_count text = prefix_len is_ascii_digit text

abbrev pub unit_milliseconds : List ℕ → Option ℕ
unit_milliseconds unit =
    if bytes_eq unit (codes "ms") then Some 1
    else if bytes_eq unit (codes "s") then Some 1000
    else if bytes_eq unit (codes "m") then Some 60000
    else if bytes_eq unit (codes "h") then Some 3600000
    else None

unfoldable pub milliseconds : List ℕ → Option ℕ
milliseconds text =
    let count = digit_count text in
    option_and_then (λ number. option_map (λ unit. number * unit) (unit_milliseconds (drop count text))) (number_of 9 (take count text))
