-- The times of an input: they are those of its keys, within their ranges.
use Rattle.std.proofs.Common.{Option, ◌≡◌, ◌≢◌, ℕ, ◌+◌, ◌<◌, ◌^◌, [], List, refl, sym, subst, codes, inl, inr, arith}
use Rattle.std.specs.Int.{IsInRange}
use Rattle.std.proofs.lemmas.Bool.{and_cases, not-false, eqb-true, leb-false}
use Rattle.toml.specs.Data.{Members, get_member}
use Rattle.beat_config.specs.declared.settings_error.SettingsError.{SettingsError}
use Rattle.beat_config.specs.declared.settings_error.SettingsError.TheVariants.{CleanTooSoon}
use Rattle.beat_config.specs.declared.times.Times.{Times}
use Rattle.beat_config.specs.Finding.{note_all}
use Rattle.beat_config.specs.InRange.{IsAge, IsInterval}
use Rattle.beat_config.specs.Path.{key_path}
use Rattle.beat_config.specs.Single.{limits, duration_of, duration_findings}
use Rattle.beat_config.specs.Times.{times_in, is_too_soon, clean_findings, times_findings}
use Rattle.beat_config.proofs.Faultless.{parts, not_passed}
use Rattle.beat_config.proofs.Ranges.{time_within}

-- the sum of two times does not overflow
pub sum_fits : (members : Members) (older interval : ℕ) → older ≡ duration_of (limits 0 31536000000) 0 (get_member (codes "ignore_older") members)
    → interval ≡ duration_of (limits 1 86400000) 10000 (get_member (codes "check_interval") members) → older + interval < 2 ^ 64
sum_fits members older interval older_is interval_is =
    let first : IsInRange 0 31536000000 older = subst (IsInRange 0 31536000000) (sym older_is) (time_within 0 31536000000 0 (codes "ignore_older") members refl) in
    let second : IsInRange 1 86400000 interval = subst (IsInRange 1 86400000) (sym interval_is) (time_within 1 86400000 10000 (codes "check_interval") members refl) in
    omega (arith, first.1, second.1)

pub times_are : (inner : Members) (times : Times)
    → times.check_interval ≡ duration_of (limits 1 86400000) 10000 (get_member (codes "check_interval") inner)
    → times.close_inactive ≡ duration_of (limits 1 86400000) 300000 (get_member (codes "close_inactive") inner)
    → times.ignore_older ≡ duration_of (limits 0 31536000000) 0 (get_member (codes "ignore_older") inner)
    → times.clean_inactive ≡ duration_of (limits 0 31536000000) 0 (get_member (codes "clean_inactive") inner)
    → times ≡ times_in inner
unfolding times_in
times_are inner times interval inactive older clean = λ i. record {
  check_interval = interval i;
  close_inactive = inactive i;
  ignore_older = older i;
  clean_inactive = clean i;
}

pub retimed : (a b : Option SettingsError) (path : List ℕ) (times other : Times) → times ≡ other → b ≡ note_all a (clean_findings path times)
    → b ≡ note_all a (clean_findings path other)
retimed a b path times other same h = subst (λ t. b ≡ note_all a (clean_findings path t)) same h

-- the times of an input, each within its range
pub record AreWithin (times : Times) : Type 0 where
  pub check_interval : IsInterval times.check_interval
  pub close_inactive : IsInterval times.close_inactive
  pub ignore_older : IsAge times.ignore_older
  pub clean_inactive : IsAge times.clean_inactive

pub within : (members : Members) → AreWithin (times_in members)
unfolding times_in
within members = record {
  check_interval = time_within 1 86400000 10000 (codes "check_interval") members refl;
  close_inactive = time_within 1 86400000 300000 (codes "close_inactive") members refl;
  ignore_older = (time_within 0 31536000000 0 (codes "ignore_older") members refl).1;
  clean_inactive = (time_within 0 31536000000 0 (codes "clean_inactive") members refl).1;
}

pub clean_told : (path : List ℕ) (members : Members) → times_findings path members ≡ [] → clean_findings path (times_in members) ≡ []
unfolding times_findings
clean_told path members h =
    let interval = parts (duration_findings (limits 1 86400000) (key_path path (codes "check_interval")) (get_member (codes "check_interval") members)) _ h in
    let inactive = parts (duration_findings (limits 1 86400000) (key_path path (codes "close_inactive")) (get_member (codes "close_inactive") members)) _ interval.1 in
    let older = parts (duration_findings (limits 0 31536000000) (key_path path (codes "ignore_older")) (get_member (codes "ignore_older") members)) _ inactive.1 in
    (parts _ (clean_findings path (times_in members)) older.1).1

-- if rows are cleaned, they are cleaned late enough
pub late : (path : List ℕ) (times : Times) → clean_findings path times ≡ [] → times.clean_inactive ≢ 0 → times.ignore_older + times.check_interval < times.clean_inactive
unfolding clean_findings
late path times h some = elim (and_cases _ _ (not_passed (is_too_soon times) (CleanTooSoon path) h)) [
  | inl none ↦ absurd (some (eqb-true times.clean_inactive 0 (not-false _ none)))
  | inr above ↦ leb-false times.clean_inactive (times.ignore_older + times.check_interval) above
]
