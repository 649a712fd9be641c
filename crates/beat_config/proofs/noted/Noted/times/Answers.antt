use Rattle.toml.specs.View.{table_view}
use Rattle.beat_config.specs.Times.{times_findings}
use Rattle.beat_config.proofs.Chain.{then}
use Rattle.beat_config.proofs.RangesOfTimes.{sum_fits, times_are, retimed}
use Rattle.beat_config.proofs.noted.Noted.times.Goals as goal

pub check_clean-requires : goal.check_clean-requires
check_clean-requires c = sum_fits (table_view c.args.table.now) c.in_ok-ignore_older.ignore_older c.in_ok-check_interval.check_interval c.in_ok-ignore_older.ensures.value c.in_ok-check_interval.ensures.value

pub returns-clause-value : goal.returns-clause-value
returns-clause-value c = times_are (table_view c.args.table.now) _ c.in_ok-check_interval.ensures.value c.in_ok-close_inactive.ensures.value c.in_ok-ignore_older.ensures.value c.in_ok-clean_inactive.ensures.value

pub returns-clause-findings : goal.returns-clause-findings
unfolding times_findings
returns-clause-findings c =
    let same = times_are (table_view c.args.table.now) _ c.in_ok-check_interval.ensures.value c.in_ok-close_inactive.ensures.value c.in_ok-ignore_older.ensures.value c.in_ok-clean_inactive.ensures.value in
    then _ _ _ _ _ c.in_ok-check_interval.ensures.findings (then _ _ _ _ _ c.in_ok-close_inactive.ensures.findings
    (then _ _ _ _ _ c.in_ok-ignore_older.ensures.findings (then _ _ _ _ _ c.in_ok-clean_inactive.ensures.findings
    (retimed _ _ c.args.path.now _ _ same c.in_ok-check_clean.ensures))))
