use Rattle.std.proofs.Common.{[], None}
use Rattle.file_looks.proofs.Going.{end_look_had_read, end_look_stays, had_read_all, place_stays, read_stays}
use Rattle.file_looks.proofs.laws.findings_stay.Goals as goal

pub returns-clause-end_look : goal.returns-clause-end_look
returns-clause-end_look c = end_look_stays

pub returns-clause-place : goal.returns-clause-place
returns-clause-place c = place_stays

pub returns-clause-bytes : goal.returns-clause-bytes
returns-clause-bytes c = λ file before now on. let stays = read_stays file before now on in (stays.later, stays.bytes)

pub returns-clause-onward : goal.returns-clause-onward
returns-clause-onward c = λ before now on. (read_stays (record { numbers = None; lives = [] }) before now on).onward

pub returns-clause-read_there : goal.returns-clause-read_there
returns-clause-read_there c = end_look_had_read

pub returns-clause-read_all : goal.returns-clause-read_all
returns-clause-read_all c = had_read_all
