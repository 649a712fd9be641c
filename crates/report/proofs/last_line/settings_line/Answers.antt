use Rattle.std.proofs.Common.{rules, w64}
use Rattle.std.proofs.lemmas.Int.{to_z-of_z}
use Rattle.report.proofs.last_line.settings_line.Goals as goal

pub returns-in-TooLong-clause-told : goal.returns-in-TooLong-clause-told
returns-in-TooLong-clause-told g c = rw c.in-TooLong.is c.write_all.ensures.told

pub returns-in-NotToml-clause-told : goal.returns-in-NotToml-clause-told
returns-in-NotToml-clause-told g c = rw c.in-NotToml.is c.write_all-in-NotToml.ensures.told

pub returns-in-BadText-clause-told : goal.returns-in-BadText-clause-told
returns-in-BadText-clause-told g c = rw c.in-BadText.is c.key_line-in-BadText.ensures.told

pub returns-in-OutOfRange-clause-told : goal.returns-in-OutOfRange-clause-told
returns-in-OutOfRange-clause-told g c = rw c.in-OutOfRange.is (rw (to_z-of_z w64 c.in-OutOfRange.value (search rules)) at c.range_line.ensures.told)

pub returns-in-BadPattern-clause-told : goal.returns-in-BadPattern-clause-told
returns-in-BadPattern-clause-told g c = rw c.in-BadPattern.is c.key_line-in-BadPattern.ensures.told

pub returns-in-CleanTooSoon-clause-told : goal.returns-in-CleanTooSoon-clause-told
returns-in-CleanTooSoon-clause-told g c = rw c.in-CleanTooSoon.is c.key_line-in-CleanTooSoon.ensures.told

pub returns-in-NoMemory-clause-told : goal.returns-in-NoMemory-clause-told
returns-in-NoMemory-clause-told g c = rw c.in-NoMemory.is c.write_all-in-NoMemory.ensures.told
