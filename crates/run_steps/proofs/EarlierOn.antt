-- The openings that came before the last ones, as the run goes on: they stay as they were closed.
use Rattle.std.proofs.Common.{◌≡◌, ℕ, List, [], ◌++◌, Option, refl, ◌∙◌}
use Rattle.accounts.specs.Opened.{Opened}
use Rattle.accounts.specs.Watch.{MayFindEnd, Name, Watch}
use Rattle.accounts.proofs.Lists.{each_then}
use Rattle.accounts.proofs.Onward.{told_by_other, told_later}
use Rattle.outside.specs.Folders.{FolderHistory}
use Rattle.run_steps.specs.Earlier.{AreEarlier, IsEarlierSo}
use Rattle.run_steps.specs.SoFar.{Earlier, SoFar}

-- of a run that opened none again
pub none_earlier : (watch : Watch) (shown : Option FolderHistory) (opened : List Opened) (moments : List ℕ) → AreEarlier watch shown opened moments []
none_earlier watch shown opened moments =
    record { none_with_once = λ once. refl; each = tt; in_turn = tt; keyed = λ some. tt; tell = λ some. tt }

-- with none, and with no file forgotten, whatever there was
abbrev pub opened_once : SoFar → SoFar
opened_once so_far = record so_far { earlier = []; forgotten = [] }

-- at later moments
pub earlier_later : (watch : Watch) (shown : Option FolderHistory) (opened : List Opened) (moments more : List ℕ) (earlier : List Earlier) →
    AreEarlier watch shown opened moments earlier → AreEarlier watch shown opened (moments ++ more) earlier
earlier_later watch shown opened moments more earlier are = record {
  none_with_once = are.none_with_once;
  each = each_then (IsEarlierSo watch opened moments) (IsEarlierSo watch opened (moments ++ more)) earlier
      (λ one so. record {
        goes_on = so.goes_on;
        last = so.last;
        among = so.among;
        of_one = so.of_one;
        ends = so.ends;
        is_told = told_later watch one.opened moments more one.left.turned one.left.told so.is_told;
        in_epochs = so.in_epochs;
        may = so.may;
      }) are.each;
  in_turn = are.in_turn;
  keyed = are.keyed;
  tell = are.tell;
}

-- after further scans
pub earlier_watched : (watch other : Watch) (shown : Option FolderHistory) (opened : List Opened) (moments : List ℕ) (earlier : List Earlier) → watch.processors ≡ other.processors →
    watch.once ≡ other.once → ((one : Opened) (name : Name) → watch.renamed one name → other.renamed one name) → ((one : Opened) → MayFindEnd watch one → MayFindEnd other one) →
    AreEarlier watch shown opened moments earlier → AreEarlier other shown opened moments earlier
earlier_watched watch other shown opened moments earlier same once renamed may are = record {
  none_with_once = λ read_once. are.none_with_once (once ∙ read_once);
  each = each_then (IsEarlierSo watch opened moments) (IsEarlierSo other opened moments) earlier
      (λ one so. record {
        goes_on = so.goes_on;
        last = so.last;
        among = so.among;
        of_one = so.of_one;
        ends = so.ends;
        is_told = told_by_other watch other one.opened moments one.left.turned one.left.told same (renamed one.opened) (may one.opened) so.is_told;
        in_epochs = so.in_epochs;
        may = so.may;
      }) are.each;
  in_turn = are.in_turn;
  keyed = are.keyed;
  tell = are.tell;
}
