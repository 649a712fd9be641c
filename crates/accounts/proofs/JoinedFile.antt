-- A file whose tail was asked for its key before its harvester had it, as one of whose tail all looks are the harvester's own: what was reported
-- of it is the same.
use Rattle.std.proofs.Common.{ℕ, List, [], Some, refl, sym, subst}
use Rattle.file_identity.specs.Asking.{IsAsking}
use Rattle.outside.specs.Tails.{TailHistory}
use Rattle.accounts.specs.Opened.{Opened}
use Rattle.accounts.specs.ToldFile.{IsToldFile}
use Rattle.accounts.specs.Turned.{Turned}
use Rattle.accounts.specs.Watch.{Name, Watch}
use Rattle.accounts.proofs.Askings.{OnlyRead, asking_reads}
use Rattle.accounts.proofs.Joined.{joined}

abbrev pub joined_opened : Opened → Opened
joined_opened opened = record opened { asked = [] }

abbrev pub joined_turned : Turned → Turned
joined_turned turned = record turned { history = record turned.history { before = [] } }

-- what scans reported of the one they reported of the other
abbrev pub joined_watch : Watch → Opened → Watch
joined_watch watch opened = record watch { removed = λ (joined : Opened). watch.removed opened; renamed = λ (joined : Opened) (name : Name). watch.renamed opened name }

pub told_joined : (watch : Watch) (opened : Opened) (moments : List ℕ) (turned : Turned) (told : TailHistory) → IsAsking opened.rule.file_identity opened.asked →
    IsToldFile watch opened moments turned (Some told) → IsToldFile (joined_watch watch opened) (joined_opened opened) moments (joined_turned turned) (Some told)
told_joined watch opened moments turned told asking is = record {
  slot = is.slot;
  history = record {
    rule = is.history.rule;
    processors_are = is.history.processors_are;
    begin = is.history.begin;
    asked_before = refl;
    names = is.history.names;
    rise = is.history.rise;
    renamed = is.history.renamed;
    path = is.history.path;
    ends = is.history.ends;
    may_end = is.history.may_end;
    not_forgotten = is.history.not_forgotten;
    epochs = is.history.epochs;
    at = is.history.at;
    told = is.history.told;
  };
  epochs = is.epochs;
  looked = joined opened.file.numbers turned.history told
      (subst OnlyRead (sym is.history.asked_before) (asking_reads opened.rule.file_identity opened.asked asking)) is.looked;
  tail = record { opening = is.tail.opening; number = is.tail.number; begun = is.tail.begun; file = is.tail.file };
  tells = is.tells;
}
