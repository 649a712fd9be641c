-- A tail that followed a slot's file, by what it reported: it kept the file's key as far as it is said to have, and its looks read its epochs so.
use Rattle.std.proofs.Common.{ℕ, List, [], ◌∷◌, ◌++◌, Some, sym, subst}
use Rattle.file_identity.specs.AskedAgain.{GivesKey}
use Rattle.file_looks.specs.Looks.{AreLooks}
use Rattle.harvester.specs.History.{History}
use Rattle.kept_rows.specs.Run.{Run}
use Rattle.kept_rows.specs.Trace.{IsTail}
use Rattle.outside.specs.Files.{File}
use Rattle.outside.specs.Tails.{TailHistory}
use Rattle.outside.specs.declared.history.Look.{Look}
use Rattle.outside.specs.declared.history.Sight.{Sight}
use Rattle.accounts.specs.Opened.{Opened}
use Rattle.accounts.specs.Parted.{kept_looks, lost_looks}
use Rattle.accounts.specs.ToldFile.{IsToldFile}
use Rattle.accounts.specs.Turned.{Turned}
use Rattle.accounts.specs.Watch.{Watch}
use Rattle.accounts.proofs.JoinedFile.{joined_opened, joined_turned, told_joined}
use Rattle.accounts.proofs.Parting.{parts_together}
use Rattle.accounts.proofs.Segmented.{IsReadSo, read_so}

-- ---- looks

looks_before : (file : File) (before : Sight) (xs ys : List Look) → AreLooks file before (xs ++ ys) → AreLooks file before xs
looks_before file before [] ys are = tt
looks_before file before (look ∷ xs) ys are = (are.0, looks_before file look.sight xs ys are.1)

-- those of a file that kept its key are looks at it
pub kept_are_looks : (h : History) (file : File) (before : Sight) (looks : List Look) → AreLooks file before looks → AreLooks file before (kept_looks h looks)
kept_are_looks h file before looks are = looks_before file before (kept_looks h looks) (lost_looks h looks) (subst (AreLooks file before) (sym (parts_together h looks)) are)

-- its tail reports both parts
pub tells_both : (run : Run) (opened : Opened) (h : History) (looks : List Look) → IsTail run.trace opened.opening opened.begin.path opened.number looks →
    IsTail run.trace opened.opening opened.begin.path opened.number (kept_looks h looks ++ lost_looks h looks)
tells_both run opened h looks tail = subst (IsTail run.trace opened.opening opened.begin.path opened.number) (sym (parts_together h looks)) tail

-- ---- by which of its looks its epochs were read

pub file_is_read : (watch : Watch) (opened : Opened) (moments : List ℕ) (turned : Turned) (told : TailHistory) →
    GivesKey opened.rule opened.begin.key opened.begin.path opened.file opened.asked → IsToldFile watch opened moments turned (Some told) →
    IsReadSo (joined_turned turned).history (joined_opened opened) told.looks
file_is_read watch opened moments turned told gave is =
    let joined = told_joined watch opened moments turned told gave.asking is in
    read_so (joined_turned turned).history (joined_opened opened) told joined.tail.file joined.history.begin joined.history.rule joined.looked joined.history.asked_before opened.asked gave
