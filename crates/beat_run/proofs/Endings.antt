-- What is so of a status that was printed in another's place.
use Rattle.std.proofs.Common.{◌≡◌, ◌⊎◌, ◌∙◌, inl, inr, ℕ, Option, Some, None, Result, Ok, Err, IfSome, ap, sym, subst}
use Rattle.outside.specs.Counts.{Rose}
use Rattle.report.specs.declared.status.Status.{Status}
use Rattle.report.specs.declared.status.Status.TheVariants.{Done, Stopped, Usage, Settings as SettingsFault, RegistryBad, DiskFault, FolderFault, Unreachable, OutFault, SourceFault, TooMany, NoNative, NoMemory, Unbuilt}
use Rattle.beat_run.specs.Ends.{IsBehindOpening, IsPrintingEnd, IsRefusal, IsReportEnd, IsUnprepared}

-- ---- the report

-- what is so of each status that may be told of a run with a report
pub report_cases : (before now : ℕ) (P : Status → Type 0) → P Done → P Stopped → (Rose before now → P OutFault) →
    (ended status : Status) → IsReportEnd ended → IsPrintingEnd before now ended status → P status
report_cases before now P done stopped out ended Done report is = done
report_cases before now P done stopped out ended Stopped report is = stopped
report_cases before now P done stopped out ended Usage report is = absurd (subst IsReportEnd (sym is) report)
report_cases before now P done stopped out ended (SettingsFault fault) report is = absurd (subst IsReportEnd (sym is) report)
report_cases before now P done stopped out ended (RegistryBad area at) report is = absurd (subst IsReportEnd (sym is) report)
report_cases before now P done stopped out ended DiskFault report is = absurd (subst IsReportEnd (sym is) report)
report_cases before now P done stopped out ended FolderFault report is = absurd (subst IsReportEnd (sym is) report)
report_cases before now P done stopped out ended (Unreachable worker failures) report is = absurd (subst IsReportEnd (sym is) report)
report_cases before now P done stopped out ended OutFault report rose = out rose
report_cases before now P done stopped out ended SourceFault report is = absurd (subst IsReportEnd (sym is) report)
report_cases before now P done stopped out ended (TooMany what path) report is = absurd (subst IsReportEnd (sym is) report)
report_cases before now P done stopped out ended (NoNative path) report is = absurd (subst IsReportEnd (sym is) report)
report_cases before now P done stopped out ended NoMemory report is = absurd (subst IsReportEnd (sym is) report)
report_cases before now P done stopped out ended (Unbuilt what) report is = absurd (subst IsReportEnd (sym is) report)

-- it was not refused, whatever became of its report
pub not_refused_printing : (before now : ℕ) (P : Type 0) (ended status : Status) → IsReportEnd ended → IsPrintingEnd before now ended status → IsRefusal status → P
not_refused_printing before now P ended status report ends =
    report_cases before now (λ s. IsRefusal s → P) (λ refused. absurd refused) (λ refused. absurd refused) (λ rose refused. absurd refused) ended status report ends

pub not_unprepared_printing : (before now : ℕ) (P : Type 0) (ended status : Status) → IsReportEnd ended → IsPrintingEnd before now ended status → IsUnprepared status → P
not_unprepared_printing before now P ended status report ends =
    report_cases before now (λ s. IsUnprepared s → P) (λ refused. absurd refused) (λ refused. absurd refused) (λ rose refused. absurd refused) ended status report ends

-- ---- the status line alone

-- a status that is no fault of the sink was met as it was printed
pub was_met : (faulted : Type 0) (status printed other : Status) → ((printed ≡ status) ⊎ ((printed ≡ OutFault) × faulted)) → (OutFault ≡ other → ⊥) → printed ≡ other → status ≡ other
was_met faulted status printed other (inl same) never is = sym same ∙ is
was_met faulted status printed other (inr out) never is = absurd (never (sym out.0 ∙ is))

-- what is so of the status, and of a fault of the sink, is so of what was printed
pub printed_so : (faulted : Type 0) (status printed : Status) (P : Status → Type 0) → ((printed ≡ status) ⊎ ((printed ≡ OutFault) × faulted)) → P status → P OutFault → P printed
printed_so faulted status printed P (inl same) is out = subst P (sym same) is
printed_so faulted status printed P (inr other) is out = subst P (sym other.0) out

-- the same of what stands where the run followed its files, or was refused
pub followed_still : (faulted : Type 0) (status printed : Status) (P : Type 0) → ((printed ≡ status) ⊎ ((printed ≡ OutFault) × faulted)) → (IsBehindOpening status → P) → IsBehindOpening printed → P
followed_still faulted status printed P met holds = printed_so faulted status printed (λ s. IsBehindOpening s → P) met holds (λ followed. absurd followed)

pub refused_still : (faulted : Type 0) (status printed : Status) (P : Type 0) → ((printed ≡ status) ⊎ ((printed ≡ OutFault) × faulted)) → (IsRefusal status → P) → IsRefusal printed → P
refused_still faulted status printed P met holds = printed_so faulted status printed (λ s. IsRefusal s → P) met holds (λ refused. absurd refused)

pub unprepared_still : (faulted : Type 0) (status printed : Status) (P : Type 0) → ((printed ≡ status) ⊎ ((printed ≡ OutFault) × faulted)) → (IsUnprepared status → P) → IsUnprepared printed → P
unprepared_still faulted status printed P met holds = printed_so faulted status printed (λ s. IsUnprepared s → P) met holds (λ refused. absurd refused)

-- ---- of what is told

pub told_printed : {A : Type 0} (told : Option A) (Q : A → Type 0) (faulted : Type 0) (status printed : Status) (P : Status → Type 0) → ((printed ≡ status) ⊎ ((printed ≡ OutFault) × faulted)) →
    IfSome told (λ one. Q one → P status) → P OutFault → IfSome told (λ one. Q one → P printed)
told_printed None Q faulted status printed P prints is out = tt
told_printed (Some one) Q faulted status printed P prints is out = λ so. printed_so faulted status printed P prints (is so) out

pub told_never : {A : Type 0} (told : Option A) (Q : A → Type 0) (P : Type 0) → IfSome told (λ one. Q one → ⊥) → IfSome told (λ one. Q one → P)
told_never None Q P never = tt
told_never (Some one) Q P never = λ so. absurd (never so)

pub two_printed : {A : Type 0} (told : Option A) (Q R : A → Type 0) (faulted : Type 0) (status printed : Status) (P : Status → Type 0) → ((printed ≡ status) ⊎ ((printed ≡ OutFault) × faulted)) →
    IfSome told (λ one. Q one → R one → P status) → P OutFault → IfSome told (λ one. Q one → R one → P printed)
two_printed None Q R faulted status printed P prints is out = tt
two_printed (Some one) Q R faulted status printed P prints is out = λ so then. printed_so faulted status printed P prints (is so then) out

pub two_never : {A : Type 0} (told : Option A) (Q R : A → Type 0) (P : Type 0) → IfSome told (λ one. Q one → R one → ⊥) → IfSome told (λ one. Q one → R one → P)
two_never None Q R P never = tt
two_never (Some one) Q R P never = λ so then. absurd (never so then)

-- ---- errors

-- the error of one answer is that of another of the same error
error_of : {T : Type 0} → Status → Result T Status → Status
error_of other (Ok done) = other
error_of other (Err status) = status

pub same_error : {T U : Type 0} (status other : Status) → ◌≡◌ {A = Result T Status} (Err status) (Err other) → ◌≡◌ {A = Result U Status} (Err status) (Err other)
unfolding error_of
same_error {T} {U} status other is = ap (λ (s : Status). Err s) (ap (λ (r : Result T Status). error_of status r) is)
