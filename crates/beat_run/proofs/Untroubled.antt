-- A run that nothing troubles is done, once its report or its status line is printed.
use Rattle.std.proofs.Common.{◌≡◌, ℕ, List, [], ◌∷◌, length, map, take, Option, Some, IfSome, refl, sym, ap, subst, ◌∙◌}
use Rattle.std.proofs.lemmas.List.{length-map}
use Rattle.batch_worker.specs.Seen.{Seen}
use Rattle.beat_config.specs.Document.{IsFirstFault}
use Rattle.beat_config.specs.declared.settings_error.SettingsError.{SettingsError}
use Rattle.command_line.specs.Words.{IsNoCommand}
use Rattle.outside.specs.Wires.{Outcome}
use Rattle.report.specs.declared.status.Lack.{Lack}
use Rattle.report.specs.declared.status.Status.{Status}
use Rattle.report.specs.declared.status.Status.TheVariants.{RegistryBad, Settings, Unbuilt, Usage}
use Rattle.rounds.specs.Making.{all_seen}
use Rattle.rounds.specs.Words.{DiskWords, WireWords}
use Rattle.run_steps.specs.Registry.{AreRefusedAt}
use Rattle.run_steps.proofs.RunRows.{OneChoice}
use Rattle.wire_base.specs.declared.limits.Which.{Which}
use Rattle.beat_run.specs.Accounted.{IsAccountedWhereTold, RunLent}
use Rattle.beat_run.specs.Asked.{IsAsked}
use Rattle.beat_run.specs.Cause.{AllSigns, Cause}
use Rattle.beat_run.specs.Completeness.{GivenRun, IsUntroubled, IsUntroubledEnd}
use Rattle.beat_run.specs.Ends.{IsPrintingEnd, IsReportEnd}
use Rattle.beat_run.specs.Printed.{StandsBehind}
use Rattle.beat_run.specs.declared.settings.TheConstants.{LIMIT}
use Rattle.beat_run.proofs.Complete.{ShownRun, ends_untroubled, objects_by}
use Rattle.beat_run.proofs.Endings.{report_cases}

-- with a report
pub report_untroubled : {D : Type 0} (disks : DiskWords D) (given : GivenRun D) (before now : AllSigns) → IsUntroubled disks given before now → (sink sink_now : ℕ) (ended status : Status) → IsReportEnd ended →
    IsPrintingEnd sink sink_now ended status → Cause given.source before now status → IsUntroubledEnd status
report_untroubled disks given before now untroubled sink sink_now ended status report ends cause =
    report_cases sink sink_now (λ s. Cause given.source before now s → IsUntroubledEnd s)
    (λ done. tt) (λ rang. absurd (untroubled.counts.rings rang)) (λ rose failed. absurd (untroubled.counts.sink failed)) ended status report ends cause

-- with a status line alone
outcomes_of_all : {W : Type 0} (wires : WireWords W) (items : List W) → map wires.outcomes items ≡ map (λ (wire : Seen). wire.outcomes) (all_seen wires items)
outcomes_of_all wires [] = refl
outcomes_of_all wires (wire ∷ items) = ap (λ (l : List (Option (List Outcome))). wires.outcomes wire ∷ l) (outcomes_of_all wires items)

module _ {F W D : Type 0} (disks : DiskWords D) (wires : WireWords W) where
  pub line_untroubled : (given : GivenRun D) (before now : AllSigns) → IsUntroubled disks given before now → (olds news : List W) (lent : RunLent F W D) (a b : D) (written printed : Option (List ℕ)) (status : Status) →
      before.signs.wires ≡ all_seen wires olds → now.signs.wires ≡ all_seen wires news → length olds ≡ 16 → length news ≡ length olds → OneChoice →
      (status ≡ Usage → IsNoCommand given.words) → ((lack : Lack) → status ≡ Unbuilt lack → IsAsked given.words given.source lack) →
      ((fault : SettingsError) → status ≡ Settings fault → IfSome given.source (λ bytes. IsFirstFault (take LIMIT bytes) fault)) →
      ((first second : List ℕ) (area : Which) (at : ℕ) → disks.contents given.a ≡ Some first → disks.contents given.b ≡ Some second → status ≡ RegistryBad area at → AreRefusedAt first second area at) →
      Cause given.source before now status →
      IsAccountedWhereTold disks given.source lent (record {
        before = record { folder = before.signs.folder; moments = before.signs.moments; questions = before.signs.questions; outcomes = map wires.outcomes olds; a = given.a; b = given.b };
        after = record { folder = now.signs.folder; moments = now.signs.moments; questions = now.signs.questions; outcomes = map wires.outcomes news; a = a; b = b };
      }) status (StandsBehind written printed) →
      IsUntroubledEnd status
  line_untroubled given before now untroubled olds news lent a b written printed status before_is now_is sixteen as_many one usage unbuilt settings registry cause accounted =
      let run : ShownRun F W D = record { given = given; lent = lent; a = a; b = b; before = before; now = now; written = written; printed = printed } in
      let earlier = outcomes_of_all wires olds ∙ ap (λ (l : List Seen). map (λ (wire : Seen). wire.outcomes) l) (sym before_is) in
      let later = outcomes_of_all wires news ∙ ap (λ (l : List Seen). map (λ (wire : Seen). wire.outcomes) l) (sym now_is) in
      let by_first = subst (λ (o : List (Option (List Outcome))). IsAccountedWhereTold disks given.source lent (record {
        before = record { folder = before.signs.folder; moments = before.signs.moments; questions = before.signs.questions; outcomes = o; a = given.a; b = given.b };
        after = record { folder = now.signs.folder; moments = now.signs.moments; questions = now.signs.questions; outcomes = map wires.outcomes news; a = a; b = b };
      }) status (StandsBehind written printed)) earlier accounted in
      ends_untroubled disks run one untroubled status (record {
        usage = usage;
        unbuilt = unbuilt;
        settings = settings;
        registry = registry;
        cause = cause;
        accounted = subst (λ (o : List (Option (List Outcome))). IsAccountedWhereTold disks given.source lent (record {
          before = objects_by given.a given.b before.signs;
          after = record { folder = now.signs.folder; moments = now.signs.moments; questions = now.signs.questions; outcomes = o; a = a; b = b };
        }) status (StandsBehind written printed)) later by_first;
        sixteen = ap (λ (l : List Seen). length l) before_is ∙ length-map olds _ ∙ sixteen;
        as_many = ap (λ (l : List Seen). length l) now_is ∙ length-map news _ ∙ as_many ∙ sym (length-map olds _) ∙ ap (λ (l : List Seen). length l) (sym before_is);
      })
