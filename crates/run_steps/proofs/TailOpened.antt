-- A tail that a run opened and asked for its key: what it tells of its file, and what was told of the file before its harvester looked.
use Rattle.std.proofs.Common.{◌≡◌, ℕ, zero, suc, ◌+◌, ◌-◌, List, [], ◌∷◌, length, Option, Some, None, IfSome, IsNone, Result, Ok, Err, append-nil, refl, sym, ap, subst, ◌∙◌}
use Rattle.std.specs.Prelude.{slice_get}
use Rattle.std.specs.List.{AllByRecursion}
use Rattle.accounts.specs.Opened.{IsTailOf, Opened as OpenedFile}
use Rattle.accounts.specs.ToldFile.{IsToldFile}
use Rattle.accounts.specs.Turned.{Turned}
use Rattle.accounts.specs.Watch.{Watch}
use Rattle.accounts.proofs.Onward.{history_opened}
use Rattle.event_tree.specs.declared.input_rule.IdentityRule.{IdentityRule}
use Rattle.event_tree.specs.declared.input_rule.IdentityRule.TheVariants.{Fingerprint, Native, Path}
use Rattle.event_tree.specs.declared.input_rule.InputRule.{InputRule}
use Rattle.event_tree.specs.declared.processor_rule.ProcessorRule.{ProcessorRule}
use Rattle.event_tree.specs.declared.settings.Settings.{Settings}
use Rattle.file_identity.specs.Answers.{IsAsked, IsGiven, with_numbers}
use Rattle.file_identity.specs.AskedAgain.{IsRead}
use Rattle.file_identity.specs.Asking.{ArePartReads, AreReads, IsPartOfAsking, ReadsOn}
use Rattle.file_identity.specs.declared.identity.Identity.{Identity}
use Rattle.file_identity.specs.declared.identity.Identity.TheVariants.{Key, TooSmall}
use Rattle.file_identity.specs.declared.identity_error.IdentityError.{IdentityError}
use Rattle.file_identity.specs.declared.identity_error.IdentityError.TheVariants.{NoMemory, NoNative, ReadFault}
use Rattle.file_looks.specs.Looks.{TellsLooks}
use Rattle.harvester.specs.HasTold.{looks_so_far}
use Rattle.harvester.specs.History as history
use Rattle.harvester.specs.Looked.{AreLookedAt}
use Rattle.harvester.specs.Standing.{EndsAt}
use Rattle.harvester.proofs.HasToldGiven.{looked_at_opening}
use Rattle.outside.specs.Files.{File, sight_of}
use Rattle.outside.specs.Folders.{FolderHistory, Opened, TellsOpening, with_event}
use Rattle.outside.specs.Tails.{TailHistory}
use Rattle.outside.specs.declared.history.Look.{Look}
use Rattle.outside.specs.declared.history.Question.{Question}
use Rattle.outside.specs.declared.history.Question.TheVariants.{Length, ReadAt}
use Rattle.outside.specs.declared.history.Shown.{Shown}
use Rattle.outside.specs.declared.history.Sight.{Sight}
use Rattle.rounds.specs.Words.{TailWords}
use Rattle.wire_base.specs.declared.note.Begin.{Begin}
use Rattle.run_steps.specs.Beginning.{AsksKey, ListedFile}
use Rattle.accounts.proofs.Askings.{asking_reads}
use Rattle.file_identity.proofs.CutAskings.{cut_askings_read}

-- ---- an asking only reads

abbrev pub OnlyRead : List Look → Type 0
OnlyRead looks = AllByRecursion (λ (look : Look). IsRead look.question) looks

-- the first look, and what follows it
read_on : (place wanted : ℕ) (Later : ℕ → ℕ → Type 0) (NoLater : Type 0) (looks : List Look) → ((next left : ℕ) → Later next left → OnlyRead looks) → (NoLater → OnlyRead looks) →
    (question : Question) → ReadsOn place wanted Later NoLater question → IsRead question × OnlyRead looks
read_on place wanted Later NoLater looks later none Length reads = absurd reads
read_on place wanted Later NoLater looks later none (ReadAt at zero) reads = (tt, none reads.1)
read_on place wanted Later NoLater looks later none (ReadAt at (suc more)) reads = (tt, later (place + suc more) (wanted - suc more) reads.2)

nothing_read : (looks : List Look) → looks ≡ [] → OnlyRead looks
nothing_read looks is = subst OnlyRead (sym is) tt

reads_only : (looks : List Look) (place wanted : ℕ) → AreReads looks place wanted → OnlyRead looks
reads_only [] place wanted are = tt
reads_only (look ∷ looks) place wanted are =
    read_on place wanted (λ next left. AreReads looks next left) (looks ≡ []) looks (λ next left. reads_only looks next left) (nothing_read looks) look.question are.1

part_reads_only : (looks : List Look) (place wanted : ℕ) → ArePartReads looks place wanted → OnlyRead looks
part_reads_only [] place wanted are = tt
part_reads_only (look ∷ looks) place wanted are =
    read_on place wanted (λ next left. ArePartReads looks next left) (looks ≡ []) looks (λ next left. part_reads_only looks next left) (nothing_read looks) look.question are.1

part_only_reads : (rule : IdentityRule) (looks : List Look) → IsPartOfAsking rule looks → OnlyRead looks
part_only_reads (Fingerprint offset count) looks is = part_reads_only looks offset count is
part_only_reads Native looks is = nothing_read looks is
part_only_reads Path looks is = nothing_read looks is

-- whatever it gave
pub given_only_reads : (id : List ℕ) (rule : IdentityRule) (path : List ℕ) (file : File) (looks : List Look) (result : Result Identity IdentityError) → IsGiven id rule path file looks result → OnlyRead looks
given_only_reads id rule path file looks (Ok (Key key)) gave = asking_reads rule looks gave.0
given_only_reads id rule path file looks (Ok (TooSmall place)) gave = asking_reads rule looks gave.0
given_only_reads id rule path file looks (Err ReadFault) gave =
    cut_askings_read rule looks (record { askings = looks ∷ []; together = sym (append-nil looks); each = (gave, tt) })
given_only_reads id rule path file looks (Err NoNative) gave = part_only_reads rule looks gave
given_only_reads id rule path file looks (Err NoMemory) gave = part_only_reads rule looks gave

-- in the folder's list, where it tells
pub record IsShownBy (before : FolderHistory) (one : OpenedFile) (told : Option TailHistory) (after : Option FolderHistory) : Type 0 where
  pub after_is : after ≡ Some (with_event before (Opened one.begin.path one.number one.begun))
  pub opening : one.opening ≡ length before.events
  pub file_is : slice_get before.files one.number ≡ Some one.file
  pub told_is : told ≡ Some (record { opening = one.opening; number = one.number; file = one.file; begun = one.begun; looks = one.asked })

abbrev pub IsShown : Option FolderHistory → OpenedFile → Option TailHistory → Option FolderHistory → Type 0
IsShown None one told after = (after ≡ None) × (told ≡ None)
IsShown (Some before) one told after = IsShownBy before one told after

none_is : {A : Type 0} (o : Option A) → IsNone o → o ≡ None
none_is None none = refl
none_is (Some x) none = cc

module _ {T : Type 0} (tails : TailWords T) (settings : Settings) (file : ListedFile) (fresh tail : T) (result : Result Identity IdentityError) (asks : AsksKey tails settings file fresh tail result) where
  -- where it tells, its looks gave this
  abbrev GaveSo : OpenedFile → Option TailHistory → Type 0
  GaveSo one told = IfSome told (λ telling. IsGiven asks.rule.id asks.rule.file_identity file.listed.path one.file one.asked result)

  pub record HasTail (begin : Begin) (rule : InputRule) (before after : Option FolderHistory) : Type 0 where
    pub one : OpenedFile
    pub begin_is : one.begin ≡ begin
    pub rule_is : one.rule ≡ rule
    pub looks_are : looks_so_far (tails.told tail) ≡ one.asked
    pub reads : OnlyRead one.asked
    pub tail_is : IfSome (tails.told tail) (IsTailOf one)
    pub tells : IfSome (tails.told tail) TellsLooks
    pub numbers_are : IfSome (tails.told tail) (λ told. tails.numbers tail ≡ one.file.numbers)
    pub gave : GaveSo one (tails.told tail)
    pub shown : IsShown before one (tails.told tail) after

  module _ (begin : Begin) (rule : InputRule) (states : List Sight) (present : List Shown) where
    abbrev opened_as : ℕ → ℕ → Sight → File → List Look → OpenedFile
    opened_as opening number begun of asked = record { begin = begin; rule = rule; opening = opening; number = number; begun = begun; file = of; asked = asked }

    abbrev untold_one : OpenedFile
    untold_one = opened_as 0 0 (record { life = 0; length = 0 }) (record { numbers = None; lives = [] }) []

    untold : (before after : Option FolderHistory) → tails.told tail ≡ None → IsShown before untold_one (tails.told tail) after → HasTail begin rule before after
    untold before after none shown = record {
      one = untold_one;
      begin_is = refl;
      rule_is = refl;
      looks_are = ap looks_so_far none;
      reads = tt;
      tail_is = subst (λ (o : Option TailHistory). IfSome o (IsTailOf untold_one)) (sym none) tt;
      tells = subst (λ (o : Option TailHistory). IfSome o TellsLooks) (sym none) tt;
      numbers_are = subst (λ (o : Option TailHistory). IfSome o (λ told. tails.numbers tail ≡ None)) (sym none) tt;
      gave = subst (GaveSo untold_one) (sym none) tt;
      shown = shown;
    }

    -- the tail told its opening, and then the looks of the asking
    told_so : (before : FolderHistory) (after : Option FolderHistory) (number : ℕ) (begun : Sight) (of : File) → slice_get before.files number ≡ Some of →
        tails.numbers fresh ≡ of.numbers → after ≡ Some (with_event before (Opened begin.path number begun)) →
        IsAsked asks.rule.id asks.rule.file_identity file.listed.path (tails.numbers fresh)
        (record { opening = length before.events; number = number; file = of; begun = begun; looks = [] }) result (tails.told tail) → HasTail begin rule (Some before) after
    told_so before after number begun of file_is numbers kept asked =
        let one = opened_as (length before.events) number begun of asked.looks in
        let telling : TailHistory = record { opening = length before.events; number = number; file = of; begun = begun; looks = asked.looks } in
        let is : tails.told tail ≡ Some telling = asked.added.kept in
        let gave : IsGiven asks.rule.id asks.rule.file_identity file.listed.path of asked.looks result =
        subst (λ (n : Option (ℕ × ℕ)). IsGiven asks.rule.id asks.rule.file_identity file.listed.path (with_numbers n of) asked.looks result) numbers asked.gave in
        record {
          one = one;
          begin_is = refl;
          rule_is = refl;
          looks_are = ap looks_so_far is;
          reads = given_only_reads asks.rule.id asks.rule.file_identity file.listed.path of asked.looks result gave;
          tail_is = subst (λ (o : Option TailHistory). IfSome o (IsTailOf one)) (sym is) (record { opening = refl; number = refl; begun = refl; file = refl });
          tells = subst (λ (o : Option TailHistory). IfSome o TellsLooks) (sym is) asked.added.shown;
          numbers_are = subst (λ (o : Option TailHistory). IfSome o (λ told. tails.numbers tail ≡ of.numbers)) (sym is) (asks.numbers_kept ∙ numbers);
          gave = subst (GaveSo one) (sym is) gave;
          shown = record { after_is = kept; opening = refl; file_is = file_is; told_is = is };
        }

    pub has_tail : (before after : Option FolderHistory) → TellsOpening tails.told tails.numbers before states present begin.path (Ok (Some fresh)) after → HasTail begin rule before after
    has_tail None after opens =
        let none = none_is (tails.told tail) (asks.untold (subst (λ (o : Option TailHistory). IsNone o) (sym opens.1) refl)) in
        untold None after none (opens.0, none)
    has_tail (Some before) after opens =
        told_so before after opens.one.file (sight_of opens.one) opens.file opens.file_is opens.numbers opens.kept
        (subst (λ (o : Option TailHistory). IfSome o (λ telling. IsAsked asks.rule.id asks.rule.file_identity file.listed.path (tails.numbers fresh) telling result (tails.told tail))) opens.begins asks.told)

-- ---- before its first look

abbrev pub opened_now : List ProcessorRule → OpenedFile → ℕ → Turned
opened_now processors one now = record { slot = one.begin.slot; history = history.opened one.rule processors one.begin one.asked now }

module _ (watch : Watch) (one : OpenedFile) (moments : List ℕ) (now : ℕ) (ends : EndsAt moments now) where
  -- of a tail that was closed before its harvester read it
  pub told_unread : (told : Option TailHistory) → looks_so_far told ≡ one.asked → IfSome told (IsTailOf one) → IfSome told TellsLooks → IsToldFile watch one moments (opened_now watch.processors one now) told
  told_unread told are tail tells = record {
    slot = refl;
    history = history_opened watch one moments now ends;
    epochs = ((λ life has. record { partition = tt; fates = tt }), tt);
    looked = subst (λ (l : List Look). AreLookedAt one.file.numbers (history.opened one.rule watch.processors one.begin l now) told) are
        (looked_at_opening one.file.numbers one.rule watch.processors one.begin now told);
    tail = tail;
    tells = tells;
  }
