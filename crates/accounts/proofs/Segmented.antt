-- The segments of the looks of a file's tail, as far as the file kept its key: each epoch was read through one of them, each reads on, and
-- where one begins with a fall the file still had its key. From where the key was lost its tail lost it rightly.
use Rattle.std.proofs.Common.{◌≡◌, ◌⊎◌, inl, inr, ℕ, suc, ◌≤◌, Bool, true, false, List, [], ◌∷◌, ◌++◌, length, refl, sym, ap, subst, ◌∙◌, append-nil, append_assoc, length-append, arith}
use Rattle.std.specs.List.{AllByRecursion}
use Rattle.std.proofs.lemmas.List.{length_push}
use Rattle.event_tree.specs.declared.input_rule.IdentityRule.{IdentityRule}
use Rattle.event_tree.specs.declared.input_rule.IdentityRule.TheVariants.{Fingerprint, Native, Path}
use Rattle.event_tree.specs.declared.input_rule.InputRule.{InputRule}
use Rattle.file_identity.specs.Answers.{IsFingerprint, with_numbers}
use Rattle.file_identity.specs.AskedAgain.{GivesKey, HasOtherKey, KeepsKey, SomeAskingGives, StillHasKey}
use Rattle.file_looks.specs.EndLook.{HasEndLook}
use Rattle.file_looks.specs.Reading.{ReadOn}
use Rattle.file_looks.specs.Segment.{Segment, segments_of, steps_in}
use Rattle.harvester.specs.History.{Asks, Changed, Ended, History, Over, Reads, Stage, Telling}
use Rattle.harvester.specs.History as history
use Rattle.harvester.specs.Looked.{AreReadBy, HasFallen, IsLookedAt, IsReadBy, StandBehind}
use Rattle.kept_rows.specs.Followed.{LostItsKey}
use Rattle.kept_rows.specs.Scans.{IsNoFingerprint}
use Rattle.outside.specs.Files.{File}
use Rattle.outside.specs.Tails.{TailHistory}
use Rattle.outside.specs.declared.history.Look.{Look}
use Rattle.wire_base.specs.declared.note.Begin.{Begin}
use Rattle.slot_parts.specs.Tellings.{AreReadFirst, tellings_in}
use Rattle.accounts.specs.Accounted.{followed_tail}
use Rattle.accounts.specs.FollowedFile.{MayReopenAt}
use Rattle.accounts.specs.Opened.{Opened}
use Rattle.accounts.specs.Parted.{has_lost_key, kept_looks, loses_key_at, lost_looks}
use Rattle.accounts.proofs.Askings.{still_has_key, still_has_name}
use Rattle.accounts.proofs.Falls.{fallen, fallen_are, fallen_reads_on, segments_with_fall}
use Rattle.accounts.proofs.Parting.{all_kept, kept_before_fall, lost_from_fall, none_lost}

-- ---- the segments that read its epochs

module _ (h : History) (file : File) where
  -- as many epochs as segments that read them
  pub as_many : (tellings : List Telling) (segments : List Segment) → AreReadBy h file tellings segments → length tellings ≡ length segments
  as_many [] [] are = refl
  as_many [] (segment ∷ segments) are = absurd are
  as_many (telling ∷ tellings) [] are = absurd are
  as_many (telling ∷ tellings) (segment ∷ segments) are = ap suc (as_many tellings segments are.1)

  read_first : (past : List Telling) (present : Telling) (front : List Segment) (last : Segment) (more : List Segment) → AreReadBy h file past front → IsReadBy h file present last →
      AreReadFirst h file (past ++ present ∷ []) (front ++ last ∷ more)
  read_first [] present [] last more are is = (is, tt)
  read_first [] present (segment ∷ front) last more are is = absurd are
  read_first (telling ∷ past) present [] last more are is = absurd are
  read_first (telling ∷ past) present (segment ∷ front) last more are is = (are.0, read_first past present front last more are.1 is)

  -- what holds of each that read an epoch, and of those after them
  pub of_each : (P : Segment → Type 0) → ((telling : Telling) (segment : Segment) → IsReadBy h file telling segment → P segment) →
      (past : List Telling) (present : Telling) (front : List Segment) (last : Segment) (more : List Segment) → AreReadBy h file past front → IsReadBy h file present last →
      AllByRecursion P more → AllByRecursion P (front ++ last ∷ more)
  of_each P holds [] present [] last more are is others = (holds present last is, others)
  of_each P holds [] present (segment ∷ front) last more are is others = absurd are
  of_each P holds (telling ∷ past) present [] last more are is others = absurd are
  of_each P holds (telling ∷ past) present (segment ∷ front) last more are is others =
      (holds telling segment are.0, of_each P holds past present front last more are.1 is others)

-- of a file whose kept looks all belong to its epochs
pub record IsReadSo (h : History) (opened : Opened) (looks : List Look) : Type 0 where
  pub few : length (tellings_in h) ≤ length (segments_of opened.begin.base (kept_looks h looks))
  pub first : AreReadFirst h opened.file (tellings_in h) (segments_of opened.begin.base (kept_looks h looks))
  pub on : AllByRecursion (λ (segment : Segment). ReadOn (steps_in segment)) (segments_of opened.begin.base (kept_looks h looks))
  pub kept : AllByRecursion (KeepsKey opened.rule opened.begin.key opened.begin.path opened.file) (segments_of opened.begin.base (kept_looks h looks))
  pub end : (lost_looks h looks ≡ []) ⊎ LostItsKey opened.rule opened.begin.key opened.begin.path opened.file (followed_tail opened looks h)

-- each segment of its kept looks read an epoch
pub record IsReadExactly (h : History) (opened : Opened) (looks : List Look) : Type 0 where
  pub front : List Segment
  pub last : Segment
  pub segments : segments_of opened.begin.base (kept_looks h looks) ≡ front ++ last ∷ []
  pub past : AreReadBy h opened.file h.past front
  pub present : IsReadBy h opened.file h.present last
  pub end_look : h.stage ≡ Ended → HasEndLook last (history.read_to h.present)

-- its key is another one, from this fall on
pub record IsLost (h : History) (opened : Opened) (looks : List Look) : Type 0 where
  pub fall : Look
  pub later : List Look
  pub lost_are : lost_looks h looks ≡ fall ∷ later
  pub other : HasOtherKey opened.rule opened.begin.key opened.begin.path opened.file later

-- ---- by the state of the file

-- where the identity reads the file, or does not
by_reading : (identity : IdentityRule) → (loses_key_at Asks identity ≡ true) ⊎ IsNoFingerprint identity
by_reading (Fingerprint offset count) = inl refl
by_reading Native = inr tt
by_reading Path = inr tt

by_name : (identity : IdentityRule) → IsNoFingerprint identity → loses_key_at Asks identity ≡ false
by_name (Fingerprint offset count) named = absurd named
by_name Native named = refl
by_name Path named = refl

module _ (h : History) (opened : Opened) (told : TailHistory) (file_is : told.file ≡ opened.file) (begin : h.begin ≡ opened.begin) (rule_is : h.rule ≡ opened.rule)
    (looked : IsLookedAt opened.file.numbers h told) where
  abbrev told_file : File
  told_file = with_numbers opened.file.numbers told.file

  base : h.begin.base ≡ opened.begin.base
  base = ap (λ (b : Begin). b.base) begin

  file : told_file ≡ opened.file
  file = ap (with_numbers opened.file.numbers) file_is

  -- what is said by the history is said by the file as it was opened
  moved : (P : InputRule → List ℕ → List ℕ → File → Type 0) → P h.rule h.begin.key h.begin.path told_file → P opened.rule opened.begin.key opened.begin.path opened.file
  moved P x =
      subst (P opened.rule opened.begin.key opened.begin.path) file
      (subst (λ (b : Begin). P opened.rule b.key b.path told_file) begin (subst (λ (r : InputRule). P r h.begin.key h.begin.path told_file) rule_is x))

  loses_by : (stage : Stage) (identity : IdentityRule) (b : Bool) → h.stage ≡ stage → h.rule.file_identity ≡ identity → loses_key_at stage identity ≡ b → has_lost_key h ≡ b
  loses_by stage identity b is rule loses = (λ k. loses_key_at (is k) (rule k)) ∙ loses

  -- ---- where its key is another one

  pub is_lost : h.stage ≡ Changed → IsLost h opened told.looks
  is_lost changed = by_case (subst (λ (s : Stage). StandBehind h told_file s looked.beyond) changed looked.stand_behind)
    where
      by_case : StandBehind h told_file Changed looked.beyond → IsLost h opened told.looks
      by_case behind =
          let fallen_so = behind.fallen in
          let all : told.looks ≡ (h.before ++ looked.since) ++ fallen_so.fall ∷ fallen_so.later =
          looked.looks_are ∙ ap (λ (l : List Look). h.before ++ (looked.since ++ l)) fallen_so.looks_are ∙ sym (append_assoc h.before looked.since (fallen_so.fall ∷ fallen_so.later)) in
          record {
            fall = fallen_so.fall;
            later = fallen_so.later;
            lost_are = lost_from_fall h told.looks (h.before ++ looked.since) fallen_so.fall fallen_so.later (loses_by Changed h.rule.file_identity true changed refl refl)
                all fallen_so.asks fallen_so.only_reads;
            other = moved (λ rule key path f. HasOtherKey rule key path f fallen_so.later) behind.other;
          }

  -- ---- what was reported as it was asked for its key comes first

  module _ (asked : List Look) (before : h.before ≡ asked) (gave : GivesKey opened.rule opened.begin.key opened.begin.path opened.file asked) where
    abbrev Has : List Look → Type 0
    Has looks = StillHasKey opened.rule opened.begin.key opened.begin.path opened.file looks

    gave_first : (looks rest : List Look) → looks ≡ h.before ++ rest → Has looks
    gave_first looks rest are =
        subst Has (sym (are ∙ ap (λ (l : List Look). l ++ rest) before)) (still_has_key opened.rule opened.begin.key opened.begin.path opened.file asked rest gave)

    gave_all : has_lost_key h ≡ false → Has (kept_looks h told.looks)
    gave_all keeps = gave_first (kept_looks h told.looks) (looked.since ++ looked.beyond) (all_kept h told.looks keeps ∙ looked.looks_are)

    gave_before : has_lost_key h ≡ true → HasFallen h looked.beyond → Has (kept_looks h told.looks)
    gave_before loses fallen_so =
        let all : told.looks ≡ (h.before ++ looked.since) ++ fallen_so.fall ∷ fallen_so.later =
        looked.looks_are ∙ ap (λ (l : List Look). h.before ++ (looked.since ++ l)) fallen_so.looks_are ∙ sym (append_assoc h.before looked.since (fallen_so.fall ∷ fallen_so.later)) in
        gave_first (kept_looks h told.looks) looked.since
        (kept_before_fall h told.looks (h.before ++ looked.since) fallen_so.fall fallen_so.later loses all fallen_so.asks fallen_so.only_reads)

    pub opened_with_key : Has (kept_looks h told.looks)
    opened_with_key = by_stage h.stage refl looked.stand_behind
      where
        by_stage : (stage : Stage) → h.stage ≡ stage → StandBehind h told_file stage looked.beyond → Has (kept_looks h told.looks)
        by_stage Reads is behind = gave_all (loses_by Reads h.rule.file_identity false is refl refl)
        by_stage Ended is behind = gave_all (loses_by Ended h.rule.file_identity false is refl refl)
        by_stage Over is behind = gave_all (loses_by Over h.rule.file_identity false is refl refl)
        by_stage Changed is behind = gave_before (loses_by Changed h.rule.file_identity true is refl refl) behind.fallen
        by_stage Asks is behind = by_identity (by_reading h.rule.file_identity)
          where
            by_identity : (loses_key_at Asks h.rule.file_identity ≡ true) ⊎ IsNoFingerprint h.rule.file_identity → Has (kept_looks h told.looks)
            by_identity (inl loses) = gave_before (loses_by Asks h.rule.file_identity true is refl loses) behind.fallen
            by_identity (inr named) = gave_all (loses_by Asks h.rule.file_identity false is refl (by_name h.rule.file_identity named))

  -- ---- where all looks are its harvester's own

  module _ (none : h.before ≡ []) (asked : List Look) (gave : GivesKey opened.rule opened.begin.key opened.begin.path opened.file asked) where
    abbrev Keeps : Segment → Type 0
    Keeps segment = KeepsKey opened.rule opened.begin.key opened.begin.path opened.file segment

    past : AreReadBy h opened.file h.past looked.front
    past = subst (λ (f : File). AreReadBy h f h.past looked.front) file looked.past

    present : IsReadBy h opened.file h.present looked.last
    present = subst (λ (f : File). IsReadBy h f h.present looked.last) file looked.present

    looks_are : told.looks ≡ looked.since ++ looked.beyond
    looks_are = looked.looks_are ∙ ap (λ (l : List Look). l ++ (looked.since ++ looked.beyond)) none

    since_segments : segments_of opened.begin.base looked.since ≡ looked.front ++ looked.last ∷ []
    since_segments = ap (λ (n : ℕ). segments_of n looked.since) (sym base) ∙ looked.segments

    keeps_so : (telling : Telling) (segment : Segment) → IsReadBy h opened.file telling segment → Keeps segment
    keeps_so telling segment read =
        moved (λ rule key path f. KeepsKey rule key path f segment) (subst (λ (f : File). KeepsKey h.rule h.begin.key h.begin.path f segment) (sym file) read.kept_key)

    read_in : (kept : List Look) (more : List Segment) → kept_looks h told.looks ≡ kept → segments_of opened.begin.base kept ≡ looked.front ++ looked.last ∷ more →
        AllByRecursion (λ (segment : Segment). ReadOn (steps_in segment)) more → AllByRecursion Keeps more →
        (lost_looks h told.looks ≡ []) ⊎ LostItsKey opened.rule opened.begin.key opened.begin.path opened.file (followed_tail opened told.looks h) → IsReadSo h opened told.looks
    read_in kept more kept_is segments on keeps end =
        let are : looked.front ++ looked.last ∷ more ≡ segments_of opened.begin.base (kept_looks h told.looks) =
        sym segments ∙ ap (segments_of opened.begin.base) (sym kept_is) in
        let own = length_push h.past h.present in
        let paired = as_many h opened.file h.past looked.front past in
        let all = length-append looked.front (looked.last ∷ more) in
        record {
          few = subst (λ (l : List Segment). length (tellings_in h) ≤ length l) are (omega (arith, own, paired, all));
          first = subst (AreReadFirst h opened.file (tellings_in h)) are (read_first h opened.file h.past h.present looked.front looked.last more past present);
          on = subst (AllByRecursion (λ (segment : Segment). ReadOn (steps_in segment))) are
              (of_each h opened.file (λ segment. ReadOn (steps_in segment)) (λ telling segment read. read.on) h.past h.present looked.front looked.last more past present on);
          kept = subst (AllByRecursion Keeps) are (of_each h opened.file Keeps keeps_so h.past h.present looked.front looked.last more past present keeps);
          end = end;
        }

    read_whole : has_lost_key h ≡ false → looked.beyond ≡ [] → IsReadSo h opened told.looks
    read_whole keeps nothing =
        read_in looked.since [] (all_kept h told.looks keeps ∙ looks_are ∙ ap (λ (l : List Look). looked.since ++ l) nothing ∙ append-nil looked.since) since_segments tt tt
        (inl (none_lost h told.looks keeps))

    -- where the length was below what was read at last, and only the key was asked after
    module _ (fallen_so : HasFallen h looked.beyond) where
      abbrev fell_at : List Look
      fell_at = looked.since ++ fallen_so.fall ∷ fallen_so.later

      all_looks : told.looks ≡ fell_at
      all_looks = looks_are ∙ ap (λ (l : List Look). looked.since ++ l) fallen_so.looks_are

      read_fallen : has_lost_key h ≡ false → StillHasKey opened.rule opened.begin.key opened.begin.path opened.file fallen_so.later → IsReadSo h opened told.looks
      read_fallen keeps still =
          let to = looked.present.to in
          let below = fallen_so.below in
          let more = fallen fallen_so.fall fallen_so.later in
          let segments : segments_of opened.begin.base fell_at ≡ looked.front ++ looked.last ∷ more =
          segments_with_fall opened.begin.base looked.since fallen_so.fall fallen_so.later looked.front looked.last since_segments fallen_so.asks (omega (arith, to, below)) in
          read_in fell_at more (all_kept h told.looks keeps ∙ all_looks) segments
          (fallen_reads_on fallen_so.fall fallen_so.later fallen_so.only_reads)
          (subst (AllByRecursion Keeps) (sym (fallen_are fallen_so.fall fallen_so.later fallen_so.only_reads)) (inr still, tt))
          (inl (none_lost h told.looks keeps))

      read_lost : has_lost_key h ≡ true → (SomeAskingGives opened.rule opened.begin.key opened.begin.path opened.file fallen_so.later → ⊥) → IsReadSo h opened told.looks
      read_lost loses other =
          let to = looked.present.to in
          let below = fallen_so.below in
          let kept_is : kept_looks h told.looks ≡ looked.since =
          kept_before_fall h told.looks looked.since fallen_so.fall fallen_so.later loses all_looks fallen_so.asks fallen_so.only_reads in
          read_in looked.since [] kept_is since_segments tt tt (inr (record {
            fall = fallen_so.fall;
            later = fallen_so.later;
            beyond_is = lost_from_fall h told.looks looked.since fallen_so.fall fallen_so.later loses all_looks fallen_so.asks fallen_so.only_reads;
            asks = fallen_so.asks;
            front = looked.front;
            last = looked.last;
            segments_are = ap (segments_of opened.begin.base) kept_is ∙ since_segments;
            below = omega (arith, to, below);
            other_key = other;
          }))

    -- where its tail may be opened again
    pub read_exactly : MayReopenAt h.stage → IsReadExactly h opened told.looks
    read_exactly may = by_stage h.stage refl may looked.stand_behind
      where
        exactly : kept_looks h told.looks ≡ looked.since → IsReadExactly h opened told.looks
        exactly is = record {
          front = looked.front;
          last = looked.last;
          segments = ap (segments_of opened.begin.base) is ∙ since_segments;
          past = past;
          present = present;
          end_look = looked.end_look;
        }

        whole : has_lost_key h ≡ false → looked.beyond ≡ [] → IsReadExactly h opened told.looks
        whole keeps nothing =
            exactly (all_kept h told.looks keeps ∙ looks_are ∙ ap (λ (l : List Look). looked.since ++ l) nothing ∙ append-nil looked.since)

        by_stage : (stage : Stage) → h.stage ≡ stage → MayReopenAt stage → StandBehind h told_file stage looked.beyond → IsReadExactly h opened told.looks
        by_stage Reads is may behind = whole (loses_by Reads h.rule.file_identity false is refl refl) behind
        by_stage Asks is may behind = absurd may
        by_stage Ended is may behind = whole (loses_by Ended h.rule.file_identity false is refl refl) behind
        by_stage Changed is may behind =
            exactly (kept_before_fall h told.looks looked.since behind.fallen.fall behind.fallen.later (loses_by Changed h.rule.file_identity true is refl refl)
            (all_looks behind.fallen) behind.fallen.asks behind.fallen.only_reads)
        by_stage Over is may behind = absurd may

    -- whatever the state of the file
    pub read_so : IsReadSo h opened told.looks
    read_so = by_stage h.stage refl looked.stand_behind
      where
        identity_is : h.rule.file_identity ≡ opened.rule.file_identity
        identity_is = ap (λ (r : InputRule). r.file_identity) rule_is

        by_stage : (stage : Stage) → h.stage ≡ stage → StandBehind h told_file stage looked.beyond → IsReadSo h opened told.looks
        by_stage Reads is behind = read_whole (loses_by Reads h.rule.file_identity false is refl refl) behind
        by_stage Ended is behind = read_whole (loses_by Ended h.rule.file_identity false is refl refl) behind
        by_stage Over is behind =
            read_fallen behind.fallen (loses_by Over h.rule.file_identity false is refl refl)
            (moved (λ rule key path f. StillHasKey rule key path f behind.fallen.later) behind.same)
        by_stage Changed is behind =
            read_lost behind.fallen (loses_by Changed h.rule.file_identity true is refl refl)
            (moved (λ rule key path f. SomeAskingGives rule key path f behind.fallen.later → ⊥) behind.lost)
        by_stage Asks is behind = by_identity h.rule.file_identity refl
          where
            named_so : IsNoFingerprint h.rule.file_identity → IsReadSo h opened told.looks
            named_so named =
                read_fallen behind.fallen (loses_by Asks h.rule.file_identity false is refl (by_name h.rule.file_identity named))
                (still_has_name opened.rule opened.begin.key opened.begin.path opened.file asked behind.fallen.later (subst IsNoFingerprint identity_is named) gave)

            by_identity : (identity : IdentityRule) → h.rule.file_identity ≡ identity → IsReadSo h opened told.looks
            by_identity (Fingerprint offset count) rule =
                read_lost behind.fallen (loses_by Asks (Fingerprint offset count) true is rule refl)
                (moved (λ r key path f. SomeAskingGives r key path f behind.fallen.later → ⊥) (behind.unknown (subst IsFingerprint (sym rule) tt)))
            by_identity Native rule = named_so (subst IsNoFingerprint (sym rule) tt)
            by_identity Path rule = named_so (subst IsNoFingerprint (sym rule) tt)
