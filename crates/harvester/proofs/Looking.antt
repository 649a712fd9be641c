-- The looks of a harvester's tail, as its history goes on.
use Rattle.std.proofs.Common.{◌≡◌, inl, inr, ℕ, ◌+◌, true, List, [], ◌∷◌, ◌++◌, refl, sym, ap, subst, ◌∙◌, length, append_assoc, append-nil, length-append, arith}
use Rattle.std.specs.List.{AllByRecursion}
use Rattle.event_tree.specs.declared.input_rule.InputRule.{InputRule}
use Rattle.event_tree.specs.declared.line_rule.LineRule.{LineRule}
use Rattle.file_identity.specs.AskedAgain.{KeepsKey}
use Rattle.file_looks.proofs.Going.{end_look_stays, place_stays}
use Rattle.file_looks.specs.Going.{GoesOn}
use Rattle.file_looks.specs.Segment.{Segment, read_to}
use Rattle.multiline_core.specs.Rule.{timeout_of}
use Rattle.outside.specs.declared.history.Look.{Look}
use Rattle.outside.specs.Files.{File}
use Rattle.told_events.specs.Licence.{IsLicensed, LieApart}
use Rattle.wire_base.specs.declared.note.Begin.{Begin}
use Rattle.harvester.specs.History.{HasBytes, History, Stage, Telling}
use Rattle.harvester.specs.History as history
use Rattle.harvester.specs.Looked.{AreReadBy, IsLicensedIn, IsReadBy}
use Rattle.harvester.proofs.Segments.{ReadsMore}

-- ---- licences stay

wider : (lines : LineRule) (life : List ℕ) (start : ℕ) (before now : Segment) (End WaitedOnce MayEnd HasWaited : Type 0) (place : ℕ) →
    GoesOn before now → (End → MayEnd) → (WaitedOnce → HasWaited) → IsLicensed lines life start before End WaitedOnce place →
    IsLicensed lines life start now MayEnd HasWaited place
wider lines life start before now End WaitedOnce MayEnd HasWaited place on ends waits (inl (may, at)) =
    inl (ends may, record { place = at.place; found = end_look_stays before now at.place on at.found; last = at.last })
wider lines life start before now End WaitedOnce MayEnd HasWaited place on ends waits (inr (has, at)) =
    inr (waits has, record { place = at.place; had_read = place_stays before now at.place on at.had_read; last = at.last })

pub apart_stays : (moments : List ℕ) (now distance : ℕ) → LieApart moments distance → LieApart (moments ++ now ∷ []) distance
apart_stays moments now distance apart = record {
  before = apart.before;
  earlier = apart.earlier;
  between = apart.between;
  later = apart.later;
  behind = apart.behind ++ now ∷ [];
  are = ap (λ (l : List ℕ). l ++ now ∷ []) apart.are ∙ append_assoc apart.before (apart.earlier ∷ (apart.between ++ apart.later ∷ apart.behind)) (now ∷ [])
      ∙ ap (λ (l : List ℕ). apart.before ++ apart.earlier ∷ l) (append_assoc apart.between (apart.later ∷ apart.behind) (now ∷ []));
  apart = apart.apart;
}

same_segment : (segment : Segment) → GoesOn segment segment
same_segment segment = record { same_place = refl; same_fall = refl; more = []; looks_on = sym (append-nil segment.looks) }

-- a history goes on where what it licenses stays: the same rule, and no fewer moments
pub record GoesOnAs (old new : History) : Type 0 where
  pub rule : new.rule ≡ old.rule
  pub begin : new.begin ≡ old.begin
  pub end : old.may_end ≡ true → new.may_end ≡ true
  pub waits : (distance : ℕ) → LieApart old.moments distance → LieApart new.moments distance

all_so : {A : Type 0} (P Q : A → Type 0) (xs : List A) → ((x : A) → P x → Q x) → AllByRecursion P xs → AllByRecursion Q xs
all_so P Q [] so all = tt
all_so P Q (x ∷ xs) so all = (so x all.0, all_so P Q xs so all.1)

pub shorter : (start : ℕ) (bytes more life : List ℕ) → HasBytes start (bytes ++ more) life → HasBytes start bytes life
shorter start bytes more life has = record { within = has.within; more = more ++ has.more; behind = has.behind ∙ append_assoc bytes more has.more }

key_stays : (h : History) (file : File) (before now : Segment) → GoesOn before now → KeepsKey h.rule h.begin.key h.begin.path file before →
    KeepsKey h.rule h.begin.key h.begin.path file now
key_stays h file before now on (inl none) = inl (on.same_fall ∙ none)
key_stays h file before now on (inr still) = inr (record {
  before = still.before;
  asked = still.asked;
  behind = still.behind ++ on.more;
  looks_are = on.looks_on ∙ ap (λ (l : List Look). l ++ on.more) still.looks_are
      ∙ append_assoc still.before (still.asked ++ still.behind) on.more
      ∙ ap (λ (l : List Look). still.before ++ l) (append_assoc still.asked still.behind on.more);
  cut = still.cut;
  gives = still.gives;
})

module _ (old new : History) (on : GoesOnAs old new) (file : File) where
  licence_stays : (telling later : Telling) (before now : Segment) (place : ℕ) → later.start ≡ telling.start → GoesOn before now →
      ((life : List ℕ) → HasBytes later.start later.bytes life → HasBytes telling.start telling.bytes life) →
      IsLicensedIn old telling before place → IsLicensedIn new later now place
  licence_stays telling later before now place start segment bytes licensed life has =
      let L : LineRule → ℕ → Type 0 = λ lines from. IsLicensed lines life from now (new.may_end ≡ true) (LieApart new.moments (history.timeout_in new)) place in
      subst (λ (from : ℕ). L new.rule.lines from) (sym start)
      (subst (λ (r : InputRule). L r.lines telling.start) (sym on.rule)
      (wider old.rule.lines life telling.start before now (old.may_end ≡ true) (LieApart old.moments (history.timeout_in old)) (new.may_end ≡ true)
      (LieApart new.moments (history.timeout_in new)) place segment on.end (waits_still old.rule new.rule on.rule) (licensed life (bytes life has))))
    where
      waits_still : (r s : InputRule) → s ≡ r → LieApart old.moments (timeout_of r.multiline) → LieApart new.moments (timeout_of s.multiline)
      waits_still r s same apart = subst (λ (t : InputRule). LieApart new.moments (timeout_of t.multiline)) (sym same) (on.waits (timeout_of r.multiline) apart)

  key_kept : (segment : Segment) → KeepsKey old.rule old.begin.key old.begin.path file segment → KeepsKey new.rule new.begin.key new.begin.path file segment
  key_kept segment kept =
      let K : InputRule → Begin → Type 0 = λ r b. KeepsKey r b.key b.path file segment in
      subst (λ (b : Begin). K new.rule b) (sym on.begin) (subst (λ (r : InputRule). K r old.begin) (sym on.rule) kept)

  pub read_stays : (telling : Telling) (segment : Segment) → IsReadBy old file telling segment → IsReadBy new file telling segment
  read_stays telling segment read = record {
    place = read.place;
    to = read.to;
    bytes = read.bytes;
    on = read.on;
    kept_key = key_kept segment read.kept_key;
    licensed = all_so (IsLicensedIn old telling segment) (IsLicensedIn new telling segment) telling.licences
        (λ place. licence_stays telling telling segment segment place refl (same_segment segment) (λ life has. has)) read.licensed;
  }

  pub all_stay : (tellings : List Telling) (segments : List Segment) → AreReadBy old file tellings segments → AreReadBy new file tellings segments
  all_stay [] [] are = tt
  all_stay [] (segment ∷ segments) are = are
  all_stay (telling ∷ tellings) [] are = are
  all_stay (telling ∷ tellings) (segment ∷ segments) are = (read_stays telling segment are.0, all_stay tellings segments are.1)

  -- with more looks, by which these bytes were read
  pub reads_on : (telling : Telling) (segment : Segment) (more : List Look) (bytes : List ℕ) → ReadsMore file segment more (read_to segment + length bytes) bytes →
      IsReadBy old file telling segment → IsReadBy new file (history.with_bytes bytes telling) (record segment { looks = segment.looks ++ more })
  reads_on telling segment more bytes reads read =
      let now : Segment = record segment { looks = segment.looks ++ more } in
      let later : Telling = history.with_bytes bytes telling in
      let goes : GoesOn segment now = record { same_place = refl; same_fall = refl; more = more; looks_on = refl } in
      record {
        place = read.place;
        to = reads.to ∙ ap (λ (n : ℕ). n + length bytes) read.to ∙ longer telling.start telling.bytes bytes;
        bytes = reads.gives ∙ ap (λ (l : List ℕ). l ++ bytes) read.bytes;
        on = reads.on read.on;
        kept_key = key_kept now (key_stays old file segment now goes read.kept_key);
        licensed = all_so (IsLicensedIn old telling segment) (IsLicensedIn new later now) telling.licences
            (λ place. licence_stays telling later segment now place refl goes (λ life has. shorter telling.start telling.bytes bytes life has)) read.licensed;
      }
    where
      longer : (start : ℕ) (xs ys : List ℕ) → (start + length xs) + length ys ≡ start + length (xs ++ ys)
      longer start xs ys = omega (arith, length-append xs ys)
