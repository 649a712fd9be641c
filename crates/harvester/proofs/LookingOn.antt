-- The looks of a harvester's tail, step by step.
use Rattle.std.proofs.Common.{◌≡◌, ◌⊎◌, inl, inr, ℕ, ◌+◌, ◌<◌, Bool, true, List, [], ◌∷◌, ◌++◌, length, Option, Some, refl, sym, ap, subst, ◌∙◌, append_assoc, append-nil}
use Rattle.std.specs.List.{AllByRecursion}
use Rattle.file_identity.specs.Answers.{IsFingerprint, with_numbers}
use Rattle.file_identity.proofs.AskedOnce.{none_asked}
use Rattle.file_identity.proofs.CutAskings.{none_cut}
use Rattle.file_identity.specs.AskedAgain.{AreCutAskings, HasOtherKey, IsRead, SomeAskingGives, StillHasKey}
use Rattle.file_identity.specs.Key.{WantsBytes}
use Rattle.file_looks.proofs.Going.{had_read_all}
use Rattle.file_looks.specs.EndLook.{HadReadTo, HasEndLook}
use Rattle.file_looks.specs.Segment.{Segment, segments_of}
use Rattle.file_looks.specs.Segment as segment
use Rattle.outside.specs.declared.history.Look.{Look}
use Rattle.outside.specs.declared.history.Question.{Question}
use Rattle.outside.specs.declared.history.Question.TheVariants.{Length}
use Rattle.outside.specs.Files.{File}
use Rattle.outside.specs.Tails.{TailHistory}
use Rattle.told_events.proofs.Going.{all_behind}
use Rattle.told_events.specs.Licence.{LieApart}
use Rattle.told_events.specs.Told.{ToldEvent}
use Rattle.harvester.specs.Found.{FoundEnd}
use Rattle.harvester.specs.History.{Asks, Changed, Ended, History, Over, Reads, Stage, Telling, with_bytes, with_epoch, with_events, with_licences, with_present, with_stage}
use Rattle.harvester.specs.History as history
use Rattle.harvester.specs.Looked.{AreReadBy, HasFallen, IsLicensedIn, IsLookedAt, IsReadBy, IsUnanswered, StandBehind}
use Rattle.harvester.specs.Standing.{EndsLines}
use Rattle.harvester.proofs.Looking.{GoesOnAs, all_stay, read_stays, reads_on}
use Rattle.harvester.proofs.Segments.{ReadsMore, begins_segment, last_goes_on, reads_nothing}

abbrev pub with_looks : TailHistory → List Look → TailHistory
with_looks told more = record told { looks = told.looks ++ more }

-- the same rule, opening and moments, and no fewer causes for an end
same_history : (h new : History) → new.rule ≡ h.rule → new.begin ≡ h.begin → (h.may_end ≡ true → new.may_end ≡ true) → new.moments ≡ h.moments → GoesOnAs h new
same_history h new rule begin end moments = record {
  rule = rule;
  begin = begin;
  end = end;
  waits = λ distance apart. subst (λ (l : List ℕ). LieApart l distance) (sym moments) apart;
}

all_behind_one : (h : History) (file : File) (tellings : List Telling) (segments : List Segment) → AreReadBy h file tellings segments →
    (telling : Telling) (segment : Segment) → IsReadBy h file telling segment → AreReadBy h file (tellings ++ telling ∷ []) (segments ++ segment ∷ [])
all_behind_one h file [] [] are telling segment is = (is, tt)
all_behind_one h file [] (s ∷ segments) are telling segment is = absurd are
all_behind_one h file (t ∷ tellings) [] are telling segment is = absurd are
all_behind_one h file (t ∷ tellings) (s ∷ segments) are telling segment is = (are.0, all_behind_one h file tellings segments are.1 telling segment is)

-- with another path, further moments, another last line, and what may be found
abbrev pub turned_as : List ℕ → List ℕ → ℕ → Bool → Bool → Bool → History → History
turned_as path moments last_line ends may_end forgets h = record h { path = path; moments = moments; last_line = last_line; ends = ends; may_end = may_end; forgets = forgets }

module _ (numbers : Option (ℕ × ℕ)) (h : History) (told : TailHistory) (l : IsLookedAt numbers h told) where
  pub other_turn : (path moments : List ℕ) (last_line : ℕ) (ends may_end forgets : Bool) → (h.may_end ≡ true → may_end ≡ true) →
      ((distance : ℕ) → LieApart h.moments distance → LieApart moments distance) →
      IsLookedAt numbers (turned_as path moments last_line ends may_end forgets h) told
  other_turn path moments last_line ends may_end forgets may waits =
      let file = with_numbers numbers told.file in
      let new = turned_as path moments last_line ends may_end forgets h in
      let on : GoesOnAs h new = record { rule = refl; begin = refl; end = may; waits = waits } in
      record {
        since = l.since;
        beyond = l.beyond;
        looks_are = l.looks_are;
        front = l.front;
        last = l.last;
        segments = l.segments;
        past = all_stay h new on file h.past l.front l.past;
        present = read_stays h new on file h.present l.last l.present;
        stand_behind = behind h.stage l.beyond l.stand_behind;
        end_look = l.end_look;
      }
    where
      fallen : (looks : List Look) → HasFallen h looks → HasFallen (turned_as path moments last_line ends may_end forgets h) looks
      fallen looks is = record { fall = is.fall; later = is.later; looks_are = is.looks_are; asks = is.asks; below = is.below; only_reads = is.only_reads }

      behind : (stage : Stage) (looks : List Look) → StandBehind h (with_numbers numbers told.file) stage looks →
          StandBehind (turned_as path moments last_line ends may_end forgets h) (with_numbers numbers told.file) stage looks
      behind Reads looks is = is
      behind Asks looks is = record { fallen = fallen looks is.fallen; cut = is.cut; unknown = is.unknown }
      behind Ended looks is = is
      behind Changed looks is = record { fallen = fallen looks is.fallen; other = is.other; lost = is.lost }
      behind Over looks is = record { fallen = fallen looks is.fallen; same = is.same }

  -- ---- while it is read

  none_beyond : (stage : Stage) → stage ≡ Reads → StandBehind h (with_numbers numbers told.file) stage l.beyond → l.beyond ≡ []
  none_beyond Reads reads is = is
  none_beyond Asks reads is = absurd cc
  none_beyond Ended reads is = absurd cc
  none_beyond Changed reads is = absurd cc
  none_beyond Over reads is = absurd cc

  module _ (reads : h.stage ≡ Reads) where
    pub all_since : told.looks ≡ h.before ++ l.since
    all_since =
        l.looks_are ∙ ap (λ (b : List Look). h.before ++ (l.since ++ b)) (none_beyond h.stage reads l.stand_behind)
        ∙ ap (λ (b : List Look). h.before ++ b) (append-nil l.since)

    -- more looks, by which these bytes were read
    pub more_looks : (more : List Look) (bytes : List ℕ) → ReadsMore (with_numbers numbers told.file) l.last more (segment.read_to l.last + length bytes) bytes →
        IsLookedAt numbers (with_present (with_bytes bytes h.present) h) (with_looks told more)
    more_looks more bytes more_read =
        let file = with_numbers numbers told.file in
        let new = with_present (with_bytes bytes h.present) h in
        let on = same_history h new refl refl (λ may. may) refl in
        record {
          since = l.since ++ more;
          beyond = [];
          looks_are = ap (λ (b : List Look). b ++ more) all_since ∙ append_assoc h.before l.since more
              ∙ ap (λ (b : List Look). h.before ++ b) (sym (append-nil (l.since ++ more)));
          front = l.front;
          last = record l.last { looks = l.last.looks ++ more };
          segments = last_goes_on h.begin.base l.since more l.front l.last l.segments more_read.none_falls;
          past = all_stay h new on file h.past l.front l.past;
          present = reads_on h new on file h.present l.last more bytes more_read l.present;
          stand_behind = subst (λ (s : Stage). StandBehind new file s []) (sym reads) refl;
          end_look = λ ended. absurd (let no : Reads ≡ Ended = sym reads ∙ ended in cc);
        }

    -- and by which the end was found
    pub more_end : (more : List Look) (bytes : List ℕ) → ReadsMore (with_numbers numbers told.file) l.last more (segment.read_to l.last + length bytes) bytes →
        HasEndLook (record l.last { looks = l.last.looks ++ more }) (history.read_to (with_bytes bytes h.present)) →
        FoundEnd numbers (with_present (with_bytes bytes h.present) h) (with_looks told more)
    unfolding more_looks
    more_end more bytes more_read found = record { looked = more_looks more bytes more_read; end_look = found }

    -- the file's end was found, and it is read no further
    pub ends_there : HasEndLook l.last (history.read_to h.present) → IsLookedAt numbers (with_stage Ended h) told
    ends_there found =
        let file = with_numbers numbers told.file in
        let new = with_stage Ended h in
        let on = same_history h new refl refl (λ may. may) refl in
        record {
          since = l.since;
          beyond = [];
          looks_are = all_since ∙ ap (λ (b : List Look). h.before ++ b) (sym (append-nil l.since));
          front = l.front;
          last = l.last;
          segments = l.segments;
          past = all_stay h new on file h.past l.front l.past;
          present = read_stays h new on file h.present l.last l.present;
          stand_behind = refl;
          end_look = λ ended. found;
        }

    -- the length is below what was read
    pub falls : WantsBytes h.rule.file_identity → (fall : Look) → fall.question ≡ Length → fall.sight.length < history.read_to h.present →
        IsLookedAt numbers (with_stage Asks h) (with_looks told (fall ∷ []))
    falls wants fall asks below =
        let file = with_numbers numbers told.file in
        let new = with_stage Asks h in
        let on = same_history h new refl refl (λ may. may) refl in
        record {
          since = l.since;
          beyond = fall ∷ [];
          looks_are = ap (λ (b : List Look). b ++ fall ∷ []) all_since ∙ append_assoc h.before l.since (fall ∷ []);
          front = l.front;
          last = l.last;
          segments = l.segments;
          past = all_stay h new on file h.past l.front l.past;
          present = read_stays h new on file h.present l.last l.present;
          stand_behind = record {
            fallen = record { fall = fall; later = []; looks_are = refl; asks = asks; below = below; only_reads = tt };
            cut = none_cut h.rule.file_identity;
            unknown = λ is. none_asked h.rule h.begin.key h.begin.path file is wants;
          };
          end_look = λ ended. absurd (let no : Asks ≡ Ended = ended in cc);
        }

  -- ---- what is reported, and where an event may be flushed

  same_behind : (new : History) (present : Telling) → (new ≡ with_present present h) → history.read_to present ≡ history.read_to h.present →
      StandBehind h (with_numbers numbers told.file) h.stage l.beyond → StandBehind (with_present present h) (with_numbers numbers told.file) h.stage l.beyond
  same_behind new present is to = behind h.stage l.beyond
    where
      fallen : (looks : List Look) → HasFallen h looks → HasFallen (with_present present h) looks
      fallen looks is = record { fall = is.fall; later = is.later; looks_are = is.looks_are; asks = is.asks; below = subst (λ (n : ℕ). is.fall.sight.length < n) (sym to) is.below; only_reads = is.only_reads }

      behind : (stage : Stage) (looks : List Look) → StandBehind h (with_numbers numbers told.file) stage looks →
          StandBehind (with_present present h) (with_numbers numbers told.file) stage looks
      behind Reads looks is = is
      behind Asks looks is = record { fallen = fallen looks is.fallen; cut = is.cut; unknown = is.unknown }
      behind Ended looks is = is
      behind Changed looks is = record { fallen = fallen looks is.fallen; other = is.other; lost = is.lost }
      behind Over looks is = record { fallen = fallen looks is.fallen; same = is.same }

  pub tells_more : (events : List ToldEvent) → IsLookedAt numbers (with_present (with_events events h.present) h) told
  tells_more events =
      let file = with_numbers numbers told.file in
      let new = with_present (with_events events h.present) h in
      let on = same_history h new refl refl (λ may. may) refl in
      let read = read_stays h new on file h.present l.last l.present in
      record {
        since = l.since;
        beyond = l.beyond;
        looks_are = l.looks_are;
        front = l.front;
        last = l.last;
        segments = l.segments;
        past = all_stay h new on file h.past l.front l.past;
        present = record { place = read.place; to = read.to; bytes = read.bytes; on = read.on; kept_key = read.kept_key; licensed = read.licensed };
        stand_behind = same_behind new (with_events events h.present) refl refl l.stand_behind;
        end_look = l.end_look;
      }

  pub licences_more : (licences : List ℕ) → AllByRecursion (IsLicensedIn h h.present l.last) licences →
      IsLookedAt numbers (with_present (with_licences licences h.present) h) told
  licences_more licences more =
      let file = with_numbers numbers told.file in
      let new = with_present (with_licences licences h.present) h in
      let on = same_history h new refl refl (λ may. may) refl in
      let read = read_stays h new on file h.present l.last l.present in
      record {
        since = l.since;
        beyond = l.beyond;
        looks_are = l.looks_are;
        front = l.front;
        last = l.last;
        segments = l.segments;
        past = all_stay h new on file h.past l.front l.past;
        present = record {
          place = read.place;
          to = read.to;
          bytes = read.bytes;
          on = read.on;
          kept_key = read.kept_key;
          licensed = all_behind (IsLicensedIn new (with_licences licences h.present) l.last) h.present.licences licences read.licensed more;
        };
        stand_behind = same_behind new (with_licences licences h.present) refl refl l.stand_behind;
        end_look = l.end_look;
      }

  -- ---- while its key is asked

  unanswered_in : (stage : Stage) → stage ≡ Asks → StandBehind h (with_numbers numbers told.file) stage l.beyond →
      IsUnanswered h (with_numbers numbers told.file) l.beyond
  unanswered_in Reads asks is = absurd cc
  unanswered_in Asks asks is = is
  unanswered_in Ended asks is = absurd cc
  unanswered_in Changed asks is = absurd cc
  unanswered_in Over asks is = absurd cc

  module _ (asks : h.stage ≡ Asks) (more : List Look) (only : AllByRecursion (λ look. IsRead look.question) more) where
    pub was : HasFallen h l.beyond
    was = (unanswered_in h.stage asks l.stand_behind).fallen

    -- a fault cut each asking
    pub was_cut : AreCutAskings h.rule.file_identity was.later
    unfolding was
    was_cut = (unanswered_in h.stage asks l.stand_behind).cut

    -- by these looks the key was not reported
    pub was_unknown : IsFingerprint h.rule.file_identity → ¬ (SomeAskingGives h.rule h.begin.key h.begin.path (with_numbers numbers told.file) was.later)
    unfolding was
    was_unknown = (unanswered_in h.stage asks l.stand_behind).unknown

    now : HasFallen h (l.beyond ++ more)
    now = record {
      fall = was.fall;
      later = was.later ++ more;
      looks_are = ap (λ (b : List Look). b ++ more) was.looks_are;
      asks = was.asks;
      below = was.below;
      only_reads = all_behind (λ look. IsRead look.question) was.later more was.only_reads only;
    }

    looks_now : told.looks ++ more ≡ h.before ++ (l.since ++ (l.beyond ++ more))
    looks_now =
        ap (λ (b : List Look). b ++ more) l.looks_are ∙ append_assoc h.before (l.since ++ l.beyond) more
        ∙ ap (λ (b : List Look). h.before ++ b) (append_assoc l.since l.beyond more)

    -- the asking hit a fault
    pub asks_on : AreCutAskings h.rule.file_identity (was.later ++ more) →
        (IsFingerprint h.rule.file_identity → ¬ (SomeAskingGives h.rule h.begin.key h.begin.path (with_numbers numbers told.file) (was.later ++ more))) →
        IsLookedAt numbers h (with_looks told more)
    unfolding now was
    asks_on cut unknown = record {
      since = l.since;
      beyond = l.beyond ++ more;
      looks_are = looks_now;
      front = l.front;
      last = l.last;
      segments = l.segments;
      past = l.past;
      present = l.present;
      stand_behind = subst (λ (s : Stage). StandBehind h (with_numbers numbers told.file) s (l.beyond ++ more)) (sym asks) (record { fallen = now; cut = cut; unknown = unknown });
      end_look = λ ended. absurd (let no : Asks ≡ Ended = sym asks ∙ ended in cc);
    }

    -- it has another key
    pub changes : HasOtherKey h.rule h.begin.key h.begin.path (with_numbers numbers told.file) (was.later ++ more) →
        ¬ (SomeAskingGives h.rule h.begin.key h.begin.path (with_numbers numbers told.file) (was.later ++ more)) →
        IsLookedAt numbers (with_stage Changed h) (with_looks told more)
    unfolding now was
    changes key lost =
        let file = with_numbers numbers told.file in
        let new = with_stage Changed h in
        let on = same_history h new refl refl (λ may. may) refl in
        record {
          since = l.since;
          beyond = l.beyond ++ more;
          looks_are = looks_now;
          front = l.front;
          last = l.last;
          segments = l.segments;
          past = all_stay h new on file h.past l.front l.past;
          present = read_stays h new on file h.present l.last l.present;
          stand_behind = record {
            fallen = record { fall = now.fall; later = now.later; looks_are = now.looks_are; asks = now.asks; below = now.below; only_reads = now.only_reads };
            other = key;
            lost = lost;
          };
          end_look = λ ended. absurd (let no : Changed ≡ Ended = ended in cc);
        }

    -- it still has its key, and the last epoch is over
    pub is_over : StillHasKey h.rule h.begin.key h.begin.path (with_numbers numbers told.file) (was.later ++ more) →
        IsLookedAt numbers (with_stage Over h) (with_looks told more)
    unfolding now was
    is_over key =
        let file = with_numbers numbers told.file in
        let new = with_stage Over h in
        let on = same_history h new refl refl (λ may. may) refl in
        record {
          since = l.since;
          beyond = l.beyond ++ more;
          looks_are = looks_now;
          front = l.front;
          last = l.last;
          segments = l.segments;
          past = all_stay h new on file h.past l.front l.past;
          present = read_stays h new on file h.present l.last l.present;
          stand_behind = record {
            fallen = record { fall = now.fall; later = now.later; looks_are = now.looks_are; asks = now.asks; below = now.below; only_reads = now.only_reads };
            same = key;
          };
          end_look = λ ended. absurd (let no : Over ≡ Ended = ended in cc);
        }

    -- it still has its key: the next epoch begins
    pub begins_epoch : StillHasKey h.rule h.begin.key h.begin.path (with_numbers numbers told.file) (was.later ++ more) →
        IsLookedAt numbers (with_epoch h) (with_looks told more)
    unfolding now was
    begins_epoch still =
        let file = with_numbers numbers told.file in
        let new = with_epoch h in
        let on = same_history h new refl refl (λ may. may) refl in
        let reads = was.later ++ more in
        let fresh : Segment = record { place = 0; fall = Some was.fall; looks = reads } in
        let nothing = reads_nothing file reads now.only_reads in
        let begun : segments_of h.begin.base (l.since ++ (l.beyond ++ more)) ≡ (l.front ++ l.last ∷ []) ++ fresh ∷ [] =
        ap (λ (b : List Look). segments_of h.begin.base (l.since ++ b)) now.looks_are ∙ with_fall reads now.only_reads
        ∙ sym (append_assoc l.front (l.last ∷ []) (fresh ∷ [])) in
        record {
          since = l.since ++ (l.beyond ++ more);
          beyond = [];
          looks_are = looks_now ∙ ap (λ (b : List Look). h.before ++ b) (sym (append-nil (l.since ++ (l.beyond ++ more))));
          front = l.front ++ l.last ∷ [];
          last = fresh;
          segments = begun;
          past = all_behind_one new file h.past l.front (all_stay h new on file h.past l.front l.past) h.present l.last
              (read_stays h new on file h.present l.last l.present);
          present = record {
            place = refl;
            to = nothing.to 0;
            bytes = nothing.gives 0;
            on = nothing.on 0;
            kept_key = inr still;
            licensed = tt;
          };
          stand_behind = refl;
          end_look = λ ended. absurd (let no : Reads ≡ Ended = ended in cc);
        }
      where
        fall_is : was.fall ≡ record { question = Length; sight = was.fall.sight }
        fall_is = ap (λ (q : Question). record { question = q; sight = was.fall.sight }) was.asks

        with_fall : (reads : List Look) → AllByRecursion (λ look. IsRead look.question) reads →
            segments_of h.begin.base (l.since ++ was.fall ∷ reads) ≡ l.front ++ l.last ∷ record { place = 0; fall = Some was.fall; looks = reads } ∷ []
        with_fall reads only_reads =
            subst (λ (f : Look). segments_of h.begin.base (l.since ++ f ∷ reads) ≡ l.front ++ l.last ∷ record { place = 0; fall = Some f; looks = reads } ∷ [])
            (sym fall_is)
            (begins_segment h.begin.base l.since l.front l.last l.segments was.fall.sight reads
            (subst (λ (n : ℕ). was.fall.sight.length < n) (sym l.present.to) was.below) only_reads)

-- ---- an event is flushed

module _ (numbers : Option (ℕ × ℕ)) (h : History) (told : TailHistory) (l : IsLookedAt numbers h told) where
  -- the last complete line ends there, and the end may be found and was, or the timeout has passed
  licensed_by : (why : ((h.may_end ≡ true) × HasEndLook l.last (history.read_to h.present)) ⊎ LieApart h.moments (history.timeout_in h)) →
      (place : ℕ) → EndsLines h place → IsLicensedIn h h.present l.last place
  licensed_by (inl ended) place ends = λ life has. inl (ended.0, record { place = history.read_to h.present; found = ended.1; last = ends life has })
  licensed_by (inr waited) place ends = λ life has.
      inr (waited, record { place = history.read_to h.present; had_read = subst (λ (n : ℕ). HadReadTo l.last n) l.present.to (had_read_all l.last); last = ends life has })

  all_licensed : (why : ((h.may_end ≡ true) × HasEndLook l.last (history.read_to h.present)) ⊎ LieApart h.moments (history.timeout_in h)) →
      (places : List ℕ) → AllByRecursion (EndsLines h) places → AllByRecursion (IsLicensedIn h h.present l.last) places
  all_licensed why [] ends = tt
  all_licensed why (place ∷ places) ends = (licensed_by why place ends.0, all_licensed why places ends.1)

  none_licensed : (places : List ℕ) → places ≡ [] → AllByRecursion (IsLicensedIn h h.present l.last) places
  none_licensed places none = subst (λ (p : List ℕ). AllByRecursion (IsLicensedIn h h.present l.last) p) (sym none) tt

  -- its end was not asked for
  pub flushes : (places : List ℕ) → AllByRecursion (EndsLines h) places → (places ≡ []) ⊎ LieApart h.moments (history.timeout_in h) →
      IsLookedAt numbers (with_present (with_licences places h.present) h) told
  flushes places ends (inl none) = licences_more numbers h told l places (none_licensed places none)
  flushes places ends (inr waited) = licences_more numbers h told l places (all_licensed (inr waited) places ends)

  -- and where the end was found
  module _ (reads : h.stage ≡ Reads) (found : HasEndLook l.last (history.read_to h.present)) where
    ends_with : (places : List ℕ) → AllByRecursion (IsLicensedIn h h.present l.last) places →
        IsLookedAt numbers (with_stage Ended (with_present (with_licences places h.present) h)) told
    unfolding licences_more
    ends_with places licensed =
        ends_there numbers (with_present (with_licences places h.present) h) told (licences_more numbers h told l places licensed) reads found

    pub flushes_at_end : h.may_end ≡ true → (places : List ℕ) → AllByRecursion (EndsLines h) places →
        IsLookedAt numbers (with_stage Ended (with_present (with_licences places h.present) h)) told
    flushes_at_end may places ends = ends_with places (all_licensed (inl (may, found)) places ends)

-- ---- when the last line was read is no part of what is looked at

pub found_as_well : (numbers : Option (ℕ × ℕ)) (h : History) (told : TailHistory) (last_line : ℕ) → FoundEnd numbers h told →
    FoundEnd numbers (record h { last_line = last_line }) told
unfolding other_turn
found_as_well numbers h told last_line found = record {
  looked = other_turn numbers h told found.looked h.path h.moments last_line h.ends h.may_end h.forgets (λ may. may) (λ distance apart. apart);
  end_look = found.end_look;
}
