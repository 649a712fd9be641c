-- What a tail reported before its harvester began belongs to the harvester's own looks: reads that only asked for the key
-- are before those of the first epoch, and change nothing of what was read and found.
use Rattle.std.proofs.Common.{◌≡◌, inl, inr, ℕ, true, List, [], ◌∷◌, ◌++◌, Option, Some, None, refl, sym, ap, subst, ◌∙◌, append_assoc}
use Rattle.std.specs.List.{AllByRecursion}
use Rattle.event_tree.specs.declared.line_rule.LineRule.{LineRule}
use Rattle.file_identity.specs.Answers.{with_numbers}
use Rattle.file_identity.specs.AskedAgain.{IsRead}
use Rattle.file_looks.proofs.AskedBefore.{asked_before, bytes_asked, end_look_asked, first_asked, had_read_asked, read_on_asked, read_to_asked, segments_asked}
use Rattle.file_looks.specs.EndLook.{HasEndLook}
use Rattle.file_looks.specs.Segment.{Segment}
use Rattle.harvester.proofs.Looking.{GoesOnAs, all_stay, read_stays}
use Rattle.harvester.specs.HasTold.{HasTold}
use Rattle.harvester.specs.History.{Asks, Changed, Ended, Over, Reads, History, Stage, Telling}
use Rattle.harvester.specs.History as history
use Rattle.harvester.specs.Looked.{AreLookedAt, AreReadBy, HasFallen, IsLicensedIn, IsLookedAt, IsReadBy, StandBehind}
use Rattle.harvester.specs.Standing.{Holds, IsGatheredAt, StandsFor}
use Rattle.harvester.specs.declared.harvester.Harvester.{Harvester}
use Rattle.harvester.specs.Gathered.{Gathered}
use Rattle.harvester.specs.Held.{Held}
use Rattle.outside.specs.declared.history.Look.{Look}
use Rattle.outside.specs.Files.{File}
use Rattle.outside.specs.Tails.{TailHistory}
use Rattle.told_events.specs.Licence.{IsLicensed}

-- the history, of whose tail all looks are its own
abbrev pub joined_history : History → History
joined_history h = record h { before = [] }

same_history : (h : History) → GoesOnAs h (joined_history h)
same_history h = record { rule = refl; begin = refl; end = λ may. may; waits = λ distance apart. apart }

-- the segments of the epochs that are over and of the present one; what was found in the last one before is found in it
record Parts (h : History) (file : File) (over : List Telling) (now : Telling) (was : Segment) (segments : List Segment) : Type 0 where
  front : List Segment
  last : Segment
  are : segments ≡ front ++ last ∷ []
  past : AreReadBy h file over front
  present : IsReadBy h file now last
  end_look : (place : ℕ) → HasEndLook was place → HasEndLook last place

-- the first of these segments is not after a fall
abbrev BeginsWithoutFall : List Segment → Type 0
BeginsWithoutFall [] = Unit {0}
BeginsWithoutFall (first ∷ others) = first.fall ≡ None

-- ---- an epoch, whose segment has reads before its looks

module _ (reads : List Look) (only : AllByRecursion (λ look. IsRead look.question) reads) where
  licensed_so : (lines : LineRule) (life : List ℕ) (start : ℕ) (segment : Segment) (MayEnd HasWaited : Type 0) (place : ℕ) →
      IsLicensed lines life start segment MayEnd HasWaited place → IsLicensed lines life start (asked_before reads segment) MayEnd HasWaited place
  licensed_so lines life start segment MayEnd HasWaited place (inl (may, at)) =
      inl (may, record { place = at.place; found = end_look_asked reads only segment at.place at.found; last = at.last })
  licensed_so lines life start segment MayEnd HasWaited place (inr (has, at)) =
      inr (has, record { place = at.place; had_read = had_read_asked reads only segment at.place at.had_read; last = at.last })

  all_licensed : (h : History) (telling : Telling) (segment : Segment) (places : List ℕ) → AllByRecursion (IsLicensedIn h telling segment) places →
      AllByRecursion (IsLicensedIn h telling (asked_before reads segment)) places
  all_licensed h telling segment [] licensed = tt
  all_licensed h telling segment (place ∷ places) licensed = (
    λ life has. licensed_so h.rule.lines life telling.start segment (h.may_end ≡ true) _ place (licensed.0 life has),
    all_licensed h telling segment places licensed.1,
  )

  -- no fall begins the first one
  read_by_first : (h : History) (file : File) (telling : Telling) (segment : Segment) → segment.fall ≡ None → IsReadBy h file telling segment →
      IsReadBy h file telling (asked_before reads segment)
  read_by_first h file telling segment none read = record {
    place = read.place;
    to = read_to_asked reads only segment ∙ read.to;
    bytes = bytes_asked reads only segment file ∙ read.bytes;
    on = read_on_asked reads only segment read.on;
    kept_key = inl none;
    licensed = all_licensed h telling segment telling.licences read.licensed;
  }

  -- ---- all epochs

  asked_parts : (h : History) (file : File) (past : List Telling) (present : Telling) (front : List Segment) (last : Segment) →
      BeginsWithoutFall (front ++ last ∷ []) → AreReadBy h file past front → IsReadBy h file present last → Parts h file past present last (first_asked reads (front ++ last ∷ []))
  asked_parts h file [] present [] last none are is = record {
    front = [];
    last = asked_before reads last;
    are = refl;
    past = tt;
    present = read_by_first h file present last none is;
    end_look = λ place end. end_look_asked reads only last place end;
  }
  asked_parts h file [] present (segment ∷ front) last none are is = absurd are
  asked_parts h file (telling ∷ past) present [] last none are is = absurd are
  asked_parts h file (telling ∷ past) present (segment ∷ front) last none are is = record {
    front = asked_before reads segment ∷ front;
    last = last;
    are = refl;
    past = (read_by_first h file telling segment none are.0, are.1);
    present = is;
    end_look = λ place end. end;
  }

-- ---- the looks of the tail

abbrev fallen : (h : History) (looks : List Look) → HasFallen h looks → HasFallen (joined_history h) looks
fallen h looks is = record { fall = is.fall; later = is.later; looks_are = is.looks_are; asks = is.asks; below = is.below; only_reads = is.only_reads }

behind : (h : History) (file : File) (stage : Stage) (looks : List Look) → StandBehind h file stage looks → StandBehind (joined_history h) file stage looks
behind h file Reads looks is = is
behind h file Asks looks is = record { fallen = fallen h looks is.fallen; cut = is.cut; unknown = is.unknown }
behind h file Ended looks is = is
behind h file Changed looks is = record { fallen = fallen h looks is.fallen; other = is.other; lost = is.lost }
behind h file Over looks is = record { fallen = fallen h looks is.fallen; same = is.same }

pub joined : (numbers : Option (ℕ × ℕ)) (h : History) (told : TailHistory) → AllByRecursion (λ look. IsRead look.question) h.before →
    IsLookedAt numbers h told → IsLookedAt numbers (record h { before = [] }) told
joined numbers h told only looked =
    let file = with_numbers numbers told.file in
    let new = joined_history h in
    let none = subst BeginsWithoutFall looked.segments refl in
    let parts = asked_parts h.before only h file h.past h.present looked.front looked.last none looked.past looked.present in
    record {
      since = h.before ++ looked.since;
      beyond = looked.beyond;
      looks_are = looked.looks_are ∙ sym (append_assoc h.before looked.since looked.beyond);
      front = parts.front;
      last = parts.last;
      segments = segments_asked h.begin.base h.before looked.since only ∙ ap (first_asked h.before) looked.segments ∙ parts.are;
      past = all_stay h new (same_history h) file h.past parts.front parts.past;
      present = read_stays h new (same_history h) file h.present parts.last parts.present;
      stand_behind = behind h file h.stage looked.beyond looked.stand_behind;
      end_look = λ ended. parts.end_look (history.read_to h.present) (looked.end_look ended);
    }

pub joined_told : (numbers : Option (ℕ × ℕ)) (h : History) (told : Option TailHistory) → AllByRecursion (λ look. IsRead look.question) h.before →
    AreLookedAt numbers h told → AreLookedAt numbers (record h { before = [] }) told
joined_told numbers h None only looked = tt
joined_told numbers h (Some told) only looked = joined numbers h told only looked

-- ---- a harvester that stands for the one history stands for the other

module _ (h : History) (held : Held) where
  holds_so : (of : Gathered) → Holds h held of → Holds (joined_history h) held of
  holds_so of is = record {
    follows = record {
      begin = is.follows.begin;
      path = is.follows.path;
      input = is.follows.input;
      identity = is.follows.identity;
      askable = is.follows.askable;
      limit = is.follows.limit;
      epoch = is.follows.epoch;
      stage = is.follows.stage;
      ends = is.follows.ends;
      forgets = is.follows.forgets;
    };
    moments = record { read_at = is.moments.read_at; last_line = is.moments.last_line; in_range = is.moments.in_range };
    position = record {
      position = is.position.position;
      in_range = is.position.in_range;
      some_room = is.position.some_room;
      within = is.position.within;
    };
    has = record { fed = is.has.fed; bytes = is.has.bytes; gathered = is.has.gathered; told_to = is.has.told_to };
    told_place = is.told_place;
    past = is.past;
    present = is.present;
  }

  at_stage : (stage : Stage) (of : Gathered) → IsGatheredAt stage h of → IsGatheredAt stage (joined_history h) of
  at_stage Reads of is = is
  at_stage Asks of is = is
  at_stage Ended of is = is
  at_stage Changed of is = is
  at_stage Over of is = is

  stands_so : StandsFor h held → StandsFor (joined_history h) held
  stands_so is = record {
    of = is.of;
    holds = holds_so is.of is.holds;
    last_line = is.last_line;
    at_stage = at_stage h.stage is.of is.at_stage;
  }

pub joined_has_told : {T : Type 0} (numbers : T → Option (ℕ × ℕ)) (told : T → Option TailHistory) (h : History) (harvester : Harvester T) →
    AllByRecursion (λ look. IsRead look.question) h.before → HasTold numbers told h harvester →
    HasTold numbers told (record h { before = [] }) harvester
joined_has_told numbers told h harvester only has = record {
  held = stands_so h harvester.reader has.held;
  decides = has.decides;
  looked = joined_told (numbers harvester.tail) h (told harvester.tail) only has.looked;
}
