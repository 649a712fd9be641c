-- Worked asking of three files for fingerprints of three bytes: one gives its key, one is too small, and one is gone. Where an
-- opening fails after the first, the others are not asked.
use Rattle.std.proofs.Common.{◌≡◌, inl, inr, ℕ, true, List, [], ◌∷◌, Some, None, codes, drop, refl, sym, ap, ◌∙◌, subst, lit<, lit≤, arith}
use Rattle.event_tree.specs.declared.group_rule.GroupRule.TheVariants.{Single}
use Rattle.event_tree.specs.declared.input_rule.IdentityRule.TheVariants.{Fingerprint}
use Rattle.event_tree.specs.declared.input_rule.InputRule.{InputRule}
use Rattle.event_tree.specs.declared.line_rule.Terminator.TheVariants.{Auto}
use Rattle.file_identity.specs.Answers.{IsFingerprint}
use Rattle.file_identity.specs.Key.{fingerprint_key}
use Rattle.file_looks.specs.Looks.{AreLooks}
use Rattle.outside.specs.declared.history.Look.{Look}
use Rattle.outside.specs.declared.history.Question.{Question}
use Rattle.outside.specs.declared.history.Question.TheVariants.{ReadAt}
use Rattle.outside.specs.declared.history.Sight.{Sight}
use Rattle.outside.specs.Files.{File}
use Rattle.outside.specs.Folders.{Closed, Event, FolderHistory, NotThere, Opened, OpeningFailed}
use Rattle.prospect.specs.declared.asking.Keyed.{Keyed}
use Rattle.prospect.specs.declared.listed.Listed.{Listed}
use Rattle.prospect.specs.AskedFiles.{AskedFile, AsksFiles, AsksOne, AsksSome, ByName, Gave, IsCutOff, NotFound, TooFew, WasAsked, with_key}
use Rattle.prospect.specs.Scan.{with_events}

abbrev input : InputRule
input = record {
  id = codes "w";
  paths = codes "/w/*" ∷ [];
  file_identity = Fingerprint 0 3;
  check_interval = 10000;
  clean_removed = true;
  close_inactive = 300000;
  ignore_older = 0;
  clean_inactive = 0;
  lines = record { terminator = Auto; message_max_bytes = 10485760 };
  include_lines = [];
  exclude_lines = [];
  multiline = Single 10485760;
}

abbrev inputs : List InputRule
inputs = input ∷ []

-- a file of this path and size, as it is listed
abbrev listed : List ℕ → ℕ → Listed
listed path size = record { input = 0; key = None; path = path; size = size; changed = record { 0 = 0 } }

abbrev whole : Listed
whole = listed (codes "/w/a.log") 4

abbrev small : Listed
small = listed (codes "/w/b.log") 2

abbrev gone : Listed
gone = listed (codes "/w/c.log") 9

abbrev files : List Listed
files = whole ∷ small ∷ gone ∷ []

abbrev file : List ℕ → File
file bytes = record { numbers = None; lives = bytes ∷ [] }

abbrev told : FolderHistory
told = record { files = file (codes "abcd") ∷ file (codes "xy") ∷ []; events = [] }

abbrev seen : ℕ → Sight
seen length = record { life = 0; length = length }

abbrev look : Question → ℕ → Look
look question length = record { question = question; sight = seen length }

-- all three bytes came
abbrev whole_looks : List Look
whole_looks = look (ReadAt 0 3) 4 ∷ []

-- two came, and then none
abbrev small_looks : List Look
small_looks = look (ReadAt 0 2) 2 ∷ look (ReadAt 2 0) 2 ∷ []

abbrev key : List ℕ
key = fingerprint_key (codes "w") (codes "abc")

abbrev whole_done : List Event
whole_done = Opened whole.path 0 (seen 4) ∷ Closed 0 whole_looks 0 ∷ []

abbrev small_done : List Event
small_done = Opened small.path 1 (seen 2) ∷ Closed 2 small_looks 0 ∷ []

abbrev behind_whole : FolderHistory
behind_whole = with_events told whole_done

abbrev behind_small : FolderHistory
behind_small = with_events behind_whole small_done

abbrev behind_gone : FolderHistory
behind_gone = with_events behind_small (NotThere gone.path ∷ [])

whole_shown : AreLooks (file (codes "abcd")) (seen 4) whole_looks
whole_shown = (
  record {
    of_file = record { known = lit< tt; within = lit≤ tt; in_range = lit≤ tt };
    no_earlier = record { life = lit≤ tt; length = λ same. lit≤ tt };
    answered = (λ some. lit≤ tt, λ none. absurd (omega (arith, none)));
  },
  tt,
)

small_shown : AreLooks (file (codes "xy")) (seen 2) small_looks
small_shown = (
  record {
    of_file = record { known = lit< tt; within = lit≤ tt; in_range = lit≤ tt };
    no_earlier = record { life = lit≤ tt; length = λ same. lit≤ tt };
    answered = (λ some. lit≤ tt, λ none. absurd (omega (arith, none)));
  },
  (
    record {
      of_file = record { known = lit< tt; within = lit≤ tt; in_range = lit≤ tt };
      no_earlier = record { life = lit≤ tt; length = λ same. lit≤ tt };
      answered = (λ some. lit≤ tt, λ none. lit≤ tt);
    },
    tt,
  ),
)

whole_gives_its_key : WasAsked input whole 0 (Some key) told behind_whole
whole_gives_its_key = record {
  by_bytes = tt;
  opening_is = refl;
  number = 0;
  begun = seen 4;
  file = file (codes "abcd");
  file_is = refl;
  looks = whole_looks;
  shown = whole_shown;
  asking = (lit< tt, (refl, lit≤ tt, refl));
  gave = refl;
  kept = refl;
}

small_gives_none : WasAsked input small 2 None behind_whole behind_small
small_gives_none = record {
  by_bytes = tt;
  opening_is = refl;
  number = 1;
  begun = seen 2;
  file = file (codes "xy");
  file_is = refl;
  looks = small_looks;
  shown = small_shown;
  asking = (lit< tt, (refl, lit≤ tt, (lit< tt, (refl, refl))));
  gave = refl;
  kept = refl;
}

abbrev asked : List AskedFile
asked = record { listed = whole; answer = Gave 0 key } ∷ record { listed = small; answer = TooFew 2 } ∷ record { listed = gone; answer = NotFound 4 } ∷ []

each_is_put_where_it_belongs : (keyed : Keyed) → keyed.files.items ≡ with_key whole key ∷ [] → keyed.gone.items ≡ gone ∷ [] → keyed.small.items ≡ small ∷ [] →
    AsksFiles inputs told files keyed (Some behind_gone)
each_is_put_where_it_belongs keyed files_are gone_are small_are = record {
  asked = asked;
  are = refl;
  last = behind_gone;
  asks = (
    behind_whole,
    record { rule = input; rule_is = refl; answered = whole_gives_its_key },
    (
      behind_small,
      record { rule = input; rule_is = refl; answered = small_gives_none },
      (behind_gone, record { rule = input; rule_is = refl; answered = record { by_bytes = tt; opening_is = refl; kept = refl } }, refl),
    ),
  );
  after_is = refl;
  files = files_are;
  gone = gone_are;
  small = small_are;
}

opening_fails_behind_the_first : AsksSome inputs told files (Some (with_events behind_whole (OpeningFailed small.path ∷ [])))
opening_fails_behind_the_first = record {
  asked = record { listed = whole; answer = Gave 0 key } ∷ [];
  others = small ∷ gone ∷ [];
  are = refl;
  mid = behind_whole;
  asks = (behind_whole, record { rule = input; rule_is = refl; answered = whole_gives_its_key }, refl);
  last = OpeningFailed small.path ∷ [];
  ends = inr (record { one = small; behind = gone ∷ []; others_are = refl; rule = input; rule_is = refl; by_bytes = tt; cut = inl refl });
  after_is = refl;
}

-- ---- refusals

-- a file that is known by a fingerprint is not taken by its name
never_by_its_name : (before after : FolderHistory) → AsksOne inputs (record { listed = whole; answer = ByName }) before after → ⊥
never_by_its_name before after asks =
    let some : Some input ≡ Some asks.rule = asks.rule_is in
    let same : input ≡ asks.rule = cc in
    asks.answered.0 (subst (λ (r : InputRule). IsFingerprint r.file_identity) same tt)

-- a file that was opened is not reported as gone
never_gone_where_opened : (after : FolderHistory) → AsksOne inputs (record { listed = small; answer = NotFound 2 }) behind_whole after → after ≡ behind_small → ⊥
never_gone_where_opened after asks is =
    let kept : after ≡ with_events behind_whole (NotThere small.path ∷ []) = asks.answered.kept in
    let events : NotThere small.path ∷ [] ≡ small_done = ap (λ (h : FolderHistory). drop 2 h.events) (sym kept ∙ is) in
    cc

-- nothing is cut off after the last file
never_behind_the_last : (path : List ℕ) → IsCutOff inputs [] behind_gone (OpeningFailed path ∷ []) → ⊥
never_behind_the_last path (inl none) = let is : OpeningFailed path ∷ [] ≡ [] = none in cc
never_behind_the_last path (inr cut) = let is : [] ≡ cut.one ∷ cut.behind = cut.others_are in cc
