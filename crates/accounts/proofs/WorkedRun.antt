-- All that is asked of a run that is done holds of one at once: two plain lines that were read to their end, acknowledged in one talk.
use Rattle.std.proofs.Common.{◌≡◌, ◌≢◌, ◌⊎◌, inl, inr, ℕ, zero, suc, List, [], ◌∷◌, ◌++◌, length, Option, Some, None, refl, sym, ap, subst, append-nil, arith, lit≤, codes, length-append, ◌<◌, true, false}
use Rattle.std.specs.Prelude.{slice_get}
use Rattle.batch_worker.specs.Ending.{HasTalks}
use Rattle.event_tree.specs.declared.group_rule.GroupRule.TheVariants.{Single}
use Rattle.event_tree.specs.declared.input_rule.IdentityRule.{IdentityRule}
use Rattle.event_tree.specs.declared.input_rule.IdentityRule.TheVariants.{Path}
use Rattle.event_tree.specs.declared.input_rule.InputRule.{InputRule}
use Rattle.file_looks.specs.Looks.{AreLooks, IsAnswered, IsLook}
use Rattle.harvester.specs.History.{IsTelling, rules_in}
use Rattle.harvester.specs.Looked.{IsLookedAt}
use Rattle.kept_rows.proofs.Worked as worked
use Rattle.kept_rows.specs.Drained.{IsPassedOver}
use Rattle.kept_rows.specs.Scans.{IsCovered, ShowsEntry, ShowsFileTo}
use Rattle.line_cutter.specs.declared.line.Line.{Line}
use Rattle.lumber_frame.proofs.Settling.{none_in_nothing}
use Rattle.lumber_frame.specs.Acknowledged.{Acknowledges}
use Rattle.lumber_frame.specs.Window.{window_bytes}
use Rattle.multiline_core.specs.Message.{message_of}
use Rattle.multiline_core.specs.Partition.{IsNaturalEvent, lines_from}
use Rattle.outside.specs.declared.history.Look.{Look}
use Rattle.outside.specs.declared.history.Question.TheVariants.{Length, ReadAt}
use Rattle.outside.specs.declared.history.Shown.{Shown}
use Rattle.outside.specs.Wires.{Finished}
use Rattle.ship_core.proofs.Members.{none_there}
use Rattle.ship_core.specs.CoveredEnd.{AreEqualOrApart}
use Rattle.ship_core.specs.Orderly.{AreOrderly, MayFollow}
use Rattle.std.proofs.lemmas.List.Elements.{All-from_recursion}
use Rattle.accounts.proofs.Ordered.{none_orderly, one_more_orderly}
use Rattle.told_events.proofs.Worked.{a_log, both_events, event_of, first_fate, first_line, life, lines, payload, plain, second_fate, second_line}
use Rattle.told_events.specs.Fate.{ShippedAs, fate_of}
use Rattle.told_events.specs.Told.{AreTold, HasFate}
use Rattle.wire_base.specs.declared.note.Cause.TheVariants.{Acked}
use Rattle.wire_base.specs.declared.note.Note.{Note}
use Rattle.wire_base.specs.declared.note.Note.TheVariants.{Begin, Settle}
use Rattle.wire_base.specs.declared.parcel.Parcel.{Parcel}
use Rattle.accounts.specs.RunDone.{IsAmongFiles, RunDone}
use Rattle.accounts.specs.Filed.{Filed}
use Rattle.accounts.specs.FollowedFile.{IsFollowedFile, tail_of}
use Rattle.accounts.specs.RunTold.{RunNotes, RunTold}
use Rattle.accounts.specs.Taken.{Taken}
use Rattle.accounts.specs.ToldFile.{IsToldFile}
use Rattle.accounts.specs.Watch.{MayFindEnd, Watch}
use Rattle.accounts.specs.Watched.{watch_in}
use Rattle.accounts.proofs.Worked.{begin, history, opened, telling}
use Rattle.accounts.proofs.Turns.{apart_take_turns}

-- ---- what was reported of its file

-- of a life that goes on with the two lines
module _ (more : List ℕ) where
  abbrev longer : List ℕ
  longer = life ++ more

  one_is_shortest : (line : Line) (front left : List Line) → line ∷ [] ≡ front ++ left → left ≢ [] → length front ≡ 1 → ⊥
  one_is_shortest line front [] same some size = some refl
  one_is_shortest line front (next ∷ left) same some size = absurd (omega (arith, size, length-append front (next ∷ left), ap (λ (l : List Line). length l) same))

  natural : (line : Line) (behind : List Line) → lines_from lines longer line.span.start ≡ line ∷ behind →
      IsNaturalEvent lines (Single 10485760) longer line.span.start line.span.end
  natural line behind are = record { row = line ∷ []; natural = record { behind = behind; lines_are = are; event = refl; shortest = one_is_shortest line }; ends = refl }

  has_fate : (line : Line) (behind : List Line) (text : List ℕ) → lines_from lines longer line.span.start ≡ line ∷ behind →
      fate_of plain a_log line.span.start (message_of plain.events (line ∷ [])) 0 ≡ ShippedAs text → HasFate plain longer (event_of line text)
  has_fate line behind text are is = record { row = line ∷ []; behind = behind; lines = are; ends = refl; is = sym is }

  two_lines_are_told : AreTold plain [] longer 0 both_events
  two_lines_are_told = record {
    partition = (refl, inl (natural first_line (second_line ∷ lines_from lines longer 4) refl), (refl, inl (natural second_line (lines_from lines longer 4) refl), tt));
    fates = (
      has_fate first_line (second_line ∷ lines_from lines longer 4) (payload (codes "0") (codes "a")) refl first_fate,
      (has_fate second_line (lines_from lines longer 4) (payload (codes "2") (codes "b")) refl second_fate, tt),
    );
  }

-- with any globs and any identity, the numbers of its file, its key, the place of its opening, and what its tail reported as it was asked for the key
module _ (globs : List (List ℕ)) (identity : IdentityRule) (numbers : Option (ℕ × ℕ)) (key : List ℕ) (opening : ℕ) (asked : List Look) where
  abbrev rule_by : InputRule
  rule_by = record worked.input { paths = globs; file_identity = identity }

  abbrev pub file_by : Filed
  file_by = record {
    opened = record opened { begin = record begin { key = key }; rule = rule_by; opening = opening; file = record worked.file { numbers = numbers }; asked = asked };
    turned = record { slot = record { 0 = 0 }; history = record history { rule = rule_by; begin = record begin { key = key }; before = asked } };
    looks = asked ++ worked.looks;
    changed = 0;
    known_from = 0;
    later = [];
    removed = None;
    shrank_from = None;
  }

  pub is_telling : IsTelling (rules_in file_by.turned.history) telling
  is_telling of has = subst (λ (l : List ℕ). AreTold plain [] l 0 both_events) (sym has.behind) (two_lines_are_told has.more)

  pub is_look : (look : Look) → look.sight ≡ worked.sight → IsAnswered look.question worked.sight → IsLook file_by.opened.file worked.sight look
  is_look look is answered =
      subst (λ s. IsLook file_by.opened.file worked.sight (record look { sight = s })) (sym is) (record {
        of_file = record { known = lit≤ tt; within = lit≤ tt; in_range = lit≤ tt };
        no_earlier = record { life = omega arith; length = λ same. omega arith };
        answered = answered;
      })

  pub looked : IsLookedAt numbers file_by.turned.history (tail_of file_by)
  looked = record {
    since = worked.looks;
    beyond = [];
    looks_are = refl;
    front = [];
    last = worked.segment;
    segments = refl;
    past = tt;
    present = record {
      place = refl;
      to = refl;
      bytes = refl;
      on = ((λ e. tt, (λ e. refl, (λ e. tt, (λ e. refl, tt)))));
      kept_key = inl refl;
      licensed = tt;
    };
    stand_behind = refl;
    end_look = λ ended. worked.end_look;
  }

  -- the looks of its harvester
  pub own_looks : AreLooks file_by.opened.file worked.sight worked.looks
  own_looks = (
    is_look (record { question = Length; sight = worked.sight }) refl tt,
    (
      is_look (record { question = ReadAt 0 4; sight = worked.sight }) refl (λ some. lit≤ tt, λ none. cc),
      (
        is_look (record { question = Length; sight = worked.sight }) refl tt,
        (is_look (record { question = ReadAt 4 0; sight = worked.sight }) refl (λ some. lit≤ tt, λ none. lit≤ tt), tt),
      ),
    ),
  )

  -- in a run that may find its end
  abbrev pub told_file : (watch : Watch) → watch.processors ≡ [] → MayFindEnd watch file_by.opened → AreLooks file_by.opened.file worked.sight (asked ++ worked.looks) →
      IsToldFile watch file_by.opened (0 ∷ []) file_by.turned (Some (tail_of file_by))
  told_file watch none may_find tells = record {
    slot = refl;
    history = record {
      rule = refl;
      processors_are = sym none;
      begin = refl;
      asked_before = refl;
      names = [];
      rise = tt;
      renamed = tt;
      path = refl;
      ends = λ ends. absurd (let no : false ≡ true = ends in cc);
      may_end = λ may. may_find;
      not_forgotten = refl;
      epochs = (refl, refl, tt);
      at = ([], [], refl, tt);
      told = (record { path_is = refl; given = (0, omega arith, refl) }, (record { path_is = refl; given = (0, omega arith, refl) }, tt));
    };
    epochs = (is_telling, tt);
    looked = looked;
    tail = record { opening = refl; number = refl; begun = refl; file = refl };
    tells = tells;
  }

-- ---- its file, known by its path

abbrev file : Filed
file = file_by worked.input.paths Path None worked.key 2 []

followed_file : IsFollowedFile worked.run file
followed_file = record {
  rule_is = refl;
  gave = record { asking = refl; gave = refl };
  in_range = (lit≤ tt, lit≤ tt);
  file_is = refl;
  tail = record { in_this_run = lit≤ tt; begun = worked.sight; opened = refl; tells = refl };
  told = told_file worked.input.paths Path None worked.key 2 [] (watch_in worked.run) refl (inl refl) (own_looks worked.input.paths Path None worked.key 2 []);
  listed = record {
    last = record {
      front = [];
      scan = worked.scan;
      behind = [];
      scans_are = refl;
      made_before = (lit≤ tt, tt);
      none_nearer = tt;
      number = 0;
      shown = worked.shown;
      shows = worked.shows_to;
      path_is = refl;
      first = worked.first_path;
    };
    begins = inl (record { number_is = refl; starts = refl });
  };
  moment = inl refl;
  reopened = tt;
  first_known = tt;
  later_known = tt;
  removed = tt;
}

-- ---- its notes and its talk

abbrev parcel : ℕ → ℕ → List ℕ → Parcel
parcel start end text = record { slot = record { 0 = 0 }; epoch = record { 0 = 0 }; span = record { start = start; end = end }; payload = text }

abbrev pub parcels : List Parcel
parcels =
    parcel 0 2 (payload (codes "0") (codes "a"))
    ∷ parcel 2 4 (payload (codes "2") (codes "b"))
    ∷ []

abbrev pub worker : Taken
worker = record { acknowledged = parcels; carried = [] }

abbrev pub first_by : List ℕ → List Note
first_by key = Begin (record { 0 = 0 }) key a_log (record { 0 = 0 }) 0 (record { 0 = 0 }) ∷ []

abbrev pub collected : List Note
collected =
    Settle (record { 0 = 0 }) (record { 0 = 0 }) (record { start = 0; end = 2 }) Acked
    ∷ Settle (record { 0 = 0 }) (record { 0 = 0 }) (record { start = 2; end = 4 }) Acked
    ∷ []

pub acknowledged : Acknowledges worked.talk.pieces worked.payloads
acknowledged = record {
  windows = worked.payloads ∷ [];
  sent = record { each = (worked.window, tt); rest = []; whole = sym (append-nil (window_bytes worked.payloads ++ [])); cut = none_in_nothing };
  are = refl;
}

pub has_talks : (idles faults : ℕ) → HasTalks 2048 parcels (parcels ++ []) (Finished worked.talk faults idles ∷ [])
has_talks idles faults = record {
  acknowledges = record { first = worked.payloads; rest = []; are = refl; acknowledges = acknowledged; others = refl };
  sent = (
    record {
      windows = parcels ∷ [];
      each = (worked.window, tt);
      small = (lit≤ tt, tt);
      before = [];
      behind = [];
      are = refl;
      left = [];
      sent = append-nil (window_bytes worked.payloads ++ []);
    },
    tt,
  );
}

-- the Begin was reported to the keeper, which then collected the settlements
abbrev pub notes_by : List ℕ → RunNotes
notes_by key = record { told = first_by key; collected = collected; all = first_by key ++ collected }

pub in_order_by : (key : List ℕ) → AreOrderly (first_by key ++ collected)
in_order_by key = one_more_orderly (begins ∷ first_settled ∷ []) second_settled (one_more_orderly (begins ∷ []) first_settled (one_more_orderly [] begins none_orderly refl) first_may) second_may
  where
    begins : Note
    begins = Begin (record { 0 = 0 }) key a_log (record { 0 = 0 }) 0 (record { 0 = 0 })

    first_settled : Note
    first_settled = Settle (record { 0 = 0 }) (record { 0 = 0 }) (record { start = 0; end = 2 }) Acked

    second_settled : Note
    second_settled = Settle (record { 0 = 0 }) (record { 0 = 0 }) (record { start = 2; end = 4 }) Acked

    first_may : MayFollow (begins ∷ []) first_settled
    first_may = (refl, All-from_recursion (AreEqualOrApart (record { start = 0; end = 2 })) [] tt)

    second_may : MayFollow (begins ∷ first_settled ∷ []) second_settled
    second_may = (refl, All-from_recursion (AreEqualOrApart (record { start = 2; end = 4 })) (record { start = 0; end = 2 } ∷ []) (inr (inr (omega arith)), tt))

-- ---- all of it

pub has_told : RunTold worked.run (file ∷ []) [] (worker ∷ []) (notes_by worked.key)
has_told = record {
  by = record {
    scans = worked.is_account.followed.scans;
    asked = tt;
    each = (record { asked_so = (inl worked.whole.none_faulty.0, tt); asks_in_order = worked.asks_in_order }, tt);
    own_ids = record { no_colon = ((λ e. cc, tt), tt); ids_apart = (none_there worked.input.id, tt) };
  };
  followed = record {
    each = (followed_file, tt);
    slots = (omega arith, tt);
    openings_apart = (none_there 2, tt);
    openings_serve = worked.is_account.followed.openings_serve;
  };
  talks = (record { most = 2048; talks = has_talks 0 0; none_open = refl }, tt);
  may_go = record { each = tt; apart = tt };
  beside = record { slots = tt; other_slots = λ one among hidden none. absurd (none_there hidden none) };
  turns = apart_take_turns worked.run (file ∷ []) [] (first_by worked.key ++ collected) (none_there worked.key, tt) tt (λ one among hidden none. absurd (none_there hidden none))
      (λ later. absurd (let above : 0 < 0 = later in omega (arith, above)), tt);
  told = record {
    each = (
      inl (record { file = file; of_files = (0, omega arith, refl); begins = record { path = a_log; changed = record { 0 = 0 }; is = refl; within = omega arith } }),
      tt,
    );
    begun = (record { path = a_log; changed = record { 0 = 0 }; there = (0, omega arith, refl) }, tt);
    hidden_begun = tt;
  };
  mixed = record { often = λ h. refl; orderly = in_order_by worked.key };
  fits = record {
    issued = parcels;
    noted = [];
    issued_are = λ h. refl;
    noted_are = λ h. refl;
    parcels = [];
    parcels_are = λ h. refl;
    notes = [];
    notes_are = λ h. refl;
  };
  gone = (tt, tt);
}

pub is_done : RunDone worked.run worked.scan (file ∷ []) (worker ∷ []) (notes_by worked.key)
is_done = record {
  full = record { earlier = []; last = refl; whole = worked.whole };
  served = served;
  whole = (
    record {
      alone = refl;
      stays = refl;
      as_begun = refl;
      read_through = inl (record { ended = refl; all_told = refl });
      moment = record {
        shown = worked.shown;
        entry = worked.entry;
        path_is = refl;
        changed_is = refl;
        note = Begin (record { 0 = 0 }) worked.key a_log (record { 0 = 0 }) 0 (record { 0 = 0 });
        among = (0, omega arith, refl);
        slot_is = refl;
        carries = refl;
      };
    },
    tt,
  );
  settled = record { parcels_are = λ h. refl; notes_are = λ h. refl };
}
  where
    served : (other : Shown) (input : ℕ) (rule : InputRule) → ShowsEntry worked.run.trace worked.scan other → slice_get worked.run.settings.inputs input ≡ Some rule →
        IsCovered rule.paths other.entry.path → IsAmongFiles worked.run worked.scan (file ∷ []) other input ⊎ IsPassedOver worked.run rule worked.scan other input
    served other zero rule shows is covered =
        let same_entry = worked.only_entry other shows in
        inl (record {
          file = file;
          of_files = (0, omega arith, refl);
          input_is = refl;
          path_is = ap (λ (s : Shown). s.entry.path) same_entry;
          number = 0;
          shows = subst (ShowsFileTo worked.run worked.scan 0 worked.key 0) same_entry worked.shows_to;
        })
    served other (suc input) rule shows is covered = absurd (let q : None ≡ Some rule = is in cc)
