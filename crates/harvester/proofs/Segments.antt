-- The segments of a tail that looks on.
use Rattle.std.proofs.Common.{◌≡◌, ℕ, ◌+◌, ◌<◌, ◌≤◌, Bool, true, false, List, [], ◌∷◌, ◌++◌, take, drop, nat_le, nat_lt, Option, Some, None, if◌then◌else◌, refl, sym, ap, subst, ◌∙◌, append_assoc, append-nil, arith}
use Rattle.std.specs.List.{AllByRecursion, flat_map}
use Rattle.outside.specs.declared.history.Look.{Look}
use Rattle.outside.specs.declared.history.Question.{Question}
use Rattle.outside.specs.declared.history.Question.TheVariants.{Length, ReadAt}
use Rattle.outside.specs.declared.history.Sight.{Sight}
use Rattle.outside.specs.Files.{File, life_of}
use Rattle.file_identity.specs.AskedAgain.{IsRead}
use Rattle.file_looks.proofs.Cutting.{segments_are}
use Rattle.file_looks.specs.Reading.{ReadOn, StandsAt, bytes_at, bytes_read}
use Rattle.file_looks.specs.Segment.{Cut, NoneFalls, Segment, cut_from, read_to, segments_of, steps_in, with_fall, with_look}
use Rattle.file_looks.specs.Step.{Step, falls_below, place_behind, read_by, reaches, step_at, steps_from}
use Rattle.told_events.proofs.Going.{all_behind, all_others}

-- ---- cuts of more looks

-- the segments that begin with the looks of a cut
abbrev begun : ℕ → Option Look → Cut → List Segment
begun place fall cut = record { place = place; fall = fall; looks = cut.looks } ∷ cut.later

-- whether a read directly after these looks counts
abbrev pub reached : Bool → ℕ → List Look → Bool
reached behind place [] = behind
reached behind place (look ∷ looks) = reached (reaches place look.question look.sight) (place + read_by (step_at behind place look)) looks

abbrev in_front_of : List Look → Cut → Cut
in_front_of looks cut = record { looks = looks ++ cut.looks; later = cut.later }

abbrev NoneFallsIn : List Step → Type 0
NoneFallsIn steps = AllByRecursion (λ step. falls_below step.place step.look.question step.look.sight ≡ false) steps

-- looks of which none falls go on with what follows them
cut_behind : (behind : Bool) (place : ℕ) (looks more : List Look) → NoneFallsIn (steps_from behind place looks) →
    cut_from behind place (looks ++ more)
    ≡ in_front_of looks (cut_from (reached behind place looks) (place_behind place (steps_from behind place looks)) more)
cut_behind behind place [] more none = refl
cut_behind behind place (look ∷ looks) more none =
    let next = place + read_by (step_at behind place look) in
    let here = reaches place look.question look.sight in
    ap (λ (b : Bool). if b then with_fall look (cut_from false 0 (looks ++ more)) else with_look look (cut_from here next (looks ++ more))) none.0
    ∙ ap (λ (c : Cut). with_look look c) (cut_behind here next looks more none.1)

-- the last segment is cut again, with more looks
abbrev recut : List Segment → List Look → List Segment
recut [] more = []
recut (segment ∷ []) more = begun segment.place segment.fall (cut_from false segment.place (segment.looks ++ more))
recut (segment ∷ next ∷ later) more = segment ∷ recut (next ∷ later) more

cuts_on : (place : ℕ) (fall : Option Look) (front : List Look) (behind : Bool) (at : ℕ) (looks more : List Look) →
    ((others : List Look) → cut_from false place (front ++ others) ≡ in_front_of front (cut_from behind at others)) →
    begun place fall (in_front_of front (cut_from behind at (looks ++ more)))
    ≡ recut (begun place fall (in_front_of front (cut_from behind at looks))) more
cuts_on place fall front behind at [] more cuts =
    sym (ap (λ (l : List Look). begun place fall (cut_from false place (l ++ more))) (append-nil front)
    ∙ ap (λ (c : Cut). begun place fall c) (cuts more))
cuts_on place fall front behind at (look ∷ looks) more cuts =
    go (falls_below at look.question look.sight) refl (cuts_on 0 (Some look) [] false 0 looks more (λ others. refl))
    (cuts_on place fall (front ++ look ∷ []) (reaches at look.question look.sight) (at + read_by (step_at behind at look)) looks more)
  where
    spelled : (c : Cut) → begun place fall (in_front_of front (with_look look c)) ≡ begun place fall (in_front_of (front ++ look ∷ []) c)
    spelled c = ap (λ (l : List Look). record { place = place; fall = fall; looks = l } ∷ c.later) (sym (append_assoc front (look ∷ []) c.looks))

    go : (b : Bool) → falls_below at look.question look.sight ≡ b →
        begun 0 (Some look) (in_front_of [] (cut_from false 0 (looks ++ more))) ≡ recut (begun 0 (Some look) (in_front_of [] (cut_from false 0 looks))) more →
        (((others : List Look) → cut_from false place ((front ++ look ∷ []) ++ others)
        ≡ in_front_of (front ++ look ∷ []) (cut_from (reaches at look.question look.sight) (at + read_by (step_at behind at look)) others)) →
        begun place fall (in_front_of (front ++ look ∷ []) (cut_from (reaches at look.question look.sight) (at + read_by (step_at behind at look)) (looks ++ more)))
        ≡ recut (begun place fall (in_front_of (front ++ look ∷ []) (cut_from (reaches at look.question look.sight) (at + read_by (step_at behind at look)) looks))) more) →
        begun place fall (in_front_of front (if b then with_fall look (cut_from false 0 (looks ++ more)) else with_look look (cut_from (reaches at look.question look.sight) (at + read_by (step_at behind at look)) (looks ++ more))))
        ≡ recut (begun place fall (in_front_of front (if b then with_fall look (cut_from false 0 looks) else with_look look (cut_from (reaches at look.question look.sight) (at + read_by (step_at behind at look)) looks)))) more
    go true falls fresh on = ap (λ (l : List Segment). record { place = place; fall = fall; looks = front ++ [] } ∷ l) fresh
    go false holds fresh on =
        let cut : List Look → Cut = λ others. cut_from (reaches at look.question look.sight) (at + read_by (step_at behind at look)) others in
        spelled (cut (looks ++ more))
        ∙ on (λ others. ap (λ (l : List Look). cut_from false place l) (append_assoc front (look ∷ []) others) ∙ cuts (look ∷ others)
        ∙ ap (λ (b : Bool). in_front_of front (if b then with_fall look (cut_from false 0 others) else with_look look (cut others))) holds
        ∙ ap (λ (l : List Look). record { looks = l; later = (cut others).later }) (sym (append_assoc front (look ∷ []) (cut others).looks)))
        ∙ sym (ap (λ (l : List Segment). recut l more) (spelled (cut looks)))

segments_more : (place : ℕ) (looks more : List Look) → segments_of place (looks ++ more) ≡ recut (segments_of place looks) more
segments_more place looks more = cuts_on place None [] false place looks more (λ others. refl)

recut_last : (front : List Segment) (last : Segment) (more : List Look) →
    recut (front ++ last ∷ []) more ≡ front ++ begun last.place last.fall (cut_from false last.place (last.looks ++ more))
recut_last [] last more = refl
recut_last (first ∷ []) last more = refl
recut_last (first ∷ next ∷ front) last more = ap (λ (l : List Segment). first ∷ l) (recut_last (next ∷ front) last more)

module _ (place : ℕ) (looks more : List Look) (front : List Segment) (last : Segment) (are : segments_of place looks ≡ front ++ last ∷ []) where
  last_holds : NoneFalls last
  last_holds = (all_others NoneFalls front (last ∷ []) (subst (λ (l : List Segment). AllByRecursion NoneFalls l) are (segments_are place looks).none_falls)).0

  behind_last : segments_of place (looks ++ more)
      ≡ front ++ begun last.place last.fall (in_front_of last.looks (cut_from (reached false last.place last.looks) (read_to last) more))
  behind_last =
      segments_more place looks more ∙ ap (λ (l : List Segment). recut l more) are ∙ recut_last front last more
      ∙ ap (λ (c : Cut). front ++ begun last.place last.fall c) (cut_behind false last.place last.looks more last_holds)

  -- if none of them falls, the last segment goes on
  pub last_goes_on : NoneFallsIn (steps_from (reached false last.place last.looks) (read_to last) more) →
      segments_of place (looks ++ more) ≡ front ++ record last { looks = last.looks ++ more } ∷ []
  last_goes_on none =
      let b = reached false last.place last.looks in
      let cut : cut_from b (read_to last) more ≡ record { looks = more; later = [] } =
      ap (λ (l : List Look). cut_from b (read_to last) l) (sym (append-nil more)) ∙ cut_behind b (read_to last) more [] none
      ∙ ap (λ (l : List Look). record { looks = l; later = [] }) (append-nil more) in
      behind_last ∙ ap (λ (c : Cut). front ++ begun last.place last.fall (in_front_of last.looks c)) cut

-- ---- the steps of more looks

pub steps_append : (behind : Bool) (place : ℕ) (looks more : List Look) → steps_from behind place (looks ++ more)
    ≡ steps_from behind place looks ++ steps_from (reached behind place looks) (place_behind place (steps_from behind place looks)) more
steps_append behind place [] more = refl
steps_append behind place (look ∷ looks) more =
    ap (λ (l : List Step). step_at behind place look ∷ l)
    (steps_append (reaches place look.question look.sight) (place + read_by (step_at behind place look)) looks more)

place_append : (place : ℕ) (steps more : List Step) → place_behind place (steps ++ more) ≡ place_behind (place_behind place steps) more
place_append place [] more = refl
place_append place (step ∷ steps) more = place_append (place + read_by step) steps more

bytes_append : (file : File) (xs ys : List Step) → flat_map (bytes_at file) (xs ++ ys) ≡ flat_map (bytes_at file) xs ++ flat_map (bytes_at file) ys
bytes_append file [] ys = refl
bytes_append file (x ∷ xs) ys =
    ap (λ (l : List ℕ). bytes_at file x ++ l) (bytes_append file xs ys) ∙ sym (append_assoc (bytes_at file x) (flat_map (bytes_at file) xs) (flat_map (bytes_at file) ys))

-- what a segment read with more looks
pub record ReadsMore (file : File) (last : Segment) (more : List Look) (place : ℕ) (bytes : List ℕ) : Type 0 where
  pub none_falls : NoneFallsIn (steps_from (reached false last.place last.looks) (read_to last) more)
  pub to : read_to (record last { looks = last.looks ++ more }) ≡ place
  pub gives : bytes_read file (record last { looks = last.looks ++ more }) ≡ bytes_read file last ++ bytes
  pub on : ReadOn (steps_in last) → ReadOn (steps_in (record last { looks = last.looks ++ more }))

module _ (file : File) (last : Segment) (more : List Look) (steps : List Step)
    (are : steps_from (reached false last.place last.looks) (read_to last) more ≡ steps) where
  all_steps : steps_in (record last { looks = last.looks ++ more }) ≡ steps_in last ++ steps
  all_steps = steps_append false last.place last.looks more ∙ ap (λ (l : List Step). steps_in last ++ l) are

  pub reads_more : NoneFallsIn steps → ReadOn steps → ReadsMore file last more (place_behind (read_to last) steps) (flat_map (bytes_at file) steps)
  reads_more none stands = record {
    none_falls = subst (λ (l : List Step). NoneFallsIn l) (sym are) none;
    to = ap (λ (l : List Step). place_behind last.place l) all_steps ∙ place_append last.place (steps_in last) steps;
    gives = ap (λ (l : List Step). flat_map (bytes_at file) l) all_steps ∙ bytes_append file (steps_in last) steps;
    on = λ reads. subst (λ (l : List Step). ReadOn l) (sym all_steps)
        (all_behind (λ (step : Step). step.counts ≡ true → StandsAt step.place step.look.question) (steps_in last) steps reads stands);
  }

not_below : (place length : ℕ) → place ≤ length → nat_lt length place ≡ false
not_below place length reaches = grind arith

at_least : (place length : ℕ) → place ≤ length → nat_le place length ≡ true
at_least place length reaches = grind arith

-- a length that is not below, alone
pub asks_length : (file : File) (last : Segment) (sight : Sight) → read_to last ≤ sight.length →
    ReadsMore file last (record { question = Length; sight = sight } ∷ []) (read_to last) []
asks_length file last sight reaches_it =
    let b = reached false last.place last.looks in
    let p = read_to last in
    let steps : List Step = step_at b p (record { question = Length; sight = sight }) ∷ [] in
    let all = reads_more file last (record { question = Length; sight = sight } ∷ []) steps refl (not_below p sight.length reaches_it, tt) ((λ counts. absurd cc), tt) in
    record { none_falls = all.none_falls; to = all.to ∙ omega arith; gives = all.gives; on = all.on }

-- a length that is not below, and a read after it
pub asks_and_reads : (file : File) (last : Segment) (asked sight : Sight) (count : ℕ) → read_to last ≤ asked.length →
    ReadsMore file last (record { question = Length; sight = asked } ∷ record { question = ReadAt (read_to last) count; sight = sight } ∷ [])
    (read_to last + count) (take count (drop (read_to last) (life_of file sight.life)))
asks_and_reads file last asked sight count reaches_it =
    let b = reached false last.place last.looks in
    let p = read_to last in
    let first : Step = step_at b p (record { question = Length; sight = asked }) in
    let second : Bool → ℕ → Step = λ r q. step_at r q (record { question = ReadAt p count; sight = sight }) in
    let here : p + 0 ≡ p = omega arith in
    let are : first ∷ second (nat_le p asked.length) (p + 0) ∷ [] ≡ first ∷ second true p ∷ [] =
    ap (λ (r : Bool). first ∷ second r (p + 0) ∷ []) (at_least p asked.length reaches_it) ∙ ap (λ (q : ℕ). first ∷ second true q ∷ []) here in
    let all = reads_more file last (record { question = Length; sight = asked } ∷ record { question = ReadAt p count; sight = sight } ∷ [])
    (first ∷ second true p ∷ []) are (not_below p asked.length reaches_it, (refl, tt)) ((λ counts. absurd cc), ((λ counts. refl), tt)) in
    record {
      none_falls = all.none_falls;
      to = all.to ∙ omega arith;
      gives = all.gives ∙ ap (λ (l : List ℕ). bytes_read file last ++ l) (append-nil (take count (drop p (life_of file sight.life))));
      on = all.on;
    }

-- ---- a length that is below, and reads that only ask

only_reads : (place : ℕ) (reads : List Look) → AllByRecursion (λ look. IsRead look.question) reads → NoneFallsIn (steps_from false place reads)
only_reads place [] are = tt
only_reads place (look ∷ reads) are = first look.question look.sight are.0 (only_reads (place + 0) reads are.1)
  where
    first : (question : Question) (sight : Sight) → IsRead question → NoneFallsIn (steps_from false (place + 0) reads) →
        NoneFallsIn (steps_from false place (record { question = question; sight = sight } ∷ reads))
    first Length sight is later = absurd is
    first (ReadAt at count) sight is later = (refl, later)

-- they read nothing that counts
pub record ReadsNothing (file : File) (reads : List Look) : Type 0 where
  pub to : (place : ℕ) → place_behind place (steps_from false place reads) ≡ place
  pub gives : (place : ℕ) → flat_map (bytes_at file) (steps_from false place reads) ≡ []
  pub on : (place : ℕ) → ReadOn (steps_from false place reads)

pub reads_nothing : (file : File) (reads : List Look) → AllByRecursion (λ look. IsRead look.question) reads → ReadsNothing file reads
reads_nothing file [] are = record { to = λ place. refl; gives = λ place. refl; on = λ place. tt }
reads_nothing file (look ∷ reads) are = first look.question look.sight are.0 (reads_nothing file reads are.1)
  where
    first : (question : Question) (sight : Sight) → IsRead question → ReadsNothing file reads →
        ReadsNothing file (record { question = question; sight = sight } ∷ reads)
    first Length sight is later = absurd is
    first (ReadAt at count) sight is later = record {
      to = λ place.
          let same : place + 0 ≡ place = omega arith in
          later.to (place + 0) ∙ same;
      gives = λ place. later.gives (place + 0);
      on = λ place. ((λ counts. absurd cc), later.on (place + 0));
    }

module _ (place : ℕ) (looks : List Look) (front : List Segment) (last : Segment) (are : segments_of place looks ≡ front ++ last ∷ [])
    (sight : Sight) (reads : List Look) (below : sight.length < read_to last) (only : AllByRecursion (λ look. IsRead look.question) reads) where
  is_below : nat_lt sight.length (read_to last) ≡ true
  is_below = grind arith

  -- a new segment begins
  pub begins_segment : segments_of place (looks ++ record { question = Length; sight = sight } ∷ reads)
      ≡ front ++ last ∷ record { place = 0; fall = Some (record { question = Length; sight = sight }); looks = reads } ∷ []
  begins_segment =
      let fall : Look = record { question = Length; sight = sight } in
      let b = reached false last.place last.looks in
      let p = read_to last in
      let fresh : cut_from false 0 reads ≡ record { looks = reads; later = [] } =
      ap (λ (l : List Look). cut_from false 0 l) (sym (append-nil reads)) ∙ cut_behind false 0 reads [] (only_reads 0 reads only)
      ∙ ap (λ (l : List Look). record { looks = l; later = [] }) (append-nil reads) in
      let cut : cut_from b p (fall ∷ reads) ≡ with_fall fall (cut_from false 0 reads) =
      ap (λ (c : Bool). if c then with_fall fall (cut_from false 0 reads) else with_look fall (cut_from (reaches p Length sight) (p + read_by (step_at b p fall)) reads)) is_below in
      behind_last place looks (fall ∷ reads) front last are
      ∙ ap (λ (c : Cut). front ++ begun last.place last.fall (in_front_of last.looks c)) (cut ∙ ap (λ (c : Cut). with_fall fall c) fresh)
      ∙ ap (λ (l : List Look). front ++ record { place = last.place; fall = last.fall; looks = l } ∷ record { place = 0; fall = Some fall; looks = reads } ∷ [])
      (append-nil last.looks)
