-- Which looks a turn's calls add.
use Rattle.std.proofs.Common.{◌≡◌, ◌⊎◌, inl, inr, ℕ, ◌<◌, ◌≤◌, List, [], ◌∷◌, ◌++◌, length, Bool, Option, Some, None, IfSome, IsErr, IsNone, Result, Ok, Err, true, false, refl, sym, ap, subst, ◌∙◌, append_assoc, append-nil, arith}
use Rattle.event_tree.specs.declared.input_rule.IdentityRule.{IdentityRule}
use Rattle.file_identity.specs.Answers.{with_numbers}
use Rattle.file_identity.specs.Reading.{Adds}
use Rattle.file_looks.specs.Looks.{AreLooks, IsAnswered}
use Rattle.outside.specs.declared.failed.Failed.{Failed}
use Rattle.outside.specs.declared.history.Look.{Look}
use Rattle.outside.specs.declared.history.Question.{Question}
use Rattle.outside.specs.declared.history.Question.TheVariants.{ReadAt}
use Rattle.outside.specs.declared.history.Sight.{Sight}
use Rattle.outside.specs.Files.{File, latest}
use Rattle.outside.specs.Tails.{LooksAtBytes, TailHistory, TellsBytes, TellsLength, TellsRead, last_sight, with_look}
use Rattle.wire_base.specs.declared.note.Begin.{Begin}
use Rattle.harvester.specs.declared.look.Found.{Found}
use Rattle.harvester.specs.declared.look.Found.TheVariants.{Less, More, End}
use Rattle.harvester.specs.declared.stage.Stage.{Stage as ReaderStage}
use Rattle.harvester.specs.declared.turn.Turn.{Turn}
use Rattle.harvester.specs.declared.turn.Turn.TheVariants as turn
use Rattle.harvester.specs.declared.turn_error.TurnError.{TurnError}
use Rattle.harvester.specs.declared.turn_error.TurnError.TheVariants as error
use Rattle.harvester.proofs.Unanswered.{refused_is_part}
use Rattle.harvester.specs.Asked.{IsGivenKey, WasAsked}
use Rattle.harvester.specs.Held.{Held}
use Rattle.harvester.specs.Turned.{HasOneEvent}
use Rattle.harvester.specs.TurnLooks.{AddsSome, AreOfLook, AreOfReading, AreOfTurn, AskForKey, HasGivenKey, HasReached, HasRead, IsRefused, LooksOn, TellsOrFails}
use Rattle.harvester.specs.Turns.{answer_of}

-- ---- looks one after another

latest-append : (sight : Sight) (looks more : List Look) → latest sight (looks ++ more) ≡ latest (latest sight looks) more
latest-append sight [] more = refl
latest-append sight (look ∷ looks) more = latest-append look.sight looks more

looks-append : (file : File) (before : Sight) (looks more : List Look) → AreLooks file before looks → AreLooks file (latest before looks) more →
    AreLooks file before (looks ++ more)
looks-append file before [] more are behind = behind
looks-append file before (look ∷ looks) more are behind = (are.0, looks-append file look.sight looks more are.1 behind)

adds_both : (told : TailHistory) (looks more : List Look) (mid after : Option TailHistory) → Adds told looks mid →
    IfSome mid (λ between. Adds between more after) → Adds told (looks ++ more) after
adds_both told looks more mid after first second =
    let there : Adds (record told { looks = told.looks ++ looks }) more after = subst (λ (o : Option TailHistory). IfSome o (λ between. Adds between more after)) first.kept second in
    record {
      kept = there.kept ∙ ap (λ (l : List Look). Some (record told { looks = l })) (append_assoc told.looks looks more);
      shown = looks-append told.file (last_sight told) looks more first.shown
          (subst (λ (s : Sight). AreLooks told.file s more) (latest-append told.begun told.looks looks) there.shown);
    }

adds_none : (told : TailHistory) → Adds told [] (Some told)
adds_none told = record { kept = ap (λ (l : List Look). Some (record told { looks = l })) (sym (append-nil told.looks)); shown = tt }

-- ---- what one call adds

module _ (told : TailHistory) (after : Option TailHistory) where
  length_adds : (answer : ℕ) (tells : TellsLength (Some told) (Ok answer) after) → Adds told (tells.look ∷ []) after
  length_adds answer tells = record {
    kept = tells.kept;
    shown = (
      record {
        of_file = tells.next.of_file;
        no_earlier = tells.next.no_earlier;
        answered = let A : Question → Type 0 = λ q. IsAnswered q tells.look.sight in subst A (sym tells.asked) tt;
      },
      tt,
    );
  }

  looks_at : (at : ℕ) (into : List ℕ) (count : ℕ) → 0 < length into → TellsBytes told at into count after → LooksAtBytes told at into count after
  looks_at at [] count some tells = absurd (omega (arith, some))
  looks_at at (byte ∷ bytes) count some tells = tells

  read_adds : (at : ℕ) (into : List ℕ) (count : ℕ) (looked : LooksAtBytes told at into count after) → Adds told (looked.look ∷ []) after
  read_adds at into count looked = record {
    kept = looked.kept;
    shown = (
      record {
        of_file = looked.next.of_file;
        no_earlier = looked.next.no_earlier;
        answered = let A : Question → Type 0 = λ q. IsAnswered q looked.look.sight in subst A (sym looked.asked) (looked.within, looked.none_only_at_the_end);
      },
      tt,
    );
  }

-- ---- steps

-- no look
pub no_look : (Are : File → List Look → Type 0) → ((file : File) → Are file []) → (numbers : Option (ℕ × ℕ)) (before after : Option TailHistory) → after ≡ before →
    LooksOn Are numbers before after
no_look Are none numbers None after same = same
no_look Are none numbers (Some told) after same =
    record { looks = []; added = subst (λ (o : Option TailHistory). Adds told [] o) (sym same) (adds_none told); are = none (with_numbers numbers told.file) }

looks_as : (Are Other : File → List Look → Type 0) → ((file : File) (looks : List Look) → Are file looks → Other file looks) →
    (numbers : Option (ℕ × ℕ)) (before after : Option TailHistory) → LooksOn Are numbers before after → LooksOn Other numbers before after
looks_as Are Other is numbers None after looks = looks
looks_as Are Other is numbers (Some told) after looks =
    record { looks = looks.looks; added = looks.added; are = is (with_numbers numbers told.file) looks.looks looks.are }

-- ---- a look

module _ (place : ℕ) (numbers : Option (ℕ × ℕ)) (before mid after : Option TailHistory) where
  pub look_below : (answer : ℕ) → TellsLength before (Ok answer) after → answer < place → LooksOn (AreOfLook (Ok Less) place) numbers before after
  look_below answer tells below = go before tells
    where
      go : (o : Option TailHistory) → TellsLength o (Ok answer) after → LooksOn (AreOfLook (Ok Less) place) numbers o after
      go None tells = tells
      go (Some told) tells = record {
        looks = tells.look ∷ [];
        added = length_adds told after answer tells;
        are = record { asked = tells.look; are = refl; asks = tells.asked; below = omega (arith, tells.answered, below) };
      }

  pub length_failed : (result : Result Found TurnError) → IsErr result → (cause : Failed) → TellsLength before (Err cause) after →
      LooksOn (AreOfLook result place) numbers before after
  length_failed (Ok found) err cause tells = absurd (let no : false ≡ true = err in cc)
  length_failed (Err error) err cause tells = go before tells
    where
      go : (o : Option TailHistory) → TellsLength o (Err cause) after → LooksOn (AreOfLook (Err error) place) numbers o after
      go None tells = tells
      go (Some told) tells = no_look (AreOfLook (Err error) place) (λ file. inl refl) numbers (Some told) after tells

  pub room_failed : (result : Result Found TurnError) → IsErr result → (answer : ℕ) → TellsLength before (Ok answer) after → place ≤ answer →
      LooksOn (AreOfLook result place) numbers before after
  room_failed (Ok found) err answer tells reached = absurd (let no : false ≡ true = err in cc)
  room_failed (Err error) err answer tells reached = go before tells
    where
      go : (o : Option TailHistory) → TellsLength o (Ok answer) after → LooksOn (AreOfLook (Err error) place) numbers o after
      go None tells = tells
      go (Some told) tells = record {
        looks = tells.look ∷ [];
        added = length_adds told after answer tells;
        are = inr (record { asked = tells.look; are = refl; asks = tells.asked; reached = omega (arith, tells.answered, reached) });
      }

  module _ (answer : ℕ) (asked : TellsLength before (Ok answer) mid) (reached : place ≤ answer) (at : ℕ) (is_place : at ≡ place) (into : List ℕ) where
    pub read_failed : (result : Result Found TurnError) → IsErr result → (cause : Failed) → TellsRead mid at into (Err cause) after →
        LooksOn (AreOfLook result place) numbers before after
    read_failed (Ok found) err cause tells = absurd (let no : false ≡ true = err in cc)
    read_failed (Err error) err cause tells = go before asked
      where
        same : (o : Option TailHistory) → TellsRead o at into (Err cause) after → after ≡ o
        same None tells = tells
        same (Some told) tells = tells

        go : (o : Option TailHistory) → TellsLength o (Ok answer) mid → LooksOn (AreOfLook (Err error) place) numbers o after
        go None asked = same mid tells ∙ asked
        go (Some told) asked = record {
          looks = asked.look ∷ [];
          added = subst (λ (o : Option TailHistory). Adds told (asked.look ∷ []) o) (sym (same mid tells)) (length_adds told mid answer asked);
          are = inr (record { asked = asked.look; are = refl; asks = asked.asked; reached = omega (arith, asked.answered, reached) });
        }

    pub has_read : (found : Found) → (found ≡ More) ⊎ (found ≡ End) → (count : ℕ) → 0 < length into → TellsRead mid at into (Ok count) after →
        LooksOn (AreOfLook (Ok found) place) numbers before after
    has_read found which count some tells = by which
      where
        none_kept : mid ≡ None → TellsRead mid at into (Ok count) after → after ≡ None
        none_kept none read = subst (λ (o : Option TailHistory). TellsRead o at into (Ok count) after) none read

        go : (o : Option TailHistory) → TellsLength o (Ok answer) mid → LooksOn (λ file looks. HasRead place looks) numbers o after
        go None asked = none_kept asked tells
        go (Some told) asked =
            let then = with_look told asked.look in
            let looked = looks_at then after at into count some (subst (λ (o : Option TailHistory). TellsRead o at into (Ok count) after) asked.kept tells) in
            record {
              looks = asked.look ∷ looked.look ∷ [];
              added = adds_both told (asked.look ∷ []) (looked.look ∷ []) mid after (length_adds told mid answer asked)
                  (subst (λ (o : Option TailHistory). IfSome o (λ between. Adds between (looked.look ∷ []) after)) (sym asked.kept) (read_adds then after at into count looked));
              are = record {
                asked = asked.look;
                read = looked.look;
                count = count;
                are = refl;
                asks = asked.asked;
                reached = omega (arith, asked.answered, reached);
                reads = looked.asked ∙ ap (λ (n : ℕ). ReadAt n count) is_place;
              };
            }

        by : (found ≡ More) ⊎ (found ≡ End) → LooksOn (AreOfLook (Ok found) place) numbers before after
        by (inl more) = subst (λ (f : Found). LooksOn (AreOfLook (Ok f) place) numbers before after) (sym more) (go before asked)
        by (inr end) = subst (λ (f : Found). LooksOn (AreOfLook (Ok f) place) numbers before after) (sym end) (go before asked)

-- ---- an asking

module _ (held : Held) (numbers : Option (ℕ × ℕ)) (before after : Option TailHistory) (untold : IsNone before → IsNone after) where
  asked_as : (result : Result Bool TurnError) (answer : Turn) → ((file : File) (looks : List Look) → IsGivenKey held file looks result → AskForKey held answer file looks) →
      IfSome before (λ told. WasAsked held numbers told result after) → LooksOn (AskForKey held answer) numbers before after
  asked_as result answer is asked = go before untold asked
    where
      none_of : (o : Option TailHistory) → IsNone o → o ≡ None
      none_of None none = refl
      none_of (Some value) none = absurd (let no : true ≡ false = none in cc)

      go : (o : Option TailHistory) → (IsNone o → IsNone after) → IfSome o (λ told. WasAsked held numbers told result after) →
          LooksOn (AskForKey held answer) numbers o after
      go None untold asked = none_of after (untold refl)
      go (Some told) untold asked =
          record { looks = asked.looks; added = asked.added; are = is (with_numbers numbers told.file) asked.looks asked.gave }

  pub same_key : (given : Bool) → given ≡ true → (answer : Turn) → HasGivenKey answer → IfSome before (λ told. WasAsked held numbers told (Ok given) after) →
      LooksOn (AskForKey held answer) numbers before after
  same_key given is answer gives asked = by answer gives
    where
      there : IfSome before (λ told. WasAsked held numbers told (Ok true) after)
      there = subst (λ (b : Bool). IfSome before (λ told. WasAsked held numbers told (Ok b) after)) is asked

      by : (answer : Turn) → HasGivenKey answer → LooksOn (AskForKey held answer) numbers before after
      by (turn.NewLife epoch) gives = asked_as (Ok true) (turn.NewLife epoch) (λ file looks gave. gave) there
      by turn.EpochsOut gives = asked_as (Ok true) turn.EpochsOut (λ file looks gave. gave) there
      by turn.Changed gives = absurd gives
      by (turn.Issued parcel) gives = absurd gives
      by (turn.Passed span rule) gives = absurd gives
      by turn.More gives = absurd gives
      by turn.AtEnd gives = absurd gives
      by turn.ReadFault gives = absurd gives
      by turn.NoMemory gives = absurd gives

  pub other_key : (given : Bool) → given ≡ false → IfSome before (λ told. WasAsked held numbers told (Ok given) after) →
      LooksOn (AskForKey held turn.Changed) numbers before after
  other_key given is asked =
      asked_as (Ok false) turn.Changed (λ file looks gave. gave)
      (subst (λ (b : Bool). IfSome before (λ told. WasAsked held numbers told (Ok b) after)) is asked)

  pub asking_refused : (cause : TurnError) (result : Result Turn TurnError) → IsErr result → IfSome before (λ told. WasAsked held numbers told (Err cause) after) →
      LooksOn (AskForKey held (answer_of result)) numbers before after
  asking_refused cause (Ok answer) err asked = absurd (let no : false ≡ true = err in cc)
  asking_refused cause (Err error.ReadFault) err asked = asked_as (Err cause) turn.ReadFault (λ file looks gave. refused_is_part held file looks cause gave) asked
  asking_refused cause (Err error.NoMemory) err asked = asked_as (Err cause) turn.NoMemory (λ file looks gave. refused_is_part held file looks cause gave) asked

-- ---- a whole turn

-- after a length that is below the place
module _ (held asking : Held) (begin : asking.begin ≡ held.begin) (input : asking.input ≡ held.input) (identity : asking.identity ≡ held.identity) where
  asked_of : (file : File) (answer : Turn) (looks : List Look) → AskForKey asking answer file looks → AskForKey held answer file looks
  asked_of file answer looks asked =
      subst (λ (b : Begin). AskForKey (record held { begin = b }) answer file looks) begin
      (subst (λ (i : List ℕ). AskForKey (record held { begin = asking.begin; input = i }) answer file looks) input
      (subst (λ (r : IdentityRule). AskForKey (record held { begin = asking.begin; input = asking.input; identity = r }) answer file looks) identity (same answer asked)))
    where
      same : (answer : Turn) → AskForKey asking answer file looks →
          AskForKey (record held { begin = asking.begin; input = asking.input; identity = asking.identity }) answer file looks
      same (turn.NewLife epoch) is = is
      same turn.EpochsOut is = is
      same turn.Changed is = is
      same turn.ReadFault is = is
      same turn.NoMemory is = is
      same (turn.Issued parcel) is = is
      same (turn.Passed span rule) is = is
      same turn.More is = is
      same turn.AtEnd is = is

  pub asked_below : (answer : Turn) (at : ℕ) → at ≡ held.position → (numbers other : Option (ℕ × ℕ)) → other ≡ numbers → (before mid after : Option TailHistory) →
      LooksOn (AreOfLook (Ok Less) at) numbers before mid → LooksOn (AskForKey asking answer) other mid after →
      LooksOn (AreOfReading held answer) numbers before after
  asked_below answer at place numbers other same None mid after looked asked =
      subst (λ (o : Option TailHistory). LooksOn (AskForKey asking answer) other o after) looked asked
  asked_below answer at place numbers other same (Some told) mid after looked asked =
      let then = record told { looks = told.looks ++ looked.looks } in
      let reads : AddsSome (AskForKey asking answer) numbers then after =
      subst (λ (n : Option (ℕ × ℕ)). AddsSome (AskForKey asking answer) n then after) same
      (subst (λ (o : Option TailHistory). LooksOn (AskForKey asking answer) other o after) looked.added.kept asked) in
      let file = with_numbers numbers told.file in
      record {
        looks = looked.looks ++ reads.looks;
        added = adds_both told looked.looks reads.looks mid after looked.added
            (subst (λ (o : Option TailHistory). IfSome o (λ between. Adds between reads.looks after)) (sym looked.added.kept) reads.added);
        are = subst (λ (l : List Look). AreOfReading held answer file (l ++ reads.looks)) (sym looked.are.are)
            (looked.are.asks, inl (omega (arith, looked.are.below, place), asked_of file answer reads.looks reads.are));
      }

-- without a look
pub tells_of : (answer : Turn) → HasOneEvent answer → TellsOrFails answer
tells_of (turn.Issued parcel) one = tt
tells_of (turn.Passed span rule) one = tt
tells_of turn.More one = absurd one
tells_of turn.AtEnd one = absurd one
tells_of (turn.NewLife epoch) one = absurd one
tells_of turn.Changed one = absurd one
tells_of turn.EpochsOut one = absurd one
tells_of turn.ReadFault one = absurd one
tells_of turn.NoMemory one = absurd one

pub fails_of : (result : Result Turn TurnError) → IsErr result → TellsOrFails (answer_of result)
fails_of (Ok answer) err = absurd (let no : false ≡ true = err in cc)
fails_of (Err error.ReadFault) err = tt
fails_of (Err error.NoMemory) err = tt

module _ (held : Held) (at : ℕ) (place : at ≡ held.position) where
  -- by a look that read, after which the tail was kept, whatever was reported then
  pub looks_of_read : (answer : Turn) (numbers : Option (ℕ × ℕ)) (found : Found) → (found ≡ More) ⊎ (found ≡ End) → (before mid after : Option TailHistory) →
      LooksOn (AreOfLook (Ok found) at) numbers before mid → after ≡ mid → LooksOn (AreOfReading held answer) numbers before after
  looks_of_read answer numbers found which before mid after looks kept =
      looks_as (λ file looks. HasRead at looks) (AreOfReading held answer) (λ file looks is. read file looks is) numbers before after
      (subst (λ (o : Option TailHistory). LooksOn (λ file looks. HasRead at looks) numbers before o) (sym kept) (by which looks))
    where
      by : (found ≡ More) ⊎ (found ≡ End) → LooksOn (AreOfLook (Ok found) at) numbers before mid → LooksOn (λ file looks. HasRead at looks) numbers before mid
      by (inl more) looks = subst (λ (f : Found). LooksOn (AreOfLook (Ok f) at) numbers before mid) more looks
      by (inr end) looks = subst (λ (f : Found). LooksOn (AreOfLook (Ok f) at) numbers before mid) end looks

      read : (file : File) (looks : List Look) → HasRead at looks → AreOfReading held answer file looks
      read file looks is =
          subst (λ (l : List Look). AreOfReading held answer file l) (sym is.are)
          (is.asks, inr (omega (arith, is.reached, place), (is.count, is.reads ∙ ap (λ (n : ℕ). ReadAt n is.count) place)))

  -- by a look that was refused
  pub looks_refused : (result : Result Turn TurnError) → IsErr result → (numbers : Option (ℕ × ℕ)) (before after : Option TailHistory) →
      LooksOn (λ file looks. (looks ≡ []) ⊎ HasReached at looks) numbers before after → LooksOn (AreOfReading held (answer_of result)) numbers before after
  looks_refused result err numbers before after looks =
      looks_as (λ file looks. (looks ≡ []) ⊎ HasReached at looks) (AreOfReading held (answer_of result)) (λ file looks are. either file looks are) numbers before after looks
    where
      refused : (r : Result Turn TurnError) → IsErr r → IsRefused (answer_of r)
      refused (Ok answer) err = absurd (let no : false ≡ true = err in cc)
      refused (Err error.ReadFault) err = tt
      refused (Err error.NoMemory) err = tt

      either : (file : File) (looks : List Look) → (looks ≡ []) ⊎ HasReached at looks → AreOfReading held (answer_of result) file looks
      either file looks (inl none) = subst (λ (l : List Look). AreOfReading held (answer_of result) file l) (sym none) (fails_of result err)
      either file looks (inr is) =
          subst (λ (l : List Look). AreOfReading held (answer_of result) file l) (sym is.are)
          (is.asks, inr (omega (arith, is.reached, place), refused result err))

-- by the state of the file
pub looks_at_stage : (stage other : ReaderStage) → stage ≡ other → (held : Held) (answer : Turn) (numbers : Option (ℕ × ℕ)) (before after : Option TailHistory) →
    LooksOn (AreOfTurn other held answer) numbers before after → LooksOn (AreOfTurn stage held answer) numbers before after
looks_at_stage stage other is held answer numbers before after looks =
    subst (λ (s : ReaderStage). LooksOn (AreOfTurn s held answer) numbers before after) (sym is) looks
