-- What a look gives, as contracts tell it.
use Rattle.std.proofs.Common.{◌≡◌, ℕ, ◌<◌, ◌≤◌, List, [], length, take, Option, Some, None, IfSome, IsErr, Result, Ok, Err, true, false, refl, sym, ap, subst, ◌∙◌, arith}
use Rattle.std.proofs.lemmas.List.{length-take-le}
use Rattle.outside.specs.declared.failed.Failed.{Failed}
use Rattle.outside.specs.Tails.{TailHistory, TellsLength, TellsRead}
use Rattle.harvester.specs.declared.harvester.Harvester.{Harvester}
use Rattle.harvester.specs.declared.look.Found.{Found}
use Rattle.harvester.specs.declared.look.Found.TheVariants.{Less, More, End}
use Rattle.harvester.specs.declared.stage.Stage.TheVariants.{Reading}
use Rattle.harvester.specs.declared.turn_error.TurnError.{TurnError}
use Rattle.harvester.specs.Found.{FoundEnd, HasLooked}
use Rattle.harvester.specs.HasTold.{HasTold}
use Rattle.harvester.specs.Held.{Held}
use Rattle.harvester.specs.History.{Asks, History, Reads, Stage, read_to, with_bytes, with_present, with_read, with_stage}
use Rattle.harvester.specs.Looked.{AreLookedAt}
use Rattle.harvester.specs.Standing.{StandsFor, stage_of}
use Rattle.harvester.proofs.Lasting.{same_read}
use Rattle.harvester.proofs.LookingOn.{found_as_well, other_turn}
use Rattle.harvester.proofs.Unanswered.{wants_bytes}
use Rattle.harvester.proofs.LookSteps.{both_end, both_looked, length_alone, length_below, length_failed, read_failed, same_bytes}

module _ {T : Type 0} (numbers : T → Option (ℕ × ℕ)) (told : T → Option TailHistory) (most now : ℕ) (h : History) (old : Harvester T)
    (has : HasTold numbers told h old) (reading : old.reader.stage ≡ Reading) where
  pub reads : h.stage ≡ Reads
  reads = sym has.held.holds.follows.stage ∙ ap stage_of reading

  with_reads : (g : History) → g.stage ≡ Reads → g ≡ with_stage Reads g
  with_reads g is = ap (λ (s : Stage). with_stage s g) is

  module _ (tail : T) (same : numbers tail ≡ numbers old.tail) (reader : Held) where
    pub less : (answer : ℕ) → TellsLength (told old.tail) (Ok answer) (told tail) → answer < old.reader.position → StandsFor (with_stage Asks h) reader →
        HasLooked numbers told most now h old (Ok Less) (record old { tail = tail; reader = reader })
    less answer tells below stands =
        let looked = length_below (numbers old.tail) h reads (wants_bytes h old.reader has.held) (told old.tail) (told tail) answer has.looked tells (omega (arith, below, has.held.holds.position.position)) in
        record {
          bytes = [];
          gave = refl;
          has_told = subst (λ (g : History). HasTold numbers told (with_stage Asks g) (record old { tail = tail; reader = reader })) (sym (same_read now h))
              (record {
                held = stands;
                decides = has.decides;
                looked = subst (λ (n : Option (ℕ × ℕ)). AreLookedAt n (with_stage Asks h) (told tail)) (sym same) looked;
              });
          at_end = λ is. absurd cc;
        }

    failed : (result : Result Found TurnError) → IsErr result → StandsFor h reader →
        AreLookedAt (numbers old.tail) (with_present (with_bytes [] h.present) h) (told tail) →
        HasLooked numbers told most now h old result (record old { tail = tail; reader = reader })
    failed (Ok found) err stands looked = absurd (let no : false ≡ true = err in cc)
    failed (Err error) err stands looked = record {
      bytes = [];
      gave = refl;
      has_told = subst (λ (g : History). HasTold numbers told g (record old { tail = tail; reader = reader }))
          (with_reads h reads ∙ ap (λ (g : History). with_stage Reads g) (sym (same_read now h)))
          (record {
            held = stands;
            decides = has.decides;
            looked = subst (λ (n : Option (ℕ × ℕ)). AreLookedAt n h (told tail)) (sym same)
                (subst (λ (g : History). AreLookedAt (numbers old.tail) g (told tail)) (same_bytes h) looked);
          });
      at_end = λ is. absurd cc;
    }

    pub no_length : (result : Result Found TurnError) → IsErr result → (cause : Failed) → TellsLength (told old.tail) (Err cause) (told tail) → StandsFor h reader →
        HasLooked numbers told most now h old result (record old { tail = tail; reader = reader })
    no_length result err cause tells stands =
        failed result err stands (length_failed (numbers old.tail) h reads (told old.tail) (told tail) cause has.looked tells)

    pub no_room : (result : Result Found TurnError) → IsErr result → (answer : ℕ) → TellsLength (told old.tail) (Ok answer) (told tail) → old.reader.position ≤ answer →
        StandsFor h reader → HasLooked numbers told most now h old result (record old { tail = tail; reader = reader })
    no_room result err answer tells reached stands =
        failed result err stands (length_alone (numbers old.tail) h reads (told old.tail) (told tail) answer has.looked tells (omega (arith, reached, has.held.holds.position.position)))

    pub no_read : (result : Result Found TurnError) → IsErr result → (answer : ℕ) (mid : T) (at : ℕ) (into : List ℕ) (cause : Failed) → TellsLength (told old.tail) (Ok answer) (told mid) →
        old.reader.position ≤ answer → at ≡ old.reader.position → 0 < length into → TellsRead (told mid) at into (Err cause) (told tail) → StandsFor h reader →
        HasLooked numbers told most now h old result (record old { tail = tail; reader = reader })
    no_read result err answer mid at into cause asked reached place some read stands =
        failed result err stands
        (read_failed (numbers old.tail) h reads answer (omega (arith, reached, has.held.holds.position.position)) into some (told old.tail) (told mid) (told tail) cause has.looked asked
        (subst (λ (n : ℕ). TellsRead (told mid) n into (Err cause) (told tail)) (place ∙ has.held.holds.position.position) read))

    module _ (answer : ℕ) (mid : T) (at : ℕ) (into : List ℕ) (count : ℕ) (asked : TellsLength (told old.tail) (Ok answer) (told mid))
        (reached : old.reader.position ≤ answer) (place : at ≡ old.reader.position) (some : 0 < length into) (within : count ≤ length into)
        (read : TellsRead (told mid) at into (Ok count) (told tail))
        (stands : StandsFor (with_read now (take count into) h) reader) where
      reached_there : read_to h.present ≤ answer
      reached_there = omega (arith, reached, has.held.holds.position.position)

      read_there : TellsRead (told mid) (read_to h.present) into (Ok count) (told tail)
      read_there = subst (λ (n : ℕ). TellsRead (told mid) n into (Ok count) (told tail)) (place ∙ has.held.holds.position.position) read

      -- when the last line was read is no part of what is looked at
      looked_then : (o : Option TailHistory) → AreLookedAt (numbers old.tail) (with_present (with_bytes (take count into) h.present) h) o →
          AreLookedAt (numbers old.tail) (with_read now (take count into) h) o
      looked_then None looked = tt
      looked_then (Some after) looked =
          other_turn (numbers old.tail) (with_present (with_bytes (take count into) h.present) h) after looked h.path h.moments (with_read now (take count into) h).last_line
          h.ends h.may_end h.forgets (λ may. may) (λ distance apart. apart)

      now_told : HasTold numbers told (with_stage Reads (with_read now (take count into) h)) (record old { tail = tail; reader = reader })
      now_told =
          subst (λ (g : History). HasTold numbers told g (record old { tail = tail; reader = reader }))
          (with_reads (with_read now (take count into) h) reads)
          (record {
            held = stands;
            decides = has.decides;
            looked = subst (λ (n : Option (ℕ × ℕ)). AreLookedAt n (with_read now (take count into) h) (told tail)) (sym same)
                (looked_then (told tail) (both_looked (numbers old.tail) h reads answer reached_there into some (told old.tail) (told mid) (told tail) count within has.looked asked read_there));
          })

      found_then : (o : Option TailHistory) → IfSome o (FoundEnd (numbers old.tail) (with_present (with_bytes (take count into) h.present) h)) →
          IfSome o (FoundEnd (numbers old.tail) (with_read now (take count into) h))
      found_then None found = tt
      found_then (Some after) found =
          found_as_well (numbers old.tail) (with_present (with_bytes (take count into) h.present) h) after (with_read now (take count into) h).last_line found

      pub more : 0 < count → count ≤ most → HasLooked numbers told most now h old (Ok More) (record old { tail = tail; reader = reader })
      more gave room =
          let long : length (take count into) ≡ count = length-take-le count into within in
          record {
            bytes = take count into;
            gave = (omega (arith, long, gave), omega (arith, long, room));
            has_told = now_told;
            at_end = λ is. absurd cc;
          }

      pub end : count ≡ 0 → HasLooked numbers told most now h old (Ok End) (record old { tail = tail; reader = reader })
      end none =
          let found = both_end (numbers old.tail) h reads answer reached_there into some (told old.tail) (told mid) (told tail) count within has.looked asked read_there none in
          record {
            bytes = take count into;
            gave = ap (λ (n : ℕ). take n into) none;
            has_told = now_told;
            at_end = λ is. record {
              looks = found.0;
              found = subst (λ (n : Option (ℕ × ℕ)). IfSome (told tail) (FoundEnd n (with_read now (take count into) h))) (sym same) (found_then (told tail) found.1);
            };
          }
