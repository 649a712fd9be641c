-- What a look at the length of a harvester's tail, and the read after it, add to its history.
use Rattle.std.proofs.Common.{◌≡◌, ℕ, ◌+◌, ◌<◌, ◌≤◌, List, [], ◌∷◌, length, take, drop, Option, Some, None, IfSome, Ok, Err, refl, sym, ap, subst, ◌∙◌, append_assoc, append-nil, arith}
use Rattle.std.proofs.lemmas.List.{length-take-le}
use Rattle.file_identity.specs.Answers.{with_numbers}
use Rattle.file_identity.specs.Key.{WantsBytes}
use Rattle.file_looks.specs.Segment as segment
use Rattle.outside.specs.declared.failed.Failed.{Failed}
use Rattle.outside.specs.declared.history.Look.{Look}
use Rattle.outside.specs.declared.history.Question.{Question}
use Rattle.outside.specs.declared.history.Question.TheVariants.{Length, ReadAt}
use Rattle.outside.specs.Files.{life_of}
use Rattle.outside.specs.Tails.{LooksAtBytes, LooksAtLength, TailHistory, TellsBytes, TellsLength, TellsRead}
use Rattle.harvester.specs.Found.{FoundEnd, LooksAtEnd}
use Rattle.harvester.specs.History.{Asks, History, Reads, read_to, with_bytes, with_present, with_stage}
use Rattle.harvester.specs.Looked.{AreLookedAt, IsLookedAt}
use Rattle.harvester.proofs.LookingOn.{falls, more_end, more_looks, with_looks}
use Rattle.harvester.proofs.Segments.{ReadsMore, asks_and_reads, asks_length}

-- no byte more
pub same_bytes : (h : History) → with_present (with_bytes [] h.present) h ≡ h
same_bytes h = ap (λ (l : List ℕ). with_present (record h.present { bytes = l }) h) (append-nil h.present.bytes)

asked_as : (look : Look) (question : Question) → look.question ≡ question → look ≡ record { question = question; sight = look.sight }
asked_as look question is = ap (λ (q : Question). record { question = q; sight = look.sight }) is

module _ (numbers : Option (ℕ × ℕ)) (h : History) (reads : h.stage ≡ Reads) where
  pub length_failed : (before after : Option TailHistory) (error : Failed) → AreLookedAt numbers h before → TellsLength before (Err error) after →
      AreLookedAt numbers (with_present (with_bytes [] h.present) h) after
  length_failed before after error looked tells = subst (λ (g : History). AreLookedAt numbers g after) (sym (same_bytes h)) (go before looked tells)
    where
      go : (before : Option TailHistory) → AreLookedAt numbers h before → TellsLength before (Err error) after → AreLookedAt numbers h after
      go None looked tells = subst (λ (o : Option TailHistory). AreLookedAt numbers h o) (sym tells) tt
      go (Some told) looked tells = subst (λ (o : Option TailHistory). AreLookedAt numbers h o) (sym tells) looked

  -- the length is below what was read
  pub length_below : WantsBytes h.rule.file_identity → (before after : Option TailHistory) (answer : ℕ) → AreLookedAt numbers h before → TellsLength before (Ok answer) after →
      answer < read_to h.present → AreLookedAt numbers (with_stage Asks h) after
  length_below wants None after answer looked tells below = subst (λ (o : Option TailHistory). AreLookedAt numbers (with_stage Asks h) o) (sym tells) tt
  length_below wants (Some told) after answer looked tells below =
      subst (λ (o : Option TailHistory). AreLookedAt numbers (with_stage Asks h) o) (sym tells.kept)
      (falls numbers h told looked reads wants tells.look tells.asked (subst (λ (n : ℕ). n < read_to h.present) (sym tells.answered) below))

  -- it is not, and nothing was read
  pub length_alone : (before after : Option TailHistory) (answer : ℕ) → AreLookedAt numbers h before → TellsLength before (Ok answer) after →
      read_to h.present ≤ answer → AreLookedAt numbers (with_present (with_bytes [] h.present) h) after
  length_alone None after answer looked tells reached =
      subst (λ (o : Option TailHistory). AreLookedAt numbers (with_present (with_bytes [] h.present) h) o) (sym tells) tt
  length_alone (Some told) after answer looked tells reached =
      let file = with_numbers numbers told.file in
      let last = looked.last in
      let there : segment.read_to last ≤ tells.look.sight.length = omega (arith, looked.present.to, tells.answered) in
      let asks = asks_length file last tells.look.sight there in
      let same : segment.read_to last ≡ segment.read_to last + 0 = omega arith in
      let more : ReadsMore file last (tells.look ∷ []) (segment.read_to last + 0) [] =
      subst (λ (k : Look). ReadsMore file last (k ∷ []) (segment.read_to last + 0) []) (sym (asked_as tells.look Length tells.asked))
      (subst (λ (n : ℕ). ReadsMore file last (record { question = Length; sight = tells.look.sight } ∷ []) n []) same asks) in
      subst (λ (o : Option TailHistory). AreLookedAt numbers (with_present (with_bytes [] h.present) h) o) (sym tells.kept)
      (more_looks numbers h told looked reads (tells.look ∷ []) [] more)

  -- the read after it
  module _ (told : TailHistory) (looked : IsLookedAt numbers h told) (answer : ℕ) (mid : Option TailHistory) (asked : LooksAtLength told answer mid)
      (reached : read_to h.present ≤ answer) (into : List ℕ) (count : ℕ) (within : count ≤ length into) (after : Option TailHistory)
      (read : LooksAtBytes (with_looks told (asked.look ∷ [])) (read_to h.present) into count after) where
    long : length (take count into) ≡ count
    long = length-take-le count into within

    reads_both : ReadsMore (with_numbers numbers told.file) looked.last (asked.look ∷ read.look ∷ [])
        (segment.read_to looked.last + length (take count into)) (take count into)
    reads_both =
        let file = with_numbers numbers told.file in
        let last = looked.last in
        let place : segment.read_to last ≡ read_to h.present = looked.present.to in
        let there : segment.read_to last ≤ asked.look.sight.length = omega (arith, place, asked.answered) in
        let all = asks_and_reads file last asked.look.sight read.look.sight count there in
        let second : read.look ≡ record { question = ReadAt (segment.read_to last) count; sight = read.look.sight } =
        asked_as read.look (ReadAt (segment.read_to last) count) (read.asked ∙ ap (λ (n : ℕ). ReadAt n count) (sym place)) in
        let bytes : take count (drop (segment.read_to last) (life_of told.file read.look.sight.life)) ≡ take count into =
        ap (λ (n : ℕ). take count (drop n (life_of told.file read.look.sight.life))) place ∙ sym read.bytes in
        subst (λ (n : ℕ). ReadsMore file last (asked.look ∷ read.look ∷ []) (segment.read_to last + n) (take count into)) (sym long)
        (subst (λ (l : List ℕ). ReadsMore file last (asked.look ∷ read.look ∷ []) (segment.read_to last + count) l) bytes
        (subst (λ (k : Look). ReadsMore file last (asked.look ∷ k ∷ []) (segment.read_to last + count)
        (take count (drop (segment.read_to last) (life_of told.file read.look.sight.life)))) (sym second)
        (subst (λ (k : Look). ReadsMore file last (k ∷ record { question = ReadAt (segment.read_to last) count; sight = read.look.sight } ∷ []) (segment.read_to last + count)
        (take count (drop (segment.read_to last) (life_of told.file read.look.sight.life)))) (sym (asked_as asked.look Length asked.asked)) all)))

    spelled : with_looks (with_looks told (asked.look ∷ [])) (read.look ∷ []) ≡ with_looks told (asked.look ∷ read.look ∷ [])
    spelled = ap (λ (l : List Look). record told { looks = l }) (append_assoc told.looks (asked.look ∷ []) (read.look ∷ []))

    kept_now : after ≡ Some (with_looks told (asked.look ∷ read.look ∷ []))
    kept_now = read.kept ∙ ap (λ (t : TailHistory). Some t) spelled

    looked_now : IsLookedAt numbers (with_present (with_bytes (take count into) h.present) h) (with_looks told (asked.look ∷ read.look ∷ []))
    looked_now = more_looks numbers h told looked reads (asked.look ∷ read.look ∷ []) (take count into) reads_both

    pub read_looked : AreLookedAt numbers (with_present (with_bytes (take count into) h.present) h) after
    read_looked = subst (λ (o : Option TailHistory). AreLookedAt numbers (with_present (with_bytes (take count into) h.present) h) o) (sym kept_now) looked_now

    module _ (none : count ≡ 0) where
      gives_nothing : read.look.question ≡ ReadAt (read_to h.present) 0
      gives_nothing = read.asked ∙ ap (λ (n : ℕ). ReadAt (read_to h.present) n) none

      pub looks_at_end : LooksAtEnd (read_to h.present) told after
      looks_at_end = record {
        asked = asked.look;
        read = read.look;
        asks = asked.asked;
        not_below = omega (arith, reached, asked.answered);
        gives_nothing = gives_nothing;
        kept = kept_now;
      }

      pub found_end : IfSome after (FoundEnd numbers (with_present (with_bytes (take count into) h.present) h))
      found_end =
          let same : read_to (with_bytes (take count into) h.present) ≡ read_to h.present =
          ap (λ (n : ℕ). read_to (with_bytes (take n into) h.present)) none ∙ ap (λ (l : List ℕ). h.present.start + length l) (append-nil h.present.bytes) in
          subst (λ (o : Option TailHistory). IfSome o (FoundEnd numbers (with_present (with_bytes (take count into) h.present) h))) (sym kept_now)
          (more_end numbers h told looked reads (asked.look ∷ read.look ∷ []) (take count into) reads_both
          (record {
            front = looked.last.looks;
            asked = asked.look;
            read = read.look;
            behind = [];
            looks_are = refl;
            asks = asked.asked;
            not_below = omega (arith, same, reached, asked.answered);
            gives_nothing = gives_nothing ∙ ap (λ (n : ℕ). ReadAt n 0) (sym same);
            stands_there = looked.present.to ∙ sym same;
          }))

  -- ---- a read of any tail

  tells_bytes : (told : TailHistory) (at : ℕ) (into : List ℕ) (count : ℕ) (after : Option TailHistory) → 0 < length into → TellsBytes told at into count after →
      LooksAtBytes told at into count after
  tells_bytes told at [] count after some tells = absurd (let no : 0 < 0 = some in omega arith)
  tells_bytes told at (byte ∷ bytes) count after some tells = tells

  module _ (answer : ℕ) (reached : read_to h.present ≤ answer) (into : List ℕ) (some : 0 < length into) where
    -- what the length and the read reported, one after another
    both_told : (told : TailHistory) (mid after : Option TailHistory) (count : ℕ) → TellsLength (Some told) (Ok answer) mid →
        TellsRead mid (read_to h.present) into (Ok count) after → (asked : LooksAtLength told answer mid) ×
        LooksAtBytes (with_looks told (asked.look ∷ [])) (read_to h.present) into count after
    both_told told mid after count asked read = (
      asked,
      tells_bytes (with_looks told (asked.look ∷ [])) (read_to h.present) into count after some
          (subst (λ (o : Option TailHistory). TellsRead o (read_to h.present) into (Ok count) after) asked.kept read),
    )

    pub both_looked : (before mid after : Option TailHistory) (count : ℕ) → count ≤ length into → AreLookedAt numbers h before → TellsLength before (Ok answer) mid →
        TellsRead mid (read_to h.present) into (Ok count) after → AreLookedAt numbers (with_present (with_bytes (take count into) h.present) h) after
    both_looked None mid after count within looked asked read =
        let none : after ≡ None = subst (λ (o : Option TailHistory). TellsRead o (read_to h.present) into (Ok count) after) asked read in
        subst (λ (o : Option TailHistory). AreLookedAt numbers (with_present (with_bytes (take count into) h.present) h) o) (sym none) tt
    both_looked (Some told) mid after count within looked asked read =
        let b = both_told told mid after count asked read in
        read_looked told looked answer mid b.0 reached into count within after b.1

    pub both_end : (before mid after : Option TailHistory) (count : ℕ) → count ≤ length into → AreLookedAt numbers h before → TellsLength before (Ok answer) mid →
        TellsRead mid (read_to h.present) into (Ok count) after → count ≡ 0 →
        IfSome before (λ told. LooksAtEnd (read_to h.present) told after)
        × IfSome after (FoundEnd numbers (with_present (with_bytes (take count into) h.present) h))
    both_end None mid after count within looked asked read none =
        let nothing : after ≡ None = subst (λ (o : Option TailHistory). TellsRead o (read_to h.present) into (Ok count) after) asked read in (
          tt,
          subst (λ (o : Option TailHistory). IfSome o (FoundEnd numbers (with_present (with_bytes (take count into) h.present) h))) (sym nothing) tt,
        )
    both_end (Some told) mid after count within looked asked read none =
        let b = both_told told mid after count asked read in (
          looks_at_end told looked answer mid b.0 reached into count within after b.1 none,
          found_end told looked answer mid b.0 reached into count within after b.1 none,
        )

    -- the read failed
    pub read_failed : (before mid after : Option TailHistory) (error : Failed) → AreLookedAt numbers h before → TellsLength before (Ok answer) mid →
        TellsRead mid (read_to h.present) into (Err error) after → AreLookedAt numbers (with_present (with_bytes [] h.present) h) after
    read_failed before mid after error looked asked read =
        go mid refl (length_alone before mid answer looked asked reached) read
      where
        go : (o : Option TailHistory) → mid ≡ o → AreLookedAt numbers (with_present (with_bytes [] h.present) h) mid →
            TellsRead mid (read_to h.present) into (Err error) after → AreLookedAt numbers (with_present (with_bytes [] h.present) h) after
        go None is now read =
            let none : after ≡ None = subst (λ (o : Option TailHistory). TellsRead o (read_to h.present) into (Err error) after) is read in
            subst (λ (o : Option TailHistory). AreLookedAt numbers (with_present (with_bytes [] h.present) h) o) (sym none) tt
        go (Some told) is now read =
            let same : after ≡ Some told = subst (λ (o : Option TailHistory). TellsRead o (read_to h.present) into (Err error) after) is read in
            subst (λ (o : Option TailHistory). AreLookedAt numbers (with_present (with_bytes [] h.present) h) o) (is ∙ sym same) now
