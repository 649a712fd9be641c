use Rattle.std.proofs.Common.{◌≡◌, ◌≢◌, ◌∙◌, ap, subst, List, ℕ, [], inl, inr, map, false, true}
use Rattle.std.proofs.lemmas.Bool.{false≢true}
use Rattle.std.proofs.lemmas.Result.{IfOk-weaker}
use Rattle.clap.specs.Faults.{fault_of}
use Rattle.clap.specs.Matches.{found_of}
use Rattle.clap.specs.Simple.{matches_of}
use Rattle.clap.specs.Walk.{rows_of}
use Rattle.command_line.specs.Command.{beat_command}
use Rattle.command_line.proofs.Rows.{asks_of_words}
use Rattle.command_line.proofs.read.read_words.Goals as goal

pub returns-in-Ok : goal.returns-in-Ok
returns-in-Ok c =
    let words : map (λ word. word.now) c.as_slice.result.now ≡ c.args.words.now = ap (map (λ word. word.now)) c.as_slice.ensures.value ∙ c.in_ok-words.ensures in
    let taken = subst (λ (w : List (List ℕ)). fault_of beat_command w ≡ []) words c.in-Ok.ensures.taken in
    let found = c.in-Ok.ensures.found ∙ ap (matches_of beat_command) words in
    record {
      asked_exactly_where_taken = IfOk-weaker c.words_of.result _ _
          (λ asked h. asks_of_words c.args.words.now (rows_of (found_of c.in-Ok.matches)) asked taken found h) c.words_of.ensures;
    }

pub returns : goal.returns
returns c =
    let words : map (λ word. word.now) c.as_slice.result.now ≡ c.args.words.now = ap (map (λ word. word.now)) c.as_slice.ensures.value ∙ c.in_ok-words.ensures in
    record {
      asked_exactly_where_taken = elim c.in-Err.ensures.refused [
        | inl memory ↦
            let wrong : false ≡ true = rw (c.kind.ensures ∙ memory) at c.if-eq.ensures in
            absurd (false≢true wrong)
        | inr refused ↦ inl (subst (λ (w : List (List ℕ)). fault_of beat_command w ≢ []) words refused)
      ];
    }
