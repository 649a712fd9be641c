use Rattle.std.proofs.Common.{◌∙◌, codes, sym, subst, Option, List, ℕ, ap, Some}
use Rattle.clap.specs.Matches.{found_of}
use Rattle.clap.specs.Walk.{rows_of}
use Rattle.command_line.specs.Words.{IsGenerateBy}
use Rattle.command_line.proofs.Rows.{no_count, no_row, some_count, value_row}
use Rattle.command_line.proofs.read.words_of.Goals as goal
use Rattle.command_line.proofs.read.words_of.Goals.{in-None, in-Some+in-Some-line_count}

pub returns-in-None-line_count : goal.returns-in-None-line_count
returns-in-None-line_count c =
    no_count (rows_of (found_of c.args.matches.now)) c.in-Some.digits.now
    (value_row (found_of c.args.matches.now) (codes "generate") c.get_str.result c.in-Some.digits c.get_str.ensures c.in-Some.is)
    c.in-None-line_count.ensures

pub returns : goal.returns
returns c =
    let found = found_of c.args.matches.now in
    record {
      settings = value_row found (codes "config") c.get_str-2.result c.unwrap.result c.get_str-2.ensures c.unwrap.ensures ∙ ap (λ (t : List ℕ). Some t) (sym c.in_ok-text.ensures);
      folder = value_row found (codes "data") c.get_str-3.result c.unwrap-2.result c.get_str-3.ensures c.unwrap-2.ensures ∙ ap (λ (t : List ℕ). Some t) (sym c.in_ok-text-2.ensures);
      once = c.is_in_words.ensures;
      generate = elim c.match-get_str.branch [
        | in-None w ↦ subst (λ (o : Option (List ℕ)). IsGenerateBy o c.match-get_str.generate)
            (sym (no_row found (codes "generate") c.get_str.result c.get_str.ensures w.in-None.is)) w.generate-is
        | in-Some+in-Some-line_count w ↦ some_count _ w.in-Some.digits.now c.match-get_str.generate w.in-Some-line_count.count
            (value_row found (codes "generate") c.get_str.result w.in-Some.digits c.get_str.ensures w.in-Some.is) w.in-Some-line_count.ensures w.generate-is
      ];
    }
