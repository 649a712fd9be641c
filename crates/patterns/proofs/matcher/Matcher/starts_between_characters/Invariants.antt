use Rattle.std.proofs.Common.{◌≡◌, ◌-◌, ◌≤◌, length}
use Rattle.regex_hir.specs.Find.{find_str}
use Rattle.regex_meta.specs.Programs.{pattern_of}
use Rattle.patterns.proofs.matcher.Matcher.starts_between_characters.Given as goal

abbrev pub invariant-loop-span : goal.invariant-loop-span
invariant-loop-span l = record {
  inside : l.place ≤ length l.text;
  same_program : l.searcher.program.now ≡ l.self.program;
  left : find_str (pattern_of l.self.program) l.text 0 ≡ find_str (pattern_of l.self.program) l.text l.place;
}

abbrev pub decreases-loop-span : goal.decreases-loop-span
decreases-loop-span l = length l.text - l.place
