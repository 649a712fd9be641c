use Rattle.std.proofs.Common.{◌≡◌, ◌==◌, Bor, false, length, map, sym, ◌∙◌}
use Rattle.std.proofs.lemmas.List.{length-map}
use Rattle.findings.specs.declared.finding.Finding.{Finding}
use Rattle.findings.proofs.Sections.{section_put}
use Rattle.findings.proofs.page.put_section.Goals as goal

pub returns : goal.returns
returns c =
    let some : (length c.args.of.now == 0) ≡ false = sym c.is_empty.ensures ∙ c.if-is_empty.false in
    section_put c.args.kind (map (λ (one : Bor Finding). one.now) c.args.of.now) (length c.args.of.now) c.args.page.now.items c.put_head.new.page.items c.put_lines.new.page.items c.put_more.new.page.items
    (sym (length-map c.args.of.now (λ (one : Bor Finding). one.now)))
    (λ (none : length c.args.of.now ≡ 0). let bad : (0 == 0) ≡ false = rw none at some in cc)
    c.in_ok-put_head.ensures
    (rw c.shown.ensures at c.in_ok-put_lines.ensures)
    c.in_ok-put_more.ensures
