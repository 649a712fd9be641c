use Rattle.std.proofs.Common.{ℕ, List, [], ◌∷◌, ◌++◌}
use Rattle.file_progress.specs.Table.{behind_text, count_text}
use Rattle.file_progress.specs.declared.state.State.TheVariants.{Doubled, Gone, New, Present, Shorter, Small}
use Rattle.file_progress.proofs.Chains.{before}
use Rattle.file_progress.proofs.table.put_counts.Goals as goal

pub returns : goal.returns
returns c =
    let files = c.args.files.now in
    let p0 : List ℕ = c.args.page.now.items in
    let p1 : List ℕ = c.put_behind.new.page.items in
    let p2 : List ℕ = c.put_count.new.page.items in
    let p3 : List ℕ = c.put_count-2.new.page.items in
    let p4 : List ℕ = c.put_count-3.new.page.items in
    let p5 : List ℕ = c.put_count-4.new.page.items in
    let p6 : List ℕ = c.put_count-5.new.page.items in
    let p7 : List ℕ = c.put_count-6.new.page.items in
    let end : List ℕ = c.push.new.self.items in
    let r6 : List ℕ = count_text files Small ++ 10 ∷ [] in
    let r5 : List ℕ = count_text files Doubled ++ r6 in
    let r4 : List ℕ = count_text files New ++ r5 in
    let r3 : List ℕ = count_text files Gone ++ r4 in
    let r2 : List ℕ = count_text files Shorter ++ r3 in
    let r1 : List ℕ = count_text files Present ++ r2 in
    before p0 p1 end (behind_text files) r1 c.in_ok-put_behind.ensures
    (before p1 p2 end (count_text files Present) r2 c.in_ok-put_count.ensures
    (before p2 p3 end (count_text files Shorter) r3 c.in_ok-put_count-2.ensures
    (before p3 p4 end (count_text files Gone) r4 c.in_ok-put_count-3.ensures
    (before p4 p5 end (count_text files New) r5 c.in_ok-put_count-4.ensures
    (before p5 p6 end (count_text files Doubled) r6 c.in_ok-put_count-5.ensures
    (before p6 p7 end (count_text files Small) (10 ∷ []) c.in_ok-put_count-6.ensures c.in_ok-push.ensures.items))))))
