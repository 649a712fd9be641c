use Rattle.std.proofs.Common.{◌≡◌, ℕ, List, ◌++◌, Some}
use Rattle.file_progress.specs.Prometheus.{counts_family, files_family, single_family}
use Rattle.file_progress.specs.declared.family.Family.TheVariants.{Behind, FileBehind, FileOffset, FileRestarts, FileSize, Generation, Written}
use Rattle.file_progress.proofs.Chains.{before}
use Rattle.file_progress.proofs.prometheus.prometheus_text.Goals as goal

pub returns : goal.returns
returns c =
    let files = c.as_slice-files.result.now in
    let p0 : List ℕ = c.new-page.result.items in
    let p1 : List ℕ = c.put_files.new.page.items in
    let p2 : List ℕ = c.put_files-2.new.page.items in
    let p3 : List ℕ = c.put_files-3.new.page.items in
    let p4 : List ℕ = c.put_files-4.new.page.items in
    let p5 : List ℕ = c.put_counts.new.page.items in
    let p6 : List ℕ = c.put_single.new.page.items in
    let p7 : List ℕ = c.put_single-2.new.page.items in
    let end : List ℕ = c.put_single-3.new.page.items in
    let last : List ℕ = single_family Written c.seconds_of.result in
    let r7 : List ℕ = single_family Generation c.args.overview.now.generation ++ last in
    let r6 : List ℕ = single_family Behind (Some c.behind_in.result) ++ r7 in
    let r5 : List ℕ = counts_family files ++ r6 in
    let r4 : List ℕ = files_family FileRestarts files ++ r5 in
    let r3 : List ℕ = files_family FileSize files ++ r4 in
    let r2 : List ℕ = files_family FileOffset files ++ r3 in
    let whole : end ≡ p0 ++ (files_family FileBehind files ++ r2) =
    before p0 p1 end (files_family FileBehind files) r2 c.in_ok-put_files.ensures
    (before p1 p2 end (files_family FileOffset files) r3 c.in_ok-put_files-2.ensures
    (before p2 p3 end (files_family FileSize files) r4 c.in_ok-put_files-3.ensures
    (before p3 p4 end (files_family FileRestarts files) r5 c.in_ok-put_files-4.ensures
    (before p4 p5 end (counts_family files) r6 c.in_ok-put_counts.ensures
    (before p5 p6 end (single_family Behind (Some c.behind_in.result)) r7 c.in_ok-put_single.ensures
    (before p6 p7 end (single_family Generation c.args.overview.now.generation) last c.in_ok-put_single-2.ensures c.in_ok-put_single-3.ensures)))))) in
    rw (c.new-page.ensures.items, c.behind_in.ensures, c.seconds_of.ensures, c.as_slice-files.ensures.value) at whole
