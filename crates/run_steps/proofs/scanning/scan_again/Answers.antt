use Rattle.std.proofs.Common.{◌≡◌, ◌<◌, IsSome, length, subst, sym}
use Rattle.prospect.proofs.Doubled.{each_file, keys_apart}
use Rattle.prospect.specs.ListedFiles.{IsListedInRange}
use Rattle.run_steps.specs.FolderSeen.{seen_in}
use Rattle.run_steps.specs.ScansAgain.{CutsScanOff}
use Rattle.run_steps.specs.declared.rescan_error.RescanError.{RescanError}
use Rattle.run_steps.specs.declared.rescan_error.RescanError.TheVariants.{NoMemory}
use Rattle.run_steps.proofs.Rescanning.{AsksKeys, IsPartedInto, ListsRoots, cut_after_askings, cut_asking, cut_listing, if_err_by, ids_are_short, refused_listing, scans_again}
use Rattle.run_steps.proofs.scanning.scan_again.Goals as goal

-- ---- it was cut off

pub returns-in_err-listings-clause-cut_off : goal.returns-in_err-listings-clause-cut_off
returns-in_err-listings-clause-cut_off g c =
    let old = seen_in g.F.Folder c.args.folder.now in
    let mid = seen_in g.F.Folder c.list_past_faults.new.folder in
    let inputs : c.as_slice-inputs.result.now ≡ c.args.settings.now.inputs = c.as_slice-inputs.ensures in
    let lists : ListsRoots old mid = record {
      untold = c.list_past_faults.ensures.untold;
      open_tails = c.list_past_faults.ensures.open_tails_kept;
      faults = c.list_past_faults.ensures.faults_never_fall;
    } in
    if_err_by (λ error. CutsScanOff c.args.settings.now.inputs error old mid) NoMemory c.from_residual.result c.from_residual.ensures.1
    (cut_listing c.args.settings.now.inputs old mid lists (rw inputs at c.in_err-listings.ensures.ended))

pub returns-in-Err-clause-cut_off : goal.returns-in-Err-clause-cut_off
returns-in-Err-clause-cut_off g c =
    let old = seen_in g.F.Folder c.args.folder.now in
    let mid = seen_in g.F.Folder c.list_past_faults.new.folder in
    let inputs : c.as_slice-inputs.result.now ≡ c.args.settings.now.inputs = c.as_slice-inputs.ensures in
    let lists : ListsRoots old mid = record {
      untold = c.list_past_faults.ensures.untold;
      open_tails = c.list_past_faults.ensures.open_tails_kept;
      faults = c.list_past_faults.ensures.faults_never_fall;
    } in
    subst (λ (error : RescanError). CutsScanOff c.args.settings.now.inputs error old mid) (sym c.from.ensures)
    (refused_listing c.args.settings.now.inputs old mid lists c.in-Err.error c.in_ok-listings.listings.failed.items (rw (c.in-Err.is, inputs) at c.in_ok-listings.ensures.refused))

pub returns-in_err-askings-in-Ok-clause-cut_off : goal.returns-in_err-askings-in-Ok-clause-cut_off
returns-in_err-askings-in-Ok-clause-cut_off g c =
    let old = seen_in g.F.Folder c.args.folder.now in
    let mid = seen_in g.F.Folder c.list_past_faults.new.folder in
    let new = seen_in g.F.Folder c.ask_past_faults.new.folder in
    let inputs : c.as_slice-inputs.result.now ≡ c.args.settings.now.inputs = c.as_slice-inputs.ensures in
    let lists : ListsRoots old mid = record {
      untold = c.list_past_faults.ensures.untold;
      open_tails = c.list_past_faults.ensures.open_tails_kept;
      faults = c.list_past_faults.ensures.faults_never_fall;
    } in
    let asks : AsksKeys mid new = record {
      untold = c.ask_past_faults.ensures.untold;
      open_tails = c.ask_past_faults.ensures.open_tails_kept;
      faults = c.ask_past_faults.ensures.faults_never_fall;
    } in
    let served = rw (c.in-Ok.is, inputs) at c.in_ok-listings.ensures.served in
    if_err_by (λ error. CutsScanOff c.args.settings.now.inputs error old new) NoMemory c.from_residual-in_err-askings-in-Ok.result c.from_residual-in_err-askings-in-Ok.ensures.1
    (cut_asking c.args.settings.now.inputs old mid new c.in-Ok.listed.items c.in_ok-listings.listings.failed.items lists asks served (rw inputs at c.in_err-askings-in-Ok.ensures.ended))

pub returns-in_err-scan-in-Ok-clause-cut_off : goal.returns-in_err-scan-in-Ok-clause-cut_off
returns-in_err-scan-in-Ok-clause-cut_off g c =
    let old = seen_in g.F.Folder c.args.folder.now in
    let mid = seen_in g.F.Folder c.list_past_faults.new.folder in
    let new = seen_in g.F.Folder c.ask_past_faults.new.folder in
    let inputs : c.as_slice-inputs.result.now ≡ c.args.settings.now.inputs = c.as_slice-inputs.ensures in
    let lists : ListsRoots old mid = record {
      untold = c.list_past_faults.ensures.untold;
      open_tails = c.list_past_faults.ensures.open_tails_kept;
      faults = c.list_past_faults.ensures.faults_never_fall;
    } in
    let asks : AsksKeys mid new = record {
      untold = c.ask_past_faults.ensures.untold;
      open_tails = c.ask_past_faults.ensures.open_tails_kept;
      faults = c.ask_past_faults.ensures.faults_never_fall;
    } in
    let served = rw (c.in-Ok.is, inputs) at c.in_ok-listings.ensures.served in
    if_err_by (λ error. CutsScanOff c.args.settings.now.inputs error old new) NoMemory c.from_residual-in_err-scan-in-Ok.result c.from_residual-in_err-scan-in-Ok.ensures.1
    (cut_after_askings c.args.settings.now.inputs old mid new c.in-Ok.listed.items c.in_ok-listings.listings.failed.items lists asks served c.in_ok-askings-in-Ok.askings
    (rw inputs at c.in_ok-askings-in-Ok.ensures.tried))

-- ---- it was made

pub returns-in_ok-scan-in-Ok-clause-scans : goal.returns-in_ok-scan-in-Ok-clause-scans
returns-in_ok-scan-in-Ok-clause-scans g c =
    let old = seen_in g.F.Folder c.args.folder.now in
    let mid = seen_in g.F.Folder c.list_past_faults.new.folder in
    let new = seen_in g.F.Folder c.ask_past_faults.new.folder in
    let failed = c.in_ok-listings.listings.failed.items in
    let asked = c.in_ok-askings-in-Ok.askings in
    let scan = c.in_ok-scan-in-Ok.scan in
    let inputs : c.as_slice-inputs.result.now ≡ c.args.settings.now.inputs = c.as_slice-inputs.ensures in
    let lists : ListsRoots old mid = record {
      untold = c.list_past_faults.ensures.untold;
      open_tails = c.list_past_faults.ensures.open_tails_kept;
      faults = c.list_past_faults.ensures.faults_never_fall;
    } in
    let asks : AsksKeys mid new = record {
      untold = c.ask_past_faults.ensures.untold;
      open_tails = c.ask_past_faults.ensures.open_tails_kept;
      faults = c.ask_past_faults.ensures.faults_never_fall;
    } in
    let parted : IsPartedInto failed asked scan = record {
      parts = c.in_ok-scan-in-Ok.ensures.parts;
      gone = c.in_ok-scan-in-Ok.ensures.gone;
      small = c.in_ok-scan-in-Ok.ensures.small;
      whole = c.in_ok-scan-in-Ok.ensures.whole;
    } in
    let served = rw (c.in-Ok.is, inputs) at c.in_ok-listings.ensures.served in
    let keyed = rw (c.in-Ok.is, inputs) at c.in_ok-listings.ensures.keyed in
    scans_again c.args.settings.now old mid new c.in-Ok.listed.items failed lists asks served asked (rw inputs at c.in_ok-askings-in-Ok.ensures.tried) keyed scan parted
    c.in_ok-listings.ensures.failed_only_where_faults_rose c.in_ok-askings-in-Ok.ensures.failed_only_where_faults_rose

pub returns-in_ok-scan-in-Ok-clause-keyed : goal.returns-in_ok-scan-in-Ok-clause-keyed
returns-in_ok-scan-in-Ok-clause-keyed g c =
    each_file c.in_ok-askings-in-Ok.askings.keyed.files.items c.in_ok-scan-in-Ok.scan.listed.items c.in_ok-scan-in-Ok.scan.doubled.items c.in_ok-scan-in-Ok.ensures.parts (λ one. IsSome one.key)
    (c.in_ok-askings-in-Ok.ensures.keyed (rw c.in-Ok.is at c.in_ok-listings.ensures.keyed))

pub returns-in_ok-scan-in-Ok-clause-keys_apart : goal.returns-in_ok-scan-in-Ok-clause-keys_apart
returns-in_ok-scan-in-Ok-clause-keys_apart g c =
    keys_apart c.in_ok-askings-in-Ok.askings.keyed.files.items c.in_ok-scan-in-Ok.scan.listed.items c.in_ok-scan-in-Ok.scan.doubled.items c.in_ok-scan-in-Ok.ensures.parts

pub returns-in_ok-scan-in-Ok-clause-of_inputs : goal.returns-in_ok-scan-in-Ok-clause-of_inputs
returns-in_ok-scan-in-Ok-clause-of_inputs g c =
    let inputs : c.as_slice-inputs.result.now ≡ c.args.settings.now.inputs = c.as_slice-inputs.ensures in
    each_file c.in_ok-askings-in-Ok.askings.keyed.files.items c.in_ok-scan-in-Ok.scan.listed.items c.in_ok-scan-in-Ok.scan.doubled.items c.in_ok-scan-in-Ok.ensures.parts
    (λ one. one.input < length c.args.settings.now.inputs) (rw inputs at c.in_ok-askings-in-Ok.ensures.kept_of_inputs)

pub returns-in_ok-scan-in-Ok-clause-in_range : goal.returns-in_ok-scan-in-Ok-clause-in_range
returns-in_ok-scan-in-Ok-clause-in_range g c =
    let inputs : c.as_slice-inputs.result.now ≡ c.args.settings.now.inputs = c.as_slice-inputs.ensures in
    let short = ids_are_short c.args.settings.now c.requires in
    let listed = rw (c.in-Ok.is, inputs) at c.in_ok-listings.ensures.in_range in
    let asked = rw inputs at c.in_ok-askings-in-Ok.ensures.in_range in
    each_file c.in_ok-askings-in-Ok.askings.keyed.files.items c.in_ok-scan-in-Ok.scan.listed.items c.in_ok-scan-in-Ok.scan.doubled.items c.in_ok-scan-in-Ok.ensures.parts IsListedInRange
    (asked short (listed short))
