-- Findings that are noted one part after another are noted as a whole.
use Rattle.std.proofs.Common.{◌≡◌, List, Option, ◌++◌, sym, ◌∙◌, ap}
use Rattle.std.proofs.lemmas.List.Sums.{fold-append}
use Rattle.beat_config.specs.declared.settings_error.SettingsError.{SettingsError}
use Rattle.beat_config.specs.Finding.{note, note_all}

pub then : (a b c : Option SettingsError) (xs ys : List SettingsError) → b ≡ note_all a xs → c ≡ note_all b ys → c ≡ note_all a (xs ++ ys)
unfolding note_all
then a b c xs ys first second = second ∙ ap (λ s. note_all s ys) first ∙ sym (fold-append note a xs ys)
