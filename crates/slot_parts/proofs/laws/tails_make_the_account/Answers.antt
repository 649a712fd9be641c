use Rattle.slot_parts.proofs.Made.{account_has_epochs, account_is_told}
use Rattle.slot_parts.proofs.laws.tails_make_the_account.Goals as goal

pub returns : goal.returns
returns c = λ slot is. record {
  epochs = account_has_epochs slot.run slot.rules.events slot.placed slot.following slot.number slot.changed slot.tails is.tails_are is.go_on;
  told = λ sees. account_is_told slot.run slot.rules slot.placed slot.following slot.number slot.changed slot.tails slot.file is.in_range is.file_is is.tails_are is.go_on
      is.told is.looked sees is.shown;
}
