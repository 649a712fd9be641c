-- A file that is followed for an input that knows its files by their native numbers has these, since it gave its key.
use Rattle.std.proofs.Common.{◌≡◌, ℕ, List, [], ◌∷◌, Option, Some, None, IsSome, refl, sym, ap, subst, ◌∙◌}
use Rattle.std.specs.Prelude.{slice_get}
use Rattle.std.specs.List.{AllByRecursion}
use Rattle.accounts.specs.AccountedFor.{followings_in}
use Rattle.event_tree.specs.declared.input_rule.IdentityRule.{IdentityRule}
use Rattle.event_tree.specs.declared.input_rule.IdentityRule.TheVariants.{Native}
use Rattle.event_tree.specs.declared.input_rule.InputRule.{InputRule}
use Rattle.file_identity.specs.Asking.{given_key}
use Rattle.file_identity.specs.Key.{named_key}
use Rattle.kept_rows.specs.Account.{FollowedTail, SlotAccount}
use Rattle.kept_rows.specs.Followed.{IsFollowedTail, IsFollowing}
use Rattle.kept_rows.specs.Run.{Run}
use Rattle.outside.specs.Files.{File}
use Rattle.outside.specs.Folders.{Opened}
use Rattle.told_scans.proofs.Members.{some_is}
use Rattle.beat_run.specs.WithinLimits.{AllHaveNumbers, HasItsNumbers}

-- a key by native numbers wants them
numbers_by_key : (id path key : List ℕ) (numbers : Option (ℕ × ℕ)) → named_key id Native path numbers ≡ Some key → IsSome numbers
numbers_by_key id path key None is = absurd (let no : ◌≡◌ {A = Option (List ℕ)} None (Some key) = is in cc)
numbers_by_key id path key (Some numbers) is = refl

module _ (run : Run) where
  of_tail : (input : ℕ) (rule : InputRule) (key : List ℕ) → slice_get run.settings.inputs input ≡ Some rule → (tail : FollowedTail) → IsFollowedTail run rule key tail → HasItsNumbers run input tail
  of_tail input rule key rule_is tail followed other path number begun file other_is native opened file_is =
      let same_rule : rule ≡ other = some_is rule other (sym rule_is ∙ other_is) in
      let same_opening : Opened followed.path followed.number followed.told.begun ≡ Opened path number begun =
      some_is (Opened followed.path followed.number followed.told.begun) (Opened path number begun) (sym followed.told.opened ∙ opened) in
      let same_number : followed.number ≡ number = cc in
      let same_file : followed.file ≡ file = some_is followed.file file (sym followed.file_is ∙ ap (slice_get run.trace.files) same_number ∙ file_is) in
      let by_numbers : rule.file_identity ≡ Native = ap (λ (r : InputRule). r.file_identity) same_rule ∙ native in
      let gives = followed.opened_with_key.gives in
      let gave : named_key rule.id Native followed.path followed.file.numbers ≡ Some key =
      subst (λ (identity : IdentityRule). given_key rule.id identity followed.path followed.file followed.opened_with_key.asked ≡ Some key) by_numbers gives.gave in
      subst (λ (f : File). IsSome f.numbers) same_file (numbers_by_key rule.id followed.path key followed.file.numbers gave)

  of_tails : (input : ℕ) (rule : InputRule) (key : List ℕ) → slice_get run.settings.inputs input ≡ Some rule → (tails : List FollowedTail) → AllByRecursion (IsFollowedTail run rule key) tails →
      AllByRecursion (HasItsNumbers run input) tails
  of_tails input rule key rule_is [] each = tt
  of_tails input rule key rule_is (tail ∷ tails) each = (of_tail input rule key rule_is tail each.0, of_tails input rule key rule_is tails each.1)

  pub numbers_had : (account : List SlotAccount) → AllByRecursion (IsFollowing run) (followings_in account) → AllHaveNumbers run account
  numbers_had [] each = tt
  numbers_had (one ∷ account) each =
      (of_tails one.following.input each.0.rule one.following.key each.0.rule_is one.following.tails each.0.tails, numbers_had account each.1)
