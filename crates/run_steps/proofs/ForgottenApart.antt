-- The files that are forgotten are so still as another file is opened again.
use Rattle.std.proofs.Common.{◌≡◌, ◌≢◌, ⊎_elim, List, ◌∷◌, ◌++◌, Contains, sym, ap, subst, ◌∙◌}
use Rattle.std.proofs.lemmas.List.Elements.{Contains-append_cases, Contains-append_left, Contains-append_right}
use Rattle.std.specs.List.{AllByRecursion}
use Rattle.accounts.specs.Opened.{Opened}
use Rattle.accounts.proofs.Grounded.{each_member}
use Rattle.accounts.proofs.Orderly.{member_is}
use Rattle.ship_core.proofs.Members.{there_cases}
use Rattle.run_steps.specs.Forgotten.{AreForgotten, IsForgottenSo}
use Rattle.run_steps.specs.LaterScans.{LaterScan}
use Rattle.run_steps.specs.SoFar.{Forgotten, Left, with_opening}
use Rattle.run_steps.proofs.ForgottenOn.{still_forgotten}
use Rattle.run_steps.proofs.WithOpening.{others_there}

without_it : {A : Type 0} (front behind : List A) (x other : A) → (x ≡ other → ⊥) → Contains (front ++ x ∷ behind) other → Contains (front ++ behind) other
without_it front behind x other apart there =
    ⊎_elim (λ here. Contains-append_left front behind other here)
    (λ later. ⊎_elim (λ (same : x ≡ other). absurd (apart same)) (λ rest. Contains-append_right front behind other rest) (there_cases x other behind later))
    (Contains-append_cases front (x ∷ behind) other there)

-- the last tail of that file was closed with this, and another opening takes the place of its last one
module _ (scans : List LaterScan) (opened : List Opened) (left : List Left) (last next : Opened) (same : last.begin.slot.0 ≡ next.begin.slot.0) (front : List Left) (closed : Left) (behind : List Left)
    (left_are : left ≡ front ++ closed ∷ behind) (slot_is : closed.turned.slot ≡ last.begin.slot) where
  its_left : (one : Forgotten) → IsForgottenSo scans opened left one → one.opened.begin.slot ≢ last.begin.slot → Contains (front ++ behind) one.left
  its_left one so other = without_it front behind closed one.left (λ is. other (sym so.slot_is ∙ ap (λ (l : Left). l.turned.slot) (sym is) ∙ slot_is))
      (subst (λ (ls : List Left). Contains ls one.left) left_are so.of_left)

  its_opening : (one : Forgotten) → IsForgottenSo scans opened left one → one.opened.begin.slot ≢ last.begin.slot → Contains (with_opening next opened) one.opened
  its_opening one so other = others_there next opened one.opened so.among (λ slots. let number = slots ∙ sym same in other (λ k. record { 0 = number k }))

  pub forgotten_again : (forgotten : List Forgotten) → AllByRecursion (λ (one : Forgotten). one.opened.begin.slot ≢ last.begin.slot) forgotten → AreForgotten scans opened left forgotten →
      AreForgotten scans (with_opening next opened) (front ++ behind) forgotten
  forgotten_again forgotten others are = each_member (IsForgottenSo scans (with_opening next opened) (front ++ behind)) forgotten (λ one there.
      let so = member_is (IsForgottenSo scans opened left) forgotten one are there in
      let other = member_is (λ (f : Forgotten). f.opened.begin.slot ≢ last.begin.slot) forgotten one others there in
      still_forgotten scans opened (with_opening next opened) left (front ++ behind) one so (its_opening one so other) (its_left one so other))
