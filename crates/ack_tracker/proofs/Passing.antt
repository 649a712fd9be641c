-- Passes over the slots of a key, and over the keys that were noted.
use Rattle.std.proofs.Common.{◌≡◌, ℕ, ◌+◌, ◌<◌, Bool, true, false, List, [], ◌∷◌, ◌++◌, length, get_or, drop, Option, Some, if◌then◌else◌, ◌||◌, sym, ap, ◌∙◌, append_assoc}
use Rattle.std.specs.List.{filter_map, cons_option}
use Rattle.std.proofs.lemmas.Bool.{or_left}
use Rattle.std.proofs.lemmas.List.{at_drop_more}
use Rattle.ack_tracker.specs.FileState.{FileState}
use Rattle.ack_tracker.specs.Files.{file_of}
use Rattle.ack_tracker.specs.Keys.{has_key, is_begun, later, latest_of, stands}

module _ (files : List (ℕ × FileState)) (key : List ℕ) (slots : List ℕ) (i : ℕ) where
  pub begun_now : (b : Bool) → i < length slots → b ≡ has_key (file_of files (get_or slots i 0)) key → b ≡ true → true ≡ is_begun files key (drop i slots)
  begun_now b inside is e =
      sym (at_drop_more (is_begun files key) slots i 0 inside ∙ or_left (has_key (file_of files (get_or slots i 0)) key) (is_begun files key (drop (i + 1) slots)) (sym is ∙ e))

  pub not_yet : (b : Bool) → i < length slots → b ≡ has_key (file_of files (get_or slots i 0)) key → b ≡ false → is_begun files key (drop (i + 1) slots) ≡ is_begun files key (drop i slots)
  not_yet b inside is e =
      sym (at_drop_more (is_begun files key) slots i 0 inside ∙ ap (λ (t : Bool). t || is_begun files key (drop (i + 1) slots)) (sym is ∙ e))

  module _ (latest next : Option ℕ) (b : Bool) (inside : i < length slots) (is : b ≡ stands (file_of files (get_or slots i 0)) key) where
    step : next ≡ (if b then later latest (get_or slots i 0) else latest) → latest_of files key next (drop (i + 1) slots) ≡ latest_of files key latest (drop i slots)
    step e =
        ap (λ (n : Option ℕ). latest_of files key n (drop (i + 1) slots)) (e ∙ ap (λ (t : Bool). if t then later latest (get_or slots i 0) else latest) is)
        ∙ sym (at_drop_more (latest_of files key latest) slots i 0 inside)

    pub latest_then : b ≡ true → next ≡ later latest (get_or slots i 0) → latest_of files key next (drop (i + 1) slots) ≡ latest_of files key latest (drop i slots)
    latest_then held e = step (e ∙ ap (λ (t : Bool). if t then later latest (get_or slots i 0) else latest) (sym held))

    pub latest_else : b ≡ false → next ≡ latest → latest_of files key next (drop (i + 1) slots) ≡ latest_of files key latest (drop i slots)
    latest_else held e = step (e ∙ ap (λ (t : Bool). if t then later latest (get_or slots i 0) else latest) (sym held))

pub one_more_told : {X Y : Type 0} (h : X → Option Y) (told new : List Y) (left rest : List X) (x : X) (y : Y) (all : List Y) → told ++ filter_map h left ≡ all → left ≡ x ∷ rest → h x ≡ Some y → new ≡ told ++ y ∷ [] → new ++ filter_map h rest ≡ all
one_more_told {X} {Y} h told new left rest x y all so_far is says more =
    ap (λ (l : List Y). l ++ filter_map h rest) more
    ∙ append_assoc told (y ∷ []) (filter_map h rest)
    ∙ ap (λ (o : Option Y). told ++ cons_option o (filter_map h rest)) (sym says)
    ∙ ap (λ (l : List X). told ++ filter_map h l) (sym is)
    ∙ so_far
