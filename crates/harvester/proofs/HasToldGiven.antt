-- What a harvester has reported as it is opened, with another path, and as its end may be found.
use Rattle.std.proofs.Common.{◌≡◌, inl, ℕ, Bool, true, List, [], Option, Some, None, refl, sym, append-nil, add-zero}
use Rattle.event_tree.specs.declared.input_rule.InputRule.{InputRule}
use Rattle.event_tree.specs.declared.processor_rule.ProcessorRule.{ProcessorRule}
use Rattle.outside.specs.Tails.{TailHistory}
use Rattle.wire_base.specs.declared.note.Begin.{Begin}
use Rattle.harvester.specs.declared.harvester.Harvester.{Harvester}
use Rattle.harvester.specs.HasTold.{HasTold, looks_so_far}
use Rattle.harvester.specs.Held.{Held}
use Rattle.harvester.specs.History.{Ended, History, Reads, opened, with_ending, with_path}
use Rattle.harvester.specs.Looked.{AreLookedAt}
use Rattle.harvester.specs.Standing.{StandsFor}
use Rattle.harvester.proofs.LookingOn.{other_turn}

module _ {T : Type 0} (numbers : T → Option (ℕ × ℕ)) (told : T → Option TailHistory) (h : History) (old : Harvester T) (has : HasTold numbers told h old) (reader : Held) where
  pub renamed : (path : List ℕ) → StandsFor (with_path path h) reader → HasTold numbers told (with_path path h) (record old { reader = reader })
  renamed path stands = record { held = stands; decides = has.decides; looked = go (told old.tail) has.looked }
    where
      go : (o : Option TailHistory) → AreLookedAt (numbers old.tail) h o → AreLookedAt (numbers old.tail) (with_path path h) o
      go None looked = tt
      go (Some earlier) looked = other_turn (numbers old.tail) h earlier looked path h.moments h.last_line h.ends h.may_end h.forgets (λ may. may) (λ distance apart. apart)

  pub may_end : (forget : Bool) → StandsFor (with_ending forget h) reader → HasTold numbers told (with_ending forget h) (record old { reader = reader })
  may_end forget stands = record { held = stands; decides = has.decides; looked = go (told old.tail) has.looked }
    where
      go : (o : Option TailHistory) → AreLookedAt (numbers old.tail) h o → AreLookedAt (numbers old.tail) (with_ending forget h) o
      go None looked = tt
      go (Some earlier) looked = other_turn (numbers old.tail) h earlier looked h.path h.moments h.last_line true h.may_end forget (λ may. may) (λ distance apart. apart)

-- nothing was looked at since the opening
pub looked_at_opening : (numbers : Option (ℕ × ℕ)) (rule : InputRule) (processors : List ProcessorRule) (begin : Begin) (now : ℕ) (told : Option TailHistory) →
    AreLookedAt numbers (opened rule processors begin (looks_so_far told) now) told
looked_at_opening numbers rule processors begin now None = tt
looked_at_opening numbers rule processors begin now (Some told) = record {
  since = [];
  beyond = [];
  looks_are = sym (append-nil told.looks);
  front = [];
  last = record { place = begin.base; fall = None; looks = [] };
  segments = refl;
  past = tt;
  present = record { place = refl; to = sym (add-zero begin.base); bytes = refl; on = tt; kept_key = inl refl; licensed = tt };
  stand_behind = refl;
  end_look = λ ended. absurd (let no : Reads ≡ Ended = ended in cc);
}
