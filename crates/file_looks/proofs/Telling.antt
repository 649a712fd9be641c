-- A tail reports such looks, whichever call comes next.
use Rattle.std.proofs.Common.{◌≡◌, ℕ, List, [], ◌∷◌, ◌++◌, Option, Some, Ok, IfSome, sym, subst}
use Rattle.outside.specs.declared.history.Look.{Look}
use Rattle.outside.specs.declared.history.Question.{Question}
use Rattle.outside.specs.declared.history.Sight.{Sight}
use Rattle.outside.specs.Files.{File, latest}
use Rattle.outside.specs.Tails.{TailHistory, TellsLength, TellsRead, with_look}
use Rattle.file_looks.specs.Looks.{AreLooks, IsAnswered, IsLook, TellsLooks}

pub looks-push : (file : File) (before : Sight) (looks : List Look) (look : Look) → AreLooks file before looks →
    IsLook file (latest before looks) look → AreLooks file before (looks ++ look ∷ [])
looks-push file before [] look are is = (is, tt)
looks-push file before (first ∷ looks) look are is = (are.0, looks-push file first.sight looks look are.1 is)

-- the looks after the first ones, and the first ones
pub looks_behind : (file : File) (before : Sight) (looks more : List Look) → AreLooks file before (looks ++ more) →
    AreLooks file (latest before looks) more
looks_behind file before [] more are = are
looks_behind file before (look ∷ looks) more are = looks_behind file look.sight looks more are.1

pub looks_before : (file : File) (before : Sight) (looks more : List Look) → AreLooks file before (looks ++ more) → AreLooks file before looks
looks_before file before [] more are = tt
looks_before file before (look ∷ looks) more are = (are.0, looks_before file look.sight looks more are.1)

after_look : (told : TailHistory) (look : Look) (after : Option TailHistory) → TellsLooks told → IsLook told.file (latest told.begun told.looks) look →
    after ≡ Some (with_look told look) → IfSome after TellsLooks
after_look told look after are is kept = subst (λ (o : Option TailHistory). IfSome o TellsLooks) (sym kept) (looks-push told.file told.begun told.looks look are is)

pub after_length : (told : TailHistory) (answer : ℕ) (after : Option TailHistory) → TellsLooks told → TellsLength (Some told) (Ok answer) after →
    IfSome after TellsLooks
after_length told answer after are tells =
    let A : Question → Type 0 = λ q. IsAnswered q tells.look.sight in
    after_look told tells.look after are
    (record { of_file = tells.next.of_file; no_earlier = tells.next.no_earlier; answered = subst A (sym tells.asked) tt }) tells.kept

pub after_read : (told : TailHistory) (at : ℕ) (into : List ℕ) (count : ℕ) (after : Option TailHistory) → TellsLooks told →
    TellsRead (Some told) at into (Ok count) after → IfSome after TellsLooks
after_read told at [] count after are tells = subst (λ (o : Option TailHistory). IfSome o TellsLooks) (sym tells) are
after_read told at (byte ∷ bytes) count after are tells =
    let A : Question → Type 0 = λ q. IsAnswered q tells.look.sight in
    after_look told tells.look after are
    (record { of_file = tells.next.of_file; no_earlier = tells.next.no_earlier; answered = subst A (sym tells.asked) (tells.within, tells.none_only_at_the_end) }) tells.kept
