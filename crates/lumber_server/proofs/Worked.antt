-- Worked values of the definitions (Lumberjack v2).
use Rattle.std.proofs.Common.{◌≡◌, inr, ℕ, List, [], ◌∷◌, ◌++◌, None, refl, sym, lit<, lit≤, arith, codes}
use Rattle.std.proofs.lemmas.List.{append-nil}
use Rattle.lumber_frame.specs.declared.frame.Frame.TheVariants.{Window, Json}
use Rattle.lumber_frame.specs.Frame.{frame_bytes}
use Rattle.lumber_frame.proofs.Frames.{begins_from}
use Rattle.lumber_server.specs.Received.{IsOwed, StopsAt}
use Rattle.lumber_server.specs.Words.{IsAskedOf}
use Rattle.lumber_server.specs.Written.{answer_of, answers_of, lines_of}

-- a payload's line feed is a space, and a line feed ends each line
lines : lines_of (Window 2 ∷ Json 1 (97 ∷ 10 ∷ 98 ∷ []) ∷ Json 2 [] ∷ []) ≡ 97 ∷ 32 ∷ 98 ∷ 10 ∷ 10 ∷ []
lines = refl

-- the last frame of each window is acknowledged
answers : answers_of (Window 2 ∷ Json 1 [] ∷ Json 2 [] ∷ Window 1 ∷ Json 1 [] ∷ []) ≡ 0x32 ∷ 0x41 ∷ 0 ∷ 0 ∷ 0 ∷ 2 ∷ 0x32 ∷ 0x41 ∷ 0 ∷ 0 ∷ 0 ∷ 1 ∷ []
answers = refl

-- a window that is not full is not
no_answer : answers_of (Window 2 ∷ Json 1 [] ∷ []) ≡ []
no_answer = refl

-- but for its 64th frame
answer_of_the_64th : answer_of (record { count = 100; taken = 63 }) (Json 64 []) ≡ 0x32 ∷ 0x41 ∷ 0 ∷ 0 ∷ 0 ∷ 64 ∷ []
answer_of_the_64th = refl

-- in a window of one frame no second is owed
out_of_sequence : (payload : List ℕ) → IsOwed (record { count = 1; taken = 0 }) (Json 2 payload) → ⊥
out_of_sequence payload owed = absurd (omega (arith, owed.1))

-- so reading stops at the seventh byte, behind the window's frame
stops : StopsAt (frame_bytes (Window 1) ++ frame_bytes (Json 2 (0x78 ∷ []))) 6
stops =
    record {
      frames = Window 1 ∷ [];
      rest = frame_bytes (Json 2 (0x78 ∷ []));
      front = record { each = (lit< tt, tt); owed = (refl, tt); whole = refl };
      within = 0;
      stop = inr (refl, (Json 2 (0x78 ∷ []), 11, (begins_from (frame_bytes (Json 2 (0x78 ∷ []))) (Json 2 (0x78 ∷ [])) [] (lit< tt, lit≤ tt) (sym (append-nil (frame_bytes (Json 2 (0x78 ∷ []))))), out_of_sequence (0x78 ∷ []))));
      is = refl;
    }

-- the arguments of the program are all of them
too_few : IsAskedOf (codes "--links" ∷ codes "1" ∷ []) None
too_few = refl
