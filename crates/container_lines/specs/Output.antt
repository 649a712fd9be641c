-- What is in a sink, if its content is known (this project's profile).
use Rattle.std.specs.Prelude.{◌≡◌, ℕ, ◌++◌, List, take, Option, Some, None}

-- after what it held there is all of the text
abbrev pub HasAll : Option (List ℕ) → List ℕ → Option (List ℕ) → Type 0
HasAll None text written = written ≡ None
HasAll (Some before) text written = written ≡ Some (before ++ text)

-- after what it held there is a front of the text
abbrev pub HasFront : Option (List ℕ) → List ℕ → Option (List ℕ) → Type 0
HasFront None text written = written ≡ None
HasFront (Some before) text written = (count : ℕ) × (written ≡ Some (before ++ take count text))

-- after what it held there is a front of the text, and the rest waits to be written
abbrev pub StandsOrWaits : Option (List ℕ) → List ℕ → Option (List ℕ) → List ℕ → Type 0
StandsOrWaits None text written waits = written ≡ None
StandsOrWaits (Some before) text written waits = (front : List ℕ) × (written ≡ Some (before ++ front)) × (text ≡ front ++ waits)
