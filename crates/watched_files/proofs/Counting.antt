-- How many of the members of a scan are of no known file.
use Rattle.std.proofs.Common.{◌≡◌, ℕ, ◌+◌, ◌<◌, ◌≤◌, get_or, take, Bool, true, false, ◌&&◌, List, [], ◌∷◌, ◌++◌, length, Option, Some, None, is_none, refl, sym, ap, ◌∙◌, subst, arith, length-append, if◌then◌else◌}
use Rattle.std.proofs.lemmas.List.{take_more}
use Rattle.std.specs.Option.{option_map}
use Rattle.prospector_core.specs.declared.known.Known.{Known}
use Rattle.prospector_core.specs.declared.seen.Seen.{Seen}
use Rattle.prospector_core.specs.Changes.{new_members, new_one}
use Rattle.prospector_core.specs.KnownFiles.{first_with, known_with, slot_with}
use Rattle.prospector_core.proofs.Along.{along-push}

pub last_one : (files : List Known) (earlier : List Seen) (member : Seen) → length (new_one files earlier member) ≤ 1
last_one files earlier member = by_case (is_none (first_with member.key earlier) && is_none (known_with member.key files))
  where
    by_case : (b : Bool) → length (if b then member ∷ [] else []) ≤ 1
    by_case true = omega arith
    by_case false = omega arith

pub last_known : (files : List Known) (earlier : List Seen) (member : Seen) → is_none (slot_with member.key files) ≡ false → new_one files earlier member ≡ []
last_known files earlier member known = by_case (known_with member.key files) (is_none (first_with member.key earlier)) known
  where
    by_case : (o : Option Known) (b : Bool) → is_none (option_map (λ (f : Known). f.slot) o) ≡ false → (if b && is_none o then member ∷ [] else []) ≡ []
    by_case None b e = absurd (let q : true ≡ false = e in cc)
    by_case (Some file) true e = refl
    by_case (Some file) false e = refl

more : (files : List Known) (earlier : List Seen) (member : Seen) → length (new_members files (earlier ++ member ∷ [])) ≡ length (new_members files earlier) + length (new_one files earlier member)
more files earlier member = ap length (along-push (new_one files) earlier member) ∙ length-append (new_members files earlier) (new_one files earlier member)

pub count_step : (files : List Known) (members : List Seen) (i : ℕ) (member : Seen) (count one : ℕ) → i < length members → member ≡ get_or members i member →
    length (new_members files (take i members)) ≤ count → ((earlier : List Seen) → length (new_one files earlier member) ≤ one) → length (new_members files (take (i + 1) members)) ≤ count + one
count_step files members i member count one inside is few last =
    subst (λ (l : List Seen). length (new_members files l) ≤ count + one) (sym (take_more members i member inside ∙ ap (λ (m : Seen). take i members ++ m ∷ []) (sym is)))
    (let both = more files (take i members) member in let added = last (take i members) in omega (arith, both, added, few))
