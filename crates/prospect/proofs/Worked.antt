-- Worked scans that end before they tell their files.
use Rattle.std.proofs.Common.{◌≡◌, inl, inr, ℕ, List, [], ◌∷◌, codes, refl}
use Rattle.outside.specs.Folders.{Event, Listed, ListingFailed}
use Rattle.prospect.specs.Unfinished.{ListSome}

abbrev globs : List (List ℕ)
globs = codes "/a/*.log" ∷ codes "/b/**" ∷ codes "/c" ∷ []

abbrev first : Event
first = Listed (codes "/a") 1 []

abbrev second : Event
second = Listed (codes "/b") 8 []

nothing_listed : ListSome globs []
nothing_listed = tt

second_listing_fails : ListSome globs (first ∷ ListingFailed ∷ [])
second_listing_fails = inl (([], refl), inr (refl, refl))

no_memory_behind_the_second : ListSome globs (first ∷ second ∷ [])
no_memory_behind_the_second = inl (([], refl), inl (([], refl), tt))

never_out_of_order : ListSome globs (second ∷ []) → ⊥
never_out_of_order (inl listed) = absurd (let is : second ≡ Listed (codes "/a") 1 listed.0.0 = listed.0.1 in cc)
never_out_of_order (inr failed) = absurd (let is : second ≡ ListingFailed = failed.0 in cc)

nothing_behind_a_failed_listing : ListSome globs (ListingFailed ∷ second ∷ []) → ⊥
nothing_behind_a_failed_listing (inl listed) = absurd (let is : ListingFailed ≡ Listed (codes "/a") 1 listed.0.0 = listed.0.1 in cc)
nothing_behind_a_failed_listing (inr failed) = absurd (let is : second ∷ [] ≡ [] = failed.1 in cc)
