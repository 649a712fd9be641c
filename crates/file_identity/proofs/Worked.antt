-- Worked keys, computed by the definitions.
use Rattle.std.proofs.Common.{◌≡◌, ℕ, ◌<◌, List, [], ◌∷◌, Some, None, codes, refl, lit<, lit≤, arith}
use Rattle.std.specs.Fmt.{digits}
use Rattle.event_tree.specs.declared.input_rule.IdentityRule.{IdentityRule}
use Rattle.event_tree.specs.declared.input_rule.IdentityRule.TheVariants.{Fingerprint, Native, Path}
use Rattle.hex.specs.Hex.{encode_with}
use Rattle.outside.specs.declared.history.Look.{Look}
use Rattle.outside.specs.declared.history.Question.{Question}
use Rattle.outside.specs.declared.history.Question.TheVariants.{ReadAt}
use Rattle.outside.specs.Files.{File}
use Rattle.sha2.specs.Sha256.{compress, digest_bytes, first_words, hash_after, rounds, schedule, sha256}
use Rattle.file_identity.specs.Asking.{IsAsking, IsCutAsking, given_key}
use Rattle.file_identity.specs.Key.{fingerprint_key, key_of, named_key}

-- of a path
by_path : named_key (codes "w") Path (codes "/w/a.log") None ≡ Some (codes "filestream::w::path::/w/a.log")
by_path = refl

-- of inode and device
by_numbers : named_key (codes "w") Native (codes "/w/a.log") (Some (7, 1)) ≡ Some (codes "filestream::w::native::7-1")
unfolding digits
by_numbers = refl

without_numbers : named_key (codes "w") Native (codes "/w/a.log") None ≡ None
without_numbers = refl

-- of 112 bytes, as FIPS 180-4's examples have them
abbrev fingerprint : List ℕ
fingerprint = codes "abcdefghbcdefghicdefghijdefghijkefghijklfghijklmghijklmnhijklmnoijklmnopjklmnopqklmnopqrlmnopqrsmnopqrstnopqrstu"

abbrev rule : IdentityRule
rule = Fingerprint 0 112

by_fingerprint : key_of (codes "w") rule (codes "/w/a.log") None (fingerprint)
    ≡ Some (codes "filestream::w::fingerprint::cf5b16a778af8380036ce59e7b0492370b249b11e8f07a51afac45037afee9d1")
unfolding fingerprint_key encode_with first_words schedule rounds compress hash_after digest_bytes sha256
by_fingerprint = refl

-- of 111 of them there is none, and without a look none
too_small : key_of (codes "w") rule (codes "/w/a.log") None (codes "bcdefghbcdefghicdefghijdefghijkefghijklfghijklmghijklmnhijklmnoijklmnopjklmnopqklmnopqrlmnopqrsmnopqrstnopqrstu") ≡ None
too_small = refl

not_listed : named_key (codes "w") rule (codes "/w/a.log") (Some (7, 1)) ≡ None
not_listed = refl

-- ---- what an asking gave: two reads of three bytes from place 1 on

abbrev look : Question → ℕ → ℕ → Look
look question life length = record { question = question; sight = record { life = life; length = length } }

abbrev file : File
file = record { numbers = None; lives = codes "abcd" ∷ codes "xyz" ∷ [] }

abbrev two_reads : List Look
two_reads = look (ReadAt 1 2) 0 4 ∷ look (ReadAt 3 1) 0 4 ∷ []

are_asked : IsAsking (Fingerprint 1 3) two_reads
are_asked = (lit< tt, (refl, lit≤ tt, (lit< tt, (refl, lit≤ tt, refl))))

of_both_reads : given_key (codes "w") (Fingerprint 1 3) (codes "/w/a.log") file two_reads ≡ Some (fingerprint_key (codes "w") (codes "bcd"))
of_both_reads = refl

-- the life changes in between: the bytes that came decide
of_two_lives : given_key (codes "w") (Fingerprint 1 2) (codes "/w/a.log") file (look (ReadAt 1 1) 0 4 ∷ look (ReadAt 2 1) 1 3 ∷ []) ≡ Some (fingerprint_key (codes "w") (codes "bz"))
of_two_lives = refl

-- a read that gives nothing before all came
ended_before : IsAsking (Fingerprint 1 3) (look (ReadAt 1 2) 1 3 ∷ look (ReadAt 3 0) 1 3 ∷ [])
ended_before = (lit< tt, (refl, lit≤ tt, (lit< tt, (refl, refl))))

none_given : given_key (codes "w") (Fingerprint 1 3) (codes "/w/a.log") file (look (ReadAt 1 2) 1 3 ∷ look (ReadAt 3 0) 1 3 ∷ []) ≡ None
none_given = refl

-- a fault after the first read: some bytes came, and one is still wanted
cut_by_a_fault : IsCutAsking (Fingerprint 1 3) (look (ReadAt 1 2) 0 4 ∷ [])
cut_by_a_fault = (lit< tt, (refl, lit≤ tt, lit< tt))

-- no fault cuts an asking where all came, or where a read gave nothing
all_came : IsCutAsking (Fingerprint 1 3) two_reads → ⊥
all_came (some, (same, fits, (other, (next, all, left)))) = let q : 0 < 0 = left in omega (arith, q)

ended : IsCutAsking (Fingerprint 1 3) (look (ReadAt 1 0) 1 0 ∷ []) → ⊥
ended (some, (same, never)) = never

-- no asking ends before all came, or goes on after the end
cut_off : IsAsking (Fingerprint 1 3) (look (ReadAt 1 2) 0 4 ∷ []) → ⊥
cut_off (some, (same, fits, left)) =
    let q : 1 ≡ 0 = left in
    cc

goes_on_behind : IsAsking (Fingerprint 0 3) (look (ReadAt 0 0) 0 0 ∷ look (ReadAt 0 1) 0 1 ∷ []) → ⊥
goes_on_behind (some, (same, none)) = cc
