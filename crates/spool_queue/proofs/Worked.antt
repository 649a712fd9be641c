-- The spool of two lines, `a` and `bb`, its bytes and what they are read as, whole, with one settled, and cut.
use Rattle.std.proofs.Common.{◌≡◌, inl, inr, ℕ, List, [], ◌∷◌, ◌++◌, length, take, codes, refl, arith}
use Rattle.std.specs.Fmt.{digits}
use Rattle.spool_queue.specs.Log.{Log, Empty, Then, AreRecords, log_bytes}
use Rattle.spool_queue.specs.Records.{Event, Settlement}
use Rattle.spool_queue.specs.Spool.{IsBad, IsReadAs}

abbrev two : Log
two = Then (Then Empty (Event (codes "a"))) (Event (codes "bb"))

abbrev one_settled : Log
one_settled = Then two (Settlement 1)

abbrev two_bytes : List ℕ
two_bytes = codes "{0000000001 ea\n{0000000002 ebb\n."

abbrev settled_bytes : List ℕ
settled_bytes = codes "{0000000001 ea\n{0000000002 ebb\n{0000000001 s1\n."

lengths : (length two_bytes ≡ 32) × (length settled_bytes ≡ 47)
lengths = (refl, refl)

two_spelled : log_bytes two ++ codes "." ≡ two_bytes
unfolding digits
two_spelled = refl

settled_spelled : log_bytes one_settled ++ codes "." ≡ settled_bytes
unfolding digits
settled_spelled = refl

two_are : AreRecords two
two_are = ((tt, omega arith), omega arith)

settled_are : AreRecords one_settled
settled_are = (two_are, (omega arith, omega arith))

two_read : IsReadAs two_bytes (codes "a" ∷ codes "bb" ∷ [])
unfolding digits
two_read = inr (omega arith, (two, 31, record { gate = 46; rest = []; reaches = record { each = two_are; bytes = refl; begins = refl }; closed = λ is. omega (arith, is) }, refl))

settled_read : IsReadAs settled_bytes (codes "bb" ∷ [])
unfolding digits
settled_read = inr (omega arith, (one_settled, 46, record { gate = 46; rest = []; reaches = record { each = settled_are; bytes = refl; begins = refl }; closed = λ is. omega (arith, is) }, refl))

-- without its last gate it is bad there
cut_bad : IsBad (take 31 two_bytes) 31
unfolding digits
cut_bad = (omega arith, (two, inr (record { each = two_are; bytes = refl; begins = refl })))

alone_read : IsReadAs (codes ".") []
alone_read = inl (omega arith, refl)
