-- The area after a file of two plain lines, `a` and `b`, was sent: its 131 bytes in version 1 and in version 2, what they
-- say whole and cut, and with a later row appended.
use Rattle.std.proofs.Common.{◌≡◌, inl, inr, ℕ, ◌≤◌, List, [], ◌∷◌, ◌++◌, length, take, codes, refl, arith}
use Rattle.std.specs.Prelude.{All}
use Rattle.std.specs.Fmt.{digits}
use Rattle.std.proofs.lemmas.List.Elements.{All-cons, All-nil}
use Rattle.event_json.specs.Json.{escape}
use Rattle.wire_base.specs.declared.row.Row.{Row}
use Rattle.wire_base.specs.declared.row.Op.TheVariants.{Set}
use Rattle.registry_frame.specs.Body.{body_bytes}
use Rattle.registry_frame.specs.BodyOf.{IsStoredOp, IsStoredRow}
use Rattle.registry_log.specs.Area.{area_bytes}
use Rattle.registry_log.specs.Header.{first_wrong}
use Rattle.registry_log.specs.Reading.{MayBeRecord}
use Rattle.registry_log.proofs.RecordsEnd.{cut_record}
use Rattle.registry_log.specs.State.{IsState, IsUnclosed, Blank, Closed, Opened, Broken}

abbrev row : ℕ → ℕ → Row
row offset changed = record {
  key = codes "filestream::w::path::/w/a.log";
  path = codes "/w/a.log";
  epoch = record { 0 = 0 };
  offset = offset;
  changed = record { 0 = changed };
}

abbrev two_plain_lines : Row
two_plain_lines = row 4 0

abbrev version_1 : List ℕ
version_1 =
    codes "{beat 1 00000000000000000001\n{0000091 [{\"epoch\":0,\"key\":\"filestream::w::path::/w/a.log\",\"offset\":4,\"op\":\"set\",\"path\":\"/w/a.log\"}]\n."

abbrev version_2 : List ℕ
version_2 =
    codes "{beat 2 00000000000000000001\n{0000091 [{\"epoch\":0,\"key\":\"filestream::w::path::/w/a.log\",\"offset\":4,\"op\":\"set\",\"path\":\"/w/a.log\"}]\n."

-- with the row of offset 6 and moment 5 appended
abbrev appended : List ℕ
appended =
    codes "{beat 1 00000000000000000001\n{0000091 [{\"epoch\":0,\"key\":\"filestream::w::path::/w/a.log\",\"offset\":4,\"op\":\"set\",\"path\":\"/w/a.log\"}]\n{0000103 [{\"changed\":5,\"epoch\":0,\"key\":\"filestream::w::path::/w/a.log\",\"offset\":6,\"op\":\"set\",\"path\":\"/w/a.log\"}]\n."

lengths : (length (body_bytes (Set (row 4 0) ∷ [])) ≡ 91) × (length version_2 ≡ 131) × (length (body_bytes (Set (row 6 5) ∷ [])) ≡ 103) × (length appended ≡ 244)
unfolding digits escape
lengths = (refl, refl, refl, refl)

area_spelled : area_bytes 1 (two_plain_lines ∷ []) ≡ version_2
unfolding digits escape
area_spelled = refl

-- ---- the row may be stored

stored : (offset changed : ℕ) → offset ≤ 6 → changed ≤ 5 → IsStoredRow (row offset changed)
unfolding lib.Utf8.encode
stored offset changed low early = record {
  ranges = record { key = omega arith; path = omega arith; offset = omega (arith, low); changed = omega (arith, early) };
  key = (codes "filestream::w::path::/w/a.log", (refl, refl));
  path = (codes "/w/a.log", (refl, refl));
  epoch = omega arith;
}

one_stored : (offset changed : ℕ) → offset ≤ 6 → changed ≤ 5 → All IsStoredOp (Set (row offset changed) ∷ [])
one_stored offset changed low early = All-cons IsStoredOp (Set (row offset changed)) [] (stored offset changed low early) (All-nil IsStoredOp)

first_may_follow : MayBeRecord [] (Set (row 4 0) ∷ [])
first_may_follow = record { some = λ same. cc same; each = one_stored 4 0 (omega arith) (omega arith); body = omega (arith, lengths.0); rows = omega arith }

second_may_follow : MayBeRecord (Set (row 4 0) ∷ []) (Set (row 6 5) ∷ [])
second_may_follow = record { some = λ same. cc same; each = one_stored 6 5 (omega arith) (omega arith); body = omega (arith, lengths.2); rows = omega arith }

-- ---- what the areas say

unclosed : (rest : List ℕ) → IsUnclosed (0x7B ∷ 0x62 ∷ rest)
unclosed rest = record { gate = refl; more = omega arith }

version_1_is_opened : IsState version_1 (Opened 1 (two_plain_lines ∷ []) 29 130)
unfolding digits escape first_wrong
version_1_is_opened = (
  refl,
  record {
    records = (Set two_plain_lines ∷ []) ∷ [];
    gate = 46;
    rest = [];
    reaches = record { unclosed = unclosed _; header = record { right = refl; number = refl }; each = (first_may_follow, tt); bytes = refl; begins = refl };
    closed = λ same. omega (arith, same);
    replayed = refl;
  },
)

version_2_is_opened : IsState version_2 (Opened 1 (two_plain_lines ∷ []) 29 130)
unfolding digits escape first_wrong
version_2_is_opened = (
  refl,
  record {
    records = (Set two_plain_lines ∷ []) ∷ [];
    gate = 46;
    rest = [];
    reaches = record { unclosed = unclosed _; header = record { right = refl; number = refl }; each = (first_may_follow, tt); bytes = refl; begins = refl };
    closed = λ same. omega (arith, same);
    replayed = refl;
  },
)

appended_is_opened : IsState appended (Opened 1 (row 6 5 ∷ []) 29 243)
unfolding digits escape first_wrong
appended_is_opened = (
  refl,
  record {
    records = (Set (row 4 0) ∷ []) ∷ (Set (row 6 5) ∷ []) ∷ [];
    gate = 46;
    rest = [];
    reaches = record { unclosed = unclosed _; header = record { right = refl; number = refl }; each = (first_may_follow, (second_may_follow, tt)); bytes = refl; begins = refl };
    closed = λ same. omega (arith, same);
    replayed = refl;
  },
)

version_3_is_broken : (rest : List ℕ) → IsState (codes "{beat 3 " ++ rest) (Broken 6)
unfolding first_wrong
version_3_is_broken rest = inl (unclosed _, refl)

-- ---- the same area cut

cut_at_130 : IsState (take 130 version_1) (Broken 130)
unfolding digits escape first_wrong
cut_at_130 = inr (inr (record {
  generation = 1;
  records = (Set two_plain_lines ∷ []) ∷ [];
  reaches = record { unclosed = unclosed _; header = record { right = refl; number = refl }; each = (first_may_follow, tt); bytes = refl; begins = refl };
}))

cut_at_129 : IsState (take 129 version_1) (Broken 29)
unfolding digits escape first_wrong
cut_at_129 = inr (inl (record {
  generation = 1;
  records = [];
  rest = _;
  reaches = record { unclosed = unclosed _; header = record { right = refl; number = refl }; each = tt; bytes = refl; begins = refl };
  no_record = cut_record [] 91 _ (omega arith) (omega arith);
}))

cut_at_29 : IsState (take 29 version_1) (Broken 29)
unfolding first_wrong
cut_at_29 = inr (inr (record {
  generation = 1;
  records = [];
  reaches = record { unclosed = unclosed _; header = record { right = refl; number = refl }; each = tt; bytes = refl; begins = refl };
}))

cut_at_10 : IsState (take 10 version_1) (Broken 10)
unfolding first_wrong
cut_at_10 = inl (unclosed _, refl)

one_byte_is_blank : IsState (codes "{") Blank
one_byte_is_blank = omega arith

closed_gate_is_closed : IsState (codes "." ++ version_1) Closed
closed_gate_is_closed = (omega arith, λ same. omega (arith, same))
