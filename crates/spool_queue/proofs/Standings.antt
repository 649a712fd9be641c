-- A spool to which a record is appended: what it is read as, whatever a crash leaves.
use Rattle.std.proofs.Common.{◌≡◌, ◌≢◌, ◌⊎◌, inl, inr, ℕ, ◌+◌, ◌-◌, ◌<◌, ◌≤◌, List, [], ◌∷◌, ◌++◌, length, drop, Option, Some, refl, sym, ap, ◌∙◌, subst, arith, codes, append_assoc, length-append, length-drop}
use Rattle.std.proofs.lemmas.Bool.{cases_lt}
use Rattle.std.proofs.lemmas.List.{drop-append-le, drop-drop, nil_from_length}
use Rattle.outside.specs.DiskImages.{LeavesOnly, Torn}
use Rattle.spool_queue.specs.Appending.{IsPartAppended, appended}
use Rattle.spool_queue.specs.Log.{Log, Empty, Then, AreRecords, MayFollow, log_bytes, outstanding, payloads, settled}
use Rattle.spool_queue.specs.Records.{Record, Event, Settlement, record_bytes, head_bytes, kind_of, body_of}
use Rattle.spool_queue.specs.Spool.{EndsAt, IsReadAs}
use Rattle.spool_queue.specs.Standing.{Holds, IsEither, IsSpoolOf, count_of}
use Rattle.spool_queue.specs.declared.spool.Spool.{Spool}
use Rattle.spool_queue.proofs.Crashes.{weaker}

-- ---- logs

pub settled_within : (log : Log) → AreRecords log → settled log ≤ length (payloads log)
settled_within Empty each = omega arith
settled_within (Then log (Event payload)) each = omega (arith, settled_within log each.0, length-append (payloads log) (payload ∷ []))
settled_within (Then log (Settlement count)) each = each.1.1

pub with_event : (log : Log) (payload : List ℕ) → AreRecords log → outstanding (Then log (Event payload)) ≡ outstanding log ++ payload ∷ []
with_event log payload each = drop-append-le (settled log) (payloads log) (payload ∷ []) (settled_within log each)

pub with_settlement : (log : Log) (n : ℕ) → outstanding (Then log (Settlement (settled log + n))) ≡ drop n (outstanding log)
with_settlement log n = sym (drop-drop n (settled log) (payloads log))

nothing_read : (log : Log) → length (log_bytes log) ≡ 0 → outstanding log ≡ []
nothing_read Empty none = refl
nothing_read (Then log one) none = absurd (omega (arith, none, length-append (log_bytes log) (record_bytes one), length-append (head_bytes (length (body_of one)) (kind_of one)) (body_of one ++ 10 ∷ [])))

-- ---- what bytes are read as

pub read_as : (spool : List ℕ) (log : Log) (end : ℕ) (list : List (List ℕ)) → EndsAt spool log end → outstanding log ≡ list → IsReadAs spool list
read_as spool log end list ends is = elim (cases_lt 1 (length spool)) [
  | inl long ↦ inr (long, (log, end, ends, is))
  | inr short ↦
      let parts = ap length ends.reaches.bytes in
      inl (short, sym is ∙ nothing_read log (omega (arith, short, parts, length-append (log_bytes log) (ends.gate ∷ ends.rest))))
]

pub other_gate : (log : Log) (end gate : ℕ) (more spool : List ℕ) → AreRecords log → length (log_bytes log) ≡ end → spool ≡ log_bytes log ++ gate ∷ more → gate ≢ 0x7B → EndsAt spool log end
other_gate log end gate more spool each begins same closed = record { gate = gate; rest = more; reaches = record { each = each; bytes = same; begins = begins }; closed = closed }

-- the record in place of the gate, and a closed gate behind it
pub with_record : (log : Log) (end : ℕ) (one : Record) (text rest : List ℕ) → AreRecords log → length (log_bytes log) ≡ end → MayFollow log one → 0x7B ∷ text ≡ record_bytes one ++ codes "."
    → EndsAt (appended (log_bytes log) text rest) (Then log one) (end + length text)
with_record log end one text rest each begins may spelled =
    let more : List ℕ = drop (length text) rest in
    record {
      gate = 46;
      rest = more;
      reaches = record {
        each = (each, may);
        bytes = ap (λ (l : List ℕ). log_bytes log ++ (l ++ more)) spelled ∙ ap (λ (l : List ℕ). log_bytes log ++ l) (append_assoc (record_bytes one) (46 ∷ []) more)
            ∙ sym (append_assoc (log_bytes log) (record_bytes one) (46 ∷ more));
        begins = omega (arith, begins, ap length spelled, length-append (record_bytes one) (46 ∷ []), length-append (log_bytes log) (record_bytes one));
      };
      closed = λ is. omega (arith, is);
    }

-- a crash while a record is appended
pub part_read : (log : Log) (end : ℕ) (one : Record) (text rest image : List ℕ) (list other : List (List ℕ)) → AreRecords log → length (log_bytes log) ≡ end → MayFollow log one → 0x7B ∷ text ≡ record_bytes one ++ codes "."
    → outstanding log ≡ list → outstanding (Then log one) ≡ other → IsPartAppended (log_bytes log) text rest image → IsEither list other image
part_read log end one text rest image list other each begins may spelled before after (inl (gate, more, same, closed)) =
    inl (read_as image log end list (other_gate log end gate more image each begins same closed) before)
part_read log end one text rest image list other each begins may spelled before after (inr same) =
    let E : List ℕ → Type 0 = λ l. EndsAt l (Then log one) (end + length text) in
    inr (read_as image (Then log one) (end + length text) other (subst E (sym same) (with_record log end one text rest each begins may spelled)) after)

-- ---- an empty spool

pub short_read : (spool : List ℕ) → length spool ≤ 1 → IsReadAs spool []
short_read spool short = inl (short, refl)

pub gate_alone : EndsAt (46 ∷ []) Empty 0
gate_alone = record { gate = 46; rest = []; reaches = record { each = tt; bytes = refl; begins = refl }; closed = λ is. omega (arith, is) }

pub torn_short : (old image : List ℕ) → length old ≤ 1 → Torn 0 1 old image → length image ≤ 1
torn_short old image short torn = omega (arith, torn.no_longer)

pub read_short : (spool : List ℕ) (list : List (List ℕ)) → length spool ≤ 1 → IsReadAs spool list → list ≡ []
read_short spool list short (inl empty) = empty.1
read_short spool list short (inr long) = absurd (omega (arith, short, long.0))

pub none_left : (log : Log) (list : List (List ℕ)) → length (payloads log) - settled log ≡ 0 → outstanding log ≡ list → list ≡ []
none_left log list none is = sym is ∙ nil_from_length (drop (settled log) (payloads log)) (omega (arith, none, length-drop (settled log) (payloads log)))

-- ---- calls

abbrev pub HoldsSpool : Spool → List (List ℕ) → Option (List ℕ) → Type 0
HoldsSpool spool list contents = Holds (λ now. IsSpoolOf spool now list) contents

pub holds_of : (spool : Spool) (contents : Option (List ℕ)) (bytes : List ℕ) (list : List (List ℕ)) → contents ≡ Some bytes → IsSpoolOf spool bytes list → HoldsSpool spool list contents
holds_of spool contents bytes list same is = let H : Option (List ℕ) → Type 0 = λ o. HoldsSpool spool list o in subst H (sym same) is

pub stands_with : (spool : Spool) (log : Log) (one : Record) (text rest : List ℕ) (list : List (List ℕ)) (end : ℕ) → AreRecords log → length (log_bytes log) ≡ end → MayFollow log one → 0x7B ∷ text ≡ record_bytes one ++ codes "."
    → spool.end ≡ end + length text → length (payloads (Then log one)) ≡ spool.events → settled (Then log one) ≡ spool.settled → outstanding (Then log one) ≡ list → IsSpoolOf spool (appended (log_bytes log) text rest) list
stands_with spool log one text rest list end each begins may spelled ends events settlements is =
    let E : ℕ → Type 0 = λ n. EndsAt (appended (log_bytes log) text rest) (Then log one) n in
    record { log = Then log one; ends = subst E (sym ends) (with_record log end one text rest each begins may spelled); events = events; settlements = settlements; list_is = is }

pub empty_spool : (spool : Spool) → spool.end ≡ 0 → spool.events ≡ 0 → spool.settled ≡ 0 → IsSpoolOf spool (46 ∷ []) []
empty_spool spool end events settlements =
    let E : ℕ → Type 0 = λ n. EndsAt (46 ∷ []) Empty n in
    record { log = Empty; ends = subst E (sym end) gate_alone; events = sym events; settlements = sym settlements; list_is = refl }

-- the settlement of the first n payloads
pub record Settling (log : Log) (settled_then n : ℕ) (list : List (List ℕ)) : Type 0 where
  pub may : MayFollow log (Settlement settled_then)
  pub left : outstanding (Then log (Settlement settled_then)) ≡ drop n list

pub settling : (spool : Spool) (bytes : List ℕ) (list : List (List ℕ)) (n : ℕ) → (is : IsSpoolOf spool bytes list) → 0 < n → n ≤ count_of spool → Settling is.log (spool.settled + n) n list
settling spool bytes list n is some within =
    let sum : settled is.log + n ≡ spool.settled + n = omega (arith, is.settlements) in
    let O : ℕ → Type 0 = λ k. outstanding (Then is.log (Settlement k)) ≡ drop n list in
    record {
      may = (omega (arith, is.settlements, some), omega (arith, is.events, within, some));
      left = subst O sum (with_settlement is.log n ∙ ap (drop n) is.list_is);
    }

module _ {D : Type 0} (moment : D → ℕ) (images_since : D → ℕ → List ℕ → Type 0) where
  -- what a crash leaves while a record is appended
  pub moments : (old new : D) (contents : Option (List ℕ)) (bytes : List ℕ) (log : Log) (end : ℕ) (one : Record) (text : List ℕ) (list other : List (List ℕ)) → contents ≡ Some bytes → (ends : EndsAt bytes log end) → MayFollow log one
      → 0x7B ∷ text ≡ record_bytes one ++ codes "." → outstanding log ≡ list → outstanding (Then log one) ≡ other
      → ((front rest : List ℕ) (gate : ℕ) → contents ≡ Some (front ++ gate ∷ rest) → length front ≡ end → gate ≢ 0x7B → LeavesOnly moment images_since old new (IsPartAppended front text rest))
      → LeavesOnly moment images_since old new (IsEither list other)
  moments old new contents bytes log end one text list other told ends may spelled before after leaves =
      weaker moment images_since old new (IsPartAppended (log_bytes log) text ends.rest) (IsEither list other)
      (leaves (log_bytes log) ends.rest ends.gate (told ∙ ap (λ (l : List ℕ). Some l) ends.reaches.bytes) ends.reaches.begins ends.closed)
      (λ image part. part_read log end one text ends.rest image list other ends.reaches.each ends.reaches.begins may spelled before after part)

  -- and while a spool is emptied
  pub emptied_moments : (old new : D) (bytes : List ℕ) → IsReadAs bytes [] → LeavesOnly moment images_since old new (λ image. (image ≡ bytes) ⊎ (length image ≤ 1)) → LeavesOnly moment images_since old new (λ image. IsReadAs image [])
  emptied_moments old new bytes is leaves = weaker moment images_since old new (λ image. (image ≡ bytes) ⊎ (length image ≤ 1)) (λ image. IsReadAs image []) leaves read_either
    where
      read_either : (image : List ℕ) → (image ≡ bytes) ⊎ (length image ≤ 1) → IsReadAs image []
      read_either image (inl same) = let R : List ℕ → Type 0 = λ l. IsReadAs l [] in subst R (sym same) is
      read_either image (inr short) = short_read image short
