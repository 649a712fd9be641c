-- Any bytes are read as windows.
use Rattle.std.proofs.Common.{◌≡◌, ℕ, zero, suc, ◌^◌, ◌<◌, ◌≤◌, ◌⊎◌, Bool, true, false, List, [], ◌∷◌, ◌++◌, length, take, drop, refl, sym, ap, subst, ◌∙◌, append_assoc, arith, inl, inr}
use Rattle.std.specs.Int.{w32, from_be_bytes}
use Rattle.std.specs.List.{flat_map}
use Rattle.std.specs.Str.{bytes_eq}
use Rattle.std.proofs.lemmas.Bool.{cases_lt}
use Rattle.std.proofs.lemmas.List.{length-append, take_at, drop_at}
use Rattle.std.proofs.lemmas.Nat.{from_be_bytes-to_be_bytes_4}
use Rattle.std.proofs.lemmas.Slice.Eq.{bytes_eq-Decides}
use Rattle.wire_base.specs.declared.parcel.TheConstants.{MAX_PAYLOAD}
use Rattle.lumber_frame.specs.declared.frame.Frame.TheVariants.{Window, Json}
use Rattle.lumber_frame.specs.Frame.{frame_bytes}
use Rattle.lumber_frame.specs.Window.{numbered, window_bytes, IsNumbered, IsWindow, BeginsWithWindow, AreWindows}
use Rattle.lumber_frame.proofs.Answering.{length-window}

-- two lists of bytes are the same or are not
same_or_not : (xs ys : List ℕ) → (xs ≡ ys) ⊎ (xs ≡ ys → ⊥)
same_or_not xs ys = by_test (bytes_eq xs ys) (bytes_eq-Decides xs ys)
  where
    by_test : (test : Bool) → (test ≡ true → xs ≡ ys) × (xs ≡ ys → test ≡ true) → (xs ≡ ys) ⊎ (xs ≡ ys → ⊥)
    by_test true decides = inl (decides.0 refl)
    by_test false decides = inr (λ same. absurd cc (decides.1 same))

-- ---- a JSON frame

-- where a JSON frame's payload ends, if one is in front
size_in : List ℕ → ℕ
size_in bytes = from_be_bytes w32 (take 4 (drop 6 bytes))

payload_in : List ℕ → List ℕ
payload_in bytes = take (size_in bytes) (drop 10 bytes)

after_in : List ℕ → List ℕ
after_in bytes = drop (size_in bytes) (drop 10 bytes)

-- a JSON frame is in front
record IsJson (sequence : ℕ) (bytes : List ℕ) : Type 0 where
  few : length (payload_in bytes) ≤ MAX_PAYLOAD
  front : bytes ≡ frame_bytes (Json sequence (payload_in bytes)) ++ after_in bytes

json_or_not : (sequence : ℕ) (bytes : List ℕ) → IsJson sequence bytes ⊎ (IsJson sequence bytes → ⊥)
json_or_not sequence bytes =
    elim (cases_lt MAX_PAYLOAD (length (payload_in bytes))) [
      | inl many ↦ inr (λ is. absurd (omega (arith, is.few)))
      | inr few ↦ elim (same_or_not bytes (frame_bytes (Json sequence (payload_in bytes)) ++ after_in bytes)) [
        | inl same ↦ inl (record { few = few; front = same })
        | inr other ↦ inr (λ is. other (is.front))
      ]
    ]

-- what is in front is found there
size_found : (sequence : ℕ) (payload after : List ℕ) → length payload ≤ MAX_PAYLOAD → size_in (frame_bytes (Json sequence payload) ++ after) ≡ length payload
unfolding size_in
size_found sequence payload after few = from_be_bytes-to_be_bytes_4 (length payload) (omega arith)

json_found : (sequence : ℕ) (payload after : List ℕ) → length payload ≤ MAX_PAYLOAD → (payload_in (frame_bytes (Json sequence payload) ++ after) ≡ payload) × (after_in (frame_bytes (Json sequence payload) ++ after) ≡ after)
unfolding payload_in after_in
json_found sequence payload after few =
    let size = size_found sequence payload after few in (
      ap (λ (n : ℕ). take n (payload ++ after)) size ∙ take_at payload after (length payload) refl,
      ap (λ (n : ℕ). drop n (payload ++ after)) size ∙ drop_at payload after (length payload) refl,
    )

-- bytes before which a JSON frame is
json_from : (sequence : ℕ) (bytes payload after : List ℕ) → length payload ≤ MAX_PAYLOAD → bytes ≡ frame_bytes (Json sequence payload) ++ after → IsJson sequence bytes × (after_in bytes ≡ after)
json_from sequence bytes payload after few is =
    let found = json_found sequence payload after few in
    let payload_is : payload_in bytes ≡ payload = ap payload_in is ∙ found.0 in
    let after_is : after_in bytes ≡ after = ap after_in is ∙ found.1 in (
      record {
        few = omega (arith, ap length payload_is);
        front = is ∙ ap (λ (p : List ℕ). frame_bytes (Json sequence p) ++ after) (sym payload_is) ∙ ap (λ (a : List ℕ). frame_bytes (Json sequence (payload_in bytes)) ++ a) (sym after_is);
      },
      after_is,
    )

-- ---- the JSON frames of a window

-- the payloads in front
record Numbered (sequence count : ℕ) (bytes : List ℕ) : Type 0 where
  payloads : List (List ℕ)
  rest : List ℕ
  is : IsNumbered sequence count bytes payloads rest

first_of_some : (sequence count : ℕ) (bytes : List ℕ) (payloads : List (List ℕ)) (rest : List ℕ) → IsNumbered sequence (suc count) bytes payloads rest → IsJson sequence bytes × Numbered (suc sequence) count (after_in bytes)
first_of_some sequence count bytes [] rest is = absurd (omega (arith, is.counted))
first_of_some sequence count bytes (payload ∷ payloads) rest is =
    let front = is.front ∙ append_assoc (frame_bytes (Json sequence payload)) (numbered (suc sequence) payloads) rest in
    let json = json_from sequence bytes payload (numbered (suc sequence) payloads ++ rest) (is.each.0) front in
    (json.0, record { payloads = payloads; rest = rest; is = record { counted = omega (arith, is.counted); each = is.each.1; front = json.1 } })

numbered_or_not : (count sequence : ℕ) (bytes : List ℕ) → Numbered sequence count bytes ⊎ (Numbered sequence count bytes → ⊥)
numbered_or_not zero sequence bytes = inl (record { payloads = []; rest = bytes; is = record { counted = refl; each = tt; front = refl } })
numbered_or_not (suc count) sequence bytes =
    elim (json_or_not sequence bytes) [
      | inl json ↦ elim (numbered_or_not count (suc sequence) (after_in bytes)) [
        | inl others ↦ inl (record {
          payloads = payload_in bytes ∷ others.payloads;
          rest = others.rest;
          is = record {
            counted = ap suc (others.is.counted);
            each = (json.few, others.is.each);
            front = json.front ∙ ap (λ (tail : List ℕ). frame_bytes (Json sequence (payload_in bytes)) ++ tail) (others.is.front) ∙ sym (append_assoc (frame_bytes (Json sequence (payload_in bytes))) (numbered (suc sequence) others.payloads) others.rest);
          };
        })
        | inr none ↦ inr (λ some. none ((first_of_some sequence count bytes some.payloads some.rest some.is).1))
      ]
      | inr none ↦ inr (λ some. none ((first_of_some sequence count bytes some.payloads some.rest some.is).0))
    ]

-- ---- a window

-- the window in front
record First (bytes : List ℕ) : Type 0 where
  payloads : List (List ℕ)
  more : List ℕ
  is : BeginsWithWindow bytes payloads more

-- the count of a window frame, if one is in front
count_in : List ℕ → ℕ
count_in bytes = from_be_bytes w32 (take 4 (drop 2 bytes))

-- a window frame of at least one is in front, and its JSON frames after it
record IsFirst (bytes : List ℕ) : Type 0 where
  some : 0 < count_in bytes
  few : count_in bytes < 2 ^ 32
  front : bytes ≡ frame_bytes (Window (count_in bytes)) ++ drop 6 bytes
  behind : Numbered 1 (count_in bytes) (drop 6 bytes)

first_or_none : (bytes : List ℕ) → IsFirst bytes ⊎ (IsFirst bytes → ⊥)
first_or_none bytes =
    elim (cases_lt 0 (count_in bytes)) [
      | inl some ↦ elim (cases_lt (count_in bytes) (2 ^ 32)) [
        | inl few ↦ elim (same_or_not bytes (frame_bytes (Window (count_in bytes)) ++ drop 6 bytes)) [
          | inl same ↦ elim (numbered_or_not (count_in bytes) 1 (drop 6 bytes)) [
            | inl behind ↦ inl (record { some = some; few = few; front = same; behind = behind })
            | inr none ↦ inr (λ is. none (is.behind))
          ]
          | inr other ↦ inr (λ is. other (is.front))
        ]
        | inr many ↦ inr (λ is. absurd (omega (arith, is.few)))
      ]
      | inr none ↦ inr (λ is. absurd (omega (arith, is.some)))
    ]

count_found : (count : ℕ) (after : List ℕ) → count < 2 ^ 32 → count_in (frame_bytes (Window count) ++ after) ≡ count
unfolding count_in
count_found count after few = from_be_bytes-to_be_bytes_4 count few

-- a window is found
window_found : (payloads : List (List ℕ)) (more : List ℕ) → IsWindow payloads → IsFirst (window_bytes payloads ++ more)
window_found payloads more is =
    let count : count_in (window_bytes payloads ++ more) ≡ length payloads = count_found (length payloads) (numbered 1 payloads ++ more) (is.few) in
    record {
      some = omega (arith, count, is.some);
      few = omega (arith, count, is.few);
      front = ap (λ (n : ℕ). frame_bytes (Window n) ++ (numbered 1 payloads ++ more)) (sym count);
      behind = record { payloads = payloads; rest = more; is = record { counted = sym count; each = is.each; front = refl } };
    }

-- what was found is a window
found_window : (bytes : List ℕ) → IsFirst bytes → First bytes
found_window bytes found =
    let behind = found.behind in
    let count = behind.is.counted in
    record {
      payloads = behind.payloads;
      more = behind.rest;
      is = record {
        is = record { some = omega (arith, count, found.some); few = omega (arith, count, found.few); each = behind.is.each };
        front = found.front ∙ ap (λ (tail : List ℕ). frame_bytes (Window (count_in bytes)) ++ tail) (behind.is.front) ∙ ap (λ (n : ℕ). frame_bytes (Window n) ++ (numbered 1 behind.payloads ++ behind.rest)) (sym count);
      };
    }

window_or_none : (bytes : List ℕ) → First bytes ⊎ ((payloads : List (List ℕ)) (more : List ℕ) → BeginsWithWindow bytes payloads more → ⊥)
window_or_none bytes =
    elim (first_or_none bytes) [
      | inl found ↦ inl (found_window bytes found)
      | inr none ↦ inr (λ payloads more begins. none (subst (λ (all : List ℕ). IsFirst all) (sym begins.front) (window_found payloads more begins.is)))
    ]

-- ---- all windows

shorter : (bytes : List ℕ) (first : First bytes) → length first.more < length bytes
shorter bytes first = omega (arith, ap (λ (all : List ℕ). length all) first.is.front, length-append (window_bytes first.payloads) first.more, length-window first.payloads)

upto : (most : ℕ) (bytes : List ℕ) → length bytes ≤ most → (windows : List (List (List ℕ))) × AreWindows bytes windows
upto zero bytes few =
    elim (window_or_none bytes) [
      | inl first ↦ absurd (omega (arith, shorter bytes first, few))
      | inr none ↦ ([], record { each = tt; rest = bytes; whole = refl; cut = none })
    ]
upto (suc most) bytes few =
    elim (window_or_none bytes) [
      | inl first ↦
          let others = upto most first.more (omega (arith, shorter bytes first, few)) in (
            first.payloads ∷ others.0,
            record {
              each = (first.is.is, others.1.each);
              rest = others.1.rest;
              whole = first.is.front ∙ ap (λ (tail : List ℕ). window_bytes first.payloads ++ tail) (others.1.whole) ∙ sym (append_assoc (window_bytes first.payloads) (flat_map window_bytes others.0) others.1.rest);
              cut = others.1.cut;
            },
          )
      | inr none ↦ ([], record { each = tt; rest = bytes; whole = refl; cut = none })
    ]

-- any bytes are windows
pub windows_there : (bytes : List ℕ) → (windows : List (List (List ℕ))) × AreWindows bytes windows
windows_there bytes = upto (length bytes) bytes (omega arith)
