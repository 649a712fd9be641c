-- What is laid out to be sent, and what it becomes.
use Rattle.std.proofs.Common.{◌≡◌, ℕ, suc, ◌+◌, ◌-◌, ◌<◌, ◌≤◌, Bool, true, false, cond, leb, List, [], ◌∷◌, ◌++◌, length, get_or, take, drop, Option, Some, None, IsSome, refl, sym, ap, subst, ◌∙◌, append_assoc, arith, inl, inr}
use Rattle.std.proofs.lemmas.Bool.Decides.{leb_tells}
use Rattle.std.proofs.lemmas.List.{append-nil, drop-append-le, drop-drop, drop_all, drop_more, get_or_append_left, length-drop, length-take-le, take-append-le}
use Rattle.lumber_frame.specs.declared.frame.Frame.TheVariants.{Window, Json}
use Rattle.lumber_frame.specs.Frame.{frame_bytes, json_head_bytes}
use Rattle.lumber_frame.specs.Window.{numbered, window_bytes}
use Rattle.lumber_client.specs.Held.{total}
use Rattle.lumber_client.specs.Laying.{Laying, IsCounted, IsIdle, IsLent, LaysFrame, LaysHead, LaysNext, LaysNoMore, Refills, behind_first, behind_of, first_of, last_laid, lent_after, lent_rest, nothing_laid, passed_by, pending, piece_of, rest_of, unlaid_bytes, windows_left, with_frame, with_window}

-- ---- the next piece and all that goes out

joined_first : (front lent rest : List ℕ) → first_of front lent ++ behind_first front lent rest ≡ front ++ (lent ++ rest)
joined_first [] lent rest = refl
joined_first (byte ∷ front) lent rest = refl

-- the next piece and what is after it are all that goes out
pub piece_and_behind : (l : Laying) (payloads : List (List ℕ)) (begun : ℕ) → piece_of l payloads begun ++ behind_of l payloads begun ≡ pending l payloads begun
unfolding piece_of behind_of pending
piece_and_behind l payloads begun = joined_first (drop l.start l.buffer) (lent_rest l.lent (last_laid l payloads begun)) (unlaid_bytes l payloads begun)

-- nothing is unlaid where no frame is to be laid
idle_unlaid : (l : Laying) (payloads : List (List ℕ)) (begun : ℕ) → IsIdle l → unlaid_bytes l payloads begun ≡ []
unfolding unlaid_bytes
idle_unlaid l payloads begun idle =
    ap (λ (n : ℕ). numbered (suc l.laid) (take n (rest_of l payloads begun)) ++ windows_left l.unlaid (drop l.left (rest_of l payloads begun))) idle.left
    ∙ ap (λ (counts : List ℕ). windows_left counts (drop l.left (rest_of l payloads begun))) idle.unlaid

behind_none : (front lent rest : List ℕ) → first_of front lent ≡ [] → rest ≡ [] → behind_first front lent rest ≡ []
behind_none [] lent rest none nothing = nothing
behind_none (byte ∷ front) lent rest none nothing = absurd cc

-- nothing follows if there is no next piece
pub nothing_behind : (l : Laying) (payloads : List (List ℕ)) (begun : ℕ) → piece_of l payloads begun ≡ [] → IsIdle l → behind_of l payloads begun ≡ []
unfolding piece_of behind_of
nothing_behind l payloads begun none idle = behind_none (drop l.start l.buffer) (lent_rest l.lent (last_laid l payloads begun)) (unlaid_bytes l payloads begun) none (idle_unlaid l payloads begun idle)

-- nothing goes out where nothing is laid
pub cleared_piece : (depth : ℕ) (payloads : List (List ℕ)) (begun : ℕ) → piece_of (nothing_laid depth) payloads begun ≡ []
unfolding piece_of
cleared_piece depth payloads begun = refl

pub cleared_behind : (depth : ℕ) (payloads : List (List ℕ)) (begun : ℕ) → behind_of (nothing_laid depth) payloads begun ≡ []
unfolding behind_of unlaid_bytes
cleared_behind depth payloads begun = refl

-- ---- more is laid

-- the next window's frame
head_step : (l : Laying) (payloads : List (List ℕ)) (begun count : ℕ) (others : List ℕ) → l.start ≡ 0 → l.lent ≡ None → l.left ≡ 0 → l.unlaid ≡ count ∷ others → count ≤ length (rest_of l payloads begun)
    → (l.buffer ++ frame_bytes (Window count)) ++ ([] ++ (numbered 1 (take count (rest_of l payloads begun)) ++ windows_left others (drop count (rest_of l payloads begun)))) ≡ pending l payloads begun
unfolding pending unlaid_bytes
head_step l payloads begun count others start lent left unlaid few =
    let rest = rest_of l payloads begun in
    let size : length (take count rest) ≡ count = length-take-le count rest few in
    let own = numbered 1 (take count rest) in
    let behind = windows_left others (drop count rest) in
    let window : frame_bytes (Window count) ++ own ≡ window_bytes (take count rest) = ap (λ (n : ℕ). frame_bytes (Window n) ++ own) (sym size) in
    let unlaid_is : numbered (suc l.laid) (take l.left rest) ++ windows_left l.unlaid (drop l.left rest) ≡ window_bytes (take count rest) ++ behind = ap (λ (n : ℕ). numbered (suc l.laid) (take n rest) ++ windows_left l.unlaid (drop n rest)) left ∙ ap (λ (counts : List ℕ). windows_left counts rest) unlaid in
    append_assoc l.buffer (frame_bytes (Window count)) (own ++ behind)
    ∙ ap (λ (tail : List ℕ). l.buffer ++ tail) (sym (append_assoc (frame_bytes (Window count)) own behind) ∙ ap (λ (front : List ℕ). front ++ behind) window ∙ sym unlaid_is)
    ∙ ap (λ (n : ℕ). drop n l.buffer ++ (numbered (suc l.laid) (take l.left rest) ++ windows_left l.unlaid (drop l.left rest))) (sym start)
    ∙ ap (λ (o : Option ℕ). drop l.start l.buffer ++ (lent_rest o (last_laid l payloads begun) ++ (numbered (suc l.laid) (take l.left rest) ++ windows_left l.unlaid (drop l.left rest)))) (sym lent)

rest_long : (l : Laying) (payloads : List (List ℕ)) (begun : ℕ) → l.to_lay ≤ begun → begun ≤ length payloads → l.to_lay ≤ length (rest_of l payloads begun)
unfolding rest_of
rest_long l payloads begun few within = omega (arith, length-drop (begun - l.to_lay) payloads)

head_spelled : (l : Laying) (payloads : List (List ℕ)) (begun count : ℕ) (others : List ℕ) → l.start ≡ 0 → l.lent ≡ None
    → pending (record { depth = l.depth; buffer = l.buffer ++ frame_bytes (Window count); start = l.start; lent = l.lent; laid = 0; left = count; unlaid = others; to_lay = l.to_lay }) payloads begun
    ≡ (l.buffer ++ frame_bytes (Window count)) ++ ([] ++ (numbered 1 (take count (rest_of l payloads begun)) ++ windows_left others (drop count (rest_of l payloads begun))))
unfolding pending unlaid_bytes last_laid rest_of
head_spelled l payloads begun count others start lent =
    let rest = drop (begun - l.to_lay) payloads in
    let tail = numbered 1 (take count rest) ++ windows_left others (drop count rest) in
    let payload = get_or payloads (begun - l.to_lay - 1) [] in
    ap (λ (n : ℕ). drop n (l.buffer ++ frame_bytes (Window count)) ++ (lent_rest l.lent payload ++ tail)) start
    ∙ ap (λ (o : Option ℕ). (l.buffer ++ frame_bytes (Window count)) ++ (lent_rest o payload ++ tail)) lent

pub head_pending : (l new : Laying) (payloads : List (List ℕ)) (begun : ℕ) → l.start ≡ 0 → l.lent ≡ None → l.left ≡ 0 → l.to_lay ≤ begun → begun ≤ length payloads → LaysHead l new → pending new payloads begun ≡ pending l payloads begun
head_pending l new payloads begun start lent left few within h =
    ap (λ (v : Laying). pending v payloads begun) h.is ∙ head_spelled l payloads begun h.count h.others start lent ∙ head_step l payloads begun h.count h.others start lent left h.was (omega (arith, h.fits, rest_long l payloads begun few within))

-- a frame, of which this many bytes are in the buffer, and the rest of the payload is lent
module _ (l : Laying) (payloads : List (List ℕ)) (begun : ℕ) (start : l.start ≡ 0) (lent : l.lent ≡ None) (left : 0 < l.left) (counted : IsCounted l) (few : l.to_lay ≤ begun) (within : begun ≤ length payloads) where
  abbrev payload : List ℕ
  payload = get_or payloads (begun - l.to_lay) []

  some : 0 < l.to_lay
  some = omega (arith, left, counted)

  -- the payload is the first whose frame is to be laid
  rest_is : drop (begun - l.to_lay) payloads ≡ payload ∷ drop (begun - (l.to_lay - 1)) payloads
  rest_is =
      let next : begun - l.to_lay + 1 ≡ begun - (l.to_lay - 1) = omega (arith, some, few) in
      drop_more payloads (begun - l.to_lay) [] (omega (arith, some, few, within)) ∙ ap (λ (n : ℕ). payload ∷ drop n payloads) next

  abbrev others : List ℕ
  others = numbered (suc (l.laid + 1)) (take (l.left - 1) (drop (begun - (l.to_lay - 1)) payloads)) ++ windows_left l.unlaid (drop (l.left - 1) (drop (begun - (l.to_lay - 1)) payloads))

  unlaid_is : unlaid_bytes l payloads begun ≡ frame_bytes (Json (suc l.laid) payload) ++ others
  unfolding unlaid_bytes rest_of
  unlaid_is =
      let back = drop (begun - (l.to_lay - 1)) payloads in
      let number : l.left ≡ suc (l.left - 1) = omega (arith, left) in
      let laid : suc (suc l.laid) ≡ suc (l.laid + 1) = omega arith in
      ap (λ (rest : List (List ℕ)). numbered (suc l.laid) (take l.left rest) ++ windows_left l.unlaid (drop l.left rest)) rest_is
      ∙ ap (λ (n : ℕ). numbered (suc l.laid) (take n (payload ∷ back)) ++ windows_left l.unlaid (drop n (payload ∷ back))) number
      ∙ append_assoc (frame_bytes (Json (suc l.laid) payload)) (numbered (suc (suc l.laid)) (take (l.left - 1) back)) (windows_left l.unlaid (drop (l.left - 1) back))
      ∙ ap (λ (n : ℕ). frame_bytes (Json (suc l.laid) payload) ++ (numbered n (take (l.left - 1) back) ++ windows_left l.unlaid (drop (l.left - 1) back))) laid

  pending_is : pending l payloads begun ≡ l.buffer ++ (frame_bytes (Json (suc l.laid) payload) ++ others)
  unfolding pending
  pending_is =
      ap (λ (n : ℕ). drop n l.buffer ++ (lent_rest l.lent (last_laid l payloads begun) ++ unlaid_bytes l payloads begun)) start
      ∙ ap (λ (o : Option ℕ). l.buffer ++ (lent_rest o (last_laid l payloads begun) ++ unlaid_bytes l payloads begun)) lent
      ∙ ap (λ (tail : List ℕ). l.buffer ++ tail) unlaid_is

  -- what goes out with this many bytes in the buffer and this lent
  framed : (bytes : List ℕ) (o : Option ℕ) → pending (with_frame l bytes o) payloads begun ≡ (l.buffer ++ bytes) ++ (lent_rest o payload ++ others)
  unfolding pending unlaid_bytes last_laid rest_of
  framed bytes o =
      let place : begun - (l.to_lay - 1) - 1 ≡ begun - l.to_lay = omega (arith, some, few) in
      ap (λ (n : ℕ). drop n (l.buffer ++ bytes) ++ (lent_rest o (get_or payloads (begun - (l.to_lay - 1) - 1) []) ++ others)) start
      ∙ ap (λ (i : ℕ). (l.buffer ++ bytes) ++ (lent_rest o (get_or payloads i []) ++ others)) place

  pub last_is : (bytes : List ℕ) (o : Option ℕ) → last_laid (with_frame l bytes o) payloads begun ≡ payload
  unfolding last_laid
  last_is bytes o =
      let place : begun - (l.to_lay - 1) - 1 ≡ begun - l.to_lay = omega (arith, some, few) in
      ap (λ (i : ℕ). get_or payloads i []) place

  whole_pending : pending (with_frame l (frame_bytes (Json (suc l.laid) payload)) None) payloads begun ≡ pending l payloads begun
  whole_pending =
      framed (frame_bytes (Json (suc l.laid) payload)) None ∙ append_assoc l.buffer (frame_bytes (Json (suc l.laid) payload)) others ∙ sym pending_is

  head_alone : pending (with_frame l (json_head_bytes (suc l.laid) (length payload)) (Some 0)) payloads begun ≡ pending l payloads begun
  head_alone =
      let head = json_head_bytes (suc l.laid) (length payload) in
      framed head (Some 0) ∙ append_assoc l.buffer head (payload ++ others) ∙ ap (λ (tail : List ℕ). l.buffer ++ tail) (sym (append_assoc head payload others)) ∙ sym pending_is

  pub frame_pending : (new : Laying) → LaysFrame l payload new → pending new payloads begun ≡ pending l payloads begun
  frame_pending new (inl is) = ap (λ (v : Laying). pending v payloads begun) is ∙ whole_pending
  frame_pending new (inr is) = ap (λ (v : Laying). pending v payloads begun) is.0 ∙ head_alone

  pub frame_lent : (new : Laying) (most : ℕ) → LaysFrame l payload new → l.to_lay ≤ most → IsLent new.lent new.to_lay most (last_laid new payloads begun)
  frame_lent new most (inl is) bound = subst (λ (v : Laying). IsLent v.lent v.to_lay most (last_laid v payloads begun)) (sym is) tt
  frame_lent new most (inr is) bound =
      let head = json_head_bytes (suc l.laid) (length payload) in
      subst (λ (v : Laying). IsLent v.lent v.to_lay most (last_laid v payloads begun)) (sym is.0) (omega (arith, some, bound), omega (arith, is.1, ap length (last_is head (Some 0))))

-- ---- the loop that lays frames

-- what is so of what is laid as long as frames are laid: the same bytes go out, and no more is to be laid than was
pub record Lays (first l : Laying) (payloads : List (List ℕ)) (begun : ℕ) : Type 0 where
  pub start : l.start ≡ 0
  pub bytes : pending l payloads begun ≡ pending first payloads begun
  pub lent : (most : ℕ) → first.to_lay ≤ most → IsLent l.lent l.to_lay most (last_laid l payloads begun)
  pub counted : IsCounted l
  pub to_lay : l.to_lay ≤ first.to_lay
  pub unlaid : length l.unlaid ≤ length first.unlaid
  pub depth : l.depth ≡ first.depth

none_of : (o : Option ℕ) (to_lay most : ℕ) (payload : List ℕ) → o ≡ None → IsLent o to_lay most payload
none_of o to_lay most payload is = subst (λ (v : Option ℕ). IsLent v to_lay most payload) (sym is) tt

-- the buffer is emptied
emptied : (l : Laying) (payloads : List (List ℕ)) (begun : ℕ) → l.start ≡ length l.buffer → pending (record l { buffer = []; start = 0 }) payloads begun ≡ pending l payloads begun
unfolding pending unlaid_bytes last_laid rest_of
emptied l payloads begun out =
    let rest = drop (begun - l.to_lay) payloads in
    ap (λ (front : List ℕ). front ++ (lent_rest l.lent (get_or payloads (begun - l.to_lay - 1) []) ++ (numbered (suc l.laid) (take l.left rest) ++ windows_left l.unlaid (drop l.left rest)))) (sym (drop_all l.start l.buffer (omega (arith, out))))

pub lays_first : (l : Laying) (payloads : List (List ℕ)) (begun : ℕ) → l.start ≡ length l.buffer → l.lent ≡ None → IsCounted l → Lays l (record l { buffer = []; start = 0 }) payloads begun
lays_first l payloads begun out lent counted = record {
  start = refl;
  bytes = emptied l payloads begun out;
  lent = λ most bound. none_of l.lent l.to_lay most (last_laid (record l { buffer = []; start = 0 }) payloads begun) lent;
  counted = counted;
  to_lay = omega arith;
  unlaid = omega arith;
  depth = refl;
}

-- one more frame is laid
pub lays_more : (first l new : Laying) (payloads : List (List ℕ)) (begun : ℕ) → Lays first l payloads begun → first.to_lay ≤ begun → begun ≤ length payloads → LaysNext l payloads begun new → Lays first new payloads begun × (new.to_lay + length new.unlaid < l.to_lay + length l.unlaid)
lays_more first l new payloads begun so_far few within next =
    let bound : l.to_lay ≤ begun = omega (arith, so_far.to_lay, few) in
    elim (next.lays) [
      | inl head ↦ by_head first l new payloads begun so_far bound within next.none_lent head.0 head.1
      | inr frame ↦ by_frame first l new payloads begun so_far bound within next.none_lent frame.0 frame.1
    ]
  where
    by_head : (first l new : Laying) (payloads : List (List ℕ)) (begun : ℕ) → Lays first l payloads begun → l.to_lay ≤ begun → begun ≤ length payloads → l.lent ≡ None → l.left ≡ 0 → LaysHead l new → Lays first new payloads begun × (new.to_lay + length new.unlaid < l.to_lay + length l.unlaid)
    by_head first l new payloads begun so_far bound within none left h =
        let lent : new.lent ≡ None = ap (λ (v : Laying). v.lent) h.is ∙ none in
        let to_lay = ap (λ (v : Laying). v.to_lay) h.is in
        let unlaid = ap (λ (v : Laying). length v.unlaid) h.is in
        let was = ap length h.was in
        let counted : l.to_lay ≡ h.count + total h.others = omega (arith, so_far.counted, left, ap total h.was) in (
          record {
            start = ap (λ (v : Laying). v.start) h.is ∙ so_far.start;
            bytes = head_pending l new payloads begun so_far.start none left bound within h ∙ so_far.bytes;
            lent = λ most more. none_of new.lent new.to_lay most (last_laid new payloads begun) lent;
            counted = subst IsCounted (sym h.is) counted;
            to_lay = omega (arith, so_far.to_lay, to_lay);
            unlaid = omega (arith, so_far.unlaid, unlaid, was);
            depth = ap (λ (v : Laying). v.depth) h.is ∙ so_far.depth;
          },
          omega (arith, to_lay, unlaid, was),
        )

    as_framed : (l new : Laying) (payload : List ℕ) → LaysFrame l payload new → (bytes : List ℕ) × (o : Option ℕ) × (new ≡ with_frame l bytes o)
    as_framed l new payload (inl is) = (frame_bytes (Json (suc l.laid) payload), None, is)
    as_framed l new payload (inr is) = (json_head_bytes (suc l.laid) (length payload), Some 0, is.0)

    by_frame : (first l new : Laying) (payloads : List (List ℕ)) (begun : ℕ) → Lays first l payloads begun → l.to_lay ≤ begun → begun ≤ length payloads → l.lent ≡ None → 0 < l.left → LaysFrame l (get_or payloads (begun - l.to_lay) []) new → Lays first new payloads begun × (new.to_lay + length new.unlaid < l.to_lay + length l.unlaid)
    by_frame first l new payloads begun so_far bound within none left h =
        let f = as_framed l new (get_or payloads (begun - l.to_lay) []) h in
        let to_lay = ap (λ (v : Laying). v.to_lay) f.2 in
        let unlaid = ap (λ (v : Laying). length v.unlaid) f.2 in
        let counted = so_far.counted in (
          record {
            start = ap (λ (v : Laying). v.start) f.2 ∙ so_far.start;
            bytes = frame_pending l payloads begun so_far.start none left so_far.counted bound within new h ∙ so_far.bytes;
            lent = λ most more. frame_lent l payloads begun so_far.start none left so_far.counted bound within new most h (omega (arith, so_far.to_lay, more));
            counted = subst IsCounted (sym f.2) (omega (arith, counted, left));
            to_lay = omega (arith, so_far.to_lay, to_lay);
            unlaid = omega (arith, so_far.unlaid, unlaid);
            depth = ap (λ (v : Laying). v.depth) f.2 ∙ so_far.depth;
          },
          omega (arith, to_lay, unlaid, counted, left),
        )

-- if no more is laid, something is, or nothing is to be laid
lays_none : (first l : Laying) (payloads : List (List ℕ)) (begun : ℕ) → Lays first l payloads begun → LaysNoMore l → piece_of l payloads begun ≡ [] → IsIdle l
unfolding piece_of
lays_none first l payloads begun so_far no_more none =
    elim no_more [
      | inl lent ↦ absurd (lent_there l.lent l.to_lay first.to_lay (drop l.start l.buffer) (last_laid l payloads begun) lent (so_far.lent first.to_lay (omega arith)) none)
      | inr other ↦ elim other [
        | inl laid ↦ absurd (first_there (drop l.start l.buffer) (lent_rest l.lent (last_laid l payloads begun)) (omega (arith, laid, so_far.start, length-drop l.start l.buffer)) none)
        | inr idle ↦ idle
      ]
    ]
  where
    first_there : (front lent : List ℕ) → 0 < length front → first_of front lent ≡ [] → ⊥
    first_there [] lent some none = absurd (omega arith)
    first_there (byte ∷ front) lent some none = absurd cc

    lent_there : (o : Option ℕ) (to_lay most : ℕ) (front payload : List ℕ) → IsSome o → IsLent o to_lay most payload → first_of front (lent_rest o payload) ≡ [] → ⊥
    lent_there None to_lay most front payload some is none = absurd cc
    lent_there (Some sent) to_lay most [] payload some is none = absurd (omega (arith, ap length none, length-drop sent payload, is.1))
    lent_there (Some sent) to_lay most (byte ∷ front) payload some is none = absurd cc

pub refills : (first l : Laying) (payloads : List (List ℕ)) (begun : ℕ) → Lays first l payloads begun → LaysNoMore l → Refills first payloads begun l
refills first l payloads begun so_far no_more = record {
  same_bytes = so_far.bytes;
  something_or_all_out = lays_none first l payloads begun so_far no_more;
  lent = λ most few is. so_far.lent most few;
  counted = so_far.counted;
  fewer_to_lay = so_far.to_lay;
  fewer_windows = so_far.unlaid;
  depth = so_far.depth;
}

-- ---- what a window does

-- the windows that are left do not look at the payloads after theirs
left_append : (counts : List ℕ) (payloads more : List (List ℕ)) → total counts ≤ length payloads → windows_left counts (payloads ++ more) ≡ windows_left counts payloads
left_append [] payloads more few = refl
left_append (count ∷ counts) payloads more few =
    ap (λ (w : List (List ℕ)). window_bytes w ++ windows_left counts (drop count (payloads ++ more))) (take-append-le count payloads more (omega (arith, few)))
    ∙ ap (λ (ps : List (List ℕ)). window_bytes (take count payloads) ++ windows_left counts ps) (drop-append-le count payloads more (omega (arith, few)))
    ∙ ap (λ (tail : List ℕ). window_bytes (take count payloads) ++ tail) (left_append counts (drop count payloads) more (omega (arith, few, length-drop count payloads)))

-- one more window is left
left_more : (counts : List ℕ) (count : ℕ) (payloads : List (List ℕ)) → windows_left (counts ++ count ∷ []) payloads ≡ windows_left counts payloads ++ window_bytes (take count (drop (total counts) payloads))
left_more [] count payloads = append-nil (window_bytes (take count payloads))
left_more (first ∷ counts) count payloads =
    let number = drop-drop (total counts) first payloads in
    ap (λ (tail : List ℕ). window_bytes (take first payloads) ++ tail) (left_more counts count (drop first payloads))
    ∙ ap (λ (ps : List (List ℕ)). window_bytes (take first payloads) ++ (windows_left counts (drop first payloads) ++ window_bytes (take count ps))) number
    ∙ sym (append_assoc (window_bytes (take first payloads)) (windows_left counts (drop first payloads)) (window_bytes (take count (drop (first + total counts) payloads))))

-- a parcel is offered
pub unlaid_offered : (l : Laying) (payloads : List (List ℕ)) (begun : ℕ) (payload : List ℕ) → IsCounted l → l.to_lay ≤ begun → begun ≤ length payloads → unlaid_bytes l (payloads ++ payload ∷ []) begun ≡ unlaid_bytes l payloads begun
unfolding unlaid_bytes rest_of
unlaid_offered l payloads begun payload counted few within =
    let place = begun - l.to_lay in
    let more = payload ∷ [] in
    let rest = drop place payloads in
    let long : l.left + total l.unlaid ≤ length rest = omega (arith, length-drop place payloads, counted, few, within) in
    ap (λ (ps : List (List ℕ)). numbered (suc l.laid) (take l.left ps) ++ windows_left l.unlaid (drop l.left ps)) (drop-append-le place payloads more (omega (arith, within)))
    ∙ ap (λ (ps : List (List ℕ)). numbered (suc l.laid) ps ++ windows_left l.unlaid (drop l.left (rest ++ more))) (take-append-le l.left rest more (omega (arith, long)))
    ∙ ap (λ (ps : List (List ℕ)). numbered (suc l.laid) (take l.left rest) ++ windows_left l.unlaid ps) (drop-append-le l.left rest more (omega (arith, long)))
    ∙ ap (λ (tail : List ℕ). numbered (suc l.laid) (take l.left rest) ++ tail) (left_append l.unlaid (drop l.left rest) more (omega (arith, long, length-drop l.left rest)))

pub lent_offered : (l : Laying) (o : Option ℕ) (payloads : List (List ℕ)) (begun most : ℕ) (payload : List ℕ) → begun ≤ length payloads → most ≤ begun → IsLent o l.to_lay most (last_laid l payloads begun) → (lent_rest o (last_laid l (payloads ++ payload ∷ []) begun) ≡ lent_rest o (last_laid l payloads begun)) × IsLent o l.to_lay most (last_laid l (payloads ++ payload ∷ []) begun)
unfolding last_laid
lent_offered l None payloads begun most payload within bound is = (refl, tt)
lent_offered l (Some sent) payloads begun most payload within bound is =
    let same : get_or (payloads ++ payload ∷ []) (begun - l.to_lay - 1) [] ≡ get_or payloads (begun - l.to_lay - 1) [] = get_or_append_left payloads (payload ∷ []) [] (begun - l.to_lay - 1) (omega (arith, within, bound, is.0)) in
    (ap (drop sent) same, (is.0, omega (arith, is.1, ap length same)))

pub piece_offered : (l : Laying) (payloads : List (List ℕ)) (begun most : ℕ) (payload : List ℕ) → begun ≤ length payloads → most ≤ begun → IsLent l.lent l.to_lay most (last_laid l payloads begun) → piece_of l (payloads ++ payload ∷ []) begun ≡ piece_of l payloads begun
unfolding piece_of
piece_offered l payloads begun most payload within bound is = ap (first_of (drop l.start l.buffer)) (lent_offered l l.lent payloads begun most payload within bound is).0

pub behind_offered : (l : Laying) (payloads : List (List ℕ)) (begun most : ℕ) (payload : List ℕ) → IsCounted l → l.to_lay ≤ begun → begun ≤ length payloads → most ≤ begun → IsLent l.lent l.to_lay most (last_laid l payloads begun) → behind_of l (payloads ++ payload ∷ []) begun ≡ behind_of l payloads begun
unfolding behind_of
behind_offered l payloads begun most payload counted few within bound is =
    ap (λ (lent : List ℕ). behind_first (drop l.start l.buffer) lent (unlaid_bytes l (payloads ++ payload ∷ []) begun)) (lent_offered l l.lent payloads begun most payload within bound is).0
    ∙ ap (behind_first (drop l.start l.buffer) (lent_rest l.lent (last_laid l payloads begun))) (unlaid_offered l payloads begun payload counted few within)

-- a window is begun
pub window_pending : (l : Laying) (payloads : List (List ℕ)) (begun count : ℕ) → IsCounted l → l.to_lay ≤ begun → pending (with_window l count) payloads (begun + count) ≡ pending l payloads begun ++ window_bytes (take count (drop begun payloads))
unfolding pending unlaid_bytes last_laid rest_of
window_pending l payloads begun count counted few =
    let place : begun + count - (l.to_lay + count) ≡ begun - l.to_lay = omega (arith, few) in
    let rest = drop (begun - l.to_lay) payloads in
    let own = numbered (suc l.laid) (take l.left rest) in
    let front = drop l.start l.buffer in
    let lent = lent_rest l.lent (get_or payloads (begun - l.to_lay - 1) []) in
    let behind = windows_left l.unlaid (drop l.left rest) in
    let number : begun - l.to_lay + (l.left + total l.unlaid) ≡ begun = omega (arith, counted, few) in
    let dropped : drop (total l.unlaid) (drop l.left rest) ≡ drop begun payloads = drop-drop (total l.unlaid) l.left rest ∙ drop-drop (l.left + total l.unlaid) (begun - l.to_lay) payloads ∙ ap (λ (n : ℕ). drop n payloads) number in
    let window = window_bytes (take count (drop begun payloads)) in
    let more : windows_left (l.unlaid ++ count ∷ []) (drop l.left rest) ≡ behind ++ window = left_more l.unlaid count (drop l.left rest) ∙ ap (λ (ps : List (List ℕ)). behind ++ window_bytes (take count ps)) dropped in
    ap (λ (n : ℕ). front ++ (lent_rest l.lent (get_or payloads (n - 1) []) ++ (numbered (suc l.laid) (take l.left (drop n payloads)) ++ windows_left (l.unlaid ++ count ∷ []) (drop l.left (drop n payloads))))) place
    ∙ ap (λ (tail : List ℕ). front ++ (lent ++ (own ++ tail))) more
    ∙ ap (λ (tail : List ℕ). front ++ (lent ++ tail)) (sym (append_assoc own behind window))
    ∙ ap (λ (tail : List ℕ). front ++ tail) (sym (append_assoc lent (own ++ behind) window))
    ∙ sym (append_assoc front (lent ++ (own ++ behind)) window)

pub window_last : (l : Laying) (payloads : List (List ℕ)) (begun count : ℕ) → l.to_lay ≤ begun → last_laid (with_window l count) payloads (begun + count) ≡ last_laid l payloads begun
unfolding last_laid
window_last l payloads begun count few =
    let place : begun + count - (l.to_lay + count) ≡ begun - l.to_lay = omega (arith, few) in
    ap (λ (n : ℕ). get_or payloads (n - 1) []) place

total_more : (counts : List ℕ) (count : ℕ) → total (counts ++ count ∷ []) ≡ total counts + count
total_more [] count = omega arith
total_more (first ∷ counts) count = omega (arith, total_more counts count)

pub window_counted : (l : Laying) (count : ℕ) → IsCounted l → IsCounted (with_window l count)
window_counted l count counted = omega (arith, counted, total_more l.unlaid count)

-- a payload is still lent
pub window_lent : (l : Laying) (payloads : List (List ℕ)) (begun most count : ℕ) → l.to_lay ≤ begun → IsLent l.lent l.to_lay most (last_laid l payloads begun) → IsLent l.lent (l.to_lay + count) (most + count) (last_laid (with_window l count) payloads (begun + count))
window_lent l payloads begun most count few is = by_lent l.lent (last_laid l payloads begun) (last_laid (with_window l count) payloads (begun + count)) (window_last l payloads begun count few) is
  where
    by_lent : (o : Option ℕ) (old new : List ℕ) → new ≡ old → IsLent o l.to_lay most old → IsLent o (l.to_lay + count) (most + count) new
    by_lent None old new same is = tt
    by_lent (Some sent) old new same is = (omega (arith, is.0), omega (arith, is.1, ap length same))

-- bytes go out
module _ (n : ℕ) (payload rest : List ℕ) where
  -- of what is lent
  lent_passed : (o : Option ℕ) → n ≤ length (lent_rest o payload) → lent_rest (lent_after o n payload) payload ++ rest ≡ drop n (lent_rest o payload ++ rest)
  lent_passed None few =
      let none : n ≡ 0 = omega (arith, few) in
      sym (ap (λ (k : ℕ). drop k rest) none)
  lent_passed (Some sent) few =
      let size = length-drop sent payload in
      let all : drop n (drop sent payload ++ rest) ≡ drop (sent + n) payload ++ rest = drop-append-le n (drop sent payload) rest few ∙ ap (λ (front : List ℕ). front ++ rest) (drop-drop n sent payload) in
      elim (leb_tells (suc (sent + n)) (length payload)) [
        | inl is ↦ rw (is.0) (sym all)
        | inr is ↦ rw (is.0) (sym (all ∙ ap (λ (front : List ℕ). front ++ rest) (drop_all (sent + n) payload (omega (arith, is.1)))))
      ]

  -- of the buffer, or of what is lent after it
  passed : (buffer : List ℕ) (start : ℕ) (o : Option ℕ) → n ≤ length (first_of (drop start buffer) (lent_rest o payload)) → drop (cond (leb (suc start) (length buffer)) (start + n) start) buffer ++ (lent_rest (cond (leb (suc start) (length buffer)) o (lent_after o n payload)) payload ++ rest) ≡ drop n (drop start buffer ++ (lent_rest o payload ++ rest))
  passed buffer start o few =
      elim (leb_tells (suc start) (length buffer)) [
        | inl is ↦
            let within = first_is (drop start buffer) (lent_rest o payload) (omega (arith, is.1, length-drop start buffer)) few in
            rw (is.0) (ap (λ (front : List ℕ). front ++ (lent_rest o payload ++ rest)) (sym (drop-drop n start buffer)) ∙ sym (drop-append-le n (drop start buffer) (lent_rest o payload ++ rest) within))
        | inr is ↦
            let none : drop start buffer ≡ [] = drop_all start buffer (omega (arith, is.1)) in
            let within : n ≤ length (lent_rest o payload) = omega (arith, few, ap (λ (front : List ℕ). length (first_of front (lent_rest o payload))) none) in
            rw (is.0) (ap (λ (front : List ℕ). front ++ (lent_rest (lent_after o n payload) payload ++ rest)) none ∙ lent_passed o within ∙ sym (ap (λ (front : List ℕ). drop n (front ++ (lent_rest o payload ++ rest))) none))
      ]
    where
      first_is : (front lent : List ℕ) → 0 < length front → n ≤ length (first_of front lent) → n ≤ length front
      first_is [] lent some few = absurd (omega arith)
      first_is (byte ∷ front) lent some few = few

pub passed_pending : (l : Laying) (payloads : List (List ℕ)) (begun n : ℕ) → n ≤ length (piece_of l payloads begun) → pending (passed_by l n (last_laid l payloads begun)) payloads begun ≡ drop n (pending l payloads begun)
unfolding pending piece_of unlaid_bytes last_laid rest_of
passed_pending l payloads begun n few =
    let rest = drop (begun - l.to_lay) payloads in
    passed n (get_or payloads (begun - l.to_lay - 1) []) (numbered (suc l.laid) (take l.left rest) ++ windows_left l.unlaid (drop l.left rest)) l.buffer l.start l.lent few

after_lent : (o : Option ℕ) (n to_lay most : ℕ) (payload : List ℕ) → IsLent o to_lay most payload → IsLent (lent_after o n payload) to_lay most payload
after_lent None n to_lay most payload is = tt
after_lent (Some sent) n to_lay most payload is =
    elim (leb_tells (suc (sent + n)) (length payload)) [
      | inl test ↦ rw (test.0) (is.0, omega (arith, test.1))
      | inr test ↦ rw (test.0) tt
    ]

by_test : (o : Option ℕ) (test : Bool) (n to_lay most : ℕ) (payload : List ℕ) → IsLent o to_lay most payload → IsLent (cond test o (lent_after o n payload)) to_lay most payload
by_test o true n to_lay most payload is = is
by_test o false n to_lay most payload is = after_lent o n to_lay most payload is

pub passed_lent : (l : Laying) (payloads : List (List ℕ)) (begun most n : ℕ) → IsLent l.lent l.to_lay most (last_laid l payloads begun) → IsLent (passed_by l n (last_laid l payloads begun)).lent l.to_lay most (last_laid (passed_by l n (last_laid l payloads begun)) payloads begun)
unfolding last_laid
passed_lent l payloads begun most n is = by_test l.lent (leb (suc l.start) (length l.buffer)) n l.to_lay most (get_or payloads (begun - l.to_lay - 1) []) is

-- an acknowledged parcel is handed out
pub rest_handed : (l : Laying) (payloads : List (List ℕ)) (payload : List ℕ) (begun : ℕ) → l.to_lay ≤ begun → unlaid_bytes l payloads begun ≡ unlaid_bytes l (payload ∷ payloads) (suc begun)
unfolding unlaid_bytes rest_of
rest_handed l payloads payload begun few =
    let place : suc begun - l.to_lay ≡ suc (begun - l.to_lay) = omega (arith, few) in
    sym (ap (λ (n : ℕ). numbered (suc l.laid) (take l.left (drop n (payload ∷ payloads))) ++ windows_left l.unlaid (drop l.left (drop n (payload ∷ payloads)))) place)

pub lent_handed : (l : Laying) (o : Option ℕ) (payloads : List (List ℕ)) (payload : List ℕ) (begun most : ℕ) → most ≤ begun → IsLent o l.to_lay most (last_laid l (payload ∷ payloads) (suc begun)) → (lent_rest o (last_laid l payloads begun) ≡ lent_rest o (last_laid l (payload ∷ payloads) (suc begun))) × IsLent o l.to_lay most (last_laid l payloads begun)
unfolding last_laid
lent_handed l None payloads payload begun most bound is = (refl, tt)
lent_handed l (Some sent) payloads payload begun most bound is =
    let place : suc begun - l.to_lay - 1 ≡ suc (begun - l.to_lay - 1) = omega (arith, bound, is.0) in
    let same : get_or (payload ∷ payloads) (suc begun - l.to_lay - 1) [] ≡ get_or payloads (begun - l.to_lay - 1) [] = ap (λ (n : ℕ). get_or (payload ∷ payloads) n []) place in
    (ap (drop sent) (sym same), (is.0, omega (arith, is.1, ap length same)))

pub piece_handed : (l : Laying) (payloads : List (List ℕ)) (payload : List ℕ) (begun most : ℕ) → most ≤ begun → IsLent l.lent l.to_lay most (last_laid l (payload ∷ payloads) (suc begun)) → piece_of l payloads begun ≡ piece_of l (payload ∷ payloads) (suc begun)
unfolding piece_of
piece_handed l payloads payload begun most bound is = ap (first_of (drop l.start l.buffer)) (lent_handed l l.lent payloads payload begun most bound is).0

pub behind_handed : (l : Laying) (payloads : List (List ℕ)) (payload : List ℕ) (begun most : ℕ) → l.to_lay ≤ begun → most ≤ begun → IsLent l.lent l.to_lay most (last_laid l (payload ∷ payloads) (suc begun)) → behind_of l payloads begun ≡ behind_of l (payload ∷ payloads) (suc begun)
unfolding behind_of
behind_handed l payloads payload begun most few bound is =
    ap (λ (lent : List ℕ). behind_first (drop l.start l.buffer) lent (unlaid_bytes l payloads begun)) (lent_handed l l.lent payloads payload begun most bound is).0
    ∙ ap (behind_first (drop l.start l.buffer) (lent_rest l.lent (last_laid l (payload ∷ payloads) (suc begun)))) (rest_handed l payloads payload begun few)
