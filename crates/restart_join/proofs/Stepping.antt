-- What the members so far began, with one member more.
use Rattle.std.proofs.Common.{◌≡◌, ℕ, zero, suc, ◌+◌, ◌<◌, Bool, true, false, cond, List, [], ◌∷◌, ◌++◌, length, filter, take, drop, get_or, All, Option, Some, None, is_none, is_some, refl, sym, ap, ◌∙◌, subst, if◌then◌else◌, arith, length-append}
use Rattle.std.specs.Prelude.{slice_get}
use Rattle.std.specs.BTreeMap.{is_at}
use Rattle.std.specs.BTreeSet.{contains}
use Rattle.std.specs.List.{cons_option, filter_map, list_any}
use Rattle.std.specs.Ordering.{is_eq}
use Rattle.std.specs.declared.cmp.Ordering.{Ordering}
use Rattle.std.proofs.lemmas.List.{drop_more, length_push, take-append-drop, take_more}
use Rattle.std.proofs.lemmas.List.Elements.{All-nil, All-push, filter-append, filter_map-append}
use Rattle.prospector_core.proofs.Along.{along-append, along-more, along-push, along-same}
use Rattle.prospector_core.proofs.Finding.{find-push_first, find-push_further, find-push_other, other_key, same_or_other}
use Rattle.prospector_core.specs.declared.seen.Seen.{Seen}
use Rattle.prospector_core.specs.Earlier.{flat_map_with_earlier}
use Rattle.prospector_core.specs.KnownFiles.{first_with, member_key}
use Rattle.prospector_core.specs.Limits.{Refusal, refusal_of}
use Rattle.restart_join.specs.declared.join.Joined.{Joined}
use Rattle.restart_join.specs.declared.join_error.JoinError.{JoinError}
use Rattle.restart_join.specs.declared.join_error.JoinError.TheVariants.{TooMany, NoMemory}
use Rattle.restart_join.specs.Joining.{begin_at, first_one, first_ones, full_for, member_begin, member_refusal, new_keys, refusals}
use Rattle.restart_join.specs.PathOrder.{members_at}
use Rattle.restart_join.specs.Starts.{start_of}
use Rattle.restart_join.specs.Steps.{First, Further, HasJoined, IsFirstRefused, JoinsMember, MemberRefused}
use Rattle.ship_core.specs.Rows.{find}
use Rattle.wire_base.specs.declared.limits.Full.{Full}
use Rattle.wire_base.specs.declared.note.Begin.{Begin}
use Rattle.wire_base.specs.declared.row.Row.{Row}
use Rattle.wire_base.specs.KeyOrder.{compare}
use Rattle.wire_base.specs.Ranges.{IsBegin}
use Rattle.wire_base.proofs.ByteOrder.{compare_same}

some_of : {X : Type 0} (o : Option X) → is_some o ≡ true → (x : X) × (o ≡ Some x)
some_of None q = absurd (let r : false ≡ true = q in cc)
some_of (Some x) q = (x, refl)

none_of : {X : Type 0} (o : Option X) → is_some o ≡ false → o ≡ None
none_of None q = refl
none_of (Some x) q = absurd (let r : true ≡ false = q in cc)

-- nothing where an earlier member has the key
abbrev unless : {X : Type 0} → Option Seen → List X → List X
unless first made = if is_some first then [] else made

unless_first : {X : Type 0} (first : Option Seen) (made : List X) → first ≡ None → unless first made ≡ made
unless_first first made is = ap (λ (o : Option Seen). unless o made) is

unless_further : {X : Type 0} (first : Option Seen) (made : List X) (earlier : Seen) → first ≡ Some earlier → unless first made ≡ []
unless_further first made earlier is = ap (λ (o : Option Seen). unless o made) is

module _ (rows : List Row) (first : ℕ) (front : List Seen) (member : Seen) (old new : Joined) (has : HasJoined rows first front old) where
  pub further_joined : contains compare old.keys member.key ≡ true → Further old new → HasJoined rows first (front ++ member ∷ []) new
  further_joined had step =
      let found = some_of (first_with member.key front) (sym (has.keys member.key) ∙ had) in
      let same : first_ones (front ++ member ∷ []) ≡ first_ones front =
      along-same first_one front member (unless_further (first_with member.key front) (member ∷ []) found.0 found.1) in
      record {
        begins = step.begins ∙ has.begins ∙ sym (along-same (member_begin rows first) front member
            (unless_further (first_with member.key front) (begin_at (first + length (first_ones front)) member (start_of member.size (find member.key rows)) ∷ []) found.0 found.1));
        keys = λ key. step.keys key ∙ has.keys key ∙ ap (λ (o : Option Seen). is_some o) (sym (find-push_further member_key key front member found.0 found.1));
        files = step.files ∙ has.files ∙ ap (λ (l : List Seen). length rows + length (filter (λ one. is_none (find one.key rows)) l)) (sym same);
        next = step.next ∙ has.next ∙ ap (λ (l : List Seen). first + length l) (sym same);
        none_refused = along-same (member_refusal rows first) front member
            (unless_further (first_with member.key front) (refusal_of member (full_for (length rows + new_keys rows front) (first + length (first_ones front)) member.size (find member.key rows))) found.0 found.1)
            ∙ has.none_refused;
        in_range = subst (λ (l : List Begin). All IsBegin l) (sym step.begins) has.in_range;
      }

  refusal_is : first_with member.key front ≡ None → member_refusal rows first front member ≡ refusal_of member (full_for old.files old.next member.size (find member.key rows))
  refusal_is none =
      unless_first (first_with member.key front) (refusal_of member (full_for (length rows + new_keys rows front) (first + length (first_ones front)) member.size (find member.key rows))) none
      ∙ ap (λ (n : ℕ). refusal_of member (full_for n (first + length (first_ones front)) member.size (find member.key rows))) (sym has.files)
      ∙ ap (λ (n : ℕ). refusal_of member (full_for old.files n member.size (find member.key rows))) (sym has.next)

  pub first_joined : contains compare old.keys member.key ≡ false → First rows old member new → HasJoined rows first (front ++ member ∷ []) new
  first_joined lacking step =
      let none = none_of (first_with member.key front) (sym (has.keys member.key) ∙ lacking) in
      let one_more : first_ones (front ++ member ∷ []) ≡ first_ones front ++ member ∷ [] =
      along-push first_one front member ∙ ap (λ (l : List Seen). first_ones front ++ l) (unless_first (first_with member.key front) (member ∷ []) none) in
      record {
        begins = step.begins ∙ along-more (member_begin rows first) front member old.begins.items
            (begin_at old.next member (start_of member.size (find member.key rows)) ∷ []) has.begins
            (ap (λ (n : ℕ). begin_at n member (start_of member.size (find member.key rows)) ∷ []) has.next
            ∙ sym (unless_first (first_with member.key front) (begin_at (first + length (first_ones front)) member (start_of member.size (find member.key rows)) ∷ []) none));
        keys = λ key. step.keys key ∙ key_added front member key (contains compare old.keys key) none (has.keys key);
        files = files_more one_more (step.files);
        next = let before = has.next in let now = step.next in let longer = ap (λ (l : List Seen). length l) one_more ∙ length_push (first_ones front) member in omega (arith, before, now, longer);
        none_refused = along-same (member_refusal rows first) front member
            (refusal_is none ∙ ap (refusal_of member) step.room)
            ∙ has.none_refused;
        in_range = subst (λ (l : List Begin). All IsBegin l) (sym step.begins)
            (All-push IsBegin old.begins.items (begin_at old.next member (start_of member.size (find member.key rows))) has.in_range step.in_range);
      }
    where
      key_added : (front : List Seen) (member : Seen) (key : List ℕ) (had : Bool) → first_with member.key front ≡ None → had ≡ is_some (first_with key front) →
          cond (is_at (compare member.key) key) true had ≡ is_some (first_with key (front ++ member ∷ []))
      key_added front member key had first is =
          same_or_other (cond (is_at (compare member.key) key) true had ≡ is_some (first_with key (front ++ member ∷ []))) member.key key
          (λ same. ap (λ (o : Ordering). cond (is_eq o) true had) (compare_same member.key key same)
          ∙ sym (ap (λ (o : Option Seen). is_some o) (subst (λ (k : List ℕ). first_with k (front ++ member ∷ []) ≡ Some member) same (find-push_first member_key front member first))))
          (λ differs. ap (λ (b : Bool). cond b true had) (other_key member.key key (λ same. differs (sym same)))
          ∙ is ∙ ap (λ (o : Option Seen). is_some o) (sym (find-push_other member_key key front member differs)))

      one_new : (b : Bool) → length (if b then member ∷ [] else []) ≡ (if b then 1 else 0)
      one_new true = refl
      one_new false = refl

      counted : length (filter (λ one. is_none (find one.key rows)) (first_ones front ++ member ∷ [])) ≡ new_keys rows front + (if is_none (find member.key rows) then 1 else 0)
      counted =
          ap (λ (l : List Seen). length l) (filter-append (λ one. is_none (find one.key rows)) (first_ones front) (member ∷ []))
          ∙ length-append (filter (λ one. is_none (find one.key rows)) (first_ones front)) (filter (λ one. is_none (find one.key rows)) (member ∷ []))
          ∙ ap (λ (n : ℕ). new_keys rows front + n) (one_new (is_none (find member.key rows)))

      files_more : first_ones (front ++ member ∷ []) ≡ first_ones front ++ member ∷ [] → new.files ≡ old.files + (if is_none (find member.key rows) then 1 else 0) →
          new.files ≡ length rows + new_keys rows (front ++ member ∷ [])
      files_more one_more now =
          let all = ap (λ (l : List Seen). length (filter (λ one. is_none (find one.key rows)) l)) one_more ∙ counted in
          let before = has.files in
          now ∙ (let q : old.files + (if is_none (find member.key rows) then 1 else 0) ≡ length rows + new_keys rows (front ++ member ∷ []) = omega (arith, all, before) in q)

  -- the first that is too much
  pub first_refused : (rest : List Seen) (what : Full) → contains compare old.keys member.key ≡ false → full_for old.files old.next member.size (find member.key rows) ≡ Some what →
      slice_get (refusals rows first (front ++ member ∷ rest)) 0 ≡ Some (record { what = what; path = member.path })
  first_refused rest what lacking full =
      let none = none_of (first_with member.key front) (sym (has.keys member.key) ∙ lacking) in
      let found : member_refusal rows first front member ≡ record { what = what; path = member.path } ∷ [] = refusal_is none ∙ ap (refusal_of member) full in
      ap (λ (l : List Refusal). slice_get l 0)
      (along-append (member_refusal rows first) [] front (member ∷ rest)
      ∙ ap (λ (l : List Refusal). l ++ (member_refusal rows first front member ++ flat_map_with_earlier (member_refusal rows first) (front ++ member ∷ []) rest)) has.none_refused
      ∙ ap (λ (l : List Refusal). l ++ flat_map_with_earlier (member_refusal rows first) (front ++ member ∷ []) rest) found)

-- ---- the places

pub member_next : (seen : List Seen) (order : List ℕ) (i place : ℕ) (member : Seen) → i < length order → place ≡ get_or order i place → slice_get seen place ≡ Some member →
    members_at seen (take (i + 1) order) ≡ members_at seen (take i order) ++ member ∷ []
member_next seen order i place member inside at is =
    ap (members_at seen) (take_more order i place inside) ∙ filter_map-append (slice_get seen) (take i order) (get_or order i place ∷ [])
    ∙ ap (λ (n : ℕ). members_at seen (take i order) ++ filter_map (slice_get seen) (n ∷ [])) (sym at)
    ∙ ap (λ (o : Option Seen). members_at seen (take i order) ++ cons_option o []) is

pub member_at : (seen : List Seen) (place : ℕ) (member : Seen) → place < length seen → member ≡ get_or seen place member → slice_get seen place ≡ Some member
member_at [] place member inside at = absurd (omega (arith, inside))
member_at (one ∷ seen) zero member inside at = ap (λ (m : Seen). Some m) (sym at)
member_at (one ∷ seen) (suc place) member inside at = member_at seen place member (omega (arith, inside)) at

-- the members from this one on
pub members_split : (seen : List Seen) (order : List ℕ) (i place : ℕ) (member : Seen) → i < length order → place ≡ get_or order i place → slice_get seen place ≡ Some member →
    members_at seen order ≡ members_at seen (take i order) ++ member ∷ members_at seen (drop (i + 1) order)
members_split seen order i place member inside at is =
    ap (members_at seen) (sym (take-append-drop i order) ∙ ap (λ (l : List ℕ). take i order ++ l) (drop_more order i place inside ∙ ap (λ (n : ℕ). n ∷ drop (i + 1) order) (sym at)))
    ∙ filter_map-append (slice_get seen) (take i order) (place ∷ drop (i + 1) order)
    ∙ ap (λ (o : Option Seen). members_at seen (take i order) ++ cons_option o (members_at seen (drop (i + 1) order))) is

-- one place more
pub place_joined : (rows : List Row) (first : ℕ) (seen : List Seen) (order : List ℕ) (i place : ℕ) (member : Seen) (old new : Joined) → i < length order → place ≡ get_or order i place →
    place < length seen → member ≡ get_or seen place member → HasJoined rows first (members_at seen (take i order)) old →
    JoinsMember (contains compare old.keys member.key) rows old member new → HasJoined rows first (members_at seen (take (i + 1) order)) new
place_joined rows first seen order i place member old new inside at within here has joins =
    subst (λ (l : List Seen). HasJoined rows first l new) (sym (member_next seen order i place member inside at (member_at seen place member within here)))
    (by_case (contains compare old.keys member.key) refl joins)
  where
    by_case : (b : Bool) → contains compare old.keys member.key ≡ b → JoinsMember b rows old member new → HasJoined rows first (members_at seen (take i order) ++ member ∷ []) new
    by_case true had step = further_joined rows first (members_at seen (take i order)) member old new has had step
    by_case false lacking step = first_joined rows first (members_at seen (take i order)) member old new has lacking step

pub place_refused : (rows : List Row) (first : ℕ) (seen : List Seen) (order : List ℕ) (i place : ℕ) (member : Seen) (old : Joined) (error : JoinError) → i < length order → place ≡ get_or order i place →
    place < length seen → member ≡ get_or seen place member → HasJoined rows first (members_at seen (take i order)) old →
    MemberRefused rows old member error → IsFirstRefused (refusals rows first (members_at seen order)) error
place_refused rows first seen order i place member old NoMemory inside at within here has refused = tt
place_refused rows first seen order i place member old (TooMany what path) inside at within here has refused =
    ap (λ (l : List Seen). slice_get (refusals rows first l) 0) (members_split seen order i place member inside at (member_at seen place member within here))
    ∙ first_refused rows first (members_at seen (take i order)) member old old has (members_at seen (drop (i + 1) order)) what refused.0 refused.1
    ∙ ap (λ (p : List ℕ). Some (record { what = what; path = p })) (sym refused.2)

pub none_joined : (rows : List Row) (joined : Joined) → joined.begins.items ≡ [] → joined.keys.keys ≡ [] → joined.files ≡ length rows → HasJoined rows joined.next [] joined
none_joined rows joined begins keys files = record {
  begins = begins;
  keys = λ key. ap (λ (l : List (List ℕ)). list_any (is_at (compare key)) l) keys;
  files = files ∙ (let q : length rows ≡ length rows + 0 = omega arith in q);
  next = let q : joined.next ≡ joined.next + 0 = omega arith in q;
  none_refused = refl;
  in_range = subst (λ (l : List Begin). All IsBegin l) (sym begins) (All-nil IsBegin);
}
