-- Bytes have one first fault, or settings and no fault.
use Rattle.std.proofs.Common.{◌≡◌, ℕ, true, false, List, [], ◌∷◌, ◌++◌, sym, ◌∙◌, subst, inl, inr, arith}
use Rattle.std.specs.List.{AllByRecursion}
use Rattle.std.proofs.lemmas.Bool.{false≢true}
use Rattle.std.proofs.lemmas.Option.{same_Some}
use Rattle.toml.specs.Data.{Members}
use Rattle.event_tree.specs.declared.settings.Settings.{Settings}
use Rattle.beat_config.specs.declared.settings_error.SettingsError.{SettingsError}
use Rattle.beat_config.specs.Document.{document_findings, AreSettingsOf, IsNotToml, IsFaultOf, IsFirstFault}
use Rattle.beat_config.specs.Finding.{comes_before, IsFirst}

among : (P : SettingsError → Type 0) (earlier later : List SettingsError) (fault : SettingsError) → AllByRecursion P (earlier ++ fault ∷ later) → P fault
among P [] later fault h = h.0
among P (x ∷ earlier) later fault h = among P earlier later fault h.1

go : (earlier others later behind : List SettingsError) (first second : SettingsError) → earlier ++ first ∷ later ≡ others ++ second ∷ behind
    → AllByRecursion (λ other. comes_before first other ≡ true) earlier → AllByRecursion (λ other. comes_before other first ≡ false) later
    → AllByRecursion (λ other. comes_before second other ≡ true) others → AllByRecursion (λ other. comes_before other second ≡ false) behind
    → first ≡ second
go [] [] later behind first second same before_first behind_first before_second behind_second = cc
go [] (x ∷ others) later behind first second same before_first behind_first before_second behind_second =
    let head : first ≡ x = cc in
    let tail : later ≡ others ++ second ∷ behind = cc in
    let below : AllByRecursion (λ other. comes_before other first ≡ false) (others ++ second ∷ behind) =
    subst (AllByRecursion (λ other. comes_before other first ≡ false)) tail behind_first in
    let no = among (λ other. comes_before other first ≡ false) others behind second below in
    let yes : comes_before second first ≡ true = subst (λ fault. comes_before second fault ≡ true) (sym head) before_second.0 in
    absurd (false≢true (sym no ∙ yes))
go (x ∷ earlier) [] later behind first second same before_first behind_first before_second behind_second =
    let head : second ≡ x = cc in
    let tail : behind ≡ earlier ++ first ∷ later = cc in
    let below : AllByRecursion (λ other. comes_before other second ≡ false) (earlier ++ first ∷ later) =
    subst (AllByRecursion (λ other. comes_before other second ≡ false)) tail behind_second in
    let no = among (λ other. comes_before other second ≡ false) earlier later first below in
    let yes : comes_before first second ≡ true = subst (λ fault. comes_before first fault ≡ true) (sym head) before_first.0 in
    absurd (false≢true (sym no ∙ yes))
go (x ∷ earlier) (y ∷ others) later behind first second same before_first behind_first before_second behind_second =
    let tail : earlier ++ first ∷ later ≡ others ++ second ∷ behind = cc in
    go earlier others later behind first second tail before_first.1 behind_first before_second.1 behind_second

-- a list of faults has one first
pub one_first : (faults : List SettingsError) (first second : SettingsError) → IsFirst faults first → IsFirst faults second → first ≡ second
one_first faults first second one other =
    go one.earlier other.earlier one.later other.later first second (sym one.among ∙ other.among)
    one.before_earlier one.before_later other.before_earlier other.before_later

no_members : (earlier later : List SettingsError) (first : SettingsError) → [] ≡ earlier ++ first ∷ later → ⊥
no_members [] later first same = absurd (cc)
no_members (x ∷ earlier) later first same = absurd (cc)

none_first : (faults : List SettingsError) (first : SettingsError) → faults ≡ [] → IsFirst faults first → ⊥
none_first faults first none is = no_members is.earlier is.later first (sym none ∙ is.among)

-- what are the bytes of a document are not bytes of none
document_not_none : (bytes : List ℕ) (fault : SettingsError) → IsFaultOf bytes fault → IsNotToml bytes → ⊥
document_not_none bytes fault is (inl not_text) = not_text is.text
document_not_none bytes fault is (inr (inl deep)) = false≢true (sym is.shallow ∙ deep)
document_not_none bytes fault is (inr (inr none)) = let wrong = sym none ∙ is.parsed in absurd (cc)

settings_not_none : (bytes : List ℕ) (settings : Settings) → AreSettingsOf bytes settings → IsNotToml bytes → ⊥
settings_not_none bytes settings are (inl not_text) = not_text are.text
settings_not_none bytes settings are (inr (inl deep)) = false≢true (sym are.shallow ∙ deep)
settings_not_none bytes settings are (inr (inr none)) = let wrong = sym none ∙ are.parsed in absurd (cc)

pub settings_without_fault : (bytes : List ℕ) (settings : Settings) (fault : SettingsError) → AreSettingsOf bytes settings → IsFirstFault bytes fault → ⊥
settings_without_fault bytes settings fault are (inl long) = omega (arith, are.few, long.1)
settings_without_fault bytes settings fault are (inr (few, inl none)) = settings_not_none bytes settings are none.1
settings_without_fault bytes settings fault are (inr (few, inr is)) =
    let same : are.document ≡ is.document = same_Some _ _ (sym are.parsed ∙ is.parsed) in
    none_first (document_findings is.document) fault (subst (λ (document : Members). document_findings document ≡ []) same are.faultless) is.first

fault_of_document : (bytes : List ℕ) (first second : SettingsError) → IsFaultOf bytes first → IsFaultOf bytes second → first ≡ second
fault_of_document bytes first second one other =
    let same : one.document ≡ other.document = same_Some _ _ (sym one.parsed ∙ other.parsed) in
    one_first (document_findings other.document) first second (subst (λ (document : Members). IsFirst (document_findings document) first) same one.first) other.first

pub one_first_fault : (bytes : List ℕ) (first second : SettingsError) → IsFirstFault bytes first → IsFirstFault bytes second → first ≡ second
one_first_fault bytes first second (inl long) (inl other) = long.0 ∙ sym other.0
one_first_fault bytes first second (inl long) (inr (few, other)) = absurd (omega (arith, long.1, few))
one_first_fault bytes first second (inr (few, one)) (inl other) = absurd (omega (arith, other.1, few))
one_first_fault bytes first second (inr (few, inl none)) (inr (short, inl other)) = none.0 ∙ sym other.0
one_first_fault bytes first second (inr (few, inl none)) (inr (short, inr is)) = absurd (document_not_none bytes second is none.1)
one_first_fault bytes first second (inr (few, inr is)) (inr (short, inl none)) = absurd (document_not_none bytes first is none.1)
one_first_fault bytes first second (inr (few, inr one)) (inr (short, inr other)) = fault_of_document bytes first second one other
