-- The files that cannot be read, with one file more.
use Rattle.std.proofs.Common.{◌≡◌, ℕ, ◌+◌, ◌<◌, List, [], ◌∷◌, ◌++◌, length, take, get_or, flat_map, Option, None, Some, IfSome, sym, ap, ◌∙◌}
use Rattle.std.proofs.lemmas.List.{flat_map_more, take_more}
use Rattle.prospect.specs.declared.listed.Listed.{Listed}
use Rattle.findings.specs.Seeing.{AreUnread, unread_of}
use Rattle.findings.specs.System.{SystemTold}
use Rattle.findings.specs.declared.seen.Unread.{Unread}

pub unread_more : (system : Option SystemTold) (listed : List Listed) (i : ℕ) (one : Listed) (before after : List Unread) → i < length listed → one ≡ get_or listed i one →
    AreUnread system (take i listed) before → IfSome system (λ told. after ≡ before ++ unread_of told one) → AreUnread system (take (i + 1) listed) after
unread_more None listed i one before after within is are puts = tt
unread_more (Some told) listed i one before after within is are puts =
    puts
    ∙ ap (λ (l : List Unread). l ++ unread_of told one) are
    ∙ flat_map_more (unread_of told) [] (take i listed) one
    ∙ ap (λ (o : Listed). flat_map (unread_of told) (take i listed ++ o ∷ [])) is
    ∙ ap (λ (l : List Listed). flat_map (unread_of told) l) (sym (take_more listed i one within))
