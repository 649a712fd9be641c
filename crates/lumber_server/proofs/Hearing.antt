-- One receiving into a buffer.
use Rattle.std.proofs.Common.{◌≡◌, ℕ, ◌+◌, Bool, true, List, [], ◌∷◌, ◌++◌, take, drop, Option, Some, None, refl, sym, ◌∙◌, ap, subst}
use Rattle.std.proofs.Math.Seq.{take-add}
use Rattle.std.proofs.lemmas.List.{append-nil}
use Rattle.outside.specs.Talks.{Talk, TellsReceiving}
use Rattle.outside.specs.declared.link.Recv.{Recv}
use Rattle.outside.specs.declared.link.Recv.TheVariants.{Got, Closed, NotYet, Failed}
use Rattle.wire_base.specs.declared.talk.Piece.{Piece}
use Rattle.wire_base.specs.declared.talk.Piece.TheVariants.{In}
use Rattle.lumber_answers.specs.Changes.{TalkGoesOn}
use Rattle.lumber_server.specs.Receiving.{IsHeard, IsNothingHeard, IsPieceHeard}

talk_by_piece : (told after : Option Talk) (into : List ℕ) (count : ℕ) → TellsReceiving told into (Got count) after → TalkGoesOn told (In (take count into) ∷ []) after
talk_by_piece None after into count tells = tells
talk_by_piece (Some talk) after into count tells = (talk.idled, tells)

pub piece_heard : (told after : Option Talk) (unread old mid new items : List ℕ) (filled count : ℕ) → unread ≡ take filled old → take filled mid ≡ take filled old → take filled new ≡ take filled mid → items ≡ new →
    TellsReceiving told (drop filled new) (Got count) after → IsPieceHeard told unread (take (filled + count) items) after
piece_heard told after unread old mid new items filled count is first second same tells = record {
  piece = take count (drop filled new);
  behind = ap (λ (l : List ℕ). take (filled + count) l) same ∙ take-add filled count new ∙ ap (λ (l : List ℕ). l ++ take count (drop filled new)) (second ∙ first ∙ sym is);
  talk_is = talk_by_piece told after (drop filled new) count tells;
}

same_talk : (talk : Talk) → TalkGoesOn (Some talk) [] (Some talk)
same_talk talk = (talk.idled, ap (λ (l : List Piece). Some (record { pieces = l; idled = talk.idled })) (sym (append-nil talk.pieces)))

idle_talk : (talk : Talk) (idled : Bool) → TalkGoesOn (Some talk) [] (Some (record { pieces = talk.pieces; idled = idled }))
idle_talk talk idled = (idled, ap (λ (l : List Piece). Some (record { pieces = l; idled = idled })) (sym (append-nil talk.pieces)))

talk_by_nothing : (told after : Option Talk) (into : List ℕ) (result : Recv) → ((count : ℕ) → result ≡ Got count → ⊥) → TellsReceiving told into result after → TalkGoesOn told [] after
talk_by_nothing None after into result no_piece tells = tells
talk_by_nothing (Some talk) after into (Got count) no_piece tells = absurd (no_piece count refl)
talk_by_nothing (Some talk) after into Closed no_piece tells = let P : Option Talk → Type 0 = λ o. TalkGoesOn (Some talk) [] o in subst P (sym tells) (same_talk talk)
talk_by_nothing (Some talk) after into NotYet no_piece tells = let P : Option Talk → Type 0 = λ o. TalkGoesOn (Some talk) [] o in subst P (sym tells) (idle_talk talk true)
talk_by_nothing (Some talk) after into Failed no_piece tells = let P : Option Talk → Type 0 = λ o. TalkGoesOn (Some talk) [] o in subst P (sym tells) (same_talk talk)

heard_as_nothing : (told after : Option Talk) (unread more : List ℕ) (result : Recv) → ((count : ℕ) → result ≡ Got count → ⊥) → IsNothingHeard told unread more after → IsHeard told unread result more after
heard_as_nothing told after unread more (Got count) no_piece nothing = absurd (no_piece count refl)
heard_as_nothing told after unread more Closed no_piece nothing = nothing
heard_as_nothing told after unread more NotYet no_piece nothing = nothing
heard_as_nothing told after unread more Failed no_piece nothing = nothing

pub nothing_heard : (told after : Option Talk) (unread old mid new items : List ℕ) (filled : ℕ) (result : Recv) → ((count : ℕ) → result ≡ Got count → ⊥) → unread ≡ take filled old → take filled mid ≡ take filled old →
    take filled new ≡ take filled mid → items ≡ new → TellsReceiving told (drop filled new) result after → IsHeard told unread result (take filled items) after
nothing_heard told after unread old mid new items filled result no_piece is first second same tells =
    heard_as_nothing told after unread (take filled items) result no_piece (record {
      same = ap (λ (l : List ℕ). take filled l) same ∙ second ∙ first ∙ sym is;
      talk_is = talk_by_nothing told after (drop filled new) result no_piece tells;
    })
