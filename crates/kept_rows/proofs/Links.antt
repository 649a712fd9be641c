-- The talks of a wire as its link goes on and is finished.
use Rattle.std.proofs.Common.{◌≡◌, ℕ, List, [], ◌∷◌, ◌++◌, map, Option, Some, None, refl, sym, ap, subst, ◌∙◌, append-nil}
use Rattle.std.proofs.lemmas.List.{map-append}
use Rattle.outside.specs.Talks.{Talk}
use Rattle.outside.specs.Wires.{Outcome, Finished}
use Rattle.wire_base.specs.declared.talk.Piece.{Piece}
use Rattle.kept_rows.specs.Acknowledged.{TalkGoesOn, TalksGoOn, talk_of, talks_of}

-- a talk that stays, and talks of which others follow
stays : (talk : Option (List Piece)) → TalkGoesOn talk talk
stays None = refl
stays (Some talk) = ([], ap Some (sym (append-nil talk)))

pub followed : (talks more : List (Option (List Piece))) → TalksGoOn talks (talks ++ more)
followed [] more = tt
followed (talk ∷ talks) more = (stays talk, followed talks more)

grown : (front : List (Option (List Piece))) (talk more : List Piece) → TalksGoOn (front ++ Some talk ∷ []) (front ++ Some (talk ++ more) ∷ [])
grown [] talk more = ((more, refl), tt)
grown (first ∷ front) talk more = (stays first, grown front talk more)

pub open_link_goes_on : (outcomes : List Outcome) (talk now : Talk) (more : List Piece) → now.pieces ≡ talk.pieces ++ more →
    TalksGoOn (talks_of (record { outcomes = outcomes; open_talk = Some talk })) (talks_of (record { outcomes = outcomes; open_talk = Some now }))
open_link_goes_on outcomes talk now more is = subst_back (grown (map talk_of outcomes) talk.pieces more)
  where
    subst_back : TalksGoOn (map talk_of outcomes ++ Some talk.pieces ∷ []) (map talk_of outcomes ++ Some (talk.pieces ++ more) ∷ []) →
        TalksGoOn (map talk_of outcomes ++ Some talk.pieces ∷ []) (map talk_of outcomes ++ Some now.pieces ∷ [])
    subst_back on = subst (λ (p : List Piece). TalksGoOn (map talk_of outcomes ++ Some talk.pieces ∷ []) (map talk_of outcomes ++ Some p ∷ [])) (sym is) on

pub finished_link_stays : (outcomes : List Outcome) (talk : Talk) (faults idles : ℕ) →
    talks_of (record { outcomes = outcomes ++ Finished talk faults idles ∷ []; open_talk = None }) ≡ talks_of (record { outcomes = outcomes; open_talk = Some talk })
finished_link_stays outcomes talk faults idles =
    append-nil (map talk_of (outcomes ++ Finished talk faults idles ∷ [])) ∙ map-append talk_of outcomes (Finished talk faults idles ∷ [])

pub new_link_follows : (outcomes : List Outcome) (talk : Talk) →
    TalksGoOn (talks_of (record { outcomes = outcomes; open_talk = None })) (talks_of (record { outcomes = outcomes; open_talk = Some talk }))
new_link_follows outcomes talk = subst (λ (l : List (Option (List Piece))). TalksGoOn l (map talk_of outcomes ++ Some talk.pieces ∷ [])) (sym (append-nil (map talk_of outcomes)))
    (followed (map talk_of outcomes) (Some talk.pieces ∷ []))
