-- What is known of a port: the links that were finished, in order (this project's profile).
use Rattle.std.specs.Prelude.{◌≡◌, ℕ, List, [], ◌∷◌, ◌++◌, Option, Some, None}
use Rattle.outside.specs.Talks.{Talk, no_talk}
use Rattle.lumber_server.specs.declared.port.Accept.{Accept}
use Rattle.lumber_server.specs.declared.port.Accept.TheVariants.{Got, NotYet, Failed}

-- a link that was finished: its talk, and how far its counts of faults, of idles and of failed sends rose
pub record Finished : Type 0 where
  pub talk : Talk
  pub faults : ℕ
  pub idles : ℕ
  pub failed_sends : ℕ

-- of the link that was accepted this holds
abbrev pub IfGot : {L : Type 0} → Accept L → (L → Type 0) → Type 0
IfGot (Got link) P = P link
IfGot NotYet P = Unit {0}
IfGot Failed P = Unit {0}

abbrev pub IsNotYet : {L : Type 0} → Accept L → Type 0
IsNotYet (Got link) = ⊥
IsNotYet NotYet = Unit {0}
IsNotYet Failed = ⊥

abbrev pub IsFailed : {L : Type 0} → Accept L → Type 0
IsFailed (Got link) = ⊥
IsFailed NotYet = ⊥
IsFailed Failed = Unit {0}

-- a link of a known port begins with no talk; if nothing is known of the port, nothing is known of the link
abbrev pub TellsAccepting : {L : Type 0} → (L → Option Talk) → Option (List Finished) → Accept L → Option (List Finished) → Type 0
TellsAccepting link_told None accepted after = (after ≡ None) × IfGot accepted (λ link. link_told link ≡ None)
TellsAccepting link_told (Some links) accepted after = (after ≡ Some links) × IfGot accepted (λ link. link_told link ≡ Some no_talk)

-- a link that is finished is in the list with its talk; it is not if nothing is known of it
abbrev pub TellsFinishing : Option (List Finished) → Option Talk → ℕ → ℕ → ℕ → Option (List Finished) → Type 0
TellsFinishing None talk faults idles failed_sends after = after ≡ None
TellsFinishing (Some links) None faults idles failed_sends after = after ≡ Some links
TellsFinishing (Some links) (Some talk) faults idles failed_sends after =
    after ≡ Some (links ++ record { talk = talk; faults = faults; idles = idles; failed_sends = failed_sends } ∷ [])
