-- Why a run that sends ended.
use Rattle.std.proofs.Common.{◌≡◌, inl, inr, ℕ, ◌+◌, ◌-◌, ◌^◌, ◌<◌, ◌≤◌, List, [], ◌∷◌, ◌++◌, length, take, Option, Some, None, Ok, Err, refl, sym, ap, subst, arith}
use Rattle.std.proofs.lemmas.Bool.{cases_lt}
use Rattle.lumber_client.specs.Exchange.{Exchange}
use Rattle.lumber_client.specs.Held.{Held}
use Rattle.lumber_frame.specs.PeerFault.{HasPeerFault}
use Rattle.outside.specs.Counts.{Rose, added_counts}
use Rattle.outside.specs.Talks.{Talk, TellsReceiving, no_talk}
use Rattle.outside.specs.Wires.{Outcome, TellsConnecting, TellsFinishing}
use Rattle.outside.specs.declared.disk.Disk.{Ghosts as DiskGhosts}
use Rattle.outside.specs.declared.link.Recv.TheVariants.{Got, NotYet}
use Rattle.wire_base.specs.declared.talk.Piece.{Piece}
use Rattle.wire_base.specs.declared.talk.Piece.TheVariants.{In}
use Rattle.spool_queue.specs.declared.spool.Spool.{Spool}
use Rattle.spool_queue.specs.declared.spool_error.SpoolError.TheVariants.{Bad, DiskFault, TooLong, Full, Closed, NoMemory}
use Rattle.spool_queue.specs.declared.stop.Stop.{Stop}
use Rattle.spool_queue.specs.declared.stop.Stop.TheVariants as stop
use Rattle.spool_queue.specs.Lost.{IsLost, link_counts}
use Rattle.spool_queue.specs.SendSoFar.{HasPieces, HasTalkFault, IsReadStop, IsSendingStop, IsSettlingStop, LinkTalkIs, SettlesSome, Talks}
use Rattle.spool_queue.specs.Sent.{OneTalkIs}
use Rattle.spool_queue.specs.Silence.{IsUnanswered}
use Rattle.spool_queue.proofs.Silences.{idle_unanswered}
use Rattle.spool_queue.proofs.Talkings.{receives_piece}
use Rattle.spool_queue.proofs.Windows.{IsSettledTo}

pub rose_behind : (before mid now : ℕ) → before ≤ mid → Rose mid now → Rose before now
rose_behind before mid now le (inl rose) = inl (omega (arith, le, rose))
rose_behind before mid now le (inr end) = inr end

-- ---- over a link

pub pieces_fault : (began told : Option Talk) (pieces : List Piece) → HasPieces began told pieces → HasPeerFault pieces → HasTalkFault began told
pieces_fault None told pieces has fault = tt
pieces_fault (Some began) None pieces has fault = absurd has
pieces_fault (Some began) (Some talk) pieces has fault = subst HasPeerFault (sym has) fault

pub lost_behind : (faults_before faults_mid faults_now idles_before idles_mid idles_now : ℕ) (Fault Silence Silent : Type 0) → faults_before ≤ faults_mid → idles_before ≤ idles_mid → (Silence → Silent) → IsLost (link_counts faults_mid faults_now idles_mid idles_now) Fault Silence
    → IsLost (link_counts faults_before faults_now idles_before idles_now) Fault Silent
lost_behind faults_before faults_mid faults_now idles_before idles_mid idles_now Fault Silence Silent faults idles silent (inl rose) = inl (rose_behind faults_before faults_mid faults_now faults rose)
lost_behind faults_before faults_mid faults_now idles_before idles_mid idles_now Fault Silence Silent faults idles silent (inr (inl fault)) = inr (inl fault)
lost_behind faults_before faults_mid faults_now idles_before idles_mid idles_now Fault Silence Silent faults idles silent (inr (inr (rose, silence))) = inr (inr (rose_behind idles_before idles_mid idles_now idles rose, silent silence))

module _ {D : Type 0} (d : DiskGhosts D) where
  pub piece_faulty : (old mid new : D) (was middle now : Spool) (before between after : Held) (told later then : Option Talk) (into : List ℕ) (count : ℕ) (stops : Stop) → IsSettledTo d old mid was middle before between told later
      → SettlesSome d mid new middle now between after (take count into) (Err stops) → TellsReceiving later into (Got count) then → stops ≡ stop.Unreachable → (began : Option Talk) (e : Exchange) → Talks before began told e → HasTalkFault began then
  piece_faulty old mid new was middle now before between after told later then into count stops is more tells same began e talks =
      let next = is.goes_on began e talks in
      let piece : Piece = In (take count into) in
      pieces_fault began then (next.0.talk ++ piece ∷ []) (receives_piece began later then next.0.talk into count next.1.pieces tells) (more.unreachable (ap (λ (s : Stop). Err s) same) next.0 next.1.stands)

  -- the peer gave nothing, while a window of which all is out is in flight
  pub peer_silent : (old new : D) (was now : Spool) (before after : Held) (told later then : Option Talk) (into : List ℕ) → IsSettledTo d old new was now before after told later → after.out ≡ [] → 0 < length after.flights → TellsReceiving later into NotYet then
      → (began : Option Talk) (e : Exchange) → Talks before began told e → LinkTalkIs IsUnanswered began then
  peer_silent old new was now before after told later then into is out flying tells began e talks =
      let next = is.goes_on began e talks in
      idle_unanswered after next.0 began later then into next.1.stands out flying next.1.pieces tells

-- ---- stops

pub read_sends : (before mid now : ℕ) (stops : Stop) → before ≤ mid → IsReadStop mid now stops → IsSendingStop before now stops
read_sends before mid now stop.Source le is = is
read_sends before mid now stop.Unreachable le is = tt
read_sends before mid now (stop.Spool (Bad at)) le is = tt
read_sends before mid now (stop.Spool DiskFault) le is = rose_behind before mid now le is
read_sends before mid now (stop.Spool TooLong) le is = is
read_sends before mid now (stop.Spool Full) le is = is
read_sends before mid now (stop.Spool Closed) le is = is
read_sends before mid now (stop.Spool NoMemory) le is = tt

pub settling_sends : (before mid now : ℕ) (stops : Stop) → before ≤ mid → IsSettlingStop mid now stops → IsSendingStop before now stops
settling_sends before mid now stop.Source le is = is
settling_sends before mid now stop.Unreachable le is = tt
settling_sends before mid now (stop.Spool (Bad at)) le is = tt
settling_sends before mid now (stop.Spool DiskFault) le is = rose_behind before mid now le is
settling_sends before mid now (stop.Spool TooLong) le is = is
settling_sends before mid now (stop.Spool Full) le is = is
settling_sends before mid now (stop.Spool Closed) le is = is
settling_sends before mid now (stop.Spool NoMemory) le is = tt

-- ---- over a wire

pub rose_added : (before mid link now : ℕ) → before ≤ mid → added_counts mid link ≤ now → Rose 0 link → Rose before now
rose_added before mid link now le added rose = elim (cases_lt (mid + link) (2 ^ 64 - 1)) [
  | inl small ↦ some rose small
  | inr large ↦ inr (omega (arith, added, large))
]
  where
    some : Rose 0 link → mid + link < 2 ^ 64 - 1 → Rose before now
    some (inl more) small = inl (omega (arith, le, added, more, small))
    some (inr end) small = absurd (omega (arith, end, small))

pub link_talk : {L : Type 0} (told : L → Option Talk) (Is : Talk → Type 0) (before mid after : Option (List Outcome)) (link : L) (later : Option Talk) (wire_faults faults idles : ℕ) → TellsConnecting told before (Ok link) mid wire_faults → TellsFinishing mid later faults idles after → LinkTalkIs Is (told link) later → OneTalkIs Is before after
link_talk told Is None mid after link later wire_faults faults idles connects finishes is = tt
link_talk told Is (Some outcomes) mid after link later wire_faults faults idles (fresh, same) finishes is =
    let T : Option Talk → Type 0 = λ o. LinkTalkIs Is o later in
    let F : Option (List Outcome) → Type 0 = λ o. TellsFinishing o later faults idles after in
    of_talk later (subst F same finishes) (subst T fresh is)
  where
    of_talk : (later : Option Talk) → TellsFinishing (Some outcomes) later faults idles after → LinkTalkIs Is (Some no_talk) later → OneTalkIs Is (Some outcomes) after
    of_talk None finishes is = absurd is
    of_talk (Some talk) finishes is =
        let P : Option (List Outcome) → Type 0 = λ o. OneTalkIs Is (Some outcomes) o in
        subst P (sym finishes) (record { talk = talk; faults = faults; idles = idles; finished = refl; is = is })

-- the counts of the link stand in those of the wire
pub lost_over : (wire_before wire_mid wire_now idles_before idles_mid idles_now link_faults link_faults_now link_idles link_idles_now : ℕ) (Fault Fails Silence Silent : Type 0) → link_faults ≡ 0 → link_idles ≡ 0 → wire_before ≤ wire_mid → idles_before ≤ idles_mid
    → added_counts wire_mid link_faults_now ≤ wire_now → added_counts idles_mid link_idles_now ≤ idles_now → (Fault → Fails) → (Silence → Silent) → IsLost (link_counts link_faults link_faults_now link_idles link_idles_now) Fault Silence → IsLost (link_counts wire_before wire_now idles_before idles_now) Fails Silent
lost_over wire_before wire_mid wire_now idles_before idles_mid idles_now link_faults link_faults_now link_idles link_idles_now Fault Fails Silence Silent no_faults no_idles wires idles faults_added idles_added fails silent (inl rose) =
    let R : ℕ → Type 0 = λ n. Rose n link_faults_now in
    inl (rose_added wire_before wire_mid link_faults_now wire_now wires faults_added (subst R no_faults rose))
lost_over wire_before wire_mid wire_now idles_before idles_mid idles_now link_faults link_faults_now link_idles link_idles_now Fault Fails Silence Silent no_faults no_idles wires idles faults_added idles_added fails silent (inr (inl fault)) = inr (inl (fails fault))
lost_over wire_before wire_mid wire_now idles_before idles_mid idles_now link_faults link_faults_now link_idles link_idles_now Fault Fails Silence Silent no_faults no_idles wires idles faults_added idles_added fails silent (inr (inr (rose, silence))) =
    let R : ℕ → Type 0 = λ n. Rose n link_idles_now in
    inr (inr (rose_added idles_before idles_mid link_idles_now idles_now idles idles_added (subst R no_idles rose), silent silence))
