-- A run that makes one link at most, and tidies the spool behind it.
use Rattle.std.proofs.Common.{◌≡◌, inl, inr, ℕ, ◌+◌, ◌≤◌, List, [], length, take, drop, Option, Some, None, Ok, Err, Result, refl, sym, ◌∙◌, subst, arith, length-drop, codes}
use Rattle.std.proofs.lemmas.List.{nil_from_length, take_all}
use Rattle.outside.specs.DiskImages.{LeavesOnly, Only}
use Rattle.outside.specs.Talks.{Talk, no_talk}
use Rattle.outside.specs.Wires.{Outcome, TellsConnecting, TellsFinishing}
use Rattle.outside.specs.declared.disk.Disk.{Ghosts as DiskGhosts}
use Rattle.outside.specs.declared.failed.Failed.{Failed}
use Rattle.spool_queue.specs.declared.spool.Spool.{Spool}
use Rattle.spool_queue.specs.declared.spool_error.SpoolError.TheVariants.{DiskFault}
use Rattle.spool_queue.specs.declared.stop.Stop.{Stop}
use Rattle.spool_queue.specs.declared.stop.Stop.TheVariants as stop
use Rattle.spool_queue.specs.SendSoFar.{HasPieces, IsDropped, SendsAll, SendsOver, Settles, TalkAcknowledges}
use Rattle.spool_queue.specs.Sent.{AreAcknowledged}
use Rattle.spool_queue.specs.Spool.{IsReadAs}
use Rattle.spool_queue.specs.Standing.{HoldsList, IsClosed, IsSpoolOf, count_of}
use Rattle.spool_queue.proofs.Crashes.{behind, weaker}
use Rattle.spool_queue.proofs.Runs.{held_count}

pub no_link : (outcomes : Option (List Outcome)) → AreAcknowledged outcomes outcomes []
no_link None = tt
no_link (Some outcomes) = inl (inl refl, refl)

pub link_refused : {L : Type 0} (told : L → Option Talk) (before after : Option (List Outcome)) (failed : Failed) (faults : ℕ) → TellsConnecting told before (Err failed) after faults → AreAcknowledged before after []
link_refused told None after failed faults tells = tt
link_refused told (Some outcomes) after failed faults (inl refused) = let A : Option (List Outcome) → Type 0 = λ o. AreAcknowledged (Some outcomes) o [] in subst A (sym refused) (inl (inr refl, refl))
link_refused told (Some outcomes) after failed faults (inr (end, same)) = let A : Option (List Outcome) → Type 0 = λ o. AreAcknowledged (Some outcomes) o [] in subst A (sym same) (inl (inl refl, refl))

pub fresh_link : {L : Type 0} (told : L → Option Talk) (before after : Option (List Outcome)) (link : L) (faults : ℕ) → TellsConnecting told before (Ok link) after faults → HasPieces (told link) (told link) []
fresh_link told None after link faults (none, untold) = let H : Option Talk → Type 0 = λ o. HasPieces o o [] in subst H (sym untold) tt
fresh_link told (Some outcomes) after link faults (fresh, same) = let H : Option Talk → Type 0 = λ o. HasPieces o o [] in subst H (sym fresh) refl

pub link_finished : {L : Type 0} (told : L → Option Talk) (before mid after : Option (List Outcome)) (link : L) (later : Option Talk) (wire_faults faults idles : ℕ) (payloads : List (List ℕ)) → TellsConnecting told before (Ok link) mid wire_faults → TellsFinishing mid later faults idles after
    → TalkAcknowledges (told link) later payloads → AreAcknowledged before after payloads
link_finished told None mid after link later wire_faults faults idles payloads connects finishes reads = tt
link_finished told (Some outcomes) mid after link later wire_faults faults idles payloads (fresh, same) finishes reads =
    let T : Option Talk → Type 0 = λ o. TalkAcknowledges o later payloads in
    let F : Option (List Outcome) → Type 0 = λ o. TellsFinishing o later faults idles after in
    of_talk later (subst F same finishes) (subst T fresh reads)
  where
    of_talk : (later : Option Talk) → TellsFinishing (Some outcomes) later faults idles after → TalkAcknowledges (Some no_talk) later payloads → AreAcknowledged (Some outcomes) after payloads
    of_talk None finishes reads = absurd reads
    of_talk (Some talk) finishes reads =
        let A : Option (List Outcome) → Type 0 = λ o. AreAcknowledged (Some outcomes) o payloads in
        subst A (sym finishes) (inr (record { talk = talk; faults = faults; idles = idles; finished = refl; acknowledges = reads }))

module _ {D : Type 0} (d : DiskGhosts D) where
  -- nothing was sent
  pub sends_nothing : (disk : D) (spool : Spool) (before after : Option (List Outcome)) (answer : Result Unit Stop) → Settles d disk disk spool spool 0 0 → AreAcknowledged before after [] → SendsAll d disk disk spool spool before after answer
  sends_nothing disk spool before after answer settles none = record { done = 0; tried = 0; settles = settles; exact = λ not. refl; acknowledged = λ list holds. none }

  -- over a link
  pub sends_over : {L : Type 0} (told : L → Option Talk) (old new : D) (was now : Spool) (before mid after : Option (List Outcome)) (link : L) (later : Option Talk) (wire_faults faults idles : ℕ) (answer : Result Unit Stop) → TellsConnecting told before (Ok link) mid wire_faults
      → TellsFinishing mid later faults idles after → SendsOver d old new was now (told link) later answer → SendsAll d old new was now before after answer
  sends_over told old new was now before mid after link later wire_faults faults idles answer connects finishes over = record {
    done = over.done;
    tried = over.tried;
    settles = over.settles;
    exact = over.exact;
    acknowledged = λ list holds. link_finished told before mid after link later wire_faults faults idles (take over.tried list) connects finishes (over.acknowledged list holds);
  }

  all_done : (old : D) (was mid : Spool) (n : ℕ) (list : List (List ℕ)) → count_of mid + n ≡ count_of was → count_of mid ≡ 0 → HoldsList was list (d.contents old) → length list ≡ n
  all_done old was mid n list counted none holds = omega (arith, counted, none, held_count was (d.contents old) list holds)

  -- the spool was tidied
  pub tidied : (old mid new : D) (was middle now : Spool) (before after : Option (List Outcome)) → (s : SendsAll d old mid was middle before after (Ok tt)) → count_of middle ≡ 0 → count_of now ≡ 0 → ¬ (IsClosed now)
      → ((bytes : List ℕ) (list : List (List ℕ)) → d.contents mid ≡ Some bytes → IsSpoolOf middle bytes list → (d.contents new ≡ Some (codes ".")) × IsSpoolOf now (codes ".") []) → Only (d.contents new) (d.images new)
      → (Only (d.contents mid) (d.images mid) → (bytes : List ℕ) (list : List (List ℕ)) → d.contents mid ≡ Some bytes → IsSpoolOf middle bytes list → LeavesOnly d.moment d.images_since mid new (λ image. IsReadAs image [])) → d.faults mid ≤ d.faults new
      → SendsAll d old new was now before after (Ok tt)
  tidied old mid new was middle now before after s none left unclosed tidy only leaves faults =
      let exact : s.tried ≡ s.done = s.exact (λ same. absurd cc) in
      record {
        done = s.done;
        tried = s.tried;
        settles = record {
          counted = omega (arith, s.settles.counted, none, left);
          within = s.settles.within;
          whole = λ same list holds.
              let rest : drop s.done list ≡ [] = nil_from_length (drop s.done list) (omega (arith, length-drop s.done list, all_done old was middle s.done list s.settles.counted none holds)) in
              let H : List (List ℕ) → Type 0 = λ l. HoldsList now l (d.contents new) in
              subst H (sym rest) (emptied (d.contents mid) refl (drop s.done list) (s.settles.whole same list holds));
          durable = λ same before. only;
          still_open = λ same before. unclosed;
          crashes = λ pending list holds.
              behind d.moment d.images_since old mid new (IsDropped s.tried list) (s.settles.crashes pending list holds)
              (by_contents (d.contents mid) refl (s.settles.durable exact pending) list (drop s.done list) (s.settles.whole exact list holds)
              (nil_from_length (drop s.done list) (omega (arith, length-drop s.done list, all_done old was middle s.done list s.settles.counted none holds))));
          faults = omega (arith, s.settles.faults, faults);
        };
        exact = λ not. exact;
        acknowledged = s.acknowledged;
      }
    where
      emptied : (contents : Option (List ℕ)) → d.contents mid ≡ contents → (list : List (List ℕ)) → HoldsList middle list contents → HoldsList now [] (d.contents new)
      emptied None told list holds = absurd holds
      emptied (Some bytes) told list holds =
          let is = tidy bytes list told holds in
          let H : Option (List ℕ) → Type 0 = λ o. HoldsList now [] o in
          subst H (sym is.0) is.1

      by_contents : (contents : Option (List ℕ)) → d.contents mid ≡ contents → Only (d.contents mid) (d.images mid) → (list rest : List (List ℕ)) → HoldsList middle rest contents → drop s.done list ≡ [] → LeavesOnly d.moment d.images_since mid new (IsDropped s.tried list)
      by_contents None told pending list rest holds gone = absurd holds
      by_contents (Some bytes) told pending list rest holds gone =
          weaker d.moment d.images_since mid new (λ image. IsReadAs image []) (IsDropped s.tried list) (leaves pending bytes rest told holds)
          (λ image reads. let R : List (List ℕ) → Type 0 = λ l. IsReadAs image l in (s.done, s.settles.within, subst R (sym gone) reads))

  -- or the disk failed at that
  pub untidied : (old mid new : D) (was middle now : Spool) (before after : Option (List Outcome)) → (s : SendsAll d old mid was middle before after (Ok tt)) → count_of middle ≡ 0 → count_of now ≡ 0
      → (Only (d.contents mid) (d.images mid) → (bytes : List ℕ) (list : List (List ℕ)) → d.contents mid ≡ Some bytes → IsSpoolOf middle bytes list → LeavesOnly d.moment d.images_since mid new (λ image. IsReadAs image [])) → d.faults mid ≤ d.faults new
      → SendsAll d old new was now before after (Err (stop.Spool DiskFault))
  untidied old mid new was middle now before after s none left leaves faults =
      let exact : s.tried ≡ s.done = s.exact (λ same. absurd cc) in
      record {
        done = s.done;
        tried = s.done + 1;
        settles = record {
          counted = omega (arith, s.settles.counted, none, left);
          within = omega arith;
          whole = λ same. absurd (omega (arith, same));
          durable = λ same. absurd (omega (arith, same));
          still_open = λ same. absurd (omega (arith, same));
          crashes = λ pending list holds.
              behind d.moment d.images_since old mid new (IsDropped (s.done + 1) list)
              (weaker d.moment d.images_since old mid (IsDropped s.tried list) (IsDropped (s.done + 1) list) (s.settles.crashes pending list holds) (λ image (k, le, reads). (k, omega (arith, le, exact), reads)))
              (by_contents (d.contents mid) refl (s.settles.durable exact pending) list (drop s.done list) (s.settles.whole exact list holds)
              (nil_from_length (drop s.done list) (omega (arith, length-drop s.done list, all_done old was middle s.done list s.settles.counted none holds))));
          faults = omega (arith, s.settles.faults, faults);
        };
        exact = λ not. absurd (not refl);
        acknowledged = λ list holds.
            let long : length list ≡ s.done = all_done old was middle s.done list s.settles.counted none holds in
            let A : List (List ℕ) → Type 0 = λ l. AreAcknowledged before after l in
            subst A (take_all s.tried list (omega (arith, long, exact)) ∙ sym (take_all (s.done + 1) list (omega (arith, long)))) (s.acknowledged list holds);
      }
    where
      by_contents : (contents : Option (List ℕ)) → d.contents mid ≡ contents → Only (d.contents mid) (d.images mid) → (list rest : List (List ℕ)) → HoldsList middle rest contents → drop s.done list ≡ [] → LeavesOnly d.moment d.images_since mid new (IsDropped (s.done + 1) list)
      by_contents None told pending list rest holds gone = absurd holds
      by_contents (Some bytes) told pending list rest holds gone =
          weaker d.moment d.images_since mid new (λ image. IsReadAs image []) (IsDropped (s.done + 1) list) (leaves pending bytes rest told holds)
          (λ image reads. let R : List (List ℕ) → Type 0 = λ l. IsReadAs image l in (s.done, omega arith, subst R (sym gone) reads))
