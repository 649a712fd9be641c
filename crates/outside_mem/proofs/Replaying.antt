-- A replay goes on by one change.
use Rattle.std.proofs.Common.{◌≡◌, ℕ, List, [], ◌∷◌, ◌++◌, length, take, refl, sym, ◌∙◌, ap, inl}
use Rattle.outside.specs.DiskImages.{Torn}
use Rattle.outside.specs.DiskReads.{written}
use Rattle.outside_mem.specs.declared.crash.Filler.{Filler}
use Rattle.outside_mem.specs.declared.crash.Replay.{Replay}
use Rattle.outside_mem.specs.declared.change.Change.TheVariants.{Wrote, WriteFailed, CutTo, Synced}
use Rattle.outside_mem.specs.declared.change.Write.{Write as WriteMade}
use Rattle.outside_mem.specs.Filled.{filled, fills}
use Rattle.outside_mem.specs.Images.{Pending, Write, Cut, IsLeft-push}
use Rattle.outside_mem.specs.Replays.{Follows}

-- one pending write more
fills-write : (filler : Filler) (steps : List Pending) (at len : ℕ) (bytes : List ℕ) → fills filler (steps ++ Write at len ∷ []) bytes ≡ filled filler (fills filler steps bytes) at len
fills-write filler [] at len bytes = refl
fills-write filler (Write start count ∷ steps) at len bytes = fills-write filler steps at len (filled filler bytes start count)
fills-write filler (Cut end ∷ steps) at len bytes = fills-write filler steps at len bytes

-- one pending cut more
fills-cut : (filler : Filler) (steps : List Pending) (len : ℕ) (bytes : List ℕ) → fills filler (steps ++ Cut len ∷ []) bytes ≡ fills filler steps bytes
fills-cut filler [] len bytes = refl
fills-cut filler (Write start count ∷ steps) len bytes = fills-cut filler steps len (filled filler bytes start count)
fills-cut filler (Cut end ∷ steps) len bytes = fills-cut filler steps len bytes

module _ (filler : Filler) (old new : Replay) where
  pub follows_write : (write : WriteMade) → new.reads.items ≡ written old.reads.items write.at write.bytes.items → Torn write.at (length write.bytes.items) old.image.items new.image.items → new.image.items ≡ filled filler old.image.items write.at (length write.bytes.items) → Follows filler old new (Wrote write)
  follows_write write reads torn exact = record {
    each = λ r stands. record {
      reads = reads ∙ ap (λ (b : List ℕ). written b write.at write.bytes.items) stands.reads;
      image = IsLeft-push r.pending (Write write.at (length write.bytes.items)) r.synced old.image.items new.image.items stands.image torn;
      filled = exact ∙ ap (λ (b : List ℕ). filled filler b write.at (length write.bytes.items)) stands.filled ∙ sym (fills-write filler r.pending write.at (length write.bytes.items) r.synced);
    };
  }

  pub follows_failed : (at len : ℕ) → new.reads.items ≡ old.reads.items → Torn at len old.image.items new.image.items → new.image.items ≡ filled filler old.image.items at len → Follows filler old new (WriteFailed at len)
  follows_failed at len reads torn exact = record {
    each = λ r stands. record {
      reads = reads ∙ stands.reads;
      image = IsLeft-push r.pending (Write at len) r.synced old.image.items new.image.items stands.image torn;
      filled = exact ∙ ap (λ (b : List ℕ). filled filler b at len) stands.filled ∙ sym (fills-write filler r.pending at len r.synced);
    };
  }

  pub follows_cut : (len : ℕ) → new.reads.items ≡ take len old.reads.items → new.image.items ≡ old.image.items → Follows filler old new (CutTo len)
  follows_cut len reads image = record {
    each = λ r stands. record {
      reads = reads ∙ ap (λ (b : List ℕ). take len b) stands.reads;
      image = IsLeft-push r.pending (Cut len) r.synced old.image.items new.image.items stands.image (inl image);
      filled = image ∙ stands.filled ∙ sym (fills-cut filler r.pending len r.synced);
    };
  }

  pub follows_sync : new.reads.items ≡ old.reads.items → new.image.items ≡ old.reads.items → Follows filler old new Synced
  follows_sync reads image = record {
    each = λ r stands. record { reads = reads ∙ stands.reads; image = image ∙ stands.reads; filled = image ∙ stands.reads };
  }
