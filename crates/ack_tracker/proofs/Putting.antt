-- Files by their slots, by what calls of the tree say.
use Rattle.std.proofs.Common.{◌≡◌, ℕ, true, false, Option, Some, None, refl, sym, ap, ◌∙◌, subst}
use Rattle.std.specs.BTreeMap.{BTreeMap, Updates, WritesThrough, is_at}
use Rattle.std.specs.Option.{is_some, IsSome}
use Rattle.std.specs.Ordering.{nat_cmp}
use Rattle.std.proofs.lemmas.Map.Steps.{set_value_same}
use Rattle.ack_tracker.specs.FileState.{FileState}
use Rattle.ack_tracker.specs.Files.{file_of, Puts}
use Rattle.ack_tracker.proofs.ByNumber.{not_at}

pub put_written : (old new : BTreeMap ℕ FileState) (slot : ℕ) (file after : FileState) → file_of old.entries slot ≡ Some file → WritesThrough nat_cmp (nat_cmp slot) old after new → Puts old.entries new.entries slot after
put_written old new slot file after there written =
    let updates = written.3 (subst IsSome (sym there) refl) in
    record {
      here = updates.1;
      others = λ other differs. updates.2 other (not_at slot other (λ same. differs (sym same)));
    }

pub written_same : (old new : BTreeMap ℕ FileState) (slot : ℕ) (file after : FileState) → file_of old.entries slot ≡ Some file → after ≡ file → WritesThrough nat_cmp (nat_cmp slot) old after new → new.entries ≡ old.entries
written_same old new slot file after there same written = written.0 ∙ set_value_same (is_at (nat_cmp slot)) old.entries after (there ∙ ap Some (sym same))

pub put_inserted : (old new : BTreeMap ℕ FileState) (slot : ℕ) (file : FileState) → Updates nat_cmp old new slot (Some file) → Puts old.entries new.entries slot file
put_inserted old new slot file updates = record {
  here = updates.1;
  others = λ other differs. updates.2 other (not_at slot other (λ same. differs (sym same)));
}

pub none_found : (o : Option FileState) → false ≡ is_some o → o ≡ None
none_found None e = refl
none_found (Some file) e = absurd (let q : false ≡ true = e in cc)
