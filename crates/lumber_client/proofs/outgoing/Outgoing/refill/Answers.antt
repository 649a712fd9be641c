use Rattle.std.proofs.Common.{◌≡◌, [], refl, ap, subst, sym, ◌∙◌, arith}
use Rattle.lumber_client.specs.Exchange.{payloads_of}
use Rattle.lumber_client.specs.Laying.{Laying, piece_of}
use Rattle.lumber_client.specs.contracts.outgoing.Outgoing.{the_view}
use Rattle.lumber_client.proofs.Goings.{none_lent, some_none, start_all}
use Rattle.lumber_client.proofs.outgoing.Outgoing.refill.Goals.{else-self-len-via-then-self-len+else-is_none, else-self-len-via-else-self-len}
use Rattle.lumber_client.proofs.outgoing.Outgoing.refill.Goals as goal

pub returns-else-self-len : goal.returns-else-self-len
returns-else-self-len c = record {
  same_bytes = refl;
  something_or_all_out = λ none.
      let o = c.self.inside in
      let payloads = payloads_of c.args.parcels.now.items in
      let nothing : piece_of (the_view o) payloads c.args.begun ≡ [] = subst (λ (l : Laying). piece_of l payloads c.args.begun ≡ []) (sym c.self.view_is) none in
      let none_is = none_lent c.args.self.now payloads c.args.begun c.args.begun none c.requires.lent in
      elim c.else-self-len.branch [
        | else-self-len-via-then-self-len+else-is_none w ↦ absurd (some_none o.lent (ap (λ (l : Laying). l.lent) c.self.view_is ∙ none_is) w.if-is_none.ensures)
        | else-self-len-via-else-self-len w ↦ absurd (omega (arith, start_all (the_view o) payloads c.args.begun nothing, w.if-self-len.false, c.len.ensures, o.buffer.ok.0, c.self.invariant.start))
      ];
  lent = λ most few is. is;
  counted = c.requires.counted;
  fewer_to_lay = omega arith;
  fewer_windows = omega arith;
  depth = refl;
}
