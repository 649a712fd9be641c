use Rattle.std.proofs.Common.{◌+◌, ◌-◌, Some, length, rules, inl, inr, ap, ◌∙◌}
use Rattle.std.specs.VecDeque.{deque_capacity}
use Rattle.lumber_client.specs.Laying.{Laying}
use Rattle.lumber_client.proofs.Goings.{head_frame, whole_frame}
use Rattle.lumber_client.proofs.outgoing.Outgoing.lay_frame.Goals.{then-size-room, else-size-room}
use Rattle.lumber_client.proofs.outgoing.Outgoing.lay_frame.Goals as goal

pub returns : goal.returns
returns c =
    let o = c.self.inside in
    let payload = c.args.payload.now in
    elim c.if-size-room.branch [
      | then-size-room w ↦ inl (rw (w.self-inside-is, ← c.self.view_is) (λ k. record {
        depth = deque_capacity o.unlaid;
        buffer = whole_frame o.buffer.items c.json_head.result c.append.new.buffer.items w.append-then-size-room.new.buffer.items payload o.laid c.json_head.ensures c.append.ensures.items w.append-then-size-room.ensures.items k;
        start = o.start;
        lent = (ap (λ (l : Laying). l.lent) c.self.view_is ∙ c.requires.none_lent) k;
        laid = o.laid + 1;
        left = o.left - 1;
        unlaid = o.unlaid.items;
        to_lay = o.to_lay - 1;
      }))
      | else-size-room w ↦ inr (
        rw (w.self-inside-is, ← c.self.view_is) (λ k. record {
          depth = deque_capacity o.unlaid;
          buffer = head_frame o.buffer.items c.json_head.result c.append.new.buffer.items o.laid (length payload) c.json_head.ensures c.append.ensures.items k;
          start = o.start;
          lent = Some 0;
          laid = o.laid + 1;
          left = o.left - 1;
          unlaid = o.unlaid.items;
          to_lay = o.to_lay - 1;
        }),
        search rules,
      )
    ]
