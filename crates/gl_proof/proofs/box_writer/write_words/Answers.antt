use Rattle.std.proofs.Common.{◌≡◌, ◌+◌, ◌-◌, ◌<◌, ap, sym, get_or, ℕ, length, arith}
use Rattle.gl_proof.proofs.Stands.{order_more, stand_more}
use Rattle.gl_proof.proofs.box_writer.write_words.Goals as goal

pub loop-k-preserved : goal.loop-k-preserved
loop-k-preserved c =
    let k = c.loop-k.k - 1 in
    let one : c.loop-k.k ≡ k + 1 = omega arith in
    let end = get_or c.loop-k.starts (k + 1) 0 in
    let place : end ≡ get_or c.loop-k.starts c.loop-k.k 0 = ap (λ (n : ℕ). get_or c.loop-k.starts n 0) (sym one) in
    let room : k < length c.loop-k.starts = omega arith in
    record {
      order = order_more c.loop-k.starts k c.loop-k.k c.write_span.result end (length c.args.spans.now) one c.loop-k.invariant.order room (omega arith) c.write_span.ensures.start place;
      standing = stand_more c.loop-k.buffer c.write_span.new.buffer c.loop-k.starts c.args.spans.now k c.loop-k.k c.write_span.result end c.index-spans-k.result one c.loop-k.invariant.standing
          c.loop-k.invariant.order (omega arith) room c.index-spans-k.is c.write_span.ensures.span c.write_span.ensures.written c.write_span.auto.buffer
          c.write_span.ensures.start c.write_span.ensures.most place;
    }

pub write_span-requires : goal.write_span-requires
write_span-requires c =
    let k = c.loop-k.k in
    let one : k ≡ (k - 1) + 1 = omega arith in
    let at = c.loop-k.invariant.standing k (omega arith) (omega arith) in
    let place : get_or c.loop-k.starts k 0 ≡ get_or c.loop-k.starts ((k - 1) + 1) 0 = ap (λ (n : ℕ). get_or c.loop-k.starts n 0) one in
    record { room = omega (arith, at.room, place); within = omega (arith, at.within, place) }
