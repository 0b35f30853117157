use Rattle.std.proofs.Common.{◌<◌, [], ◌∷◌, length, get_or, take, vec_items, arith}
use Rattle.std.proofs.lemmas.List.{append_assoc, take_more, take_all}
use Rattle.shelf.proofs.adding.append.Goals as goal

pub loop-byte-preserved : goal.loop-byte-preserved
loop-byte-preserved c =
    let more = c.args.more.now in
    let i = c.loop-byte.byte-index in
    let h : i < length more = omega arith in
    let next = take_more more i 0 h in
    let joined = append_assoc (vec_items c.args.bytes.now) (take i more) (get_or more i 0 ∷ []) in
    ((cc), omega arith, omega arith)

pub returns : goal.returns
returns c =
    let all = take_all c.loop-byte.byte-index c.args.more.now (omega arith) in
    record { items = (cc); len = omega arith; capacity = c.loop-byte.invariant.2 }
