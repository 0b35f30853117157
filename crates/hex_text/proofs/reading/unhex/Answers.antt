use Rattle.std.proofs.Common.{◌≡◌, ℕ, ◌+◌, ◌*◌, ◌/◌, List, None, length, drop, vec_items, sym, ap, ◌∙◌, arith, rules}
use Rattle.hex_text.proofs.Exact.{reads_in_hex}
use Rattle.hex_text.proofs.Pairs.{unhexed_pairs, from_pair, by_pairs, odd_none, at_pair, one_more, all_read}
use Rattle.hex_text.proofs.reading.unhex.Goals as goal

pub returns-in_default : goal.returns-in_default
returns-in_default c =
    record { bytes = sym (odd_none c.args.text.now (omega arith)); law = reads_in_hex }

pub returns-in_default-byte_of : goal.returns-in_default-byte_of
returns-in_default-byte_of c =
    let text = c.args.text.now in
    let pairs = c.as_chunks.result.0.now in
    let whole : length text ≡ length text / 2 * 2 = omega arith in
    let read = ap unhexed_pairs c.as_chunks.ensures.front ∙ by_pairs (length text / 2) text whole in
    record {
      bytes = at_pair (vec_items c.loop-high.bytes) pairs c.loop-high.high-index None c.loop-high-test.true c.in_default-byte_of.ensures ∙ c.loop-high.invariant ∙ read;
      law = reads_in_hex;
    }

pub returns-in_err-push : goal.returns-in_err-push
returns-in_err-push c = record { bytes = search rules; law = reads_in_hex }

pub loop-high-preserved : goal.loop-high-preserved
loop-high-preserved c =
    let done = vec_items c.loop-high.bytes in
    let pairs = c.as_chunks.result.0.now in
    let i = c.loop-high.high-index in
    ap (λ (xs : List ℕ). from_pair xs pairs (i + 1)) c.in_ok-push.ensures.items ∙ one_more done c.in-Some.byte (unhexed_pairs (drop (i + 1) pairs)) ∙ at_pair done pairs i _ c.loop-high-test.true c.in-Some.ensures ∙ c.loop-high.invariant

pub returns : goal.returns
returns c =
    let text = c.args.text.now in
    let pairs = c.as_chunks.result.0.now in
    let whole : length text ≡ length text / 2 * 2 = omega arith in
    let read = ap unhexed_pairs c.as_chunks.ensures.front ∙ by_pairs (length text / 2) text whole in
    record {
      bytes = all_read (vec_items c.loop-high.bytes) pairs c.loop-high.high-index c.loop-high-test.false ∙ c.loop-high.invariant ∙ read;
      law = reads_in_hex;
    }
