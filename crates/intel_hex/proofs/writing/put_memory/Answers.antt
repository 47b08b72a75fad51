use Prim.Native.Nat.{ℕ, ◌+◌, ◌*◌, ◌/◌, ◌≤◌, ◌<◌}
use mathlib.Core.Path.{◌≡◌, refl, sym, ◌∙◌}
use mathlib.Core.List.{List, [], ◌∷◌}
use Rattle.std.proofs.Common.{rules, arith}
use lib.ListN.{length, get_or, drop}
use Rattle.std.specs.Simd.{first_chunks}
use Rattle.text.specs.Writing.{put}
use Rattle.board.specs.Hex.{record_text, word_bytes, bytes_text, sum_of, hex_from, hex_text}
use Rattle.intel_hex.proofs.Chunks.{pair_at}
use Rattle.intel_hex.proofs.Written.{good_length, record-put, end-left}
use Rattle.intel_hex.proofs.writing.put_memory.Goals as goal

-- The record of pair `i`, written before the text of the words behind it.
pair-put : {pairs : List (List ℕ)} (text after memory : List ℕ) (i at : ℕ) → at ≡ 44 * i → pairs ≡ first_chunks 2 (length memory / 2) memory → i < length memory / 2 →
    44 * i + 44 ≤ length text →
    after ≡ put text at (record_text (16 * i) 0 (word_bytes (get_or (get_or pairs i []) 0 0 ∷ get_or (get_or pairs i []) 1 0 ∷ []))) →
    put after (44 * (i + 1)) (hex_from (16 * (i + 1)) (drop (2 * (i + 1)) memory)) ≡ put text (44 * i) (hex_from (16 * i) (drop (2 * i) memory))
pair-put text after memory i at here e h room f =
    let p = pair_at memory i e h in
    record-put text after memory i (omega arith) room (f ∙ (λ k. put text (here k) (record_text (16 * i) 0 (word_bytes (p.0 k ∷ p.1 k ∷ [])))))

pub loop-i-init : goal.loop-i-init
loop-i-init c = record { same = refl; long = refl; here = refl; text = refl }

pub put_record-requires : goal.put_record-requires
put_record-requires c =
    let g = good_length (length c.args.memory.now) c.requires.0 in
    omega (arith, c.loop-i.invariant.here, c.loop-i.invariant.long, c.loop-i-test.true, c.as_chunks.ensures.front_len, c.requires.1)

pub loop-i-preserved : goal.loop-i-preserved
loop-i-preserved c =
    let l = c.loop-i in
    let p = c.put_record.ensures in
    let m = c.args.memory.now in
    let g = good_length (length m) c.requires.0 in
    let h : l.i < length m / 2 = omega (arith, c.loop-i-test.true, c.as_chunks.ensures.front_len) in
    record {
      same = p.0.same ∙ l.invariant.same;
      long = p.0.long ∙ l.invariant.long;
      here = omega (arith, p.1, l.invariant.here);
      text = pair-put l.writer.out.now c.put_record.new.text.out.now m l.i l.writer.at l.invariant.here c.as_chunks.ensures.front h (omega (arith, l.invariant.long, c.requires.1))
          p.0.put.holds ∙ l.invariant.text;
    }

pub put_text-requires : goal.put_text-requires
put_text-requires c =
    let g = good_length (length c.args.memory.now) c.requires.0 in
    omega (arith, c.loop-i.invariant.here, c.loop-i.invariant.long, c.loop-i-test.false, c.loop-i.auto.i-end, c.as_chunks.ensures.front_len, c.requires.1)

pub returns : goal.returns
unfolding record_text bytes_text sum_of
returns c =
    let l = c.loop-i in
    let m = c.args.memory.now in
    let g = good_length (length m) c.requires.0 in
    let all : 2 * l.i ≡ length m = omega (arith, c.loop-i-test.false, l.auto.i-end, c.as_chunks.ensures.front_len) in
    let whole : c.put_text.new.self.out.now ≡ put c.args.text.now 0 (hex_text m) =
    c.put_text.ensures.put.holds ∙ (λ k. put l.writer.out.now (l.invariant.here k) (sym (end-left m l.i all) k)) ∙ l.invariant.text in
    search (rules, whole, l.invariant.same, c.put_text.ensures.same)
