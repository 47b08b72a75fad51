use Rattle.std.proofs.Common.{◌≡◌, ◌∙◌, ℕ, ◌+◌, ◌*◌, sym, ap, arith, rules}
use Rattle.predicate.specs.Passing.{count_under}
use Rattle.predicate.proofs.Passing.{count-mono}
use Rattle.bitset.specs.Words.{contains, capacity}
use Rattle.bitset.proofs.Words.{count-start, count_word, size-count, nth-word, sum-counts, size_room}
use Rattle.bitset.proofs.ranked.Goals as goal

pub total-size-requires : goal.total-size-requires
total-size-requires c =
    omega (arith, sum-counts c.counted-counts.result c.args.words (search rules) c.counted-counts.ensures.by_index, size_room c.args.words)

pub loop-k-init : goal.loop-k-init
loop-k-init c = omega (arith, count-start (contains c.args.words))

pub loop-k-preserved : goal.loop-k-preserved
loop-k-preserved c =
    let k = c.loop-k.k in
    omega (arith, c.counted-counts.ensures.by_index k (omega arith), count_word c.args.words k)

pub returns-then-left-counts-clause-size : goal.returns-then-left-counts-clause-size
returns-then-left-counts-clause-size c =
    c.total-size.ensures ∙ sum-counts c.counted-counts.result c.args.words (search rules) c.counted-counts.ensures.by_index

pub returns-then-left-counts-clause-nth : goal.returns-then-left-counts-clause-nth
returns-then-left-counts-clause-nth c =
    let l = c.loop-k in
    let words = c.args.words in
    let count = c.counted-counts.ensures.by_index l.k (omega arith) in (
      omega (arith, count, count_word words l.k, count-mono (64 * (l.k + 1)) capacity (contains words) (omega arith), size-count words),
      ap (λ (q : ℕ). 64 * l.k + q) c.nth_bit.ensures.value
          ∙ nth-word words l.k l.left c.args.p (omega arith) l.invariant (omega (arith, count)),
    )

pub returns-clause-size : goal.returns-clause-size
returns-clause-size c =
    c.total-size.ensures ∙ sum-counts c.counted-counts.result c.args.words (search rules) c.counted-counts.ensures.by_index

pub returns-clause-nth : goal.returns-clause-nth
returns-clause-nth c =
    let words = c.args.words in
    let all = ap (λ (k : ℕ). count_under (64 * k) (contains words)) (let e : c.loop-k.k ≡ 8 = omega arith in e) ∙ sym (size-count words) in
    omega (arith, all)
