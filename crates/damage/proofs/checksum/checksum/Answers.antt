-- `damage::checksum::checksum` meets its contract: part by part.
use Rattle.std.proofs.Common.{ℕ, sym, ap, ◌∙◌}
use Rattle.board.specs.Next.{lent}
use Rattle.damage.specs.Checksum.{summed, workers_numbers, dirty_numbers, holders_numbers, row_numbers}
use Rattle.damage.proofs.Sums.{checksum-parts}
use Rattle.damage.proofs.checksum.checksum.Goals as goal

pub returns : goal.returns
returns c =
    let a = c.args in
    let fields = c.mix_fields-fields.ensures in
    let workers = c.mix_workers-workers.ensures ∙ ap (λ (h : ℕ). summed h (workers_numbers a.state)) fields in
    let bits = c.mix_dirty-bits.ensures ∙ ap (λ (h : ℕ). summed h (dirty_numbers a.state)) workers in
    let holders = c.mix_holders-holders.ensures ∙ ap (λ (h : ℕ). summed h (holders_numbers a.state)) bits in
    let memory = c.mix_row-words.ensures ∙ ap (λ (h : ℕ). summed h (row_numbers a.memory.now)) holders in
    c.mix_row.ensures
    ∙ ap (λ (h : ℕ). summed h (row_numbers a.cache.now)) memory
    ∙ sym (checksum-parts (lent a.state a.memory.now a.cache.now))
