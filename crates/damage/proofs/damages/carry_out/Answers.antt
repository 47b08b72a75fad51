-- `damage::damages::carry_out` meets its contract: each arm is told the line, and its parts do what that line does.
use Rattle.std.proofs.Common.{◌++◌, ◌∙◌, ap, arith, drop, length-take-le}
use Rattle.std.specs.Option.{is_some, unwrap_or}
use Rattle.damage.specs.Damages.{answer_if}
use Rattle.damage.proofs.Arms.{by_parts, told-as, option-put, and-put, stored-front, memory-put, cache-put, word-put, field_put_lem, worker-put, holder-put, sum-shown}
use Rattle.damage.proofs.damages.carry_out.Goals as goal

pub returns-in-Memory : goal.returns-in-Memory
returns-in-Memory c =
    let a = c.args in
    let s = c.store-stored in
    let e = c.answered.ensures in
    let and = and-put s.result c.and.ensures in
    let after = s.new.row ++ drop a.sizes.memory a.memory.now in
    let stored = stored-front a.sizes.memory (drop a.sizes.memory a.memory.now) (length-take-le a.sizes.memory a.memory.now (omega (arith, a.sizes.memory_within, c.requires.memory-room))) s.ensures in
    told-as _ _ c.in-Memory.is (by_parts after a.cache.now (e.0 ∙ and.0, e.1, e.2 ∙ ap answer_if and.1, e.3)
    ∙ memory-put a.state a.sizes a.memory.now a.cache.now _ _ (is_some s.result) after stored)

pub returns-in-Cache : goal.returns-in-Cache
returns-in-Cache c =
    let a = c.args in
    let s = c.store-stored-in-Cache in
    let e = c.answered-in-Cache.ensures in
    let and = and-put s.result c.and-in-Cache.ensures in
    let after = s.new.row ++ drop a.sizes.cache a.cache.now in
    let stored = stored-front a.sizes.cache (drop a.sizes.cache a.cache.now) (length-take-le a.sizes.cache a.cache.now (omega (arith, a.sizes.cache_within, c.requires.cache-room))) s.ensures in
    told-as _ _ c.in-Cache.is (by_parts a.memory.now after (e.0 ∙ and.0, e.1, e.2 ∙ ap answer_if and.1, e.3)
    ∙ cache-put a.state a.sizes a.memory.now a.cache.now _ _ (is_some s.result) after stored)

pub returns-in-Dirty : goal.returns-in-Dirty
returns-in-Dirty c =
    let a = c.args in
    let r = c.put_word in
    told-as _ _ c.in-Dirty.is (by_parts a.memory.now a.cache.now c.answered-in-Dirty.ensures
    ∙ word-put a.state a.sizes a.memory.now a.cache.now _ _ (is_some r.result) (unwrap_or r.result a.state) (option-put r.result _ _ _ r.ensures))

pub returns-in-Field : goal.returns-in-Field
returns-in-Field c =
    let a = c.args in
    let r = c.put_field in
    told-as _ _ c.in-Field.is (by_parts a.memory.now a.cache.now c.answered-in-Field.ensures
    ∙ field_put_lem a.state a.sizes a.memory.now a.cache.now _ _ (is_some r.result) (unwrap_or r.result a.state) (option-put r.result _ _ _ r.ensures))

pub returns-in-Worker : goal.returns-in-Worker
returns-in-Worker c =
    let a = c.args in
    let r = c.put_worker-after in
    told-as _ _ c.in-Worker.is (by_parts a.memory.now a.cache.now c.answered-in-Worker.ensures
    ∙ worker-put a.state a.sizes a.memory.now a.cache.now _ _ _ _ _ (is_some r.result) (unwrap_or r.result a.state) (option-put r.result _ _ _ r.ensures))

pub returns-in-Holder : goal.returns-in-Holder
returns-in-Holder c =
    let a = c.args in
    let r = c.put_holder in
    told-as _ _ c.in-Holder.is (by_parts a.memory.now a.cache.now c.answered-in-Holder.ensures
    ∙ holder-put a.state a.sizes a.memory.now a.cache.now _ _ (is_some r.result) (unwrap_or r.result a.state) (option-put r.result _ _ _ r.ensures))

pub returns-in-Checksum : goal.returns-in-Checksum
returns-in-Checksum c =
    let a = c.args in
    told-as _ _ c.in-Checksum.is (by_parts a.memory.now a.cache.now c.shown.ensures
    ∙ sum-shown a.state a.sizes a.memory.now a.cache.now c.checksum-sum.result c.checksum-sum.ensures)
