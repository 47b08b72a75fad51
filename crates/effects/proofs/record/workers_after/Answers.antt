-- Each of the eight is the worker at its index after the release.
use Rattle.std.proofs.Common.{rules, ◌≡◌, ◌<◌, ℕ, [], ◌∷◌, ◌∙◌, get_or, arith}
use Rattle.board.specs.State.{free_worker, released_worker}
use Rattle.effects.proofs.Effects.{all-eight}
use Rattle.effects.proofs.record.workers_after.Goals as goal

pub returns-in-Released : goal.returns-in-Released
returns-in-Released c =
    let each : (i : ℕ) → i < 8 → get_or c.map.result i free_worker ≡ released_worker c.args.state i =
    λ i h. let called = c.map.ensures.items.at i free_worker free_worker h in search rules
    in
    rw c.in-Released.is
    (all-eight free_worker c.map.result c.map.ensures.items.long
    ∙ (λ j.
    each 0 (omega arith) j
    ∷ each 1 (omega arith) j
    ∷ each 2 (omega arith) j
    ∷ each 3 (omega arith) j
    ∷ each 4 (omega arith) j
    ∷ each 5 (omega arith) j
    ∷ each 6 (omega arith) j
    ∷ each 7 (omega arith) j
    ∷ []))
