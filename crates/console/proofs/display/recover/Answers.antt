-- `console::display::recover` meets its contract: the start, and more steps than the recovery takes.
use Rattle.std.proofs.Common.{refl, ◌∙◌, rules}
use Rattle.console.proofs.Refused.{err_number, no_value}
use Rattle.console.proofs.Displays.{start-told, steps-recover}
use Rattle.console.proofs.display.recover.Goals as goal

pub returns-in_err-started : goal.returns-in_err-started
returns-in_err-started c =
    let e = c.from_residual.ensures.1 in
    let a = c.args in
    record {
      told = err_number _ _ e ∙ start-told a.memory.now a.cache.now _ c.off.result _ _ 0 c.off.ensures c.requires c.in_err-started.ensures.performed;
      leaves = no_value _ _ _ e;
    }

pub returns : goal.returns
returns c =
    let a = c.args in
    let start = c.in_ok-started.ensures.performed in
    record {
      told = start-told a.memory.now a.cache.now _ c.off.result _ _ 0 c.off.ensures c.requires start;
      leaves = steps-recover a.memory.now a.cache.now _ c.off.result _ _ 0 c.off.ensures c.requires start _ refl (search rules) c.steps.ensures;
    }
