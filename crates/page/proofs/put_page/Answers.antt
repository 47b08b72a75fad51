-- `page::put_page` meets its contract: the board's cells, and room for all of them.
use Prim.Native.Nat.{ℕ, ◌≤◌}
use mathlib.Core.Path.{◌≡◌, refl, sym, ap, subst, ◌∙◌}
use mathlib.Core.List.{List}
use native.Mathlib.Omega.{arith}
use lib.ListN.{length}
use lib.Seq.{length-take-le}
use Rattle.text.specs.Writing.{put}
use Rattle.board.specs.Board.{shaped, cells, row_words}
use Rattle.board.specs.Page.{page_text}
use Rattle.page.specs.Cells.{InCacheUnder}
use Rattle.page.proofs.put_page.Goals as goal

-- A board's cache holds its cells.
all_held : (cache : List ℕ) (l : ℕ) → l ≤ 511 → length cache ≡ row_words l → InCacheUnder cache (cells (shaped l))
all_held cache l h e c g = record { short = omega arith; inside = omega arith }

-- The board's cells fit the array.
few : {n l : ℕ} → n ≡ cells (shaped l) → l ≤ 511 → n ≤ 1022
few e h = omega (arith, e)

pub slice_bounds-put_ordered-end : goal.slice_bounds-put_ordered-end
slice_bounds-put_ordered-end c = sym (length-take-le _ _ (few c.cells-n.ensures c.requires.0))

pub slice_bounds-put_ordered-end-2 : goal.slice_bounds-put_ordered-end-2
slice_bounds-put_ordered-end-2 c = sym (length-take-le _ _ (few c.cells-n.ensures c.requires.0))

pub put_ordered-requires : goal.put_ordered-requires
put_ordered-requires c =
    let n = c.cells-n in
    let size = length-take-le n.result _ (few c.cells-n.ensures c.requires.0) in (
      subst (λ (k : ℕ). k ≤ 1022) (sym size) (few c.cells-n.ensures c.requires.0),
      refl,
      subst (InCacheUnder c.args.cache.now) (sym (size ∙ n.ensures)) (all_held c.args.cache.now c.args.lines c.requires.0 c.requires.1),
      omega (arith, size, n.ensures, c.requires.2),
    )

pub returns : goal.returns
returns c =
    let n = c.cells-n in
    c.put_ordered.ensures
    ∙ ap (λ (k : ℕ). put c.args.text.now 0 (page_text c.args.cache.now k)) (length-take-le n.result _ (few c.cells-n.ensures c.requires.0) ∙ n.ensures)
