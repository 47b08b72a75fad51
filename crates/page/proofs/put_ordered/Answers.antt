-- `page::put_ordered` meets its contract: the cells are numbered and put in order, and their lines stand behind the heading.
use Prim.Native.Nat.{ℕ, ◌≤◌}
use mathlib.Core.Path.{◌≡◌, sym, ap, subst, ◌∙◌}
use mathlib.Core.List.{List, map, flatten}
use native.Mathlib.Omega.{arith}
use lib.ListN.{length, get_or}
use Rattle.text.specs.Writing.{put}
use Rattle.text.proofs.Writing.{put-put}
use Rattle.board.specs.Page.{line_text, heading_text, cell_text, before, ordered, cell_order, page_text}
use Rattle.predicate.specs.Passing.{numbers_under}
use Rattle.page.specs.Cells.{AllInCache, InCacheUnder}
use Rattle.page.proofs.Ordering.{order-length, cell_below}
use Rattle.page.proofs.put_ordered.Goals as goal

-- The cells on the page are held.
all_held : (cache : List ℕ) (n : ℕ) → InCacheUnder cache n → AllInCache cache (cell_order cache n)
all_held cache n h i g =
    h (get_or (cell_order cache n) i 0) (cell_below cache n i (omega (arith, order-length cache n)))

-- The heading and the lines behind it are the page.
page-written : (text cache : List ℕ) (n : ℕ) → 68 ≤ length text →
    put (put text 0 heading_text) 68 (flatten (map (cell_text cache) (cell_order cache n))) ≡ put text 0 (page_text cache n)
unfolding line_text page_text
page-written text cache n h = put-put text 0 heading_text (flatten (map (cell_text cache) (cell_order cache n))) h

pub sort-requires : goal.sort-requires
sort-requires c = c.number-2.ensures ∙ ap numbers_under c.requires.1 ∙ sym c.number.ensures

pub put_cells-requires : goal.put_cells-requires
put_cells-requires c =
    let cache = c.args.cache.now in
    let n = length c.args.cells.now in
    let is : c.sort.new.row ≡ cell_order cache n = c.sort.ensures ∙ ap (ordered (before cache)) c.number.ensures in
    (subst (AllInCache cache) (sym is) (all_held cache n c.requires.2), omega (arith, ap length is, order-length cache n, c.requires.3, c.put_heading.auto.text))

pub returns : goal.returns
returns c =
    let cache = c.args.cache.now in
    let n = length c.args.cells.now in
    let is : c.sort.new.row ≡ cell_order cache n = c.sort.ensures ∙ ap (ordered (before cache)) c.number.ensures in
    c.put_cells.ensures
    ∙ ap (λ (l : List ℕ). put l 68 (flatten (map (cell_text cache) c.sort.new.row))) c.put_heading.ensures
    ∙ ap (λ (l : List ℕ). put (put c.args.text.now 0 heading_text) 68 (flatten (map (cell_text cache) l))) is
    ∙ page-written c.args.text.now cache n (omega (arith, c.requires.3))
