-- Work with the text, from what its calls left of memory and of the text.
use Prim.Native.Nat.{ℕ, ◌≤◌, ◌<◌}
use mathlib.Core.Path.{◌≡◌, sym, ap, subst, ◌∙◌}
use mathlib.Core.Bool.{Bool, false, cond, ◌&&◌}
use mathlib.Core.List.{List, ◌++◌}
use native.Mathlib.Omega.{arith}
use lib.Dec.{leb, ltb}
use lib.ListN.{length, take, drop, set}
use lib.Seq.{length-take-le, take-take, take-set-lt}
use borrow.Author.Tests.{lt-ltb, le-ltb, le-leb, lt-leb}
use Rattle.board.specs.Next.{lent}
use Rattle.board.specs.Hex.{HexWritten, HexRead, HexWritePerformed, HexReadPerformed}
use Rattle.predicate.proofs.Bools.{passed_over, and_both, and-off-right}
use Rattle.script.specs.declared.TextWork.TheVariants as work
use Rattle.script.specs.declared.Shown.TheVariants.{Unknown, Nothing, Number}
use Rattle.damage.specs.Checksum.{checksum_of}
use Rattle.damage.specs.Damages.{answer_if}
use Rattle.session.specs.declared.desk.Rows.{Rows}
use Rattle.session.specs.declared.desk.Session.{Session}
use Rattle.session.specs.Session.{desk, board_of, desk_of}
use Rattle.session.specs.Lines.{done, text_row, byte_fits, worked}
use Rattle.session.proofs.Parts.{part-back}

module _ (s : Session) (rows : Rows) where
  -- Memory written into the first bytes of the text's array, once they are back.
  pub write-shown : (room number : ℕ) (filled left : List ℕ) → room ≤ 90200 → room ≤ length rows.text.now → length left ≡ length (take room rows.text.now) →
      filled ≡ text_row room → HexWritePerformed (take s.memory rows.memory.now) filled number left →
      done (desk (board_of s rows) (take room (left ++ drop room rows.text.now))) (Number number) (Number (checksum_of left)) ≡ worked (work.Write room) (desk_of s rows)
  write-shown room number filled left h within size e p =
      let b = board_of s rows in
      let made : HexWritePerformed b.memory (text_row room) number left =
      subst (λ (row : List ℕ). HexWritePerformed b.memory row number left) e p in
      ap (λ (x : List ℕ). done (desk b x) (Number number) (Number (checksum_of left))) (part-back room rows.text.now left within size)
      ∙ ap (λ (o : HexWritten). done (desk b o.text) (Number o.number) (Number (checksum_of o.text))) made
      ∙ sym (passed_over (ltb 90200 room) _ _ (le-ltb 90200 room h))

  -- A byte that can be put or not, and what is then shown.
  put_if : (i v : ℕ) (fits : Bool) → byte_fits (take s.text rows.text.now) i v ≡ fits →
      done (desk (board_of s rows) (cond fits (set (take s.text rows.text.now) i v) (take s.text rows.text.now))) (answer_if fits) Nothing ≡ worked (work.Put i v) (desk_of s rows)
  put_if i v fits e =
      sym (ap (λ (f : Bool). done (desk (board_of s rows) (cond f (set (take s.text rows.text.now) i v) (take s.text rows.text.now))) (answer_if f) Nothing) e)

  -- There is no such byte.
  pub put-past : (i v : ℕ) → s.text ≤ i → s.text ≤ length rows.text.now → done (desk_of s rows) Unknown Nothing ≡ worked (work.Put i v) (desk_of s rows)
  put-past i v h fits =
      put_if i v false
      (ap (λ (f : Bool). f && leb v 255) (le-ltb i (length (take s.text rows.text.now)) (omega (arith, length-take-le s.text rows.text.now fits))))

  -- It is no byte.
  pub put-large : (i v : ℕ) → 255 < v → done (desk_of s rows) Unknown Nothing ≡ worked (work.Put i v) (desk_of s rows)
  put-large i v h = put_if i v false (and-off-right (ltb i (length (take s.text rows.text.now))) (leb v 255) (lt-leb v 255 h))

  -- A byte of the text's array put.
  pub put-shown : (i v : ℕ) → i < s.text → s.text ≤ length rows.text.now → v ≤ 255 →
      done (desk (board_of s rows) (take s.text (set rows.text.now i v))) (Number 0) Nothing ≡ worked (work.Put i v) (desk_of s rows)
  put-shown i v h fits small =
      ap (λ (x : List ℕ). done (desk (board_of s rows) x) (Number 0) Nothing) (take-set-lt s.text rows.text.now i v h)
      ∙ put_if i v _ (and_both (ltb i (length (take s.text rows.text.now))) (leb v 255)
      (lt-ltb i (length (take s.text rows.text.now)) (omega (arith, length-take-le s.text rows.text.now fits))) (le-leb v 255 small))

  -- The first bytes of the text read into memory, once its words are back.
  pub read-shown : (n number : ℕ) (left : List ℕ) → n ≤ s.text → s.text ≤ length rows.text.now → s.memory ≤ length rows.memory.now → length left ≡ length (take s.memory rows.memory.now) →
      HexReadPerformed (take n rows.text.now) (take s.memory rows.memory.now) number left →
      done (desk (lent s.state (take s.memory (left ++ drop s.memory rows.memory.now)) (take s.cache rows.cache.now)) (take s.text rows.text.now))
      (Number number) Nothing ≡ worked (work.Read n) (desk_of s rows)
  read-shown n number left h fits within size p =
      let m = rows.memory.now in
      let text = take s.text rows.text.now in
      let made : HexReadPerformed (take n text) (take s.memory m) number left =
      subst (λ (x : List ℕ). HexReadPerformed x (take s.memory m) number left) (sym (take-take n s.text rows.text.now h)) p in
      ap (λ (x : List ℕ). done (desk (lent s.state x (take s.cache rows.cache.now)) text) (Number number) Nothing) (part-back s.memory m left within size)
      ∙ ap (λ (o : HexRead). done (desk (lent s.state o.row (take s.cache rows.cache.now)) text) (Number o.number) Nothing) made
      ∙ sym (passed_over (ltb (length text) n) _ _ (le-ltb (length text) n (omega (arith, length-take-le s.text rows.text.now fits))))
