-- The cause table read both ways, and a format's start in plain numbers.
use Prim.Native.Nat.{ℕ}
use mathlib.Core.Path.{◌≡◌, refl, sym, ap, ◌∙◌}
use mathlib.Core.Logic.{◌⊎◌, inl, inr, ⊎_elim}
use mathlib.Core.List.Memᴰ
use mathlib.Core.List.{List, [], ◌∷◌}
use mathlib.Core.Bool.{false, cond}
use Rattle.board.specs.declared.Call.TheVariants.{FormatStart}
use Rattle.board.specs.Board.{Board, shaped}
use Rattle.board.specs.Causes.{Cause, causes, first_standing, cause}
use Rattle.board.specs.Next.{Taken}
use Rattle.board.specs.Steps.{NoneStands, StandsFirst, TableBothWays, Formattable, FormatStarts}
use Rattle.predicate.proofs.Bools.{split, chosen, passed_over}
use Rattle.board.proofs.Invariant.{Lengths}
use Rattle.board.proofs.Laws.Taken.{Clear, stands_at, passed, first-clear, table-numbered, take, refused-next, shape-in, in-shape, limits-in, in-limits, rows-fine}
use Rattle.board.proofs.Format.Board.{start-sizes}

-- ---- no line stands

-- No line stands, read line by line.
clear_none : (ks : List Cause) → Clear ks → NoneStands ks
unfolding Clear
clear_none [] c r m = absurd (Memᴰ.not-nil m)
clear_none (k ∷ ks) c r m = ⊎_elim (λ e. ap (λ (x : Cause). x.stands) e ∙ c.0) (λ d. clear_none ks c.1 r d) (Memᴰ.cases_cons m)

-- The other way round.
none-clear : (ks : List Cause) → NoneStands ks → Clear ks
unfolding Clear
none-clear [] n = tt
none-clear (k ∷ ks) n = (n k (Memᴰ.head refl), none-clear ks (λ r m. n r (Memᴰ.tail m)))

-- ---- the first line that stands

-- Where no number is given but 0, no line stands; else the first line that stands has the number given.
first-stands : (ks : List Cause) → Clear ks ⊎ StandsFirst (first_standing ks) ks
unfolding Clear first_standing
first-stands [] = inl tt
first-stands (k ∷ ks) =
    split k.stands
    (λ on. inr (record { before = []; first = k; rest = ks; parts = refl; clear = λ r m. absurd (Memᴰ.not-nil m); stands = on; number = sym (chosen k.stands k.number (first_standing ks) on) }))
    (λ off. ⊎_elim (λ c. inl (off, c)) (λ f. inr (later off f)) (first-stands ks))
  where
    later : k.stands ≡ false → StandsFirst (first_standing ks) ks → StandsFirst (cond k.stands k.number (first_standing ks)) (k ∷ ks)
    later off f =
        record {
          before = k ∷ f.before;
          first = f.first;
          rest = f.rest;
          parts = ap (λ (xs : List Cause). k ∷ xs) f.parts;
          clear = λ r m. ⊎_elim (λ e. ap (λ (x : Cause). x.stands) e ∙ off) (f.clear r) (Memᴰ.cases_cons m);
          stands = f.stands;
          number = f.number ∙ sym (passed_over k.stands k.number (first_standing ks) off);
        }

-- ---- the table

-- A call is taken exactly when no line of its table stands, and else refused by the first that does.
pub table-both-ways : TableBothWays
unfolding cause
table-both-ways k b =
    record {
      taken = (λ t. clear_none (causes k b) (first-clear (causes k b) (table-numbered k b) t), λ n. take k b (none-clear (causes k b) n));
      refused = λ o. ⊎_elim (λ c. absurd (o (take k b c))) (λ f. f) (first-stands (causes k b));
      kept = refused-next k b;
    }

-- ---- format's start

-- Within 01's limits and with rows that fit, a format starts on any board.
formattable-taken : (l w : ℕ) (b : Board) → Formattable l w b → Taken (FormatStart l w) b
unfolding Clear causes
formattable-taken l w b f =
    let shape = in-shape (shaped l) f.lines_within in
    let workers = f.workers_within in
    let lengths : Lengths (shaped l) b.memory b.cache = record { limits = shape; memory = record { size = f.memory }; cache = record { size = f.cache } } in
    take (FormatStart l w) b (in-limits (shaped l) w shape workers.0 workers.1 workers.2, (rows-fine (shaped l) b lengths, tt))

-- A format that starts has them.
taken-formattable : (l w : ℕ) (b : Board) → Taken (FormatStart l w) b → Formattable l w b
unfolding stands_at causes
taken-formattable l w b t =
    let limits = limits-in (shaped l) w (passed (FormatStart l w) b t 1) in
    let z = start-sizes l w b t in
    record {
      lines_within = shape-in (shaped l) limits.shape;
      workers_within = (limits.some, limits.eight, limits.fewer);
      memory = z.memory.size;
      cache = z.cache.size;
    }

pub format-starts : FormatStarts
format-starts l w b = (taken-formattable l w b, formattable-taken l w b)
