-- What is true of texts written one after the other, or one over another.
use Rattle.std.proofs.Common.{◌≡◌, ℕ, suc, ◌+◌, ◌-◌, ◌<◌, ◌≤◌, List, [], ◌∷◌, ◌++◌, length, take, drop, set, replicate, sym, ap, ◌∙◌, append_assoc, append-nil, add-one, arith, length-append, length-take-le, take-take, drop-drop, take_at, drop_at}
use lib.ListN.{length-replicate, replicate-append-replicate}
use lib.Seq.{paste-zero, drop-length, take-append-le, set_split, append_snoc}
use Rattle.text.specs.Ascii.{blank}
use Rattle.text.specs.Writing.{put, Put, aligned}

pub put-length : (row : List ℕ) (at : ℕ) (t : List ℕ) → at + length t ≤ length row → length (take at row ++ t) ≡ at + length t
put-length row at t h =
    length-append (take at row) t ∙ ap (λ (k : ℕ). k + length t) (length-take-le at row (omega arith))

-- A text written behind another is both written.
pub put-put : (row : List ℕ) (at : ℕ) (t u : List ℕ) → at + length t ≤ length row → put (put row at t) (at + length t) u ≡ put row at (t ++ u)
put-put row at t u h =
    let front = take at row ++ t in
    let n = at + length t in
    let back = drop n row in
    let here : take n (front ++ back) ≡ front = take_at front back n (put-length row at t h) in
    let far : n + length u ≡ at + length (t ++ u) = omega (arith, length-append t u) in
    let there : drop (n + length u) (front ++ back) ≡ drop (at + length (t ++ u)) row =
    sym (drop-drop (length u) n (front ++ back))
    ∙ ap (drop (length u)) (drop_at front back n (put-length row at t h))
    ∙ drop-drop (length u) n row
    ∙ ap (λ (k : ℕ). drop k row) far in
    ap (λ (l : List ℕ). l ++ u ++ drop (n + length u) (front ++ back)) here
    ∙ ap (λ (l : List ℕ). front ++ u ++ l) there
    ∙ ap (λ (l : List ℕ). l ++ drop (at + length (t ++ u)) row) (append_assoc (take at row) t u)

-- The same of two calls, one after the other.
pub and_then : {row t u after last : List ℕ} {at a b : ℕ} → Put row at t after a → Put after a u last b → a ≤ length row → Put row at (t ++ u) last b
and_then {row} {t} {u} {after} {last} {at} {a} {b} p q h =
    record {
      ends = omega (arith, length-append t u, p.ends, q.ends);
      holds = q.holds ∙ ap (λ (l : List ℕ). put l a u) p.holds ∙ ap (λ (k : ℕ). put (put row at t) k u) p.ends
          ∙ put-put row at t u (omega (arith, p.ends));
    }

-- A byte written is a store.
pub put-set : (row : List ℕ) (at b : ℕ) → at < length row → set row at b ≡ put row at (b ∷ [])
put-set row at b h =
    set_split row at b h
    ∙ sym (append_snoc (take at row) b (drop (suc at) row))
    ∙ ap (λ (k : ℕ). take at row ++ (b ∷ []) ++ drop k row) (sym (add-one at))

-- The row up to the end of a text written into it.
pub put_front : {row text after : List ℕ} {at end : ℕ} → Put row at text after end → at + length text ≤ length row → take end after ≡ take at row ++ text
put_front {row} {text} {after} {at} {end} p h =
    ap (take end) p.holds
    ∙ take_at (take at row ++ text) (drop (at + length text) row) end (put-length row at text h ∙ sym p.ends)

-- Nothing written.
pub put-none : (row : List ℕ) (at : ℕ) → row ≡ put row at []
put-none row at = paste-zero row at []

-- A text written before another, up to where that begins, is both written.
pub put-before : (row : List ℕ) (at : ℕ) (t u : List ℕ) → at + length t + length u ≤ length row → put (put row (at + length t) u) at t ≡ put row at (t ++ u)
put-before row at t u h =
    let n = at + length t in
    let front : take at (put row n u) ≡ take at row =
    ap (take at) (append_assoc (take n row) u (drop (n + length u) row))
    ∙ take-append-le at (take n row) (u ++ drop (n + length u) row) (omega (arith, length-take-le n row (omega arith)))
    ∙ take-take at n row (omega arith) in
    let back : drop n (put row n u) ≡ u ++ drop (n + length u) row =
    ap (drop n) (append_assoc (take n row) u (drop (n + length u) row))
    ∙ drop_at (take n row) (u ++ drop (n + length u) row) n (length-take-le n row (omega arith)) in
    let far : n + length u ≡ at + length (t ++ u) = omega (arith, length-append t u) in
    ap (λ (l : List ℕ). l ++ t ++ drop n (put row n u)) front
    ∙ ap (λ (l : List ℕ). take at row ++ t ++ l) back
    ∙ sym (append_assoc (take at row ++ t) u (drop (n + length u) row))
    ∙ ap (λ (l : List ℕ). l ++ drop (n + length u) row) (append_assoc (take at row) t u)
    ∙ ap (λ (k : ℕ). take at row ++ (t ++ u) ++ drop k row) far

-- The row from a text on that ends it.
pub put_back : {row text after : List ℕ} {at end : ℕ} → Put row at text after end → end ≡ length row → drop at after ≡ text
put_back {row} {text} {after} {at} {end} p h =
    let here : length (take at row) ≡ at = length-take-le at row (omega (arith, p.ends)) in
    let past : drop (at + length text) row ≡ [] = ap (λ (k : ℕ). drop k row) (sym p.ends ∙ h) ∙ drop-length row in
    ap (drop at) (p.holds ∙ append_assoc (take at row) text (drop (at + length text) row))
    ∙ drop_at (take at row) (text ++ drop (at + length text) row) at here
    ∙ ap (λ (l : List ℕ). text ++ l) past ∙ append-nil text

-- A text written over one of its length.
put-over : (front old back : List ℕ) (at : ℕ) (t : List ℕ) → length front ≡ at → length old ≡ length t → put (front ++ old ++ back) at t ≡ front ++ t ++ back
put-over front old back at t h g =
    let here : take at (front ++ old ++ back) ≡ front =
    ap (take at) (append_assoc front old back) ∙ take_at front (old ++ back) at h in
    let there : drop (at + length t) (front ++ old ++ back) ≡ back =
    drop_at (front ++ old) back (at + length t) (omega (arith, length-append front old)) in
    ap (λ (l : List ℕ). l ++ t ++ drop (at + length t) (front ++ old ++ back)) here ∙ ap (λ (l : List ℕ). front ++ t ++ l) there

-- A text in a column has the column's width.
pub aligned-size : (width : ℕ) (t : List ℕ) → length t ≤ width → length (aligned width t) ≡ width
aligned-size width t h =
    length-append (replicate (width - length t) blank) t ∙ omega (arith, length-replicate (width - length t) blank)

-- A text written up to the end of an empty column stands in it.
put-aligned : (front back : List ℕ) (width at : ℕ) (t : List ℕ) → length t ≤ width → at + length t ≡ length front + width →
    put (front ++ aligned width [] ++ back) at t ≡ front ++ aligned width t ++ back
put-aligned front back width at t h g =
    let n = width - length t in
    let pad = replicate n blank in
    let old = replicate (length t) blank in
    let whole : width - 0 ≡ n + length t = omega arith in
    let empty : aligned width [] ≡ pad ++ old =
    append-nil (replicate (width - 0) blank) ∙ ap (λ (k : ℕ). replicate k blank) whole ∙ sym (replicate-append-replicate n (length t) blank) in
    ap (λ (l : List ℕ). put (l ++ back) at t) (ap (λ (l : List ℕ). front ++ l) empty ∙ sym (append_assoc front pad old))
    ∙ put-over (front ++ pad) old back at t (omega (arith, length-append front pad, length-replicate n blank)) (length-replicate (length t) blank)
    ∙ ap (λ (l : List ℕ). l ++ back) (append_assoc front pad t)

-- The same of two calls, the first for a line whose column is empty, with `front` before the column and `back` behind it.
pub in-column : {row t after last : List ℕ} {at end here there : ℕ} (line : List ℕ → List ℕ) (front back : List ℕ) (width : ℕ) →
    ((u : List ℕ) → line u ≡ front ++ aligned width u ++ back) →
    Put row at (line []) after end → Put after here t last there → length t ≤ width → there ≡ at + length front + width → end ≤ length row →
    Put row at (line t) last end
in-column {row} {t} {at = at} {end = end} {here = here} line front back width shape p q h g room =
    let size : (u : List ℕ) → length u ≤ width → length (line u) ≡ length front + width + length back =
    (λ u f. ap length (shape u) ∙ length-append (front ++ aligned width u) back ∙ omega (arith, length-append front (aligned width u), aligned-size width u f)) in
    let ends : end ≡ at + length (line t) = omega (arith, p.ends, size [] (omega arith), size t h) in
    let spread : (u : List ℕ) → end ≡ at + length (line u) → put row at (line u) ≡ take at row ++ front ++ aligned width u ++ (back ++ drop end row) =
    (λ u e. ap (λ (k : ℕ). take at row ++ line u ++ drop k row) (sym e) ∙ ap (λ (l : List ℕ). take at row ++ l ++ drop end row) (shape u) ∙ simp append_assoc) in
    record {
      ends = ends;
      holds = q.holds ∙ ap (λ (l : List ℕ). put l here t) (p.holds ∙ spread [] p.ends)
          ∙ put-aligned (take at row ++ front) (back ++ drop end row) width here t h (omega (arith, q.ends, length-append (take at row) front, length-take-le at row (omega (arith, p.ends))))
          ∙ sym (spread t ends);
    }
