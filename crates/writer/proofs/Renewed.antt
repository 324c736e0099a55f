-- The copy of a text is what its program is written as.
use Rattle.std.proofs.Common.{◌≡◌, ℕ, suc, ◌+◌, ◌-◌, ◌*◌, ◌<◌, ◌≤◌, Bool, true, false, ◌&&◌, eqb, leb, ◌⊎◌, List, [], ◌∷◌, ◌++◌, length, get_or, codes, decimal as digits_of, sym, refl, ap, ◌∙◌, inl, inr, suc-le-suc, zero-le, arith}
use Rattle.std.specs.List.{flat_map}
use Rattle.std.proofs.lemmas.List.{append_assoc, append-nil, length-append, get_or-append-add, get_or_at}
use Rattle.std.proofs.lemmas.Bool.{and_parts, cases_Bool, both_ways, eqb-true, eqb-false, le-leb}
use Rattle.std.proofs.lemmas.Bool.Decides.{nat_tests}
use Rattle.lanes.specs.Syntax.{Expr, Body, end, put, read_shared, write_shared, read_all, write_all, barrier, when, while, Program, ended}
use Rattle.lanes.specs.Told.{ExprFits, BodyFits}
use Rattle.grammar.specs.Spelling.{digit, word_byte, each_byte, decimal, IsName, SpellsExpr, SpellsBody, OwnLine, CellsLine, Spelled, Named}
use Rattle.grammar.proofs.Bytewise.{named-names}
use Rattle.writer.specs.Written.{written_expr, written_body, written, else_lines_spec, own_line, cells_line_spec}
use Rattle.writer.specs.Copy.{begins, zeros, left_out, copied, copy}
use Rattle.writer.proofs.Parses.{name-unlike}
use Rattle.writer.proofs.Spelt.{ended_is}
use Rattle.writer.proofs.Copies.{left-none}
use Rattle.writer.proofs.Same.{copied-own, copied-expr, copied-name, copied-number, copied-line, copied-other, begins-word}

-- nothing is left out before a name
name-stays : (a x : List ℕ) → IsName a → left_out (a ++ (codes " = " ++ x)) ≡ 0
unfolding each_byte
name-stays a x i =
    let n = name-unlike a i.free in
    sym (left-none (a ++ (codes " = " ++ x))
    (sym (begins-word (codes "else") _ a (codes " = " ++ x) 10 refl refl i.bytes refl n.elses))
    (sym (begins-word (codes "cells") [] a (codes " = " ++ x) 32 refl refl i.bytes refl n.cells)))

module _ (ns : List (List ℕ)) (names : (k : ℕ) → k < length ns → IsName (get_or ns k [])) where
  -- an expression and the end of its line
  expr_line : (e : Expr) (u y : List ℕ) → ExprFits (length ns) e → SpellsExpr (Named ns) e u → copied 0 false (u ++ (10 ∷ y)) ≡ written_expr ns e ++ (10 ∷ copy y)
  expr_line e u y f s = copied-expr ns names e u (10 ∷ y) f s refl ∙ ap (λ (x : List ℕ). written_expr ns e ++ x) (copied-line y)

  two_line : (e g : Expr) (u v y : List ℕ) → ExprFits (length ns) e → ExprFits (length ns) g → SpellsExpr (Named ns) e u → SpellsExpr (Named ns) g v →
      copied 0 false (u ++ (codes " = " ++ (v ++ (10 ∷ y)))) ≡ written_expr ns e ++ (codes " = " ++ (written_expr ns g ++ (10 ∷ copy y)))
  unfolding copied
  two_line e g u v y f h s r =
      copied-expr ns names e u (codes " = " ++ (v ++ (10 ∷ y))) f s refl ∙ ap (λ (x : List ℕ). written_expr ns e ++ (codes " = " ++ x)) (expr_line g v y h r)

  name_line : (k : ℕ) (a x : List ℕ) → Named ns k a → copy (a ++ (codes " = " ++ x)) ≡ get_or ns k [] ++ (codes " = " ++ copied 0 false x)
  unfolding copy copied
  name_line k a x h = rw (name-stays a x (named-names ns names k a h)) (copied-own ns names k a (codes " = " ++ x) h refl)

  -- lines that begin with a word of the language
  cell_line : (x : List ℕ) → copy (codes "cell " ++ x) ≡ codes "cell " ++ copied 0 false x
  unfolding copy copied left_out begins
  cell_line x = refl

  field_line : (x : List ℕ) → copy (codes "field " ++ x) ≡ codes "field " ++ copied 0 false x
  unfolding copy copied left_out begins
  field_line x = refl

  barrier_line : (x : List ℕ) → copy (codes "barrier" ++ (10 ∷ x)) ≡ codes "barrier" ++ (10 ∷ copy x)
  unfolding copy copied left_out begins
  barrier_line x = refl

  if_line : (x : List ℕ) → copy (codes "if " ++ x) ≡ codes "if " ++ copied 0 false x
  unfolding copy copied left_out begins
  if_line x = refl

  while_line : (x : List ℕ) → copy (codes "while " ++ x) ≡ codes "while " ++ copied 0 false x
  unfolding copy copied left_out begins
  while_line x = refl

  end_line : (x : List ℕ) → copy (codes "end" ++ (10 ∷ x)) ≡ codes "end" ++ (10 ∷ copy x)
  unfolding copy copied left_out begins
  end_line x = refl

  empty-line : (x : List ℕ) → copy (codes "else" ++ (10 ∷ (codes "end" ++ (10 ∷ x)))) ≡ codes "end" ++ (10 ∷ copy x)
  unfolding copy copied left_out begins
  empty-line x = refl

  else_line : (x : List ℕ) → begins (codes "end" ++ (10 ∷ [])) x ≡ false → copy (codes "else" ++ (10 ∷ x)) ≡ codes "else" ++ (10 ∷ copy x)
  unfolding copy copied left_out begins
  else_line x e = rw e

  -- the lines of a body that isn't empty begin with no end
  name-no-end : (k : ℕ) (a x : List ℕ) → Named ns k a → begins (codes "end" ++ (10 ∷ [])) (a ++ (codes " = " ++ x)) ≡ false
  unfolding each_byte
  name-no-end k a x h = let i = named-names ns names k a h in begins-word (codes "end") [] a (codes " = " ++ x) 10 refl refl i.bytes refl (name-unlike a i.free).ends

  no_end : (b : Body) (t x : List ℕ) → ended b ≡ false → SpellsBody (Named ns) b t → begins (codes "end" ++ (10 ∷ [])) (t ++ x) ≡ false
  unfolding SpellsBody ended begins
  no_end end t x h s = absurd (both_ways true h refl)
  no_end (put k e b) t x h (a, u, z, i, s, r, q) = rw (q, append_assoc a (codes " = " ++ (u ++ (10 ∷ z))) x) (name-no-end k a ((u ++ (10 ∷ z)) ++ x) i)
  no_end (read_shared k e b) t x h (a, u, z, i, s, r, q) = rw (q, append_assoc a (codes " = cell " ++ (u ++ (10 ∷ z))) x) (name-no-end k a ((codes "cell " ++ (u ++ (10 ∷ z))) ++ x) i)
  no_end (read_all k e b) t x h (a, u, z, i, s, r, q) = rw (q, append_assoc a (codes " = field " ++ (u ++ (10 ∷ z))) x) (name-no-end k a ((codes "field " ++ (u ++ (10 ∷ z))) ++ x) i)
  no_end (write_shared e f b) t x h (u, v, z, s, r, g, q) = rw q
  no_end (write_all e f b) t x h (u, v, z, s, r, g, q) = rw q
  no_end (barrier b) t x h (z, r, q) = rw q
  no_end (when e c d b) t x h (u, y, v, z, s, cs, o, r, q) = rw q
  no_end (while e c b) t x h (u, y, z, s, cs, ne, r, q) = rw q

  cell-word : (x : List ℕ) → copied 0 false (codes "cell " ++ x) ≡ codes "cell " ++ copied 0 false x
  unfolding copied
  cell-word x = refl

  field-word : (x : List ℕ) → copied 0 false (codes "field " ++ x) ≡ codes "field " ++ copied 0 false x
  unfolding copied
  field-word x = refl

  -- one expression, and what is behind its line
  behind : (e : Expr) (u y b : List ℕ) → ExprFits (length ns) e → SpellsExpr (Named ns) e u → copy y ≡ b → copied 0 false (u ++ (10 ∷ y)) ≡ written_expr ns e ++ (10 ∷ b)
  behind e u y b f s r = expr_line e u y f s ∙ ap (λ (x : List ℕ). written_expr ns e ++ (10 ∷ x)) r

  both_behind : (e g : Expr) (u v y b : List ℕ) → ExprFits (length ns) e → ExprFits (length ns) g → SpellsExpr (Named ns) e u → SpellsExpr (Named ns) g v → copy y ≡ b →
      copied 0 false (u ++ (codes " = " ++ (v ++ (10 ∷ y)))) ≡ written_expr ns e ++ (codes " = " ++ (written_expr ns g ++ (10 ∷ b)))
  both_behind e g u v y b f h s r q = two_line e g u v y f h s r ∙ ap (λ (x : List ℕ). written_expr ns e ++ (codes " = " ++ (written_expr ns g ++ (10 ∷ x)))) q

  nothing : (d : Body) (v : List ℕ) → ended d ≡ true → SpellsBody (Named ns) d v → v ≡ []
  unfolding SpellsBody
  nothing d v e s = let t : SpellsBody (Named ns) end v = rw (ended_is d e) at s in t

  -- an else, or none, before the end of an if
  else-copied : (d : Body) (y x : List ℕ) → (((d ≡ end) × (y ≡ [])) ⊎ ((v : List ℕ) × SpellsBody (Named ns) d v × (y ≡ codes "else" ++ (10 ∷ v)))) →
      ((v x : List ℕ) → SpellsBody (Named ns) d v → copy (v ++ x) ≡ written_body ns d ++ copy x) →
      copy (y ++ (codes "end" ++ (10 ∷ x))) ≡ else_lines_spec d (written_body ns d) ++ (codes "end" ++ (10 ∷ copy x))
  unfolding ended SpellsBody
  else-copied d y x (inl p) f = rw (p.0, p.1) (end_line x)
  else-copied d y x (inr (v, s, q)) f =
      elim (cases_Bool (ended d)) [
        | inl e ↦ rw (q, e) (rw (nothing d v e s) (empty-line x))
        | inr e ↦ rw (q, e) (else_line (v ++ (codes "end" ++ (10 ∷ x))) (no_end d v (codes "end" ++ (10 ∷ x)) e s)
            ∙ ap (λ (z : List ℕ). codes "else" ++ (10 ∷ z)) (f v (codes "end" ++ (10 ∷ x)) s ∙ ap (λ (z : List ℕ). written_body ns d ++ z) (end_line x)))
      ]

  copy_body : (b : Body) (t w : List ℕ) → BodyFits (length ns) b → SpellsBody (Named ns) b t → copy (t ++ w) ≡ written_body ns b ++ copy w
  unfolding BodyFits SpellsBody written_body
  copy_body end t w f s = rw s
  copy_body (put k e b) t w f (a, u, z, i, s, r, q) =
      rw q (simp append_assoc (name_line k a (u ++ (10 ∷ (z ++ w))) i ∙ ap (λ (x : List ℕ). get_or ns k [] ++ (codes " = " ++ x)) (behind e u (z ++ w) _ f.1 s (copy_body b z w f.2 r))))
  copy_body (read_shared k e b) t w f (a, u, z, i, s, r, q) =
      rw q (simp append_assoc (name_line k a (codes "cell " ++ (u ++ (10 ∷ (z ++ w)))) i
      ∙ ap (λ (x : List ℕ). get_or ns k [] ++ (codes " = " ++ x)) (cell-word (u ++ (10 ∷ (z ++ w))) ∙ ap (λ (x : List ℕ). codes "cell " ++ x) (behind e u (z ++ w) _ f.1 s (copy_body b z w f.2 r)))))
  copy_body (read_all k e b) t w f (a, u, z, i, s, r, q) =
      rw q (simp append_assoc (name_line k a (codes "field " ++ (u ++ (10 ∷ (z ++ w)))) i
      ∙ ap (λ (x : List ℕ). get_or ns k [] ++ (codes " = " ++ x)) (field-word (u ++ (10 ∷ (z ++ w))) ∙ ap (λ (x : List ℕ). codes "field " ++ x) (behind e u (z ++ w) _ f.1 s (copy_body b z w f.2 r)))))
  copy_body (write_shared e g b) t w f (u, v, z, s, r, i, q) =
      rw q (simp append_assoc (cell_line (u ++ (codes " = " ++ (v ++ (10 ∷ (z ++ w))))) ∙ ap (λ (x : List ℕ). codes "cell " ++ x) (both_behind e g u v (z ++ w) _ f.0 f.1 s r (copy_body b z w f.2 i))))
  copy_body (write_all e g b) t w f (u, v, z, s, r, i, q) =
      rw q (simp append_assoc (field_line (u ++ (codes " = " ++ (v ++ (10 ∷ (z ++ w))))) ∙ ap (λ (x : List ℕ). codes "field " ++ x) (both_behind e g u v (z ++ w) _ f.0 f.1 s r (copy_body b z w f.2 i))))
  copy_body (barrier b) t w f (z, r, q) = rw q (barrier_line (z ++ w) ∙ ap (λ (x : List ℕ). codes "barrier" ++ (10 ∷ x)) (copy_body b z w f r))
  copy_body (when e c d b) t w f (u, x, y, z, s, cs, o, r, q) =
      rw q (simp append_assoc (if_line (u ++ (10 ∷ (x ++ (y ++ (codes "end" ++ (10 ∷ (z ++ w)))))))
      ∙ ap (λ (m : List ℕ). codes "if " ++ m) (behind e u (x ++ (y ++ (codes "end" ++ (10 ∷ (z ++ w))))) _ f.0 s
      (copy_body c x (y ++ (codes "end" ++ (10 ∷ (z ++ w)))) f.1 cs
      ∙ ap (λ (m : List ℕ). written_body ns c ++ m) (else-copied d y (z ++ w) o (λ v x i. copy_body d v x f.2 i)
      ∙ ap (λ (m : List ℕ). else_lines_spec d (written_body ns d) ++ (codes "end" ++ (10 ∷ m))) (copy_body b z w f.3 r))))))
  copy_body (while e c b) t w f (u, x, z, s, cs, ne, r, q) =
      rw q (simp append_assoc (while_line (u ++ (10 ∷ (x ++ (codes "end" ++ (10 ∷ (z ++ w))))))
      ∙ ap (λ (m : List ℕ). codes "while " ++ m) (behind e u (x ++ (codes "end" ++ (10 ∷ (z ++ w)))) _ f.0 s
      (copy_body c x (codes "end" ++ (10 ∷ (z ++ w))) f.1 cs
      ∙ ap (λ (m : List ℕ). written_body ns c ++ m) (end_line (z ++ w) ∙ ap (λ (m : List ℕ). codes "end" ++ (10 ∷ m)) (copy_body b z w f.3 r))))))

  -- nothing is left out where a body begins
  body-stays : (b : Body) (t : List ℕ) → SpellsBody (Named ns) b t → left_out t ≡ 0
  unfolding SpellsBody left_out begins
  body-stays end t s = rw s
  body-stays (put k e b) t (a, u, z, i, s, r, q) = rw q (name-stays a (u ++ (10 ∷ z)) (named-names ns names k a i))
  body-stays (read_shared k e b) t (a, u, z, i, s, r, q) = rw q (name-stays a (codes "cell " ++ (u ++ (10 ∷ z))) (named-names ns names k a i))
  body-stays (read_all k e b) t (a, u, z, i, s, r, q) = rw q (name-stays a (codes "field " ++ (u ++ (10 ∷ z))) (named-names ns names k a i))
  body-stays (write_shared e f b) t (u, v, z, s, r, g, q) = rw q
  body-stays (write_all e f b) t (u, v, z, s, r, g, q) = rw q
  body-stays (barrier b) t (z, r, q) = rw q
  body-stays (when e c d b) t (u, y, v, z, s, cs, o, r, q) = rw q
  body-stays (while e c b) t (u, y, z, s, cs, ne, r, q) = rw q

-- the names of the own line
apart-names : (ms : List (List ℕ)) (x : List ℕ) → word_byte (get_or (flat_map (λ u. 32 ∷ u) ms ++ (10 ∷ x)) 0 0) ≡ false
apart-names [] x = refl
apart-names (u ∷ ms) x = refl

names-copied : (ms : List (List ℕ)) (x : List ℕ) → ((k : ℕ) → k < length ms → IsName (get_or ms k [])) → copied 0 false (flat_map (λ u. 32 ∷ u) ms ++ (10 ∷ x)) ≡ flat_map (λ u. 32 ∷ u) ms ++ (10 ∷ copy x)
names-copied [] x i = copied-line x
names-copied (u ∷ ms) x i =
    let r = names-copied ms x (λ k h. i (suc k) (suc-le-suc h)) in
    rw (append_assoc u (flat_map (λ v. 32 ∷ v) ms) (10 ∷ x), append_assoc u (flat_map (λ v. 32 ∷ v) ms) (10 ∷ copy x))
    (copied-other 32 (u ++ (flat_map (λ v. 32 ∷ v) ms ++ (10 ∷ x))) refl refl
    ∙ ap (λ (y : List ℕ). 32 ∷ y) (copied-name u (flat_map (λ v. 32 ∷ v) ms ++ (10 ∷ x)) (i 0 (suc-le-suc zero-le)) (apart-names ms x) ∙ ap (λ (y : List ℕ). u ++ y) r))

own-word : (u : List ℕ) (ms : List (List ℕ)) (x : List ℕ) → copy (codes "own" ++ (flat_map (λ v. 32 ∷ v) (u ∷ ms) ++ (10 ∷ x))) ≡ codes "own" ++ copied 0 false (flat_map (λ v. 32 ∷ v) (u ∷ ms) ++ (10 ∷ x))
unfolding copy copied left_out begins
own-word u ms x = refl

own-copied : (ns : List (List ℕ)) (t x : List ℕ) → ((k : ℕ) → k < length ns → IsName (get_or ns k [])) → OwnLine ns t → copy (t ++ x) ≡ own_line ns ++ copy x
own-copied ns t x i (inl p) = rw (p.1, p.0)
own-copied [] t x i (inr p) = absurd (p.0 refl)
own-copied (u ∷ ms) t x i (inr p) =
    rw (p.1, append_assoc (flat_map (λ v. 32 ∷ v) (u ∷ ms)) (10 ∷ []) x, append_assoc (flat_map (λ v. 32 ∷ v) (u ∷ ms)) (10 ∷ []) (copy x))
    (own-word u ms x ∙ ap (λ (y : List ℕ). codes "own" ++ y) (names-copied (u ∷ ms) x i))

-- zeros
grows : (a : ℕ) (u : List ℕ) → a ≤ decimal a u
unfolding decimal
grows a [] = omega arith
grows a (b ∷ u) = let r = grows (a * 10 + (b - 48)) u in omega arith

all-zero : (u x : List ℕ) → each_byte digit u ≡ true → decimal 0 u ≡ 0 → zeros (u ++ (10 ∷ x)) ≡ length u
unfolding zeros each_byte decimal
all-zero [] x d e = refl
all-zero (b ∷ u) x d e =
    let p = and_parts (digit b) (each_byte digit u) d in
    let g = grows (0 * 10 + (b - 48)) u in
    let low : 48 ≤ b = digit_low b p.0 in
    let is : b ≡ 48 = omega arith in
    let none : 0 * 10 + (b - 48) ≡ 0 = omega arith in
    rw is (ap suc (all-zero u x p.1 (sym (ap (λ (y : ℕ). decimal y u) none) ∙ e)))
  where
    digit_low : (b : ℕ) → digit b ≡ true → 48 ≤ b
    digit_low b e = grind (arith, nat_tests)

some-digit : (u x : List ℕ) → each_byte digit u ≡ true → (decimal 0 u ≡ 0 → ⊥) → eqb (get_or (u ++ (10 ∷ x)) (zeros (u ++ (10 ∷ x))) 0) 10 ≡ false
unfolding zeros each_byte decimal
some-digit [] x d e = absurd (e refl)
some-digit (b ∷ u) x d e =
    let p = and_parts (digit b) (each_byte digit u) d in
    elim (cases_Bool (eqb b 48)) [
      | inl z ↦
          let is : b ≡ 48 = eqb-true b 48 z in
          let none : 0 * 10 + (b - 48) ≡ 0 = omega arith in
          rw z (some-digit u x p.1 (λ q. e (ap (λ (y : ℕ). decimal y u) none ∙ q)))
      | inr z ↦ rw z (digit-flat b p.0)
    ]
  where
    digit-flat : (b : ℕ) → digit b ≡ true → eqb b 10 ≡ false
    digit-flat b e = grind (arith, nat_tests)

-- bytes that are left out
skipped : (p x : List ℕ) (w : Bool) → copied (length p) w (p ++ x) ≡ copied 0 w x
unfolding copied
skipped [] x w = refl
skipped (b ∷ p) x w = skipped p x w

behind-cells : (u : List ℕ) (n : ℕ) → get_or (codes "cells " ++ u) (6 + n) 0 ≡ get_or u n 0
behind-cells u n = get_or-append-add (codes "cells ") u n 0

cells_out : (u x : List ℕ) → 1 ≤ length u → zeros (u ++ (10 ∷ x)) ≡ length u → left_out (codes "cells " ++ (u ++ (10 ∷ x))) ≡ 7 + length u
unfolding left_out begins
cells_out u x s z = rw (z, le-leb 1 (length u) s, behind-cells (u ++ (10 ∷ x)) (length u), get_or_at u 10 x 0 (length u) refl)

cells_stay : (u x : List ℕ) → eqb (get_or (u ++ (10 ∷ x)) (zeros (u ++ (10 ∷ x))) 0) 10 ≡ false → left_out (codes "cells " ++ (u ++ (10 ∷ x))) ≡ 0
unfolding left_out begins
cells_stay u x e = rw (behind-cells (u ++ (10 ∷ x)) (zeros (u ++ (10 ∷ x))), e, and_no (leb 1 (zeros (u ++ (10 ∷ x)))))
  where
    and_no : (b : Bool) → (b && false) ≡ false
    and_no true = refl
    and_no false = refl

cells-word : (x : List ℕ) → copied 0 false (codes "cells " ++ x) ≡ codes "cells " ++ copied 0 false x
unfolding copied
cells-word x = refl

cells-copied : (s : ℕ) (t x : List ℕ) → s ≤ 16384 → CellsLine s t → left_out x ≡ 0 → copy (t ++ x) ≡ cells_line_spec s ++ copy x
unfolding copy
cells-copied s t x h (inl p) o = rw (p.1, p.0)
cells-copied s t x h (inr (u, i, q)) o =
    elim (cases_Bool (eqb s 0)) [
      | inl e ↦
          let z : zeros (u ++ (10 ∷ x)) ≡ length u = all-zero u x i.bytes (i.value ∙ eqb-true s 0 e) in
          rw (q, e, append_assoc u (10 ∷ []) x, cells_out u x i.some z, o) (whole-line u x)
      | inr e ↦
          let z = some-digit u x i.bytes (λ k. eqb-false s 0 e (sym i.value ∙ k)) in
          rw (q, e, append_assoc u (10 ∷ []) x, cells_stay u x z)
          (cells-word (u ++ (10 ∷ x)) ∙ ap (λ (y : List ℕ). codes "cells " ++ y)
          (copied-number u (10 ∷ x) i.some i.bytes (omega (arith, i.value)) refl ∙ (ap (λ (y : ℕ). digits_of y ++ copied 0 false (10 ∷ x)) i.value ∙ (ap (λ (y : List ℕ). digits_of s ++ y) (copied-line x) ∙ sym (append_assoc (digits_of s) (10 ∷ []) _)))))
    ]
  where
    whole-line : (u x : List ℕ) → copied (7 + length u) false (codes "cells " ++ (u ++ (10 ∷ x))) ≡ copied 0 false x
    whole-line u x = ap (λ (k : ℕ). copied k false (codes "cells " ++ (u ++ (10 ∷ x)))) (long u) ∙ (ap (λ (y : List ℕ). copied (length (codes "cells " ++ (u ++ (10 ∷ [])))) false (codes "cells " ++ y)) (sym (append_assoc u (10 ∷ []) x)) ∙ skipped (codes "cells " ++ (u ++ (10 ∷ []))) x false)
      where
        long : (u : List ℕ) → 7 + length u ≡ length (codes "cells " ++ (u ++ (10 ∷ [])))
        long u = simp length-append (omega arith)

pub renewed : (ns : List (List ℕ)) (p : Program) (text : List ℕ) → p.shared ≤ 16384 → BodyFits p.owns p.body → Spelled (Named ns) ns p text → copy text ≡ written ns p
unfolding written copy written_body copied
renewed ns p text c f s =
    let fits : BodyFits (length ns) p.body = rw s.owned at f in
    rw s.whole
    (own-copied ns s.own_part (s.cells_part ++ s.body_part) s.names s.own_line
    ∙ ap (λ (y : List ℕ). own_line ns ++ y) (cells-copied p.shared s.cells_part s.body_part c s.cells_line (body-stays ns s.names p.body s.body_part s.body)
    ∙ ap (λ (y : List ℕ). cells_line_spec p.shared ++ y) (ap copy (sym (append-nil s.body_part)) ∙ (copy_body ns s.names p.body s.body_part [] fits s.body ∙ append-nil (written_body ns p.body)))))
